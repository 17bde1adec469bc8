-- `rounds::steps::redirect_message` meets its contract.
-- Assumes nothing.
use Rattle.rounds.proofs.Running.{one_served, redirected}
use Rattle.rounds.proofs.steps.redirect_message.Goals as goal

pub returns : goal.returns
returns c =
    one_served c.redirect_at.result (redirected c.addressee-b.ensures c.redirect_at.ensures) c.is_ok.ensures.value
