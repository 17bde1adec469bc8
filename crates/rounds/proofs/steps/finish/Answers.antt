-- `rounds::steps::finish` meets its contract.
-- Assumes nothing.
use Rattle.rounds.proofs.Running.{one_served, then_ran}
use Rattle.rounds.proofs.steps.finish.Goals as goal

pub returns : goal.returns
returns c =
    then_ran (one_served c.release_at.result c.release_at.ensures c.is_ok-released.ensures.value) c.redirect_all-told.ensures
