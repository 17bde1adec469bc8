-- `rounds::steps::redirect_at` meets its contract.
-- Assumes nothing.
use Rattle.std.proofs.Common.{rules}
use Rattle.model.specs.Calls.{redirect}
use Rattle.model.specs.DividedRun.{redirecting}
use Rattle.redirect.proofs.Answered.{size_refused}
use Rattle.rounds.proofs.Stepping.{does_call, none_sized, redirect_does}
use Rattle.rounds.proofs.steps.redirect_at.Goals as goal

pub returns : goal.returns
returns c =
    let message = c.args.message.now in
    c.call_at.ensures (redirecting message)
    (does_call _ (λ l x. redirect l x message) (redirect_does message) (λ l. size_refused l _ _ (none_sized l)) (λ m m' r k. rw (← k.shows, ← k.leaves) (search rules)))
