-- `rounds::steps::receive_at` meets its contract.
-- Assumes nothing.
use Rattle.std.proofs.Common.{rules}
use Rattle.model.specs.Calls.{receive}
use Rattle.model.specs.DividedRun.{receiving}
use Rattle.receive.proofs.Answered.{size_refused}
use Rattle.rounds.proofs.Stepping.{does_call, none_sized, receive_does}
use Rattle.rounds.proofs.steps.receive_at.Goals as goal

pub returns : goal.returns
returns c =
    let message = c.args.message.now in
    c.call_at.ensures (receiving message)
    (does_call _ (λ l x. receive l x message) (receive_does message) (λ l. size_refused l _ _ (none_sized l)) (λ m m' r k. rw (← k.shows, ← k.leaves) (search rules)))
