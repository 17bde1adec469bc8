-- `rounds::steps::release_at` meets its contract.
-- Assumes nothing.
use Rattle.std.proofs.Common.{rules}
use Rattle.model.specs.Calls.{release}
use Rattle.model.specs.DividedRun.{releasing}
use Rattle.release.proofs.LettingGo.{size_refused}
use Rattle.rounds.proofs.Stepping.{does_call, none_sized, release_does}
use Rattle.rounds.proofs.steps.release_at.Goals as goal

pub returns : goal.returns
returns c =
    let to = c.args.to in
    let serial = c.args.serial in
    c.call_at.ensures (releasing to serial)
    (does_call _ (λ l x. release l x to serial) (release_does to serial) (λ l. size_refused _ _ _ l (none_sized l)) (λ m m' r k. rw (← k.shows, ← k.leaves) (search rules)))
