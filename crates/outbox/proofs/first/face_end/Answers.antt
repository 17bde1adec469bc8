-- `outbox::first::face_end` meets its contract: another face follows, or none does. Assumes nothing.
use Rattle.outbox.proofs.BytesLaws.{ends_next, ends_last}
use native.Mathlib.Omega.{arith}
use Rattle.outbox.proofs.first.face_end.Goals as goal

pub returns-then-f-count : goal.returns-then-f-count
returns-then-f-count c =
    ends_next c.args.starts.now _ _ _ c.if-f-count.true

pub returns : goal.returns
returns c =
    ends_last c.args.starts.now c.args.count c.args.darts c.args.f (omega (arith, c.if-f-count.false))
