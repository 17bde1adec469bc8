use native.Mathlib.Omega.{arith}
use Rattle.groups.proofs.Writing.{stored_none}
use Rattle.groups.proofs.Coordinates.{bytes_more, bytes_all}
use Rattle.groups.proofs.put_word_across.Goals as goal

pub loop-b-init : goal.loop-b-init
loop-b-init c =
    (omega arith, stored_none _ _)

pub loop-b-preserved : goal.loop-b-preserved
loop-b-preserved c =
    (omega (arith, c.put_byte-p.ensures.past, c.loop-b.invariant.0), bytes_more _ _ c.loop-b.invariant.1 (rw c.to_le_bytes-b-items.ensures c.loop-b-test.true) c.put_byte-p.ensures)

pub returns : goal.returns
returns c =
    bytes_all _ _ _ c.loop-b.invariant.1 c.loop-b-test.false c.to_le_bytes-b-items.ensures
