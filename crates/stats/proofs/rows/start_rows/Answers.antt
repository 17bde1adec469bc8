use Rattle.stats.proofs.CountLaws.{heading_start, heading_more, heading_all}
use native.Mathlib.Omega.{arith}
use Rattle.stats.proofs.rows.start_rows.Goals as goal

pub loop-i-init : goal.loop-i-init
loop-i-init c =
    (omega arith, heading_start _ _ _)

pub first_word-requires : goal.first_word-requires
first_word-requires c =
    (omega arith, omega arith, c.requires.by_index _ c.loop-i-test.true)

pub offset_bounds-rows-i : goal.offset_bounds-rows-i
offset_bounds-rows-i c =
    omega arith

pub bounds-rows-i : goal.bounds-rows-i
bounds-rows-i c =
    omega (arith, c.loop-i.invariant.1.len)

pub loop-i-preserved : goal.loop-i-preserved
loop-i-preserved c =
    (omega arith, heading_more c.loop-i.invariant.1 (omega arith) c.first_word.ensures)

pub shape_of-rows : goal.shape_of-rows
shape_of-rows c =
    c.loop-i.invariant.1.len

pub returns : goal.returns
returns c =
    heading_all c.loop-i.invariant.1 (omega arith)
