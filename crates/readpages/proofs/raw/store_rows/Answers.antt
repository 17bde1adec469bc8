use Rattle.readpages.proofs.Filling.{fill_none, fill_length, fill_more, fill_end, fill_fails}
use native.Mathlib.Omega.{arith}
use Rattle.readpages.proofs.raw.store_rows.Goals as goal

pub loop-i-init : goal.loop-i-init
loop-i-init c =
    fill_none _ _ _

pub row_place-requires : goal.row_place-requires
row_place-requires c =
    omega (arith, c.requires.0, c.loop-i-test.true)

pub store_row-requires : goal.store_row-requires
store_row-requires c = (
  omega (arith, c.row_place.ensures, c.requires.1 _ c.loop-i-test.true),
  omega (arith, c.loop-i-test.true, fill_length c.loop-i.invariant (omega (arith, c.requires.2)), c.requires.2),
)

pub shape_of-block-in_default : goal.shape_of-block-in_default
shape_of-block-in_default c =
    omega (arith, c.store_row.auto.block, fill_length c.loop-i.invariant (omega (arith, c.requires.2)))

pub returns-in_default : goal.returns-in_default
returns-in_default c =
    fill_fails c.loop-i.invariant c.loop-i-test.true (rw (c.in_default.is, c.row_place.ensures) at c.store_row.ensures)

pub loop-i-preserved : goal.loop-i-preserved
loop-i-preserved c =
    fill_more c.loop-i.invariant c.loop-i-test.true (omega (arith, c.requires.2)) (rw (c.in-Some.is, c.row_place.ensures) at c.store_row.ensures)

pub shape_of-block : goal.shape_of-block
shape_of-block c =
    fill_length c.loop-i.invariant (omega (arith, c.requires.2))

pub returns : goal.returns
returns c =
    fill_end c.loop-i.invariant c.loop-i-test.false
