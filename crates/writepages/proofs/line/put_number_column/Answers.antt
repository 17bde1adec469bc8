use mathlib.Core.Path.{refl}
use Rattle.groups.proofs.Writing.{stored_length}
use Rattle.writepages.proofs.Columns.{aligning_start, some_left, aligning_fits, aligning_step, aligning_blanks, aligning_end}
use native.Mathlib.Omega.{arith}
use Rattle.writepages.proofs.line.put_number_column.Goals as goal

pub loop-x-init : goal.loop-x-init
loop-x-init c =
    aligning_start _ _ _ c.requires.0 c.requires.1

pub overflow_sub-p : goal.overflow_sub-p
overflow_sub-p c =
    omega (arith, some_left c.loop-x.invariant)

pub bounds-out-p : goal.bounds-out-p
bounds-out-p c =
    aligning_fits c.loop-x.invariant

pub loop-x-preserved : goal.loop-x-preserved
loop-x-preserved c =
    aligning_step c.loop-x.invariant c.loop-x-test.true

pub overflow_sub-p-2 : goal.overflow_sub-p-2
overflow_sub-p-2 c =
    omega (arith, some_left c.loop-x.invariant)

pub bounds-out-p-2 : goal.bounds-out-p-2
bounds-out-p-2 c =
    aligning_fits c.loop-x.invariant

pub overflow_sub-p-3 : goal.overflow_sub-p-3
overflow_sub-p-3 c =
    omega (arith, some_left c.loop-x.invariant)

pub put_blanks-requires : goal.put_blanks-requires
put_blanks-requires c =
    aligning_blanks c.loop-x.invariant _

pub shape_of-out : goal.shape_of-out
shape_of-out c =
    stored_length (aligning_end c.loop-x.invariant c.loop-x-test.false c.requires.0 refl c.put_blanks.ensures)

pub returns : goal.returns
returns c =
    aligning_end c.loop-x.invariant c.loop-x-test.false c.requires.0 refl c.put_blanks.ensures
