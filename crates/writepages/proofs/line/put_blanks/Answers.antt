use Prim.Native.Nat.{ℕ}
use lib.ListN.{length-replicate}
use Rattle.groups.proofs.Writing.{stored_length}
use Rattle.listing.proofs.Copies.{copy_none}
use Rattle.writepages.proofs.Columns.{blank_fits, blank_more, blank_all}
use native.Mathlib.Omega.{arith}
use Rattle.writepages.proofs.line.put_blanks.Goals as goal

pub loop-i-init : goal.loop-i-init
loop-i-init c =
    copy_none _ _ _ (omega (arith, c.requires, length-replicate {A = ℕ} c.args.n 32))

pub bounds-out-at : goal.bounds-out-at
bounds-out-at c =
    blank_fits c.args.n c.loop-i.invariant c.loop-i-test.true

pub loop-i-preserved : goal.loop-i-preserved
loop-i-preserved c =
    blank_more c.args.n c.loop-i.invariant c.loop-i-test.true

pub overflow_add-result : goal.overflow_add-result
overflow_add-result c =
    omega (arith, c.loop-i.invariant.i_le, c.loop-i.invariant.fits, length-replicate {A = ℕ} c.args.n 32)

pub shape_of-out : goal.shape_of-out
shape_of-out c =
    stored_length c.loop-i.invariant.stored

pub returns : goal.returns
returns c =
    blank_all c.args.n c.loop-i.invariant c.loop-i-test.false
