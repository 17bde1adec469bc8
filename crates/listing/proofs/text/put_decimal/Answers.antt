use mathlib.Core.Path.{ap}
use Prim.Native.Nat.{ℕ, ◌+◌}
use Rattle.groups.proofs.Writing.{stored_length}
use Rattle.listing.proofs.Digits.{spelling_start, some_left, spelling_step, spelling_end}
use native.Mathlib.Omega.{arith}
use Rattle.listing.proofs.text.put_decimal.Goals as goal

pub loop-x-init : goal.loop-x-init
loop-x-init c =
    spelling_start _ _ _ _ c.requires.0 (ap (λ (k : ℕ). c.args.at + k) c.digit_count.ensures) c.requires.1

pub overflow_sub-p : goal.overflow_sub-p
overflow_sub-p c =
    omega (arith, some_left c.loop-x.invariant)

pub bounds-out-p : goal.bounds-out-p
bounds-out-p c =
    omega (arith, some_left c.loop-x.invariant, c.loop-x.invariant.room)

pub loop-x-preserved : goal.loop-x-preserved
loop-x-preserved c =
    spelling_step c.loop-x.invariant c.loop-x-test.true

pub overflow_sub-out : goal.overflow_sub-out
overflow_sub-out c =
    omega (arith, some_left c.loop-x.invariant)

pub bounds-out-p-2 : goal.bounds-out-p-2
bounds-out-p-2 c =
    omega (arith, some_left c.loop-x.invariant, c.loop-x.invariant.room)

pub shape_of-out : goal.shape_of-out
shape_of-out c =
    stored_length (spelling_end c.loop-x.invariant c.loop-x-test.false (ap (λ (k : ℕ). c.args.at + k) c.digit_count.ensures))

pub returns : goal.returns
returns c =
    spelling_end c.loop-x.invariant c.loop-x-test.false (ap (λ (k : ℕ). c.args.at + k) c.digit_count.ensures)
