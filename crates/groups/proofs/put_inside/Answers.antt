use native.Mathlib.Omega.{arith}
use Rattle.groups.proofs.Writing.{putting_start, putting_step, putting_end, put_more, put_last}
use Rattle.groups.proofs.put_inside.Goals as goal

pub loop-x-init : goal.loop-x-init
loop-x-init c =
    putting_start _ _ _ c.requires.v_bound

pub bounds-out-p : goal.bounds-out-p
bounds-out-p c =
    omega (arith, put_more c.loop-x.invariant c.loop-x-test.true)

pub overflow_add-p : goal.overflow_add-p
overflow_add-p c =
    omega (arith, put_more c.loop-x.invariant c.loop-x-test.true)

pub loop-x-preserved : goal.loop-x-preserved
loop-x-preserved c =
    putting_step c.loop-x.invariant c.loop-x-test.true

pub bounds-out-p-2 : goal.bounds-out-p-2
bounds-out-p-2 c =
    omega (arith, put_last c.loop-x.invariant c.loop-x-test.false)

pub overflow_add-result : goal.overflow_add-result
overflow_add-result c =
    omega (arith, put_last c.loop-x.invariant c.loop-x-test.false)

pub returns : goal.returns
returns c =
    putting_end c.loop-x.invariant c.loop-x-test.false
