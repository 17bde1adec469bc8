use native.Mathlib.Omega.{arith}
use Rattle.groups.proofs.Writing.{putting_start, put_more, put_last, stored_step, stored_end}
use Rattle.groups.proofs.put_across.Goals as goal

pub loop-x-init : goal.loop-x-init
loop-x-init c =
    putting_start _ _ _ c.requires.v_bound

pub put_byte-p-requires : goal.put_byte-p-requires
put_byte-p-requires c =
    omega (arith, put_more c.loop-x.invariant c.loop-x-test.true)

pub loop-x-preserved : goal.loop-x-preserved
loop-x-preserved c =
    stored_step c.loop-x.invariant c.loop-x-test.true c.put_byte-p.ensures

pub put_byte-requires : goal.put_byte-requires
put_byte-requires c =
    omega (arith, put_last c.loop-x.invariant c.loop-x-test.false)

pub returns : goal.returns
returns c =
    stored_end c.loop-x.invariant c.loop-x-test.false c.put_byte.ensures
