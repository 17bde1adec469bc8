use mathlib.Core.Path.{◌∙◌}
use Prim.Native.Nat.{◌-◌}
use native.Mathlib.Omega.{arith}
use Rattle.groups.proofs.Reading.{reading_start, scale_fits, group_fits, ends_short, last_zero, last_more, no_more, reading_step}
use Rattle.groups.proofs.read_more.Goals as goal

pub loop-p-init : goal.loop-p-init
loop-p-init c =
    reading_start _ _ _ _ c.requires.first_bound c.requires.more_bound

pub returns-then-b-eq0 : goal.returns-then-b-eq0
returns-then-b-eq0 c =
    last_zero c.loop-p.invariant _ _ c.loop-p-test.true c.from-b.ensures c.if-b-lt128.true c.if-b-eq0.true

pub overflow_mul-scale : goal.overflow_mul-scale
overflow_mul-scale c =
    omega (arith, scale_fits c.loop-p.invariant, group_fits c.loop-p.invariant c.from-b.result c.if-b-lt128.true)

pub overflow_add-low : goal.overflow_add-low
overflow_add-low c =
    omega (arith, scale_fits c.loop-p.invariant, c.loop-p.invariant.small, group_fits c.loop-p.invariant c.from-b.result c.if-b-lt128.true)

pub returns-then-b-lt128 : goal.returns-then-b-lt128
returns-then-b-lt128 c =
    c.keep.ensures ∙ last_more c.loop-p.invariant _ _ c.loop-p-test.true c.from-b.ensures c.if-b-lt128.true c.if-b-eq0.false

pub returns-then-left-eq0 : goal.returns-then-left-eq0
returns-then-left-eq0 c =
    no_more c.loop-p.invariant _ _ c.loop-p-test.true c.from-b.ensures c.if-b-lt128.false c.if-left-eq0.true

pub overflow_mul-low : goal.overflow_mul-low
overflow_mul-low c =
    omega (arith, scale_fits c.loop-p.invariant, group_fits c.loop-p.invariant (c.from-b.result - 128) (omega (arith, c.from-b.ensures, c.type_inv.s c.loop-p.p)))

pub overflow_add-low-in-loop-p : goal.overflow_add-low-in-loop-p
overflow_add-low-in-loop-p c =
    omega
    (arith, scale_fits c.loop-p.invariant, c.loop-p.invariant.small, group_fits c.loop-p.invariant (c.from-b.result - 128) (omega (arith, c.from-b.ensures, c.type_inv.s c.loop-p.p)))

pub overflow_mul-scale-in-loop-p : goal.overflow_mul-scale-in-loop-p
overflow_mul-scale-in-loop-p c =
    omega (arith, scale_fits c.loop-p.invariant)

pub loop-p-preserved : goal.loop-p-preserved
loop-p-preserved c =
    reading_step c.loop-p.invariant 0 _ c.loop-p-test.true c.from-b.ensures c.if-b-lt128.false (omega (arith, c.from-b.ensures, c.type_inv.s c.loop-p.p)) (omega arith)

pub returns : goal.returns
returns c =
    ends_short c.loop-p.invariant _ c.loop-p-test.false
