use mathlib.Core.Path.{refl, sym, ap, ◌∙◌}
use mathlib.Core.List.{List}
use Prim.Native.Nat.{ℕ, ◌<◌}
use lib.ListN.{length}
use Rattle.model.specs.Lists.{tab}
use Rattle.model.specs.Cells.{faces, start_of}
use Rattle.model.specs.Image.{column}
use Rattle.cells.proofs.StartLaws.{count_skip, count_one, count_all}
use Rattle.stats.specs.BlockCounts.{critical_at}
use Rattle.stats.proofs.CriticalFaces.{order_few, first_dart}
use native.Mathlib.Omega.{arith}
use Rattle.stats.proofs.critical.count_critical.Goals as goal
use Rattle.stats.proofs.critical.count_critical.Goals.{then-is_critical, else-is_critical}

pub loop-f-init : goal.loop-f-init
loop-f-init c =
    (omega arith, omega arith, refl)

pub offset_bounds-starts-f : goal.offset_bounds-starts-f
offset_bounds-starts-f c =
    omega (arith, c.loop-f-test.true, (order_few c.requires.0 c.requires.1).1, c.requires.0.few)

pub bounds-starts-f : goal.bounds-starts-f
bounds-starts-f c =
    omega (arith, c.loop-f-test.true, (order_few c.requires.0 c.requires.1).1, c.requires.0.few, c.requires.1.starts_size)

pub offset_bounds-out-i : goal.offset_bounds-out-i
offset_bounds-out-i c =
    omega (arith, (first_dart c.requires.0 c.requires.1 c.loop-f.f c.loop-f-test.true).0, (order_few c.requires.0 c.requires.1).0, c.requires.0.few)

pub bounds-out-i : goal.bounds-out-i
bounds-out-i c =
    omega
    (arith, (first_dart c.requires.0 c.requires.1 c.loop-f.f c.loop-f-test.true).0, (order_few c.requires.0 c.requires.1).0, c.requires.0.few, c.requires.1.out_size)

pub is_critical-requires : goal.is_critical-requires
is_critical-requires c =
    omega (arith, (first_dart c.requires.0 c.requires.1 c.loop-f.f c.loop-f-test.true).2, c.requires.0.size)

pub overflow_add-critical : goal.overflow_add-critical
overflow_add-critical c =
    omega (arith, c.loop-f.invariant.1, c.loop-f-test.true, (order_few c.requires.0 c.requires.1).1, c.requires.0.few)

pub loop-f-preserved : goal.loop-f-preserved
loop-f-preserved c =
    let at = (first_dart c.requires.0 c.requires.1 c.loop-f.f c.loop-f-test.true).1 in
    let test = λ (l : List ℕ). critical_at c.args.block.now (start_of l) in
    let all = faces (column c.args.block.now 1) (tab (λ p. p) c.args.n) in
    let below : c.loop-f.f < length all = omega (arith, c.loop-f-test.true, c.requires.1.count_is) in
    let asked = c.is_critical.ensures ∙ ap (critical_at c.args.block.now) at in
    elim c.if-is_critical.branch [
      | then-is_critical w ↦ (
        omega (arith, c.loop-f-test.true),
        omega (arith, w.critical-is, c.loop-f.invariant.1),
        w.critical-is ∙ count_one test all c.loop-f.f _ c.loop-f.invariant.2 below (sym asked ∙ w.if-is_critical.true),
      )
      | else-is_critical w ↦ (
        omega (arith, c.loop-f-test.true),
        omega (arith, w.critical-is, c.loop-f.invariant.1),
        w.critical-is ∙ count_skip test all c.loop-f.f _ c.loop-f.invariant.2 below (sym asked ∙ w.if-is_critical.false),
      )
    ]

pub returns : goal.returns
returns c =
    count_all (λ l. critical_at c.args.block.now (start_of l))
    (faces (column c.args.block.now 1) (tab (λ p. p) c.args.n)) c.loop-f.f _ c.loop-f.invariant.2
    (omega (arith, c.loop-f-test.false, c.requires.1.count_is))
