use mathlib.Core.Path.{sym, ap, ◌∙◌}
use Rattle.model.specs.Cells.{faces, start_of}
use Rattle.model.specs.Image.{column}
use Rattle.cells.specs.Places.{marked, sewn_out}
use Rattle.cells.proofs.StartLaws.{start_place, in_order_few, count_skip, count_one}
use native.Mathlib.Omega.{arith}
use Rattle.cells.proofs.sewn.count_sewn.Goals as goal

pub offset_bounds-out-i : goal.offset_bounds-out-i
offset_bounds-out-i c =
    let l = c.requires.0 in
    let few = in_order_few _ (column c.args.block.now 1) c.args.marks.now l.few l.next_within l.next_apart c.requires.2 in
    let block = c.args.block.now in
    let marks = c.args.marks.now in
    omega (
      arith,
      (start_place _ (column block 1) marks c.requires.0.few c.requires.0.next_within c.requires.0.next_apart
          c.requires.2 c.loop-f.f c.loop-f-test.true).0,
      few.0,
    )

pub bounds-out-i : goal.bounds-out-i
bounds-out-i c =
    let l = c.requires.0 in
    let few = in_order_few _ (column c.args.block.now 1) c.args.marks.now l.few l.next_within l.next_apart c.requires.2 in
    let block = c.args.block.now in
    let marks = c.args.marks.now in
    omega (
      arith,
      (start_place _ (column block 1) marks c.requires.0.few c.requires.0.next_within c.requires.0.next_apart
          c.requires.2 c.loop-f.f c.loop-f-test.true).0,
      few.0,
      c.requires.2.out_size,
    )

pub sewn_away-requires : goal.sewn_away-requires
sewn_away-requires c =
    let block = c.args.block.now in
    let marks = c.args.marks.now in (
      c.requires.0,
      c.requires.1,
      (start_place _ (column block 1) marks c.requires.0.few c.requires.0.next_within c.requires.0.next_apart
          c.requires.2 c.loop-f.f c.loop-f-test.true).2,
    )

pub loop-f-preserved-then-not-sewn_away : goal.loop-f-preserved-then-not-sewn_away
loop-f-preserved-then-not-sewn_away c =
    let block = c.args.block.now in
    let marks = c.args.marks.now in
    let n = c.args.n in
    let at =
    (start_place _ (column block 1) marks c.requires.0.few c.requires.0.next_within c.requires.0.next_apart
    c.requires.2 c.loop-f.f c.loop-f-test.true).1 in (
      omega (arith, c.loop-f-test.true),
      omega (arith, c.loop-f.invariant.1),
      count_skip (λ l. sewn_out block marks (start_of l)) (faces (column block 1) (marked n marks)) c.loop-f.f _ c.loop-f.invariant.2
          (omega (arith, c.loop-f-test.true, c.requires.2.count_is))
          (sym (c.sewn_away.ensures ∙ ap (sewn_out block marks) at) ∙ c.if-not-sewn_away.true),
    )

pub loop-f-preserved : goal.loop-f-preserved
loop-f-preserved c =
    let block = c.args.block.now in
    let marks = c.args.marks.now in
    let n = c.args.n in
    let at =
    (start_place _ (column block 1) marks c.requires.0.few c.requires.0.next_within c.requires.0.next_apart
    c.requires.2 c.loop-f.f c.loop-f-test.true).1 in (
      omega (arith, c.loop-f-test.true),
      omega (arith, c.loop-f.invariant.1),
      count_one (λ l. sewn_out block marks (start_of l)) (faces (column block 1) (marked n marks)) c.loop-f.f _ c.loop-f.invariant.2
          (omega (arith, c.loop-f-test.true, c.requires.2.count_is))
          (sym (c.sewn_away.ensures ∙ ap (sewn_out block marks) at) ∙ c.if-not-sewn_away.false),
    )
