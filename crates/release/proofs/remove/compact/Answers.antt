use Prim.Native.Nat.{◌+◌, ◌*◌, ◌≤◌}
use mathlib.Core.Path.{◌∙◌}
use lib.ListN.{length}
use Rattle.release.proofs.Removing.{length_moved, moved_start, count_le, moved_none, moved_one, links_fit, one_move}
use native.Mathlib.Omega.{arith}
use Rattle.release.proofs.remove.compact.Goals as goal
use Rattle.release.proofs.remove.compact.Goals.{then-marks-i-ne1, else-marks-i-ne1}

pub loop-i-init : goal.loop-i-init
loop-i-init c =
    (omega arith, moved_start _ _ _)

pub move_record-requires : goal.move_record-requires
move_record-requires c =
    let table = c.args.table.now in (
      omega (arith, c.loop-i-test.true, c.loop-i.invariant.1.len, c.requires.0.size),
      count_le c.loop-i.invariant.1 (omega (arith, c.loop-i-test.true, c.requires.0.few, c.requires.0.size)),
      links_fit c.requires.0 table c.requires.3 c.loop-i.invariant.1 c.loop-i-test.true c.requires.2,
    )

pub overflow_add-w : goal.overflow_add-w
overflow_add-w c =
    omega
    (arith, count_le c.loop-i.invariant.1 (omega (arith, c.loop-i-test.true, c.requires.0.few, c.requires.0.size)), c.loop-i-test.true, c.requires.0.few)

pub loop-i-preserved : goal.loop-i-preserved
loop-i-preserved c =
    let block = c.args.block.now in
    let table = c.args.table.now in
    let v = c.loop-i.invariant.1 in
    let fits : 8 + (c.loop-i.i + 1) * 8 ≤ length block = omega (arith, c.loop-i-test.true, c.requires.0.few, c.requires.0.size) in (
      omega arith,
      elim c.if-marks-i-ne1.branch [
        | then-marks-i-ne1 a ↦ moved_one v fits a.if-marks-i-ne1.true (length_moved _ _ _)
            (one_move c.requires.0 table c.requires.3 v c.loop-i-test.true)
            (a.block-is ∙ a.move_record.ensures) a.w-is
        | else-marks-i-ne1 a ↦ moved_none v fits a.if-marks-i-ne1.false a.block-is a.w-is
      ],
    )
