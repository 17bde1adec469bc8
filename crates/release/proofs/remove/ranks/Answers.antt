use mathlib.Core.Path.{refl}
use lib.ListN.{length-set}
use Rattle.release.proofs.Removing.{ranking_start, kept_le, ranking_one, ranking_none}
use native.Mathlib.Omega.{arith}
use Rattle.release.proofs.remove.ranks.Goals as goal
use Rattle.release.proofs.remove.ranks.Goals.{then-marks-p-ne1, else-marks-p-ne1}

pub loop-p-init : goal.loop-p-init
loop-p-init c =
    (ranking_start _ _ _ c.requires.2, refl)

pub overflow_add-kept : goal.overflow_add-kept
overflow_add-kept c =
    omega (arith, kept_le c.loop-p.invariant.0 c.loop-p-test.true c.requires.0, c.loop-p-test.true, c.requires.0)

pub loop-p-preserved : goal.loop-p-preserved
loop-p-preserved c = (
  elim c.if-marks-p-ne1.branch [
    | then-marks-p-ne1 w ↦ ranking_one c.loop-p.invariant.0 c.loop-p-test.true c.requires.0 w.if-marks-p-ne1.true refl w.kept-is
    | else-marks-p-ne1 w ↦ ranking_none c.loop-p.invariant.0 c.loop-p-test.true c.requires.0 w.if-marks-p-ne1.false refl w.kept-is
  ],
  simp length-set c.loop-p.invariant.1,
)
