-- `corners::mean_of` meets its contract. Assumes nothing.
use Rattle.std.proofs.Common.{get_or, sym, refl, ◌∙◌, arith}
use Rattle.model.specs.Values.{room}
use Rattle.model.specs.Image.{column}
use Rattle.answers.proofs.Questions.{said_no, said_yes}
use Rattle.memory.proofs.Lookups.{place_at, held_at, held_nothing}
use Rattle.cells.proofs.Sited.{sited}
use Rattle.cells.proofs.Resets.{zeros_long}
use Rattle.selection.proofs.Loops.{walkable}
use Rattle.corners.proofs.CornerLaws.{mean_there, mean_unsound, mean_nowhere}
use Rattle.corners.proofs.mean_of.Goals as goal

pub returns-then-not-is_sound : goal.returns-then-not-is_sound
returns-then-not-is_sound c =
    mean_unsound c.args.block.now c.args.serial (said_no c.is_sound.ensures c.if-not-is_sound.true)

pub bounds-block-2 : goal.bounds-block-2
bounds-block-2 c =
    omega (arith, (sited c.args.block.now (said_yes c.is_sound.ensures c.if-not-is_sound.false)).linked.size)

pub place_of-requires : goal.place_of-requires
place_of-requires c =
    let site = sited c.args.block.now (said_yes c.is_sound.ensures c.if-not-is_sound.false) in
    (site.linked.size, site.ascends)

pub returns-in_err-place : goal.returns-in_err-place
returns-in_err-place c =
    let m = c.args.block.now in
    let serial = c.args.serial in
    rw c.from_residual.ensures (mean_nowhere m serial (said_yes c.is_sound.ensures c.if-not-is_sound.false) (held_nothing m serial (sym c.place_of.ensures ∙ c.in_err-place.was)))

pub corners_at-count-requires : goal.corners_at-count-requires
corners_at-count-requires c =
    let m = c.args.block.now in
    let found = place_at (column m 0) (get_or m 2 0) c.args.serial (sym c.place_of.ensures ∙ c.in_ok-place.was) in
    let sound = said_yes c.is_sound.ensures c.if-not-is_sound.false in
    (sound, found.0, zeros_long _ room refl (sited m sound).linked.few)

pub sum_at-sum-requires : goal.sum_at-sum-requires
sum_at-sum-requires c =
    let m = c.args.block.now in (
      walkable m (said_yes c.is_sound.ensures c.if-not-is_sound.false),
      c.corners_at-count.ensures.size,
      c.corners_at-count.ensures.few,
      c.corners_at-count.ensures.below,
    )

pub returns : goal.returns
returns c =
    let m = c.args.block.now in
    let serial = c.args.serial in
    let ok = said_yes c.is_sound.ensures c.if-not-is_sound.false in
    let found = sym c.place_of.ensures ∙ c.in_ok-place.was in
    let here = (place_at (column m 0) (get_or m 2 0) serial found).1 in
    mean_there m serial ok (held_at m serial (sited m ok).ascends found) here c.corners_at-count.ensures c.sum_at-sum.ensures c.over.ensures
