-- `parts::meet::meet_at` meets its contract.
-- Assumes nothing.
use mathlib.Core.Path.{sym, subst}
use Rattle.memory.specs.Point.{FiniteAt}
use Rattle.parts.proofs.Meeting.{finite_told, points_told, meet_told}
use native.Mathlib.Omega.{arith}
use Rattle.parts.proofs.meet.meet_at.Goals as goal

pub point_at-requires : goal.point_at-requires
point_at-requires c =
    (omega (arith, c.next_of-v.ensures, c.requires.p_in_bounds.3), subst (FiniteAt c.args.block.now) (sym c.next_of-v.ensures) c.requires.finite_at.3)

pub same_point-tails-requires : goal.same_point-tails-requires
same_point-tails-requires c =
    let block = c.args.block.now in
    let draft = c.args.draft.now in
    let p' = c.args.p.0 in
    let w = c.args.w.0 in (
      finite_told draft p' c.requires.finite_at.0 c.draft_point.ensures,
      finite_told block _ (subst (FiniteAt block) (sym c.next_of-v.ensures) c.requires.finite_at.3) c.point_at.ensures,
    )

pub draft_point-requires-2 : goal.draft_point-requires-2
draft_point-requires-2 c = (
  omega (arith, c.draft_next-q.ensures, c.requires.p_in_bounds.2),
  subst (FiniteAt c.args.draft.now) (sym c.draft_next-q.ensures) c.requires.finite_at.1,
)

pub same_point-heads-requires : goal.same_point-heads-requires
same_point-heads-requires c =
    let block = c.args.block.now in
    let draft = c.args.draft.now in
    let p' = c.args.p.0 in
    let w = c.args.w.0 in (
      finite_told block w c.requires.finite_at.2 c.point_at-2.ensures,
      finite_told draft _ (subst (FiniteAt draft) (sym c.draft_next-q.ensures) c.requires.finite_at.1) c.draft_point-2.ensures,
    )

pub returns : goal.returns
returns c =
    let block = c.args.block.now in
    let draft = c.args.draft.now in
    let p' = c.args.p.0 in
    let w = c.args.w.0 in
    meet_told block draft p' w c.next_of-v.ensures c.draft_next-q.ensures
    (points_told draft block p' _ c.requires.finite_at.0 (subst (FiniteAt block) (sym c.next_of-v.ensures) c.requires.finite_at.3)
    c.draft_point.ensures c.point_at.ensures c.same_point-tails.ensures)
    (points_told block draft w _ c.requires.finite_at.2 (subst (FiniteAt draft) (sym c.draft_next-q.ensures) c.requires.finite_at.1)
    c.point_at-2.ensures c.draft_point-2.ensures c.same_point-heads.ensures)
