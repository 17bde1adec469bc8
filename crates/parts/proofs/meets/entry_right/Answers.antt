-- `parts::meets::entry_right` meets its contract.
-- Assumes nothing.
use mathlib.Core.Path.{subst}
use Rattle.parts.specs.Meets.{Walked}
use Rattle.parts.proofs.Trails.{trailed, not_critical, not_equal, entry_told}
use native.Mathlib.Omega.{arith}
use Rattle.parts.proofs.meets.entry_right.Goals as goal

pub field-requires : goal.field-requires
field-requires c =
    (omega (arith, c.requires.0.linked.size, c.requires.2), omega arith)

pub returns-then-field-from : goal.returns-then-field-from
returns-then-field-from c =
    let block = c.args.block.now in
    let draft = c.args.draft.now in
    let ranks = c.args.ranks.now in
    let from = c.args.from in
    let y = c.args.y.0 in
    let at = c.args.at.0 in
    let size = c.args.size in
    not_critical block draft ranks from y at size c.requires.4 c.field.ensures c.if-field-from.true

pub walk_face-requires : goal.walk_face-requires
walk_face-requires c =
    (c.requires.0.linked, c.requires.2, c.requires.4)

pub returns-then-not-walk_face : goal.returns-then-not-walk_face
returns-then-not-walk_face c =
    let block = c.args.block.now in
    let draft = c.args.draft.now in
    let ranks = c.args.ranks.now in
    let from = c.args.from in
    let y = c.args.y.0 in
    let at = c.args.at.0 in
    let size = c.args.size in
    not_equal block draft ranks from y at size (subst (Walked block y size _) c.if-not-walk_face.true c.walk_face.ensures)

pub all_meet-requires : goal.all_meet-requires
all_meet-requires c =
    let block = c.args.block.now in
    let y = c.args.y.0 in
    let size = c.args.size in (
      c.requires.0,
      c.requires.3,
      trailed c.requires.0.linked c.requires.2
          (subst (Walked block y size _) c.if-not-walk_face.false c.walk_face.ensures),
    )

pub returns : goal.returns
returns c =
    let block = c.args.block.now in
    let draft = c.args.draft.now in
    let ranks = c.args.ranks.now in
    let from = c.args.from in
    let y = c.args.y.0 in
    let at = c.args.at.0 in
    let size = c.args.size in
    entry_told block draft ranks from y at size c.field.ensures c.if-field-from.false
    (subst (Walked block y size _) c.if-not-walk_face.false c.walk_face.ensures) c.all_meet.ensures
