-- `parts::meets::enter` meets its contract.
-- Assumes nothing.
use mathlib.Core.Path.{sym, subst, ◌∙◌}
use Rattle.parts.specs.Meets.{EntryRight}
use Rattle.parts.proofs.SewnFaces.{new_below, entered_old, entered_no, entered_trail, entered_yes}
use native.Mathlib.Omega.{arith}
use Rattle.parts.proofs.meets.enter.Goals as goal

pub is_new-requires : goal.is_new-requires
is_new-requires c =
    c.requires.4

pub returns-then-not-is_new : goal.returns-then-not-is_new
returns-then-not-is_new c =
    let from = c.args.from in
    let y = c.args.y.0 in
    let at = c.args.at.0 in
    let size = c.args.size in
    entered_old from y at size (sym c.is_new.ensures ∙ c.if-not-is_new.true)

pub entry_right-requires : goal.entry_right-requires
entry_right-requires c =
    (c.requires.0, c.requires.1, new_below c.args.y.0 c.args.n _ (sym c.is_new.ensures ∙ c.if-not-is_new.false), c.requires.2, c.requires.3)

pub returns-then-not-entry_right : goal.returns-then-not-entry_right
returns-then-not-entry_right c =
    let from = c.args.from in
    let y = c.args.y.0 in
    let at = c.args.at.0 in
    let size = c.args.size in
    let block = c.args.block.now in
    let draft = c.args.draft.now in
    let ranks = c.args.ranks.now in
    entered_no from y at size (sym c.is_new.ensures ∙ c.if-not-is_new.false)
    (subst (EntryRight block draft ranks from y at size _) c.if-not-entry_right.true c.entry_right.ensures)

pub fill-requires : goal.fill-requires
fill-requires c =
    omega (arith, c.requires.2, c.requires.5)

pub put_met-requires : goal.put_met-requires
put_met-requires c =
    (c.entry_right.ensures.len, omega (arith, c.requires.2, c.requires.6))

pub assign-requires : goal.assign-requires
assign-requires c =
    let from = c.args.from in
    let y = c.args.y.0 in
    let at = c.args.at.0 in
    let size = c.args.size in
    let n = c.args.n in
    let block = c.args.block.now in
    let draft = c.args.draft.now in
    let ranks = c.args.ranks.now in
    entered_trail c.requires.0 from y at size (new_below y n _ (sym c.is_new.ensures ∙ c.if-not-is_new.false)) c.requires.4
    (subst (EntryRight block draft ranks from y at size _) c.if-not-entry_right.false c.entry_right.ensures)

pub returns : goal.returns
returns c =
    let from = c.args.from in
    let y = c.args.y.0 in
    let at = c.args.at.0 in
    let size = c.args.size in
    let block = c.args.block.now in
    let draft = c.args.draft.now in
    let ranks = c.args.ranks.now in
    entered_yes from y at size (sym c.is_new.ensures ∙ c.if-not-is_new.false)
    (subst (EntryRight block draft ranks from y at size _) c.if-not-entry_right.false c.entry_right.ensures) c.fill.ensures
    c.put_met.ensures c.assign.ensures
