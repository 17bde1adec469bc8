-- `parts::locate::note` meets its contract.
-- Assumes nothing.
use mathlib.Core.Path.{sym, ◌∙◌, ap}
use Rattle.model.specs.Image.{is_critical_word}
use Rattle.ranking.specs.Ranks.{value_at, rank_in}
use Rattle.parts.proofs.Locating.{noted_free, noted_none, noted_found, found_below}
use native.Mathlib.Omega.{arith}
use Rattle.parts.proofs.locate.note.Goals as goal

pub returns-then-not-is_critical : goal.returns-then-not-is_critical
returns-then-not-is_critical c =
    let block = c.args.block.now in
    let keys = c.args.keys.now in
    let c' = c.args.c in
    let p' = c.args.p.0 in
    let places = c.args.places.now in
    noted_free block keys c' p' places (ap is_critical_word (sym c.field.ensures) ∙ sym c.is_critical.ensures ∙ c.if-not-is_critical.true)

pub returns-in_default : goal.returns-in_default
returns-in_default c =
    let block = c.args.block.now in
    let keys = c.args.keys.now in
    let c' = c.args.c in
    let p' = c.args.p.0 in
    let places = c.args.places.now in
    noted_none block keys c' p' places (ap (rank_in (value_at keys) c') (sym c.field-2.ensures) ∙ sym c.find.ensures ∙ c.in_default.is)

pub offset_bounds-keys-r : goal.offset_bounds-keys-r
offset_bounds-keys-r c =
    let b = found_below c.args.keys.now c.args.c _ (sym c.find.ensures ∙ c.in-Some.is) in
    omega arith

pub bounds-keys-r : goal.bounds-keys-r
bounds-keys-r c =
    let b = found_below c.args.keys.now c.args.c _ (sym c.find.ensures ∙ c.in-Some.is) in
    omega arith

pub bounds-places-e : goal.bounds-places-e
bounds-places-e c =
    let b = found_below c.args.keys.now c.args.c _ (sym c.find.ensures ∙ c.in-Some.is) in
    let i = c.requires.5 _ b in
    omega (arith, i, c.requires.3)

pub returns : goal.returns
returns c =
    let block = c.args.block.now in
    let keys = c.args.keys.now in
    let c' = c.args.c in
    let p' = c.args.p.0 in
    let places = c.args.places.now in
    noted_found block keys c' p' places (ap is_critical_word (sym c.field.ensures) ∙ sym c.is_critical.ensures ∙ c.if-not-is_critical.false)
    c.requires.4 c.requires.3
    c.requires.5 (ap (rank_in (value_at keys) c') (sym c.field-2.ensures) ∙ sym c.find.ensures ∙ c.in-Some.is)
