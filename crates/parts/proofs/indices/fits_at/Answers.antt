-- `parts::indices::fits_at` meets its contract.
-- Assumes nothing.
use mathlib.Core.Path.{sym, ◌∙◌}
use Rattle.parts.proofs.IndexLaws.{fits_past, fits_low, fits_rest}
use native.Mathlib.Omega.{arith}
use Rattle.parts.proofs.indices.fits_at.Goals as goal

pub returns-then-k-i : goal.returns-then-k-i
returns-then-k-i c =
    fits_past c.args.indices.now c.args.starts.now c.args.marks.now c.args.k c.args.e
    (omega (arith, c.entry_index-i.ensures, c.if-k-i.true))

pub returns-then-not-above : goal.returns-then-not-above
returns-then-not-above c =
    let indices = c.args.indices.now in
    let starts = c.args.starts.now in
    let marks = c.args.marks.now in
    let k = c.args.k in
    let e = c.args.e in
    fits_low indices starts marks k e (sym c.above.ensures ∙ c.if-not-above.true)

pub index_at-start-requires : goal.index_at-start-requires
index_at-start-requires c =
    omega (arith, c.if-k-i.false, c.requires.1)

pub bounds-marks-at : goal.bounds-marks-at
bounds-marks-at c =
    omega (arith, c.if-k-i.false, c.requires.2)

pub returns : goal.returns
returns c =
    let indices = c.args.indices.now in
    let starts = c.args.starts.now in
    let marks = c.args.marks.now in
    let k = c.args.k in
    let e = c.args.e in
    fits_rest indices starts marks k e (omega (arith, c.entry_index-i.ensures, c.if-k-i.false)) (sym c.above.ensures ∙ c.if-not-above.false)
    c.entry_index-i.ensures c.index_at-start.ensures
