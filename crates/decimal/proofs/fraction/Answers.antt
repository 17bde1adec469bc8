-- `decimal::fraction` meets its contract. Assumes nothing.
use Rattle.decimal.proofs.Texts.{digits_within}
use Rattle.decimal.proofs.Values.{fraction_none, fraction_some, scaled_none}
use Rattle.std.proofs.Common.{sym, ◌∙◌, arith}
use Rattle.decimal.proofs.fraction.Goals as goal

pub returns-then-places-eq0 : goal.returns-then-places-eq0
returns-then-places-eq0 c =
    fraction_none _ c.args.n c.args.text.now c.digits_in-d.ensures c.if-places-eq0.true

pub slice_bounds-exponent_in-count : goal.slice_bounds-exponent_in-count
slice_bounds-exponent_in-count c =
    omega (arith, digits_within c.args.n c.args.text.now c.digits_in-d.ensures)

pub slice_bounds-exponent_in-start : goal.slice_bounds-exponent_in-start
slice_bounds-exponent_in-start c =
    omega (arith, digits_within c.args.n c.args.text.now c.digits_in-d.ensures)

pub returns : goal.returns
returns c =
    fraction_some _ c.args.n c.args.text.now c.digits_in-d.ensures c.if-places-eq0.false (sym c.in_ok-power.was ∙ c.exponent_in.ensures) c.scaled.ensures

pub returns-in_err-power : goal.returns-in_err-power
returns-in_err-power c =
    fraction_some _ c.args.n c.args.text.now c.digits_in-d.ensures c.if-places-eq0.false (sym c.in_err-power.was ∙ c.exponent_in.ensures)
    (c.from_residual.ensures ∙ scaled_none _ _ _)
