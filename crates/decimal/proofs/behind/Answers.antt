-- `decimal::behind` meets its contract. Assumes nothing.
use Rattle.decimal.proofs.Values.{behind_none, behind_point, behind_exponent, scaled_none}
use Rattle.std.proofs.Common.{sym, ◌∙◌, arith}
use Rattle.decimal.proofs.behind.Goals as goal

pub returns-then-text-eq0 : goal.returns-then-text-eq0
returns-then-text-eq0 c =
    behind_none _ _ c.args.text.now c.if-text-eq0.true c.nearest.ensures

pub returns-then-text-eq46 : goal.returns-then-text-eq46
returns-then-text-eq46 c =
    behind_point _ _ c.args.text.now (omega arith) c.if-text-eq46.true c.fraction.ensures

pub returns : goal.returns
returns c =
    behind_exponent _ _ c.args.text.now (omega arith) c.if-text-eq46.false (sym c.in_ok-power.was ∙ c.exponent_in.ensures) c.scaled.ensures

pub returns-in_err-power : goal.returns-in_err-power
returns-in_err-power c =
    behind_exponent _ _ c.args.text.now (omega arith) c.if-text-eq46.false (sym c.in_err-power.was ∙ c.exponent_in.ensures)
    (c.from_residual.ensures ∙ scaled_none _ _ _)
