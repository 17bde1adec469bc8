-- `decimal::signed_in` meets its contract. Assumes nothing.
use Rattle.std.proofs.Common.{ap, ◌∙◌, arith}
use Rattle.decimal.specs.Decimal.{up_by, down_by}
use Rattle.decimal.proofs.Texts.{mapped, signed_none, signed_minus, signed_plus, signed_bare}
use Rattle.decimal.proofs.signed_in.Goals as goal

pub returns-then-text-eq0 : goal.returns-then-text-eq0
returns-then-text-eq0 c =
    signed_none _ c.if-text-eq0.true

pub returns-then-sign-eq45 : goal.returns-then-sign-eq45
returns-then-sign-eq45 c =
    signed_minus c.args.text.now (omega arith) c.if-sign-eq45.true (mapped _ _ _ c.map.ensures.cases ∙ ap down_by c.short_in.ensures)

pub returns-then-sign-eq43 : goal.returns-then-sign-eq43
returns-then-sign-eq43 c =
    signed_plus c.args.text.now (omega arith) c.if-sign-eq43.true (mapped _ _ _ c.map-then-sign-eq43.ensures.cases ∙ ap up_by c.short_in-then-sign-eq43.ensures)

pub returns : goal.returns
returns c =
    signed_bare c.args.text.now (omega arith) c.if-sign-eq45.false c.if-sign-eq43.false (mapped _ _ _ c.map-2.ensures.cases ∙ ap up_by c.short_in-2.ensures)
