use Rattle.std.proofs.Common.{sym, ◌∙◌, arith}
use Rattle.decimal.proofs.Texts.{reading_start, reading_on, reading_stop, reading_end}
use Rattle.decimal.proofs.digits_in.Goals as goal

pub loop-i-init : goal.loop-i-init
loop-i-init c =
    reading_start _ _ c.requires

pub returns-then-not-is_digit : goal.returns-then-not-is_digit
returns-then-not-is_digit c =
    reading_stop c.loop-i.invariant (omega arith) (sym c.is_digit.ensures ∙ c.if-not-is_digit.true)

pub digit-requires : goal.digit-requires
digit-requires c =
    sym c.is_digit.ensures ∙ c.if-not-is_digit.false

pub joined-value-requires : goal.joined-value-requires
joined-value-requires c =
    (c.loop-i.invariant.v_le, c.digit.ensures.1)

pub loop-i-preserved : goal.loop-i-preserved
loop-i-preserved c =
    reading_on c.loop-i.invariant (omega arith) (sym c.is_digit.ensures ∙ c.if-not-is_digit.false) c.digit.ensures.0 c.joined-value.ensures

pub returns : goal.returns
returns c =
    reading_end c.loop-i.invariant (omega arith)
