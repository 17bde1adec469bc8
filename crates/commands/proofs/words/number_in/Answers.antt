use mathlib.Core.Path.{sym, ◌∙◌}
use Prim.Native.Nat.{◌+◌, ◌*◌}
use Rattle.commands.proofs.Scans.{digits_on, digits_no_digit, digits_too_many, digits_end, number_some, number_none}
use native.Mathlib.Omega.{arith}
use Rattle.commands.proofs.words.number_in.Goals as goal

pub returns-then-text-eq0 : goal.returns-then-text-eq0
returns-then-text-eq0 c =
    number_none _ c.if-text-eq0.true

pub loop-i-init : goal.loop-i-init
loop-i-init c =
    (omega arith, omega arith, number_some _ (omega arith))

pub returns-then-not-is_digit : goal.returns-then-not-is_digit
returns-then-not-is_digit c =
    sym (digits_no_digit c.args.text.now c.loop-i.n c.loop-i.i (omega arith) (sym c.is_digit.ensures ∙ c.if-not-is_digit.true)) ∙ c.loop-i.invariant.2

pub digit-requires : goal.digit-requires
digit-requires c =
    sym c.is_digit.ensures ∙ c.if-not-is_digit.false

pub returns-then-v-ge4294967296 : goal.returns-then-v-ge4294967296
returns-then-v-ge4294967296 c =
    let text = c.args.text.now in
    sym
    (digits_too_many text c.loop-i.n c.loop-i.i (10 * c.loop-i.n + c.digit.result) (omega arith) (sym c.is_digit.ensures ∙ c.if-not-is_digit.false)
    (omega (arith, c.digit.ensures.0)) (omega arith)) ∙ c.loop-i.invariant.2

pub loop-i-preserved : goal.loop-i-preserved
loop-i-preserved c =
    let text = c.args.text.now in (
      omega arith,
      omega (arith, c.if-v-ge4294967296.false),
      sym
          (digits_on text c.loop-i.n c.loop-i.i (10 * c.loop-i.n + c.digit.result) (omega arith) (sym c.is_digit.ensures ∙ c.if-not-is_digit.false)
          (omega (arith, c.digit.ensures.0)) (omega arith)) ∙ c.loop-i.invariant.2,
    )

pub returns : goal.returns
returns c =
    sym (digits_end c.args.text.now c.loop-i.n c.loop-i.i (omega arith)) ∙ c.loop-i.invariant.2
