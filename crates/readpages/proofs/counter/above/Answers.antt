-- `readpages::counter::above` meets its contract: by the dart's kind, its label's maker and number.
-- Assumes nothing.
use mathlib.Core.Path.{sym, ◌∙◌}
use Rattle.readpages.proofs.Counting.{free_above, sewn_above, other_above, lower_above, number_above}
use native.Mathlib.Omega.{arith}
use Rattle.readpages.proofs.counter.above.Goals as goal

pub returns-then-is_free : goal.returns-then-is_free
returns-then-is_free c =
    free_above _ _ _ _ (sym c.is_free.ensures ∙ c.if-is_free.true)

pub returns-then-is_sewn : goal.returns-then-is_sewn
returns-then-is_sewn c =
    sewn_above _ _ _ _ (sym c.is_sewn.ensures ∙ c.if-is_sewn.true)

pub returns-then-maker_of-me : goal.returns-then-maker_of-me
returns-then-maker_of-me c =
    other_above _ _ _ _ (sym c.is_free.ensures ∙ c.if-is_free.false) (sym c.is_sewn.ensures ∙ c.if-is_sewn.false) c.maker_of.ensures
    c.if-maker_of-me.true

pub returns-then-number-c : goal.returns-then-number-c
returns-then-number-c c =
    lower_above _ _ _ _ (sym c.is_free.ensures ∙ c.if-is_free.false) (sym c.is_sewn.ensures ∙ c.if-is_sewn.false) c.maker_of.ensures
    c.if-maker_of-me.false c.number_of-number.ensures c.if-number-c.true

pub overflow_add-result : goal.overflow_add-result
overflow_add-result c =
    omega (arith, c.number_of-number.ensures)

pub returns : goal.returns
returns c =
    number_above _ _ _ _ (sym c.is_free.ensures ∙ c.if-is_free.false) (sym c.is_sewn.ensures ∙ c.if-is_sewn.false) c.maker_of.ensures
    c.if-maker_of-me.false c.number_of-number.ensures c.if-number-c.false
