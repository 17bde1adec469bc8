use mathlib.Core.Path.{sym, ◌∙◌}
use Rattle.cells.proofs.PairLaws.{ends_all, ends_not}
use native.Mathlib.Omega.{arith}
use Rattle.cells.proofs.pairs.each_once.Goals as goal

pub returns-then-not-ends_differ : goal.returns-then-not-ends_differ
returns-then-not-ends_differ c =
    ends_not _ _ _ _ _ c.loop-a.a c.loop-a-test.true (sym c.ends_differ.ensures.differ ∙ c.if-not-ends_differ.true)

pub returns : goal.returns
returns c =
    ends_all _ _ _ _ _ (λ k h. c.loop-a.invariant.3 k (omega (arith, c.loop-a-test.false)))
