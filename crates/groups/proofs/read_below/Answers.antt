-- `groups::read_below` meets its contract. The first group by its cases: none, the last, one too many, one of several. Assumes nothing.
use mathlib.Core.Path.{◌∙◌}
use native.Mathlib.Omega.{arith}
use Rattle.groups.proofs.Reading.{below_end, below_last, below_full, below_more}
use Rattle.groups.proofs.read_below.Goals as goal

pub returns-then-s-at : goal.returns-then-s-at
returns-then-s-at c =
    below_end _ _ _ _ c.if-s-at.true

pub returns-then-b-lt128 : goal.returns-then-b-lt128
returns-then-b-lt128 c =
    c.keep.ensures ∙ below_last _ _ _ _ _ c.if-s-at.false c.from-b.ensures c.if-b-lt128.true

pub returns-then-more-eq0 : goal.returns-then-more-eq0
returns-then-more-eq0 c =
    below_full _ _ _ _ _ c.if-s-at.false c.from-b.ensures c.if-b-lt128.false c.if-more-eq0.true

pub returns : goal.returns
returns c =
    c.read_more.ensures ∙ below_more _ _ _ _ _ c.if-s-at.false c.from-b.ensures c.if-b-lt128.false (omega arith)
