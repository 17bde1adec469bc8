-- `departure::unmark_both` meets its contract: every mark is in the list. Assumes nothing.
use Rattle.cells.proofs.Resets.{unmarked}
use Rattle.departure.proofs.unmark_both.Goals as goal

pub unmark-requires : goal.unmark-requires
unmark-requires c =
    (c.requires.0, c.requires.1, λ k h. (c.requires.2 k h).0)

pub unmark-requires-2 : goal.unmark-requires-2
unmark-requires-2 c =
    (c.requires.0, c.requires.1, λ k h. (c.requires.2 k h).1)

pub returns : goal.returns
returns c =
    (unmarked c.requires.3 (λ p i. i) c.unmark.ensures, unmarked c.requires.4 (λ p i. i) c.unmark-2.ensures)
