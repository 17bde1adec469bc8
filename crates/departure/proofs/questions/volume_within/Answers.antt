-- `departure::questions::volume_within` meets its contract: the walk lists what it marks, so that after a no nothing is marked.
-- Assumes nothing.
use native.Mathlib.Omega.{arith}
use Rattle.cells.proofs.Resets.{unmarked}
use Rattle.departure.proofs.questions.volume_within.Goals as goal

pub unmark-requires : goal.unmark-requires
unmark-requires c =
    let listed = c.volume-size.ensures.listed in
    let few = c.requires.linked.0.few in (
      omega (arith, listed.few, few),
      omega (arith, listed.few, listed.size),
      λ k h. omega (arith, listed.below k h, c.requires.block_in_bounds.1, c.volume-size.auto),
    )

pub returns-then-most-size : goal.returns-then-most-size
returns-then-most-size c = (
  omega (arith, c.volume-size.ensures.count, c.if-most-size.true),
  unmarked c.volume-size.ensures.marked c.volume-size.ensures.listed.has c.unmark.ensures,
)
