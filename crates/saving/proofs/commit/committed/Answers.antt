-- `saving::commit::committed` meets its contract. Assumes nothing.
use Rattle.saving.proofs.Commits.{committed_none, committed_many, committed_cut, committed_all}
use native.Mathlib.Omega.{arith}
use Rattle.saving.proofs.commit.committed.Goals as goal

pub returns-then-k-eq0 : goal.returns-then-k-eq0
returns-then-k-eq0 c =
    committed_none _ _ c.word_in-k.ensures c.if-k-eq0.true

pub returns-then-k-gt-BLOCKS : goal.returns-then-k-gt-BLOCKS
returns-then-k-gt-BLOCKS c =
    committed_many _ _ c.word_in-k.ensures c.if-k-gt-BLOCKS.true

pub returns-then-commit-n : goal.returns-then-commit-n
returns-then-commit-n c =
    committed_cut _ _ c.word_in-k.ensures (omega arith) (omega arith) c.if-commit-n.true

pub returns : goal.returns
returns c =
    committed_all _ _ c.word_in-k.ensures (omega arith) (omega arith) c.if-commit-n.false
