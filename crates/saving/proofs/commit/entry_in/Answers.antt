-- `saving::commit::entry_in` meets its contract. Assumes nothing.
use Rattle.saving.proofs.Commits.{entry_short, entry_words}
use native.Mathlib.Omega.{arith}
use Rattle.saving.proofs.commit.entry_in.Goals as goal

pub returns-then-commit-b : goal.returns-then-commit-b
returns-then-commit-b c =
    entry_short _ _ (omega arith)

pub returns : goal.returns
returns c =
    entry_words _ _ _ _ c.word_in.ensures c.word_in-2.ensures
