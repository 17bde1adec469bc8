-- `saving::commit::word_in` meets its contract. Assumes nothing.
use Rattle.std.proofs.Common.{rules, arith}
use Rattle.saving.proofs.Commits.{word_short, word_by}
use Rattle.saving.proofs.commit.word_in.Goals as goal

pub returns-then-commit-i : goal.returns-then-commit-i
returns-then-commit-i c =
    word_short _ _ (omega arith)

pub returns : goal.returns
returns c =
    word_by _ _ c.read_coordinate.result c.read_coordinate.ensures c.map_or.ensures (λ x e. search rules)
