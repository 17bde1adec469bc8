-- `balance::nextmove::signed_word` meets its contract. Assumes nothing.
use mir.Syntax.{w32}
use mir.ValLaws.{to_z-of_z}
use Rattle.balance.proofs.SurplusLaws.{word_fits, word_above, less_fits, less_word, less_small, word_below}
use borrow.Author.Rules.{rules}
use Rattle.balance.proofs.nextmove.signed_word.Goals as goal

pub overflow_cast-result : goal.overflow_cast-result
overflow_cast-result c =
    word_fits (to_z-of_z w32 c.args.x (search rules)) (search rules) c.if-x-ge0.true

pub returns-then-x-ge0 : goal.returns-then-x-ge0
returns-then-x-ge0 c =
    word_above (to_z-of_z w32 c.args.x (search rules)) (search rules) c.if-x-ge0.true

pub overflow_sub-result : goal.overflow_sub-result
overflow_sub-result c =
    less_fits (to_z-of_z w32 c.args.x (search rules)) (search rules) c.if-x-ge0.false

pub overflow_cast-result-2 : goal.overflow_cast-result-2
overflow_cast-result-2 c =
    less_word (to_z-of_z w32 c.args.x (search rules)) (search rules) c.if-x-ge0.false

pub overflow_sub-result-2 : goal.overflow_sub-result-2
overflow_sub-result-2 c =
    less_small (to_z-of_z w32 c.args.x (search rules)) (search rules) c.if-x-ge0.false

pub returns : goal.returns
returns c =
    word_below (to_z-of_z w32 c.args.x (search rules)) (search rules) c.if-x-ge0.false
