-- `memory::header::empty_by` meets its contract: each answer is that of the first question that is answered no.
-- Assumes nothing.
use mathlib.Core.Path.{◌∙◌}
use Rattle.memory.specs.Header.{limits_of}
use Rattle.memory.proofs.Headers.{refused_size, refused_number, served_empty}
use native.Mathlib.Omega.{arith}
use Rattle.memory.proofs.header.empty_by.Goals as goal

pub returns-then-block-words : goal.returns-then-block-words
returns-then-block-words c =
    refused_size (limits_of c.args.limits) _ _ (λ e. omega (arith, e, c.words.ensures, c.if-block-words.true))

pub returns-then-number-ge-BLOCKS : goal.returns-then-number-ge-BLOCKS
returns-then-number-ge-BLOCKS c =
    refused_number (limits_of c.args.limits) _ _ (c.if-block-words.false ∙ c.words.ensures) (omega arith)

pub make_empty-requires : goal.make_empty-requires
make_empty-requires c =
    omega (arith, c.words.ensures, c.if-block-words.false)

pub returns : goal.returns
returns c =
    served_empty (limits_of c.args.limits) _ _ (c.if-block-words.false ∙ c.words.ensures) (omega arith) c.make_empty.ensures
