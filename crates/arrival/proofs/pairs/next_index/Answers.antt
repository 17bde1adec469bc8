-- `arrival::pairs::next_index` meets its contract.
-- Assumes nothing.
use mathlib.Core.Path.{◌∙◌}
use Rattle.arrival.proofs.Steps.{next_last, next_inner}
use native.Mathlib.Omega.{arith}
use Rattle.arrival.proofs.pairs.next_index.Goals as goal

pub overflow_add-start : goal.overflow_add-start
overflow_add-start c =
    omega (arith, c.index_at-start.ensures, c.size_at-size.ensures, c.requires.2, c.requires.3)

pub returns-then-next-start : goal.returns-then-next-start
returns-then-next-start c =
    c.index_at-start.ensures ∙ next_last c.args.starts.now c.args.sizes.now c.args.i.0
    (omega (arith, c.index_at-start.ensures, c.size_at-size.ensures, c.if-next-start.true))

pub returns : goal.returns
returns c =
    next_inner c.args.starts.now c.args.sizes.now c.args.i.0
    (λ e. c.if-next-start.false (omega (arith, e, c.index_at-start.ensures, c.size_at-size.ensures)))
