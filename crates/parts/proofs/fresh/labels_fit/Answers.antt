-- `parts::fresh::labels_fit` meets its contract.
-- Assumes nothing.
use mathlib.Core.Path.{sym, ◌∙◌}
use Rattle.parts.proofs.FreshSteps.{own_no, twice_no, clear_is, value_small}
use native.Mathlib.Omega.{arith}
use Rattle.parts.proofs.fresh.labels_fit.Goals as goal

pub returns-then-not-all_own : goal.returns-then-not-all_own
returns-then-not-all_own c =
    let block = c.args.block.now in
    let n = c.args.n in
    let kinds = c.args.kinds.now in
    let links = c.args.links.now in
    let k = c.args.k in
    own_no block n kinds links k (sym c.all_own.ensures ∙ c.if-not-all_own.true)

pub put_values-requires : goal.put_values-requires
put_values-requires c =
    (c.requires.n_in_bounds.2, c.requires.n_in_bounds.3, c.requires.k_in_bounds.0, c.requires.n_in_bounds.5)

pub rank-requires : goal.rank-requires
rank-requires c =
    record {
      le_k = (
        c.requires.n_in_bounds.4,
        c.requires.n_in_bounds.5,
        omega (arith, c.put_values.auto, c.requires.k_in_bounds.0),
        value_small c.put_values.ensures c.requires.n_in_bounds.5 c.requires.by_index,
      );
      k_in_bounds = (c.requires.k_in_bounds.1, c.requires.k_in_bounds.2, c.requires.k_in_bounds.3);
    }

pub returns-then-not-rank : goal.returns-then-not-rank
returns-then-not-rank c =
    let block = c.args.block.now in
    let n = c.args.n in
    let kinds = c.args.kinds.now in
    let links = c.args.links.now in
    let k = c.args.k in
    twice_no block n kinds links k c.put_values.ensures (sym c.rank.ensures.answer ∙ c.if-not-rank.true)

pub all_clear-requires : goal.all_clear-requires
all_clear-requires c = (
  c.requires.n_in_bounds.0,
  c.requires.n_in_bounds.1,
  omega (arith, c.rank.auto, c.requires.k_in_bounds.1),
  c.requires.n_in_bounds.5,
  (c.rank.ensures.ranked c.if-not-rank.false).ascends,
)

pub returns : goal.returns
returns c =
    let block = c.args.block.now in
    let n = c.args.n in
    let kinds = c.args.kinds.now in
    let links = c.args.links.now in
    let k = c.args.k in
    clear_is block n kinds links k (sym c.all_own.ensures ∙ c.if-not-all_own.false) c.put_values.ensures
    (sym c.rank.ensures.answer ∙ c.if-not-rank.false) (c.rank.ensures.ranked c.if-not-rank.false) c.all_clear.ensures
