-- `arrival::pairs::paired` meets its contract.
-- Assumes nothing.
use mathlib.Core.Path.{sym, ◌∙◌}
use Rattle.arrival.proofs.EdgeLaws.{ranked_apart}
use Rattle.arrival.proofs.Steps.{paired_ends, paired_twice, paired_found, pair_fits}
use native.Mathlib.Omega.{arith}
use Rattle.arrival.proofs.pairs.paired.Goals as goal

pub returns-then-not-put_pairs : goal.returns-then-not-put_pairs
returns-then-not-put_pairs c =
    let vertex = c.args.vertex.now in
    let starts = c.args.starts.now in
    let sizes = c.args.sizes.now in
    let k = c.args.k in
    paired_ends vertex starts sizes k (sym c.put_pairs.ensures.0 ∙ c.if-not-put_pairs.true)

pub rank-requires : goal.rank-requires
rank-requires c =
    let vertex = c.args.vertex.now in
    let starts = c.args.starts.now in
    let sizes = c.args.sizes.now in
    let k = c.args.k in
    record {
      le_k = (
        c.requires.k_in_bounds.4,
        c.requires.k_in_bounds.5,
        omega (arith, c.put_pairs.auto.pairs, c.requires.k_in_bounds_2.0),
        pair_fits vertex starts sizes k c.requires.segments.0 c.requires.segments.1 c.put_pairs.new.pairs
            c.put_pairs.ensures.1,
      );
      k_in_bounds = (c.requires.k_in_bounds_2.1, c.requires.k_in_bounds_2.2, c.requires.k_in_bounds_2.3);
    }

pub returns-then-not-rank : goal.returns-then-not-rank
returns-then-not-rank c =
    let vertex = c.args.vertex.now in
    let starts = c.args.starts.now in
    let sizes = c.args.sizes.now in
    let k = c.args.k in
    paired_twice vertex starts sizes k c.requires.segments.0 c.requires.segments.1 c.put_pairs.new.pairs
    c.put_pairs.ensures.1 (sym c.rank.ensures.answer ∙ c.if-not-rank.true)

pub edges-requires : goal.edges-requires
edges-requires c =
    let w = c.rank.ensures.ranked c.if-not-rank.false in
    record {
      k_in_bounds = (
        omega (arith, c.rank.auto.keys, c.requires.k_in_bounds_2.1),
        λ p h. omega (arith, w.index_below p h, c.requires.k_in_bounds.3),
        w.ascends,
      );
      by_index = ranked_apart w;
    }

pub returns : goal.returns
returns c =
    let vertex = c.args.vertex.now in
    let starts = c.args.starts.now in
    let sizes = c.args.sizes.now in
    let k = c.args.k in
    paired_found vertex starts sizes k c.requires.segments.0 c.requires.segments.1 c.put_pairs.new.pairs
    c.put_pairs.ensures.1 (sym c.put_pairs.ensures.0 ∙ c.if-not-put_pairs.false) (sym c.rank.ensures.answer ∙ c.if-not-rank.false)
    (c.rank.ensures.ranked c.if-not-rank.false) c.edges.ensures
