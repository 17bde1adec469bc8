-- `arrival::draft::record_of` meets its contract.
-- Assumes nothing.
use Rattle.arrival.proofs.SegmentLaws.{next_below}
use Rattle.arrival.proofs.Drafting.{index_fits, finite_read, words_read, record_told}
use Rattle.model.specs.Values.{Point as Patterns}
use mathlib.Core.Path.{◌∙◌, ap}
use native.Mathlib.Omega.{arith}
use Rattle.arrival.proofs.draft.record_of.Goals as goal

pub offset_bounds-keys-at : goal.offset_bounds-keys-at
offset_bounds-keys-at c =
    omega (arith, c.requires.draftable.few, c.requires.k_in_bounds.6)

pub bounds-keys-at : goal.bounds-keys-at
bounds-keys-at c =
    omega (arith, c.requires.draftable.few, c.requires.k_in_bounds.6, c.requires.k_in_bounds.3)

pub index_of-i-requires : goal.index_of-i-requires
index_of-i-requires c =
    omega (arith, c.requires.draftable.few, c.requires.k_in_bounds.6, c.requires.k_in_bounds.3)

pub next_index-next-requires : goal.next_index-next-requires
next_index-next-requires c =
    let i = index_fits c.requires.draftable c.requires.k_in_bounds.6 c.index_of-i.ensures in
    let a = c.requires.draftable.segs.start_le _ i in
    let e = c.requires.draftable.segs.end_within _ i in
    let f = c.requires.draftable.few in
    (omega (arith, i, c.requires.k_in_bounds.1), omega (arith, i, c.requires.k_in_bounds.2), omega (arith, a, i, f), omega (arith, e, f))

pub index_at-other-requires : goal.index_at-other-requires
index_at-other-requires c =
    let i = index_fits c.requires.draftable c.requires.k_in_bounds.6 c.index_of-i.ensures in
    omega (arith, i, c.requires.draftable.few, c.requires.k_in_bounds.5)

pub rank_at-after-requires : goal.rank_at-after-requires
rank_at-after-requires c =
    let i = index_fits c.requires.draftable c.requires.k_in_bounds.6 c.index_of-i.ensures in
    let n = next_below c.requires.draftable.segs _ i in
    omega (arith, n, c.requires.draftable.few, c.next_index-next.ensures, c.requires.k_in_bounds.4)

pub rank_at-beside-requires : goal.rank_at-beside-requires
rank_at-beside-requires c =
    let i = index_fits c.requires.draftable c.requires.k_in_bounds.6 c.index_of-i.ensures in
    omega (arith, c.requires.draftable.opposite_below _ i, c.requires.draftable.few, c.index_at-other.ensures, c.requires.k_in_bounds.4)

pub bounds-vertex-n : goal.bounds-vertex-n
bounds-vertex-n c =
    let i = index_fits c.requires.draftable c.requires.k_in_bounds.6 c.index_of-i.ensures in
    omega (arith, i, c.requires.draftable.few, c.requires.k_in_bounds.0)

pub overflow_mul-vertex : goal.overflow_mul-vertex
overflow_mul-vertex c =
    let i = index_fits c.requires.draftable c.requires.k_in_bounds.6 c.index_of-i.ensures in
    omega (arith, c.requires.draftable.point_fits _ i)

pub overflow_add-from : goal.overflow_add-from
overflow_add-from c =
    let i = index_fits c.requires.draftable c.requires.k_in_bounds.6 c.index_of-i.ensures in
    omega (arith, c.requires.draftable.point_fits _ i)

pub point_in-point-requires : goal.point_in-point-requires
point_in-point-requires c =
    let i = index_fits c.requires.draftable c.requires.k_in_bounds.6 c.index_of-i.ensures in
    (omega (arith, c.requires.draftable.point_fits _ i), c.requires.draftable.point_finite _ i)

pub pattern-requires : goal.pattern-requires
pattern-requires c =
    let i = index_fits c.requires.draftable c.requires.k_in_bounds.6 c.index_of-i.ensures in
    (finite_read (c.requires.draftable.point_finite _ i) c.point_in-point.ensures).on_x

pub pattern-requires-2 : goal.pattern-requires-2
pattern-requires-2 c =
    let i = index_fits c.requires.draftable c.requires.k_in_bounds.6 c.index_of-i.ensures in
    (finite_read (c.requires.draftable.point_finite _ i) c.point_in-point.ensures).on_y

pub pattern-requires-3 : goal.pattern-requires-3
pattern-requires-3 c =
    let i = index_fits c.requires.draftable c.requires.k_in_bounds.6 c.index_of-i.ensures in
    (finite_read (c.requires.draftable.point_finite _ i) c.point_in-point.ensures).on_z

pub returns : goal.returns
returns c =
    let i = index_fits c.requires.draftable c.requires.k_in_bounds.6 c.index_of-i.ensures in
    let words = words_read (c.requires.draftable.point_finite _ i) c.point_in-point.ensures in
    record_told c.args.vertex.now c.args.starts.now c.args.sizes.now c.args.keys.now c.args.ranks.now
    c.args.opposite.now c.args.message.now c.args.from c.args.p.0 c.index_of-i.ensures c.next_index-next.ensures
    c.index_at-other.ensures c.rank_at-after.ensures c.rank_at-beside.ensures (c.pattern.ensures ∙ ap (λ (w : Patterns). w.x) words)
    (c.pattern-2.ensures ∙ ap (λ (w : Patterns). w.y) words) (c.pattern-3.ensures ∙ ap (λ (w : Patterns). w.z) words)
