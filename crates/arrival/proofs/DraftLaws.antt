-- A draft is a block's memory whose links stay within it, and its darts are those of the transfer. Assumes nothing.
use mathlib.Core.Path.{◌≡◌, sym, ◌∙◌, ap, subst}
use mathlib.Core.List.{List}
use Prim.Native.Nat.{ℕ, ◌<◌}
use native.Mathlib.Omega.{arith}
use lib.ListN.{get_or}
use Rattle.model.specs.Values.{Dart}
use Rattle.model.specs.Cells.{dart_at}
use Rattle.model.specs.Image.{count_in, column, dart_in}
use Rattle.laws.specs.Order.{Ascending}
use Rattle.laws.proofs.Tables.{dart_place, one_place}
use Rattle.memory.specs.Record.{record_in}
use Rattle.memory.specs.declared.record.Record.{Record}
use Rattle.cells.specs.Places.{Linked}
use Rattle.cells.proofs.Sited.{Sited, darts_in}
use Rattle.ranking.specs.Ranks.{value_at, index_at}
use Rattle.arrival.specs.Sides.{next_index, pair_at, reverse_at}
use Rattle.arrival.specs.Draft.{draft_record, Draft}
use Rattle.arrival.proofs.SegmentLaws.{next_below, next_apart}

module _ {v x b z keys ranks q s : List ℕ} {from k : ℕ} {m : List ℕ} (w : Draft v x b z keys ranks q s from k m) where
  row : (p : ℕ) → p < k → record_in m p ≡ draft_record v b z keys ranks q s from p
  row = w.drafted.rows

  next_is : (p : ℕ) → p < k → column m 1 p ≡ get_or ranks (next_index b z (index_at keys p)) 0
  next_is p h = ap (λ (r : Record). r.next) (row p h)

  opposite_is : (p : ℕ) → p < k → column m 2 p ≡ get_or ranks (get_or q (index_at keys p) 0) 0
  opposite_is p h = ap (λ (r : Record). r.opposite) (row p h)

  pub serial_at : (p : ℕ) → p < k → column m 0 p ≡ value_at keys p
  serial_at p h = ap (λ (r : Record). r.serial) (row p h)

  ranks_apart : (i j : ℕ) → i < k → j < k → get_or ranks i 0 ≡ get_or ranks j 0 → i ≡ j
  ranks_apart i j hi hj e = sym (w.ranked.index_rank i hi) ∙ ap (index_at keys) e ∙ w.ranked.index_rank j hj

  indices_apart : (p r : ℕ) → p < k → r < k → index_at keys p ≡ index_at keys r → p ≡ r
  indices_apart p r hp hr e = sym (w.ranked.rank_index p hp) ∙ ap (λ (i : ℕ). get_or ranks i 0) e ∙ w.ranked.rank_index r hr

  -- opposites differ: their pairs are the reverses of pairs that differ
  opposites_apart : (i j : ℕ) → i < k → j < k → get_or q i 0 ≡ get_or q j 0 → i ≡ j
  opposites_apart i j hi hj e =
      let r : reverse_at v b z i ≡ reverse_at v b z j = w.opposed.reversed i hi ∙ ap (pair_at v b z) e ∙ sym (w.opposed.reversed j hj) in
      w.once i j hi hj (omega (arith, r, w.small i hi, w.small j hj, w.small (next_index b z i) (next_below w.segs i hi), w.small (next_index b z j) (next_below w.segs j hj)))

  pub links : Linked m k
  links = record {
    few = omega (arith, w.few);
    size = w.drafted.size;
    next_within = λ p h. let r = w.ranked.rank_below (next_index b z (index_at keys p)) (next_below w.segs (index_at keys p) (w.ranked.index_below p h)) in omega (arith, r, next_is p h);
    next_apart = λ p r hp hr e. indices_apart p r hp hr (next_apart w.segs _ _ (w.ranked.index_below p hp) (w.ranked.index_below r hr)
        (ranks_apart _ _ (next_below w.segs _ (w.ranked.index_below p hp)) (next_below w.segs _ (w.ranked.index_below r hr)) (sym (next_is p hp) ∙ e ∙ next_is r hr)));
    opposite_within = λ p h. let r = w.ranked.rank_below (get_or q (index_at keys p) 0) (w.opposed.below (index_at keys p) (w.ranked.index_below p h)) in omega (arith, r, opposite_is p h);
    opposite_apart = λ p r hp hr e. indices_apart p r hp hr (opposites_apart _ _ (w.ranked.index_below p hp) (w.ranked.index_below r hr)
        (ranks_apart _ _ (w.opposed.below _ (w.ranked.index_below p hp)) (w.opposed.below _ (w.ranked.index_below r hr)) (sym (opposite_is p hp) ∙ e ∙ opposite_is r hr)));
    sewn_within = λ p h e. let z : column m 3 p ≡ 0 = ap (λ (r : Record). r.kind) (row p h) in absurd (omega (arith, z, e));
  }

  ascends : Ascending k (column m 0)
  ascends i j h l = omega (arith, w.ranked.ascends i j h l, serial_at i (omega (arith, h, l)), serial_at j l)

  pub sited : Sited m
  sited = record {
    linked = subst (Linked m) (sym w.drafted.count_is) links;
    ascends = up;
    next_is = λ p h. sym (ap (λ (d : Dart). d.next) (here p h));
    opposite_is = λ p h. sym (ap (λ (d : Dart). d.opposite) (here p h));
    third_is = λ p h. ap (λ (d : Dart). d.third) (here p h);
  }
    where
      up : Ascending (count_in m) (column m 0)
      up = subst (λ (n : ℕ). Ascending n (column m 0)) (sym w.drafted.count_is) ascends

      here : (p : ℕ) → p < count_in m → dart_at (darts_in m) (column m 0 p) ≡ dart_in m p
      here p h = dart_place (dart_in m) (count_in m) p up h

  -- the serial at the rank of an index
  pub serial_of : (i : ℕ) → i < k → column m 0 (get_or ranks i 0) ≡ get_or x i 0
  serial_of i h =
      let r = w.ranked.rank_below i h in
      serial_at (get_or ranks i 0) r ∙ w.ranked.value_is (get_or ranks i 0) r ∙ ap (λ (j : ℕ). get_or x j 0) (w.ranked.index_rank i h)

  pub serials_differ : (i j : ℕ) → i < k → j < k → get_or x i 0 ≡ get_or x j 0 → i ≡ j
  serials_differ i j hi hj e = ranks_apart i j hi hj (one_place ascends (w.ranked.rank_below i hi) (w.ranked.rank_below j hj) (serial_of i hi ∙ e ∙ sym (serial_of j hj)))
