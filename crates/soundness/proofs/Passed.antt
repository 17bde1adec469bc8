-- What questions 17 to 21 say of a transfer that passes them, one by one. Assumes nothing.
use mathlib.Core.Path.{◌≡◌}
use mathlib.Core.Logic.{◌≢◌}
use mathlib.Core.Bool.{true, false, not, ◌&&◌}
use mathlib.Core.List.{List, ◌++◌, map, append_assoc}
use Prim.Native.Nat.{ℕ, ◌+◌, ◌≤◌, ◌<◌}
use native.Mathlib.Omega.{arith}
use lib.Dec.{leb, eqb}
use lib.ListN.{length}
use borrow.Author.Tests.{eqb-true, eqb-false, leb-true, not-true}
use Rattle.model.specs.Lists.{all, mem, distinct, ascending, first_no}
use Rattle.model.specs.Values.{Block, Limits, finite, serial_bound}
use Rattle.model.specs.Cells.{held, serials}
use Rattle.model.specs.Messages.{Part2, Part4, Transfer, size_all, a_transfer}
use Rattle.model.specs.Arrival.{Side, sides_of, sides, placed_faces, addressed, serials_new, faces_ordered, pairs_right, one_volume, volume_right, indices_right, part2_right, part2_apart, consecutive, labels_new, parts_right, receive_checks}
use Rattle.laws.proofs.Members.{In, all_in}
use Rattle.laws.proofs.Tests.{and_left, and_right, yes_first}
use Rattle.soundness.proofs.Fits.{Fits}
use Rattle.soundness.proofs.NewDarts.{new_serials, new_side, side_face, sides_serials}
use Rattle.soundness.proofs.Rows.{Elem, all_elem, elem_key, key_row}
use Rattle.soundness.proofs.Starts.{starts}

abbrev pub indices2 : Transfer → List ℕ
indices2 t = map (λ m. m.index) t.part2

abbrev pub indices3 : Transfer → List ℕ
indices3 t = map (λ m. m.index) t.part3

abbrev pub indices4 : Transfer → List ℕ
indices4 t = map (λ m. m.index) t.part4

abbrev pub all_indices : Transfer → List ℕ
all_indices t = indices2 t ++ (indices3 t ++ indices4 t)

pub record Passed (lim : Limits) (b : Block) (t : Transfer) : Type 0 where
  pub to_here : t.to ≡ b.number
  pub from_other : t.from ≢ b.number
  pub points_finite : all finite t.points ≡ true
  pub low : (a : Side) → Elem a (sides t) → 1 ≤ a.serial
  pub absent : (x : ℕ) → In x (new_serials t) → mem x (serials b.darts) ≡ false
  pub once : distinct (new_serials t) ≡ true
  pub ordered : faces_ordered t ≡ true
  pub pairs : pairs_right (sides t) ≡ true
  pub index_starts : (i : ℕ) → In i (all_indices t) → In i (starts t)
  pub indices_once : distinct (all_indices t) ≡ true
  pub meets : (m : Part2) → Elem m t.part2 → part2_right b.darts t m ≡ true
  pub meets_apart : part2_apart b.darts t.part2 ≡ true
  pub labels_fresh : labels_new b t ≡ true
  pub others : (k : Part4) → Elem k t.part4 → k.other ≢ t.to
  pub room : length b.darts + size_all t.faces ≤ lim.block_darts

module _ (lim : Limits) (b : Block) (t : Transfer) where
  seventeen : addressed t.from t.to b ≡ true → (t.to ≡ b.number) × (t.from ≢ b.number)
  seventeen e = (eqb-true t.to b.number (and_left (eqb t.to b.number) _ e), eqb-false t.from b.number (not-true _ (and_right (eqb t.to b.number) _ e)))

  pub record Eighteen : Type 0 where
    pub points_finite : all finite t.points ≡ true
    pub low : (a : Side) → Elem a (sides t) → 1 ≤ a.serial
    pub absent : (x : ℕ) → In x (new_serials t) → mem x (serials b.darts) ≡ false
    pub once : distinct (new_serials t) ≡ true

  pub eighteen : serials_new b.darts t ≡ true → Eighteen
  unfolding serials_new
  eighteen e =
      let two = all finite t.points && all (λ a. leb 1 a.serial && not (held b.darts a.serial)) (sides t) in
      let q = and_left two _ e in
      let sides-right = all_elem (λ a. leb 1 a.serial && not (held b.darts a.serial)) (sides t) (and_right (all finite t.points) _ q) in
      record {
        points_finite = and_left (all finite t.points) _ q;
        low = λ a h. leb-true 1 a.serial (and_left (leb 1 a.serial) _ (sides-right a h));
        absent = λ x h. let r = new_side t x h in rw r.2 (not-true _ (and_right (leb 1 r.0.serial) _ (sides-right r.0 r.1)));
        once = and_right two _ e;
      }

  nineteen : volume_right t ≡ true → (faces_ordered t ≡ true) × (pairs_right (sides t) ≡ true)
  unfolding volume_right
  nineteen e =
      let q = and_left (faces_ordered t && pairs_right (sides t)) _ (and_left (faces_ordered t && pairs_right (sides t) && one_volume t) _ e) in
      (and_left (faces_ordered t) _ q, and_right (faces_ordered t) _ q)

  indices : indices_right t ≡ true → ((i : ℕ) → In i (all_indices t) → In i (starts t)) × (distinct (all_indices t) ≡ true)
  unfolding indices_right
  indices e =
      let one = all (λ i. mem i (map (λ p. p.at) (placed_faces t))) (indices2 t ++ indices3 t ++ indices4 t) in
      let two = one && ascending (indices2 t) in
      let three = two && ascending (indices3 t) in
      let four = three && ascending (indices4 t) in
      let same = append_assoc (indices2 t) (indices3 t) (indices4 t) in
      (λ i h. all_in _ (indices2 t ++ indices3 t ++ indices4 t) (and_left one _ (and_left two _ (and_left three _ (and_left four _ e)))) i (rw same h), rw (← same) (and_right four _ e))

  record Twenty : Type 0 where
    index_starts : (i : ℕ) → In i (all_indices t) → In i (starts t)
    indices_once : distinct (all_indices t) ≡ true
    meets : (m : Part2) → Elem m t.part2 → part2_right b.darts t m ≡ true
    meets_apart : part2_apart b.darts t.part2 ≡ true
    labels_fresh : labels_new b t ≡ true
    others : (k : Part4) → Elem k t.part4 → k.other ≢ t.to

  twenty : parts_right b t ≡ true → Twenty
  unfolding parts_right
  twenty e =
      let two = indices_right t && all (part2_right b.darts t) t.part2 in
      let three = two && part2_apart b.darts t.part2 in
      let four = three && consecutive t.part3 in
      let five = four && labels_new b t in
      let e5 = and_left five _ e in
      let e3 = and_left three _ (and_left four _ e5) in
      let e2 = and_left two _ e3 in
      let i = indices (and_left (indices_right t) _ e2) in
      let ends = all_elem (λ k. not (eqb k.other t.from) && not (eqb k.other t.to)) t.part4 (and_right five _ e) in
      record {
        index_starts = i.0;
        indices_once = i.1;
        meets = all_elem (part2_right b.darts t) t.part2 (and_right (indices_right t) _ e2);
        meets_apart = and_right two _ e3;
        labels_fresh = and_right four _ e5;
        others = λ k h. eqb-false k.other t.to (not-true _ (and_right (not (eqb k.other t.from)) _ (ends k h)));
      }

  pub passed : first_no (receive_checks lim b (a_transfer t)) ≡ 0 → Passed lim b t
  unfolding receive_checks
  passed e =
      let q17 = yes_first 17 (addressed t.from t.to b) _ (λ z. omega arith) e in
      let q29 = yes_first 29 (leb (size_all t.faces) lim.volume_darts) _ (λ z. omega arith) q17.1 in
      let q18 = yes_first 18 (serials_new b.darts t) _ (λ z. omega arith) q29.1 in
      let q19 = yes_first 19 (volume_right t) _ (λ z. omega arith) q18.1 in
      let q20 = yes_first 20 (parts_right b t) _ (λ z. omega arith) q19.1 in
      let q21 = yes_first 21 (leb (length b.darts + size_all t.faces) lim.block_darts) _ (λ z. omega arith) q20.1 in
      let a = seventeen q17.0 in
      let s = eighteen q18.0 in
      let v = nineteen q19.0 in
      let p = twenty q20.0 in
      record {
        to_here = a.0;
        from_other = a.1;
        points_finite = s.points_finite;
        low = s.low;
        absent = s.absent;
        once = s.once;
        ordered = v.0;
        pairs = v.1;
        index_starts = p.index_starts;
        indices_once = p.indices_once;
        meets = p.meets;
        meets_apart = p.meets_apart;
        labels_fresh = p.labels_fresh;
        others = p.others;
        room = leb-true (length b.darts + size_all t.faces) lim.block_darts q21.0;
      }

-- serials of the new darts are small, as those of the faces are
pub high : (t : Transfer) → Fits t → (a : Side) → Elem a (sides t) → a.serial < serial_bound
high t F a h =
    let f = side_face t a h in
    let c = key_row (λ c. c.serial) a.serial f.0 (rw (← sides_serials f.0) (elem_key (λ a. a.serial) a (sides_of f.0) f.2)) in
    rw c.2 (F.serial_small f.0 f.1 c.0 c.1)
