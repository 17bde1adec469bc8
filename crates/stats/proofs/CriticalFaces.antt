-- The critical faces of a block: those by serial are those by place, and all places marked are all places. Assumes nothing.
use mathlib.Core.Path.{◌≡◌, refl, sym, ◌∙◌, ap, subst}
use mathlib.Core.Bool.{Bool, true, false, cond}
use mathlib.Core.List.{List, [], ◌∷◌, map}
use Prim.Native.Nat.{ℕ, ◌%◌, ◌≤◌, ◌<◌}
use native.Mathlib.Omega.{arith}
use lib.Dec.{leb, eqb}
use lib.ListN.{length, get_or, replicate, length-map, length-replicate, get_or-replicate}
use borrow.Author.Tests.{eq-eqb, ne_eqb}
use Rattle.model.specs.Lists.{all, keep}
use Rattle.model.specs.Values.{Dart, room}
use Rattle.model.specs.Cells.{cycle, faces, start_of, serials, next_in, third_at}
use Rattle.model.specs.Image.{count_in, column, is_critical_word, dart_in, third_in, block_in, holds_block}
use Rattle.model.specs.Balance.{every, picked}
use Rattle.laws.proofs.Members.{In, in_here, in_there, keep_in, keep_map, keep_each, Each, each_map}
use Rattle.laws.proofs.Tables.{length_tab, map_tab}
use Rattle.laws.proofs.Faces.{start_map}
use Rattle.columns.specs.Columns.{Kind, kind_free, kind_sewn, kind_critical}
use Rattle.columns.proofs.Thirds.{third_free, third_sewn, third_critical}
use Rattle.columns.proofs.Question.{image_passed}
use Rattle.cells.specs.Places.{Linked, Closed, InOrder, marked}
use Rattle.cells.proofs.Reached.{places, places_below}
use Rattle.cells.proofs.Paths.{round}
use Rattle.cells.proofs.Sited.{Sited, darts_in, sited}
use Rattle.cells.proofs.FaceSerials.{faces_carried}
use Rattle.cells.proofs.StartLaws.{in_order_few, start_place, cycle_start}
use Rattle.stats.specs.BlockCounts.{is_critical, critical_faces, critical_at, counts_in, no_counts, block_counts}
use Rattle.stats.specs.declared.counts.BlockCounts.{BlockCounts}
use Rattle.stats.specs.Pieces.{piece_starts}

-- ALL PLACES MARKED
keep_all : (q : ℕ → Bool) (l : List ℕ) → ((x : ℕ) → In x l → q x ≡ true) → keep q l ≡ l
keep_all q [] h = refl
keep_all q (x ∷ l) h = rw (h x (in_here x l)) (ap (λ (t : List ℕ). x ∷ t) (keep_all q l (λ y k. h y (in_there y x l k))))

-- the mark of each place is 1
abbrev all_ones : List ℕ
all_ones = replicate room 1

mark_one : (p : ℕ) → p < room → get_or all_ones p 0 ≡ 1
mark_one p h = get_or-replicate room p 1 0 h

pub ones_long : {n : ℕ} → n ≤ room → n ≤ length all_ones
ones_long h = omega (arith, length-replicate {A = ℕ} room 1)

pub all_marked : (n : ℕ) → n ≤ room → marked n all_ones ≡ places n
unfolding marked
all_marked n few = keep_all (λ p. eqb (get_or all_ones p 0) 1) (places n) (λ p k. eq-eqb (get_or all_ones p 0) 1 (mark_one p (omega (arith, places_below n p k))))

pub all_count : (n : ℕ) → n ≤ room → n ≡ length (marked n all_ones)
all_count n few = sym (ap length (all_marked n few) ∙ length_tab (λ (p : ℕ). p) n)

pub all_closed : {m : List ℕ} {n : ℕ} → Linked m n → Closed n (column m 1) all_ones
all_closed {m} {n} l p h e = mark_one (column m 1 p) (omega (arith, l.next_within p h, l.few))

-- message order of all places
pub order_all : (m : List ℕ) (n : ℕ) {out starts : List ℕ} {darts count : ℕ} → n ≤ room → InOrder (faces (column m 1) (marked n all_ones)) out starts darts count
    → InOrder (faces (column m 1) (places n)) out starts darts count
order_all m n {out} {starts} {darts} {count} few o = subst (λ (l : List ℕ). InOrder (faces (column m 1) l) out starts darts count) (all_marked n few) o

-- it has no more darts or faces than there are places
pub order_few : {m out starts : List ℕ} {n darts count : ℕ} → Linked m n → InOrder (faces (column m 1) (places n)) out starts darts count → (darts ≤ n) × (count ≤ n)
order_few {m} {out} {starts} {n} {darts} {count} l o = in_order_few n (column m 1) all_ones l.few l.next_within l.next_apart
    (subst (λ (ps : List ℕ). InOrder (faces (column m 1) ps) out starts darts count) (sym (all_marked n l.few)) o)

-- the first dart of face k, in the arrays
pub first_dart : {m out starts : List ℕ} {n darts count : ℕ} → Linked m n → InOrder (faces (column m 1) (places n)) out starts darts count → (k : ℕ) → k < count
    → (get_or starts k 0 < darts) × (get_or out (get_or starts k 0) 0 ≡ start_of (get_or (faces (column m 1) (places n)) k [])) × (get_or out (get_or starts k 0) 0 < n)
first_dart {m} {out} {starts} {n} {darts} {count} l o k h =
    let e = all_marked n l.few in
    let r = start_place n (column m 1) all_ones l.few l.next_within l.next_apart (subst (λ (ps : List ℕ). InOrder (faces (column m 1) ps) out starts darts count) (sym e) o) k h in
    (r.0, r.1 ∙ ap (λ (ps : List ℕ). start_of (get_or (faces (column m 1) ps) k [])) e, r.2)

-- FROM PLACES TO SERIALS
critical_third : (s : ℕ → ℕ) (k a : ℕ) → Kind k a → is_critical (third_in s k a) ≡ is_critical_word k
critical_third s k a (kind_free e f) = rw (third_free s k a e, ne_eqb (k % 4) 2 (λ x. omega arith))
critical_third s k a (kind_sewn e) = rw (third_sewn s k a e, ne_eqb (k % 4) 2 (λ x. omega arith))
critical_third s k a (kind_critical e f g) = rw (third_critical s k a e, e)

module _ (m : List ℕ) (ok : holds_block m ≡ true) where
  abbrev site : Sited m
  site = sited m ok

  abbrev ds : List Dart
  ds = darts_in m

  serials_are : serials ds ≡ map (column m 0) (places (count_in m))
  serials_are = map_tab (λ d. d.serial) (dart_in m) (count_in m) ∙ sym (map_tab (column m 0) (λ p. p) (count_in m))

  critical_is : (p : ℕ) → p < count_in m → is_critical (third_at ds (column m 0 p)) ≡ critical_at m p
  critical_is p h = ap is_critical (site.third_is p h) ∙ critical_third (column m 0) (column m 3 p) (column m 4 p) ((image_passed m ok).range.kinds p h)

  -- a face: it has darts, and its start is a place
  abbrev Face : List ℕ → Type 0
  Face f = (0 < length f) × (start_of f < count_in m)

  faces_are : Each Face (faces (column m 1) (places (count_in m)))
  unfolding faces
  faces_are = each_map Face (cycle (column m 1)) (keep (λ x. all (leb x) (cycle (column m 1) x)) (places (count_in m)))
      (λ x k. let h = places_below (count_in m) x (keep_in (λ x. all (leb x) (cycle (column m 1) x)) (places (count_in m)) x k).0 in
      let r = round site.linked.few site.linked.next_within site.linked.next_apart x h in
      (r.some, omega (arith, cycle_start r)))

  by_place : critical_faces ds ≡ map (map (column m 0)) (keep (λ f. critical_at m (start_of f)) (faces (column m 1) (places (count_in m))))
  unfolding critical_faces
  by_place =
      let test : List ℕ → Bool = λ f. is_critical (third_at ds (start_of f)) in
      let fs = faces (column m 1) (places (count_in m)) in
      ap (λ (l : List ℕ). keep test (faces (next_in ds) l)) serials_are
      ∙ ap (keep test) (faces_carried site (places (count_in m)) (places_below (count_in m)))
      ∙ keep_map test (map (column m 0)) fs
      ∙ ap (map (map (column m 0))) (keep_each Face (λ f. test (map (column m 0) f)) (λ f. critical_at m (start_of f)) fs faces_are
      (λ f w. ap (λ (x : ℕ). is_critical (third_at ds x)) (start_map (column m 0) f w.0) ∙ critical_is (start_of f) w.1))

  pub critical_count : length (keep (λ f. critical_at m (start_of f)) (faces (column m 1) (places (count_in m)))) ≡ length (critical_faces ds)
  critical_count = sym (ap length by_place ∙ length-map (keep (λ f. critical_at m (start_of f)) (faces (column m 1) (places (count_in m)))) (map (column m 0)))

  -- THE COUNTS
  pub counts_sound : {v j c : ℕ} → v ≡ length (picked every ds) → j ≡ length (piece_starts ds) → c ≡ length (critical_faces ds)
      → ◌≡◌ {A = BlockCounts} (record { darts = get_or m 2 0; volumes = v; pieces = j; critical = c; counter = get_or m 1 0 }) (block_counts m)
  unfolding block_counts
  counts_sound {v} {j} {c} ev ej ec =
      (λ i. record { darts = sym (length_tab (dart_in m) (count_in m)) i; volumes = ev i; pieces = ej i; critical = ec i; counter = get_or m 1 0 })
      ∙ ap (λ (b : Bool). cond b (counts_in (block_in m)) no_counts) (sym ok)

pub counts_unsound : (m : List ℕ) → holds_block m ≡ false → no_counts ≡ block_counts m
unfolding block_counts
counts_unsound m no_image = ap (λ (b : Bool). cond b (counts_in (block_in m)) no_counts) (sym no_image)
