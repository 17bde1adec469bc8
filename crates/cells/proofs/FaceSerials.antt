-- From places to serials: message order by place is message order by serial. Assumes nothing.
use mathlib.Core.Path.{◌≡◌, refl, sym, ◌∙◌, ap}
use mathlib.Core.List.{List, [], ◌∷◌, map}
use Prim.Native.Nat.{ℕ, ◌+◌, ◌<◌}
use native.Mathlib.Omega.{arith}
use lib.Dec.{leb}
use lib.ListN.{length, get_or, length-map}
use borrow.Author.Tests.{eqb-true, eq-eqb, leb-true, leb-false, le-leb, lt-leb}
use Rattle.model.specs.Lists.{all, keep, concat}
use Rattle.model.specs.Cells.{cycle, faces, faces_in, volume_in, next_in}
use Rattle.model.specs.Image.{count_in, column}
use Rattle.model.specs.Links.{placed}
use Rattle.laws.proofs.Tests.{by_cases}
use Rattle.laws.proofs.Members.{In, all_map, all_cong, keep_map, map_map, map_cong, map_append, keep_in, keep_cong}
use Rattle.laws.proofs.Faces.{face_stays}
use Rattle.laws.specs.Order.{Ascending}
use Rattle.laws.proofs.Carry.{carry_cycle}
use Rattle.cells.specs.Places.{Linked, Closed, Marked, marked, volume_of}
use Rattle.cells.proofs.Walks.{eq_or_ne}
use Rattle.cells.proofs.Reached.{places, in_places, places_below, within_places, volume_linked, places_in_in}
use Rattle.cells.proofs.Paths.{apart_places, few_places}
use Rattle.cells.proofs.Sited.{Sited, darts_in}
use Rattle.cells.proofs.Serials.{serials_apart, volume_serials}
use Rattle.cells.proofs.SewnLaws.{mark_test, marked_places}

-- MARKS OF A VOLUME are closed under its links
module _ {b marks : List ℕ} {n d : ℕ} (l : Linked b n) (h : d < n) (m : Marked (volume_of b d) marks) where
  marked_member : (p : ℕ) → get_or marks p 0 ≡ 1 → In p (volume_of b d)
  marked_member p e = sym (mark_test m p) ∙ eq-eqb (get_or marks p 0) 1 e

  member_marked : (p : ℕ) → In p (volume_of b d) → get_or marks p 0 ≡ 1
  member_marked p e = eqb-true (get_or marks p 0) 1 (mark_test m p ∙ e)

  pub closed_next : Closed n (column b 1) marks
  closed_next p k e = member_marked (column b 1 p) ((volume_linked l h).closed_f p (marked_member p e))

  pub closed_opposite : Closed n (column b 2) marks
  closed_opposite p k e = member_marked (column b 2 p) ((volume_linked l h).closed_g p (marked_member p e))

-- LISTS OF LISTS
pub concat_map_map : (h : ℕ → ℕ) (fs : List (List ℕ)) → concat (map (map h) fs) ≡ map h (concat fs)
unfolding concat
concat_map_map h [] = refl
concat_map_map h (f ∷ fs) = rw (concat_map_map h fs, map_append h f (concat fs))

-- a map leaves the indices
pub placed_map : (h : ℕ → ℕ) (i : ℕ) (fs : List (List ℕ)) → map (λ p. p.at) (placed i (map (map h) fs)) ≡ map (λ p. p.at) (placed i fs)
unfolding placed
placed_map h i [] = refl
placed_map h i (f ∷ fs) = rw (length-map f h) (ap (λ (l : List ℕ). i ∷ l) (placed_map h (i + length f) fs))

-- serials ascend with the places
pub same_order : {n : ℕ} {s : ℕ → ℕ} → Ascending n s → (x y : ℕ) → x < n → y < n → leb (s x) (s y) ≡ leb x y
same_order {n} {s} a x y hx hy = by_cases (leb x y)
    (λ e. rw e (le-leb (s x) (s y) (eq_or_ne x y (λ w. rw w (omega arith)) (λ w. omega (arith, a x y (omega (arith, leb-true x y e)) hy)))))
    (λ e. rw e (lt-leb (s x) (s y) (a y x (leb-false x y e) hx)))

module _ {m : List ℕ} (site : Sited m) where
  cycle_below : (x : ℕ) → x < count_in m → (y : ℕ) → In y (cycle (column m 1) x) → y < count_in m
  unfolding cycle
  cycle_below x h y k =
      places_below (count_in m) y
      (face_stays (column m 1) (places (count_in m)) (within_places site.linked.next_within)
      (apart_places site.linked.next_apart) (few_places site.linked.few) x y (in_places (count_in m) x h) k)

  pub cycle_carried : (x : ℕ) → x < count_in m → map (column m 0) (cycle (column m 1) x) ≡ cycle (next_in (darts_in m)) (column m 0 x)
  cycle_carried x h = carry_cycle (λ p. p < count_in m) (column m 0) (serials_apart site) (column m 1) (next_in (darts_in m)) site.linked.next_within site.next_is x h

  start_carried : (x : ℕ) → x < count_in m → all (leb (column m 0 x)) (cycle (next_in (darts_in m)) (column m 0 x)) ≡ all (leb x) (cycle (column m 1) x)
  start_carried x h = ap (all (leb (column m 0 x))) (sym (cycle_carried x h)) ∙ all_map (leb (column m 0 x)) (column m 0) (cycle (column m 1) x)
      ∙ all_cong (λ y. leb (column m 0 x) (column m 0 y)) (leb x) (cycle (column m 1) x) (λ y k. same_order site.ascends x y h (cycle_below x h y k))

  pub faces_carried : (l : List ℕ) → ((x : ℕ) → In x l → x < count_in m) → faces (next_in (darts_in m)) (map (column m 0) l) ≡ map (map (column m 0)) (faces (column m 1) l)
  unfolding faces
  faces_carried l h =
      let starts = keep (λ x. all (leb x) (cycle (column m 1) x)) l in
      ap (map (cycle (next_in (darts_in m)))) (keep_map (λ x. all (leb x) (cycle (next_in (darts_in m)) x)) (column m 0) l
      ∙ ap (map (column m 0)) (keep_cong (λ x. all (leb (column m 0 x)) (cycle (next_in (darts_in m)) (column m 0 x))) (λ x. all (leb x) (cycle (column m 1) x)) l (λ x k. start_carried x (h x k))))
      ∙ map_map (column m 0) (cycle (next_in (darts_in m))) starts
      ∙ map_cong (λ x. cycle (next_in (darts_in m)) (column m 0 x)) (λ x. map (column m 0) (cycle (column m 1) x)) starts
      (λ x k. sym (cycle_carried x (h x (keep_in (λ x. all (leb x) (cycle (column m 1) x)) l x k).0)))
      ∙ sym (map_map (cycle (column m 1)) (map (column m 0)) starts)

  module _ (p : ℕ) (h : p < count_in m) {marks : List ℕ} (mk : Marked (volume_of m p) marks) where
    pub marked_below : (x : ℕ) → In x (marked (count_in m) marks) → x < count_in m
    marked_below x k = (places_in_in (count_in m) (volume_of m p) x (rw (marked_places mk (count_in m)) at k)).0

    pub volume_marked : map (column m 0) (marked (count_in m) marks) ≡ volume_in (darts_in m) (column m 0 p)
    volume_marked = ap (map (column m 0)) (marked_places mk (count_in m)) ∙ volume_serials site p h

    -- the model's faces, from the places
    pub faces_serials : map (map (column m 0)) (faces (column m 1) (marked (count_in m) marks)) ≡ faces_in (darts_in m) (column m 0 p)
    unfolding faces_in
    faces_serials = sym (faces_carried (marked (count_in m) marks) marked_below) ∙ ap (faces (next_in (darts_in m))) volume_marked

    -- and one after the other
    pub order_serials : map (column m 0) (concat (faces (column m 1) (marked (count_in m) marks))) ≡ concat (faces_in (darts_in m) (column m 0 p))
    order_serials = sym (concat_map_map (column m 0) (faces (column m 1) (marked (count_in m) marks))) ∙ ap concat faces_serials

    -- with the index of each start
    pub indices_serials : map (λ f. f.at) (placed 0 (faces (column m 1) (marked (count_in m) marks))) ≡ map (λ f. f.at) (placed 0 (faces_in (darts_in m) (column m 0 p)))
    indices_serials = sym (placed_map (column m 0) 0 (faces (column m 1) (marked (count_in m) marks))) ∙ ap (λ (fs : List (List ℕ)). map (λ f. f.at) (placed 0 fs)) faces_serials
