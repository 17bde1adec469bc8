-- From places to serials: vertices and their numbers by place are those by serial. Assumes nothing.
use mathlib.Core.Path.{◌≡◌, refl, sym, ◌∙◌, ap}
use mathlib.Core.Bool.{true≢false, not}
use mathlib.Core.List.{List, [], ◌∷◌, map}
use Prim.Native.Nat.{ℕ, ◌<◌, min}
use native.Mathlib.Omega.{arith}
use lib.Dec.{leb, eqb}
use borrow.Author.Tests.{eq-eqb, ne_eqb, leb-true, leb-false}
use Rattle.model.specs.Lists.{keep, firsts, index_of, least, least_from}
use Rattle.model.specs.Cells.{ring, vertex, vertices, vertex_number, next_in, opposite_in}
use Rattle.model.specs.Image.{count_in, column}
use Rattle.laws.proofs.Tests.{by_cases}
use Rattle.laws.proofs.Members.{In, in_here, in_there, map_in, keep_map, map_map, map_cong, keep_cong, firsts_only}
use Rattle.laws.specs.Order.{Ascending}
use Rattle.laws.proofs.Carry.{carry_cycle}
use Rattle.cells.proofs.Walks.{eq_or_ne}
use Rattle.cells.proofs.Sited.{Sited, darts_in}
use Rattle.cells.proofs.Serials.{serials_apart}
use Rattle.cells.proofs.RingLaws.{step_within, ring_self, ring_below, vertex_in}

-- LISTS UNDER A MAP that keeps their elements apart
pub same_eqb : (h : ℕ → ℕ) (x y : ℕ) → (h x ≡ h y → x ≡ y) → eqb (h x) (h y) ≡ eqb x y
same_eqb h x y inj = eq_or_ne x y (λ e. rw (eq-eqb x y e) (eq-eqb (h x) (h y) (ap h e))) (λ e. rw (ne_eqb x y e) (ne_eqb (h x) (h y) (λ w. e (inj w))))

firsts_map : (h : ℕ → ℕ) (l : List ℕ) → ((x y : ℕ) → In x l → In y l → h x ≡ h y → x ≡ y) → firsts (map h l) ≡ map h (firsts l)
unfolding firsts
firsts_map h [] inj = refl
firsts_map h (x ∷ l) inj = ap (λ (t : List ℕ). h x ∷ t)
    (ap (keep (λ y. not (eqb (h x) y))) (firsts_map h l (λ y z i j. inj y z (in_there y x l i) (in_there z x l j)))
    ∙ keep_map (λ y. not (eqb (h x) y)) h (firsts l)
    ∙ ap (map h) (keep_cong (λ y. not (eqb (h x) (h y))) (λ y. not (eqb x y)) (firsts l) (λ y k. ap not (same_eqb h x y (inj x y (in_here x l) (in_there y x l (firsts_only y l k)))))))

index_map : (h : ℕ → ℕ) (x : ℕ) (l : List ℕ) → ((y : ℕ) → In y l → h x ≡ h y → x ≡ y) → index_of (h x) (map h l) ≡ index_of x l
unfolding index_of
index_map h x [] inj = refl
index_map h x (y ∷ l) inj = rw (same_eqb h x y (inj y (in_here y l)), index_map h x l (λ z k. inj z (in_there z y l k)))

-- THE LEAST under a map that ascends
module _ {n : ℕ} {s : ℕ → ℕ} (a : Ascending n s) where
  min_map : (x y : ℕ) → x < n → y < n → min (s x) (s y) ≡ s (min x y)
  min_map x y hx hy = by_cases (leb x y)
      (λ e. let le = leb-true x y e in let low : min x y ≡ x = omega arith in
      rw low (eq_or_ne x y (λ w. rw w (omega arith)) (λ w. omega (arith, a x y (omega arith) hy))))
      (λ e. let less = leb-false x y e in let low : min x y ≡ y = omega arith in rw low (omega (arith, a y x less hx)))

  least_from_map : (x : ℕ) (l : List ℕ) → x < n → ((y : ℕ) → In y l → y < n) → least_from (s x) (map s l) ≡ s (least_from x l)
  least_from_map x [] hx h = refl
  least_from_map x (y ∷ l) hx h = let hy = h y (in_here y l) in
      ap (λ (v : ℕ). least_from v (map s l)) (min_map x y hx hy) ∙ (least_from_map (min x y) l (omega arith) (λ z k. h z (in_there z y l k)))

  pub least_map : (l : List ℕ) (x : ℕ) → In x l → ((y : ℕ) → In y l → y < n) → least (map s l) ≡ s (least l)
  unfolding least
  least_map [] x k h = absurd (true≢false (sym k))
  least_map (y ∷ l) x k h = least_from_map y l (h y (in_here y l)) (λ z j. h z (in_there z y l j))

module _ {m : List ℕ} (site : Sited m) where
  module _ (x : ℕ) (h : x < count_in m) where
    pub vertex_below : vertex (column m 1) (column m 2) x < count_in m
    vertex_below = let l = site.linked in
        ring_below _ _ _ l.few l.next_within l.next_apart l.opposite_within l.opposite_apart x h (vertex (column m 1) (column m 2) x)
        (vertex_in _ _ _ l.few l.next_within l.next_apart l.opposite_within l.opposite_apart x h)

    pub ring_carried : map (column m 0) (ring (column m 1) (column m 2) x) ≡ ring (next_in (darts_in m)) (opposite_in (darts_in m)) (column m 0 x)
    unfolding ring
    ring_carried = let l = site.linked in
        carry_cycle (λ p. p < count_in m) (column m 0) (serials_apart site) (λ d. column m 1 (column m 2 d)) (λ d. next_in (darts_in m) (opposite_in (darts_in m) d))
        (step_within _ _ _ l.few l.next_within l.next_apart l.opposite_within l.opposite_apart)
        (λ p k. site.next_is (column m 2 p) (l.opposite_within p k) ∙ ap (next_in (darts_in m)) (site.opposite_is p k)) x h

    pub vertex_serial : vertex (next_in (darts_in m)) (opposite_in (darts_in m)) (column m 0 x) ≡ column m 0 (vertex (column m 1) (column m 2) x)
    unfolding vertex
    vertex_serial = let l = site.linked in
        ap least (sym ring_carried) ∙ least_map site.ascends (ring (column m 1) (column m 2) x) x
        (ring_self _ _ _ l.few l.next_within l.next_apart l.opposite_within l.opposite_apart x h)
        (ring_below _ _ _ l.few l.next_within l.next_apart l.opposite_within l.opposite_apart x h)

  module _ (l : List ℕ) (below : (x : ℕ) → In x l → x < count_in m) where
    some_vertex : (v : ℕ) → In v (map (vertex (column m 1) (column m 2)) l) → v < count_in m
    some_vertex v k = let r = map_in (vertex (column m 1) (column m 2)) l v k in rw r.2 (vertex_below r.0 (below r.0 r.1))

    -- the vertices of darts in some order
    pub vertices_serials : vertices (next_in (darts_in m)) (opposite_in (darts_in m)) (map (column m 0) l) ≡ map (column m 0) (vertices (column m 1) (column m 2) l)
    unfolding vertices
    vertices_serials =
        ap firsts (map_map (column m 0) (vertex (next_in (darts_in m)) (opposite_in (darts_in m))) l
        ∙ map_cong (λ x. vertex (next_in (darts_in m)) (opposite_in (darts_in m)) (column m 0 x)) (λ x. column m 0 (vertex (column m 1) (column m 2) x)) l (λ x k. vertex_serial x (below x k))
        ∙ sym (map_map (vertex (column m 1) (column m 2)) (column m 0) l))
        ∙ firsts_map (column m 0) (map (vertex (column m 1) (column m 2)) l) (λ x y i j. serials_apart site x y (some_vertex x i) (some_vertex y j))

    -- and their numbers
    pub number_serial : (x : ℕ) → In x l → vertex_number (next_in (darts_in m)) (opposite_in (darts_in m)) (map (column m 0) l) (column m 0 x) ≡ vertex_number (column m 1) (column m 2) l x
    unfolding vertex_number vertices
    number_serial x k =
        ap (λ (v : ℕ). index_of v (vertices (next_in (darts_in m)) (opposite_in (darts_in m)) (map (column m 0) l))) (vertex_serial x (below x k))
        ∙ ap (index_of (column m 0 (vertex (column m 1) (column m 2) x))) vertices_serials
        ∙ index_map (column m 0) (vertex (column m 1) (column m 2) x) (vertices (column m 1) (column m 2) l)
        (λ y j. serials_apart site (vertex (column m 1) (column m 2) x) y (vertex_below x (below x k)) (some_vertex y (firsts_only y (map (vertex (column m 1) (column m 2)) l) j)))
