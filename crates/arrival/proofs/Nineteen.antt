-- Question 19 as a whole: what each test tells of it. Assumes nothing.
use mathlib.Core.Path.{◌≡◌, refl, sym, ◌∙◌, ap, subst}
use mathlib.Core.Bool.{Bool, true, false, true≢false, not, ◌&&◌}
use mathlib.Core.List.{List, map}
use Prim.Native.Nat.{ℕ, ◌+◌, ◌*◌, ◌≤◌, ◌<◌}
use native.Mathlib.Omega.{arith}
use lib.Dec.{leb, ltb, eqb}
use lib.ListN.{length, get_or, take, length-map}
use borrow.Author.Tests.{eqb-true, le-leb, leb-true, lt-ltb, ltb-true}
use Rattle.model.specs.Lists.{all, mem, tab, distinct, same_list, firsts}
use Rattle.model.specs.Cells.{vertex, vertices, vertex_number, next_in, opposite_in}
use Rattle.model.specs.Image.{column}
use Rattle.model.specs.Messages.{Transfer}
use Rattle.model.specs.Arrival.{Side, sides, new_darts, faces_ordered, pairs_right, one_volume, vertices_right, volume_right}
use Rattle.laws.proofs.Tests.{by_cases, and_intro, and_left, and_right, same_list_is, and_false}
use Rattle.laws.proofs.Members.{In, in_map, getD_in, firsts_fewer}
use Rattle.laws.proofs.Maps.{map_at}
use Rattle.laws.proofs.Tables.{length_tab, getD_tab, map_tab, tab_all, all_tab, tab_apart}
use Rattle.theory.proofs.ImageLaws.{place_back}
use Rattle.cells.specs.Places.{Numbered, places_in, volume_of}
use Rattle.cells.proofs.RingLaws.{mem_firsts}
use Rattle.model.specs.Values.{finite}
use Rattle.inbox.specs.Inbox.{point_in, points_in}
use Rattle.arrival.proofs.Eighteen.{point_there}
use Rattle.ranking.specs.Ranks.{Ranked}
use Rattle.arrival.specs.Sides.{side_at, order_at, pair_at, reverse_at, ends_differ, Segments, VerticesSmall}
use Rattle.arrival.specs.Draft.{EdgesPaired, draft_record, Draftable, RecordsDrafted, TransferTold, Draft}
use Rattle.arrival.proofs.SideLaws.{sides_are}
use Rattle.arrival.proofs.OrderLaws.{order_is}
use Rattle.arrival.proofs.SegmentLaws.{segments}
use Rattle.arrival.proofs.PairLaws.{pairs_is}
use Rattle.arrival.proofs.VolumeLaws.{volume_is, vertices_are}

-- NUMBERS BY FIRST USE lie below the count of vertices, which is at most that of darts
module _ (nx op : ℕ → ℕ) (order : List ℕ) where
  few_vertices : length (vertices nx op order) ≤ length order
  unfolding vertices
  few_vertices = let a = firsts_fewer (map (vertex nx op) order) in omega (arith, a, length-map order (vertex nx op))

  number_below : (x : ℕ) → In x order → vertex_number nx op order x < length (vertices nx op order)
  unfolding vertex_number vertices
  number_below x h = (place_back (vertex nx op x) (firsts (map (vertex nx op) order)) (mem_firsts (vertex nx op x) (map (vertex nx op) order) ∙ in_map (vertex nx op) x order h)).1

module _ {t : Transfer} {v x b z s : List ℕ} {from n k : ℕ} {hollow : Bool} (w : TransferTold t v x b z s from n k hollow) where
  pub segs : Segments b z k
  segs = subst (Segments b z) (sym w.darts) (segments v x b z t.faces w.inside)

  all_sides : sides t ≡ tab (side_at v x b z) k
  all_sides = rw w.darts (sides_are v x b z t w.inside)

  point_count : length t.points ≡ n
  unfolding points_in
  point_count = ap length w.points ∙ length_tab (λ j. point_in s (from + 24 * j)) n

  -- the test of vertices is one that question 19 implies
  pub vertices_fit : vertices_right t ≡ true → (leb n k && all (λ i. ltb (get_or v i 0) n) (tab (λ i. i) k)) ≡ true
  unfolding vertices_right
  vertices_fit q =
      let nx = next_in (new_darts t) in
      let op = opposite_in (new_darts t) in
      let order = map (λ a. a.serial) (sides t) in
      let same : map (λ a. a.tail) (sides t) ≡ map (vertex_number nx op order) order =
      same_list_is _ _ (and_left (same_list (map (λ a. a.tail) (sides t)) (map (vertex_number nx op order) order)) _ q)
      in
      let count : n ≡ length (vertices nx op order) =
      sym point_count
      ∙ eqb-true (length t.points) (length (vertices nx op order))
      (and_right (same_list (map (λ a. a.tail) (sides t)) (map (vertex_number nx op order) order)) _ q)
      in
      let size : length order ≡ k = length-map (sides t) (λ (a : Side). a.serial) ∙ ap length all_sides ∙ length_tab (side_at v x b z) k in
      and_intro (le-leb n k (let f = few_vertices nx op order in omega (arith, f, count, size)))
      (tab_all (λ i. ltb (get_or v i 0) n) (λ i. i) k (λ i h. lt-ltb (get_or v i 0) n (below nx op order same count size i h)))
    where
      order_tab : map (λ a. a.serial) (sides t) ≡ tab (λ i. get_or x i 0) k
      order_tab = ap (map (λ (a : Side). a.serial)) all_sides ∙ map_tab (λ (a : Side). a.serial) (side_at v x b z) k

      tails : map (λ a. a.tail) (sides t) ≡ tab (λ i. get_or v i 0) k
      tails = ap (map (λ (a : Side). a.tail)) all_sides ∙ map_tab (λ (a : Side). a.tail) (side_at v x b z) k

      below : (nx op : ℕ → ℕ) (order : List ℕ) → map (λ a. a.tail) (sides t) ≡ map (vertex_number nx op order) order
          → n ≡ length (vertices nx op order) → length order ≡ k → (i : ℕ) → i < k → get_or v i 0 < n
      below nx op order same count size i h =
          let e : get_or v i 0 ≡ vertex_number nx op order (get_or order i 0) =
          sym (getD_tab (λ i. get_or v i 0) k i 0 h) ∙ ap (λ (l : List ℕ). get_or l i 0) (sym tails ∙ same)
          ∙ map_at (vertex_number nx op order) 0 0 order i (omega (arith, h, size))
          in
          let r = number_below nx op order (get_or order i 0) (getD_in order i (omega (arith, h, size))) in
          omega (arith, e, r, count)

  -- WHAT A NO TELLS
  right_when : (a : Bool) → (volume_right t ≡ true → a ≡ true) → a ≡ false → false ≡ volume_right t
  right_when a h e = by_cases (volume_right t) (λ y. absurd (true≢false (sym (h y) ∙ e))) (λ y. sym y)

  is_ordered : volume_right t ≡ true → faces_ordered t ≡ true
  unfolding volume_right
  is_ordered y = and_left (faces_ordered t) _ (and_left (faces_ordered t && pairs_right (sides t)) _ (and_left (faces_ordered t && pairs_right (sides t) && one_volume t) _ y))

  is_paired : volume_right t ≡ true → pairs_right (sides t) ≡ true
  unfolding volume_right
  is_paired y = and_right (faces_ordered t) _ (and_left (faces_ordered t && pairs_right (sides t)) _ (and_left (faces_ordered t && pairs_right (sides t) && one_volume t) _ y))

  is_one : volume_right t ≡ true → one_volume t ≡ true
  unfolding volume_right
  is_one y = and_right (faces_ordered t && pairs_right (sides t)) _ (and_left (faces_ordered t && pairs_right (sides t) && one_volume t) _ y)

  pub is_numbered : volume_right t ≡ true → vertices_right t ≡ true
  unfolding volume_right
  is_numbered y = and_right (faces_ordered t && pairs_right (sides t) && one_volume t) _ y

  by_index : faces_ordered t ≡ (not hollow && all (order_at x b) (tab (λ i. i) k))
  by_index = rw (w.darts, w.hollow_is) (order_is v x b z t w.inside)

  pub hollow_no : hollow ≡ true → false ≡ volume_right t
  hollow_no e = right_when (faces_ordered t) is_ordered (by_index ∙ rw e refl)

  pub order_no : all (order_at x b) (tab (λ i. i) k) ≡ false → false ≡ volume_right t
  order_no e = right_when (faces_ordered t) is_ordered (by_index ∙ rw e (and_false (not hollow)))

  pub fit_no : (leb n k && all (λ i. ltb (get_or v i 0) n) (tab (λ i. i) k)) ≡ false → false ≡ volume_right t
  fit_no e = right_when _ (λ y. vertices_fit (is_numbered y)) e

  pub order_yes : hollow ≡ false → all (order_at x b) (tab (λ i. i) k) ≡ true → faces_ordered t ≡ true
  order_yes e a = by_index ∙ rw (e, a) refl

  -- where the vertices fit
  module _ (fit : (leb n k && all (λ i. ltb (get_or v i 0) n) (tab (λ i. i) k)) ≡ true) where
    pub each_below : (i : ℕ) → i < k → get_or v i 0 < n
    each_below i h = ltb-true (get_or v i 0) n (all_tab (λ i. ltb (get_or v i 0) n) (λ i. i) k (and_right (leb n k) _ fit) i h)

    pub small : VerticesSmall v k
    small i h = let a = each_below i h in let c = leb-true n k (and_left (leb n k) _ fit) in omega (arith, a, c, w.few)

    paired_by_index : pairs_right (sides t)
        ≡ ((all (ends_differ v b z) (tab (λ i. i) k) && distinct (tab (pair_at v b z) k))
        && all (λ i. mem (reverse_at v b z i) (tab (pair_at v b z) k)) (tab (λ i. i) k))
    paired_by_index = ap pairs_right all_sides ∙ pairs_is v x segs small

    -- where there is a draft
    module _ {keys ranks q m : List ℕ} (d : Draft v x b z keys ranks q s from k m) where
      by_draft : one_volume t ≡ eqb (length (places_in k (volume_of m (get_or ranks 0 0)))) k
      by_draft = volume_is d t w.inside w.darts w.points each_below

      -- `first` is the place of the dart with index 0
      from_first : {first : ℕ} → first ≡ get_or ranks 0 0 → one_volume t ≡ eqb (length (places_in k (volume_of m first))) k
      from_first at = by_draft ∙ ap (λ (p : ℕ). eqb (length (places_in k (volume_of m p))) k) (sym at)

      pub volume_no : {first : ℕ} → first ≡ get_or ranks 0 0 → eqb (length (places_in k (volume_of m first))) k ≡ false → false ≡ volume_right t
      volume_no at e = right_when (one_volume t) is_one (from_first at ∙ e)

      pub numbers_tell : {numbers firsts' : List ℕ} {count first : ℕ} → first ≡ get_or ranks 0 0 → k ≤ length ranks → Numbered (column m 1) (column m 2) (take k ranks) numbers firsts' count
          → faces_ordered t ≡ true → pairs_right (sides t) ≡ true → eqb (length (places_in k (volume_of m first))) k ≡ true
          → (all (λ i. eqb (get_or v i 0) (get_or numbers (get_or ranks i 0) 0)) (tab (λ i. i) k) && eqb n count) ≡ volume_right t
      unfolding volume_right
      numbers_tell at fit-ranks numbered o p e = rw (o, p, from_first at ∙ e) (sym (vertices_are d t w.inside w.darts w.points each_below fit-ranks numbered))

    -- THE DRAFT, where serials are ranked and pairs are right
    module _ {keys ranks q : List ℕ} (ranked : Ranked x k keys ranks) {r : Bool} (paired : EdgesPaired v b z k q r) (yes : r ≡ true) where
      tests : ((all (ends_differ v b z) (tab (λ i. i) k) && distinct (tab (pair_at v b z) k)) && all (λ i. mem (reverse_at v b z i) (tab (pair_at v b z) k)) (tab (λ i. i) k)) ≡ true
      tests = sym paired.is ∙ yes

      both : (all (ends_differ v b z) (tab (λ i. i) k) && distinct (tab (pair_at v b z) k)) ≡ true
      both = and_left (all (ends_differ v b z) (tab (λ i. i) k) && distinct (tab (pair_at v b z) k)) _ tests

      pub paired_yes : pairs_right (sides t) ≡ true
      paired_yes = paired_by_index ∙ tests

      pub draftable : all finite (points_in s from n) ≡ true → Draftable v b z keys q s from k
      draftable points_finite = record {
        few = w.few;
        segs = segs;
        index_below = ranked.index_below;
        opposite_below = (paired.opposed yes).below;
        point_fits = λ i h. let a = each_below i h in let f = w.points_fit in omega (arith, a, f);
        point_finite = λ i h. point_there s from n points_finite (get_or v i 0) (each_below i h);
      }

      pub draft_of : {m : List ℕ} → RecordsDrafted (draft_record v b z keys ranks q s from) k m → Draft v x b z keys ranks q s from k m
      draft_of d = record {
        some_darts = w.some_darts;
        few = w.few;
        segs = segs;
        small = small;
        ranked = ranked;
        opposed = paired.opposed yes;
        once = tab_apart (pair_at v b z) k (and_right (all (ends_differ v b z) (tab (λ i. i) k)) _ both);
        drafted = d;
      }

    pub paired_no : {q : List ℕ} {r : Bool} → EdgesPaired v b z k q r → r ≡ false → false ≡ volume_right t
    paired_no p e = right_when (pairs_right (sides t)) is_paired (paired_by_index ∙ sym p.is ∙ e)
