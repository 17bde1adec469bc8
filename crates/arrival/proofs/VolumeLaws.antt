-- Question 19 on a draft: one volume, and vertices numbered by first use. Assumes nothing.
use mathlib.Core.Path.{◌≡◌, refl, sym, ◌∙◌, ap, subst}
use mathlib.Core.Bool.{Bool, true, ◌&&◌}
use mathlib.Core.List.{List, [], ◌∷◌, map}
use Prim.Native.Nat.{ℕ, zero, suc, ◌+◌, ◌*◌, ◌≤◌, ◌<◌}
use native.Mathlib.Omega.{arith}
use lib.Dec.{eqb}
use lib.ListN.{length, get_or, take, length-map}
use lib.Seq.{get_or-take, length-take-le, ext_get_or}
use borrow.Author.Tests.{eqb-true, eq-eqb}
use Rattle.model.specs.Lists.{all, keep, mem, tab, same_list}
use Rattle.model.specs.Cells.{volume, vertices, vertex_number, next_in, opposite_in}
use Rattle.model.specs.Image.{count_in, column}
use Rattle.model.specs.Messages.{Transfer, size_all}
use Rattle.model.specs.Arrival.{Side, sides, first_serial, new_darts, one_volume, vertices_right}
use Rattle.laws.proofs.Tests.{by_cases, and_left, and_right, same_truth}
use Rattle.laws.proofs.Members.{In, all_from, keep_less}
use Rattle.laws.proofs.Tables.{length_tab, getD_tab, map_tab, tab_cong, tab_all, all_tab, mem_place, place_mem}
use Rattle.cells.specs.Places.{Numbered, places_in, volume_of}
use Rattle.cells.proofs.Sited.{darts_in}
use Rattle.cells.proofs.Reached.{volume_below}
use Rattle.cells.proofs.Serials.{mem_map, serials_apart, volume_carried}
use Rattle.cells.proofs.VertexSerials.{vertices_serials, number_serial}
use Rattle.inbox.specs.Inbox.{FacesIn, point_in, points_in}
use Rattle.ranking.specs.Ranks.{index_at}
use Rattle.arrival.specs.Sides.{side_at}
use Rattle.arrival.specs.Draft.{Draft}
use Rattle.arrival.proofs.PairLaws.{all_index, all_same}
use Rattle.arrival.proofs.DraftLaws.{sited, serial_of}
use Rattle.arrival.proofs.NewDarts.{all_sides, same_next, same_opposite}

-- all are kept exactly if all pass
keep_whole : (p : ℕ → Bool) (l : List ℕ) → eqb (length (keep p l)) (length l) ≡ all p l
keep_whole p l = same_truth _ _
    (λ t. let e = eqb-true (length (keep p l)) (length l) t in all_from p l (λ x h. by_cases (p x) (λ y. y) (λ y. absurd (let r = keep_less p x l h y in omega (arith, r, e)))))
    (λ t. eq-eqb (length (keep p l)) (length l) (ap length (go l t)))
  where
    go : (l : List ℕ) → all p l ≡ true → keep p l ≡ l
    go [] t = refl
    go (x ∷ l) t = rw (and_left (p x) _ t) (ap (λ (m : List ℕ). x ∷ m) (go l (and_right (p x) _ t)))

-- two tables are the same list exactly if they have the same values
same_tabs : (f g : ℕ → ℕ) (n : ℕ) → same_list (tab f n) (tab g n) ≡ all (λ i. eqb (f i) (g i)) (tab (λ i. i) n)
unfolding same_list
same_tabs f g zero = refl
same_tabs f g (suc n) = rw (same_tabs (λ k. f (suc k)) (λ k. g (suc k)) n, all_index (λ i. eqb (f i) (g i)) suc n) refl

first_tab : (f : ℕ → Side) (k : ℕ) → 1 ≤ k → first_serial (tab f k) ≡ (f 0).serial
first_tab f zero h = absurd (omega (arith, h))
first_tab f (suc k) h = refl

module _ {v x b z keys ranks q s : List ℕ} {from k : ℕ} {m : List ℕ} (w : Draft v x b z keys ranks q s from k m)
    (t : Transfer) (inside : FacesIn t.faces v x b z) (darts : k ≡ size_all t.faces) {n : ℕ} (points : t.points ≡ points_in s from n) (vertices_in : (i : ℕ) → i < k → get_or v i 0 < n) where
  rank_in : (i : ℕ) → i < k → get_or ranks i 0 < count_in m
  rank_in i h = omega (arith, w.ranked.rank_below i h, w.drafted.count_is)

  -- the volume of the first dart, by place
  abbrev reached : List ℕ
  reached = volume_of m (get_or ranks 0 0)

  reached_serials : volume (next_in (new_darts t)) (opposite_in (new_darts t)) (first_serial (sides t)) ≡ map (column m 0) reached
  reached_serials =
      let h : 0 < k = omega (arith, w.some_darts) in
      ap (λ (f : ℕ → ℕ). volume f (opposite_in (new_darts t)) (first_serial (sides t))) (same_next w t inside darts points vertices_in)
      ∙ ap (λ (f : ℕ → ℕ). volume (next_in (darts_in m)) f (first_serial (sides t))) (same_opposite w t inside darts points vertices_in)
      ∙ ap (volume (next_in (darts_in m)) (opposite_in (darts_in m)))
      (ap first_serial (all_sides w t inside darts points vertices_in) ∙ first_tab (side_at v x b z) k w.some_darts
      ∙ sym (serial_of w 0 h))
      ∙ sym (volume_carried (sited w) (get_or ranks 0 0) (rank_in 0 h))

  serial_in : (i : ℕ) → i < k → mem (get_or x i 0) (map (column m 0) reached) ≡ mem (get_or ranks i 0) reached
  serial_in i h = ap (λ (y : ℕ). mem y (map (column m 0) reached)) (sym (serial_of w i h))
      ∙ mem_map (column m 0) (get_or ranks i 0) reached
      (λ y j e. serials_apart (sited w) (get_or ranks i 0) y (rank_in i h)
      (volume_below (sited w).linked (rank_in 0 (omega (arith, w.some_darts))) y j) e)

  -- every place is the rank of an index
  by_rank : (p : ℕ → Bool) → all (λ i. p (get_or ranks i 0)) (tab (λ i. i) k) ≡ all p (tab (λ i. i) k)
  by_rank p = same_truth _ _
      (λ t. tab_all p (λ i. i) k (λ r h. subst (λ (y : ℕ). p y ≡ true) (w.ranked.rank_index r h) (all_tab (λ i. p (get_or ranks i 0)) (λ i. i) k t (index_at keys r) (w.ranked.index_below r h))))
      (λ t. tab_all (λ i. p (get_or ranks i 0)) (λ i. i) k (λ i h. all_tab p (λ i. i) k t (get_or ranks i 0) (w.ranked.rank_below i h)))

  -- "one volume"
  pub volume_is : one_volume t ≡ eqb (length (places_in k reached)) k
  unfolding one_volume places_in
  volume_is =
      ap (λ (l : List ℕ). all (λ a. mem a.serial l) (sides t)) reached_serials
      ∙ ap (all (λ (a : Side). mem a.serial (map (column m 0) reached))) (all_sides w t inside darts points vertices_in)
      ∙ all_index (λ (a : Side). mem a.serial (map (column m 0) reached)) (side_at v x b z) k
      ∙ all_same _ _ k serial_in
      ∙ by_rank (λ p. mem p reached)
      ∙ sym (keep_whole (λ p. mem p reached) (tab (λ i. i) k))
      ∙ ap (eqb (length (keep (λ p. mem p reached) (tab (λ i. i) k)))) (length_tab (λ i. i) k)

  -- the places of the darts in message order
  ranks_taken : k ≤ length ranks → take k ranks ≡ tab (λ i. get_or ranks i 0) k
  ranks_taken fit = ext_get_or 0 _ _ (length-take-le k ranks fit ∙ sym (length_tab (λ i. get_or ranks i 0) k)) (λ i h.
      let l : i < k = omega (arith, h, length-take-le k ranks fit) in get_or-take k ranks i 0 l ∙ sym (getD_tab (λ i. get_or ranks i 0) k i 0 l))

  order_serials : map (λ a. a.serial) (sides t) ≡ map (column m 0) (tab (λ i. get_or ranks i 0) k)
  order_serials = ap (map (λ (a : Side). a.serial)) (all_sides w t inside darts points vertices_in) ∙ map_tab (λ (a : Side). a.serial) (side_at v x b z) k
      ∙ tab_cong (λ i. get_or x i 0) (λ i. column m 0 (get_or ranks i 0)) k (λ i h. sym (serial_of w i h)) ∙ sym (map_tab (column m 0) (λ i. get_or ranks i 0) k)

  all_below : (y : ℕ) → In y (tab (λ i. get_or ranks i 0) k) → y < count_in m
  all_below y h = let r = place_mem (λ i. get_or ranks i 0) k y h in subst (λ (a : ℕ). a < count_in m) r.2 (rank_in r.0 r.1)

  module _ {numbers firsts' : List ℕ} {count : ℕ} (fit : k ≤ length ranks) (numbered : Numbered (column m 1) (column m 2) (take k ranks) numbers firsts' count) where
    abbrev nx : ℕ → ℕ
    nx = next_in (darts_in m)

    abbrev op : ℕ → ℕ
    op = opposite_in (darts_in m)

    abbrev places : List ℕ
    places = tab (λ i. get_or ranks i 0) k

    number_of : (i : ℕ) → i < k → vertex_number nx op (map (column m 0) places) (column m 0 (get_or ranks i 0)) ≡ get_or numbers (get_or ranks i 0) 0
    number_of i h =
        let here : In (get_or ranks i 0) places = mem_place (λ i. get_or ranks i 0) k i (get_or ranks i 0) h refl in
        number_serial (sited w) places all_below (get_or ranks i 0) here
        ∙ ap (λ (l : List ℕ). vertex_number (column m 1) (column m 2) l (get_or ranks i 0)) (sym (ranks_taken fit))
        ∙ sym (numbered.number (get_or ranks i 0) (ap (mem (get_or ranks i 0)) (ranks_taken fit) ∙ here))

    vertex_count : length (vertices nx op (map (column m 0) places)) ≡ count
    vertex_count = ap length (vertices_serials (sited w) places all_below) ∙ length-map (vertices (column m 1) (column m 2) places) (column m 0)
        ∙ ap (λ (l : List ℕ). length (vertices (column m 1) (column m 2) l)) (sym (ranks_taken fit)) ∙ sym numbered.count_is

    -- the numbers that the message has, beside those that its darts have
    numbers_are : same_list (map (λ a. a.tail) (sides t)) (map (vertex_number nx op (map (column m 0) places)) (map (column m 0) places))
        ≡ all (λ i. eqb (get_or v i 0) (get_or numbers (get_or ranks i 0) 0)) (tab (λ i. i) k)
    numbers_are =
        ap (λ (l : List ℕ). same_list l (map (vertex_number nx op (map (column m 0) places)) (map (column m 0) places)))
        (ap (map (λ (a : Side). a.tail)) (all_sides w t inside darts points vertices_in) ∙ map_tab (λ (a : Side). a.tail) (side_at v x b z) k)
        ∙ ap (same_list (tab (λ i. get_or v i 0) k))
        (ap (map (vertex_number nx op (map (column m 0) places))) (map_tab (column m 0) (λ i. get_or ranks i 0) k) ∙ map_tab (vertex_number nx op (map (column m 0) places)) (λ i. column m 0 (get_or ranks i 0)) k
        ∙ tab_cong _ (λ i. get_or numbers (get_or ranks i 0) 0) k number_of)
        ∙ same_tabs (λ i. get_or v i 0) (λ i. get_or numbers (get_or ranks i 0) 0) k

    -- "order and numbering as above"
    pub vertices_are : vertices_right t ≡ (all (λ i. eqb (get_or v i 0) (get_or numbers (get_or ranks i 0) 0)) (tab (λ i. i) k) && eqb n count)
    unfolding vertices_right points_in
    vertices_are =
        ap (λ (f : ℕ → ℕ). right f (opposite_in (new_darts t)) (map (λ a. a.serial) (sides t))) (same_next w t inside darts points vertices_in)
        ∙ ap (λ (f : ℕ → ℕ). right nx f (map (λ a. a.serial) (sides t))) (same_opposite w t inside darts points vertices_in)
        ∙ ap (right nx op) order_serials
        ∙ rw (numbers_are, vertex_count, ap length points, length_tab (λ j. point_in s (from + 24 * j)) n) refl
      where
        right : (ℕ → ℕ) → (ℕ → ℕ) → List ℕ → Bool
        right nx op order = same_list (map (λ a. a.tail) (sides t)) (map (vertex_number nx op order) order) && eqb (length t.points) (length (vertices nx op order))
