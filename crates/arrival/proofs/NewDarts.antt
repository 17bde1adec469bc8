-- The darts of a draft are the new darts of the transfer. Assumes nothing.
use mathlib.Core.Path.{◌≡◌, refl, sym, ◌∙◌, ap, subst}
use mathlib.Core.Bool.{Bool, true, false, true≢false}
use mathlib.Core.List.{List, [], ◌∷◌, map}
use mathlib.Core.Option.{some}
use Prim.Native.Nat.{ℕ, zero, suc, ◌+◌, ◌*◌, ◌<◌}
use native.Mathlib.Omega.{arith}
use lib.ListN.{get_or}
use borrow.Author.Tests.{eqb-true, eq-eqb}
use Rattle.model.specs.Lists.{keep, mem, find, tab}
use Rattle.model.specs.Values.{Point, Third, Dart, free, no_point, or_no_dart}
use Rattle.model.specs.Cells.{dart_at, next_in, opposite_in}
use Rattle.model.specs.Image.{count_in, column, dart_in, third_in}
use Rattle.model.specs.Messages.{Transfer, size_all}
use Rattle.model.specs.Arrival.{Side, sides, reverses, first_serial, opposite_of, new_dart, new_darts}
use Rattle.laws.proofs.Tests.{by_cases}
use Rattle.laws.proofs.Tables.{getD_tab, map_tab, find_none, mem_place, place_mem, dart_place, find_only}
use Rattle.memory.specs.Record.{record_in}
use Rattle.memory.specs.declared.record.Record.{Record}
use Rattle.cells.proofs.Sited.{darts_in}
use Rattle.inbox.specs.Inbox.{FacesIn, word_in, point_in, points_in}
use Rattle.ranking.specs.Ranks.{index_at}
use Rattle.arrival.specs.Sides.{next_index, side_at, pair_at, reverse_at}
use Rattle.arrival.specs.Draft.{draft_record, Draft}
use Rattle.arrival.proofs.SideLaws.{sides_are}
use Rattle.arrival.proofs.SegmentLaws.{next_below}
use Rattle.arrival.proofs.PairLaws.{reverses_is}
use Rattle.arrival.proofs.DraftLaws.{sited, serial_at, serial_of, serials_differ}

keep_none : {A : Type 0} (p : A → Bool) (f : ℕ → A) (n : ℕ) → ((i : ℕ) → i < n → p (f i) ≡ true → ⊥) → keep p (tab f n) ≡ []
keep_none p f zero h = refl
keep_none p f (suc n) h = by_cases (p (f 0)) (λ e. absurd (h 0 (omega arith) e)) (λ e. rw e (keep_none p (λ k. f (suc k)) n (λ i l t. h (suc i) (omega (arith, l)) t)))

-- the one value that passes
keep_single : {A : Type 0} (p : A → Bool) (f : ℕ → A) (n j : ℕ) → j < n → p (f j) ≡ true → ((i : ℕ) → i < n → p (f i) ≡ true → i ≡ j) → keep p (tab f n) ≡ f j ∷ []
keep_single p f zero j h t only = absurd (omega (arith, h))
keep_single p f (suc n) zero h t only = rw t (ap (λ (l : List _). f 0 ∷ l) (keep_none p (λ k. f (suc k)) n (λ i l u. let z = only (suc i) (omega (arith, l)) u in omega (arith, z))))
keep_single p f (suc n) (suc j) h t only = by_cases (p (f 0))
    (λ e. absurd (let z = only 0 (omega arith) e in omega (arith, z)))
    (λ e. rw e (keep_single p (λ k. f (suc k)) n j (omega (arith, h)) t (λ i l u. let z = only (suc i) (omega (arith, l)) u in omega (arith, z))))

dart_path : {a a' c c' d d' : ℕ} {e e' : Third} {f f' : Point} → a ≡ a' → c ≡ c' → d ≡ d' → e ≡ e' → f ≡ f'
    → ◌≡◌ {A = Dart} (record { serial = a; next = c; opposite = d; third = e; point = f }) (record { serial = a'; next = c'; opposite = d'; third = e'; point = f' })
dart_path p q r u w = λ i. record { serial = p i; next = q i; opposite = r i; third = u i; point = w i }

module _ {v x b z keys ranks q s : List ℕ} {from k : ℕ} {m : List ℕ} (w : Draft v x b z keys ranks q s from k m)
    (t : Transfer) (inside : FacesIn t.faces v x b z) (darts : k ≡ size_all t.faces) {n : ℕ} (points : t.points ≡ points_in s from n) (vertices : (i : ℕ) → i < k → get_or v i 0 < n) where
  pub all_sides : sides t ≡ tab (side_at v x b z) k
  all_sides = rw darts (sides_are v x b z t inside)

  -- the opposite of a dart is the one whose pair is the reverse
  opposite_is : (i : ℕ) → i < k → opposite_of (sides t) (side_at v x b z i) ≡ get_or x (get_or q i 0) 0
  unfolding opposite_of
  opposite_is i h =
      let o = w.opposed.below i h in
      let alone : keep (reverses (side_at v x b z i)) (tab (side_at v x b z) k) ≡ side_at v x b z (get_or q i 0) ∷ [] = keep_single (reverses (side_at v x b z i)) (side_at v x b z) k (get_or q i 0) o
      (reverses_is v x w.segs w.small i (get_or q i 0) h o ∙ eq-eqb _ _ (w.opposed.reversed i h))
      (λ j l u. w.once j (get_or q i 0) l o (sym (eqb-true (reverse_at v b z i) (pair_at v b z j) (sym (reverses_is v x w.segs w.small i j h l) ∙ u)) ∙ w.opposed.reversed i h)) in
      ap (λ (l : List Side). first_serial (keep (reverses (side_at v x b z i)) l)) all_sides ∙ ap first_serial alone

  row : (p : ℕ) → p < k → record_in m p ≡ draft_record v b z keys ranks q s from p
  row = w.drafted.rows

  -- index i stands at its rank
  pub dart_there : (i : ℕ) → i < k → new_dart t (side_at v x b z i) ≡ dart_in m (get_or ranks i 0)
  unfolding new_dart third_in points_in
  dart_there i h =
      let p = get_or ranks i 0 in
      let l : p < k = w.ranked.rank_below i h in
      let e : index_at keys p ≡ i = w.ranked.index_rank i h in
      let nx : column m 0 (column m 1 p) ≡ get_or x (next_index b z i) 0 =
      ap (column m 0) (ap (λ (r : Record). r.next) (row p l) ∙ ap (λ (j : ℕ). get_or ranks (next_index b z j) 0) e) ∙ serial_of w (next_index b z i) (next_below w.segs i h) in
      let op : column m 0 (column m 2 p) ≡ get_or x (get_or q i 0) 0 =
      ap (column m 0) (ap (λ (r : Record). r.opposite) (row p l) ∙ ap (λ (j : ℕ). get_or ranks (get_or q j 0) 0) e) ∙ serial_of w (get_or q i 0) (w.opposed.below i h) in
      let kind : column m 3 p ≡ 0 = ap (λ (r : Record). r.kind) (row p l) in
      let third : third_in (column m 0) (column m 3 p) (column m 4 p) ≡ free = rw kind refl in
      let pt : get_or t.points (get_or v i 0) no_point ≡ point_in s (from + 24 * get_or v i 0) =
      ap (λ (l : List Point). get_or l (get_or v i 0) no_point) points
      ∙ getD_tab (λ j. point_in s (from + 24 * j)) n (get_or v i 0) no_point (vertices i h)
      in
      let cx : column m 5 p ≡ word_in s (from + 24 * get_or v i 0) = ap (λ (r : Record). r.x) (row p l) ∙ ap (λ (j : ℕ). word_in s (from + 24 * get_or v j 0)) e in
      let cy : column m 6 p ≡ word_in s (from + 24 * get_or v i 0 + 8) = ap (λ (r : Record). r.y) (row p l) ∙ ap (λ (j : ℕ). word_in s (from + 24 * get_or v j 0 + 8)) e in
      let cz : column m 7 p ≡ word_in s (from + 24 * get_or v i 0 + 16) = ap (λ (r : Record). r.z) (row p l) ∙ ap (λ (j : ℕ). word_in s (from + 24 * get_or v j 0 + 16)) e in
      let same : point_in s (from + 24 * get_or v i 0) ≡ record { x = column m 5 p; y = column m 6 p; z = column m 7 p } = λ j. record { x = sym cx j; y = sym cy j; z = sym cz j } in
      dart_path (sym (serial_of w i h)) (sym nx) (opposite_is i h ∙ sym op) (sym third) (pt ∙ same)

  abbrev pub new_at : ℕ → Dart
  new_at i = new_dart t (side_at v x b z i)

  pub all_new : new_darts t ≡ tab new_at k
  unfolding new_darts
  all_new = ap (map (new_dart t)) all_sides ∙ map_tab (new_dart t) (side_at v x b z) k

  new_serial : (i : ℕ) → (new_at i).serial ≡ get_or x i 0
  unfolding new_dart
  new_serial i = refl

  found_there : (i : ℕ) → i < k → dart_at (tab new_at k) (get_or x i 0) ≡ dart_at (darts_in m) (get_or x i 0)
  unfolding dart_at
  found_there i h =
      let p = get_or ranks i 0 in
      let l : p < count_in m = omega (arith, w.ranked.rank_below i h, w.drafted.count_is) in
      let found : find (λ d. d.serial) (new_at i).serial (tab new_at k) ≡ some (new_at i) =
      find_only (λ d. d.serial) new_at k i h (λ j g u. serials_differ w j i g h (sym (new_serial j) ∙ u ∙ new_serial i))
      in
      ap (λ (y : ℕ). or_no_dart (find (λ d. d.serial) y (tab new_at k))) (sym (new_serial i)) ∙ ap or_no_dart found ∙ dart_there i h
      ∙ sym (dart_place (dart_in m) (count_in m) p (sited w).ascends l) ∙ ap (dart_at (darts_in m)) (serial_of w i h)

  found_nowhere : (y : ℕ) → mem y (tab (λ i. get_or x i 0) k) ≡ false → dart_at (tab new_at k) y ≡ dart_at (darts_in m) y
  unfolding dart_at
  found_nowhere y e = ap or_no_dart (find_none (λ d. d.serial) new_at k y (λ p h u. no p h (sym (new_serial p) ∙ u))
      ∙ sym (find_none (λ d. d.serial) (dart_in m) (count_in m) y (λ p h u. let l : p < k = omega (arith, h, w.drafted.count_is) in
      no (index_at keys p) (w.ranked.index_below p l) (sym (w.ranked.value_is p l) ∙ sym (serial_at w p l) ∙ u))))
    where
      no : (i : ℕ) → i < k → get_or x i 0 ≡ y → ⊥
      no i h u = true≢false (sym (mem_place (λ i. get_or x i 0) k i y h u) ∙ e)

  -- looked up by serial, both have the same darts
  pub same_darts : (y : ℕ) → dart_at (new_darts t) y ≡ dart_at (darts_in m) y
  same_darts y = ap (λ (l : List Dart). dart_at l y) all_new ∙ by_cases (mem y (tab (λ i. get_or x i 0) k))
      (λ e. let r = place_mem (λ i. get_or x i 0) k y e in subst (λ (a : ℕ). dart_at (tab new_at k) a ≡ dart_at (darts_in m) a) r.2 (found_there r.0 r.1))
      (λ e. found_nowhere y e)

  pub same_next : next_in (new_darts t) ≡ next_in (darts_in m)
  same_next = λ i y. (same_darts y i).next

  pub same_opposite : opposite_in (new_darts t) ≡ opposite_in (darts_in m)
  same_opposite = λ i y. (same_darts y i).opposite
