-- The faces that part 2 meets are different faces exactly if they meet different places. Assumes nothing.
use mathlib.Core.Path.{◌≡◌, sym, ◌∙◌, ap, subst}
use mathlib.Core.Bool.{true, true≢false, not}
use mathlib.Core.List.{List, map}
use mathlib.Core.Logic.{⊎_elim, ◌≢◌}
use Prim.Native.Nat.{ℕ, zero, suc, ◌+◌, ◌-◌, ◌≤◌, ◌<◌}
use native.Mathlib.Omega.{arith}
use lib.ListN.{length}
use borrow.Author.Tests.{not-true}
use Rattle.model.specs.Lists.{mem, distinct, least, tab}
use Rattle.model.specs.Cells.{cycle, labelled, next_in}
use Rattle.model.specs.Image.{count_in, column}
use Rattle.model.specs.Messages.{Part2}
use Rattle.model.specs.Arrival.{part2_apart}
use Rattle.laws.proofs.Tests.{lt_or_ge, and_left, and_right}
use Rattle.laws.proofs.Members.{In, in_eq, least_below, least_among}
use Rattle.laws.proofs.Orbits.{iter, iter_add, iter_stays, iter_inj, path, path_in, around_path, in_cycle, path_length}
use Rattle.laws.proofs.Faces.{face_self, face_stays, face_sym, face_trans}
use Rattle.laws.proofs.Tables.{map_tab, tab_cong, mem_place, one_place, tab_distinct}
use Rattle.cells.proofs.Reached.{places, in_places, places_below, within_places}
use Rattle.cells.proofs.Paths.{apart_places, few_places}
use Rattle.cells.proofs.Sited.{Sited, darts_in}
use Rattle.cells.proofs.FaceSerials.{cycle_carried}
use Rattle.cells.proofs.VertexSerials.{least_map}

-- values that a test finds different
apart_tab : (f : ℕ → ℕ) (n : ℕ) → distinct (tab f n) ≡ true → (i j : ℕ) → i < j → j < n → f i ≡ f j → ⊥
apart_tab f zero t i j l h e = absurd (omega arith)
apart_tab f (suc n) t zero zero l h e = omega arith
apart_tab f (suc n) t zero (suc j) l h e = true≢false (sym (mem_place (λ k. f (suc k)) n j (f 0) (omega arith) (sym e)) ∙ not-true _ (and_left (not (mem (f 0) (tab (λ k. f (suc k)) n))) _ t))
apart_tab f (suc n) t (suc i) zero l h e = absurd (omega arith)
apart_tab f (suc n) t (suc i) (suc j) l h e = apart_tab (λ k. f (suc k)) n (and_right (not (mem (f 0) (tab (λ k. f (suc k)) n))) _ t) i j (omega arith) (omega arith) e

module _ {m : List ℕ} (site : Sited m) where
  stays : (x : ℕ) → In x (places (count_in m)) → In (column m 1 x) (places (count_in m))
  stays = within_places site.linked.next_within

  one : (x y : ℕ) → In x (places (count_in m)) → In y (places (count_in m)) → column m 1 x ≡ column m 1 y → x ≡ y
  one = apart_places site.linked.next_apart

  few : length (places (count_in m)) ≤ 4096
  few = few_places site.linked.few

  abbrev size : ℕ → ℕ
  size y = length (cycle (column m 1) y)

  -- what the j-th dart of a new face meets from place y on
  abbrev pub met : ℕ → ℕ → ℕ
  met y j = iter (column m 1) (size y - j) y

  round : (y : ℕ) → y < count_in m
      → (0 < size y) × (cycle (column m 1) y ≡ path (column m 1) (size y) y) × (iter (column m 1) (size y) y ≡ y)
      × ((k : ℕ) → 0 < k → k < size y → iter (column m 1) k y ≢ y)
  unfolding cycle
  round y h =
      let r = around_path (column m 1) (places (count_in m)) stays one 4096 y few (in_places (count_in m) y h) in
      let e : r.0 ≡ size y = sym (ap length r.3 ∙ path_length (column m 1) r.0 y) in
      subst (λ (p : ℕ). (0 < p) × (cycle (column m 1) y ≡ path (column m 1) p y) × (iter (column m 1) p y ≡ y) × ((k : ℕ) → 0 < k → k < p → iter (column m 1) k y ≢ y)) e (r.1, r.3, r.4, r.5)

  -- the first one is y itself
  pub met_first : (y : ℕ) → y < count_in m → met y 0 ≡ y
  met_first y h = let all-round : size y - 0 ≡ size y = omega arith in ap (λ (k : ℕ). iter (column m 1) k y) all-round ∙ (round y h).2

  -- WITHIN A FACE
  no_return : (y : ℕ) → y < count_in m → (a c : ℕ) → 0 < a → a < c → c ≤ size y → iter (column m 1) a y ≡ iter (column m 1) c y → ⊥
  no_return y h a c pos l u e =
      let split : c ≡ (c - a) + a = omega arith in
      let there = in_places (count_in m) y h in
      (round y h).3 (c - a) (omega arith) (omega arith) (sym (iter_inj (column m 1) (places (count_in m)) stays one a y (iter (column m 1) (c - a) y) there
      (iter_stays (column m 1) (places (count_in m)) stays one (c - a) y there) (e ∙ ap (λ (k : ℕ). iter (column m 1) k y) split ∙ iter_add (column m 1) (c - a) a y)))

  pub met_one : (y : ℕ) → y < count_in m → (i j : ℕ) → i < size y → j < size y → met y i ≡ met y j → i ≡ j
  met_one y h i j hi hj e = ⊎_elim
      (λ (l : i < j). absurd (no_return y h (size y - j) (size y - i) (omega (arith, hj)) (omega (arith, hi, hj, l)) (omega arith) (sym e)))
      (λ (l : j ≤ i). ⊎_elim
      (λ (u : j < i). absurd (no_return y h (size y - i) (size y - j) (omega (arith, hi)) (omega (arith, hi, hj, u)) (omega arith) e))
      (λ (u : i ≤ j). omega (arith, l, u))
      (lt_or_ge j i))
      (lt_or_ge i j)

  pub met_in : (y : ℕ) → y < count_in m → (j : ℕ) → In (met y j) (cycle (column m 1) y)
  unfolding cycle
  met_in y h j = in_cycle (column m 1) (places (count_in m)) stays one 4096 y (size y - j) few (in_places (count_in m) y h)

  pub in_met : (y : ℕ) → y < count_in m → (q : ℕ) → In q (cycle (column m 1) y) → (j : ℕ) × (j < size y) × (q ≡ met y j)
  in_met y h q k = go (path_in (column m 1) (size y) y q (subst (In q) (round y h).1 k))
    where
      go : (j : ℕ) × (j < size y) × (q ≡ iter (column m 1) j y) → (j : ℕ) × (j < size y) × (q ≡ met y j)
      go (zero, l, e) = (0, l, e ∙ sym (met_first y h))
      go (suc i, l, e) = (size y - suc i, omega (arith, l), e ∙ ap (λ (k : ℕ). iter (column m 1) k y) (again (size y) i l))
        where
          again : (p i : ℕ) → suc i < p → suc i ≡ p - (p - suc i)
          again p i l = omega arith

  -- TWO FACES
  carried : (y u q : ℕ) → y < count_in m → u < count_in m → In q (cycle (column m 1) y) → In q (cycle (column m 1) u) → (v : ℕ) → In v (cycle (column m 1) u) → In v (cycle (column m 1) y)
  unfolding cycle
  carried y u q hy hu ky ku v kv =
      let f = column m 1 in
      let l = places (count_in m) in
      let iy = in_places (count_in m) y hy in
      face_trans f l stays one few y u v iy (face_trans f l stays one few y q u iy ky (face_sym f l stays one few u q (in_places (count_in m) u hu) ku)) kv

  least_in_cycle : (y : ℕ) → y < count_in m → In (least (cycle (column m 1) y)) (cycle (column m 1) y)
  unfolding cycle
  least_in_cycle y h = least_among (cycle (column m 1) y) y (face_self (column m 1) (places (count_in m)) stays one few y (in_places (count_in m) y h))

  same_least : (y u q : ℕ) → y < count_in m → u < count_in m → In q (cycle (column m 1) y) → In q (cycle (column m 1) u) → least (cycle (column m 1) y) ≡ least (cycle (column m 1) u)
  same_least y u q hy hu ky ku =
      let a = least_below (cycle (column m 1) y) (least (cycle (column m 1) u)) (carried y u q hy hu ky ku _ (least_in_cycle u hu)) in
      let c = least_below (cycle (column m 1) u) (least (cycle (column m 1) y)) (carried u y q hu hy ku ky _ (least_in_cycle y hy)) in
      omega (arith, a, c)

  on_below : (y : ℕ) → y < count_in m → (q : ℕ) → In q (cycle (column m 1) y) → q < count_in m
  unfolding cycle
  on_below y h q k = places_below (count_in m) q (face_stays (column m 1) (places (count_in m)) stays one few y q (in_places (count_in m) y h) k)

  serial_least : (y : ℕ) → y < count_in m → least (cycle (next_in (darts_in m)) (column m 0 y)) ≡ column m 0 (least (cycle (column m 1) y))
  serial_least y h = ap least (sym (cycle_carried site y h)) ∙ least_map site.ascends (cycle (column m 1) y) (least (cycle (column m 1) y)) (least_in_cycle y h) (on_below y h)

  -- OF THE ENTRIES of part 2, whose labels stand at places y
  module _ (ms : List Part2) (entry : ℕ → Part2) (y : ℕ → ℕ) (c : ℕ) (entries : ms ≡ tab entry c)
      (below : (e : ℕ) → e < c → y e < count_in m)
      (found : (e : ℕ) → e < c → (labelled (entry e).label (darts_in m)).serial ≡ column m 0 (y e)) where
    apart_is : part2_apart (darts_in m) ms ≡ distinct (tab (λ e. column m 0 (least (cycle (column m 1) (y e)))) c)
    unfolding part2_apart
    apart_is = ap distinct (ap (map (λ (e : Part2). least (cycle (next_in (darts_in m)) (labelled e.label (darts_in m)).serial))) entries
        ∙ map_tab (λ (e : Part2). least (cycle (next_in (darts_in m)) (labelled e.label (darts_in m)).serial)) entry c
        ∙ tab_cong _ _ c (λ e h. ap (λ (x : ℕ). least (cycle (next_in (darts_in m)) x)) (found e h) ∙ serial_least (y e) (below e h)))

    faces_apart : part2_apart (darts_in m) ms ≡ true → (d e q : ℕ) → d < e → e < c → In q (cycle (column m 1) (y d)) → In q (cycle (column m 1) (y e)) → ⊥
    faces_apart t d e q l he kd ke =
        let hd : d < c = omega arith in
        apart_tab (λ e. column m 0 (least (cycle (column m 1) (y e)))) c (sym apart_is ∙ t) d e l he (ap (column m 0) (same_least (y d) (y e) q (below d hd) (below e he) kd ke))

    -- a yes: all places met are different
    pub apart_differ : part2_apart (darts_in m) ms ≡ true → (d i e j : ℕ) → d < c → i < size (y d) → e < c → j < size (y e) → met (y d) i ≡ met (y e) j → (d ≡ e) × (i ≡ j)
    apart_differ t d i e j hd hi he hj q = ⊎_elim
        (λ (l : d < e). absurd (faces_apart t d e (met (y d) i) l he (met_in (y d) (below d hd) i) (in_eq (met (y d) i) (met (y e) j) (cycle (column m 1) (y e)) q (met_in (y e) (below e he) j))))
        (λ (l : e ≤ d). ⊎_elim
        (λ (u : e < d). absurd (faces_apart t e d (met (y d) i) u hd (in_eq (met (y d) i) (met (y e) j) (cycle (column m 1) (y e)) q (met_in (y e) (below e he) j)) (met_in (y d) (below d hd) i)))
        (λ (u : d ≤ e). same (omega (arith, l, u)))
        (lt_or_ge e d))
        (lt_or_ge d e)
      where
        same : d ≡ e → (d ≡ e) × (i ≡ j)
        same p = (p, met_one (y d) (below d hd) i j hi (subst (λ (a : ℕ). j < size (y a)) (sym p) hj) (q ∙ ap (λ (a : ℕ). met (y a) j) (sym p)))

    -- and a no otherwise
    pub differ_apart : ((d i e j : ℕ) → d < c → i < size (y d) → e < c → j < size (y e) → met (y d) i ≡ met (y e) j → d ≡ e) → part2_apart (darts_in m) ms ≡ true
    differ_apart differ = apart_is ∙ tab_distinct (λ e. column m 0 (least (cycle (column m 1) (y e)))) c (λ d e hd he q.
        let low = least_in_cycle (y d) (below d hd) in
        let high = least_in_cycle (y e) (below e he) in
        let eq : least (cycle (column m 1) (y d)) ≡ least (cycle (column m 1) (y e)) = one_place site.ascends (on_below (y d) (below d hd) _ low) (on_below (y e) (below e he) _ high) q in
        let a = in_met (y d) (below d hd) (least (cycle (column m 1) (y d))) low in
        let b = in_met (y e) (below e he) (least (cycle (column m 1) (y e))) high in
        differ d a.0 e b.0 hd a.1 he b.1 (sym a.2 ∙ eq ∙ b.2))
