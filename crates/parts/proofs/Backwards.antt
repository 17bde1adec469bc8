-- The face that a new face meets goes against next: the cycle of the inverse, by places. Assumes nothing.
use mathlib.Core.Path.{◌≡◌, refl, sym, ◌∙◌, ap}
use mathlib.Core.Logic.{⊎_elim}
use mathlib.Core.Bool.{true}
use mathlib.Core.List.{List, ◌∷◌}
use Prim.Native.Nat.{ℕ, zero, suc, ◌+◌, ◌-◌, ◌≤◌, ◌<◌}
use native.Mathlib.Omega.{arith}
use lib.ListN.{length, length-map}
use Rattle.model.specs.Lists.{tab}
use Rattle.model.specs.Values.{rack}
use Rattle.model.specs.Cells.{cycle, serials, next_in, previous_in}
use Rattle.model.specs.Image.{count_in, column, dart_in, block_in, holds_block}
use Rattle.laws.proofs.Tests.{lt_or_ge}
use Rattle.laws.proofs.Members.{In, ascending_distinct}
use Rattle.laws.proofs.Orbits.{iter, iter_add, path, iter_stays, around_path}
use Rattle.laws.proofs.Tables.{length_tab, map_tab, tab_cong, mem_place}
use Rattle.theory.proofs.BlockLaws.{Links, links_from}
use Rattle.theory.proofs.ImageLaws.{ranges_of}
use Rattle.cells.proofs.FaceSerials.{cycle_carried}
use Rattle.cells.proofs.Sited.{Sited, sited, parts, darts_in}

path_tab : (f : ℕ → ℕ) (n x : ℕ) → path f n x ≡ tab (λ j. iter f j x) n
path_tab f zero x = refl
path_tab f (suc n) x = ap (λ (l : List ℕ). x ∷ l) (path_tab f n (f x))

-- AN INVERSE goes round as far, the other way
module _ (f g : ℕ → ℕ) (ds : List ℕ) (few : length ds ≤ 4096) (f-in : (x : ℕ) → In x ds → In (f x) ds) (g-in : (x : ℕ) → In x ds → In (g x) ds)
    (g-f : (x : ℕ) → In x ds → g (f x) ≡ x) (f-g : (x : ℕ) → In x ds → f (g x) ≡ x) where
  f_one : (x y : ℕ) → In x ds → In y ds → f x ≡ f y → x ≡ y
  f_one x y hx hy e = sym (g-f x hx) ∙ ap g e ∙ g-f y hy

  g_one : (x y : ℕ) → In x ds → In y ds → g x ≡ g y → x ≡ y
  g_one x y hx hy e = sym (f-g x hx) ∙ ap f e ∙ f-g y hy

  back : (k x : ℕ) → In x ds → iter g k (iter f k x) ≡ x
  back zero x h = refl
  back (suc k) x h = shift ∙ ap g (back k (f x) (f-in x h)) ∙ g-f x h
    where
      shift : iter g (suc k) (iter f (suc k) x) ≡ g (iter g k (iter f k (f x)))
      shift = iter_last k (iter f k (f x))
        where
          iter_last : (k y : ℕ) → iter g (suc k) y ≡ g (iter g k y)
          iter_last zero y = refl
          iter_last (suc k) y = iter_last k (g y)

  forth : (k x : ℕ) → In x ds → iter f k (iter g k x) ≡ x
  forth zero x h = refl
  forth (suc k) x h = shift ∙ ap f (forth k (g x) (g-in x h)) ∙ f-g x h
    where
      shift : iter f (suc k) (iter g (suc k) x) ≡ f (iter f k (iter g k (g x)))
      shift = iter_last k (iter g k (g x))
        where
          iter_last : (k y : ℕ) → iter f (suc k) y ≡ f (iter f k y)
          iter_last zero y = refl
          iter_last (suc k) y = iter_last k (f y)

  pub cycle_back : (x : ℕ) → In x ds → cycle g x ≡ tab (λ j. iter f (length (cycle f x) - j) x) (length (cycle f x))
  unfolding cycle
  cycle_back x h =
      let r = around_path f ds f-in f_one 4096 x few h in
      let s = around_path g ds g-in g_one 4096 x few h in
      let size : length (cycle f x) ≡ r.0 = ap length (r.3 ∙ path_tab f r.0 x) ∙ length_tab (λ j. iter f j x) r.0 in
      let back-there : iter g r.0 x ≡ x = ap (iter g r.0) (sym r.4) ∙ back r.0 x h in
      let forth-there : iter f s.0 x ≡ x = ap (iter f s.0) (sym s.4) ∙ forth s.0 x h in
      let same : s.0 ≡ r.0 = equal s.0 r.0 s.1 r.1 (λ l. s.5 r.0 r.1 l back-there) (λ l. r.5 s.0 s.1 l forth-there) in
      s.3 ∙ path_tab g s.0 x ∙ ap (tab (λ j. iter g j x)) (same ∙ sym size)
      ∙ tab_cong (λ j. iter g j x) (λ j. iter f (length (cycle f x) - j) x) (length (cycle f x)) (λ j l. step (length (cycle f x)) j l (ap (λ (c : ℕ). iter f c x) size ∙ r.4))
    where
      equal : (a c : ℕ) → 0 < a → 0 < c → (c < a → ⊥) → (a < c → ⊥) → a ≡ c
      equal a c ha hc p q = ⊎_elim (λ (l : c < a). absurd (p l)) (λ (l : a ≤ c). ⊎_elim (λ (u : a < c). absurd (q u)) (λ (u : c ≤ a). omega arith) (lt_or_ge a c)) (lt_or_ge c a)

      step : (c j : ℕ) → j < c → iter f c x ≡ x → iter g j x ≡ iter f (c - j) x
      step c j l e =
          let split : c ≡ (c - j) + j = omega arith in
          ap (iter g j) (sym e ∙ ap (λ (k : ℕ). iter f k x) split ∙ iter_add f (c - j) j x) ∙ back j (iter f (c - j) x) (iter_stays f ds f-in f_one (c - j) x h)

-- OF A BLOCK: the face met from the dart at place y
module _ (m : List ℕ) (ok : holds_block m ≡ true) where
  site : Sited m
  site = sited m ok

  links : Links (darts_in m)
  links = links_from (darts_in m) (ascending_distinct (serials (darts_in m)) (ranges_of rack (block_in m) (parts m ok).ranges).in_order) (parts m ok).links

  serials_tab : serials (darts_in m) ≡ tab (column m 0) (count_in m)
  serials_tab = map_tab (λ d. d.serial) (dart_in m) (count_in m)

  held : (y : ℕ) → y < count_in m → In (column m 0 y) (serials (darts_in m))
  held y h = rw serials_tab (mem_place (column m 0) (count_in m) y (column m 0 y) h refl)

  -- steps along next, by places and by serials
  steps : (k y : ℕ) → y < count_in m → iter (next_in (darts_in m)) k (column m 0 y) ≡ column m 0 (iter (column m 1) k y)
  steps zero y h = refl
  steps (suc k) y h = ap (iter (next_in (darts_in m)) k) (sym (site.next_is y h)) ∙ steps k (column m 1 y) (site.linked.next_within y h)

  pub met_face : (y : ℕ) → y < count_in m
      → cycle (previous_in (darts_in m)) (column m 0 y)
      ≡ tab (λ j. column m 0 (iter (column m 1) (length (cycle (column m 1) y) - j) y)) (length (cycle (column m 1) y))
  met_face y h =
      let size : length (cycle (next_in (darts_in m)) (column m 0 y)) ≡ length (cycle (column m 1) y) = ap length (sym (cycle_carried site y h)) ∙ length-map (cycle (column m 1) y) (column m 0) in
      cycle_back (next_in (darts_in m)) (previous_in (darts_in m)) (serials (darts_in m)) (let f = site.linked.few in omega (arith, ap length serials_tab, length_tab (column m 0) (count_in m)))
      links.next_in_block links.previous_in_block links.previous_next links.next_previous (column m 0 y) (held y h)
      ∙ ap (λ (c : ℕ). tab (λ j. iter (next_in (darts_in m)) (c - j) (column m 0 y)) c) size
      ∙ tab_cong _ _ (length (cycle (column m 1) y)) (λ j l. steps (length (cycle (column m 1) y) - j) y h)
