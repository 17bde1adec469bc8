-- The place of a serial: the loop that halves, what an answer tells, and the dart that it means in the model. Assumes nothing.
--   serials_ascend          the model's test of order gives what a lookup asks for
--   place_at, place_nothing     what an answer tells of the serials
--   find_at, dart_found, held_at, index_at; find_nothing, held_nothing    what it tells of the block in memory
use Rattle.std.specs.Prelude.{None, Some}
use Rattle.std.proofs.lemmas.Option.{none-some}
use Prim.Native.Nat.{ℕ, ◌+◌, ◌-◌, ◌/◌, ◌≤◌, ◌<◌}
use mathlib.Core.Path.{◌≡◌, sym, ap, ◌∙◌}
use mathlib.Core.Bool.{true, false}
use mathlib.Core.List.{List}
use mathlib.Core.Logic.{⊎_elim}
use mathlib.Core.Option.{none, some}
use native.Mathlib.Nat.{eq-or-lt_of_le}
use native.Mathlib.Omega.{arith}
use lib.Dec.{ltb}
use lib.ListN.{get_or}
use borrow.Author.Tests.{lt-ltb, le-ltb, ltb-true}
use Rattle.laws.specs.Order.{Ascending}
use Rattle.laws.proofs.Tests.{by_cases, lt_or_ge}
use Rattle.laws.proofs.Tables.{find_place, find_none, index_place, index_none, index_held, index_lt, ascending_tab, map_tab, mem_place, mem_none}
use Rattle.model.specs.Lists.{tab, find, index_of, ascending}
use Rattle.model.specs.Cells.{serials, held, dart_at}
use Rattle.model.specs.Image.{column, dart_in, block_in}
use Rattle.memory.specs.Lookup.{place_in}
use Rattle.memory.specs.declared.record.Place.{Place}

pub place_found : (s : ℕ → ℕ) (n x p : ℕ) → Ascending n s → p < n → s p ≡ x → Some (record { 0 = p }) ≡ place_in s n x
unfolding place_in
place_found s n x p a l e =
    let i : index_of x (tab s n) ≡ p = ap (λ (y : ℕ). index_of y (tab s n)) (sym e) ∙ index_place s n p a l in
    rw (place_in, i, lt-ltb p n l)

pub place_none : (s : ℕ → ℕ) (n x : ℕ) → ((k : ℕ) → k < n → s k ≡ x → ⊥) → None ≡ place_in s n x
unfolding place_in
place_none s n x h = rw (place_in, index_none s n x h, le-ltb n n (omega arith))

-- THE LOOP: where x stands among the values of s below n, it is one of `left` places from `low` on
pub record Halving (n : ℕ) (s : ℕ → ℕ) (x low left : ℕ) : Type 0 where
  pub fits : low + left ≤ n
  pub some_left : 1 ≤ left
  pub within : (k : ℕ) → k < n → s k ≡ x → (low ≤ k) × (k < low + left)

pub halving_start : (n : ℕ) (s : ℕ → ℕ) (x : ℕ) → 1 ≤ n → Halving n s x 0 n
halving_start n s x h = record { fits = omega arith; some_left = h; within = λ k l e. (omega arith, omega arith) }

module _ {n : ℕ} {s : ℕ → ℕ} {x low left : ℕ} (a : Ascending n s) (w : Halving n s x low left) (more : 1 < left) {v : ℕ} (read : v ≡ s (low + left / 2)) where
  pub halving_up : v ≤ x → Halving n s x (low + left / 2) (left - left / 2)
  halving_up h = record { fits = omega (arith, w.fits); some_left = omega arith; within = upper }
    where
      upper : (k : ℕ) → k < n → s k ≡ x → (low + left / 2 ≤ k) × (k < low + left / 2 + (left - left / 2))
      upper k l e = ⊎_elim
          (λ u. absurd (omega (arith, a k (low + left / 2) u (omega (arith, w.fits)))))
          (λ u. (u, omega (arith, (w.within k l e).1)))
          (lt_or_ge k (low + left / 2))

  pub halving_down : x < v → Halving n s x low (left - left / 2)
  halving_down h = record { fits = omega (arith, w.fits); some_left = omega arith; within = lower }
    where
      not_mid : (k : ℕ) → low + left / 2 ≤ k → k < n → s (low + left / 2) ≤ s k
      not_mid k u l = ⊎_elim (λ q. omega (arith, ap s q)) (λ q. omega (arith, a (low + left / 2) k q l)) (eq-or-lt_of_le u)

      lower : (k : ℕ) → k < n → s k ≡ x → (low ≤ k) × (k < low + (left - left / 2))
      lower k l e = ⊎_elim
          (λ u. ((w.within k l e).0, omega arith))
          (λ u. absurd (omega (arith, not_mid k u l)))
          (lt_or_ge k (low + left / 2))

pub halving_end : {n : ℕ} {s : ℕ → ℕ} {x low left : ℕ} → Halving n s x low left → left ≤ 1 → (s low ≡ x → ⊥) → None ≡ place_in s n x
halving_end {n} {s} {x} {low} {left} w l d = place_none s n x (λ k u e. d (ap s (only k (w.within k u e)) ∙ e))
  where
    only : (k : ℕ) → (low ≤ k) × (k < low + left) → low ≡ k
    only k h = omega (arith, h.0, h.1)

-- WHAT AN ANSWER TELLS
pub place_at : (s : ℕ → ℕ) (n x : ℕ) {p : Place} → place_in s n x ≡ Some p → (p.0 < n) × (s p.0 ≡ x)
unfolding place_in
place_at s n x {p} e = by_cases (ltb (index_of x (tab s n)) n)
    (λ t. told (ltb-true _ _ t) (rw (place_in, t) at e))
    (λ t. let q : None ≡ Some p = rw (place_in, t) at e in
    let z : ◌≡◌ {A = ℕ} 0 1 = cc in
    absurd (omega arith))
  where
    told : index_of x (tab s n) < n → Some (record { 0 = index_of x (tab s n) }) ≡ Some p → (p.0 < n) × (s p.0 ≡ x)
    told l q =
        let r : index_of x (tab s n) ≡ p.0 = cc in
        (omega arith, ap s (sym r) ∙ index_held s n x l)

pub place_nothing : (s : ℕ → ℕ) (n x : ℕ) → place_in s n x ≡ None → (k : ℕ) → k < n → s k ≡ x → ⊥
unfolding place_in
place_nothing s n x e k l h =
    let q : Some (record { 0 = index_of x (tab s n) }) ≡ None = rw (place_in, lt-ltb _ _ (index_lt s n x k l h)) at e in
    none-some _ (sym q)

-- THE BLOCK IN MEMORY
module _ (m : List ℕ) where
  pub serials_tab : serials (block_in m).darts ≡ tab (column m 0) (get_or m 2 0)
  serials_tab = map_tab (λ d. d.serial) (dart_in m) (get_or m 2 0)

  -- the model's test of order is what a lookup asks for
  pub serials_ascend : ascending (serials (block_in m).darts) ≡ true → Ascending (get_or m 2 0) (column m 0)
  serials_ascend e = ascending_tab (column m 0) (get_or m 2 0) (rw serials_tab at e)

  module _ (x : ℕ) (a : Ascending (get_or m 2 0) (column m 0)) {p : Place} (e : place_in (column m 0) (get_or m 2 0) x ≡ Some p) where
    pub find_at : find (λ d. d.serial) x (block_in m).darts ≡ some (dart_in m p.0)
    find_at =
        let w = place_at (column m 0) (get_or m 2 0) x e in
        rw (sym w.1) (find_place (λ d. d.serial) (dart_in m) (get_or m 2 0) p.0 a w.0)

    pub dart_found : dart_at (block_in m).darts x ≡ dart_in m p.0
    unfolding dart_at
    dart_found = rw find_at

    pub held_at : held (block_in m).darts x ≡ true
    held_at =
        let w = place_at (column m 0) (get_or m 2 0) x e in
        rw serials_tab (mem_place (column m 0) (get_or m 2 0) p.0 x w.0 w.1)

    pub index_at : index_of x (serials (block_in m).darts) ≡ p.0
    index_at =
        let w = place_at (column m 0) (get_or m 2 0) x e in
        rw serials_tab (ap (λ (y : ℕ). index_of y (tab (column m 0) (get_or m 2 0))) (sym w.1) ∙ index_place (column m 0) (get_or m 2 0) p.0 a w.0)

  module _ (x : ℕ) (e : place_in (column m 0) (get_or m 2 0) x ≡ None) where
    pub find_nothing : find (λ d. d.serial) x (block_in m).darts ≡ none
    find_nothing = find_none (λ d. d.serial) (dart_in m) (get_or m 2 0) x (place_nothing (column m 0) (get_or m 2 0) x e)

    pub held_nothing : held (block_in m).darts x ≡ false
    held_nothing = rw serials_tab (mem_none (column m 0) (get_or m 2 0) x (place_nothing (column m 0) (get_or m 2 0) x e))
