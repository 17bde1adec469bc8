-- Volumes tried one by one: what may leave does not depend on the destination, and a volume that may not is struck off.
-- Assumes nothing.
use Rattle.std.specs.Prelude.{None, Some}
use mathlib.Core.Path.{◌≡◌, refl, sym, ap, ◌∙◌}
use mathlib.Core.Bool.{Bool, true, false, cond, ◌&&◌}
use mathlib.Core.List.{List, [], ◌∷◌, map}
use mathlib.Core.Logic.{◌⊎◌, inl, inr, ⊎_elim}
use Prim.Native.Nat.{ℕ, zero, suc, ◌+◌, ◌≤◌, ◌<◌}
use native.Mathlib.Omega.{arith}
use lib.Dec.{leb, ltb, eqb}
use lib.ListN.{length, get_or, set, length-set}
use lib.Seq.{get_or-set_same, get_or-set_other}
use borrow.Author.Tests.{ne_eqb, le-leb, lt-leb, lt-ltb}
use Rattle.model.specs.Lists.{keep, tab, Check, first_no}
use Rattle.model.specs.Image.{count_in, column, dart_in, block_in}
use Rattle.model.specs.Values.{Limits, rack}
use Rattle.model.specs.Departure.{departure_checks}
use Rattle.model.specs.Calls.{served, refused, Result, asked}
use Rattle.answers.specs.Answers.{answered}
use Rattle.laws.proofs.Tests.{eq_or_ne, last_or_below}
use Rattle.laws.proofs.Tables.{held_place}
use Rattle.departure.specs.Asked.{volume_checks}
use Rattle.balance.specs.Moves.{can_leave, fits, Untried, leaves_at, UntriedIn, going, candidate_of, at}

-- WHAT THE QUESTIONS GAVE
abbrev outcome : Bool → ℕ → Result (Unit {0})
outcome b n = cond {A = Result (Unit {0})} b (record { answer = served tt; lent = [] }) (record { answer = refused n; lent = [] })

pub none_refused : (qs : List Check) → served (tt {0}) ≡ answered qs → true ≡ eqb (first_no qs) 0
unfolding answered asked
none_refused qs h = go (eqb (first_no qs) 0) h
  where
    go : (b : Bool) → served (tt {0}) ≡ (outcome b (first_no qs)).answer → true ≡ b
    go true q = refl
    go false q = let z : ◌≡◌ {A = ℕ} 0 1 = cc in absurd (omega arith)

one_refused : (qs : List Check) (n : ℕ) → refused n ≡ answered qs → false ≡ eqb (first_no qs) 0
unfolding answered asked
one_refused qs n h = go (eqb (first_no qs) 0) h
  where
    go : (b : Bool) → refused n ≡ (outcome b (first_no qs)).answer → false ≡ b
    go true q = let z : ◌≡◌ {A = ℕ} 0 1 = cc in absurd (omega arith)
    go false q = refl

-- the questions by the limits of the rack
pub by_rack : (m : List ℕ) (p : ℕ) {l : Limits} → l ≡ rack → answered (volume_checks l.volume_darts m p) ≡ answered (volume_checks 512 m p)
by_rack m p e = ap (λ (l : Limits). answered (volume_checks l.volume_darts m p)) e

-- any other block will do
pub leaves_any : (m : List ℕ) (j s : ℕ) → j ≤ 15 → (j ≡ get_or m 0 0 → ⊥) → eqb (first_no (departure_checks 512 (block_in m) j s)) 0 ≡ can_leave m s
unfolding departure_checks can_leave first_no
leaves_any m j s h e = rw (le-leb j 15 h, ne_eqb j (get_or m 0 0) e) refl

module _ (m : List ℕ) (p : ℕ) (below : p < count_in m) where
  -- and a dart at a place is held
  leaves_here : eqb (first_no (volume_checks 512 m p)) 0 ≡ leaves_at m p
  unfolding departure_checks can_leave first_no
  leaves_here = rw (held_place (dart_in m) (count_in m) p (column m 0 p) below refl) refl

  pub leaves_yes : served (tt {0}) ≡ answered (volume_checks 512 m p) → true ≡ leaves_at m p
  leaves_yes a = none_refused _ a ∙ leaves_here

  pub leaves_no : (n : ℕ) → refused n ≡ answered (volume_checks 512 m p) → false ≡ leaves_at m p
  leaves_no n a = one_refused _ n a ∙ leaves_here

-- STRUCK OFF
pub untried_self : (leaves : ℕ → Bool) (n : ℕ) (s : List ℕ) → n ≤ length s → Untried (at s) leaves n s
untried_self leaves n s e = record { len = e; entry = λ p h. inl refl }

module _ {z : ℕ → ℕ} {leaves : ℕ → Bool} {n : ℕ} {s : List ℕ} (u : Untried z leaves n s) where
  pub untried_strike : (p : ℕ) → p < n → leaves p ≡ false → Untried z leaves n (set s p 0)
  untried_strike p h e = record {
    len = simp length-set u.len;
    entry = λ q l. ⊎_elim
        (λ same. inr (rw same (get_or-set_same s p 0 0 (omega (arith, u.len))), rw same e))
        (λ other. rw (get_or-set_other s p q 0 0 other) (u.entry q l))
        (eq_or_ne q p);
  }

  pub untried_more : {s' : List ℕ} → Untried (at s) leaves n s' → Untried z leaves n s'
  untried_more {s'} w = record { len = w.len; entry = λ p h. go p (w.entry p h) (u.entry p h) }
    where
      go : (p : ℕ) → (get_or s' p 0 ≡ get_or s p 0) ⊎ ((get_or s' p 0 ≡ 0) × (leaves p ≡ false)) → (get_or s p 0 ≡ z p) ⊎ ((get_or s p 0 ≡ 0) × (leaves p ≡ false))
          → (get_or s' p 0 ≡ z p) ⊎ ((get_or s' p 0 ≡ 0) × (leaves p ≡ false))
      go p (inr x) y = inr x
      go p (inl x) (inl y) = inl (x ∙ y)
      go p (inl x) (inr y) = inr (x ∙ y.0, y.1)

  -- THE TEST of a place, by what stands in the table
  module _ (left p : ℕ) (h : p < n) where
    not_leaves : leaves p ≡ false → fits z leaves left p ≡ false
    not_leaves e = go (ltb 0 (z p) && leb (z p) left) e
      where
        go : (a : Bool) {b : Bool} → b ≡ false → (a && b) ≡ false
        go true q = q
        go false q = refl

    too_large : left < z p → fits z leaves left p ≡ false
    too_large l = go (ltb 0 (z p)) (leaves p) (lt-leb (z p) left l)
      where
        go : (a b : Bool) {c : Bool} → c ≡ false → (a && c && b) ≡ false
        go true b q = rw q refl
        go false b q = refl

    no_volume : z p ≡ 0 → fits z leaves left p ≡ false
    no_volume e = rw e refl

    pub skip_none : {x : ℕ} → x ≡ get_or s p 0 → x ≡ 0 → fits z leaves left p ≡ false
    skip_none w e = ⊎_elim (λ a. no_volume (sym a ∙ sym w ∙ e)) (λ a. not_leaves a.1) (u.entry p h)

    pub skip_large : {x : ℕ} → x ≡ get_or s p 0 → left < x → fits z leaves left p ≡ false
    skip_large w l = ⊎_elim (λ a. too_large (omega arith)) (λ a. not_leaves a.1) (u.entry p h)

    pub skip_stays : leaves p ≡ false → fits z leaves left p ≡ false
    skip_stays = not_leaves

    pub fits_here : {x : ℕ} → x ≡ get_or s p 0 → (x ≡ 0 → ⊥) → x ≤ left → leaves p ≡ true → fits z leaves left p ≡ true
    fits_here {x} w e l k = ⊎_elim
        (λ a. let same : z p ≡ x = sym a ∙ sym w in rw (lt-ltb 0 (z p) (⊎_elim (λ o. absurd (e (sym same ∙ o))) (λ o. positive (z p) o) (eq_or_ne (z p) 0)), le-leb (z p) left (omega arith), k) refl)
        (λ a. absurd (e (w ∙ a.0)))
        (u.entry p h)
      where
        positive : (a : ℕ) → (a ≡ 0 → ⊥) → 0 < a
        positive a q = omega arith

  -- the table gives the same test
  pub fits_same : (left p : ℕ) → p < n → fits (at s) leaves left p ≡ fits z leaves left p
  fits_same left p h = ⊎_elim
      (λ a. ap (λ (x : ℕ). ltb 0 x && leb x left && leaves p) a)
      (λ a. no_volume_at a.0 ∙ sym (not_leaves left p h a.1))
      (u.entry p h)
    where
      no_volume_at : get_or s p 0 ≡ 0 → fits (at s) leaves left p ≡ false
      no_volume_at e = rw e refl

-- THE FIRST PLACE that passes
pub kept_first : (t : ℕ → Bool) (h : ℕ → ℕ) (n p : ℕ) → p < n → ((q : ℕ) → q < p → t (h q) ≡ false) → t (h p) ≡ true → (rest : List ℕ) × (keep t (tab h n) ≡ h p ∷ rest)
kept_first t h zero p l none e = absurd (omega arith)
kept_first t h (suc n) zero l none e = (keep t (tab (λ k. h (suc k)) n), rw e refl)
kept_first t h (suc n) (suc p) l none e = let r = kept_first t (λ k. h (suc k)) n p (omega arith) (λ q k. none (suc q) (omega arith)) e in (r.0, rw (none 0 (omega arith)) r.1)

pub kept_none : (t : ℕ → Bool) (h : ℕ → ℕ) (n : ℕ) → ((q : ℕ) → q < n → t (h q) ≡ false) → keep t (tab h n) ≡ []
kept_none t h zero none = refl
kept_none t h (suc n) none = rw (none 0 (omega arith)) (kept_none t (λ k. h (suc k)) n (λ q k. none (suc q) (omega arith)))

-- THE LOOP: none of the volumes that start before i may go
pub record Trying (z : ℕ → ℕ) (m : List ℕ) (left : ℕ) (s : List ℕ) (i : ℕ) : Type 0 where
  pub untried : UntriedIn z m s
  pub i_le : i ≤ get_or m 2 0
  pub before : (q : ℕ) → q < i → fits z (leaves_at m) left q ≡ false

pub trying_start : (m : List ℕ) (left : ℕ) (s : List ℕ) → get_or m 2 0 ≤ length s → Trying (at s) m left s 0
trying_start m left s e = record { untried = untried_self (leaves_at m) (get_or m 2 0) s e; i_le = omega arith; before = λ q l. absurd (omega arith) }

module _ {z : ℕ → ℕ} {m : List ℕ} {left : ℕ} {s : List ℕ} {i : ℕ} (w : Trying z m left s i) where
  passed : i < get_or m 2 0 → fits z (leaves_at m) left i ≡ false → (q : ℕ) → q < i + 1 → fits z (leaves_at m) left q ≡ false
  passed h e q l = ⊎_elim (λ same. rw same e) (λ below. w.before q below) (last_or_below l)

  pub trying_none : i < get_or m 2 0 → {x : ℕ} → x ≡ get_or s i 0 → x ≡ 0 → Trying z m left s (i + 1)
  trying_none h v e = record { untried = w.untried; i_le = omega arith; before = passed h (skip_none w.untried left i h v e) }

  pub trying_large : i < get_or m 2 0 → {x : ℕ} → x ≡ get_or s i 0 → left < x → Trying z m left s (i + 1)
  trying_large h v e = record { untried = w.untried; i_le = omega arith; before = passed h (skip_large w.untried left i h v e) }

  pub trying_strike : i < get_or m 2 0 → leaves_at m i ≡ false → Trying z m left (set s i 0) (i + 1)
  trying_strike h e = record { untried = untried_strike w.untried i h e; i_le = omega arith; before = passed h (skip_stays w.untried left i h e) }

  pub tried_found : i < get_or m 2 0 → {x : ℕ} → x ≡ get_or s i 0 → (x ≡ 0 → ⊥) → x ≤ left → leaves_at m i ≡ true → Some (column m 0 i) ≡ candidate_of (going z m left)
  unfolding going
  tried_found h v e l k =
      let r = kept_first (fits z (leaves_at m) left) (λ p. p) (get_or m 2 0) i h w.before (fits_here w.untried left i h v e l k) in
      sym (ap (λ (c : List ℕ). candidate_of (map (column m 0) c)) r.1)

  pub tried_all : get_or m 2 0 ≤ i → None ≡ candidate_of (going z m left)
  unfolding going
  tried_all l = sym (ap (λ (c : List ℕ). candidate_of (map (column m 0) c)) (kept_none (fits z (leaves_at m) left) (λ p. p) (get_or m 2 0) (λ q k. w.before q (omega arith))))

-- the arrays of the loop are as long as they were
pub record SameLengths (s m o t e n f p s₀ m₀ o₀ t₀ e₀ n₀ f₀ p₀ : List ℕ) : Type 0 where
  pub sizes : length s ≡ length s₀
  pub marks : length m ≡ length m₀
  pub order : length o ≡ length o₀
  pub starts : length t ≡ length t₀
  pub seen : length e ≡ length e₀
  pub numbers : length n ≡ length n₀
  pub firsts : length f ≡ length f₀
  pub colours : length p ≡ length p₀
