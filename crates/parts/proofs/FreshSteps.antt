-- The labels of the new darts: loops over them and over the block. Assumes nothing.
use Rattle.std.specs.Prelude.{None, Some}
use mathlib.Core.Path.{◌≡◌, refl, sym, ◌∙◌, ap}
use mathlib.Core.Bool.{Bool, true, false, not, ◌||◌}
use mathlib.Core.List.{List, ◌++◌, ◌∷◌, []}
use Prim.Native.Nat.{ℕ, ◌+◌, ◌/◌, ◌%◌, ◌≤◌, ◌<◌, ◌^◌}
use native.Mathlib.Omega.{arith}
use native.Mathlib.Numerals.{add-one}
use lib.Dec.{ltb, eqb}
use lib.ListN.{length, get_or, take, set, length-set}
use lib.Seq.{take-suc-set, get_or-take}
use Rattle.model.specs.Lists.{all, mem, distinct, tab}
use Rattle.model.specs.Image.{column, is_critical_word}
use Rattle.model.specs.Values.{message_darts}
use Rattle.laws.proofs.Tests.{by_cases, same_truth}
use Rattle.laws.proofs.Maps.{tab_more}
use Rattle.laws.proofs.Tables.{getD_tab, mem_place, place_mem, mem_none}
use Rattle.arrival.proofs.PairLaws.{all_same}
use Rattle.ranking.specs.Ranks.{value_at, index_at, rank_in, Ranked}
use Rattle.ranking.proofs.Found.{rank_at, rank_nothing}
use Rattle.parts.specs.Fresh.{own_right, own_at, fresh_value, fresh_at, ValuesPut, clear_at, labels_fit}

pub own_free : (me counter kind link : ℕ) → is_critical_word kind ≡ false → true ≡ own_right me counter kind link
own_free me counter kind link h = rw h refl

pub own_critical : (me counter kind link : ℕ) → is_critical_word kind ≡ true → {r : Bool} → r ≡ (not (eqb (link / 4096 / 2 ^ 32) me) || ltb (link / 4096 % 2 ^ 32) counter) → r ≡ own_right me counter kind link
own_critical me counter kind link h {r} e = rw h e

pub fresh_free : (kind link q : ℕ) → is_critical_word kind ≡ false → 2 ^ 48 + q ≡ fresh_value kind link q
fresh_free kind link q h = rw h refl

pub fresh_critical : (kind link q : ℕ) → is_critical_word kind ≡ true → link ≡ fresh_value kind link q
fresh_critical kind link q h = rw h refl

-- VALUES PUT
pub record Valued (f : ℕ → ℕ) (k : ℕ) (values : List ℕ) (q : ℕ) : Type 0 where
  pub le : q ≤ k
  pub len : k ≤ length values
  pub front : take q values ≡ tab f q

pub valued_none : (f : ℕ → ℕ) (k : ℕ) {values : List ℕ} → k ≤ length values → Valued f k values 0
valued_none f k n = record { le = omega arith; len = n; front = refl }

pub valued_more : {f : ℕ → ℕ} {k : ℕ} {values : List ℕ} {q y : ℕ} → Valued f k values q → q < k → y ≡ f q → Valued f k (set values q y) (q + 1)
valued_more {f} {k} {values} {q} {y} w h e = record {
  le = omega arith;
  len = simp length-set w.len;
  front = ap (λ (c : ℕ). take c (set values q y)) (add-one q) ∙ take-suc-set values q y (let n = w.len in omega arith) ∙ ap (λ (l : List ℕ). l ++ y ∷ []) w.front
      ∙ ap (λ (c : ℕ). tab f q ++ c ∷ []) e ∙ tab_more f q ∙ ap (tab f) (sym (add-one q));
}

pub valued_all : (kinds links : List ℕ) {k : ℕ} {values : List ℕ} {q : ℕ} → Valued (fresh_at kinds links) k values q → k ≤ q → ValuesPut kinds links k values
valued_all kinds links {k} {values} {q} w h = let e : q ≡ k = (let n = w.le in omega arith) in record { front = (let f = w.front in rw e at f) }

value_is : {kinds links : List ℕ} {k : ℕ} {values : List ℕ} → ValuesPut kinds links k values → (q : ℕ) → q < k → get_or values q 0 ≡ fresh_at kinds links q
value_is {kinds} {links} {k} {values} w q h = sym (get_or-take k values q 0 h) ∙ ap (λ (l : List ℕ). get_or l q 0) w.front ∙ getD_tab (fresh_at kinds links) k q 0 h

pub value_small : {kinds links : List ℕ} {k : ℕ} {values : List ℕ} → ValuesPut kinds links k values → k ≤ message_darts → ((q : ℕ) → q < k → get_or links q 0 < 2 ^ 48) → (q : ℕ) → q < k → get_or values q 0 < 2 ^ 54
value_small {kinds} {links} {k} w few s q h = rw (value_is w q h) (by_cases (is_critical_word (get_or kinds q 0)) (λ e. rw e (let r = s q h in omega arith)) (λ e. rw e (omega arith)))

-- ONE DART OF THE BLOCK
module _ (m keys : List ℕ) (k p : ℕ) where
  pub clear_free : is_critical_word (column m 3 p) ≡ false → true ≡ clear_at m (tab (value_at keys) k) p
  clear_free h = rw h refl

  pub clear_none : is_critical_word (column m 3 p) ≡ true → rank_in (value_at keys) k (column m 4 p) ≡ None → true ≡ clear_at m (tab (value_at keys) k) p
  clear_none h e = rw (h, mem_none (value_at keys) k (column m 4 p) (rank_nothing (value_at keys) k (column m 4 p) e)) refl

  pub clear_found : is_critical_word (column m 3 p) ≡ true → {r : ℕ} → rank_in (value_at keys) k (column m 4 p) ≡ Some r → false ≡ clear_at m (tab (value_at keys) k) p
  clear_found h {r} e = let w = rank_at (value_at keys) k (column m 4 p) e in rw (h, mem_place (value_at keys) k r (column m 4 p) w.0 w.1) refl

-- ALL
module _ (m : List ℕ) (n : ℕ) (kinds links : List ℕ) (k : ℕ) where
  pub own_no : all (own_at (get_or m 0 0) (get_or m 1 0) kinds links) (tab (λ q. q) k) ≡ false → false ≡ labels_fit m n kinds links k
  own_no e = rw e refl

  pub twice_no : {values : List ℕ} → ValuesPut kinds links k values → distinct (take k values) ≡ false → false ≡ labels_fit m n kinds links k
  twice_no {values} s e = by_cases (all (own_at (get_or m 0 0) (get_or m 1 0) kinds links) (tab (λ q. q) k)) (λ t. rw (t, sym (ap distinct s.front) ∙ e) refl) (λ t. rw t refl)

  pub clear_is : {values keys ranks : List ℕ} {r : Bool} → all (own_at (get_or m 0 0) (get_or m 1 0) kinds links) (tab (λ q. q) k) ≡ true → ValuesPut kinds links k values → distinct (take k values) ≡ true
      → Ranked values k keys ranks → r ≡ all (clear_at m (tab (value_at keys) k)) (tab (λ p. p) n) → r ≡ labels_fit m n kinds links k
  clear_is {values} {keys} {ranks} {r} t s d w e = rw (t, sym (ap distinct s.front) ∙ d) (e ∙ all_same _ _ n (λ p h. ap (λ (c : Bool). not (is_critical_word (column m 3 p)) || not c) (same (column m 4 p))))
    where
      same : (x : ℕ) → mem x (tab (value_at keys) k) ≡ mem x (tab (fresh_at kinds links) k)
      same x = same_truth _ _
          (λ u. let a = place_mem (value_at keys) k x u in mem_place (fresh_at kinds links) k (index_at keys a.0) x
          (w.index_below a.0 a.1)
          (sym (value_is s (index_at keys a.0) (w.index_below a.0 a.1)) ∙ sym (w.value_is a.0 a.1) ∙ a.2))
          (λ u. let a = place_mem (fresh_at kinds links) k x u in mem_place (value_at keys) k (get_or ranks a.0 0) x
          (w.rank_below a.0 a.1)
          (w.value_is (get_or ranks a.0 0) (w.rank_below a.0 a.1)
          ∙ ap (λ (i : ℕ). get_or values i 0) (w.index_rank a.0 a.1) ∙ value_is s a.0 a.1 ∙ a.2))
