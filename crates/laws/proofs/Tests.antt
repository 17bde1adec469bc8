-- Laws of tests and tables. A passed test is the fact `b ≡ true`. Assumes nothing.
use mathlib.Core.Path.{◌≡◌, refl, sym, ◌∙◌, ap}
use mathlib.Core.Logic.{◌⊎◌, inl, inr, ◌≢◌}
use mathlib.Core.Bool.{Bool, true, false, true≢false, cond, not, ◌&&◌, ◌||◌}
use mathlib.Core.List.{List, [], ◌∷◌, ◌++◌, map}
use mathlib.Core.Option
use mathlib.Core.Option.{none, some, none-ne-some, some-injective}
use Prim.Native.Nat.{ℕ, zero, suc, ◌+◌, ◌<◌, ◌≤◌}
use native.Mathlib.Omega.{arith}
use native.Mathlib.Nat.{eq-or-lt_of_le, not-suc-le-zero}
use lib.Dec.{ltb, eqb}
use lib.ListN.{length, get_or}
use borrow.Author.Tests.{eqb-true, eqb-false, eq-eqb, ne_eqb, ltb-true, ltb-false}
use Rattle.model.specs.Lists.{all, keep, same_list, find, insert, Check, first_no}

-- to go by a test and keep its equation
pub by_cases {ℓ} : {C : Type ℓ} (b : Bool) → (b ≡ true → C) → (b ≡ false → C) → C
by_cases true f g = f refl
by_cases false f g = g refl

-- TWO NUMBERS
pub lt_or_ge : (a b : ℕ) → (a < b) ⊎ (b ≤ a)
lt_or_ge a b = by_cases (ltb a b) (λ e. inl (ltb-true a b e)) (λ e. inr (ltb-false a b e))

pub eq_or_ne : (a b : ℕ) → (a ≡ b) ⊎ (a ≡ b → ⊥)
eq_or_ne a b = by_cases (eqb a b) (λ e. inl (eqb-true a b e)) (λ e. inr (eqb-false a b e))

-- the code's i + 1
pub last_or_below : {k i : ℕ} → k < i + 1 → (k ≡ i) ⊎ (k < i)
last_or_below {k} {i} h = eq-or-lt_of_le (omega arith)

-- TESTS JOINED
pub and_intro : {a b : Bool} → a ≡ true → b ≡ true → (a && b) ≡ true
and_intro p q = rw (p, q)

pub and_left : (a b : Bool) → (a && b) ≡ true → a ≡ true
and_left true b p = refl
and_left false b p = p

pub and_right : (a b : Bool) → (a && b) ≡ true → b ≡ true
and_right true b p = p
and_right false b p = cc

pub and_false : (a : Bool) → (a && false) ≡ false
and_false true = refl
and_false false = refl

pub and_yes : (a : Bool) → (a && true) ≡ a
and_yes true = refl
and_yes false = refl

pub both_are : {a b c d : Bool} → a ≡ b → c ≡ d → (a && c) ≡ (b && d)
both_are e f = rw (e, f)

pub first_false : (a b c : Bool) → a ≡ false → false ≡ (a && b && c)
first_false a true c e = rw e refl
first_false a false c e = rw e refl

pub all_three : (a b c : Bool) {r : Bool} → a ≡ true → b ≡ true → r ≡ c → r ≡ (a && b && c)
all_three a b c e f g = rw (e, f) g

-- two tests that follow from each other are one
pub same_truth : (a b : Bool) → (a ≡ true → b ≡ true) → (b ≡ true → a ≡ true) → a ≡ b
same_truth true b f g = sym (f refl)
same_truth false true f g = g refl
same_truth false false f g = refl

pub or_cases : (a b : Bool) → (a || b) ≡ true → (a ≡ true) ⊎ (b ≡ true)
or_cases true b p = inl refl
or_cases false b p = inr p

pub or_false : (a b : Bool) → (a || b) ≡ false → (a ≡ false) × (b ≡ false)
or_false true b h = absurd (true≢false h)
or_false false b h = (refl, h)

pub eqb_swap : (a b : ℕ) → eqb a b ≡ eqb b a
eqb_swap a b = by_cases (eqb a b) (λ e. rw e (sym (eq-eqb b a (sym (eqb-true a b e))))) (λ e. rw e (sym (ne_eqb b a (λ x. eqb-false a b e (sym x)))))

pub not_equal : (a b : ℕ) → a ≢ b → not (eqb a b) ≡ true
not_equal a b h = rw (ne_eqb a b h)

-- TABLES
module _ {A : Type 0} (key : A → ℕ) where
  pub find_map : (f : A → A) → ((d : A) → key (f d) ≡ key d) → (x : ℕ) (l : List A) → find key x (map f l) ≡ Option.map f (find key x l)
  find_map f same x [] = refl
  find_map f same x (d ∷ l) = rw (same d) (by_cases (eqb x (key d)) (λ e. rw e) (λ e. rw e (find_map f same x l)))

  pub find_keep : (q : ℕ → Bool) (x : ℕ) (l : List A) → find key x (keep (λ d. q (key d)) l) ≡ cond (q x) (find key x l) none
  find_keep q x [] = by_cases (q x) (λ e. rw e) (λ e. rw e)
  find_keep q x (d ∷ l) = by_cases (q (key d))
      (λ k. rw k (by_cases (eqb x (key d))
      (λ e. rw (e, eqb-true x (key d) e, k))
      (λ e. rw e (find_keep q x l))))
      (λ k. rw (k, find_keep q x l) (by_cases (eqb x (key d))
      (λ e. rw (e, eqb-true x (key d) e, k))
      (λ e. rw e)))

  pub find_insert : (d : A) (x : ℕ) (l : List A) → find key (key d) l ≡ none → find key x (insert key d l) ≡ cond (eqb x (key d)) (some d) (find key x l)
  find_insert d x [] f = refl
  find_insert d x (e ∷ l) f = by_cases (ltb (key d) (key e))
      (λ k. rw k)
      (λ k. rw k (by_cases (eqb (key d) (key e))
      (λ s. let no : none ≡ some e = rw s at (sym f) in absurd (none-ne-some e no))
      (λ s. rw (find_insert d x l (rw s at f)) (by_cases (eqb x (key e))
      (λ t. rw (t, eqb-true x (key e) t, ne_eqb (key e) (key d) (λ h. eqb-false (key d) (key e) s (sym h))))
      (λ t. rw t)))))

  -- the key of a row that is found
  pub found_key : (x : ℕ) (l : List A) (d : A) → find key x l ≡ some d → key d ≡ x
  found_key x [] d p = absurd (none-ne-some d p)
  found_key x (e ∷ l) d p = by_cases (eqb x (key e))
      (λ t. let q : some e ≡ some d = rw t at p in ap key (sym (some-injective e d q)) ∙ sym (eqb-true x (key e) t))
      (λ t. found_key x l d (rw t at p))

  -- what holds of each row holds of a row that is found
  pub found_all : (p : A → Bool) (x : ℕ) (l : List A) (d : A) → all p l ≡ true → find key x l ≡ some d → p d ≡ true
  found_all p x [] d a f = absurd (none-ne-some d f)
  found_all p x (e ∷ l) d a f = by_cases (eqb x (key e))
      (λ t. let q : some e ≡ some d = rw t at f in ap p (sym (some-injective e d q)) ∙ and_left (p e) _ a)
      (λ t. found_all p x l d (and_right (p e) _ a) (rw t at f))

-- what holds of each element holds at each index
pub all_at : {A : Type 0} (p : A → Bool) (d : A) (l : List A) (i : ℕ) → all p l ≡ true → i < length l → p (get_or l i d) ≡ true
all_at p d [] i a h = absurd (not-suc-le-zero h)
all_at p d (x ∷ l) zero a h = and_left (p x) _ a
all_at p d (x ∷ l) (suc i) a h = all_at p d l i (and_right (p x) _ a) (omega arith)

-- LISTS OF NUMBERS THAT ARE THE SAME
pub same_list_is : (l m : List ℕ) → same_list l m ≡ true → l ≡ m
unfolding same_list
same_list_is [] [] e = refl
same_list_is [] (y ∷ m) e = absurd (true≢false (sym e))
same_list_is (x ∷ l) [] e = absurd (true≢false (sym e))
same_list_is (x ∷ l) (y ∷ m) e = rw (eqb-true x y (and_left _ _ e), same_list_is l m (and_right (eqb x y) _ e))

pub same_list_self : (l : List ℕ) → same_list l l ≡ true
unfolding same_list
same_list_self [] = refl
same_list_self (x ∷ l) = and_intro (eq-eqb x x refl) (same_list_self l)

-- CHECKS, one by one: a yes passes on, and a served call has had a yes to each
pub yes_then : (n : ℕ) (a : Bool) (qs : List Check) → a ≡ true → first_no ((n, a) ∷ qs) ≡ first_no qs
unfolding first_no
yes_then n a qs p = rw p

pub no_more : first_no [] ≡ 0
unfolding first_no
no_more = refl

pub no_here : (n : ℕ) (a : Bool) (qs : List Check) → a ≡ false → first_no ((n, a) ∷ qs) ≡ n
unfolding first_no
no_here n a qs p = rw p

pub yes_first : (n : ℕ) (a : Bool) (qs : List Check) → n ≢ 0 → first_no ((n, a) ∷ qs) ≡ 0 → (a ≡ true) × (first_no qs ≡ 0)
unfolding first_no
yes_first n true qs p e = (refl, e)
yes_first n false qs p e = absurd (p e)

pub first_no_append : (ps qs : List Check) → first_no ps ≡ 0 → all (λ q. ltb 0 q.0) ps ≡ true → first_no (ps ++ qs) ≡ first_no qs
unfolding first_no
first_no_append [] qs e h = refl
first_no_append (p ∷ ps) qs e h = by_cases p.1
    (λ t. rw t (first_no_append ps qs (rw t at e) (and_right (ltb 0 p.0) _ h)))
    (λ t. let zero_number : p.0 ≡ 0 = rw t at e in let positive = ltb-true 0 p.0 (and_left _ _ h) in absurd (omega arith))

pub first_no_stays : (ps qs : List Check) → first_no ps ≢ 0 → first_no (ps ++ qs) ≡ first_no ps
unfolding first_no
first_no_stays [] qs h = absurd (h refl)
first_no_stays (p ∷ ps) qs h = by_cases p.1 (λ t. rw t (first_no_stays ps qs (rw t at h))) (λ t. rw t)

-- a yes to all is a yes to the first ones
pub first_no_left : (ps qs : List Check) → first_no (ps ++ qs) ≡ 0 → first_no ps ≡ 0
first_no_left ps qs e = by_cases (eqb (first_no ps) 0)
    (λ z. eqb-true (first_no ps) 0 z)
    (λ z. sym (first_no_stays ps qs (eqb-false (first_no ps) 0 z)) ∙ e)
