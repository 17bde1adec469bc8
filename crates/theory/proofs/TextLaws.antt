-- Laws of text: numbers in decimal, their digits, and how many there are. Assumes nothing.
use mathlib.Core.Path.{◌≡◌, refl, sym, ◌∙◌, ap}
use mathlib.Core.Bool.{Bool, true, false, true≢false, cond, ◌&&◌}
use mathlib.Core.List.{List, [], ◌∷◌, ◌++◌, append_assoc, append-nil}
use mathlib.Core.Logic.{⊎_elim}
use Prim.Native.Nat.{ℕ, zero, suc, ◌+◌, ◌*◌, ◌-◌, ◌/◌, ◌%◌, ◌^◌, ◌<◌, ◌≤◌}
use native.Mathlib.Nat.{pow-suc}
use native.Mathlib.Omega.{arith}
use lib.Dec.{leb, ltb}
use lib.ListN.{length, get_or, length-append, get_or-append}
use borrow.Author.Tests.{lt-ltb, le-ltb, ltb-true, ltb-false, le-leb, leb-true}
use Rattle.laws.proofs.Tests.{by_cases, and_intro, and_left, and_right, lt_or_ge}
use Rattle.model.specs.Lists.{all}
use Rattle.model.specs.Text.{is_digit, digits, decimal}
use Rattle.model.specs.Pages.{number_from, numbers_from}

-- with one more allowed than are needed, they are the same
one_more : (n v : ℕ) → v < 10 ^ suc n → digits (suc n) v ≡ digits (suc (suc n)) v
unfolding digits
one_more zero v h = rw (lt-ltb v 10 (omega arith))
one_more (suc n) v h =
    let e : 10 ^ suc (suc n) ≡ 10 ^ suc n * 10 = pow-suc 10 (suc n) in
    ap (λ (t : List ℕ). cond (ltb v 10) ((48 + v) ∷ []) (t ++ (48 + v % 10) ∷ [])) (one_more n (v / 10) (omega arith))

pub last_digit : (v : ℕ) → v < 10 → decimal v ≡ (48 + v) ∷ []
unfolding decimal digits
last_digit v h = rw (lt-ltb v 10 h)

pub next_digit : (v : ℕ) → v < 2 ^ 32 → 10 ≤ v → decimal v ≡ decimal (v / 10) ++ (48 + v % 10) ∷ []
unfolding decimal digits
next_digit v b h = rw (le-ltb v 10 h) (ap (λ (t : List ℕ). t ++ (48 + v % 10) ∷ []) (one_more 8 (v / 10) (omega arith)))

-- HOW MANY
digits_most : (m n v : ℕ) → v < 10 ^ suc n → length (digits m v) ≤ suc n
unfolding digits
digits_most zero n v h = omega arith
digits_most (suc m) n v h = by_cases (ltb v 10) (λ e. rw e (omega arith)) (λ e. rw e (more n h (ltb-false v 10 e) (digits_most m)))
  where
    more : (n : ℕ) → v < 10 ^ suc n → 10 ≤ v → ((n v : ℕ) → v < 10 ^ suc n → length (digits m v) ≤ suc n) → length (digits m (v / 10) ++ (48 + v % 10) ∷ []) ≤ suc n
    more zero h l ih = absurd (omega arith)
    more (suc n) h l ih =
        let e : 10 ^ suc (suc n) ≡ 10 ^ suc n * 10 = pow-suc 10 (suc n) in
        omega (arith, length-append (digits m (v / 10)) ((48 + v % 10) ∷ []), ih n (v / 10) (omega arith))

pub decimal_most : (n v : ℕ) → v < 10 ^ suc n → length (decimal v) ≤ suc n
unfolding decimal
decimal_most n v h = digits_most 10 n v h

pub decimal_ten : (v : ℕ) → v < 2 ^ 32 → length (decimal v) ≤ 10
decimal_ten v h = decimal_most 9 v (omega arith)

pub next_length : (v : ℕ) → v < 2 ^ 32 → 10 ≤ v → length (decimal v) ≡ length (decimal (v / 10)) + 1
next_length v b h = rw (next_digit v b h) (length-append (decimal (v / 10)) ((48 + v % 10) ∷ []))

pub last_length : (v : ℕ) → v < 10 → length (decimal v) ≡ 1
last_length v h = ap length (last_digit v h)

-- THE DIGITS
pub digit_yes : (d : ℕ) → d < 10 → is_digit (48 + d) ≡ true
unfolding is_digit
digit_yes d h = and_intro (le-leb 48 (48 + d) (omega arith)) (le-leb (48 + d) 57 (omega arith))

all_snoc : {A : Type 0} (p : A → Bool) (l : List A) (x : A) → all p l ≡ true → p x ≡ true → all p (l ++ x ∷ []) ≡ true
all_snoc p [] x a h = and_intro h refl
all_snoc p (y ∷ l) x a h = by_cases (p y) (λ e. rw e (all_snoc p l x (rw e at a) h)) (λ e. rw e (rw e at a))

digits_digits : (n v : ℕ) → all is_digit (digits n v) ≡ true
unfolding digits
digits_digits zero v = refl
digits_digits (suc n) v = by_cases (ltb v 10)
    (λ e. rw e (and_intro (digit_yes v (ltb-true v 10 e)) refl))
    (λ e. rw e (all_snoc is_digit (digits n (v / 10)) (48 + v % 10) (digits_digits n (v / 10)) (digit_yes (v % 10) (omega arith))))

pub decimal_digits : (v : ℕ) → all is_digit (decimal v) ≡ true
unfolding decimal
decimal_digits v = digits_digits 10 v

-- READ BACK
pub number_append : (x : ℕ) (a b : List ℕ) → number_from x (a ++ b) ≡ number_from (number_from x a) b
number_append x [] b = refl
number_append x (c ∷ a) b = number_append (10 * x + (c - 48)) a b

digits_back : (n v : ℕ) → v < 10 ^ n → number_from 0 (digits n v) ≡ v
unfolding digits
digits_back zero v h = omega arith
digits_back (suc n) v h = by_cases (ltb v 10)
    (λ e. rw e (let z : 10 * 0 + (48 + v - 48) ≡ v = omega arith in z))
    (λ e. rw e (
    let k : 10 ^ suc n ≡ 10 ^ n * 10 = pow-suc 10 n in
    let z : 10 * (v / 10) + (48 + v % 10 - 48) ≡ v = omega arith in
    number_append 0 (digits n (v / 10)) ((48 + v % 10) ∷ []) ∙ ap (λ (x : ℕ). 10 * x + (48 + v % 10 - 48)) (digits_back n (v / 10) (omega arith)) ∙ z))

pub decimal_back : (v : ℕ) → v < 2 ^ 32 → number_from 0 (decimal v) ≡ v
unfolding decimal
decimal_back v h = digits_back 10 v (omega arith)

-- a number ended by a byte that is no digit, and what comes after
numbers_digits : (x : ℕ) (a : List ℕ) (c : ℕ) (rest : List ℕ) → all is_digit a ≡ true → is_digit c ≡ false → numbers_from x (a ++ c ∷ rest) ≡ number_from x a ∷ numbers_from 0 rest
unfolding numbers_from
numbers_digits x [] c rest h e = rw e refl
numbers_digits x (d ∷ a) c rest h e = by_cases (is_digit d)
    (λ t. rw t (numbers_digits (10 * x + (d - 48)) a c rest (rw t at h) e))
    (λ t. absurd (true≢false (sym (rw t at h))))

pub numbers_back : (v c : ℕ) (rest : List ℕ) → v < 2 ^ 32 → is_digit c ≡ false → numbers_from 0 (decimal v ++ c ∷ rest) ≡ v ∷ numbers_from 0 rest
numbers_back v c rest h e = numbers_digits 0 (decimal v) c rest (decimal_digits v) e ∙ ap (λ (x : ℕ). x ∷ numbers_from 0 rest) (decimal_back v h)

-- what a number ends with
pub record LastDigit (v : ℕ) : Type 0 where
  pub before : List ℕ
  pub digit : ℕ
  pub small : digit < 10
  pub ends : decimal v ≡ before ++ (48 + digit) ∷ []

pub last_digit_of : (v : ℕ) → v < 2 ^ 32 → LastDigit v
last_digit_of v h = ⊎_elim
    (λ l. record { before = []; digit = v; small = l; ends = last_digit v l })
    (λ g. record { before = decimal (v / 10); digit = v % 10; small = omega arith; ends = next_digit v h g })
    (lt_or_ge v 10)

-- and with what it begins: no zero, but for 0 itself
digits_some : (n v : ℕ) → 1 ≤ length (digits (suc n) v)
unfolding digits
digits_some n v = by_cases (ltb v 10) (λ e. rw e (omega arith)) (λ e. rw e (omega (arith, length-append (digits n (v / 10)) ((48 + v % 10) ∷ []))))

pub decimal_some : (v : ℕ) → 1 ≤ length (decimal v)
unfolding decimal
decimal_some v = digits_some 9 v

digits_first : (n v : ℕ) → 1 ≤ v → v < 10 ^ suc n → 49 ≤ get_or (digits (suc n) v) 0 0
unfolding digits
digits_first zero v p h = rw (lt-ltb v 10 (omega arith)) (omega arith)
digits_first (suc n) v p h = by_cases (ltb v 10)
    (λ e. rw e (omega arith))
    (λ e. let k : 10 ^ suc (suc n) ≡ 10 ^ suc n * 10 = pow-suc 10 (suc n) in
    let big = ltb-false v 10 e in
    let first : get_or (digits (suc n) (v / 10) ++ (48 + v % 10) ∷ []) 0 0 ≡ get_or (digits (suc n) (v / 10)) 0 0 =
    get_or-append (digits (suc n) (v / 10)) ((48 + v % 10) ∷ []) 0 0 (digits_some n (v / 10)) in
    rw e (omega (arith, first, digits_first n (v / 10) (omega arith) (omega arith))))

pub decimal_first : (v : ℕ) → v < 2 ^ 32 → 1 ≤ v → 49 ≤ get_or (decimal v) 0 0
unfolding decimal
decimal_first v h p = digits_first 9 v p (omega arith)

-- DIGITS IN THEIR SHORTEST FORM are the number's own
pub number_grows : (x : ℕ) (cs : List ℕ) → x ≤ number_from x cs
number_grows x [] = omega arith
number_grows x (c ∷ cs) = omega (arith, number_grows (10 * x + (c - 48)) cs)

more_digits : (x : ℕ) (cs : List ℕ) → 1 ≤ x → all is_digit cs ≡ true → number_from x cs < 2 ^ 32 → decimal (number_from x cs) ≡ decimal x ++ cs
unfolding is_digit
more_digits x [] p a h = sym (append-nil (decimal x))
more_digits x (c ∷ cs) p a h =
    let d = and_left (leb 48 c && leb c 57) _ a in
    let low = leb-true 48 c (and_left (leb 48 c) _ d) in
    let high = leb-true c 57 (and_right (leb 48 c) _ d) in
    let small : 10 * x + (c - 48) < 2 ^ 32 = omega (arith, number_grows (10 * x + (c - 48)) cs) in
    let div : (10 * x + (c - 48)) / 10 ≡ x = omega arith in
    let last : 48 + (10 * x + (c - 48)) % 10 ≡ c = omega arith in
    let step : decimal (10 * x + (c - 48)) ≡ decimal x ++ c ∷ [] =
    next_digit (10 * x + (c - 48)) small (omega arith) ∙ ap (λ (z : ℕ). decimal z ++ (48 + (10 * x + (c - 48)) % 10) ∷ []) div ∙ ap (λ (z : ℕ). decimal x ++ z ∷ []) last in
    more_digits (10 * x + (c - 48)) cs (omega arith) (and_right (leb 48 c && leb c 57) _ a) h
    ∙ ap (λ (l : List ℕ). l ++ cs) step
    ∙ append_assoc (decimal x) (c ∷ []) cs

pub shortest : (c : ℕ) (cs : List ℕ) → 49 ≤ c → all is_digit (c ∷ cs) ≡ true → number_from 0 (c ∷ cs) < 2 ^ 32 → decimal (number_from 0 (c ∷ cs)) ≡ c ∷ cs
unfolding is_digit
shortest c cs p a h =
    let d = and_left (leb 48 c && leb c 57) _ a in
    let high = leb-true c 57 (and_right (leb 48 c) _ d) in
    let e : 48 + (10 * 0 + (c - 48)) ≡ c = omega arith in
    let one : decimal (10 * 0 + (c - 48)) ≡ c ∷ [] = last_digit (10 * 0 + (c - 48)) (omega arith) ∙ rw e in
    more_digits (10 * 0 + (c - 48)) cs (omega arith) (and_right (leb 48 c && leb c 57) _ a) h
    ∙ ap (λ (l : List ℕ). l ++ cs) one
