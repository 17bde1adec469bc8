-- Texts read byte by byte: a number's digits, the first bytes that pass a test, two texts side by side. Assumes nothing.
use Rattle.std.specs.Prelude.{None, Some}
use mathlib.Core.Path.{◌≡◌, refl, ap}
use mathlib.Core.Bool.{Bool, true, false, ◌&&◌}
use mathlib.Core.List.{List, [], ◌∷◌}
use Prim.Native.Nat.{ℕ, suc, ◌+◌, ◌*◌, ◌-◌, ◌^◌, ◌<◌, ◌≤◌}
use native.Mathlib.Omega.{arith}
use lib.Dec.{leb, eqb}
use lib.ListN.{length, get_or, drop}
use lib.Pointwise.{pointwise}
use borrow.Author.Tests.{lt-ltb, le-ltb, leb-true}
use Rattle.model.specs.Lists.{same_list}
use Rattle.laws.proofs.Tests.{and_left, and_right}
use Rattle.laws.proofs.Lists.{drop_at_cons, drop_end}
use Rattle.model.specs.Text.{is_digit}
use Rattle.commands.specs.Words.{digits_from, number_in, leading}

-- DIGITS, of which those before i gave n
pub digits_on : (t : List ℕ) (n i v : ℕ) → i < length t → is_digit (get_or t i 0) ≡ true → v ≡ 10 * n + (get_or t i 0 - 48) → v < 2 ^ 32 → digits_from n (drop i t) ≡ digits_from v (drop (i + 1) t)
unfolding digits_from
digits_on t n i v h d e l = rw (drop_at_cons t i h, d, ← e, lt-ltb v (2 ^ 32) l)

pub digits_no_digit : (t : List ℕ) (n i : ℕ) → i < length t → is_digit (get_or t i 0) ≡ false → digits_from n (drop i t) ≡ None
unfolding digits_from
digits_no_digit t n i h d = rw (drop_at_cons t i h, d)

pub digits_too_many : (t : List ℕ) (n i v : ℕ) → i < length t → is_digit (get_or t i 0) ≡ true → v ≡ 10 * n + (get_or t i 0 - 48) → 2 ^ 32 ≤ v → digits_from n (drop i t) ≡ None
unfolding digits_from
digits_too_many t n i v h d e l = rw (drop_at_cons t i h, d, ← e, le-ltb v (2 ^ 32) l)

pub digits_end : (t : List ℕ) (n i : ℕ) → length t ≤ i → digits_from n (drop i t) ≡ Some n
unfolding digits_from
digits_end t n i h = rw (drop_end t i h)

pub number_some : (t : List ℕ) → 0 < length t → digits_from 0 t ≡ number_in t
unfolding number_in
number_some [] h = absurd (omega arith)
number_some (b ∷ bs) h = refl

pub number_none : (t : List ℕ) → length t ≡ 0 → None ≡ number_in t
unfolding number_in
number_none [] h = refl
number_none (b ∷ bs) h = absurd (omega (arith, h))

-- THE FIRST BYTES, of which those before i pass
pub leading_on : (p : ℕ → Bool) (t : List ℕ) (i : ℕ) → i < length t → p (get_or t i 0) ≡ true → i + leading p (drop i t) ≡ i + 1 + leading p (drop (i + 1) t)
unfolding leading
leading_on p t i h e = rw (drop_at_cons t i h, e) (omega arith)

pub leading_stop : (p : ℕ → Bool) (t : List ℕ) (i : ℕ) → i < length t → p (get_or t i 0) ≡ false → i + leading p (drop i t) ≡ i
unfolding leading
leading_stop p t i h e = rw (drop_at_cons t i h, e) (omega arith)

pub leading_end : (p : ℕ → Bool) (t : List ℕ) (i : ℕ) → length t ≤ i → i + leading p (drop i t) ≡ i
unfolding leading
leading_end p t i h = rw (drop_end t i h) (omega arith)

-- A DIGIT is from 48 to 57
pub digit_from : (b : ℕ) → is_digit b ≡ true → 48 ≤ b
unfolding is_digit
digit_from b h = leb-true 48 b (and_left (leb 48 b) (leb b 57) h)

pub digit_to : (b : ℕ) → is_digit b ≡ true → b ≤ 57
unfolding is_digit
digit_to b h = leb-true b 57 (and_right (leb 48 b) (leb b 57) h)

-- at the start
pub leading_start : (p : ℕ → Bool) (t : List ℕ) → 0 + leading p (drop 0 t) ≡ leading p t
leading_start p t = omega arith

-- TWO TEXTS compared by `==`
pub same_by_bytes : (s t : List ℕ) → pointwise eqb s t ≡ same_list s t
unfolding same_list
same_by_bytes [] [] = refl
same_by_bytes [] (y ∷ t) = refl
same_by_bytes (x ∷ s) [] = refl
same_by_bytes (x ∷ s) (y ∷ t) = ap (λ (e : Bool). eqb x y && e) (same_by_bytes s t)

pub same_short : (s t : List ℕ) → (length s ≡ length t → ⊥) → same_list s t ≡ false
unfolding same_list
same_short [] [] h = absurd (h refl)
same_short [] (y ∷ t) h = refl
same_short (x ∷ s) [] h = refl
same_short (x ∷ s) (y ∷ t) h = rw (same_short s t (λ e. h (ap suc e))) (and_no (eqb x y))
  where
    and_no : (b : Bool) → (b && false) ≡ false
    and_no true = refl
    and_no false = refl
