-- The file `viewers`, block by block. Assumes nothing.
use Rattle.std.specs.Prelude.{None, Some}
use mathlib.Core.Path.{◌≡◌, refl, sym, ap, ◌∙◌}
use mathlib.Core.Bool.{Bool, true, false, true≢false, cond}
use mathlib.Core.List.{List, [], ◌∷◌}
use Prim.Native.Nat.{ℕ, suc, ◌+◌, ◌*◌, ◌-◌, ◌/◌, ◌%◌, ◌^◌, ◌<◌, ◌≤◌}
use native.Mathlib.Nat.{pow-le-pow_right}
use native.Mathlib.Omega.{arith}
use lib.Dec.{ltb, eqb}
use lib.ListN.{length, drop, take, length-drop}
use lib.Seq.{take_all}
use borrow.Author.Tests.{lt-ltb, le-ltb, ltb-true, ltb-false}
use Rattle.model.specs.Lists.{same_list}
use Rattle.model.specs.Values.{is_viewer}
use Rattle.laws.proofs.Tests.{by_cases}
use Rattle.laws.proofs.Lists.{rest_whole}
use Rattle.commands.specs.Viewers.{number_then, ends_with, goes_on_with, viewers_from, viewers_in}
use Rattle.commands.proofs.Scans.{same_short}

-- A BLOCK'S BIT
pub bit_small : (b : ℕ) → b < 16 → 2 ^ b ≤ 32768
bit_small b h = pow-le-pow_right {n = 2} (omega arith) {i = b} {j = 15} (omega arith)

pub bit_next : (b : ℕ) → 2 ^ (b + 1) ≡ 2 * 2 ^ b
bit_next b = let e : b + 1 ≡ suc b = omega arith in rw e (omega arith)

pub has_none : (v n : ℕ) → 16 ≤ n → false ≡ is_viewer v n
unfolding is_viewer
has_none v n h = rw (le-ltb n 16 h)

pub has_bit : (v n : ℕ) → n < 16 → eqb (v / 2 ^ n % 2) 1 ≡ is_viewer v n
unfolding is_viewer
has_bit v n h = rw (lt-ltb n 16 h)

-- A BLOCK'S NUMBER has one digit or two
pub short_number : (b behind : ℕ) → b < 10 → number_then b behind ≡ (48 + b % 10) ∷ behind ∷ []
unfolding number_then
short_number b behind h = rw (lt-ltb b 10 h)

pub long_number : (b behind : ℕ) → 10 ≤ b → number_then b behind ≡ (48 + b / 10 % 10) ∷ (48 + b % 10) ∷ behind ∷ []
unfolding number_then
long_number b behind h = rw (le-ltb b 10 h)

-- a text that is too short for it
pub goes_on_short : (s : List ℕ) (at b : ℕ) → length s - at < length (number_then b 32) → false ≡ goes_on_with s at b
unfolding goes_on_with
goes_on_short s at b h = rw (take_all (length (number_then b 32)) (drop at s) (omega (arith, length-drop at s, h))) (sym (same_short _ _ (λ e. absurd (omega (arith, e, h, length-drop at s)))))

-- WHILE THE BLOCKS ARE ASKED FOR: those of v are viewers' before block b, and their numbers stand before a place
pub record Viewing (s : List ℕ) (v at b : ℕ) : Type 0 where
  pub within : at ≤ length s
  pub few : b ≤ 16
  pub below : v < 2 ^ b
  pub same : viewers_from (16 - b) b v s at ≡ viewers_in s

pub viewing_none : (s : List ℕ) → same_list s (10 ∷ []) ≡ true → Some 0 ≡ viewers_in s
unfolding viewers_in
viewing_none s h = rw h

all_asked : (s : List ℕ) → same_list s (10 ∷ []) ≡ false → viewers_from 16 0 0 s 0 ≡ viewers_in s
unfolding viewers_in
all_asked s h = rw h

pub viewing_start : (s : List ℕ) → same_list s (10 ∷ []) ≡ false → Viewing s 0 0 0
viewing_start s h = record { within = omega arith; few = omega arith; below = omega arith; same = all_asked s h }

-- one block more
asked : (n b v at : ℕ) (s : List ℕ) → viewers_from (suc n) b v s at
    ≡ cond (ends_with s at b) (Some (v + 2 ^ b)) (cond (goes_on_with s at b) (viewers_from n (b + 1) (v + 2 ^ b) s (at + length (number_then b 32))) (viewers_from n (b + 1) v s at))
unfolding viewers_from
asked n b v at s = refl

module _ {s : List ℕ} {v at b : ℕ} (w : Viewing s v at b) (h : b < 16) where
  next_asked : viewers_in s
      ≡ cond (ends_with s at b) (Some (v + 2 ^ b)) (cond (goes_on_with s at b) (viewers_from (16 - (b + 1)) (b + 1) (v + 2 ^ b) s (at + length (number_then b 32))) (viewers_from (16 - (b + 1)) (b + 1) v s at))
  next_asked =
      let left : 16 - b ≡ suc (16 - (b + 1)) = omega arith in
      sym w.same ∙ ap (λ (n : ℕ). viewers_from n b v s at) left ∙ asked (16 - (b + 1)) b v at s

  pub viewing_ends : ends_with s at b ≡ true → Some (v + 2 ^ b) ≡ viewers_in s
  viewing_ends e = rw (next_asked, e)

  pub viewing_goes_on : ends_with s at b ≡ false → goes_on_with s at b ≡ true → at + length (number_then b 32) ≤ length s → Viewing s (v + 2 ^ b) (at + length (number_then b 32)) (b + 1)
  viewing_goes_on e g l = record { within = l; few = omega arith; below = omega (arith, bit_next b, w.below); same = rw (next_asked, e, g) }

  pub viewing_passes : ends_with s at b ≡ false → goes_on_with s at b ≡ false → Viewing s v at (b + 1)
  viewing_passes e g = record { within = w.within; few = omega arith; below = omega (arith, bit_next b, w.below); same = rw (next_asked, e, g) }

over : (b v at : ℕ) (s : List ℕ) → viewers_from 0 b v s at ≡ None
unfolding viewers_from
over b v at s = refl

pub viewing_over : {s : List ℕ} {v at b : ℕ} → Viewing s v at b → 16 ≤ b → None ≡ viewers_in s
viewing_over {s} {v} {at} {b} w h = let none : 16 - b ≡ 0 = omega arith in sym (ap (λ (n : ℕ). viewers_from n b v s at) none ∙ over b v at s) ∙ w.same

-- a number as the code reads it
pub ends_is : (s : List ℕ) (at b : ℕ) {r : Bool} → r ≡ same_list (take (length s - at) (drop at s)) (number_then b 10) → ends_with s at b ≡ r
unfolding ends_with
ends_is s at b q = sym (q ∙ ap (λ (l : List ℕ). same_list l (number_then b 10)) (rest_whole s at))

pub goes_on_is : (s : List ℕ) (at b : ℕ) {n : ℕ} {r : Bool} → n ≡ length (number_then b 32) → r ≡ same_list (take (at + n - at) (drop at s)) (number_then b 32) → r ≡ goes_on_with s at b
unfolding goes_on_with
goes_on_is s at b {n} {r} e q = let size : at + n - at ≡ length (number_then b 32) = omega (arith, e) in q ∙ ap (λ (k : ℕ). same_list (take k (drop at s)) (number_then b 32)) size

-- a number that stands there is within the text
pub goes_on_within : (s : List ℕ) (at b : ℕ) → at ≤ length s → goes_on_with s at b ≡ true → at + length (number_then b 32) ≤ length s
goes_on_within s at b h e =
    by_cases (ltb (length s - at) (length (number_then b 32)))
    (λ l. absurd (true≢false (sym e ∙ sym (goes_on_short s at b (ltb-true _ _ l)))))
    (λ l. let m : length (number_then b 32) ≤ length s - at = ltb-false _ _ l in omega (arith, h, m))
