-- The columns of a line as they are written: blanks, a number from its last digit, a third link. Assumes nothing.
use mathlib.Core.Path.{◌≡◌, refl, sym, ◌∙◌, ap}
use mathlib.Core.List.{List, [], ◌∷◌, ◌++◌, append_assoc}
use Prim.Native.Nat.{ℕ, ◌+◌, ◌-◌, ◌/◌, ◌%◌, ◌^◌, ◌<◌, ◌≤◌}
use native.Mathlib.Omega.{arith}
use lib.Dec.{ltb}
use lib.ListN.{length, set, length-append, length-set, length-replicate, get_or-replicate}
use lib.Seq.{sets}
use borrow.Author.Tests.{ltb-true, ltb-false}
use Rattle.laws.proofs.Tests.{by_cases}
use Rattle.model.specs.Values.{Third}
use Rattle.model.specs.Image.{third_in}
use Rattle.model.specs.Text.{decimal, third_text}
use Rattle.model.specs.Pages.{blanks, number_column, third_column}
use Rattle.theory.proofs.TextLaws.{last_digit, next_digit, last_length, next_length, decimal_ten}
use Rattle.theory.proofs.PageLaws.{column_length}
use Rattle.groups.specs.Slices.{Stored}
use Rattle.groups.proofs.Writing.{stored_then}
use Rattle.codec.specs.Thirds.{ThirdSmall}
use Rattle.listing.proofs.Copies.{Copying, copy_fits, copy_more, copy_all}
use Rattle.listing.proofs.Digits.{set_last}
use Rattle.listing.proofs.LineTexts.{third_short}

-- BLANKS, copied one after the other
module _ {l out : List ℕ} {at i : ℕ} (n : ℕ) (w : Copying l at (blanks n) out i) where
  pub blank_fits : i < n → at + i < length out
  blank_fits h = copy_fits w (omega (arith, length-replicate {A = ℕ} n 32))

  pub blank_more : i < n → Copying l at (blanks n) (set out (at + i) 32) (i + 1)
  blank_more h = rw (get_or-replicate {A = ℕ} n i 32 0 h) at (copy_more w (omega (arith, length-replicate {A = ℕ} n 32)))

  pub blank_all : n ≤ i → Stored l at (blanks n) out (at + i)
  blank_all h = copy_all w (omega (arith, length-replicate {A = ℕ} n 32))

-- A NUMBER RIGHT-ALIGNED IN N COLUMNS
abbrev pub aligned : ℕ → ℕ → List ℕ
aligned n x = blanks (n - length (decimal x)) ++ decimal x

pub aligned_length : (n x : ℕ) → length (decimal x) ≤ n → length (aligned n x) ≡ n
aligned_length n x h = omega (arith, length-append (blanks (n - length (decimal x))) (decimal x), length-replicate {A = ℕ} (n - length (decimal x)) 32)

-- all but the last digit in one column fewer, and the last digit
pub aligned_more : (n x : ℕ) → x < 2 ^ 32 → 10 ≤ x → aligned (n + 1) x ≡ aligned n (x / 10) ++ (48 + x % 10) ∷ []
aligned_more n x b h =
    let e : n + 1 - length (decimal x) ≡ n - length (decimal (x / 10)) = omega (arith, next_length x b h) in
    rw e (rw (next_digit x b h) (sym (append_assoc (blanks (n - length (decimal (x / 10)))) (decimal (x / 10)) ((48 + x % 10) ∷ []))))

pub aligned_last : (n x : ℕ) → x < 10 → aligned (n + 1) x ≡ blanks n ++ (48 + x) ∷ []
aligned_last n x h =
    let e : n + 1 - length (decimal x) ≡ n = omega (arith, last_length x h) in
    rw e (rw (last_digit x h))

decimal_some : (x : ℕ) → x < 2 ^ 32 → 1 ≤ length (decimal x)
decimal_some x b = by_cases (ltb x 10)
    (λ e. omega (arith, last_length x (ltb-true x 10 e)))
    (λ e. omega (arith, next_length x b (ltb-false x 10 e)))

-- while a number is put: what is left of it, right-aligned in the columns before p, gives the same slice in the end
pub record Aligning (before : List ℕ) (at v : ℕ) (out : List ℕ) (p x : ℕ) : Type 0 where
  pub small : x < 2 ^ 32
  pub same_length : length out ≡ length before
  pub left : at + length (decimal x) ≤ p
  pub room : p ≤ length before
  pub same : sets out at (aligned (p - at) x) ≡ sets before at (number_column v)

pub aligning_start : (l : List ℕ) (at v : ℕ) → v < 2 ^ 32 → at + 10 ≤ length l → Aligning l at v l (at + 10) v
unfolding number_column
aligning_start l at v h r =
    let ten : at + 10 - at ≡ 10 = omega arith in
    record { small = h; same_length = refl; left = omega (arith, decimal_ten v h); room = r; same = ap (λ (n : ℕ). sets l at (aligned n v)) ten }

module _ {l out : List ℕ} {at v p x : ℕ} (w : Aligning l at v out p x) where
  pub some_left : at < p
  some_left = omega (arith, w.left, decimal_some x w.small)

  -- the last of the columns before p
  pub aligning_fits : p - 1 < length out
  aligning_fits = omega (arith, some_left, w.room, w.same_length)

  pub aligning_step : 10 ≤ x → Aligning l at v (set out (p - 1) (48 + x % 10)) (p - 1) (x / 10)
  aligning_step h =
      let k = next_length x w.small h in
      let n : ℕ = p - 1 - at in
      let wide = aligned_length n (x / 10) (omega (arith, w.left)) in
      let here : p - 1 ≡ at + length (aligned n (x / 10)) = omega (arith, w.left) in
      let one : p - at ≡ n + 1 = omega (arith, some_left) in
      record {
        small = omega (arith, w.small);
        same_length = length-set out (p - 1) (48 + x % 10) ∙ w.same_length;
        left = omega (arith, w.left);
        room = omega (arith, w.room);
        same =
            ap (λ (q : ℕ). sets (set out q (48 + x % 10)) at (aligned n (x / 10))) here
            ∙ set_last out at (aligned n (x / 10)) (48 + x % 10)
            ∙ ap (sets out at) (sym (ap (λ (q : ℕ). aligned q x) one ∙ aligned_more n x w.small h))
            ∙ w.same;
      }

  -- the columns before the first digit, whatever that is
  pub aligning_blanks : (d : ℕ) → at + (p - 1 - at) ≤ length (set out (p - 1) d)
  aligning_blanks d = omega (arith, some_left, w.room, w.same_length, length-set out (p - 1) d)

  pub aligning_end : x < 10 → {after : List ℕ} {r next : ℕ} → v < 2 ^ 32 → next ≡ at + 10 → Stored (set out (p - 1) (48 + x)) at (blanks (p - 1 - at)) after r
      → Stored l at (number_column v) after next
  aligning_end h {after} {r} {next} b e s =
      let n : ℕ = p - 1 - at in
      let wide = length-replicate {A = ℕ} n 32 in
      let here : p - 1 ≡ at + length (blanks n) = omega (arith, some_left) in
      let one : p - at ≡ n + 1 = omega (arith, some_left) in
      record {
        slice =
            s.slice
            ∙ ap (λ (q : ℕ). sets (set out q (48 + x)) at (blanks n)) here
            ∙ set_last out at (blanks n) (48 + x)
            ∙ ap (sets out at) (sym (ap (λ (q : ℕ). aligned q x) one ∙ aligned_last n x h))
            ∙ w.same;
        past = omega (arith, column_length v b);
      }

-- A THIRD LINK, and blanks up to its last column
pub third_wide : {k a : ℕ} → ThirdSmall k a → length (third_column (third_in (λ x. x) k a)) ≡ 48
unfolding third_column
third_wide {k} {a} s =
    let t = third_text (third_in (λ x. x) k a) in
    omega (arith, length-append t (blanks (48 - length t)), length-replicate {A = ℕ} (48 - length t) 32, third_short s)

pub third_padded : (t : Third) {l m n : List ℕ} {at mid next : ℕ} → Stored l at (third_text t) m mid → Stored m mid (blanks (at + 48 - mid)) n next → Stored l at (third_column t) n next
unfolding third_column
third_padded t {at = at} {mid = mid} p q =
    let e : at + 48 - mid ≡ 48 - length (third_text t) = omega (arith, p.past) in
    stored_then p (rw e at q)
