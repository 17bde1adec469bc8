-- Digits counted, and a number written from its last digit. Assumes nothing.
use mathlib.Core.Path.{◌≡◌, refl, ◌∙◌, ap}
use mathlib.Core.List.{List, [], ◌∷◌, ◌++◌}
use Prim.Native.Nat.{ℕ, suc, ◌+◌, ◌-◌, ◌/◌, ◌%◌, ◌^◌, ◌<◌, ◌≤◌}
use native.Mathlib.Omega.{arith}
use lib.Dec.{ltb}
use lib.ListN.{length, set, length-set}
use lib.Seq.{sets, set_comm}
use borrow.Author.Tests.{ltb-true, ltb-false}
use Rattle.laws.proofs.Tests.{by_cases}
use Rattle.model.specs.Text.{decimal}
use Rattle.theory.proofs.TextLaws.{last_digit, next_digit, next_length, last_length}
use Rattle.groups.specs.Slices.{Stored}

-- while digits are counted
pub record Counted (v n x : ℕ) : Type 0 where
  pub small : x < 2 ^ 32
  pub total : n + length (decimal x) ≡ 1 + length (decimal v)

pub count_start : (v : ℕ) → v < 2 ^ 32 → Counted v 1 v
count_start v h = record { small = h; total = refl }

module _ {v n x : ℕ} (w : Counted v n x) where
  pub count_more : 10 ≤ x → Counted v (n + 1) (x / 10)
  count_more h = record { small = omega (arith, w.small); total = omega (arith, w.total, next_length x w.small h) }

  pub count_end : x < 10 → n ≡ length (decimal v)
  count_end h = omega (arith, w.total, last_length x h)

-- WRITTEN FROM THE LAST DIGIT
-- the last of some bytes may be stored before the others
pub set_last : (l : List ℕ) (at : ℕ) (a : List ℕ) (c : ℕ) → sets (set l (at + length a) c) at a ≡ sets l at (a ++ c ∷ [])
set_last l at [] c = let e : at + 0 ≡ at = omega arith in rw e
set_last l at (x ∷ a) c =
    let e : at + suc (length a) ≡ suc at + length a = omega arith in
    ap (λ (t : List ℕ). sets t (suc at) a) (rw e (set_comm l (suc at + length a) at c x (λ z. omega arith))) ∙ set_last (set l at x) (suc at) a c

-- while a number is put: what is left of it, put before p, gives the same slice in the end
pub record Spelling (before : List ℕ) (at v : ℕ) (out : List ℕ) (p x : ℕ) : Type 0 where
  pub small : x < 2 ^ 32
  pub same_length : length out ≡ length before
  pub here : p ≡ at + length (decimal x)
  pub room : p ≤ length out
  pub same : sets out at (decimal x) ≡ sets before at (decimal v)

pub spelling_start : (l : List ℕ) (at v p : ℕ) → v < 2 ^ 32 → p ≡ at + length (decimal v) → at + length (decimal v) ≤ length l → Spelling l at v l p v
spelling_start l at v p h e r = record { small = h; same_length = refl; here = e; room = omega arith; same = refl }

module _ {l out : List ℕ} {at v p x : ℕ} (w : Spelling l at v out p x) where
  pub some_left : at < p
  some_left = by_cases (ltb x 10)
      (λ e. omega (arith, w.here, last_length x (ltb-true x 10 e)))
      (λ e. omega (arith, w.here, next_length x w.small (ltb-false x 10 e)))

  pub spelling_step : 10 ≤ x → Spelling l at v (set out (p - 1) (48 + x % 10)) (p - 1) (x / 10)
  spelling_step h =
      let k = next_length x w.small h in
      let e : p - 1 ≡ at + length (decimal (x / 10)) = omega (arith, w.here) in
      record {
        small = omega (arith, w.small);
        same_length = length-set out (p - 1) (48 + x % 10) ∙ w.same_length;
        here = e;
        room = rw length-set (omega (arith, w.room));
        same = rw e (set_last out at (decimal (x / 10)) (48 + x % 10)) ∙ rw (next_digit x w.small h) at w.same;
      }

  pub spelling_end : x < 10 → {next : ℕ} → next ≡ at + length (decimal v) → Stored l at (decimal v) (set out (p - 1) (48 + x)) next
  spelling_end h {next} e =
      let z : p - 1 ≡ at = omega (arith, w.here, last_length x h) in
      record { slice = rw z (rw (last_digit x h) at w.same); past = e }
