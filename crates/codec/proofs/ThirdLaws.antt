-- Third links: their bytes by their kinds, and how long they are. Assumes nothing.
use mathlib.Core.Path.{◌≡◌, refl}
use mathlib.Core.Bool.{true, false}
use mathlib.Core.List.{◌++◌, append-nil}
use Prim.Native.Nat.{ℕ, ◌+◌, ◌/◌, ◌%◌, ◌^◌, ◌≤◌, ◌<◌}
use native.Mathlib.Omega.{arith}
use lib.ListN.{length, length-append}
use borrow.Author.Tests.{eqb-true, ne_eqb}
use Rattle.model.specs.Layouts.{group, serial, ◌⊗◌, ◌⊕◌, such_that, at_most}
use Rattle.model.specs.Image.{is_free_word, is_sewn_word, other_in, label_in, third_in}
use Rattle.model.specs.Messages.{label, critical_link, third_put, third}
use Rattle.laws.proofs.Tests.{by_cases}
use Rattle.theory.proofs.GroupLaws.{one_group, two_groups, group_most}
use Rattle.groups.proofs.Labels.{label_length}
use Rattle.codec.specs.Thirds.{ThirdSmall, third_bytes}
use Rattle.codec.proofs.EntryLaws.{serial_most}

pub sewn_not_free : (k : ℕ) → is_sewn_word k ≡ true → is_free_word k ≡ false
sewn_not_free k e = let one = eqb-true (k % 4) 1 e in ne_eqb (k % 4) 0 (λ z. omega arith)

pub free_bytes : (k a : ℕ) → is_free_word k ≡ true → third_bytes k a ≡ group.put 0
unfolding third_bytes third_in third_put third at_most such_that ◌⊗◌
free_bytes k a e = rw e (append-nil (group.put 0))

pub sewn_bytes : (k a : ℕ) → is_sewn_word k ≡ true → third_bytes k a ≡ group.put 1 ++ serial.put a
unfolding third_bytes third_in third_put third at_most such_that ◌⊗◌
sewn_bytes k a e = rw (sewn_not_free k e, e)

pub critical_bytes : (k a : ℕ) {o : ℕ} → is_free_word k ≡ false → is_sewn_word k ≡ false → o ≡ other_in k
    → third_bytes k a ≡ group.put 2 ++ (group.put o ++ label.put (label_in a))
unfolding third_bytes third_in third_put third at_most such_that ◌⊗◌ critical_link ◌⊕◌
critical_bytes k a e f g = rw (e, f, g)

pub free_length : (k a : ℕ) → is_free_word k ≡ true → length (third_bytes k a) ≡ 1
free_length k a e = rw (free_bytes k a e) (one_group 0 (omega arith))

pub sewn_length : (k a : ℕ) → is_sewn_word k ≡ true → length (third_bytes k a) ≡ 1 + length (serial.put a)
sewn_length k a e = rw (sewn_bytes k a e, length-append (group.put 1) (serial.put a), one_group 1 (omega arith))

pub critical_length : (k a : ℕ) {o : ℕ} → is_free_word k ≡ false → is_sewn_word k ≡ false → o ≡ other_in k
    → length (third_bytes k a) ≡ 1 + (length (group.put o) + length (label.put (label_in a)))
critical_length k a {o} e f g = rw (
  critical_bytes k a e f g,
  length-append (group.put 2) (group.put o ++ label.put (label_in a)),
  one_group 2 (omega arith),
  length-append (group.put o) (label.put (label_in a)),
)

-- a maker, a number and a position
label_within : (a : ℕ) → a < 2 ^ 48 → length (label.put (label_in a)) ≤ 8
label_within a h = omega (
  arith,
  label_length a,
  one_group (a / 4096 / 2 ^ 32) (omega arith),
  group_most (a / 4096 % 2 ^ 32) (omega arith),
  two_groups (a % 4096) (omega arith),
)

pub third_most : (k a : ℕ) → ThirdSmall k a → length (third_bytes k a) ≤ 10
third_most k a s = by_cases (is_free_word k)
    (λ e. omega (arith, free_length k a e))
    (λ e. by_cases (is_sewn_word k)
    (λ f. omega (arith, sewn_length k a f, serial_most a (s.sewn_small f)))
    (λ f. omega (arith, critical_length k a e f refl, one_group (other_in k) (omega (arith, s.other_small)), label_within a s.named_small)))
