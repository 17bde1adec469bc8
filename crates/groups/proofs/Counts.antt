-- The bit length of a number: what the count of leading zeros leaves of 32. Assumes nothing.
use mathlib.Core.Path.{◌≡◌, ◌∙◌}
use Prim.Native.Nat.{ℕ, suc, ◌-◌, ◌^◌, ◌<◌, ◌≤◌}
use native.Mathlib.Nat.{le_antisymm}
use native.Mathlib.Omega.{arith}
use lib.Count.{count_leading_zeros, leading_length}
use lib.Dec.{leb}
use lib.Ieee.{size}
use lib.Ieee.Digits.{size-lt, size-le}
use lib.Pow.{pow_mono}
use borrow.Author.Tests.{leb-true, leb-false}
use Rattle.laws.proofs.Tests.{by_cases}

pub bit_length : (v : ℕ) → v < 2 ^ 32 → 32 - count_leading_zeros 32 v ≡ size v
bit_length v h =
    let m = leading_length 32 v h in
    let e : 32 - count_leading_zeros 32 v ≡ m.0 = omega (arith, m.1) in
    let longer : m.0 ≤ size v = by_cases (leb m.0 (size v))
    (λ t. leb-true m.0 (size v) t)
    (λ f. absurd (let p : 2 ^ suc (size v) ≤ 2 ^ m.0 = pow_mono (leb-false m.0 (size v) f) in let q = size-lt v in omega (arith, m.3))) in
    e ∙ le_antisymm longer (size-le v m.0 m.2)
