-- A label and its code: each gives the other back. Assumes nothing.
use Prim.Native.Nat.{ℕ, ◌+◌, ◌*◌, ◌/◌, ◌%◌, ◌^◌, ◌<◌}
use mathlib.Core.Path.{◌≡◌}
use native.Mathlib.Omega.{arith}
use Rattle.model.specs.Values.{Label, code}
use Rattle.model.specs.Image.{label_in}

pub code_in : (a : ℕ) → code (label_in a) ≡ a
unfolding code
code_in a = omega arith

pub in_code : (l : Label) → l.number < 2 ^ 32 → l.position < 4096 → label_in (code l) ≡ l
unfolding code
in_code l n p =
    let c = (l.maker * 2 ^ 32 + l.number) * 4096 + l.position in
    let em : c / 4096 / 2 ^ 32 ≡ l.maker = omega arith in
    let en : c / 4096 % 2 ^ 32 ≡ l.number = omega arith in
    let ep : c % 4096 ≡ l.position = omega arith in
    λ i. record { maker = em i; number = en i; position = ep i }
