-- The lines of a page by the parts that are put. Assumes nothing.
use mathlib.Core.Path.{◌≡◌, ap}
use mathlib.Core.List.{List, ◌++◌}
use Prim.Native.Nat.{ℕ, ◌^◌, ◌<◌}
use native.Mathlib.Omega.{arith}
use lib.ListN.{length, length-append}
use Rattle.model.specs.Values.{Third}
use Rattle.model.specs.Image.{column, third_in, dart_in}
use Rattle.model.specs.Pages.{row_of, blanks, line_feed, number_column, third_column, row_line}
use Rattle.theory.proofs.PageLaws.{column_length}
use Rattle.savefile.specs.Named.{third_named, DartSmall}
use Rattle.savefile.proofs.FileBytes.{third_is}

-- three numbers
abbrev pub three : ℕ → ℕ → ℕ → List ℕ
three a b c = number_column a ++ number_column b ++ number_column c

pub three_length : (a b c : ℕ) → a < 2 ^ 32 → b < 2 ^ 32 → c < 2 ^ 32 → length (three a b c) ≡ 30
three_length a b c p q r = omega (
  arith,
  length-append (number_column a ++ number_column b) (number_column c),
  length-append (number_column a) (number_column b),
  column_length a p,
  column_length b q,
  column_length c r,
)

-- the row of the dart at place p, by its words
pub row_parts : (m : List ℕ) (p : ℕ)
    → row_line (row_of (dart_in m p))
    ≡ three (column m 0 p) (column m 0 (column m 1 p)) (column m 0 (column m 2 p)) ++ blanks 2 ++ third_column (third_in (λ x. x) (column m 3 p) (third_named m p)) ++ line_feed
unfolding row_line
row_parts m p = ap (λ (t : Third). three (column m 0 p) (column m 0 (column m 1 p)) (column m 0 (column m 2 p)) ++ blanks 2 ++ third_column t ++ line_feed) (third_is m p)

-- its three numbers, as they were read
pub numbers_wide : {m : List ℕ} {p : ℕ} → DartSmall m p → {a b c : ℕ} → a ≡ column m 0 p → b ≡ column m 0 (column m 1 p) → c ≡ column m 0 (column m 2 p) → length (three a b c) ≡ 30
numbers_wide s {a} {b} {c} e f g = three_length a b c (omega (arith, s.serial_small)) (omega (arith, s.next_small)) (omega (arith, s.opposite_small))
