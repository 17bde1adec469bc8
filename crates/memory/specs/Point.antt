-- Points as values of IEEE 754, and their patterns. Assumes nothing.
use Rattle.std.specs.Prelude.{◌≡◌, true, List, ℕ, ◌+◌, ◌*◌, set}
use Rattle.std.specs.Float.{binary64}
use Rattle.std.specs.Float.Ieee.{to_bits, of_bits}
use Rattle.model.specs.Values.{Point as Patterns, finite_bits}
use Rattle.model.specs.Image.{column}
use Rattle.memory.specs.declared.point.Point.{Point}

-- the point of three patterns, and back
abbrev pub point_of : ℕ → ℕ → ℕ → Point
point_of x y z = record { x = of_bits binary64 x; y = of_bits binary64 y; z = of_bits binary64 z }

abbrev pub patterns : Point → Patterns
patterns p = record { x = to_bits binary64 p.x; y = to_bits binary64 p.y; z = to_bits binary64 p.z }

-- "each point is three 64-bit floats, finite"
pub record FinitePoint (p : Point) : Type 0 where
  pub on_x : finite_bits (to_bits binary64 p.x) ≡ true
  pub on_y : finite_bits (to_bits binary64 p.y) ≡ true
  pub on_z : finite_bits (to_bits binary64 p.z) ≡ true

-- the point of the dart at place p
pub record FiniteAt (m : List ℕ) (p : ℕ) : Type 0 where
  pub on_x : finite_bits (column m 5 p) ≡ true
  pub on_y : finite_bits (column m 6 p) ≡ true
  pub on_z : finite_bits (column m 7 p) ≡ true

-- the patterns stored at place p
abbrev pub with_point : List ℕ → ℕ → Patterns → List ℕ
with_point m p q = set (set (set m (8 + p * 8 + 5) q.x) (8 + p * 8 + 6) q.y) (8 + p * 8 + 7) q.z
