-- A small cell whose corners and their mean are computed, and floats in thousandths. Assumes nothing.
use Rattle.std.specs.Prelude.{◌≡◌, ℕ, Bool, true, false, List, [], ◌∷◌, map, refl, None, Some}
use Rattle.std.specs.Float.{binary64}
use Rattle.std.specs.Float.Ieee.{of_bits, to_unsigned, of_int, round, add, mul, div, neg, lt}
use Rattle.model.specs.Values.{free, Dart, Point as Patterns}
use Rattle.model.specs.Everything.{everything}
use Rattle.memory.specs.Point.{point_of}
use Rattle.corners.specs.Corners.{corner_points, sum_from, mean_of}
use Rattle.corners.specs.Thousandths.{digit_count, scaled, thousandths_in, thousandths_of}

-- three corners: (-1, 1, 0), (-2.5, 0, 4e9) and the origin
abbrev one : Patterns
one = record { x = 0xbff0000000000000; y = 0x3ff0000000000000; z = 0 }

abbrev two : Patterns
two = record { x = 0xc004000000000000; y = 0; z = 0x41edcd6500000000 }

abbrev origin : Patterns
origin = record { x = 0; y = 0; z = 0 }

abbrev at : Patterns → ℕ → ℕ → ℕ → Dart
at q s n o = record { serial = s; next = n; opposite = o; third = free; point = q }

-- darts 1 to 6: next 1 2 3 and 4 5 6 as cycles, opposites 1-6, 2-5, 3-4
abbrev pillow : List Dart
pillow = at one 1 2 6 ∷ at two 2 3 5 ∷ at origin 3 1 4 ∷ at one 4 5 3 ∷ at origin 5 6 2 ∷ at two 6 4 1 ∷ []

corners : corner_points pillow 4 ≡ one ∷ two ∷ origin ∷ []
unfolding everything corner_points
corners = refl

-- -3.5 / 3, 1 / 3, 4e9 / 3
mean : mean_of pillow 1 ≡ point_of 0xbff2aaaaaaaaaaab 0x3fd5555555555555 0x41d3de4355555555
unfolding everything corner_points mean_of sum_from of_bits round add div of_int
mean = refl

abbrev near : List (ℕ × Bool × ℕ)
near = (0x3ff8000000000000, false, 1500) ∷ (0xc000000000000000, true, 2000) ∷ (0x3fd5555555555555, false, 333) ∷ (0x3fe5555555555555, false, 667)
    ∷ (0, false, 0) ∷ (0xbf3a36e2eb1c432d, true, 0) ∷ (0x41cdcd6500000000, false, 1000000000000) ∷ []

told : map (λ t. thousandths_of (of_bits binary64 t.0)) near ≡ map (λ t. Some (t.1, t.2)) near
unfolding digit_count scaled thousandths_in thousandths_of of_bits round add mul neg lt to_unsigned
told = refl

-- 1000000000.001, -2e9, 1e300 and both infinities
abbrev distant : List ℕ
distant = 0x41cdcd65000020c5 ∷ 0xc1ddcd6500000000 ∷ 0x7e37e43c8800759c ∷ 0x7ff0000000000000 ∷ 0xfff0000000000000 ∷ []

not_told : map (λ w. thousandths_of (of_bits binary64 w)) distant ≡ map (λ w. None) distant
unfolding digit_count scaled thousandths_in thousandths_of of_bits round add mul neg lt to_unsigned
not_told = refl
