-- What it is for a float to be the nearest one to a number. Assumes nothing.
-- A number is ±a / c; a float is ±m × 2^e, and m × 2^e is m × up e / down e.
use Rattle.std.specs.Prelude.{◌≡◌, ℕ, ◌+◌, ◌-◌, ◌*◌, ◌≤◌, Bool, cond, T, ℤ, Float}
use Rattle.std.specs.Bool.{beq}
use Rattle.std.specs.Float.{nan, inf, fin, Format}
use Rattle.std.specs.Float.Ieee.{up, down, fits}

abbrev pub distance : ℕ → ℕ → ℕ
distance x y = (x - y) + (y - x)

-- how far the float is from the number, times c × down e
abbrev pub gap : Bool → ℕ → ℕ → Bool → ℕ → ℤ → ℕ
gap s a c t m e = cond (beq t s) (distance (m * up e * c) (a * down e)) (m * up e * c + a * down e)

-- a finite float with the number's sign, and no finite float of the format is nearer
abbrev pub Nearest : Format → Bool → ℕ → ℕ → Float → Type 0
Nearest f s a c nan = ⊥
Nearest f s a c (inf t) = ⊥
Nearest f s a c (fin t m e) =
    (t ≡ s) × ((u : Bool) (n : ℕ) (d : ℤ) → T (fits f (fin u n d)) → gap s a c t m e * down d ≤ gap s a c u n d * down e)
