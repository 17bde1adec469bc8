-- What is read of a point at a place of a slice. Assumes nothing.
use Rattle.std.specs.Prelude.{List, ℕ, ◌-◌, length, drop, None, Option as Optional, Some}
use Rattle.std.proofs.Math.Option.{Option, none, some}
use Rattle.model.specs.Values.{Point}
use Rattle.model.specs.Messages.{point}

abbrev pub placed_point : ℕ → Option (Point × List ℕ) → Optional (ℕ × ℕ × ℕ × ℕ)
placed_point n none = None
placed_point n (some r) = Some (r.0.x, r.0.y, r.0.z, (n - length r.1))

unfoldable pub point_read : List ℕ → ℕ → Optional (ℕ × ℕ × ℕ × ℕ)
point_read s at = placed_point (length s) (point.get (drop at s))
