-- The corners of a cell, which are its vertices, each once, in message order; and the mean of their points. Assumes nothing.
use Rattle.std.specs.Prelude.{◌≡◌, ℕ, ◌<◌, ◌≤◌, cond, ◌&&◌, List, [], ◌∷◌, map, length, take, pos, slice_index, None, Option, Some}
use Rattle.std.specs.Float.{binary64}
use Rattle.std.specs.Float.Ieee.{add, div, of_int}
use Rattle.model.specs.Lists.{concat}
use Rattle.model.specs.Values.{Dart, Point as Patterns, room}
use Rattle.model.specs.Cells.{dart_at, next_in, opposite_in, faces_in, vertices, held}
use Rattle.model.specs.Image.{column, dart_in, block_in, holds_block}
use Rattle.memory.specs.declared.point.Point.{Point}
use Rattle.memory.specs.Point.{point_of}

-- the points of the corners of the cell that has a serial
unfoldable pub corner_points : List Dart → ℕ → List Patterns
corner_points ds s = map (λ x. (dart_at ds x).point) (vertices (next_in ds) (opposite_in ds) (concat (faces_in ds s)))

abbrev pub plus_point : Point → Point → Point
plus_point a b = record { x = add binary64 a.x b.x; y = add binary64 a.y b.y; z = add binary64 a.z b.z }

-- added up from the first on
unfoldable pub sum_from : Point → List Patterns → Point
sum_from s [] = s
sum_from s (q ∷ qs) = sum_from (plus_point s (point_of q.x q.y q.z)) qs

abbrev pub sum_of : List Patterns → Point
sum_of qs = sum_from (point_of 0 0 0) qs

abbrev pub over_number : Point → ℕ → Point
over_number a n = record { x = div binary64 a.x (of_int binary64 (pos n)); y = div binary64 a.y (of_int binary64 (pos n)); z = div binary64 a.z (of_int binary64 (pos n)) }

unfoldable pub mean_of : List Dart → ℕ → Point
mean_of ds s = over_number (sum_of (corner_points ds s)) (length (corner_points ds s))

-- THE ANSWER, if the memory is a sound block's image that holds the serial
unfoldable pub mean_in : List ℕ → ℕ → Option Point
mean_in m s = cond (holds_block m && held (block_in m).darts s) (Some (mean_of (block_in m).darts s)) None

-- BY PLACE: a dart of each corner of the cell of the dart at place p
pub record Cornered (m : List ℕ) (p : ℕ) (firsts : List ℕ) (count : ℕ) : Type 0 where
  pub size : count ≤ length firsts
  pub few : count ≤ room
  pub below : (k : ℕ) → k < count → slice_index firsts k < slice_index m 2
  pub points : corner_points (block_in m).darts (column m 0 p) ≡ map (λ q. (dart_in m q).point) (take count firsts)
