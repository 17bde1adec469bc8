-- What a file says of the dart at a place, and the numbers that it needs small. Assumes nothing.
--   third_named    what a third link names, by itself: the serial of a sewn dart, the code of a label
--   DartSmall          the words of a dart lead to places, what it names is in range, and its point is finite
use Rattle.std.specs.Prelude.{◌≡◌, true, cond, List, ◌++◌, ℕ, ◌+◌, ◌<◌, ◌≤◌, length, get_or}
use Rattle.model.specs.Values.{serial_bound, room}
use Rattle.model.specs.Layouts.{group}
use Rattle.model.specs.Image.{words_for, column, is_sewn_word}
use Rattle.memory.specs.Point.{FiniteAt}
use Rattle.codec.specs.Thirds.{ThirdSmall}

unfoldable pub third_named : List ℕ → ℕ → ℕ
third_named m p = cond (is_sewn_word (column m 3 p)) (column m 0 (column m 4 p)) (column m 4 p)

-- BYTES
-- block, counter, dart count
unfoldable pub header_bytes : List ℕ → List ℕ
header_bytes m = group.put (get_or m 0 0) ++ (group.put (get_or m 1 0) ++ group.put (get_or m 2 0))

-- NUMBERS IN RANGE
pub record DartSmall (m : List ℕ) (p : ℕ) : Type 0 where
  pub here : words_for (p + 1) ≤ length m
  pub next_here : words_for (column m 1 p + 1) ≤ length m
  pub opposite_here : words_for (column m 2 p + 1) ≤ length m
  pub sewn_here : is_sewn_word (column m 3 p) ≡ true → words_for (column m 4 p + 1) ≤ length m
  pub serial_small : column m 0 p < serial_bound
  pub next_small : column m 0 (column m 1 p) < serial_bound
  pub opposite_small : column m 0 (column m 2 p) < serial_bound
  pub third_small : ThirdSmall (column m 3 p) (third_named m p)
  pub finite_here : FiniteAt m p

-- of the first n darts
pub record AllSmall (m : List ℕ) (n : ℕ) : Type 0 where
  pub few : n ≤ room
  pub each : (p : ℕ) → p < n → DartSmall m p
