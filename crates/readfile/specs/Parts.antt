-- Darts of a file that are read and stored, and the whole file. Assumes nothing.
use Rattle.groups.specs.Slices.{MaybeRead}
use Rattle.std.specs.Prelude.{◌≡◌, Bool, true, ◌&&◌, List, [], ◌∷◌, ℕ, ◌-◌, ltb, length, drop, None, Option as Optional, Some}
use Rattle.std.proofs.Math.Option.{Option, none, some}
use Rattle.model.specs.Lists.{is_some}
use Rattle.model.specs.Values.{Dart, Block, Limits}
use Rattle.model.specs.Cells.{serials}
use Rattle.model.specs.Layouts.{Layout, such_that, times, whole}
use Rattle.model.specs.Messages.{a_dart, file}
use Rattle.model.specs.Image.{words_of}
use Rattle.memory.specs.Record.{put}
use Rattle.newblock.specs.Serials.{raw_words, raw, stored_all}

-- DARTS
-- a dart whose serial is above the last one
unfoldable pub dart_after : ℕ → Layout Dart
dart_after last = such_that a_dart (λ d. ltb last d.serial)

abbrev pub placed_serial : ℕ → Option (Dart × List ℕ) → MaybeRead
placed_serial n none = None
placed_serial n (some r) = Some (r.0.serial, (n - length r.1))

abbrev pub with_dart : List ℕ → ℕ → Option (Dart × List ℕ) → List ℕ
with_dart m p none = m
with_dart m p (some r) = put m p (raw_words r.0)

-- read at a place, and stored at place p
pub record DartStored (s : List ℕ) (at last : ℕ) (m : List ℕ) (p : ℕ) (after : List ℕ) (r : MaybeRead) : Type 0 where
  pub answer : r ≡ placed_serial (length s) ((dart_after last).get (drop at s))
  pub memory : after ≡ with_dart m p ((dart_after last).get (drop at s))

-- each number above the one before, the first above `last`
unfoldable pub climbs : ℕ → List ℕ → Bool
climbs last [] = true
climbs last (x ∷ xs) = ltb last x && climbs x xs

-- n darts in ascending serial, the first at least 1
unfoldable pub climbing : ℕ → Layout (List Dart)
climbing n = such_that (times n a_dart) (λ ds. climbs 0 (serials ds))

abbrev pub placed_end : ℕ → Option (List Dart × List ℕ) → Optional ℕ
placed_end n none = None
placed_end n (some r) = Some (n - length r.1)

-- read at a place, and stored from the first place on
pub record DartsStored (s : List ℕ) (from n : ℕ) (m after : List ℕ) (r : Optional ℕ) : Type 0 where
  pub answer : r ≡ placed_end (length s) ((climbing n).get (drop from s))
  pub memory : (ds : List Dart) (rest : List ℕ) → (climbing n).get (drop from s) ≡ some (ds, rest) → after ≡ stored_all m ds

-- WHOLE FILES, by the block's limits
pub record RawRead (lim : Limits) (s after : List ℕ) (r : Bool) : Type 0 where
  pub answer : r ≡ is_some (whole (file lim) s)
  pub memory : (b : Block) → whole (file lim) s ≡ some b → after ≡ raw (words_of lim) b
