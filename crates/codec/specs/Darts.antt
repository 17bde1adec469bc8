-- A dart by its values as a file has them: next and opposite by serial, a kind word and what the third link names, the words of its point. Assumes nothing.
--   link_bytes    the bytes that it begins with
--   dart_read     what is read at a place of a slice
use Rattle.std.specs.Prelude.{List, ◌++◌, ℕ, ◌-◌, length, drop, None, Option as Optional, Some}
use Rattle.std.proofs.Math.Option.{Option, none, some}
use Rattle.model.specs.Values.{Dart}
use Rattle.model.specs.Layouts.{serial}
use Rattle.model.specs.Image.{kind_word}
use Rattle.model.specs.Messages.{a_dart}
use Rattle.codec.specs.Thirds.{named_by}
use Rattle.codec.specs.declared.dart.FileDart.{FileDart}

-- serial, next, opposite
unfoldable pub link_bytes : ℕ → ℕ → ℕ → List ℕ
link_bytes s n o = serial.put s ++ (serial.put n ++ serial.put o)

abbrev pub dart_values : Dart → FileDart
dart_values d = record {
  serial = d.serial;
  next = d.next;
  opposite = d.opposite;
  kind = kind_word d.third;
  link = named_by d.third;
  x = d.point.x;
  y = d.point.y;
  z = d.point.z;
}

abbrev pub placed_dart : ℕ → Option (Dart × List ℕ) → Optional (FileDart × ℕ)
placed_dart n none = None
placed_dart n (some r) = Some ((dart_values r.0), (n - length r.1))

unfoldable pub dart_read : List ℕ → ℕ → Optional (FileDart × ℕ)
dart_read s at = placed_dart (length s) (a_dart.get (drop at s))
