-- The bytes of a file's dart: its links, its third link, its point; and how many they are. Assumes nothing.
use mathlib.Core.Path.{◌≡◌}
use mathlib.Core.List.{◌++◌, append_assoc}
use Prim.Native.Nat.{ℕ, ◌+◌}
use lib.ListN.{length, length-append}
use Rattle.model.specs.Values.{Dart}
use Rattle.model.specs.Layouts.{serial, at_most, ◌⊗◌, ◌⊕◌, as_type}
use Rattle.model.specs.Messages.{kind_of, third, point, a_dart}
use Rattle.codec.specs.Darts.{link_bytes}

pub dart_bytes : (d : Dart) → a_dart.put d ≡ link_bytes d.serial d.next d.opposite ++ ((at_most 2 ⊗ third).put (kind_of d.third, d.third) ++ point.put d.point)
unfolding a_dart as_type ◌⊕◌ ◌⊗◌ link_bytes
dart_bytes d = rw (append_assoc (serial.put d.serial), append_assoc (serial.put d.next))

pub link_length : (s n o : ℕ) → length (link_bytes s n o) ≡ length (serial.put s) + (length (serial.put n) + length (serial.put o))
unfolding link_bytes
link_length s n o = rw (length-append (serial.put s), length-append (serial.put n))
