-- One entry: its bytes are those of its numbers one after the other, and how many they are. Assumes nothing.
use mathlib.Core.Path.{◌≡◌, refl, ◌∙◌, ap}
use mathlib.Core.List.{List, ◌++◌}
use Prim.Native.Nat.{ℕ, ◌+◌, ◌≤◌, ◌<◌, ◌^◌}
use native.Mathlib.Omega.{arith}
use lib.ListN.{length, length-append}
use Rattle.model.specs.Values.{Point, Label, serial_bound}
use Rattle.model.specs.Layouts.{group, serial, coordinate, ◌⊗◌, ◌⊕◌, as_type}
use Rattle.model.specs.Messages.{FaceDart, Part2, Part3, point, label, face_dart, part2, part3}
use Rattle.groups.specs.Slices.{Stored}
use Rattle.theory.proofs.GroupLaws.{group_most}
use Rattle.groups.proofs.Coordinates.{coordinate_length}

-- BYTES
pub point_bytes : (p : Point) → point.put p ≡ coordinate.put p.x ++ (coordinate.put p.y ++ coordinate.put p.z)
unfolding point as_type ◌⊕◌ ◌⊗◌
point_bytes p = refl

pub dart_bytes : (d : FaceDart) → face_dart.put d ≡ group.put d.vertex ++ serial.put d.serial
unfolding face_dart as_type ◌⊕◌ ◌⊗◌
dart_bytes d = refl

pub part2_bytes : (e : Part2) → part2.put e ≡ label.put e.label ++ group.put e.index
unfolding part2 as_type ◌⊕◌ ◌⊗◌
part2_bytes e = refl

pub part3_bytes : (e : Part3) → part3.put e ≡ group.put e.number ++ group.put e.index
unfolding part3 as_type ◌⊕◌ ◌⊗◌
part3_bytes e = refl

-- LENGTHS
pub point_length : (p : Point) → length (point.put p) ≡ 24
point_length p = ap length (point_bytes p) ∙ length-append (coordinate.put p.x) (coordinate.put p.y ++ coordinate.put p.z)
    ∙ omega (arith, length-append (coordinate.put p.y) (coordinate.put p.z), coordinate_length p.x, coordinate_length p.y, coordinate_length p.z)

pub serial_most : (v : ℕ) → v < serial_bound → length (serial.put v) ≤ 5
unfolding group serial
serial_most v h = group_most v h

pub dart_length : (v s : ℕ) → length (face_dart.put (record { vertex = v; serial = s })) ≡ length (group.put v) + length (serial.put s)
dart_length v s = ap length (dart_bytes (record { vertex = v; serial = s })) ∙ length-append (group.put v) (serial.put s)

pub part2_length : (l : Label) (i : ℕ) → length (part2.put (record { label = l; index = i })) ≡ length (label.put l) + length (group.put i)
part2_length l i = ap length (part2_bytes (record { label = l; index = i })) ∙ length-append (label.put l) (group.put i)

pub part3_length : (n i : ℕ) → length (part3.put (record { number = n; index = i })) ≡ length (group.put n) + length (group.put i)
part3_length n i = ap length (part3_bytes (record { number = n; index = i })) ∙ length-append (group.put n) (group.put i)

pub pair_length : (a b : ℕ) → length (group.put a ++ group.put b) ≡ length (group.put a) + length (group.put b)
pair_length a b = length-append (group.put a) (group.put b)

-- the same bytes in another form
pub stored_as : {l n whole bytes : List ℕ} {at next : ℕ} → whole ≡ bytes → Stored l at bytes n next → Stored l at whole n next
stored_as {l} {n} {whole} {bytes} {at} {next} e s = rw e s

-- what follows a first part does not wrap either
pub room_after : {l m a : List ℕ} {at mid : ℕ} → Stored l at a m mid → (b : ℕ) → at + (length a + b) < 2 ^ 63 → mid + b < 2 ^ 63
room_after {l} {m} {a} s b h = omega (arith, s.past)

-- a point whose words were read
pub point_words : (p : Point) {x y z : ℕ} → x ≡ p.x → y ≡ p.y → z ≡ p.z → point.put p ≡ coordinate.put x ++ (coordinate.put y ++ coordinate.put z)
point_words p ex ey ez = rw (ex, ey, ez) (point_bytes p)
