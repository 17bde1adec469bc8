-- What a mesh is made of: points, labels, third links, darts, blocks; and the limits. Assumes nothing.
use Rattle.std.specs.Prelude.{Bool, true, false, cond, ◌&&◌, List, [], ℕ, suc, ◌+◌, ◌*◌, ◌/◌, ◌%◌, ◌^◌, ltb, eqb}
use Rattle.std.proofs.Math.Option.{Option, none, some}

-- "three 64-bit floats": their bit patterns
pub record Point : Type 0 where
  pub x : ℕ
  pub y : ℕ
  pub z : ℕ

-- "maker (block 0 to 15), number (32 bits), position (0 to 4,095)"
pub record Label : Type 0 where
  pub maker : ℕ
  pub number : ℕ
  pub position : ℕ

-- the third link (β3): "free; sewn to a dart of the same block; critical, with a label and the number of the other block"
pub data Third : Type 0 where
  free : Third
  sewn : ℕ → Third
  critical : ℕ → Label → Third

-- "a serial and three links", and "its origin's point"; next is β1, opposite β2, both as serials
pub record Dart : Type 0 where
  pub serial : ℕ
  pub next : ℕ
  pub opposite : ℕ
  pub third : Third
  pub point : Point

-- darts in ascending serial
pub record Block : Type 0 where
  pub number : ℕ
  pub counter : ℕ
  pub darts : List Dart

-- NUMBERS BY THEIR MEANING
-- "At most 4,096 darts" in any block; what links reach is looked for so far (Cells)
abbrev pub room : ℕ
room = 4096

-- "1 to 512 darts (transfer)"
abbrev pub message_darts : ℕ
message_darts = 512

-- "blocks 0 to k−1, k from 1 to 16"; "maker (block 0 to 15), number (32 bits), position (0 to 4,095)"; "a counter (0 to 2^32−1)"
abbrev pub blocks : ℕ
blocks = 16

abbrev pub last_block : ℕ
last_block = 15

abbrev pub number_bound : ℕ
number_bound = 2 ^ 32

abbrev pub positions : ℕ
positions = 4096

abbrev pub last_position : ℕ
last_position = 4095

-- serials lie below this
abbrev pub serial_bound : ℕ
serial_bound = 2 ^ 32

-- LIMITS: how many darts a block may have, and how many a volume that is sent
pub record Limits : Type 0 where
  pub block_darts : ℕ
  pub volume_darts : ℕ

-- of a node of the rack
abbrev pub rack : Limits
rack = record { block_darts = 4096; volume_darts = 512 }

-- of the office's machine: "256 darts to a block, 64 to a volume"
abbrev pub viewer : Limits
viewer = record { block_darts = 256; volume_darts = 64 }

-- no block's are wider
abbrev pub widest : Limits
widest = record { block_darts = room; volume_darts = message_darts }

-- "A mesh says which of its blocks are viewers'": by the bits of a number, bit b for block b; there is no block from 16 on
unfoldable pub is_viewer : ℕ → ℕ → Bool
is_viewer viewers b = ltb b blocks && eqb (viewers / 2 ^ b % 2) 1

-- in a mesh and in a run the limits go by the block's number
unfoldable pub limits_in : ℕ → ℕ → Limits
limits_in viewers b = cond (is_viewer viewers b) viewer rack

-- LABELS are compared by their code, which orders them "in that way": maker, number, position
unfoldable pub code : Label → ℕ
code l = (l.maker * number_bound + l.number) * positions + l.position

-- one more than the code of a third link's label, 0 where it has none
abbrev pub label_key : Third → ℕ
label_key free = 0
label_key (sewn y) = 0
label_key (critical o l) = suc (code l)

abbrev pub has_label : Label → Third → Bool
has_label l t = eqb (suc (code l)) (label_key t)

abbrev pub label_of : Third → Option Label
label_of free = none
label_of (sewn y) = none
label_of (critical o l) = some l

-- THIRD LINKS
abbrev pub is_free : Third → Bool
is_free free = true
is_free (sewn y) = false
is_free (critical o l) = false

abbrev pub is_sewn_to : ℕ → Third → Bool
is_sewn_to x free = false
is_sewn_to x (sewn y) = eqb x y
is_sewn_to x (critical o l) = false

abbrev pub is_critical_with : ℕ → Third → Bool
is_critical_with o free = false
is_critical_with o (sewn y) = false
is_critical_with o (critical p l) = eqb o p

-- the dart that a sewn dart is sewn to, 0 of any other
abbrev pub partner : Third → ℕ
partner free = 0
partner (sewn y) = y
partner (critical o l) = 0

-- a critical link with another block
abbrev pub with_other : ℕ → Third → Third
with_other b free = free
with_other b (sewn y) = sewn y
with_other b (critical o l) = critical b l

abbrev pub with_third : Third → Dart → Dart
with_third t d = record { serial = d.serial; next = d.next; opposite = d.opposite; third = t; point = d.point }

-- POINTS: "compared by bits (so 0 and −0 differ)"
unfoldable pub same_point : Point → Point → Bool
same_point p q = eqb p.x q.x && eqb p.y q.y && eqb p.z q.z

-- "finite": the eleven bits of the exponent are not all one
unfoldable pub finite_bits : ℕ → Bool
finite_bits n = ltb n (2 ^ 64) && ltb (n % 2 ^ 63 / 2 ^ 52) 2047

unfoldable pub finite : Point → Bool
finite p = finite_bits p.x && finite_bits p.y && finite_bits p.z

-- WHAT STANDS FOR NOTHING: no dart has serial 0
unfoldable pub no_point : Point
no_point = record { x = 0; y = 0; z = 0 }

unfoldable pub no_dart : Dart
unfolding no_point
no_dart = record { serial = 0; next = 0; opposite = 0; third = free; point = no_point }

abbrev pub or_no_dart : Option Dart → Dart
or_no_dart none = no_dart
or_no_dart (some d) = d

unfoldable pub no_block : Block
no_block = record { number = 0; counter = 0; darts = [] }
