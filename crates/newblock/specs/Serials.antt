-- A block in memory with serials where its image has places. Assumes nothing.
--   raw_words, raw        the words of a dart, of a block
--   raw_block, InSerials  from the words back; memory that has the words of a block in range
--   behind, stored_all    rows, darts stored from the first place on
use Rattle.std.specs.Prelude.{◌≡◌, ℕ, ◌+◌, ◌-◌, ◌*◌, ◌≤◌, true, List, [], ◌∷◌, ◌++◌, map, length, take, drop, replicate, slice_index}
use Rattle.model.specs.Lists.{concat, tab}
use Rattle.model.specs.Values.{Dart, Block, widest}
use Rattle.model.specs.Sound.{ranges_right}
use Rattle.model.specs.Image.{words_for, kind_word, serial_at, next_at, opposite_at, kind_at, link_at, point_at, third_in, count_in}
use Rattle.memory.specs.Record.{record_words}
use Rattle.memory.specs.declared.record.Record.{Record}
use Rattle.codec.specs.Thirds.{named_by}

abbrev pub raw_record : Dart → Record
raw_record d = record {
  serial = d.serial;
  next = d.next;
  opposite = d.opposite;
  kind = kind_word d.third;
  link = named_by d.third;
  x = d.point.x;
  y = d.point.y;
  z = d.point.z;
}

unfoldable pub raw_words : Dart → List ℕ
raw_words d = record_words (raw_record d)

-- in memory of so many words
unfoldable pub raw : ℕ → Block → List ℕ
raw size b = (b.number ∷ b.counter ∷ length b.darts ∷ 0 ∷ 0 ∷ 0 ∷ 0 ∷ 0 ∷ [])
    ++ (concat (map raw_words b.darts) ++ replicate (size - words_for (length b.darts)) 0)

-- BACK: whatever the words are, the block that they would stand for
abbrev pub raw_dart : List ℕ → ℕ → Dart
raw_dart m p = record {
  serial = serial_at m p;
  next = next_at m p;
  opposite = opposite_at m p;
  third = third_in (λ s. s) (kind_at m p) (link_at m p);
  point = point_at m p;
}

abbrev pub raw_block : List ℕ → Block
raw_block m = record { number = slice_index m 0; counter = slice_index m 1; darts = tab (raw_dart m) (count_in m) }

-- memory with serials, as question 3 leaves it: it has the words of the block that it stands for, whose ranges are right
pub record InSerials (m : List ℕ) : Type 0 where
  pub fits : words_for (count_in m) ≤ length m
  pub words_are : raw (length m) (raw_block m) ≡ m
  pub ranges : ranges_right widest (raw_block m) ≡ true

-- rows of eight words stored in memory, from the first place on
unfoldable pub behind : List ℕ → List (List ℕ) → List ℕ
behind m rows = take 8 m ++ (concat rows ++ drop (8 + length rows * 8) m)

abbrev pub stored_all : List ℕ → List Dart → List ℕ
stored_all m ds = behind m (map raw_words ds)
