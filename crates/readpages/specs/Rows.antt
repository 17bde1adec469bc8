-- What is read of a dart's line: the row that stands there, or none; and the row stored. Assumes nothing.
use Rattle.groups.specs.Slices.{MaybeRead}
use Rattle.std.specs.Prelude.{◌≡◌, true, List, ℕ, ◌^◌, ◌<◌, None, Option, Some}
use Rattle.laws.specs.Standing.{Stands}
use Rattle.model.specs.Image.{kind_word}
use Rattle.model.specs.Messages.{third_ok}
use Rattle.model.specs.Pages.{Row, row_line, row_ok, dart_of}
use Rattle.memory.specs.Record.{put}
use Rattle.codec.specs.Thirds.{named_by}
use Rattle.newblock.specs.Serials.{raw_words}
use Rattle.readpages.specs.declared.row.Row.{Row as WordRow}

-- a row stands at a place; its own serial may still be 0
pub record RowAt (s : List ℕ) (at : ℕ) (r : Row) : Type 0 where
  pub serial : r.serial < 2 ^ 32
  pub next : r.next < 2 ^ 32
  pub opposite : r.opposite < 2 ^ 32
  pub third : third_ok r.third ≡ true
  pub stands : Stands s at (row_line r)

-- its words
pub record WordsAt (s : List ℕ) (at : ℕ) (w : WordRow) : Type 0 where
  pub row : Row
  pub there : RowAt s at row
  pub serial_is : w.serial ≡ (row).serial
  pub next_is : w.next ≡ (row).next
  pub opposite_is : w.opposite ≡ (row).opposite
  pub kind_is : w.kind ≡ kind_word (row).third
  pub link_is : w.link ≡ named_by (row).third

abbrev pub RowRead : List ℕ → ℕ → Option WordRow → Type 0
RowRead s at (Some w) = WordsAt s at w
RowRead s at None = (r : Row) → RowAt s at r → ⊥

-- a row above the last one, stored at place p
pub record StoredAt (s : List ℕ) (at last : ℕ) (m : List ℕ) (p : ℕ) (after : List ℕ) (serial past : ℕ) : Type 0 where
  pub row : Row
  pub ok : row_ok row ≡ true
  pub stands : Stands s at (row_line row)
  pub serial_is : serial ≡ (row).serial
  pub above : last < (row).serial
  pub memory : after ≡ put m p (raw_words (dart_of row))

-- there is none above the last one
abbrev pub NoneAbove : List ℕ → ℕ → ℕ → Type 0
NoneAbove s at last = (r : Row) → row_ok r ≡ true → Stands s at (row_line r) → last < r.serial → ⊥

abbrev pub RowStored : List ℕ → ℕ → ℕ → List ℕ → ℕ → List ℕ → MaybeRead → Type 0
RowStored s at last m p after (Some (serial, past)) = StoredAt s at last m p after serial past
RowStored s at last m p after None = NoneAbove s at last
