-- What a call gives through its C name: its number, what was lent, and the bytes written or the next move. Assumes nothing.
use Rattle.std.specs.Prelude.{◌≡◌, ◌≢◌, cond, List, ◌++◌, map, ℕ, eqb, ℤ, length, get_or, take, Float}
use Rattle.std.specs.Float.{binary64}
use Rattle.std.specs.Float.Ieee.{to_bits}
use Rattle.model.specs.Values.{Point, Limits, rack, viewer, limits_in}
use Rattle.model.specs.Balance.{Balance}
use Rattle.model.specs.Calls.{Answer, served, refused, Result, number_of, values_of, written_values, signed_word, balance_values, empty, read_file, save_file, write_pages, read_pages, send, receive, release, redirect, check_mesh, next_move_by_number}

-- of a call that adds nothing: the number, and afterwards what was lent to be written
pub record AnswerNumbered (result : Result (Unit {0})) (number : ℕ) (lent : List ℕ) : Type 0 where
  pub number_is : number ≡ number_of result.answer
  pub left : lent ≡ result.lent

-- the number behind the last pointer: the bytes written, or what stood there before
abbrev pub written_over : ℕ → Answer ℕ → ℕ
written_over before a = get_or (values_of written_values a) 0 before

-- the number of an answer, and what stands behind the last pointer
pub record CountWritten (a : Answer ℕ) (before number written : ℕ) : Type 0 where
  pub number_is : number ≡ number_of a
  pub written_is : written ≡ written_over before a

-- of a call that adds the bytes written: the same, and what was lent to be written
pub record WrittenCounted (result : Result ℕ) (before number : ℕ) (lent : List ℕ) (written : ℕ) : Type 0 where
  pub told : CountWritten result.answer before number written
  pub left : lent ≡ result.lent

-- NEXT MOVE
-- three floats as the words of a point
abbrev pub point_words : Float → Float → Float → Point
point_words x y z = record { x = to_bits binary64 x; y = to_bits binary64 y; z = to_bits binary64 z }

-- how many words the answer has: kind, donor, recipient, serial, mean, sixteen surpluses
abbrev pub answer_words : ℕ
answer_words = 21

-- 1, before every other question: the answer has so many
unfoldable pub sized_first : List ℕ → List ℕ → Result Balance → Result Balance
sized_first words scratch result = cond (eqb (length words) answer_words) result (record { answer = refused 1; lent = scratch })

-- the call: mesh, viewers, the oracle's number, axis, low, high, scratch, answer
abbrev pub next_move_told : List ℕ → ℕ → ℕ → ℕ → Point → Point → List ℕ → List ℕ → Result Balance
next_move_told mesh viewers n axis low high scratch words = sized_first words scratch (next_move_by_number (limits_in viewers) mesh n axis low high scratch)

-- the words of the answer, or what stood there before
abbrev pub balance_over : List ℕ → Answer Balance → List ℕ
balance_over before (served v) = balance_values v
balance_over before (refused n) = before

-- the number of an answer, and its words
pub record ToldBalance (a : Answer Balance) (before : List ℕ) (number : ℕ) (words : List ℕ) : Type 0 where
  pub number_is : number ≡ number_of a
  pub words_are : words ≡ balance_over before a

-- the same, and afterwards the scratch
pub record Moved (result : Result Balance) (before : List ℕ) (number : ℕ) (lent words : List ℕ) : Type 0 where
  pub told : ToldBalance result.answer before number words
  pub left : lent ≡ result.lent

-- the surpluses put behind the first five words
abbrev pub with_surpluses : List ℕ → List ℤ → List ℕ
with_surpluses l ss = take 5 l ++ map signed_word ss

-- DEMAND 1 OF ALL THAT C LENDS: "A refused call returns that number only and changes no byte that was lent to it". Lent to be written are the
-- block's memory, the output, the outbox or the scratch, the count behind `written` and the words of `answer`: a call whose number is not 0
-- leaves all of them. Files, pages, messages and meshes, and the block of a save, of pages or of a send, are lent by `&`: such a slice cannot be written, so it
-- is not among what a call returns.
-- by the limits of a block's memory
pub record BlockKeeps (lim : Limits) : Type 0 where
  pub empty_keeps : (n : ℕ) (m : List ℕ) (number : ℕ) (lent : List ℕ) → AnswerNumbered (empty lim n m) number lent → number ≢ 0 → lent ≡ m
  pub read_file_keeps : (file m : List ℕ) (number : ℕ) (lent : List ℕ) → AnswerNumbered (read_file lim file m) number lent → number ≢ 0 → lent ≡ m
  pub save_file_keeps : (m out : List ℕ) (before number : ℕ) (lent : List ℕ) (written : ℕ) → WrittenCounted (save_file lim m out) before number lent written
      → number ≢ 0 → (lent ≡ out) × (written ≡ before)
  pub write_pages_keeps : (m out : List ℕ) (before number : ℕ) (lent : List ℕ) (written : ℕ) → WrittenCounted (write_pages lim m out) before number lent written
      → number ≢ 0 → (lent ≡ out) × (written ≡ before)
  pub read_pages_keeps : (pages m : List ℕ) (number : ℕ) (lent : List ℕ) → AnswerNumbered (read_pages lim pages m) number lent → number ≢ 0 → lent ≡ m
  pub send_keeps : (m : List ℕ) (j s : ℕ) (outbox : List ℕ) (before number : ℕ) (lent : List ℕ) (written : ℕ)
      → WrittenCounted (send lim m j s outbox) before number lent written → number ≢ 0 → (lent ≡ outbox) × (written ≡ before)
  pub receive_keeps : (m message : List ℕ) (number : ℕ) (lent : List ℕ) → AnswerNumbered (receive lim m message) number lent → number ≢ 0 → lent ≡ m
  pub release_keeps : (m : List ℕ) (j s number : ℕ) (lent : List ℕ) → AnswerNumbered (release lim m j s) number lent → number ≢ 0 → lent ≡ m
  pub redirect_keeps : (m message : List ℕ) (number : ℕ) (lent : List ℕ) → AnswerNumbered (redirect lim m message) number lent → number ≢ 0 → lent ≡ m

pub record CKeeps : Type 0 where
  pub rack_keeps : BlockKeeps rack
  pub viewer_keeps : BlockKeeps viewer
  pub check_mesh_keeps : (mesh : List ℕ) (viewers : ℕ) (scratch : List ℕ) (number : ℕ) (lent : List ℕ)
      → AnswerNumbered (check_mesh (limits_in viewers) mesh scratch) number lent → number ≢ 0 → lent ≡ scratch
  pub next_move_keeps : (mesh : List ℕ) (viewers n axis : ℕ) (low high : Point) (scratch before : List ℕ) (number : ℕ) (lent words : List ℕ)
      → Moved (next_move_told mesh viewers n axis low high scratch before) before number lent words → number ≢ 0 → (lent ≡ scratch) × (words ≡ before)
