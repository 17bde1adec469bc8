-- The arrays that receive works in, lent from above. Assumes nothing.
use Rattle.std.specs.Prelude.{◌≡◌, List, ℕ, ◌≤◌, ◌<◌, length, get_or}
use Rattle.model.specs.Values.{room}
use Rattle.model.specs.Image.{words_for}
use Rattle.cells.specs.Places.{Clear}

-- for a transfer with at most `most` darts and a block with at most `all`; question 2 has its labels in `codes`, and works in the draft
pub record LentArrays (most all : ℕ) (keys ranks opposite draft kinds links old new codes indices numbers third places marks seen : List ℕ) : Type 0 where
  pub keys_long : most ≤ length keys
  pub ranks_long : most ≤ length ranks
  pub opposite_long : most ≤ length opposite
  pub draft_long : words_for most ≤ length draft
  pub draft_all : all ≤ length draft
  pub kinds_long : most ≤ length kinds
  pub kinds_clear : Clear kinds
  pub links_long : most ≤ length links
  pub links_clear : Clear links
  pub old_long : most ≤ length old
  pub old_all : all ≤ length old
  pub new_long : most ≤ length new
  pub codes_long : most ≤ length codes
  pub codes_all : all ≤ length codes
  pub indices_long : most ≤ length indices
  pub numbers_long : most ≤ length numbers
  pub third_long : most ≤ length third
  pub places_long : most ≤ length places
  pub places_none : (e : ℕ) → e < most → get_or places e 0 ≡ room
  pub marks_long : most ≤ length marks
  pub marks_clear : Clear marks
  pub seen_all : all ≤ length seen
  pub seen_clear : Clear seen
