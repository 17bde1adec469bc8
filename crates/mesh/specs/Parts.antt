-- A mesh in memory, part by part: the images of its blocks one after the other. Assumes nothing.
use Rattle.std.specs.Prelude.{Bool, ◌&&◌, ◌||◌, ◌≡◌, List, [], ◌++◌, ℕ, zero, suc, ◌+◌, ◌*◌, ◌/◌, ◌≤◌, ◌<◌, eqb, ltb, length, get_or, take, drop}
use Rattle.model.specs.Lists.{tab}
use Rattle.columns.specs.Columns.{all_below}
use Rattle.model.specs.Image.{label_in, words, column, is_free_word, is_sewn_word, is_image}
use Rattle.model.specs.Values.{room, limits_in}

-- how many blocks
abbrev pub block_count : List ℕ → ℕ
block_count m = length m / words

-- the memory of block i
abbrev pub part : List ℕ → ℕ → List ℕ
part m i = take words (drop (i * words) m)

-- 2: whether each memory is a sound block's, by the limits that its number has among these viewers
abbrev pub sound_memory : ℕ → List ℕ → Bool
sound_memory viewers b = is_image (limits_in viewers (get_or b 0 0)) b

-- block i has its place as its number
abbrev pub number_test : List ℕ → ℕ → Bool
number_test m i = eqb (get_or m (i * words) 0) i

-- no block has more darts than memory has room for
abbrev pub Roomy : List ℕ → Type 0
Roomy m = (i : ℕ) → i < block_count m → get_or (part m i) 2 0 ≤ room

-- a block's serials, by place
abbrev pub serials_of : List ℕ → List ℕ
serials_of b = tab (column b 0) (get_or b 2 0)

-- the serials of the blocks below i, one block after the other
unfoldable pub gathered : List ℕ → ℕ → List ℕ
gathered m zero = []
gathered m (suc i) = gathered m i ++ serials_of (part m i)

-- the words from `at` on up to r are new, those before stay
pub record PutAfter (at : ℕ) (new before after : List ℕ) (r : ℕ) : Type 0 where
  pub len : length after ≡ length before
  pub put : take r after ≡ take at before ++ new

-- 27, of a kind word and a link word: a label's maker is one of the blocks, and its number is below the maker's counter
unfoldable pub made_test : List ℕ → ℕ → ℕ → Bool
made_test m k a = (is_free_word k || is_sewn_word k)
    || (ltb (label_in a).maker (block_count m) && ltb (label_in a).number (get_or m ((label_in a).maker * words + 1) 0))

-- of all darts of a block
abbrev pub made_darts : List ℕ → List ℕ → ℕ → Bool
made_darts m b p = made_test m (column b 3 p) (column b 4 p)

abbrev pub made_block : List ℕ → List ℕ → Bool
made_block m b = all_below (made_darts m b) (get_or b 2 0)
