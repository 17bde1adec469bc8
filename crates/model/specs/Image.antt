-- A block's one image in memory, as 64-bit words, and back. Assumes nothing.
-- A header of 8 words (number, counter, dart count, five zeros), then 8 words for each dart in ascending serial: serial, place of
-- next, place of opposite, kind + 4 × other block, place of the sewn dart or the label's code, x, y, z; "unused memory zero".
-- A place is an index into the block's darts.
use Rattle.std.specs.Prelude.{Bool, cond, ◌&&◌, List, [], ◌∷◌, ◌++◌, map, ℕ, suc, ◌+◌, ◌*◌, ◌-◌, ◌/◌, ◌%◌, leb, eqb, length, get_or, replicate}
use Rattle.model.specs.Lists.{concat, index_of, tab, same_list, Check}
use Rattle.model.specs.Values.{number_bound, positions, Point, Label, Third, free, sewn, critical, Dart, Block, Limits, rack, widest, code}
use Rattle.model.specs.Cells.{serials, labels}
use Rattle.model.specs.Sound.{sound_block}

-- the size of memory with room for so many darts
abbrev pub words_for : ℕ → ℕ
words_for n = 8 + 8 * n

-- of a block's memory by its limits
abbrev pub words_of : Limits → ℕ
words_of lim = words_for lim.block_darts

-- of a node of the rack: 32,776 words
abbrev pub words : ℕ
words = words_of rack

abbrev pub kind_word : Third → ℕ
kind_word free = 0
kind_word (sewn y) = 1
kind_word (critical o l) = 2 + 4 * o

abbrev pub link_word : List ℕ → Third → ℕ
link_word ss free = 0
link_word ss (sewn y) = index_of y ss
link_word ss (critical o l) = code l

-- of a dart in a block with these serials
unfoldable pub dart_words : List ℕ → Dart → List ℕ
dart_words ss d = d.serial ∷ index_of d.next ss ∷ index_of d.opposite ss ∷ kind_word d.third ∷ link_word ss d.third
    ∷ d.point.x ∷ d.point.y ∷ d.point.z ∷ []

-- in memory of so many words
unfoldable pub image : ℕ → Block → List ℕ
image size b = (b.number ∷ b.counter ∷ length b.darts ∷ 0 ∷ 0 ∷ 0 ∷ 0 ∷ 0 ∷ [])
    ++ (concat (map (dart_words (serials b.darts)) b.darts) ++ replicate (size - words_for (length b.darts)) 0)

-- the memory of a block of a mesh, by its limits
abbrev pub memory_of : (ℕ → Limits) → Block → List ℕ
memory_of lims b = image (words_of (lims b.number)) b

-- BACK: whatever the words are, the block that they would be the image of
-- word f of the dart at place p
abbrev pub column : List ℕ → ℕ → ℕ → ℕ
column m f p = get_or m (8 + p * 8 + f) 0

-- by name: serial; places of next and opposite; kind + 4 × other block; place of the sewn dart or the label's code; the point's words
abbrev pub serial_at : List ℕ → ℕ → ℕ
serial_at m = column m 0

abbrev pub next_at : List ℕ → ℕ → ℕ
next_at m = column m 1

abbrev pub opposite_at : List ℕ → ℕ → ℕ
opposite_at m = column m 2

abbrev pub kind_at : List ℕ → ℕ → ℕ
kind_at m = column m 3

abbrev pub link_at : List ℕ → ℕ → ℕ
link_at m = column m 4

abbrev pub point_at : List ℕ → ℕ → Point
point_at m p = record { x = column m 5 p; y = column m 6 p; z = column m 7 p }

-- THE KIND WORD: free, sewn, or critical with a block
abbrev pub is_free_word : ℕ → Bool
is_free_word k = eqb (k % 4) 0

abbrev pub is_sewn_word : ℕ → Bool
is_sewn_word k = eqb (k % 4) 1

abbrev pub is_critical_word : ℕ → Bool
is_critical_word k = eqb (k % 4) 2

abbrev pub other_in : ℕ → ℕ
other_in k = k / 4

abbrev pub label_in : ℕ → Label
label_in a = record { maker = a / positions / number_bound; number = a / positions % number_bound; position = a % positions }

-- from the serials by place, the kind word and the link word
unfoldable pub third_in : (ℕ → ℕ) → ℕ → ℕ → Third
third_in s k a = cond (is_free_word k) free (cond (is_sewn_word k) (sewn (s a)) (critical (other_in k) (label_in a)))

abbrev pub dart_in : List ℕ → ℕ → Dart
dart_in m p = record {
  serial = serial_at m p;
  next = serial_at m (next_at m p);
  opposite = serial_at m (opposite_at m p);
  third = third_in (serial_at m) (kind_at m p) (link_at m p);
  point = point_at m p;
}

-- how many darts the words say that they are
abbrev pub count_in : List ℕ → ℕ
count_in m = get_or m 2 0

abbrev pub block_in : List ℕ → Block
block_in m = record { number = get_or m 0 0; counter = get_or m 1 0; darts = tab (dart_in m) (count_in m) }

-- 2: "Is memory given as a block a sound block's image?"
unfoldable pub is_image : Limits → List ℕ → Bool
is_image lim m = leb (words_for (count_in m)) (length m) && same_list (image (length m) (block_in m)) m && sound_block lim (block_in m)

-- whether memory of any length has the words of a sound block
abbrev pub holds_block : List ℕ → Bool
holds_block m = is_image widest m

-- 1 and 2 of a block's memory
unfoldable pub memory_checks : Limits → List ℕ → List Check
memory_checks lim m = (1, eqb (length m) (words_of lim)) ∷ (2, is_image lim m) ∷ []

-- NEW BLOCKS: "built from anything but a file", one "has the least counter that its labels allow"
abbrev pub counter_above : ℕ → List Label → ℕ
counter_above me [] = 0
counter_above me (l ∷ ls) = let c = counter_above me ls in cond (eqb l.maker me && leb c l.number) (suc l.number) c

unfoldable pub new_block : ℕ → List Dart → Block
new_block n ds = record { number = n; counter = counter_above n (labels ds); darts = ds }
