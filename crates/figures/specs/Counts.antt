-- The rule of the next move on small meshes, computed: who may give to whom, what is level and what blocked, and what falls. Assumes nothing.
use Rattle.std.specs.Prelude.{◌≡◌, refl, true, false, List, [], ◌∷◌, ◌++◌, ℕ, zero, suc, ◌+◌, ◌*◌, pos, negsuc}
use Rattle.model.specs.Values.{free, Dart, Block, limits_in}
use Rattle.model.specs.Balance.{every, counts, squared_counts, differences, level, blocked, move, may_give, recipients, is_level, next_of}
use Rattle.model.specs.Calls.{signed_word}
use Rattle.model.specs.Everything.{everything}
use Rattle.model.specs.Figures.{dart, pillow, block}

-- "at least two picked volumes more"
two_more : may_give 3 1 ≡ true
two_more = refl

one_more : may_give 2 1 ≡ false
one_more = refl

fewer : may_give 1 3 ≡ false
fewer = refl

to_whom : recipients (1 ∷ 5 ∷ 3 ∷ 4 ∷ []) 5 ≡ 0 ∷ 2 ∷ []
to_whom = refl

-- "'Level' means that no two counts differ by two or more"
within_one : is_level (2 ∷ 2 ∷ 1 ∷ []) ≡ true
unfolding is_level
within_one = refl

apart_by_two : is_level (1 ∷ 3 ∷ []) ≡ false
unfolding is_level
apart_by_two = refl

-- a surplus in C's words
minus_three : signed_word (negsuc 2) ≡ 18446744073709551613
minus_three = refl

three : signed_word (pos 3) ≡ 3
three = refl

-- MESHES of free cells, so many in each block
pillows : ℕ → ℕ → List Dart
unfolding pillow
pillows zero k = []
pillows (suc n) k = pillow k ++ pillows n (k + 6)

mesh_of : ℕ → ℕ → List ℕ → List Block
unfolding pillows block
mesh_of b k [] = []
mesh_of b k (n ∷ ns) = block b (pillows n k) ∷ mesh_of (suc b) (k + n * 6) ns

squares : squared_counts every (mesh_of 0 0 (5 ∷ 1 ∷ 1 ∷ 1 ∷ [])) ≡ 28
unfolding mesh_of everything
squares = refl

squares_next : squared_counts every (mesh_of 0 0 (4 ∷ 2 ∷ 1 ∷ 1 ∷ [])) ≡ 22
unfolding mesh_of everything
squares_next = refl

more_than_others : differences every (mesh_of 0 0 (5 ∷ 1 ∷ 1 ∷ 1 ∷ [])) ≡ 12
unfolding mesh_of everything
more_than_others = refl

none_more : differences every (mesh_of 0 0 (2 ∷ 2 ∷ 2 ∷ 2 ∷ [])) ≡ 0
unfolding mesh_of everything
none_more = refl

-- a donor below the mean, 3, and a recipient above it, 1
donor_below : next_of (limits_in 0) every (mesh_of 0 0 (2 ∷ 0 ∷ 7 ∷ [])) ≡ move (record { donor = 0; recipient = 1; serial = 1 })
unfolding mesh_of everything
donor_below = refl

recipient_above : next_of (limits_in 0) every (mesh_of 0 0 (4 ∷ 2 ∷ 0 ∷ 0 ∷ [])) ≡ move (record { donor = 0; recipient = 1; serial = 1 })
unfolding mesh_of everything
recipient_above = refl

-- one above the mean, and yet level
one_above : next_of (limits_in 0) every (mesh_of 0 0 (2 ∷ 1 ∷ [])) ≡ level
unfolding mesh_of everything
one_above = refl

-- two cells of two darts, faces of one edge each, which 13 keeps where they are
staying : List Block
unfolding dart block
staying = block 0 (dart 1 1 2 free ∷ dart 2 2 1 free ∷ dart 3 3 4 free ∷ dart 4 4 3 free ∷ []) ∷ block 1 [] ∷ []

none_may_go : next_of (limits_in 0) every staying ≡ blocked
unfolding staying everything
none_may_go = refl

staying_counts : counts every staying ≡ 2 ∷ 0 ∷ []
unfolding staying everything
staying_counts = refl
