-- The paper's starred figures: one theorem about one table, computed from the definitions of the calls. Assumes nothing.
use Rattle.std.specs.Prelude.{◌≡◌, refl, Bool, true, false, ◌&&◌, List, [], ◌∷◌, ◌++◌, map, ℕ, zero, suc, ◌+◌, ◌*◌, ℤ, pos, negsuc, get_or, replicate}
use Rattle.std.proofs.Common.{sym, ap, true≢false}
use Rattle.model.specs.Lists.{all, tab, concat, same_list}
use Rattle.model.specs.Values.{blocks, Dart, limits_in}
use Rattle.model.specs.Image.{words, image, block_in}
use Rattle.model.specs.Balance.{every, counts, Move, NextMove, level, blocked, move, Balance}
use Rattle.model.specs.Calls.{Answer, served, refused, values_of, balance_values, scratch_entries, next_move}
use Rattle.model.specs.Everything.{everything}
use Rattle.model.specs.Figures.{pillow, block, played, request, right, one_block, one_block_right, two_rounds, two_rounds_right}

-- BALANCING: free cells in blocks, moved until there is no next move
pillows : ℕ → ℕ → List Dart
unfolding pillow
pillows zero k = []
pillows (suc n) k = pillow k ++ pillows n (k + 6)

blocks_of : ℕ → ℕ → List ℕ → List (List ℕ)
unfolding pillows block everything
blocks_of b k [] = []
blocks_of b k (n ∷ ns) = image words (block b (pillows n k)) ∷ blocks_of (suc b) (k + n * 6) ns

answered : List (List ℕ) → Answer Balance
unfolding everything
answered ms = (next_move (limits_in 0) (concat ms) every (replicate scratch_entries 0)).answer

-- the memories after a move
moved : List (List ℕ) → Move → List (List ℕ)
unfolding played request
moved ms t = (played 0 ms (request t.donor t.recipient t.serial)).memories

-- how many moves are made, n at the most, with 100 more for level at the end, 200 for blocked, 300 for a refusal
abbrev after_next : (Move → ℕ) → NextMove → ℕ
after_next rest level = 100
after_next rest blocked = 200
after_next rest (move t) = suc (rest t)

abbrev after : (Move → ℕ) → Answer Balance → ℕ
after rest (refused k) = 300 + k
after rest (served b) = after_next rest b.next

moves : ℕ → List (List ℕ) → ℕ
moves zero ms = 999
moves (suc n) ms = after (λ t. moves n (moved ms t)) (answered ms)

-- a move more
on : (n : ℕ) (ms : List (List ℕ)) (b : Balance) (t : Move) (k : ℕ) → answered ms ≡ served b → b.next ≡ move t → moves n (moved ms t) ≡ k → moves (suc n) ms ≡ suc k
unfolding moves
on n ms b t k e f r = rw (e, f, r)

end : (n : ℕ) (ms : List (List ℕ)) (b : Balance) → answered ms ≡ served b → b.next ≡ level → moves (suc n) ms ≡ 100
unfolding moves
end n ms b e f = rw (e, f)

to : ℕ → ℕ → ℕ → Move
to d r s = record { donor = d; recipient = r; serial = s }

-- the mean, and the surpluses of the blocks that there are
told : NextMove → ℕ → List ℤ → Balance
told a m ss = record { next = a; mean = m; surplus = tab (λ b. get_or ss b (pos 0)) blocks }

five : List (List ℕ)
unfolding blocks_of
five = blocks_of 0 0 (5 ∷ 1 ∷ 1 ∷ 1 ∷ [])

five_1 : List (List ℕ)
unfolding five moved to everything
five_1 = moved five (to 0 1 1)

five_2 : List (List ℕ)
unfolding five_1 moved to everything
five_2 = moved five_1 (to 0 1 7)

five_3 : List (List ℕ)
unfolding five_2 moved to everything
five_3 = moved five_2 (to 0 2 13)

five_4 : List (List ℕ)
unfolding five_3 moved to everything
five_4 = moved five_3 (to 1 3 1)

three : List (List ℕ)
unfolding blocks_of
three = blocks_of 0 0 (3 ∷ 1 ∷ 1 ∷ [])

three_1 : List (List ℕ)
unfolding three moved to everything
three_1 = moved three (to 0 1 1)

ask_five : answered five ≡ served (told (move (to 0 1 1)) 2 (pos 3 ∷ negsuc 0 ∷ negsuc 0 ∷ negsuc 0 ∷ []))
unfolding answered five to told everything
ask_five = refl

ask_five_1 : answered five_1 ≡ served (told (move (to 0 1 7)) 2 (pos 2 ∷ pos 0 ∷ negsuc 0 ∷ negsuc 0 ∷ []))
unfolding answered five_1 to told everything
ask_five_1 = refl

ask_five_2 : answered five_2 ≡ served (told (move (to 0 2 13)) 2 (pos 1 ∷ pos 1 ∷ negsuc 0 ∷ negsuc 0 ∷ []))
unfolding answered five_2 to told everything
ask_five_2 = refl

ask_five_3 : answered five_3 ≡ served (told (move (to 1 3 1)) 2 (pos 0 ∷ pos 1 ∷ pos 0 ∷ negsuc 0 ∷ []))
unfolding answered five_3 to told everything
ask_five_3 = refl

ask_five_4 : answered five_4 ≡ served (told level 2 [])
unfolding answered five_4 told everything
ask_five_4 = refl

moves_five : moves 9 five ≡ 104
unfolding five_1 five_2 five_3 five_4 told
moves_five = on 8 five _ (to 0 1 1) 103 ask_five refl (on 7 five_1 _ (to 0 1 7) 102 ask_five_1 refl
    (on 6 five_2 _ (to 0 2 13) 101 ask_five_2 refl (on 5 five_3 _ (to 1 3 1) 100 ask_five_3 refl (end 4 five_4 _ ask_five_4 refl))))

ask_three : answered three ≡ served (told (move (to 0 1 1)) 1 (pos 2 ∷ []))
unfolding answered three to told everything
ask_three = refl

ask_three_1 : answered three_1 ≡ served (told level 1 (pos 1 ∷ pos 1 ∷ []))
unfolding answered three_1 told everything
ask_three_1 = refl

moves_three : moves 9 three ≡ 101
unfolding three_1 told
moves_three = on 8 three _ (to 0 1 1) 100 ask_three refl (end 7 three_1 _ ask_three_1 refl)

-- THE TABLE: what is computed, and what the paper says
-- "Counts 5, 1, 1, 1: mean 2", "takes four moves", then level with 2 each; "3, 1, 1 now ends at 2, 2, 1"; and the words of an answer
abbrev minus_one : ℕ
minus_one = 18446744073709551615

answer_of_five : List ℕ
answer_of_five = 2 ∷ 0 ∷ 1 ∷ 1 ∷ 2 ∷ 3 ∷ minus_one ∷ minus_one ∷ minus_one ∷ replicate 12 0

balances : ℕ → ℕ → List ℕ → List ℕ → List ℕ → List (List ℕ × List ℕ)
balances moves-of-five moves-of-three counts-of-five counts-of-three words-of-five =
    (moves-of-five ∷ counts-of-five, 104 ∷ 2 ∷ 2 ∷ 2 ∷ 2 ∷ [])
    ∷ (moves-of-three ∷ counts-of-three, 101 ∷ 2 ∷ 2 ∷ 1 ∷ [])
    ∷ (words-of-five, answer_of_five)
    ∷ []

balanced : List (List ℕ × List ℕ)
balanced = balances (moves 9 five) (moves 9 three) (counts every (map block_in five_4)) (counts every (map block_in three_1)) (values_of balance_values (answered five))

pub starred : List (List ℕ × List ℕ)
starred = one_block ++ two_rounds ++ balanced

five_ends : counts every (map block_in five_4) ≡ 2 ∷ 2 ∷ 2 ∷ 2 ∷ []
unfolding five_4 everything
five_ends = refl

three_ends : counts every (map block_in three_1) ≡ 2 ∷ 2 ∷ 1 ∷ []
unfolding three_1 everything
three_ends = refl

five_words : values_of balance_values (answered five) ≡ answer_of_five
unfolding to told answer_of_five
five_words = ap (values_of balance_values) ask_five

balances_right : (m n : ℕ) (cs ds ws : List ℕ) → m ≡ 104 → n ≡ 101 → cs ≡ 2 ∷ 2 ∷ 2 ∷ 2 ∷ [] → ds ≡ 2 ∷ 2 ∷ 1 ∷ [] → ws ≡ answer_of_five → all right (balances m n cs ds ws) ≡ true
unfolding balances answer_of_five everything
balances_right m n cs ds ws a b c d e = rw (a, b, c, d, e)

balanced_right : all right balanced ≡ true
unfolding balanced
balanced_right = balances_right (moves 9 five) (moves 9 three) (counts every (map block_in five_4)) (counts every (map block_in three_1)) (values_of balance_values (answered five))
    moves_five moves_three five_ends three_ends five_words

all_append : (a b : List (List ℕ × List ℕ)) → all right a ≡ true → all right b ≡ true → all right (a ++ b) ≡ true
all_append [] b p q = q
all_append (c ∷ a) b p q = rw both.0 (all_append a b both.1 q)
  where
    both : (right c ≡ true) × (all right a ≡ true)
    both = and_both (right c) (all right a) p
      where
        and_both : (x y : Bool) → (x && y) ≡ true → (x ≡ true) × (y ≡ true)
        and_both true y e = (refl, e)
        and_both false y e = absurd (true≢false (sym e))

-- every case of the table is as the paper says
pub figures : all (λ c. same_list c.0 c.1) starred ≡ true
unfolding starred
figures = all_append (one_block ++ two_rounds) balanced (all_append one_block two_rounds one_block_right two_rounds_right) balanced_right
