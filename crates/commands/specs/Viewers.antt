-- The file `viewers` of a basin: one line with the numbers of the blocks that are viewers', ascending, one blank between two. Its value has bit b
-- for block b. Wrong readings that this is not: '7 3' as the viewers of '3 7'; '3 7' without its line feed as whole. Assumes nothing.
use Rattle.std.specs.Prelude.{Bool, cond, ◌≡◌, refl, List, [], ◌∷◌, ℕ, zero, suc, ◌+◌, ◌/◌, ◌%◌, ◌^◌, ltb, length, take, drop, None, Option, Some}
use Rattle.model.specs.Lists.{same_list}
use Rattle.model.specs.Values.{blocks}

-- a block's number, without a zero in front, and one byte behind it
unfoldable pub number_then : ℕ → ℕ → List ℕ
number_then b behind = cond (ltb b 10) ((48 + b % 10) ∷ behind ∷ []) ((48 + b / 10 % 10) ∷ (48 + b % 10) ∷ behind ∷ [])

-- a number with a line feed behind it ends the text
unfoldable pub ends_with : List ℕ → ℕ → ℕ → Bool
ends_with s at b = same_list (drop at s) (number_then b 10)

-- one with a blank behind it has others to follow
unfoldable pub goes_on_with : List ℕ → ℕ → ℕ → Bool
goes_on_with s at b = same_list (take (length (number_then b 32)) (drop at s)) (number_then b 32)

-- the next n blocks, from b on, where those of v are viewers' and the text is read up to a place: each block's number stands there or the block
-- is no viewer's; so numbers ascend, and behind the last of them there is nothing
unfoldable pub viewers_from : ℕ → ℕ → ℕ → List ℕ → ℕ → Option ℕ
viewers_from zero b v s at = None
viewers_from (suc n) b v s at =
    let more = viewers_from n (b + 1) (v + 2 ^ b) s (at + length (number_then b 32)) in
    let others = viewers_from n (b + 1) v s at in
    cond (ends_with s at b) (Some (v + 2 ^ b)) (cond (goes_on_with s at b) more others)

-- a line feed alone: none
unfoldable pub viewers_in : List ℕ → Option ℕ
viewers_in s = cond (same_list s (10 ∷ [])) (Some 0) (viewers_from blocks 0 0 s 0)

-- '3 7', '0 15', '7 3', and '3 7' without its line feed
three_seven : viewers_in (51 ∷ 32 ∷ 55 ∷ 10 ∷ []) ≡ Some 136
unfolding viewers_in viewers_from ends_with goes_on_with number_then same_list
three_seven = refl

first_last : viewers_in (48 ∷ 32 ∷ 49 ∷ 53 ∷ 10 ∷ []) ≡ Some 32769
unfolding viewers_in viewers_from ends_with goes_on_with number_then same_list
first_last = refl

not_ascending : viewers_in (55 ∷ 32 ∷ 51 ∷ 10 ∷ []) ≡ None
unfolding viewers_in viewers_from ends_with goes_on_with number_then same_list
not_ascending = refl

not_ended : viewers_in (51 ∷ 32 ∷ 55 ∷ []) ≡ None
unfolding viewers_in viewers_from ends_with goes_on_with number_then same_list
not_ended = refl
