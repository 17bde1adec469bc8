-- The table of group counts: a number below 2^32 takes as many groups as the entry of its bit length says. Assumes nothing.
use mathlib.Core.Path.{◌≡◌, refl, sym, ◌∙◌}
use mathlib.Core.Bool.{true}
use Prim.Native.Nat.{ℕ, ◌+◌, ◌*◌, ◌/◌, ◌^◌, ◌<◌, ◌≤◌}
use native.Mathlib.Omega.{arith}
use lib.Dec.{leb, ltb, eqb}
use lib.ListN.{length, get_or}
use lib.Pow.{pow_mono}
use lib.Ieee.{size}
use lib.Ieee.Digits.{size-lt, size-le}
use borrow.Author.Tests.{eqb-true, ltb-true, lt-ltb, ltb-false, leb-true, leb-false}
use Rattle.model.specs.Lists.{all, tab}
use Rattle.model.specs.Layouts.{groups, group_below, group, group_counts, group_count}
use Rattle.laws.proofs.Tests.{by_cases}
use Rattle.laws.proofs.Tables.{all_tab}

-- THE TABLE'S RULE, by one computed test: seven bits to a group, one group for none
abbrev rule : ℕ → ℕ
rule i = (i * 9 + 64) / 64

table_test : all (λ i. eqb (get_or group_counts i 0) (rule i)) (tab (λ i. i) 33) ≡ true
unfolding group_counts
table_test = refl

table_rule : (i : ℕ) → i ≤ 32 → get_or group_counts i 0 ≡ rule i
table_rule i h = eqb-true (get_or group_counts i 0) (rule i) (all_tab (λ i. eqb (get_or group_counts i 0) (rule i)) (λ i. i) 33 table_test i (omega arith))

pub count_is : (v : ℕ) → v < 2 ^ 32 → group_count v ≡ rule (size v)
unfolding group_count
count_is v h = table_rule (size v) (size-le v 32 h)

-- five groups at the most
pub count_most : (v : ℕ) → v < 2 ^ 32 → group_count v ≤ 5
count_most v h = let s = size-le v 32 h in rw (count_is v h) (omega (arith, s))

-- BIT LENGTHS
above : (v a : ℕ) → 2 ^ a ≤ v → a < size v
above v a h = by_cases (leb (size v) a)
    (λ e. absurd (let less = size-lt v in let most = pow_mono (leb-true (size v) a e) in omega (arith, less, most)))
    (λ e. leb-false (size v) a e)

-- the count of the table is how many groups there are
pub group_length : (v : ℕ) → v < 2 ^ 32 → length (group.put v) ≡ group_count v
unfolding group group_below groups
group_length v h = sym (count_is v h ∙ go)
  where
    go : rule (size v) ≡ length (groups 4 v)
    go = by_cases (ltb v 128)
        (λ a. let less = size-le v 7 (ltb-true v 128 a) in rw a (omega (arith, less)))
        (λ a. let big = above v 7 (ltb-false v 128 a) in rw a (by_cases (ltb (v / 128) 128)
        (λ b. let less = ltb-true (v / 128) 128 b in let most = size-le v 14 (omega arith) in rw b (omega (arith, big, most)))
        (λ b. let more = ltb-false (v / 128) 128 b in let big2 = above v 14 (omega arith) in rw b (by_cases (ltb (v / 128 / 128) 128)
        (λ c. let less = ltb-true (v / 128 / 128) 128 c in let most = size-le v 21 (omega arith) in rw c (omega (arith, big2, most)))
        (λ c. let more2 = ltb-false (v / 128 / 128) 128 c in let big3 = above v 21 (omega arith) in rw c (by_cases (ltb (v / 128 / 128 / 128) 128)
        (λ d. let less = ltb-true (v / 128 / 128 / 128) 128 d in let most = size-le v 28 (omega arith) in rw d (omega (arith, big3, most)))
        (λ d. let more3 = ltb-false (v / 128 / 128 / 128) 128 d in let big4 = above v 28 (omega arith) in let most = size-le v 32 h in rw d (omega (arith, big4, most)))))))))

-- numbers of one group and of two
pub one_group : (v : ℕ) → v < 128 → length (group.put v) ≡ 1
unfolding group group_below groups
one_group v h = rw (lt-ltb v 128 h)

pub two_groups : (v : ℕ) → v < 128 * 128 → length (group.put v) ≤ 2
unfolding group group_below groups
two_groups v h = by_cases (ltb v 128) (λ e. rw e (omega arith)) (λ e. rw (e, lt-ltb (v / 128) 128 (omega arith)) (omega arith))

pub group_most : (v : ℕ) → v < 2 ^ 32 → length (group.put v) ≤ 5
group_most v h = rw (group_length v h) (count_most v h)
