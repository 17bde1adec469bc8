-- Question 27 by words: the makers of labels, in the parts of a mesh. Assumes nothing.
use mathlib.Core.Path.{◌≡◌, refl, sym, ap, ◌∙◌}
use mathlib.Core.Bool.{Bool, true, false, ◌&&◌, ◌||◌}
use mathlib.Core.List.{List, map}
use mathlib.Core.Logic.{⊎_elim}
use Prim.Native.Nat.{ℕ, ◌+◌, ◌*◌, ◌/◌, ◌%◌, ◌^◌, ◌≤◌, ◌<◌}
use native.Mathlib.Omega.{arith}
use lib.Dec.{ltb}
use lib.ListN.{length, get_or, drop}
use lib.Seq.{get_or-take, get_or-drop}
use borrow.Author.Tests.{lt-ltb, le-ltb}
use Rattle.laws.proofs.Tests.{by_cases, or_false, lt_or_ge}
use Rattle.laws.proofs.Tables.{length_tab, getD_tab}
use Rattle.model.specs.Lists.{all, tab}
use Rattle.model.specs.Values.{critical, Block, no_block}
use Rattle.model.specs.Sound.{block_at, made_before, makers_right}
use Rattle.model.specs.Image.{words, column, is_free_word, is_sewn_word, other_in, label_in, third_in, dart_in, block_in}
use Rattle.model.specs.Calls.{memories}
use Rattle.columns.specs.Columns.{all_below}
use Rattle.columns.proofs.Below.{all_tests}
use Rattle.mesh.specs.Parts.{block_count, part, made_test, made_darts, made_block}
use Rattle.mesh.proofs.Parts.{mesh_tab}

-- THE TEST of one dart, branch by branch
or_yes : (a b : Bool) → a ≡ true → true ≡ (a || b)
or_yes a b e = rw e refl

or_no : (a b c : Bool) → a ≡ false → b ≡ false → false ≡ (a || (b && c))
or_no a b c e f = rw (e, f) refl

or_last : (a b c : Bool) → a ≡ false → b ≡ true → c ≡ (a || (b && c))
or_last a b c e f = rw (e, f) refl

or_else : (a b : Bool) → (a || b) ≡ true → a ≡ false → b ≡ true
or_else a b h e = rw e at h

module _ (m : List ℕ) (k a : ℕ) where
  abbrev unlabelled : Bool
  unlabelled = is_free_word k || is_sewn_word k

  abbrev known : Bool
  known = ltb (a / 4096 / 2 ^ 32) (block_count m)

  abbrev below : Bool
  below = ltb (a / 4096 % 2 ^ 32) (get_or m (a / 4096 / 2 ^ 32 * words + 1) 0)

  pub made_easy : unlabelled ≡ true → true ≡ made_test m k a
  unfolding made_test
  made_easy h = or_yes unlabelled (known && below) h

  pub made_unknown : unlabelled ≡ false → length m / 32776 ≤ a / 4096 / 4294967296 → false ≡ made_test m k a
  unfolding made_test
  made_unknown h l = or_no unlabelled known below h (le-ltb (a / 4096 / 2 ^ 32) (block_count m) l)

  pub made_known : unlabelled ≡ false → a / 4096 / 4294967296 < length m / 32776 → ltb (a / 4096 % 4294967296) (get_or m (a / 4096 / 4294967296 * 32776 + 1) 0) ≡ made_test m k a
  unfolding made_test
  made_known h l = or_last unlabelled known below h (lt-ltb (a / 4096 / 2 ^ 32) (block_count m) l)

-- what two tests of the kind word said
pub asked_both : (k : ℕ) {f s b : Bool} → f ≡ is_free_word k → s ≡ is_sewn_word k → (f || s) ≡ b → (is_free_word k || is_sewn_word k) ≡ b
asked_both k d e h = rw (sym d, sym e) h

-- THE MODEL'S TEST
second_word : (m : List ℕ) (i : ℕ) → get_or (part m i) 1 0 ≡ get_or m (i * words + 1) 0
second_word m i = get_or-take words (drop (i * words) m) 1 0 (omega arith) ∙ get_or-drop (i * words) m 1 0

counter_at : (m : List ℕ) (i : ℕ) → i < block_count m → (block_at (tab (λ j. block_in (part m j)) (block_count m)) i).counter ≡ get_or m (i * words + 1) 0
unfolding block_at
counter_at m i h = ap (λ (b : Block). b.counter) (getD_tab (λ j. block_in (part m j)) (block_count m) i no_block h) ∙ second_word m i

third_easy : (s : ℕ → ℕ) (k a : ℕ) (M : List Block) → (is_free_word k || is_sewn_word k) ≡ true → made_before M (third_in s k a) ≡ true
unfolding third_in made_before
third_easy s k a M h = by_cases (is_free_word k)
    (λ e. rw e refl)
    (λ e. rw (e, or_else (is_free_word k) (is_sewn_word k) h e) refl)

third_hard : (s : ℕ → ℕ) (k a : ℕ) → (is_free_word k || is_sewn_word k) ≡ false → third_in s k a ≡ critical (other_in k) (label_in a)
unfolding third_in
third_hard s k a h = let none = or_false (is_free_word k) (is_sewn_word k) h in rw (none.0, none.1) refl

made_critical : (m : List ℕ) (o a : ℕ) → made_before (tab (λ j. block_in (part m j)) (block_count m)) (critical o (label_in a))
    ≡ (ltb (a / 4096 / 2 ^ 32) (block_count m) && ltb (a / 4096 % 2 ^ 32) (get_or m (a / 4096 / 2 ^ 32 * words + 1) 0))
unfolding made_before
made_critical m o a =
    ap
    (λ (n : ℕ). ltb (a / 4096 / 2 ^ 32) n && ltb (a / 4096 % 2 ^ 32)
    (block_at (tab (λ j. block_in (part m j)) (block_count m)) (a / 4096 / 2 ^ 32)).counter)
    (length_tab (λ j. block_in (part m j)) (block_count m))
    ∙ ⊎_elim
    (λ h. ap (λ (c : ℕ). ltb (a / 4096 / 2 ^ 32) (block_count m) && ltb (a / 4096 % 2 ^ 32) c) (counter_at m (a / 4096 / 2 ^ 32) h))
    (λ h. unknown (ltb (a / 4096 / 2 ^ 32) (block_count m)) _ _ (le-ltb (a / 4096 / 2 ^ 32) (block_count m) h))
    (lt_or_ge (a / 4096 / 2 ^ 32) (block_count m))
  where
    unknown : (t u v : Bool) → t ≡ false → (t && u) ≡ (t && v)
    unknown t u v e = rw e refl

made_is : (m : List ℕ) (s : ℕ → ℕ) (k a : ℕ) → made_before (tab (λ j. block_in (part m j)) (block_count m)) (third_in s k a) ≡ made_test m k a
unfolding made_test
made_is m s k a = by_cases (is_free_word k || is_sewn_word k)
    (λ h. third_easy s k a (tab (λ j. block_in (part m j)) (block_count m)) h ∙ made_easy m k a h)
    (λ h. ap (made_before (tab (λ j. block_in (part m j)) (block_count m))) (third_hard s k a h)
    ∙ made_critical m (other_in k) a ∙ or_second (is_free_word k || is_sewn_word k) _ h)
  where
    or_second : (t u : Bool) → t ≡ false → u ≡ (t || u)
    or_second t u e = rw e refl

tests_are : (m : List ℕ) (M : List Block) → M ≡ tab (λ j. block_in (part m j)) (block_count m) → ((s : ℕ → ℕ) (k a : ℕ) → made_before M (third_in s k a) ≡ made_test m k a)
    → all_below (λ i. made_block m (part m i)) (block_count m) ≡ all (λ b. all (λ d. made_before M d.third) b.darts) M
tests_are m M e h = all_tests (λ b. all (λ d. made_before M d.third) b.darts) (λ j. block_in (part m j)) (λ i. made_block m (part m i)) (block_count m)
    (λ i _. sym (all_tests (λ d. made_before M d.third) (dart_in (part m i)) (made_darts m (part m i)) (get_or (part m i) 2 0)
    (λ p _. h (column (part m i) 0) (column (part m i) 3 p) (column (part m i) 4 p))))
    ∙ ap (all (λ b. all (λ d. made_before M d.third) b.darts)) (sym e)

pub makers_are : (m : List ℕ) → all_below (λ i. made_block m (part m i)) (block_count m) ≡ makers_right (map block_in (memories m))
unfolding makers_right
makers_are m = tests_are m (map block_in (memories m)) (mesh_tab m) (λ s k a. ap (λ (M : List Block). made_before M (third_in s k a)) (mesh_tab m) ∙ made_is m s k a)

-- the words that are read are the dart's
pub made_at : (m b : List ℕ) (p : ℕ) {k a : ℕ} {r : Bool} → k ≡ column b 3 p → a ≡ column b 4 p → r ≡ made_test m k a → r ≡ made_darts m b p
made_at m b p {k} {a} e f h = h ∙ ap (λ (x : ℕ). made_test m x a) e ∙ ap (made_test m (column b 3 p)) f
