-- The labels of critical darts, kept one by one. Assumes nothing.
use Rattle.std.specs.Prelude.{◌≡◌, cond, true, false, List, ℕ, ◌+◌, ◌≤◌, set, take}
use Rattle.model.specs.Lists.{distinct}
use Rattle.model.specs.Values.{Limits}
use Rattle.model.specs.Image.{column, is_critical_word, is_image}
use Rattle.columns.specs.Columns.{all_below, far_test, codes}
use Rattle.sound.specs.declared.Far.{Far}
use Rattle.sound.specs.declared.Far.TheVariants.{Right, Wrong}

-- the label of the dart at place i, if it is critical, is put after the first c keys; then there are c'
pub record Kept (m : List ℕ) (i : ℕ) (keys : List ℕ) (c : ℕ) (keys' : List ℕ) (c' : ℕ) : Type 0 where
  pub keys_are : keys' ≡ cond (is_critical_word (column m 3 i)) (set keys c (column m 4 i)) keys
  pub count_is : c' ≡ cond (is_critical_word (column m 3 i)) (c + 1) c

-- whether a block's n darts are right with those that they link to; then the first c keys are the labels of the critical ones
abbrev pub FarSaid : List ℕ → ℕ → List ℕ → Far → Type 0
FarSaid m n keys (Right c) = (all_below (far_test m) n ≡ true) × (c ≤ n) × (take c keys ≡ codes m n)
FarSaid m n keys Wrong = all_below (far_test m) n ≡ false

-- whether memory is a sound block's image but for labels that stand twice; then the labels are the first c keys
abbrev pub ButLabels : Limits → List ℕ → List ℕ → Far → Type 0
ButLabels lim m keys (Right c) = (c ≤ lim.block_darts) × (is_image lim m ≡ distinct (take c keys))
ButLabels lim m keys Wrong = is_image lim m ≡ false
