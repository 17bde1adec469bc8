-- New darts that stand among those of a block, and the links that they bring. Assumes nothing.
-- m: the block's memory before, with n darts; c: the draft of k new darts; x, kinds, links, ranks: serial, kind word, link word and
-- place in the draft, by index in the message.
use Rattle.std.specs.Prelude.{◌≡◌, List, ℕ, ◌<◌, get_or}
use Rattle.std.proofs.Math.Option.{none, some}
use Rattle.model.specs.Lists.{find}
use Rattle.model.specs.Values.{sewn}
use Rattle.model.specs.Image.{column, third_in}
use Rattle.model.specs.Links.{Link}
use Rattle.columns.specs.Columns.{Kind}
use Rattle.join.specs.Interleave.{interleaved_at}
use Rattle.join.specs.Interleaved.{Drafted, Stands}
use Rattle.join.specs.Thirds.{Sewn}

-- every place of the draft is that of one index, which has its serial
pub record JoinIndexed (c x ranks : List ℕ) (k : ℕ) : Type 0 where
  pub rank_below : (i : ℕ) → i < k → get_or ranks i 0 < k
  pub rank_apart : (i j : ℕ) → i < k → j < k → get_or ranks i 0 ≡ get_or ranks j 0 → i ≡ j
  pub index_of : (q : ℕ) → q < k → (i : ℕ) × (i < k) × (get_or ranks i 0 ≡ q)
  pub serial_is : (i : ℕ) → i < k → column c 0 (get_or ranks i 0) ≡ get_or x i 0
  pub free : (q : ℕ) → q < k → (column c 3 q ≡ 0) × (column c 4 q ≡ 0)

-- kinds and links are what some links say of the new darts and of the block's
pub record Linking (m : List ℕ) (n k : ℕ) (x kinds links : List ℕ) (ls : List Link) : Type 0 where
  pub kind_right : (i : ℕ) → i < k → Kind (get_or kinds i 0) (get_or links i 0)
  pub link_below : (i : ℕ) → i < k → get_or kinds i 0 ≡ 1 → get_or links i 0 < n
  pub link_apart : (i j : ℕ) → i < k → j < k → get_or kinds i 0 ≡ 1 → get_or kinds j 0 ≡ 1 → get_or links i 0 ≡ get_or links j 0 → i ≡ j
  pub new_free : (i : ℕ) → i < k → get_or kinds i 0 ≡ 0 → find (λ l. l.dart) (get_or x i 0) ls ≡ none
  pub new_linked : (i : ℕ) → i < k → (get_or kinds i 0 ≡ 0 → ⊥) → find (λ l. l.dart) (get_or x i 0) ls ≡ some (record { dart = get_or x i 0; third = third_in (column m 0) (get_or kinds i 0) (get_or links i 0) })
  pub met : (i : ℕ) → i < k → get_or kinds i 0 ≡ 1 → find (λ l. l.dart) (column m 0 (get_or links i 0)) ls ≡ some (record { dart = column m 0 (get_or links i 0); third = sewn (get_or x i 0) })
  pub unmet : (p : ℕ) → p < n → ((i : ℕ) → i < k → get_or kinds i 0 ≡ 1 → get_or links i 0 ≡ p → ⊥) → find (λ l. l.dart) (column m 0 p) ls ≡ none

-- a draft that may join a block, with the links that it brings
pub record MayJoin (m c : List ℕ) (n k : ℕ) (kinds links ranks : List ℕ) : Type 0 where
  pub drafted : Drafted m c n k
  pub serials : List ℕ
  pub brings : List Link
  pub indexed : JoinIndexed c serials ranks k
  pub linking : Linking m n k serials kinds links brings

-- it has joined: interleaved, then sewn
pub record Joins (m c : List ℕ) (n k : ℕ) (kinds links ranks y : List ℕ) : Type 0 where
  pub old : List ℕ
  pub new : List ℕ
  pub stand : Stands m c (interleaved_at m n c k) n k old new
  pub sewn : Sewn (interleaved_at m n c k) kinds links ranks old new k y
