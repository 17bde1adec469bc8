-- The commit of a mesh, put into a room as a whole or not at all. Assumes nothing.
use Rattle.std.specs.Prelude.{None, Some}
use mathlib.Core.Path.{◌≡◌, refl, sym, ap, ◌∙◌}
use mathlib.Core.Bool.{Bool, true, false}
use mathlib.Core.List.{List, ◌++◌}
use mathlib.Core.Option.{Option, none, some}
use Prim.Native.Nat.{ℕ, ◌+◌, ◌*◌, ◌≤◌, ◌<◌}
use native.Mathlib.Omega.{arith}
use lib.ListN.{length, take, drop}
use borrow.Author.Tests.{lt-ltb, le-ltb, le-leb, lt-leb}
use Rattle.model.specs.Lists.{tab}
use Rattle.mesh.specs.Parts.{block_count}
use Rattle.commands.specs.declared.names.File.TheVariants as files
use Rattle.saving.specs.Commit.{entry_of, commit_of}
use Rattle.saving.specs.Prepare.{act_when, file_of, all_savable, contents, fitting, left_by, made_of, StepPut, BlockEntered}
use Rattle.saving.proofs.Contents.{put_none}
use Rattle.saving.proofs.Entering.{commit_length}

module _ (m room : List ℕ) where
  pub too_few : block_count m < 1 → StepPut (contents m files.NewCommit) room room None
  unfolding contents all_savable
  too_few h = put_none (rw (le-ltb 0 (block_count m) (omega arith)))

  pub too_many : 16 < block_count m → StepPut (contents m files.NewCommit) room room None
  unfolding contents all_savable
  too_many h = put_none (rw (lt-ltb 0 (block_count m) (omega arith), lt-leb (block_count m) 16 h))

  pub no_room : length room < 8 + 16 * block_count m → StepPut (contents m files.NewCommit) room room None
  unfolding contents
  no_room h = put_none (either (all_savable m))
    where
      either : (s : Bool) → fitting room (act_when s (commit_of (tab (λ b. entry_of (file_of m b)) (block_count m)))) ≡ none
      either true = rw (lt-leb (length (commit_of (tab (λ b. entry_of (file_of m b)) (block_count m)))) (length room) (omega (arith, commit_length m (block_count m))))
      either false = refl

  module _ (few : 1 ≤ block_count m) (many : block_count m ≤ 16) {before after : List ℕ} {r : Bool} (e : BlockEntered m (block_count m) before after r) where
    whole : all_savable m ≡ r
    unfolding all_savable
    whole = rw (lt-ltb 0 (block_count m) few, le-leb (block_count m) 16 many) (sym e.all)

    pub one_missing : r ≡ false → StepPut (contents m files.NewCommit) room room None
    unfolding contents
    one_missing n = put_none (rw (whole ∙ n))

    pub commit_put : r ≡ true → 8 + 16 * block_count m ≤ length room → {left : List ℕ} → left ≡ take (8 + 16 * block_count m) after ++ drop (8 + 16 * block_count m) room
        → StepPut (contents m files.NewCommit) room left (Some (8 + 16 * block_count m))
    unfolding contents
    commit_put y h {left} l =
        let c : List ℕ = commit_of (tab (λ b. entry_of (file_of m b)) (block_count m)) in
        let n = commit_length m (block_count m) in
        let x : fitting room (contents m files.NewCommit) ≡ some c = rw (whole ∙ y, le-leb (length c) (length room) (omega arith)) in
        record {
          answer = ap Some (sym n) ∙ ap made_of (sym x);
          left = l ∙ ap (λ (t : List ℕ). t ++ drop (8 + 16 * block_count m) room) (e.bytes y) ∙ ap (λ (k : ℕ). c ++ drop k room) (sym n) ∙ ap (λ (o : Option (List ℕ)). left_by o room) (sym x);
        }
