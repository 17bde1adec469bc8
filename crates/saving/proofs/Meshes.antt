-- A save of a mesh writes what the claim about folders supposes. Assumes nothing.
use mathlib.Core.Path.{◌≡◌}
use mathlib.Core.Bool.{true, ◌&&◌}
use mathlib.Core.List.{List}
use mathlib.Core.Option.{none, some}
use Prim.Native.Nat.{ℕ, ◌^◌, ◌≤◌, ◌<◌}
use native.Mathlib.Omega.{arith}
use lib.Dec.{ltb, leb}
use lib.ListN.{length}
use borrow.Author.Tests.{ltb-true, leb-true}
use Rattle.laws.proofs.Tests.{and_left, and_right}
use Rattle.columns.specs.Columns.{all_below}
use Rattle.columns.proofs.Below.{below_at}
use Rattle.mesh.specs.Parts.{block_count}
use Rattle.commands.specs.declared.names.File.TheVariants as file
use Rattle.saving.specs.Prepare.{savable, file_of, all_savable, contents}
use Rattle.saving.specs.Folder.{Folder, saves, SaveKeeps}
use Rattle.saving.proofs.Contents.{file_short}
use Rattle.saving.proofs.Kept.{save_keeps}

module _ (m : List ℕ) (all : all_savable m ≡ true) where
  sizes : (ltb 0 (block_count m) && leb (block_count m) 16) ≡ true
  unfolding all_savable
  sizes = and_left (ltb 0 (block_count m) && leb (block_count m) 16) (all_below (savable m) (block_count m)) all

  few : 1 ≤ block_count m
  few = ltb-true 0 (block_count m) (and_left (ltb 0 (block_count m)) (leb (block_count m) 16) sizes)

  many : block_count m ≤ 16
  many = leb-true (block_count m) 16 (and_right (ltb 0 (block_count m)) (leb (block_count m) 16) sizes)

  each : (b : ℕ) → b < block_count m → savable m b ≡ true
  unfolding all_savable
  each b h = below_at (savable m) (block_count m) (and_right (ltb 0 (block_count m) && leb (block_count m) 16) (all_below (savable m) (block_count m)) all) b h

  -- under the name of each new file, and of the new commit
  pub writes_block : (b : ℕ) → b < block_count m → contents m (file.NewBlock b) ≡ some (saves (block_count m) (file_of m) (file.NewBlock b))
  unfolding contents
  writes_block b h = rw (each b h)

  pub writes_commit : contents m file.NewCommit ≡ some (saves (block_count m) (file_of m) file.NewCommit)
  unfolding contents
  writes_commit = rw all

  -- so a save of a mesh loses nothing, and what it leaves looks right
  pub mesh_kept : (d : Folder) → d file.Commit ≡ none → SaveKeeps (block_count m) (file_of m) d
  mesh_kept d free = save_keeps (block_count m) (file_of m) few many d free

  pub files_short : (b : ℕ) → b < block_count m → length (file_of m b) < 2 ^ 64
  files_short b h = omega (arith, file_short m b (each b h))
