-- What a whole mesh is that every question was answered yes of. Assumes nothing.
use Rattle.std.specs.Prelude.{◌≡◌, true, List, map, ℕ}
use Rattle.model.specs.Lists.{all}
use Rattle.model.specs.Sound.{blocks_right, serials_distinct, labels_paired, points_across, makers_right}
use Rattle.model.specs.Image.{block_in}
use Rattle.model.specs.Calls.{memories, mesh_lent, scratch_entries}
use Rattle.mesh.specs.Parts.{sound_memory}

-- 1, 2, 23 and 24
pub record Begun (viewers : ℕ) (m s : List ℕ) : Type 0 where
  pub lent : mesh_lent scratch_entries m s ≡ true
  pub images : all (sound_memory viewers) (memories m) ≡ true
  pub numbered : blocks_right (map block_in (memories m)) ≡ true
  pub serials : serials_distinct (map block_in (memories m)) ≡ true

-- and 25 to 27
pub record Right (viewers : ℕ) (m s : List ℕ) : Type 0 where
  pub begun : Begun viewers m s
  pub labels : labels_paired (map block_in (memories m)) ≡ true
  pub points : points_across (map block_in (memories m)) ≡ true
  pub makers : makers_right (map block_in (memories m)) ≡ true
