-- The steps that Cells gives to a face, a ring and a volume are enough in a sound block: with more of them they are the same.
-- Assumes nothing.
use mathlib.Core.Path.{◌≡◌, sym, ◌∙◌, ap}
use mathlib.Core.Bool.{true}
use mathlib.Core.List.{List, [], ◌∷◌}
use Prim.Native.Nat.{ℕ, ◌*◌, ◌≤◌}
use Rattle.model.specs.Values.{room, Dart, Block, Limits}
use Rattle.model.specs.Cells.{around, cycle, reach, volume, ring, serials, next_in, opposite_in, previous_in}
use Rattle.model.specs.Sound.{sound_block}
use Rattle.laws.proofs.Faces.{cycle_enough}
use Rattle.laws.proofs.Members.{In}
use Rattle.laws.proofs.Volumes.{volume_enough}
use Rattle.theory.proofs.BlockLaws.{Links, ring_step}
use Rattle.theory.proofs.Leaving.{links, next_one, few}

module _ (lim : Limits) (b : Block) (fits : lim.block_darts ≤ room) (sound : sound_block lim b ≡ true) where
  abbrev ds : List Dart
  ds = b.darts

  abbrev L : Links ds
  L = links lim b fits sound

  pub face_steps : (n x : ℕ) → room ≤ n → In x (serials ds) → around (next_in ds) x n x ≡ cycle (next_in ds) x
  face_steps = cycle_enough (next_in ds) (serials ds) L.next_in_block (next_one lim b fits sound) (few lim b fits sound)

  -- the other way round
  pub previous_steps : (n x : ℕ) → room ≤ n → In x (serials ds) → around (previous_in ds) x n x ≡ cycle (previous_in ds) x
  previous_steps = cycle_enough (previous_in ds) (serials ds) L.previous_in_block (λ x y h k e. sym (L.next_previous x h) ∙ ap (next_in ds) e ∙ L.next_previous y k) (few lim b fits sound)

  pub ring_steps : (n x : ℕ) → room ≤ n → In x (serials ds) → around (ring_step ds) x n x ≡ ring (next_in ds) (opposite_in ds) x
  unfolding ring
  ring_steps = cycle_enough (ring_step ds) (serials ds) (λ x h. L.next_in_block _ (L.opposite_in_block x h)) one (few lim b fits sound)
    where
      one : (x y : ℕ) → In x (serials ds) → In y (serials ds) → ring_step ds x ≡ ring_step ds y → x ≡ y
      one x y h k e =
          let q = next_one lim b fits sound (opposite_in ds x) (opposite_in ds y) (L.opposite_in_block x h) (L.opposite_in_block y k) e in
          sym (L.opposite_opposite x h) ∙ ap (opposite_in ds) q ∙ L.opposite_opposite y k

  pub volume_steps : (n s : ℕ) → 3 * room ≤ n → In s (serials ds) → reach (next_in ds) (opposite_in ds) n [] (s ∷ []) ≡ volume (next_in ds) (opposite_in ds) s
  volume_steps = volume_enough (next_in ds) (opposite_in ds) (serials ds) L.next_in_block L.opposite_in_block (few lim b fits sound)
