-- Question 2 of a block in a mesh with viewers: it is sound by the rack's limits, and has no more darts than its own say. Assumes nothing.
use mathlib.Core.Path.{◌≡◌, sym, ap, ◌∙◌}
use mathlib.Core.Bool.{Bool, true, false, true≢false}
use mathlib.Core.List.{List}
use Prim.Native.Nat.{ℕ, ◌/◌, ◌≤◌}
use native.Mathlib.Omega.{arith}
use lib.Dec.{leb}
use lib.ListN.{length, get_or}
use borrow.Author.Tests.{leb-true, le-leb}
use Rattle.laws.proofs.Tables.{length_tab}
use Rattle.laws.proofs.Tests.{by_cases, same_truth}
use Rattle.model.specs.Lists.{all}
use Rattle.model.specs.Values.{Limits, widest, limits_in}
use Rattle.model.specs.Image.{words, dart_in, count_in, block_in, is_image, holds_block}
use Rattle.model.specs.Calls.{memories}
use Rattle.theory.proofs.ImageLaws.{parts_of, ranges_of, image_is, count_fits, image_fits}
use Rattle.memory.specs.Header.{limits_of}
use Rattle.memory.specs.declared.header.Limits as limits
use Rattle.columns.specs.Columns.{all_below}
use Rattle.columns.proofs.Below.{below_at, at_below, all_is}
use Rattle.mesh.specs.Parts.{block_count, part, sound_memory}
use Rattle.mesh.proofs.Gathers.{part_length}
use Rattle.mesh.proofs.Parts.{sound_test, sound_is}

-- by limits: a sound block of the rack, with no more darts than they say
pub few_in : (lim : Limits) (b : List ℕ) → is_image lim b ≡ true → count_in b ≤ lim.block_darts
few_in lim b e = omega (arith, (ranges_of lim (block_in b) (parts_of lim (block_in b) (image_is lim b e).1).ranges).few_darts, length_tab (dart_in b) (count_in b))

pub holds_by : (lim : Limits) (b : List ℕ) → length b ≡ words → is_image lim b ≡ true → holds_block b ≡ true
holds_by lim b l e = image_fits lim widest b (omega (arith, l, count_fits lim b e)) e

module _ (viewers : ℕ) (b : List ℕ) (l : length b ≡ words) {r : Bool} (said : r ≡ holds_block b) where
  abbrev own : Limits
  own = limits_in viewers (get_or b 0 0)

  pub not_sound : r ≡ false → false ≡ sound_memory viewers b
  not_sound f = by_cases (sound_memory viewers b) (λ e. absurd (true≢false (sym (holds_by own b l e) ∙ sym said ∙ f))) (λ e. sym e)

  pub sound_few : r ≡ true → (c : limits.Limits) → limits_of c ≡ own → leb (count_in b) c.block ≡ sound_memory viewers b
  sound_few f c e = ap (λ (x : Limits). leb (count_in b) x.block_darts) e
      ∙ same_truth (leb (count_in b) own.block_darts) (sound_memory viewers b)
      (λ t. image_fits widest own b (leb-true _ _ t) (sym said ∙ f))
      (λ t. le-leb _ _ (few_in own b t))

-- every block of a mesh that passes is a sound block of the rack
pub rack_sound : (m : List ℕ) → all_below (λ i. holds_block (part m i)) (block_count m) ≡ all (λ b. holds_block b) (memories m)
unfolding memories
rack_sound m = all_is (λ b. holds_block b) (part m) (length m / words)

pub parts_hold : (viewers : ℕ) (m : List ℕ) → all (sound_memory viewers) (memories m) ≡ true → all (λ b. holds_block b) (memories m) ≡ true
parts_hold viewers m e =
    sym (rack_sound m) ∙ at_below (λ i. holds_block (part m i)) (block_count m)
    (λ i h. holds_by _ (part m i) (part_length m i h) (below_at (sound_test viewers m) (block_count m) (sound_is viewers m ∙ e) i h))
