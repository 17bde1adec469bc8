-- The answers to questions 25 and 26, from the tests of keys in order. Assumes nothing.
use mathlib.Core.Path.{◌≡◌, sym, ap, subst, ◌∙◌}
use mathlib.Core.Bool.{Bool, true, false}
use mathlib.Core.List.{List}
use Prim.Native.Nat.{ℕ, ◌≤◌}
use lib.ListN.{length, take}
use Rattle.model.specs.Lists.{sorted}
use Rattle.model.specs.Sound.{labels_paired, points_across}
use Rattle.mesh.specs.Parts.{block_count}
use Rattle.pairing.specs.Numbers.{MeshAsked, PlacesBefore}
use Rattle.pairing.specs.Keys.{all_keys, in_pairs, each_pair, label_pair, point_pair}
use Rattle.pairing.proofs.InBlocks.{mesh_of}
use Rattle.pairing.proofs.BothWays.{labels_are, points_are}
use Rattle.pairing.specs.Told.{pairing_of}
use Rattle.pairing.specs.declared.Pairing.TheVariants.{Right, Unpaired, Apart}

module _ {m t keys : List ℕ} (a : MeshAsked m) (b : PlacesBefore m t) (is : keys ≡ sorted (all_keys m (block_count m))) where
  labels_same : in_pairs (label_pair m t) keys ≡ labels_paired (mesh_of m)
  labels_same = ap (in_pairs (label_pair m t)) is ∙ labels_are a b

  points_same : labels_paired (mesh_of m) ≡ true → each_pair (point_pair m) keys ≡ points_across (mesh_of m)
  points_same e = ap (each_pair (point_pair m)) is ∙ points_are a b e

  pub unpaired : {r : Bool} → r ≡ in_pairs (label_pair m t) keys → r ≡ false → Unpaired ≡ pairing_of (labels_paired (mesh_of m)) (points_across (mesh_of m))
  unpaired {r} e f = ap (λ (x : Bool). pairing_of x (points_across (mesh_of m))) (sym f ∙ e ∙ labels_same)

  module _ {r s : Bool} (e : r ≡ in_pairs (label_pair m t) keys) (f : r ≡ true) (g : s ≡ each_pair (point_pair m) keys) where
    yes : true ≡ labels_paired (mesh_of m)
    yes = sym f ∙ e ∙ labels_same

    pub apart : s ≡ false → Apart ≡ pairing_of (labels_paired (mesh_of m)) (points_across (mesh_of m))
    apart h = ap (pairing_of true) (sym h ∙ g ∙ points_same (sym yes)) ∙ ap (λ (x : Bool). pairing_of x (points_across (mesh_of m))) yes

    pub right : s ≡ true → Right ≡ pairing_of (labels_paired (mesh_of m)) (points_across (mesh_of m))
    right h = ap (pairing_of true) (sym h ∙ g ∙ points_same (sym yes)) ∙ ap (λ (x : Bool). pairing_of x (points_across (mesh_of m))) yes

-- keys that were put in order
pub in_order : (c : ℕ) (k k' : List ℕ) {l : List ℕ} → take c k' ≡ sorted (take c k) → length k' ≡ length k → length k ≡ 65536 → c ≤ 65536 → take c k ≡ l → (c ≤ length k') × (take c k' ≡ sorted l)
in_order c k k' e f g h i = (subst (λ (n : ℕ). c ≤ n) (sym (f ∙ g)) h, e ∙ ap sorted i)
