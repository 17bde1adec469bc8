-- What both ends of a round are told by: ordered vertex pairs, faces with their indices, and new third links of darts. Assumes nothing.
use Rattle.std.specs.Prelude.{Bool, true, not, ◌&&◌, List, [], ◌∷◌, ◌++◌, map, ℕ, suc, ◌+◌, eqb, length}
use Rattle.std.proofs.Math.Option.{Option, none, some}
use Rattle.model.specs.Lists.{any, find, concat_map}
use Rattle.model.specs.Values.{Third, sewn, critical, Dart, with_third}
use Rattle.model.specs.Cells.{vertex}

-- 13: "Every ordered vertex pair once, ends different"
abbrev pub same_pair : ℕ × ℕ → ℕ × ℕ → Bool
same_pair p q = eqb p.0 q.0 && eqb p.1 q.1

unfoldable pub pairs_once : List (ℕ × ℕ) → Bool
pairs_once [] = true
pairs_once (p ∷ ps) = not (eqb p.0 p.1) && not (any (same_pair p) ps) && pairs_once ps

-- the ordered vertex pairs of some darts; vertices are rings
unfoldable pub vertex_pairs : (ℕ → ℕ) → (ℕ → ℕ) → List ℕ → List (ℕ × ℕ)
vertex_pairs nx op v = map (λ x. (vertex nx op x, vertex nx op (nx x))) v

-- a face with the index of its start
pub record Placed : Type 0 where
  pub at : ℕ
  pub face : List ℕ

unfoldable pub placed : ℕ → List (List ℕ) → List Placed
placed i [] = []
placed i (f ∷ fs) = record { at = i; face = f } ∷ placed (i + length f) fs

-- a new third link of a dart
pub record Link : Type 0 where
  pub dart : ℕ
  pub third : Third

abbrev pub third_or : Third → Option Link → Third
third_or t none = t
third_or t (some k) = k.third

unfoldable pub relink : List Link → Dart → Dart
relink ks d = with_third (third_or d.third (find (λ k. k.dart) d.serial ks)) d

-- "positions 0, 1, 2 and so on along next" from the start: darts of x become critical with another block
unfoldable pub label_links : (ℕ → ℕ) → ℕ → ℕ → ℕ → ℕ → List ℕ → List Link
label_links of other maker number pos [] = []
label_links of other maker number pos (x ∷ xs) =
    record { dart = of x; third = critical other (record { maker = maker; number = number; position = pos }) }
    ∷ label_links of other maker number (suc pos) xs

unfoldable pub label_faces : (ℕ → ℕ) → ℕ → ℕ → ℕ → List (List ℕ) → List Link
label_faces of other maker number [] = []
label_faces of other maker number (f ∷ fs) = label_links of other maker number 0 f ++ label_faces of other maker (suc number) fs

-- sewing is its own inverse
abbrev pub sew_both : List (ℕ × ℕ) → List Link
sew_both ps = concat_map (λ p. record { dart = p.0; third = sewn p.1 } ∷ record { dart = p.1; third = sewn p.0 } ∷ []) ps
