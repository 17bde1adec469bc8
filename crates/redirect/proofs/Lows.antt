-- The least label along a face. Assumes nothing.
use mathlib.Core.Path.{◌≡◌, sym, ◌∙◌, ap}
use mathlib.Core.List.{List, [], ◌∷◌, map}
use Prim.Native.Nat.{ℕ, zero, suc, ◌+◌, ◌<◌, min}
use native.Mathlib.Omega.{arith}
use Rattle.model.specs.Lists.{least, least_from}
use Rattle.model.specs.Cells.{cycle}
use Rattle.model.specs.Image.{column}
use Rattle.laws.proofs.Members.{map_append, least_more}
use Rattle.laws.proofs.Orbits.{path}
use Rattle.cells.specs.Places.{Within}
use Rattle.cells.proofs.Paths.{Round, Going, path_next, going_end}
use Rattle.redirect.specs.ByPlaces.{face_code}

-- ALONG A FACE
-- the least of v at the first k darts from x on
pub record Lowest (f v : ℕ → ℕ) (x k low : ℕ) : Type 0 where
  pub low_is : low ≡ least_from (v x) (map v (path f k x))

pub lowest_start : (f v : ℕ → ℕ) (x : ℕ) {low : ℕ} → low ≡ v x → Lowest f v x 0 low
lowest_start f v x e = record { low_is = e }

module _ {n : ℕ} {f : ℕ → ℕ} {x c k p : ℕ} (wf : Within n f) (r : Round f x c) (g : Going n f x c k p) (v : ℕ → ℕ)
    {low code next : ℕ} (w : Lowest f v x k low) (read : code ≡ v p) (lower : next ≡ min low code) where
  pub lowest_next : Lowest f v x (k + 1) next
  lowest_next =
      let more : k + 1 ≡ suc k = omega arith in
      record {
        low_is = lower ∙ ap (min low) read ∙ ap (λ (a : ℕ). min a (v p)) w.low_is ∙ sym (least_more (v x) (map v (path f k x)) (v p))
            ∙ ap (least_from (v x)) (sym (map_append v (path f k x) (p ∷ [])) ∙ ap (map v) (sym (path_next wf r g) ∙ ap (λ (j : ℕ). path f j x) (sym more)));
      }

  pub lowest_end : {q : ℕ} → q ≡ f p → q ≡ x → next ≡ least (map v (cycle f x))
  unfolding least
  lowest_end {q} a b =
      let all_passed : k + 1 ≡ c = omega (arith, going_end wf r g a b) in
      lowest_next.low_is ∙ ap (λ (j : ℕ). least_from (v x) (map v (path f j x))) all_passed ∙ from_first c r.some ∙ ap (λ (l : List ℕ). least (map v l)) (sym r.cycle_is)
    where
      from_first : (j : ℕ) → 0 < j → least_from (v x) (map v (path f j x)) ≡ least (map v (path f j x))
      from_first zero h = absurd (omega arith)
      from_first (suc j) h = let same : min (v x) (v x) ≡ v x = omega arith in ap (λ (a : ℕ). least_from a (map v (path f j (f x)))) same

pub code_end : (m : List ℕ) (x : ℕ) {low : ℕ} → low ≡ least (map (column m 4) (cycle (column m 1) x)) → low ≡ face_code m x
unfolding face_code
code_end m x e = e
