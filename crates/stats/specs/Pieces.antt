-- The pieces of a block: its cells, joined where a dart of one is sewn to a dart of another. Assumes nothing.
use Rattle.std.specs.Prelude.{cond, List, [], ◌∷◌, ◌++◌, ℕ, zero, suc, ◌*◌, leb}
use Rattle.model.specs.Lists.{all, keep, mem}
use Rattle.model.specs.Values.{Third, free, sewn, critical, Dart}
use Rattle.model.specs.Cells.{serials, next_in, opposite_in, third_at}

-- what links reach from what is still to do
unfoldable pub reached : (ℕ → List ℕ) → ℕ → List ℕ → List ℕ → List ℕ
reached links zero seen todo = seen
reached links (suc n) seen [] = seen
reached links (suc n) seen (x ∷ todo) =
    let on = reached links n (x ∷ seen) (links x ++ todo) in
    let past = reached links n seen todo in
    cond (mem x seen) past on

-- from one dart, along three links; each of at most 4,096 darts is met four times at the most
unfoldable pub piece : (ℕ → List ℕ) → ℕ → List ℕ
piece links s = reached links (4 * 4096) [] (s ∷ [])

-- the dart that a dart is sewn to; itself where it is sewn to none
abbrev pub sewn_or : ℕ → Third → ℕ
sewn_or x free = x
sewn_or x (sewn y) = y
sewn_or x (critical o l) = x

-- next, opposite and, of a sewn dart, the third link
abbrev pub piece_links : List Dart → ℕ → List ℕ
piece_links ds x = next_in ds x ∷ opposite_in ds x ∷ sewn_or x (third_at ds x) ∷ []

-- the piece of a dart, in ascending serial
unfoldable pub piece_in : List Dart → ℕ → List ℕ
piece_in ds s = let v = piece (piece_links ds) s in keep (λ x. mem x v) (serials ds)

-- the least serial of each piece, ascending
unfoldable pub piece_starts : List Dart → List ℕ
piece_starts ds = keep (λ x. all (leb x) (piece_in ds x)) (serials ds)
