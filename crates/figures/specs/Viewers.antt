-- The rule of the next move and the two runs where a block is a viewer's: a cell of 66 darts goes neither into it nor out of it. Assumes nothing.
use Rattle.std.specs.Prelude.{◌≡◌, refl, true, cond, List, [], ◌∷◌, ◌++◌, map, ℕ, ◌+◌, ◌*◌, ◌-◌, ◌%◌, ltb, replicate}
use Rattle.model.specs.Lists.{tab}
use Rattle.model.specs.Values.{free, Dart, Block, limits_in}
use Rattle.model.specs.Image.{memory_of}
use Rattle.model.specs.Balance.{every, move, next_of}
use Rattle.model.specs.Runs.{refused_by}
use Rattle.model.specs.UndividedRun.{start, undivided, round_checks}
use Rattle.model.specs.DividedRun.{round}
use Rattle.model.specs.Demands.{ended, too_large_there}
use Rattle.model.specs.Everything.{everything}
use Rattle.model.specs.Figures.{dart, block, pillow, request}

-- two faces of n edges, opposite one another: serials from k + 1 on
wide : ℕ → ℕ → List Dart
unfolding dart
wide n k = tab (λ i. dart (k + 1 + i) (k + 1 + cond (ltb i n) ((i + 1) % n) (n + (i - n + 1) % n)) (k + 2 * n - i) free) (2 * n)

-- a cell of 66 darts and one of 6 in block 0, and an empty block
mesh : List Block
unfolding wide pillow block
mesh = block 0 (wide 33 0 ++ pillow 66) ∷ block 1 [] ∷ []

into_a_viewer : next_of (limits_in 2) every mesh ≡ move (record { donor = 0; recipient = 1; serial = 67 })
unfolding mesh everything
into_a_viewer = refl

out_of_a_viewer : next_of (limits_in 1) every mesh ≡ move (record { donor = 0; recipient = 1; serial = 67 })
unfolding mesh everything
out_of_a_viewer = refl

-- the undivided run says 11, the divided one 29, and both leave the mesh
undivided_eleven : (undivided (limits_in 2) (start mesh) (request 0 1 1)).outcome ≡ refused_by 11
unfolding mesh request everything
undivided_eleven = refl

-- by the questions that a round puts: the sender may send it, the destination may not take it
refused_there : too_large_there (limits_in 2) (start mesh) (request 0 1 1) ≡ true
unfolding mesh request everything
refused_there = refl

told_29 : ended (round_checks (limits_in 2) (start mesh) (request 0 1 1)) ≡ refused_by 29
unfolding mesh request everything
told_29 = refl

divided_29 : (round (limits_in 2) (map (memory_of (limits_in 2)) mesh) (request 0 1 1) (replicate 2000 0) []).outcome ≡ refused_by 29
unfolding mesh request everything
divided_29 = refl
