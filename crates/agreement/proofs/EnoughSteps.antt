-- The steps that Cells gives to a face, a ring and a volume are enough in the whole map of a sound mesh, at the start and after every
-- request: a cell lies in one block, and no request changes a link. Assumes nothing.
use mathlib.Core.Path.{◌≡◌, refl, sym, ◌∙◌, ap}
use mathlib.Core.List.{List, [], ◌∷◌}
use Prim.Native.Nat.{ℕ, ◌*◌, ◌≤◌}
use native.Mathlib.Omega.{arith}
use lib.Dec.{eqb}
use lib.ListN.{length}
use Rattle.model.specs.Lists.{first_no}
use Rattle.model.specs.Values.{room, Label, Block, Limits}
use Rattle.model.specs.Cells.{around, cycle, reach, volume, ring}
use Rattle.model.specs.Sound.{Sound, Fit}
use Rattle.model.specs.Runs.{Request}
use Rattle.model.specs.UndividedRun.{State, nx, op, start, request_checks, after_move, undivided}
use Rattle.laws.proofs.Faces.{cycle_enough}
use Rattle.laws.proofs.Members.{In}
use Rattle.laws.proofs.Tests.{by_cases}
use Rattle.laws.proofs.Volumes.{volume_enough}
use Rattle.agreement.proofs.Begins.{start_label, start_inv}
use Rattle.agreement.proofs.Described.{members, Map, Inv, Mine, mine_member, member_mine, next_mine, opposite_mine}

module _ (lims : ℕ → Limits) (fit : Fit lims) (k : ℕ) (u : State) (label : ℕ → Label) (I : Inv lims k u label) where
  abbrev M : Map u
  M = I.map_sound

  -- the block of a dart has all that its links reach
  module _ (x : ℕ) (h : In x u.darts) where
    abbrev home : List ℕ
    home = members u (u.number x)

    mine : (y : ℕ) → In y home → Mine u (u.number x) y
    mine y m = member_mine u (u.number x) y m

    at_home : In x home
    at_home = mine_member u (u.number x) x (record { here = h; block = refl })

    few : length home ≤ room
    few = omega (arith, I.blocks_fit (u.number x) (I.in_a_block x h), fit.block_fits (u.number x))

    next_stays : (y : ℕ) → In y home → In (nx u y) home
    next_stays y m = mine_member u (u.number x) (nx u y) (next_mine u M (u.number x) y (mine y m))

    opposite_stays : (y : ℕ) → In y home → In (op u y) home
    opposite_stays y m = mine_member u (u.number x) (op u y) (opposite_mine u M (u.number x) y (mine y m))

    next_one : (y z : ℕ) → In y home → In z home → nx u y ≡ nx u z → y ≡ z
    next_one y z m n = M.next_one y z (mine y m).here (mine z n).here

    turn_one : (y z : ℕ) → In y home → In z home → nx u (op u y) ≡ nx u (op u z) → y ≡ z
    turn_one y z m n e =
        let q = next_one (op u y) (op u z) (opposite_stays y m) (opposite_stays z n) e in
        sym (M.opposite_twice y (mine y m).here) ∙ ap (op u) q ∙ M.opposite_twice z (mine z n).here

    map_face : (n : ℕ) → room ≤ n → around (nx u) x n x ≡ cycle (nx u) x
    map_face n many = cycle_enough (nx u) home next_stays next_one few n x many at_home

    map_ring : (n : ℕ) → room ≤ n → around (λ y. nx u (op u y)) x n x ≡ ring (nx u) (op u) x
    unfolding ring
    map_ring n many = cycle_enough (λ y. nx u (op u y)) home (λ y m. next_stays (op u y) (opposite_stays y m)) turn_one few n x many at_home

    map_cell : (n : ℕ) → 3 * room ≤ n → reach (nx u) (op u) n [] (x ∷ []) ≡ volume (nx u) (op u) x
    map_cell n many = volume_enough (nx u) (op u) home next_stays opposite_stays few n x many at_home

-- THE WHOLE MAP OF A SOUND MESH
pub record StepsSuffice (u : State) : Type 0 where
  pub face_steps : (n x : ℕ) → room ≤ n → In x u.darts → around (nx u) x n x ≡ cycle (nx u) x
  pub ring_steps : (n x : ℕ) → room ≤ n → In x u.darts → around (λ y. nx u (op u y)) x n x ≡ ring (nx u) (op u) x
  pub cell_steps : (n x : ℕ) → 3 * room ≤ n → In x u.darts → reach (nx u) (op u) n [] (x ∷ []) ≡ volume (nx u) (op u) x

pub start_enough : (lims : ℕ → Limits) → Fit lims → (m : List Block) → Sound lims m → StepsSuffice (start m)
start_enough lims fit m sound = record {
  face_steps = λ n x many h. map_face lims fit (length m) (start m) (start_label lims m sound) (start_inv lims m sound) x h n many;
  ring_steps = λ n x many h. map_ring lims fit (length m) (start m) (start_label lims m sound) (start_inv lims m sound) x h n many;
  cell_steps = λ n x many h. map_cell lims fit (length m) (start m) (start_label lims m sound) (start_inv lims m sound) x h n many;
}

-- no request changes them: the darts and their links stay
pub undivided_enough : (lims : ℕ → Limits) (u : State) (r : Request) → StepsSuffice u → StepsSuffice (undivided lims u r).state
unfolding undivided after_move
undivided_enough lims u r e = by_cases (eqb (first_no (request_checks lims u r)) 0) (λ t. rw t (same e)) (λ t. rw t e)
  where
    same : StepsSuffice u → StepsSuffice (after_move u r)
    same q = unfold after_move in (record { face_steps = q.face_steps; ring_steps = q.ring_steps; cell_steps = q.cell_steps })
