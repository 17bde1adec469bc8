-- Demand 3 on a small mesh, computed: P and Q in block 0, sewn, and two empty blocks; on the rack, and with a viewer among them. What each wrong round would break is said beside
-- the requests; the edits of this crate that must fail are such rounds. Assumes nothing.
use Rattle.std.specs.Prelude.{◌≡◌, refl, Bool, true, false, ◌&&◌, List, [], ◌∷◌, map, ℕ, eqb, get_or}
use Rattle.std.proofs.Math.Option.{Option, none, some}
use Rattle.model.specs.Lists.{all, same_list, sorted}
use Rattle.model.specs.Values.{Block, same_point, limits_in}
use Rattle.model.specs.Cells.{serials}
use Rattle.model.specs.Sound.{sound_mesh, all_darts}
use Rattle.model.specs.Image.{memory_of, is_image, block_in}
use Rattle.model.specs.Runs.{Request}
use Rattle.model.specs.UndividedRun.{Whole, whole_map, holder, State, start, undivided}
use Rattle.model.specs.Everything.{everything}
use Rattle.model.specs.Figures.{block, sewn_pillows, played, request, outcome_numbers}

-- the clauses of `Matches` and `Agree`, as tests
same_whole : Option Whole → Option Whole → Bool
unfolding everything
same_whole none none = true
same_whole (some v) (some w) =
    eqb v.next w.next && eqb v.opposite w.opposite && eqb v.third w.third && same_point v.point w.point
same_whole none (some w) = false
same_whole (some v) none = false

matches : ℕ → List (List ℕ) → State → Bool
unfolding same_whole everything
matches viewers ms u = let m = map block_in ms in
    all (λ b. is_image (limits_in viewers (get_or b 0 0)) b) ms && sound_mesh (limits_in viewers) m && same_list (sorted (serials (all_darts m))) u.darts
    && all (λ x. same_whole (whole_map m x) (u.links x) && eqb (holder m x) (u.number x)) u.darts
    && all (λ b. eqb b.counter (u.count b.number)) m

-- after every request
agree : ℕ → List (List ℕ) → State → List Request → Bool
unfolding matches outcome_numbers played everything
agree viewers ms u [] = matches viewers ms u
agree viewers ms u (r ∷ rs) =
    let d = played viewers ms r in
    let w = undivided (limits_in viewers) u r in
    matches viewers ms u && same_list (outcome_numbers d.outcome) (outcome_numbers w.outcome) && agree viewers d.memories w.state rs

three : List Block
unfolding block sewn_pillows
three = block 0 sewn_pillows ∷ block 1 [] ∷ block 2 [] ∷ []

requests : List Request
unfolding request
requests =
    -- P to block 1: a round that moves nothing or refuses all ends here, and so does one whose release is left out, which leaves P twice,
    -- or that counts a number wrongly
    request 0 1 1
    -- P is no longer in block 0
    ∷ request 0 1 1
    -- P on to block 2, and block 0 is told: without that Q's links lead to block 1
    ∷ request 1 2 4
    -- Q after it: labels in the wrong direction sew other darts than before
    ∷ request 0 2 12
    -- both are sewn in block 2; and P back, under a number of block 2
    ∷ request 2 0 1 ∷ []

three_agree : agree 0 (map (memory_of (limits_in 0)) three) (start three) requests ≡ true
unfolding three requests agree everything
three_agree = refl

-- block 1 a viewer's
viewer_agrees : agree 2 (map (memory_of (limits_in 2)) three) (start three) requests ≡ true
unfolding three requests agree everything
viewer_agrees = refl
