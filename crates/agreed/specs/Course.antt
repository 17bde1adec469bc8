-- The undivided run of any list of requests, also of such as name a block that the mesh has not; the number of a refusal is that of the questions
-- that a round puts. Assumes nothing.
use Rattle.std.specs.Prelude.{Bool, false, cond, ◌&&◌, List, [], ◌∷◌, ◌++◌, ℕ, leb, ltb}
use Rattle.model.specs.Lists.{first_no, Check}
use Rattle.model.specs.Values.{limits_in, last_block}
use Rattle.model.specs.Runs.{Request, Outcome, refused_by}
use Rattle.model.specs.UndividedRun.{State, leaving_checks, round_checks, Undivided, undivided}
use Rattle.model.specs.Demands.{ended}

-- both blocks are in a mesh of k blocks
abbrev pub named : ℕ → Request → Bool
named k r = ltb r.from k && ltb r.to k

-- what else is asked: 1, whether there is a block to send; 9, whether any block may have the destination's number; the request's own 9 to
-- 14, by the sender's limits; then nobody is there to receive, which is a no to 1
unfoldable pub outside_checks : ℕ → ℕ → State → Request → List Check
outside_checks viewers k u r =
    (1, ltb r.from k) ∷ (9, leb r.to last_block) ∷ (leaving_checks (limits_in viewers r.from).volume_darts u r ++ (1, false) ∷ [])

-- a request that names a block outside the mesh is refused and changes nothing
unfoldable pub any_undivided : ℕ → ℕ → State → Request → Undivided
any_undivided viewers k u r = cond (named k r)
    (record { outcome = ended (round_checks (limits_in viewers) u r); state = (undivided (limits_in viewers) u r).state })
    (record { outcome = refused_by (first_no (outside_checks viewers k u r)); state = u })

-- requests one after the other: the outcome of each, and the state at the end
pub record Course : Type 0 where
  pub outcomes : List Outcome
  pub state : State

unfoldable pub course : ℕ → ℕ → State → List Request → Course
course viewers k u [] = record { outcomes = []; state = u }
course viewers k u (r ∷ rs) =
    let first = any_undivided viewers k u r in
    let rest = course viewers k first.state rs in
    record { outcomes = first.outcome ∷ rest.outcomes; state = rest.state }
