-- LEVEL: where next_move answers it, no two counts differ by two or more. Assumes nothing.
use mathlib.Core.Path.{◌≡◌, refl, sym, ◌∙◌}
use mathlib.Core.Bool.{Bool, true, false, cond, not}
use mathlib.Core.List.{List, [], ◌∷◌}
use Prim.Native.Nat.{ℕ, ◌+◌, ◌≤◌, ◌<◌}
use native.Mathlib.Omega.{arith}
use lib.ListN.{length, get_or, length-map}
use borrow.Author.Tests.{leb-false, not-true}
use Rattle.model.specs.Lists.{all, keep}
use Rattle.model.specs.Values.{Block, Limits, limits_in}
use Rattle.model.specs.Sound.{Fit}
use Rattle.model.specs.Balance.{Oracle, picked, counts, Move, level, blocked, may_give, candidates, can_move, first_or, is_level, next_of}
use Rattle.model.specs.Demands.{LevelMeans}
use Rattle.laws.proofs.Tests.{all_at}
use Rattle.agreement.proofs.Agreement.{limits_fit}
use Rattle.balancing.proofs.Chosen.{next_answered}

level_only : (b : Bool) (l : List Move) → first_or (cond b level blocked) l ≡ level → b ≡ true
level_only true l e = refl
level_only false [] e = let z : ◌≡◌ {A = ℕ} 0 1 = cc in absurd (omega arith)
level_only false (t ∷ l) e = let z : ◌≡◌ {A = ℕ} 0 1 = cc in absurd (omega arith)

pub said_level : (lims : ℕ → Limits) (o : Oracle) (m : List Block) → next_of lims o m ≡ level → is_level (counts o m) ≡ true
unfolding next_of
said_level lims o m e = level_only (is_level (counts o m)) (keep (can_move lims m) (candidates o m (counts o m))) e

pub within_one : (cs : List ℕ) → is_level cs ≡ true → (i j : ℕ) → i < length cs → j < length cs → get_or cs i 0 ≤ get_or cs j 0 + 1
unfolding is_level
within_one cs e i j hi hj =
    let row = all_at (λ c. all (λ d. not (may_give c d)) cs) 0 cs i e hi in
    let no = leb-false (get_or cs j 0 + 2) (get_or cs i 0) (not-true _ (all_at (λ d. not (may_give (get_or cs i 0) d)) 0 cs j row hj)) in
    omega (arith, no)

pub level_means : (lims : ℕ → Limits) → Fit lims → LevelMeans lims
unfolding counts
level_means lims fit m o scratch b sound e f i j hi hj =
    let n = length-map m (λ b. length (picked o b.darts)) in
    within_one (counts o m) (said_level lims o m (sym (next_answered lims fit m o scratch b sound e) ∙ f)) i j (omega (arith, n, hi)) (omega (arith, n, hj))

-- with every set of viewers
pub mesh_level_means : (viewers : ℕ) → LevelMeans (limits_in viewers)
mesh_level_means viewers = level_means (limits_in viewers) (limits_fit viewers)
