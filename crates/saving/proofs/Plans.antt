-- The steps of the plans by their number. Assumes nothing.
use mathlib.Core.Path.{◌≡◌, refl, sym, ap, ◌∙◌}
use mathlib.Core.Bool.{Bool, false, cond}
use mathlib.Core.List.{List, [], ◌∷◌, ◌++◌, append_assoc}
use Prim.Native.Nat.{ℕ, zero, suc, ◌+◌, ◌-◌, ◌≤◌, ◌<◌}
use native.Mathlib.Omega.{arith}
use lib.Dec.{ltb}
use lib.ListN.{get_or, get_or-eq_default}
use Rattle.model.specs.Lists.{tab}
use Rattle.commands.specs.declared.names.File.TheVariants as file
use Rattle.saving.specs.declared.plan.Step.{Step}
use Rattle.saving.specs.declared.plan.Step.TheVariants as step
use Rattle.saving.specs.Plan.{plan_steps, write_steps, committing, placing, ending, save_stages, save_step, tidied, tidying, recover_stages, recover_step, writing_step, placing_step}

-- A TABLE, AND WHAT STANDS BEHIND IT
pub in_table : {A : Type 0} (f : ℕ → A) (n i : ℕ) (rest : List A) (d : A) → i < n → f i ≡ get_or (tab f n ++ rest) i d
in_table f zero i rest d h = absurd (omega arith)
in_table f (suc n) zero rest d h = refl
in_table f (suc n) (suc i) rest d h = in_table (λ k. f (suc k)) n i rest d (omega arith)

pub past_table : {A : Type 0} (f : ℕ → A) (n i : ℕ) (rest : List A) (d : A) → n ≤ i → get_or rest (i - n) d ≡ get_or (tab f n ++ rest) i d
past_table f zero i rest d h = let e : i - 0 ≡ i = omega arith in rw e
past_table f (suc n) zero rest d h = absurd (omega arith)
past_table f (suc n) (suc i) rest d h = let e : suc i - suc n ≡ i - n = omega arith in rw e (past_table (λ k. f (suc k)) n i rest d (omega arith))

-- BEHIND THE COMMIT'S KEEP
abbrev pub behind : List Step
behind = step.Keep ∷ step.Remove file.Commit ∷ step.Keep ∷ []

pub placing_below : (k j : ℕ) → j < k → step.Rename (file.NewBlock j) (file.Block j) ≡ placing_step k j
unfolding placing_step plan_steps placing ending
placing_below k j h = in_table (λ b. step.Rename (file.NewBlock b) (file.Block b)) k j behind step.Nothing h

pub placing_above : (k j l : ℕ) → k ≤ j → j - k ≡ l → get_or behind l step.Nothing ≡ placing_step k j
unfolding placing_step plan_steps placing ending
placing_above k j l h e = ap (λ (n : ℕ). get_or behind n step.Nothing) (sym e) ∙ past_table (λ b. step.Rename (file.NewBlock b) (file.Block b)) k j behind step.Nothing h

pub placing_end : (k j : ℕ) → k + 3 ≤ j → step.Nothing ≡ placing_step k j
placing_end k j h = sym (get_or-eq_default behind step.Nothing (three k j h)) ∙ placing_above k j (j - k) (omega arith) refl
  where
    three : (k j : ℕ) → k + 3 ≤ j → 3 ≤ j - k
    three k j h = omega arith

-- A SAVE
abbrev from_commit : ℕ → List Step
from_commit k = step.Write file.NewCommit ∷ step.Keep ∷ step.Rename file.NewCommit file.Commit ∷ step.Keep ∷ plan_steps (placing k ∷ ending ∷ [])

writing_is : (k : ℕ) → plan_steps (write_steps k ∷ committing ∷ placing k ∷ ending ∷ []) ≡ tab (λ b. step.Write (file.NewBlock b)) k ++ from_commit k
unfolding write_steps committing plan_steps
writing_is k = rw append_assoc

pub writing_below : (k i : ℕ) → i < k → step.Write (file.NewBlock i) ≡ writing_step k i
unfolding writing_step
writing_below k i h = rw (writing_is k) (in_table (λ b. step.Write (file.NewBlock b)) k i (from_commit k) step.Nothing h)

pub writing_above : (k i j : ℕ) → k ≤ i → i - k ≡ j → get_or (from_commit k) j step.Nothing ≡ writing_step k i
unfolding writing_step
writing_above k i j h e =
    rw (writing_is k) (ap (λ (n : ℕ). get_or (from_commit k) n step.Nothing) (sym e) ∙ past_table (λ b. step.Write (file.NewBlock b)) k i (from_commit k) step.Nothing h)

pub writing_placing : (k i j : ℕ) → k ≤ i → i - k ≡ 4 + j → placing_step k j ≡ writing_step k i
unfolding placing_step
writing_placing k i j h e = writing_above k i (suc (suc (suc (suc j)))) h (e ∙ four j)
  where
    four : (j : ℕ) → 4 + j ≡ suc (suc (suc (suc j)))
    four j = omega arith

-- the first step and the others
behind_first : (s : Step) (ss : List Step) (i : ℕ) → 0 < i → get_or ss (i - 1) step.Nothing ≡ get_or (s ∷ ss) i step.Nothing
behind_first s ss zero h = absurd (omega arith)
behind_first s ss (suc i) h = let e : suc i - 1 ≡ i = omega arith in rw e

pub save_first : (k i : ℕ) → i ≡ 0 → step.Keep ≡ save_step k i
unfolding save_step save_stages plan_steps
save_first k i e = rw e

pub save_later : (k i : ℕ) → 0 < i → writing_step k (i - 1) ≡ save_step k i
unfolding save_step writing_step save_stages plan_steps
save_later k i h = behind_first step.Keep (plan_steps (write_steps k ∷ committing ∷ placing k ∷ ending ∷ [])) i h

-- A RECOVERY: a Keep, then
abbrev pub after_blocks : ℕ → List Bool → List Step
after_blocks k there =
    cond (get_or there 16 false) (step.Remove file.NewCommit) step.Nothing ∷ step.Keep
    ∷ cond (ltb 0 k) (step.Remove file.Commit) step.Nothing ∷ step.Keep ∷ []

recover_is : (k : ℕ) (there : List Bool) → plan_steps (recover_stages k there) ≡ step.Keep ∷ (tab (tidied k there) 16 ++ after_blocks k there)
unfolding recover_stages tidying plan_steps
recover_is k there = rw append_assoc

pub recover_first : (k : ℕ) (there : List Bool) (i : ℕ) → i ≡ 0 → step.Keep ≡ recover_step k there i
unfolding recover_step
recover_first k there i e = rw (recover_is k there, e)

module _ (k : ℕ) (there : List Bool) (i : ℕ) where
  recover_behind : 0 < i → get_or (tab (tidied k there) 16 ++ after_blocks k there) (i - 1) step.Nothing ≡ recover_step k there i
  unfolding recover_step
  recover_behind h = rw (recover_is k there) (behind_first step.Keep (tab (tidied k there) 16 ++ after_blocks k there) i h)

  pub recover_below : 0 < i → i - 1 < 16 → tidied k there (i - 1) ≡ recover_step k there i
  recover_below s h = in_table (tidied k there) 16 (i - 1) (after_blocks k there) step.Nothing h ∙ recover_behind s

  pub recover_above : (j : ℕ) → i ≡ 17 + j → get_or (after_blocks k there) j step.Nothing ≡ recover_step k there i
  recover_above j e =
      let d : i - 1 - 16 ≡ j = omega arith in
      ap (λ (n : ℕ). get_or (after_blocks k there) n step.Nothing) (sym d) ∙ past_table (tidied k there) 16 (i - 1) (after_blocks k there) step.Nothing (omega arith) ∙ recover_behind (omega arith)

  pub recover_new_commit : (t : Bool) → i ≡ 17 → get_or there 16 false ≡ t → cond t (step.Remove file.NewCommit) step.Nothing ≡ recover_step k there i
  recover_new_commit t e h = rw (← h) (recover_above 0 e)

  pub recover_commit : (t : Bool) → i ≡ 19 → ltb 0 k ≡ t → cond t (step.Remove file.Commit) step.Nothing ≡ recover_step k there i
  recover_commit t e h = rw (← h) (recover_above 2 e)

  pub recover_end : 21 ≤ i → step.Nothing ≡ recover_step k there i
  recover_end h = sym (get_or-eq_default (after_blocks k there) step.Nothing (four i h)) ∙ recover_above (i - 17) (omega arith)
    where
      four : (i : ℕ) → 21 ≤ i → 4 ≤ i - 17
      four i h = omega arith
