-- The steps of a save, and of the recovery after one that was cut short. Assumes nothing.
-- A plan is stages, each ended by a Keep: within a stage the disk may have one step and not another, whatever their order. The first
-- stage is empty: after its Keep the disk has what the plan was made for, also where the program before it was stopped in a stage.
use Rattle.std.specs.Prelude.{Bool, false, cond, List, [], ◌∷◌, ◌++◌, ℕ, ltb, get_or}
use Rattle.model.specs.Lists.{tab}
use Rattle.commands.specs.declared.names.File.TheVariants as file
use Rattle.saving.specs.declared.plan.Step.{Step}
use Rattle.saving.specs.declared.plan.Step.TheVariants as step

unfoldable pub plan_steps : List (List Step) → List Step
plan_steps [] = []
plan_steps (stage ∷ stages) = stage ++ step.Keep ∷ plan_steps stages

-- A SAVE of k blocks: the new files and the new commit are written; the commit gets its name; each new file gets its block's name; the
-- commit goes
unfoldable pub write_steps : ℕ → List Step
write_steps k = tab (λ b. step.Write (file.NewBlock b)) k ++ step.Write file.NewCommit ∷ []

unfoldable pub committing : List Step
committing = step.Rename file.NewCommit file.Commit ∷ []

unfoldable pub placing : ℕ → List Step
placing k = tab (λ b. step.Rename (file.NewBlock b) (file.Block b)) k

unfoldable pub ending : List Step
ending = step.Remove file.Commit ∷ []

unfoldable pub save_stages : ℕ → List (List Step)
save_stages k = [] ∷ write_steps k ∷ committing ∷ placing k ∷ ending ∷ []

unfoldable pub save_step : ℕ → ℕ → Step
save_step k i = get_or (plan_steps (save_stages k)) i step.Nothing

-- A RECOVERY. Entry b of a list says whether the new file of block b is there, entry 16 whether the new commit is
-- with a commit of k blocks the new files of these get their blocks' names; any other new file goes
unfoldable pub tidied : ℕ → List Bool → ℕ → Step
tidied k there b =
    cond (get_or there b false) (cond (ltb b k) (step.Rename (file.NewBlock b) (file.Block b)) (step.Remove (file.NewBlock b))) step.Nothing

unfoldable pub tidying : ℕ → List Bool → List Step
tidying k there = tab (tidied k there) 16 ++ cond (get_or there 16 false) (step.Remove file.NewCommit) step.Nothing ∷ []

-- then the commit goes; k is 0 where there is none
unfoldable pub recover_stages : ℕ → List Bool → List (List Step)
recover_stages k there = [] ∷ tidying k there ∷ (cond (ltb 0 k) (step.Remove file.Commit) step.Nothing ∷ []) ∷ []

unfoldable pub recover_step : ℕ → List Bool → ℕ → Step
recover_step k there i = get_or (plan_steps (recover_stages k there)) i step.Nothing

-- in code, the steps behind the first Keep of a save, and those behind the commit's
unfoldable pub writing_step : ℕ → ℕ → Step
writing_step k j = get_or (plan_steps (write_steps k ∷ committing ∷ placing k ∷ ending ∷ [])) j step.Nothing

unfoldable pub placing_step : ℕ → ℕ → Step
placing_step k j = get_or (plan_steps (placing k ∷ ending ∷ [])) j step.Nothing
