-- Folders: what a step changes, and what a plan keeps whether it is cut or not. Assumes nothing.
use mathlib.Core.Path.{◌≡◌, refl, ap, ◌∙◌}
use mathlib.Core.Bool.{true, false, cond, ◌||◌}
use mathlib.Core.List.{List, [], ◌∷◌, ◌++◌}
use mathlib.Core.Logic.{◌⊎◌, inl, inr}
use mathlib.Core.Option.{Option, none, some}
use Prim.Native.Nat.{ℕ, zero, suc, ◌+◌, ◌-◌, ◌≤◌, ◌<◌}
use native.Mathlib.Omega.{arith}
use lib.ListN.{length, get_or}
use Rattle.laws.proofs.Members.{Each}
use Rattle.laws.proofs.Tests.{lt_or_ge, or_false}
use Rattle.commands.specs.declared.names.File.{File}
use Rattle.commands.specs.Names.{same_name, is_basins}
use Rattle.commands.proofs.NameLaws.{one_file, names_tell}
use Rattle.saving.specs.declared.plan.Step.{Step}
use Rattle.saving.specs.declared.plan.Step.TheVariants as step
use Rattle.saving.specs.Plan.{plan_steps}
use Rattle.saving.specs.Folder.{Folder, put_file, moved, does, all_of, folder_at, SomeDone, no_more, not_done, done, in_part, Cut, at_end, within, past, touches}

-- ONE NAME
pub put_at : (f g : File) (x : Option (List ℕ)) (d : Folder) → is_basins f ≡ true → is_basins g ≡ true → put_file f x d g ≡ cond (one_file f g) x (d g)
unfolding put_file
put_at f g x d l h = rw (names_tell f g l h)

moved_other : (x : Option (List ℕ)) (f h g : File) (d : Folder) → (same_name f g || same_name h g) ≡ false → moved x f h d g ≡ d g
unfolding put_file
moved_other none f h g d e = refl
moved_other (some bytes) f h g d e = let n = or_false (same_name f g) (same_name h g) e in rw (n.0, n.1)

pub untouched : (c : File → List ℕ) (s : Step) (d : Folder) (g : File) → touches s g ≡ false → does c s d g ≡ d g
unfolding does put_file
untouched c (step.Write f) d g e = rw e
untouched c (step.Rename f h) d g e = moved_other (d f) f h g d e
untouched c (step.Remove f) d g e = rw e
untouched c step.Keep d g e = refl
untouched c step.Nothing d g e = refl

-- WHAT A STAGE KEEPS
module _ (c : File → List ℕ) where
  -- a step keeps a fact of folders, done as a whole or in part
  pub record Steady (P : Folder → Type 0) (s : Step) : Type 0 where
    pub whole : (d : Folder) → P d → P (does c s d)
    pub part : (f : File) → s ≡ step.Write f → (x : Option (List ℕ)) (d : Folder) → P d → P (put_file f x d)

  pub some_keeps : (P : Folder → Type 0) {ss : List Step} {d e : Folder} → SomeDone c ss d e → Each (Steady P) ss → P d → P e
  some_keeps P no_more h p = p
  some_keeps P (not_done t) h p = some_keeps P t h.1 p
  some_keeps P (done {d = d} t) h p = some_keeps P t h.1 (h.0.whole d p)
  some_keeps P (in_part {f = f} {d = d} x t) h p = some_keeps P t h.1 (h.0.part f refl x d p)

  pub all_keeps : (P : Folder → Type 0) (ss : List Step) (d : Folder) → Each (Steady P) ss → P d → P (all_of c ss d)
  all_keeps P [] d h p = p
  all_keeps P (s ∷ ss) d h p = all_keeps P ss (does c s d) h.1 (h.0.whole d p)

  -- STEPS IN A ROW
  pub all_append : (xs ys : List Step) (d : Folder) → all_of c (xs ++ ys) d ≡ all_of c ys (all_of c xs d)
  all_append [] ys d = refl
  all_append (x ∷ xs) ys d = all_append xs ys (does c x d)

  pub at_first : (xs ys : List Step) (d : Folder) (n : ℕ) → n ≤ length xs → folder_at c (xs ++ ys) d n ≡ folder_at c xs d n
  at_first xs ys d zero h = refl
  at_first [] ys d (suc n) h = absurd (omega arith)
  at_first (x ∷ xs) ys d (suc n) h = at_first xs ys (does c x d) n (omega arith)

  pub at_later : (xs ys : List Step) (d : Folder) (m n : ℕ) → m ≡ length xs + n → folder_at c (xs ++ ys) d m ≡ folder_at c ys (all_of c xs d) n
  at_later [] ys d m n e = let z : m ≡ n = omega arith in ap (folder_at c ys d) z
  at_later (x ∷ xs) ys d zero n e = absurd (omega arith)
  at_later (x ∷ xs) ys d (suc m) n e = at_later xs ys (does c x d) m n (omega arith)

  pub at_more : (ss : List Step) (d : Folder) (n : ℕ) → folder_at c ss d (suc n) ≡ does c (get_or ss n step.Nothing) (folder_at c ss d n)
  unfolding does
  at_more [] d zero = refl
  at_more [] d (suc n) = refl
  at_more (s ∷ ss) d zero = at_none ss (does c s d)
    where
      at_none : (ss : List Step) (d : Folder) → folder_at c ss d 0 ≡ d
      at_none [] d = refl
      at_none (s ∷ ss) d = refl
  at_more (s ∷ ss) d (suc n) = at_more ss (does c s d) n

  -- a name that no step touches for a time
  pub at_untouched : (ss : List Step) (d : Folder) (g : File) (a n : ℕ) → ((t : ℕ) → a ≤ t → t < a + n → touches (get_or ss t step.Nothing) g ≡ false) → folder_at c ss d (a + n) g ≡ folder_at c ss d a g
  at_untouched ss d g a zero h = let z : a + 0 ≡ a = omega arith in ap (λ (k : ℕ). folder_at c ss d k g) z
  at_untouched ss d g a (suc n) h =
      let z : a + suc n ≡ suc (a + n) = omega arith in
      ap (λ (k : ℕ). folder_at c ss d k g) z
      ∙ ap (λ (e : Folder). e g) (at_more ss d (a + n))
      ∙ untouched c (get_or ss (a + n) step.Nothing) (folder_at c ss d (a + n)) g (h (a + n) (omega arith) (omega arith))
      ∙ at_untouched ss d g a n (λ t l k. h t l (omega arith))

  -- A PLAN THAT NOTHING CUTS is one that is cut after its last step so far
  some_none : (ss : List Step) (d : Folder) → SomeDone c ss d d
  some_none [] d = no_more
  some_none (s ∷ ss) d = not_done (some_none ss d)

  some_at : (ss : List Step) (d : Folder) (n : ℕ) → SomeDone c ss d (folder_at c ss d n)
  some_at ss d zero = some_none ss d
  some_at [] d (suc n) = no_more
  some_at (s ∷ ss) d (suc n) = done (some_at ss (does c s d) n)

  pub cut_at : (stages : List (List Step)) (d : Folder) (n : ℕ) → Cut c stages d (folder_at c (plan_steps stages) d n)
  unfolding plan_steps does
  cut_at [] d zero = at_end
  cut_at [] d (suc n) = at_end
  cut_at (stage ∷ stages) d n = go (cut_at stages (all_of c stage d)) (lt_or_ge (length stage) n)
    where
      go : ((m : ℕ) → Cut c stages (all_of c stage d) (folder_at c (plan_steps stages) (all_of c stage d) m)) → (length stage < n) ⊎ (n ≤ length stage)
          → Cut c (stage ∷ stages) d (folder_at c (stage ++ step.Keep ∷ plan_steps stages) d n)
      go r (inl l) = rw (at_later stage (step.Keep ∷ plan_steps stages) d n (suc (n - suc (length stage))) (omega arith)) (past (r (n - suc (length stage))))
      go r (inr l) = rw (at_first stage (step.Keep ∷ plan_steps stages) d n l) (within (some_at stage d n))

-- A CUT, taken apart
pub cut_first : {c : File → List ℕ} {stage : List Step} {stages : List (List Step)} {d e : Folder} → Cut c (stage ∷ stages) d e → (SomeDone c stage d e) ⊎ (Cut c stages (all_of c stage d) e)
cut_first (within t) = inl t
cut_first (past t) = inr t

pub cut_none : {c : File → List ℕ} {d e : Folder} → Cut c [] d e → e ≡ d
cut_none at_end = refl

pub some_end : {c : File → List ℕ} {d e : Folder} → SomeDone c [] d e → e ≡ d
some_end no_more = refl

pub some_rename : {c : File → List ℕ} {f g : File} {d e : Folder} → SomeDone c (step.Rename f g ∷ []) d e → (e ≡ d) ⊎ (e ≡ does c (step.Rename f g) d)
some_rename (not_done t) = inl (some_end t)
some_rename (done t) = inr (some_end t)
