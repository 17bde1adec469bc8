-- A recovery, however often it is cut, keeps what is seen of any folder; one that ends leaves it under the blocks' own names, and no other
-- file. Assumes nothing.
use mathlib.Core.Path.{◌≡◌, refl, sym, ap, subst, ◌∙◌}
use mathlib.Core.Bool.{Bool, true, false, true≢false, cond}
use mathlib.Core.List.{List, [], ◌∷◌}
use mathlib.Core.Logic.{inl, inr, ⊎_elim}
use mathlib.Core.Option.{Option, none, some}
use Prim.Native.Nat.{ℕ, zero, suc, ◌≤◌, ◌<◌}
use native.Mathlib.Omega.{arith}
use lib.Dec.{ltb}
use lib.ListN.{get_or}
use borrow.Author.Tests.{lt-ltb, le-ltb, eq-eqb, ne_eqb, ltb-true, ltb-false}
use Rattle.model.specs.Lists.{tab, is_some}
use Rattle.laws.proofs.Members.{Each, each_append, each_tab}
use Rattle.laws.proofs.Tables.{tab_more}
use Rattle.laws.proofs.Tests.{by_cases, eq_or_ne}
use Rattle.commands.specs.declared.names.File.TheVariants as file
use Rattle.saving.specs.declared.plan.Step.{Step}
use Rattle.saving.specs.declared.plan.Step.TheVariants as step
use Rattle.saving.specs.Plan.{plan_steps, tidied, tidying, recover_stages}
use Rattle.saving.specs.Folder.{Folder, does, all_of, Cut, blocks_of, seen, Alike, LooksRight, there, recovery, no_bytes, Recoveries, no_recovery, again, Readable, recovered, RecoverKeeps}
use Rattle.saving.proofs.Plans.{in_table, past_table}
use Rattle.saving.proofs.Folders.{Steady, some_keeps, all_keeps, all_append, cut_first, cut_none, some_end}
use Rattle.saving.proofs.Looked.{sees_right, looks_committed}
use Rattle.saving.proofs.Seen.{new_new, new_newcommit, newcommit_new, newcommit_newcommit, commit_new, commit_commit, commit_newcommit}
use Rattle.saving.proofs.Seen.{Sees, sees_itself, sees_new, sees_newcommit, sees_place, place_gone, place_other, place_newcommit, Rest, sees_rest, rest_ends, Held, held_alike}
use Rattle.saving.proofs.Seen.{steady_step, steady_nothing}

none_there : (x : Option (List ℕ)) → is_some x ≡ false → x ≡ none
none_there none e = refl
none_there (some bytes) e = absurd (true≢false e)

-- A BLOCK'S STEP by cases: there is no new file; the commit has the block; it has it not
module _ (Q : Step → Type 0) (k : ℕ) (l : List Bool) (j : ℕ) where
  by_step : (get_or l j false ≡ false → Q step.Nothing) → (get_or l j false ≡ true → j < k → Q (step.Rename (file.NewBlock j) (file.Block j)))
      → (get_or l j false ≡ true → k ≤ j → Q (step.Remove (file.NewBlock j))) → Q (tidied k l j)
  unfolding tidied
  by_step p q r = by_cases (get_or l j false)
      (λ e. rw e (by_cases (ltb j k) (λ m. rw m (q e (ltb-true j k m))) (λ m. rw m (r e (ltb-false j k m)))))
      (λ e. rw e (p e))

module _ (d : Folder) where
  abbrev k : ℕ
  k = blocks_of (d file.Commit)

  abbrev SeesAll : Folder → Type 0
  SeesAll = Sees (d file.Commit) (seen d)

  -- THE FIRST STAGE
  tidied_steady : (j : ℕ) → j < 16 → Steady no_bytes SeesAll (tidied k (there d) j)
  unfolding does
  tidied_steady j h = by_step (Steady no_bytes SeesAll) k (there d) j
      (λ e. steady_nothing no_bytes SeesAll)
      (λ e l. steady_step no_bytes SeesAll (step.Rename (file.NewBlock j) (file.Block j)) refl (sees_place no_bytes j h l))
      (λ e l. steady_step no_bytes SeesAll (step.Remove (file.NewBlock j)) refl (sees_new j h l none))

  last_step : Step
  last_step = cond (get_or (there d) 16 false) (step.Remove file.NewCommit) step.Nothing

  last_steady : Steady no_bytes SeesAll last_step
  unfolding does last_step
  last_steady = by_cases (get_or (there d) 16 false)
      (λ e. rw e (steady_step no_bytes SeesAll (step.Remove file.NewCommit) refl (sees_newcommit none)))
      (λ e. rw e (steady_nothing no_bytes SeesAll))

  tidying_steady : Each (Steady no_bytes SeesAll) (tidying k (there d))
  unfolding tidying last_step
  tidying_steady = each_append (Steady no_bytes SeesAll) (tab (tidied k (there d)) 16) (last_step ∷ []) (each_tab (Steady no_bytes SeesAll) (tidied k (there d)) 16 tidied_steady) (last_steady, tt)

  -- what was found is what is there
  found_new : (b : ℕ) → b < 16 → get_or (there d) b false ≡ is_some (d (file.NewBlock b))
  found_new b h = sym (in_table (λ b. is_some (d (file.NewBlock b))) 16 b (is_some (d file.NewCommit) ∷ []) false h)

  found_newcommit : get_or (there d) 16 false ≡ is_some (d file.NewCommit)
  found_newcommit = sym (past_table (λ b. is_some (d (file.NewBlock b))) 16 16 (is_some (d file.NewCommit) ∷ []) false (omega arith))

  -- after n blocks: their new files are gone, those of the others are as they were
  record Tidied (n : ℕ) (e : Folder) : Type 0 where
    gone : (b : ℕ) → b < 16 → b < n → e (file.NewBlock b) ≡ none
    left : (b : ℕ) → b < 16 → n ≤ b → e (file.NewBlock b) ≡ d (file.NewBlock b)
    commit : e file.NewCommit ≡ d file.NewCommit

  -- a step on the new file of block n alone
  record Tidies (n : ℕ) (e g : Folder) : Type 0 where
    own : g (file.NewBlock n) ≡ none
    other : (b : ℕ) → b < 16 → (n ≡ b → ⊥) → g (file.NewBlock b) ≡ e (file.NewBlock b)
    commit : g file.NewCommit ≡ e file.NewCommit

  tidies : (n : ℕ) → n < 16 → (e : Folder) → e (file.NewBlock n) ≡ d (file.NewBlock n) → Tidies n e (does no_bytes (tidied k (there d) n) e)
  unfolding does
  tidies n h e q = by_step (λ s. Tidies n e (does no_bytes s e)) k (there d) n
      (λ f. record { own = q ∙ none_there (d (file.NewBlock n)) (sym (found_new n h) ∙ f); other = λ b l z. refl; commit = refl })
      (λ f l. record { own = place_gone no_bytes n h e; other = λ b m z. place_other no_bytes n b h m z e; commit = place_newcommit no_bytes n h e })
      (λ f l. record {
        own = new_new none e n n h h ∙ rw (eq-eqb n n refl);
        other = λ b m z. new_new none e n b h m ∙ rw (ne_eqb n b z);
        commit = new_newcommit none e n h;
      })

  tidied_more : (n : ℕ) → n < 16 → (e g : Folder) → Tidied n e → Tidies n e g → Tidied (suc n) g
  tidied_more n h e g w t = record {
    gone = λ b l m. ⊎_elim (λ z. ap (λ (i : ℕ). g (file.NewBlock i)) (sym z) ∙ t.own) (λ z. t.other b l z ∙ w.gone b l (omega (arith, z))) (eq_or_ne n b);
    left = λ b l m. t.other b l (λ z. omega (arith, z)) ∙ w.left b l (omega arith);
    commit = t.commit ∙ w.commit;
  }

  tidied_all : (n : ℕ) → n ≤ 16 → Tidied n (all_of no_bytes (tab (tidied k (there d)) n) d)
  tidied_all zero h = record { gone = λ b l m. absurd (omega arith); left = λ b l m. refl; commit = refl }
  tidied_all (suc n) h =
      let e : Folder = all_of no_bytes (tab (tidied k (there d)) n) d in
      let w = tidied_all n (omega arith) in
      let same = ap (λ (ss : List Step). all_of no_bytes ss d) (tab_more (tidied k (there d)) n) ∙ all_append no_bytes (tab (tidied k (there d)) n) (tidied k (there d) n ∷ []) d in
      subst (λ (g : Folder). Tidied (suc n) g) (sym same) (tidied_more n (omega arith) e (does no_bytes (tidied k (there d) n) e) w (tidies n (omega arith) e (w.left n (omega arith) (omega arith))))

  -- at the end of the stage
  abbrev blocks_tidied : Folder
  blocks_tidied = all_of no_bytes (tab (tidied k (there d)) 16) d

  abbrev all_tidied : Folder
  all_tidied = all_of no_bytes (tidying k (there d)) d

  all_tidied_is : all_tidied ≡ does no_bytes last_step blocks_tidied
  unfolding tidying last_step
  all_tidied_is = all_append no_bytes (tab (tidied k (there d)) 16) (last_step ∷ []) d

  -- the new commit goes, and nothing else
  last_new : (e : Folder) (b : ℕ) → b < 16 → does no_bytes last_step e (file.NewBlock b) ≡ e (file.NewBlock b)
  unfolding does last_step
  last_new e b h = by_cases (get_or (there d) 16 false) (λ q. rw q (newcommit_new none e b h)) (λ q. rw q)

  last_commit : (e : Folder) → e file.NewCommit ≡ d file.NewCommit → does no_bytes last_step e file.NewCommit ≡ none
  unfolding does last_step
  last_commit e z = by_cases (get_or (there d) 16 false) (λ q. rw q (newcommit_newcommit none e)) (λ q. rw q (z ∙ none_there (d file.NewCommit) (sym found_newcommit ∙ q)))

  no_new_there : (b : ℕ) → b < 16 → all_tidied (file.NewBlock b) ≡ none
  no_new_there b h = ap (λ (e : Folder). e (file.NewBlock b)) all_tidied_is ∙ last_new blocks_tidied b h ∙ (tidied_all 16 (omega arith)).gone b h h

  no_newcommit_there : all_tidied file.NewCommit ≡ none
  no_newcommit_there = ap (λ (e : Folder). e file.NewCommit) all_tidied_is ∙ last_commit blocks_tidied (tidied_all 16 (omega arith)).commit

  tidied_sees : SeesAll all_tidied
  tidied_sees = all_keeps no_bytes SeesAll (tidying k (there d)) d tidying_steady (sees_itself d)

  -- THE SECOND STAGE
  abbrev Rests : Folder → Type 0
  Rests = Rest (d file.Commit) (seen d)

  tidied_rests : Rests all_tidied
  tidied_rests = sees_rest tidied_sees (λ b h l. no_new_there b h)

  end_step : Step
  end_step = cond (ltb 0 k) (step.Remove file.Commit) step.Nothing

  end_steady : Each (Steady no_bytes Rests) (end_step ∷ [])
  unfolding end_step
  end_steady = (by_cases (ltb 0 k) (λ e. rw e (steady_step no_bytes Rests (step.Remove file.Commit) refl (rest_ends no_bytes))) (λ e. rw e (steady_nothing no_bytes Rests)), tt)

  stages_are : recovery d ≡ [] ∷ tidying k (there d) ∷ (end_step ∷ []) ∷ []
  unfolding recover_stages end_step
  stages_are = refl

  -- WHAT A CUT LEAVES
  from_tidying : (e : Folder) → Cut no_bytes (tidying k (there d) ∷ (end_step ∷ []) ∷ []) d e → Held (d file.Commit) (seen d) e
  from_tidying e t = ⊎_elim
      (λ s. inl (some_keeps no_bytes SeesAll s tidying_steady (sees_itself d)))
      (λ s. inr (⊎_elim
      (λ r. some_keeps no_bytes Rests r end_steady tidied_rests)
      (λ r. subst Rests (sym (cut_none r)) (all_keeps no_bytes Rests (end_step ∷ []) all_tidied end_steady tidied_rests))
      (cut_first s)))
      (cut_first t)

  cut_held : (e : Folder) → Cut no_bytes (recovery d) d e → Held (d file.Commit) (seen d) e
  cut_held e t = ⊎_elim
      (λ s. subst (Held (d file.Commit) (seen d)) (sym (some_end s)) (inl (sees_itself d)))
      (from_tidying e)
      (cut_first (subst (λ (stages : List (List Step)). Cut no_bytes stages d e) stages_are t))

  -- WHAT IS LEFT AT THE END
  recovered_is : recovered d ≡ does no_bytes end_step all_tidied
  unfolding does plan_steps
  recovered_is = ap (λ (stages : List (List Step)). all_of no_bytes (plan_steps stages) d) stages_are ∙ all_append no_bytes (tidying k (there d)) (step.Keep ∷ end_step ∷ step.Keep ∷ []) d

  end_new : (e : Folder) (b : ℕ) → b < 16 → does no_bytes end_step e (file.NewBlock b) ≡ e (file.NewBlock b)
  unfolding does end_step
  end_new e b h = by_cases (ltb 0 k) (λ q. rw q (commit_new none e b h)) (λ q. rw q)

  end_newcommit : (e : Folder) → does no_bytes end_step e file.NewCommit ≡ e file.NewCommit
  unfolding does end_step
  end_newcommit e = by_cases (ltb 0 k) (λ q. rw q (commit_newcommit none e)) (λ q. rw q)

  end_commit : Readable d → (e : Folder) → e file.Commit ≡ d file.Commit → does no_bytes end_step e file.Commit ≡ none
  unfolding does end_step
  end_commit r e z = ⊎_elim
      (λ q. rw (le-ltb 0 k (free q)) (z ∙ q))
      (λ q. rw (lt-ltb 0 k q) (commit_commit none e))
      r
    where
      free : d file.Commit ≡ none → k ≤ 0
      free q = rw q (omega arith)

  recovered_rests : Rests (recovered d)
  recovered_rests = subst Rests (sym recovered_is) (all_keeps no_bytes Rests (end_step ∷ []) all_tidied end_steady tidied_rests)

-- ANY NUMBER OF RECOVERIES
recoveries_alike : {d e : Folder} → Recoveries d e → Alike (seen e) (seen d)
recoveries_alike no_recovery b h = refl
recoveries_alike (again {d = d} {e = e} t m) b h = recoveries_alike m b h ∙ held_alike (cut_held d e t) b h

recoveries_right : {d e : Folder} → Recoveries d e → LooksRight d → LooksRight e
recoveries_right no_recovery r = r
recoveries_right (again {d = d} {e = e} t m) r = recoveries_right m (sees_right (looks_committed d r) (cut_held d e t))

pub recover_keeps : (d : Folder) → RecoverKeeps d
recover_keeps d = record {
  cut = λ e m. recoveries_alike m;
  looks = λ r e m. recoveries_right m r;
  named = (recovered_rests d).named;
  no_new = λ b h. ap (λ (e : Folder). e (file.NewBlock b)) (recovered_is d) ∙ end_new d (all_tidied d) b h ∙ no_new_there d b h;
  no_new_commit = ap (λ (e : Folder). e file.NewCommit) (recovered_is d) ∙ end_newcommit d (all_tidied d) ∙ no_newcommit_there d;
  no_commit = λ r. ap (λ (e : Folder). e file.Commit) (recovered_is d) ∙ end_commit d r (all_tidied d) (tidied_sees d).commit;
}
