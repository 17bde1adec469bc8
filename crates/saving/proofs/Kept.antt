-- Nothing is lost by a save: the old basin is seen until the commit has its name, and the new one from then on; wherever the save is cut,
-- one of the two. A reader beside it has read one of them. Assumes nothing.
use mathlib.Core.Path.{◌≡◌, refl, sym, ap, subst, ◌∙◌}
use mathlib.Core.List.{List, [], ◌∷◌, ◌++◌, append_assoc}
use mathlib.Core.Logic.{◌⊎◌, inl, inr, ⊎_elim}
use mathlib.Core.Option.{Option, none, some}
use Prim.Native.Nat.{ℕ, zero, suc, ◌+◌, ◌-◌, ◌^◌, ◌≤◌, ◌<◌}
use native.Mathlib.Omega.{arith}
use lib.ListN.{length, length-append}
use borrow.Author.Tests.{lt-ltb, le-ltb, eq-eqb, ne_eqb}
use Rattle.model.specs.Lists.{tab}
use Rattle.laws.proofs.Members.{Each, each_append, each_tab}
use Rattle.laws.proofs.Tables.{length_tab, tab_more}
use Rattle.laws.proofs.Tests.{lt_or_ge, eq_or_ne}
use Rattle.commands.specs.declared.names.File.TheVariants as file
use Rattle.saving.specs.declared.plan.Step.{Step}
use Rattle.saving.specs.declared.plan.Step.TheVariants as step
use Rattle.saving.specs.Plan.{plan_steps, write_steps, committing, placing, ending, save_stages}
use Rattle.saving.specs.Commit.{entry_of, commit_of, committed}
use Rattle.saving.specs.Folder.{Folder, put_file, moved, does, all_of, folder_at, SomeDone, Cut, seen, Alike, saves, renewed, saving, saved, SaveKeeps, Reading, read, ReadsOne}
use Rattle.saving.proofs.Commits.{committed_back, entry_back}
use Rattle.saving.proofs.Folders.{Steady, some_keeps, all_keeps, all_append, at_first, at_later, at_untouched, cut_at, cut_first, cut_none, some_end, some_rename}
use Rattle.saving.proofs.Looked.{Right, sees_right, free_right, saved_right}
use Rattle.saving.proofs.Seen.{new_new, newcommit_new, newcommit_block, newcommit_commit, newcommit_newcommit, commit_new, commit_block, commit_commit, commit_newcommit}
use Rattle.saving.proofs.Seen.{Sees, sees_alike, sees_itself, sees_new, sees_newcommit, sees_place, place_gone, place_other, place_newcommit, Rest, sees_rest, rest_ends, Held, held_alike}
use Rattle.saving.proofs.Seen.{steady_step, steady_write}

module _ (k : ℕ) (c : ℕ → List ℕ) (few : 1 ≤ k) (many : k ≤ 16) (d : Folder) (free : d file.Commit ≡ none) where
  -- what is written under the commit's new name
  abbrev bytes : List ℕ
  bytes = commit_of (tab (λ b. entry_of (c b)) k)

  of_k : committed bytes ≡ k
  of_k = let n = length_tab (λ b. entry_of (c b)) k in committed_back (tab (λ b. entry_of (c b)) k) (omega arith) (omega arith) ∙ n

  abbrev Old : Folder → Type 0
  Old = Sees none (seen d)

  abbrev Placing : Folder → Type 0
  Placing = Sees (some bytes) (renewed k c d)

  abbrev Placed : Folder → Type 0
  Placed = Rest (some bytes) (renewed k c d)

  abbrev New : Folder → Type 0
  New = Held (some bytes) (renewed k c d)

  -- THE FIRST STAGE: nothing that is written is seen
  writing_steady : Each (Steady (saves k c) Old) (write_steps k)
  unfolding write_steps
  writing_steady = each_append (Steady (saves k c) Old) (tab (λ b. step.Write (file.NewBlock b)) k) (step.Write file.NewCommit ∷ [])
      (each_tab (Steady (saves k c) Old) (λ b. step.Write (file.NewBlock b)) k (λ b h. steady_write (saves k c) Old (file.NewBlock b) (sees_new b (omega arith) (omega arith))))
      (steady_write (saves k c) Old file.NewCommit sees_newcommit, tt)

  start : Old d
  start = rw free at (sees_itself d)

  abbrev written : Folder
  written = all_of (saves k c) (write_steps k) d

  written_sees : Old written
  written_sees = all_keeps (saves k c) Old (write_steps k) d writing_steady start

  -- and all of it is there at the end
  wrote : (n b : ℕ) → n < 16 → b < 16 → (e : Folder) → (b < n → e (file.NewBlock b) ≡ some (c b)) → b < suc n → does (saves k c) (step.Write (file.NewBlock n)) e (file.NewBlock b) ≡ some (c b)
  unfolding does
  wrote n b l h e r m = new_new (some (c n)) e n b l h ∙ ⊎_elim
      (λ q. rw (eq-eqb n b q) (ap (λ (i : ℕ). some (c i)) q))
      (λ q. rw (ne_eqb n b q) (r (omega (arith, q))))
      (eq_or_ne n b)

  new_files : (n : ℕ) → n ≤ 16 → (b : ℕ) → b < n → all_of (saves k c) (tab (λ b. step.Write (file.NewBlock b)) n) d (file.NewBlock b) ≡ some (c b)
  new_files zero l b h = absurd (omega arith)
  new_files (suc n) l b h =
      let writes : List Step = tab (λ b. step.Write (file.NewBlock b)) n in
      ap (λ (ss : List Step). all_of (saves k c) ss d (file.NewBlock b)) (tab_more (λ b. step.Write (file.NewBlock b)) n)
      ∙ ap (λ (e : Folder). e (file.NewBlock b)) (all_append (saves k c) writes (step.Write (file.NewBlock n) ∷ []) d)
      ∙ wrote n b (omega arith) (omega arith) (all_of (saves k c) writes d) (new_files n (omega arith) b) h

  -- the last step of the stage
  before_last : Folder
  before_last = all_of (saves k c) (tab (λ b. step.Write (file.NewBlock b)) k) d

  written_is : written ≡ put_file file.NewCommit (some bytes) before_last
  unfolding write_steps does before_last
  written_is = all_append (saves k c) (tab (λ b. step.Write (file.NewBlock b)) k) (step.Write file.NewCommit ∷ []) d

  written_new : (b : ℕ) → b < 16 → b < k → written (file.NewBlock b) ≡ some (c b)
  unfolding before_last
  written_new b h l = ap (λ (e : Folder). e (file.NewBlock b)) written_is ∙ newcommit_new (some bytes) before_last b h ∙ new_files k many b l

  written_commit : written file.NewCommit ≡ some bytes
  written_commit = ap (λ (e : Folder). e file.NewCommit) written_is ∙ newcommit_newcommit (some bytes) before_last

  -- THE COMMIT GETS ITS NAME: the new basin is seen
  abbrev named : Folder
  named = does (saves k c) (step.Rename file.NewCommit file.Commit) written

  named_is : named ≡ put_file file.NewCommit none (put_file file.Commit (some bytes) written)
  unfolding does
  named_is = ap (λ (y : Option (List ℕ)). moved y file.NewCommit file.Commit written) written_commit

  seen_old : (b : ℕ) → b < 16 → seen d b ≡ d (file.Block b)
  unfolding seen
  seen_old b h = rw (free, le-ltb b 0 (omega arith))

  named_sees : Placing named
  named_sees = record {
    commit = ap (λ (e : Folder). e file.Commit) named_is ∙ newcommit_commit none (put_file file.Commit (some bytes) written) ∙ commit_commit (some bytes) written;
    below = λ b h l. let m : b < k = rw of_k at l in rw (lt-ltb b k m, new b h, written_new b h m);
    above = λ b h l. let m : k ≤ b = rw of_k at l in rw (le-ltb b k m) (own b h ∙ written_sees.above b h (omega arith) ∙ seen_old b h);
  }
    where
      new : (b : ℕ) → b < 16 → named (file.NewBlock b) ≡ written (file.NewBlock b)
      new b h = ap (λ (e : Folder). e (file.NewBlock b)) named_is ∙ newcommit_new none (put_file file.Commit (some bytes) written) b h ∙ commit_new (some bytes) written b h

      own : (b : ℕ) → b < 16 → named (file.Block b) ≡ written (file.Block b)
      own b h = ap (λ (e : Folder). e (file.Block b)) named_is ∙ newcommit_block none (put_file file.Commit (some bytes) written) b h ∙ commit_block (some bytes) written b h

  -- EACH NEW FILE GETS ITS NAME
  placing_steady : Each (Steady (saves k c) Placing) (placing k)
  unfolding placing
  placing_steady = each_tab (Steady (saves k c) Placing) (λ b. step.Rename (file.NewBlock b) (file.Block b)) k
      (λ b h. steady_step (saves k c) Placing (step.Rename (file.NewBlock b) (file.Block b)) refl (sees_place (saves k c) b (omega arith) (omega (arith, of_k))))

  placed : (n b : ℕ) → n < 16 → b < 16 → (e : Folder) → (b < n → e (file.NewBlock b) ≡ none) → b < suc n → does (saves k c) (step.Rename (file.NewBlock n) (file.Block n)) e (file.NewBlock b) ≡ none
  placed n b l h e r m = ⊎_elim
      (λ q. subst (λ (i : ℕ). does (saves k c) (step.Rename (file.NewBlock n) (file.Block n)) e (file.NewBlock i) ≡ none) q (place_gone (saves k c) n l e))
      (λ q. place_other (saves k c) n b l h q e ∙ r (omega (arith, q)))
      (eq_or_ne n b)

  no_new_files : (n : ℕ) → n ≤ 16 → (e : Folder) (b : ℕ) → b < n → all_of (saves k c) (tab (λ b. step.Rename (file.NewBlock b) (file.Block b)) n) e (file.NewBlock b) ≡ none
  no_new_files zero l e b h = absurd (omega arith)
  no_new_files (suc n) l e b h =
      let renames : List Step = tab (λ b. step.Rename (file.NewBlock b) (file.Block b)) n in
      ap (λ (ss : List Step). all_of (saves k c) ss e (file.NewBlock b)) (tab_more (λ b. step.Rename (file.NewBlock b) (file.Block b)) n)
      ∙ ap (λ (g : Folder). g (file.NewBlock b)) (all_append (saves k c) renames (step.Rename (file.NewBlock n) (file.Block n) ∷ []) e)
      ∙ placed n b (omega arith) (omega arith) (all_of (saves k c) renames e) (no_new_files n (omega arith) e b) h

  -- THE COMMIT GOES
  all_placed : Placed (all_of (saves k c) (placing k) named)
  unfolding placing
  all_placed = sees_rest (all_keeps (saves k c) Placing (placing k) named placing_steady named_sees) (λ b h l. no_new_files k many named b (omega (arith, of_k)))

  ending_steady : Each (Steady (saves k c) Placed) ending
  unfolding ending
  ending_steady = (steady_step (saves k c) Placed (step.Remove file.Commit) refl (rest_ends (saves k c)), tt)

  all_ended : Placed (all_of (saves k c) ending (all_of (saves k c) (placing k) named))
  all_ended = all_keeps (saves k c) Placed ending (all_of (saves k c) (placing k) named) ending_steady all_placed

  -- WHAT A CUT LEAVES
  early : (e : Folder) → SomeDone (saves k c) (write_steps k) d e → Old e
  early e t = some_keeps (saves k c) Old t writing_steady start

  late : (e : Folder) → Cut (saves k c) (placing k ∷ ending ∷ []) named e → New e
  late e t = ⊎_elim
      (λ s. inl (some_keeps (saves k c) Placing s placing_steady named_sees))
      (λ s. inr (⊎_elim
      (λ r. some_keeps (saves k c) Placed r ending_steady all_placed)
      (λ r. subst Placed (sym (cut_none r)) all_ended)
      (cut_first s)))
      (cut_first t)

  middle : (e : Folder) → SomeDone (saves k c) committing written e → Old e ⊎ New e
  unfolding committing
  middle e t = ⊎_elim (λ q. inl (subst Old (sym q) written_sees)) (λ q. inr (subst New (sym q) (inl named_sees))) (some_rename t)

  committed_is : all_of (saves k c) committing written ≡ named
  unfolding committing
  committed_is = refl

  -- from the first new file on
  from_writing : (e : Folder) → Cut (saves k c) (write_steps k ∷ committing ∷ placing k ∷ ending ∷ []) d e → Old e ⊎ New e
  from_writing e t = ⊎_elim
      (λ s. inl (early e s))
      (λ s. ⊎_elim (middle e) (λ r. inr (late e (subst (λ (g : Folder). Cut (saves k c) (placing k ∷ ending ∷ []) g e) committed_is r))) (cut_first s))
      (cut_first t)

  wherever : (e : Folder) → Cut (saves k c) (save_stages k) d e → Old e ⊎ New e
  unfolding save_stages
  wherever e t = ⊎_elim (λ s. inl (subst Old (sym (some_end s)) start)) (from_writing e) (cut_first t)

  -- STEP BY STEP
  -- the first k + 3 steps and the others
  abbrev later_steps : List Step
  later_steps = step.Rename file.NewCommit file.Commit ∷ step.Keep ∷ plan_steps (placing k ∷ ending ∷ [])

  abbrev first_steps : List Step
  first_steps = step.Keep ∷ (write_steps k ++ step.Keep ∷ [])

  all_steps : plan_steps (save_stages k) ≡ first_steps ++ later_steps
  unfolding save_stages plan_steps committing
  all_steps = sym (append_assoc (step.Keep ∷ write_steps k) (step.Keep ∷ []) later_steps)

  first_length : length first_steps ≡ k + 3
  unfolding write_steps
  first_length =
      let writes : List Step = tab (λ b. step.Write (file.NewBlock b)) k in
      let n : length writes ≡ k = length_tab (λ b. step.Write (file.NewBlock b)) k in
      omega (arith, length-append (writes ++ step.Write file.NewCommit ∷ []) (step.Keep ∷ []), length-append writes (step.Write file.NewCommit ∷ []))

  after_first : all_of (saves k c) first_steps d ≡ written
  unfolding does
  after_first = all_append (saves k c) (write_steps k) (step.Keep ∷ []) d

  two_stages : plan_steps ([] ∷ write_steps k ∷ []) ≡ first_steps
  unfolding plan_steps
  two_stages = refl

  until : (n : ℕ) → n ≤ k + 3 → Old (saving k c d n)
  until n h = subst Old (sym same) (stopped (folder_at (saves k c) (plan_steps ([] ∷ write_steps k ∷ [])) d n) (cut_at (saves k c) ([] ∷ write_steps k ∷ []) d n))
    where
      same : saving k c d n ≡ folder_at (saves k c) (plan_steps ([] ∷ write_steps k ∷ [])) d n
      same =
          ap (λ (ss : List Step). folder_at (saves k c) ss d n) all_steps
          ∙ at_first (saves k c) first_steps later_steps d n (omega (arith, first_length))
          ∙ ap (λ (ss : List Step). folder_at (saves k c) ss d n) (sym two_stages)

      stopped : (e : Folder) → Cut (saves k c) ([] ∷ write_steps k ∷ []) d e → Old e
      stopped e t = ⊎_elim
          (λ s. subst Old (sym (some_end s)) start)
          (λ s. ⊎_elim (early e) (λ r. subst Old (sym (cut_none r)) written_sees) (cut_first s))
          (cut_first t)

  -- after k + 4 + m steps
  at_named : (n : ℕ) → k + 4 ≤ n → saving k c d n ≡ folder_at (saves k c) (step.Keep ∷ plan_steps (placing k ∷ ending ∷ [])) named (n - (k + 4))
  at_named n h =
      ap (λ (ss : List Step). folder_at (saves k c) ss d n) all_steps
      ∙ at_later (saves k c) first_steps later_steps d n (suc (n - (k + 4))) (omega (arith, first_length))
      ∙ ap (λ (g : Folder). folder_at (saves k c) later_steps g (suc (n - (k + 4)))) after_first

  from_named : (m : ℕ) → New (folder_at (saves k c) (step.Keep ∷ plan_steps (placing k ∷ ending ∷ [])) named m)
  unfolding does
  from_named zero = inl named_sees
  from_named (suc m) = late (folder_at (saves k c) (plan_steps (placing k ∷ ending ∷ [])) named m) (cut_at (saves k c) (placing k ∷ ending ∷ []) named m)

  since : (n : ℕ) → k + 4 ≤ n → New (saving k c d n)
  since n h = subst New (sym (at_named n h)) (from_named (n - (k + 4)))

  -- after the Keep that follows
  kept_is : saving k c d (k + 5) ≡ named
  unfolding does plan_steps
  kept_is =
      let one : k + 5 - (k + 4) ≡ 1 = omega arith in
      at_named (k + 5) (omega arith) ∙ ap (folder_at (saves k c) (step.Keep ∷ plan_steps (placing k ∷ ending ∷ [])) named) one

  -- A SAVE THAT ENDS
  abbrev placed_all : Folder
  placed_all = all_of (saves k c) (placing k) named

  saved_is : saved k c d ≡ put_file file.Commit none placed_all
  unfolding does plan_steps ending
  saved_is =
      ap (λ (ss : List Step). all_of (saves k c) ss d) all_steps
      ∙ all_append (saves k c) first_steps later_steps d
      ∙ ap (λ (g : Folder). all_of (saves k c) later_steps g) after_first
      ∙ all_append (saves k c) (placing k) (step.Keep ∷ step.Remove file.Commit ∷ step.Keep ∷ []) named

  saved_placed : Placed (saved k c d)
  unfolding does ending
  saved_placed = subst Placed (sym saved_is) all_ended

  newcommit_gone : Each (Steady (saves k c) (λ e. e file.NewCommit ≡ none)) (placing k)
  unfolding placing
  newcommit_gone = each_tab (Steady (saves k c) (λ e. e file.NewCommit ≡ none)) (λ b. step.Rename (file.NewBlock b) (file.Block b)) k
      (λ b h. steady_step (saves k c) (λ e. e file.NewCommit ≡ none) (step.Rename (file.NewBlock b) (file.Block b)) refl (λ e q. place_newcommit (saves k c) b (omega arith) e ∙ q))

  named_newcommit : named file.NewCommit ≡ none
  named_newcommit = ap (λ (e : Folder). e file.NewCommit) named_is ∙ newcommit_newcommit none (put_file file.Commit (some bytes) written)

  -- what is left looks right
  new_right : ((b : ℕ) → b < k → length (c b) < 2 ^ 64) → Right (some bytes) (renewed k c d)
  new_right f = saved_right (some bytes) (renewed k c d) c
      (λ b h l. let m : b < k = rw of_k at l in rw (lt-ltb b k m))
      (λ b h l. let m : b < k = rw of_k at l in entry_back c k b m (f b m))

  pub save_keeps : SaveKeeps k c d
  save_keeps = record {
    old = λ n h. sees_alike (until n h);
    new = λ n h. held_alike (since n h);
    cut = λ e t. ⊎_elim (λ w. inl (sees_alike w)) (λ w. inr (held_alike w)) (wherever e t);
    kept = λ e t. held_alike (late e (subst (λ (g : Folder). Cut (saves k c) (placing k ∷ ending ∷ []) g e) kept_is t));
    looks = λ f e t. ⊎_elim (λ w. sees_right (free_right (seen d)) (inl w)) (λ w. sees_right (new_right f) w) (wherever e t);
    named = saved_placed.named;
    no_new = λ b h l. saved_placed.gone b h (omega (arith, of_k));
    no_new_commit =
        ap (λ (e : Folder). e file.NewCommit) saved_is ∙ commit_newcommit none placed_all
        ∙ all_keeps (saves k c) (λ e. e file.NewCommit ≡ none) (placing k) named newcommit_gone named_newcommit;
    no_commit = ap (λ (e : Folder). e file.Commit) saved_is ∙ commit_commit none placed_all;
  }

  -- A READER BESIDE IT
  module _ (r : Reading k c d) where
    -- what was opened stands under its name at the instant
    still : (b : ℕ) → b < 16 → saving k c d r.instant (file.Block b) ≡ read r b
    still b h =
        let l = r.before b h in
        let m = r.after b h in
        let z : r.opened b + (r.instant - r.opened b) ≡ r.instant = omega arith in
        ap (λ (t : ℕ). saving k c d t (file.Block b)) (sym z)
        ∙ at_untouched (saves k c) (plan_steps (save_stages k)) d (file.Block b) (r.opened b) (r.instant - r.opened b) (λ t p q. r.same_file b t h p (omega arith))

    read_is : (t : ℕ → Option (List ℕ)) → Alike (seen (saving k c d r.instant)) t → Alike (read r) t
    unfolding seen
    read_is t w b h = sym (still b h) ∙ rw (r.no_commit, le-ltb b 0 (omega arith)) at (w b h)

    pub reads_one : ReadsOne k c d r
    reads_one = ⊎_elim
        (λ l. inl (read_is (seen d) (sees_alike (until r.instant (omega arith)))))
        (λ l. inr (read_is (renewed k c d) (held_alike (since r.instant l))))
        (lt_or_ge r.instant (k + 4))
