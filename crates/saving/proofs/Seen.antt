-- What is seen of a folder, and the steps that keep it. Assumes nothing.
--   Sees x t    with the commit x, block b is seen as t b
--   Rest x t    block b has t b under its own name, and no new file of the commit x is there
use mathlib.Core.Path.{◌≡◌, refl, sym, ap, subst, ◌∙◌}
use mathlib.Core.Bool.{Bool, true, false, true≢false, cond}
use mathlib.Core.List.{List}
use mathlib.Core.Logic.{◌⊎◌, inl, inr, ⊎_elim}
use mathlib.Core.Option.{Option, none, some}
use Prim.Native.Nat.{ℕ, ◌≤◌, ◌<◌}
use native.Mathlib.Omega.{arith}
use lib.Dec.{eqb, ltb}
use borrow.Author.Tests.{lt-ltb, le-ltb, eq-eqb, ne_eqb}
use Rattle.laws.proofs.Tests.{lt_or_ge, eq_or_ne}
use Rattle.commands.specs.declared.names.File.{File}
use Rattle.commands.specs.declared.names.File.TheVariants as file
use Rattle.saving.specs.declared.plan.Step.{Step}
use Rattle.saving.specs.declared.plan.Step.TheVariants as step
use Rattle.saving.specs.Folder.{Folder, put_file, moved, does, blocks_of, first_of, seen, Alike}
use Rattle.saving.proofs.Folders.{put_at, Steady}

-- ONE NAME CHANGED, seen under another of a basin's names
small : (b : ℕ) → b < 16 → ltb b 16 ≡ true
small b h = lt-ltb b 16 h

module _ (x : Option (List ℕ)) (d : Folder) where
  pub new_new : (j b : ℕ) → j < 16 → b < 16 → put_file (file.NewBlock j) x d (file.NewBlock b) ≡ cond (eqb j b) x (d (file.NewBlock b))
  new_new j b l h = put_at (file.NewBlock j) (file.NewBlock b) x d (small j l) (small b h)

  pub new_block : (j b : ℕ) → j < 16 → b < 16 → put_file (file.NewBlock j) x d (file.Block b) ≡ d (file.Block b)
  new_block j b l h = put_at (file.NewBlock j) (file.Block b) x d (small j l) (small b h)

  pub new_commit : (j : ℕ) → j < 16 → put_file (file.NewBlock j) x d file.Commit ≡ d file.Commit
  new_commit j l = put_at (file.NewBlock j) file.Commit x d (small j l) refl

  pub new_newcommit : (j : ℕ) → j < 16 → put_file (file.NewBlock j) x d file.NewCommit ≡ d file.NewCommit
  new_newcommit j l = put_at (file.NewBlock j) file.NewCommit x d (small j l) refl

  pub block_new : (j b : ℕ) → j < 16 → b < 16 → put_file (file.Block j) x d (file.NewBlock b) ≡ d (file.NewBlock b)
  block_new j b l h = put_at (file.Block j) (file.NewBlock b) x d (small j l) (small b h)

  pub block_block : (j b : ℕ) → j < 16 → b < 16 → put_file (file.Block j) x d (file.Block b) ≡ cond (eqb j b) x (d (file.Block b))
  block_block j b l h = put_at (file.Block j) (file.Block b) x d (small j l) (small b h)

  pub block_commit : (j : ℕ) → j < 16 → put_file (file.Block j) x d file.Commit ≡ d file.Commit
  block_commit j l = put_at (file.Block j) file.Commit x d (small j l) refl

  pub block_newcommit : (j : ℕ) → j < 16 → put_file (file.Block j) x d file.NewCommit ≡ d file.NewCommit
  block_newcommit j l = put_at (file.Block j) file.NewCommit x d (small j l) refl

  pub commit_new : (b : ℕ) → b < 16 → put_file file.Commit x d (file.NewBlock b) ≡ d (file.NewBlock b)
  commit_new b h = put_at file.Commit (file.NewBlock b) x d refl (small b h)

  pub commit_block : (b : ℕ) → b < 16 → put_file file.Commit x d (file.Block b) ≡ d (file.Block b)
  commit_block b h = put_at file.Commit (file.Block b) x d refl (small b h)

  pub commit_commit : put_file file.Commit x d file.Commit ≡ x
  commit_commit = put_at file.Commit file.Commit x d refl refl

  pub commit_newcommit : put_file file.Commit x d file.NewCommit ≡ d file.NewCommit
  commit_newcommit = put_at file.Commit file.NewCommit x d refl refl

  pub newcommit_new : (b : ℕ) → b < 16 → put_file file.NewCommit x d (file.NewBlock b) ≡ d (file.NewBlock b)
  newcommit_new b h = put_at file.NewCommit (file.NewBlock b) x d refl (small b h)

  pub newcommit_block : (b : ℕ) → b < 16 → put_file file.NewCommit x d (file.Block b) ≡ d (file.Block b)
  newcommit_block b h = put_at file.NewCommit (file.Block b) x d refl (small b h)

  pub newcommit_commit : put_file file.NewCommit x d file.Commit ≡ d file.Commit
  newcommit_commit = put_at file.NewCommit file.Commit x d refl refl

  pub newcommit_newcommit : put_file file.NewCommit x d file.NewCommit ≡ x
  newcommit_newcommit = put_at file.NewCommit file.NewCommit x d refl refl

-- WHAT IS SEEN
pub record Sees (x : Option (List ℕ)) (t : ℕ → Option (List ℕ)) (e : Folder) : Type 0 where
  pub commit : e file.Commit ≡ x
  pub below : (b : ℕ) → b < 16 → b < blocks_of x → first_of (e (file.NewBlock b)) (e (file.Block b)) ≡ t b
  pub above : (b : ℕ) → b < 16 → blocks_of x ≤ b → e (file.Block b) ≡ t b

pub sees_alike : {x : Option (List ℕ)} {t : ℕ → Option (List ℕ)} {e : Folder} → Sees x t e → Alike (seen e) t
unfolding seen
sees_alike {x} {t} {e} w b h = ⊎_elim
    (λ l. rw (w.commit, lt-ltb b (blocks_of x) l) (w.below b h l))
    (λ l. rw (w.commit, le-ltb b (blocks_of x) l) (w.above b h l))
    (lt_or_ge b (blocks_of x))

-- of any folder
pub sees_itself : (d : Folder) → Sees (d file.Commit) (seen d) d
unfolding seen
sees_itself d = record {
  commit = refl;
  below = λ b h l. rw (lt-ltb b (blocks_of (d file.Commit)) l);
  above = λ b h l. rw (le-ltb b (blocks_of (d file.Commit)) l);
}

module _ {x : Option (List ℕ)} {t : ℕ → Option (List ℕ)} where
  -- a new file that the commit does not have
  pub sees_new : (j : ℕ) → j < 16 → blocks_of x ≤ j → (y : Option (List ℕ)) (e : Folder) → Sees x t e → Sees x t (put_file (file.NewBlock j) y e)
  sees_new j l k y e w = record {
    commit = new_commit y e j l ∙ w.commit;
    below = λ b h m. rw (new_new y e j b l h, new_block y e j b l h, ne_eqb j b (λ q. absurd (omega (arith, q)))) (w.below b h m);
    above = λ b h m. new_block y e j b l h ∙ w.above b h m;
  }

  pub sees_newcommit : (y : Option (List ℕ)) (e : Folder) → Sees x t e → Sees x t (put_file file.NewCommit y e)
  sees_newcommit y e w = record {
    commit = newcommit_commit y e ∙ w.commit;
    below = λ b h m. rw (newcommit_new y e b h, newcommit_block y e b h) (w.below b h m);
    above = λ b h m. newcommit_block y e b h ∙ w.above b h m;
  }

-- A NEW FILE GETS ITS BLOCK'S NAME
module _ (j : ℕ) (l : j < 16) (bytes : List ℕ) (e : Folder) where
  abbrev renamed : Folder
  renamed = put_file (file.NewBlock j) none (put_file (file.Block j) (some bytes) e)

  renamed_new : (b : ℕ) → b < 16 → renamed (file.NewBlock b) ≡ cond (eqb j b) none (e (file.NewBlock b))
  renamed_new b h = new_new none (put_file (file.Block j) (some bytes) e) j b l h ∙ ap (λ (y : Option (List ℕ)). cond (eqb j b) none y) (block_new (some bytes) e j b l h)

  renamed_block : (b : ℕ) → b < 16 → renamed (file.Block b) ≡ cond (eqb j b) (some bytes) (e (file.Block b))
  renamed_block b h = new_block none (put_file (file.Block j) (some bytes) e) j b l h ∙ block_block (some bytes) e j b l h

  renamed_commit : renamed file.Commit ≡ e file.Commit
  renamed_commit = new_commit none (put_file (file.Block j) (some bytes) e) j l ∙ block_commit (some bytes) e j l

  renamed_newcommit : renamed file.NewCommit ≡ e file.NewCommit
  renamed_newcommit = new_newcommit none (put_file (file.Block j) (some bytes) e) j l ∙ block_newcommit (some bytes) e j l

module _ {x : Option (List ℕ)} {t : ℕ → Option (List ℕ)} where
  sees_moved : (j : ℕ) → j < 16 → j < blocks_of x → (y : Option (List ℕ)) (e : Folder) → e (file.NewBlock j) ≡ y → Sees x t e → Sees x t (moved y (file.NewBlock j) (file.Block j) e)
  sees_moved j l k none e q w = w
  sees_moved j l k (some bytes) e q w = record {
    commit = renamed_commit j l bytes e ∙ w.commit;
    below = λ b h m. rw (renamed_new j l bytes e b h, renamed_block j l bytes e b h) (⊎_elim (own b h m) (other b h m) (eq_or_ne j b));
    above = λ b h m. renamed_block j l bytes e b h ∙ rw (ne_eqb j b (λ z. absurd (omega (arith, z)))) (w.above b h m);
  }
    where
      own : (b : ℕ) → b < 16 → b < blocks_of x → j ≡ b → first_of (cond (eqb j b) none (e (file.NewBlock b))) (cond (eqb j b) (some bytes) (e (file.Block b))) ≡ t b
      own b h m z = rw (eq-eqb j b z) (sym (ap (λ (y : Option (List ℕ)). first_of y (e (file.Block b))) (ap (λ (i : ℕ). e (file.NewBlock i)) (sym z) ∙ q)) ∙ w.below b h m)

      other : (b : ℕ) → b < 16 → b < blocks_of x → (j ≡ b → ⊥) → first_of (cond (eqb j b) none (e (file.NewBlock b))) (cond (eqb j b) (some bytes) (e (file.Block b))) ≡ t b
      other b h m z = rw (ne_eqb j b z) (w.below b h m)

  pub sees_place : (c : File → List ℕ) (j : ℕ) → j < 16 → j < blocks_of x → (e : Folder) → Sees x t e → Sees x t (does c (step.Rename (file.NewBlock j) (file.Block j)) e)
  unfolding does
  sees_place c j l k e w = sees_moved j l k (e (file.NewBlock j)) e refl w

-- afterwards it is gone, and no other name but these two has changed
place_gone_moved : (j : ℕ) → j < 16 → (y : Option (List ℕ)) (e : Folder) → e (file.NewBlock j) ≡ y → moved y (file.NewBlock j) (file.Block j) e (file.NewBlock j) ≡ none
place_gone_moved j l none e q = q
place_gone_moved j l (some bytes) e q = renamed_new j l bytes e j l ∙ rw (eq-eqb j j refl)

pub place_gone : (c : File → List ℕ) (j : ℕ) → j < 16 → (e : Folder) → does c (step.Rename (file.NewBlock j) (file.Block j)) e (file.NewBlock j) ≡ none
unfolding does
place_gone c j l e = place_gone_moved j l (e (file.NewBlock j)) e refl

place_other_moved : (j b : ℕ) → j < 16 → b < 16 → (j ≡ b → ⊥) → (y : Option (List ℕ)) (e : Folder) → moved y (file.NewBlock j) (file.Block j) e (file.NewBlock b) ≡ e (file.NewBlock b)
place_other_moved j b l h z none e = refl
place_other_moved j b l h z (some bytes) e = renamed_new j l bytes e b h ∙ rw (ne_eqb j b z)

pub place_other : (c : File → List ℕ) (j b : ℕ) → j < 16 → b < 16 → (j ≡ b → ⊥) → (e : Folder) → does c (step.Rename (file.NewBlock j) (file.Block j)) e (file.NewBlock b) ≡ e (file.NewBlock b)
unfolding does
place_other c j b l h z e = place_other_moved j b l h z (e (file.NewBlock j)) e

place_newcommit_moved : (j : ℕ) → j < 16 → (y : Option (List ℕ)) (e : Folder) → moved y (file.NewBlock j) (file.Block j) e file.NewCommit ≡ e file.NewCommit
place_newcommit_moved j l none e = refl
place_newcommit_moved j l (some bytes) e = renamed_newcommit j l bytes e

pub place_newcommit : (c : File → List ℕ) (j : ℕ) → j < 16 → (e : Folder) → does c (step.Rename (file.NewBlock j) (file.Block j)) e file.NewCommit ≡ e file.NewCommit
unfolding does
place_newcommit c j l e = place_newcommit_moved j l (e (file.NewBlock j)) e

-- ALL IN PLACE, with the commit or without it
pub record Rest (x : Option (List ℕ)) (t : ℕ → Option (List ℕ)) (e : Folder) : Type 0 where
  pub named : (b : ℕ) → b < 16 → e (file.Block b) ≡ t b
  pub gone : (b : ℕ) → b < 16 → b < blocks_of x → e (file.NewBlock b) ≡ none
  pub commit : (e file.Commit ≡ none) ⊎ (e file.Commit ≡ x)

module _ {x : Option (List ℕ)} {t : ℕ → Option (List ℕ)} {e : Folder} where
  rest_few : Rest x t e → blocks_of (e file.Commit) ≤ blocks_of x
  rest_few w = ⊎_elim (λ q. rw q (omega arith)) (λ q. rw q (omega arith)) w.commit

  pub rest_alike : Rest x t e → Alike (seen e) t
  unfolding seen
  rest_alike w b h = ⊎_elim
      (λ l. rw (lt-ltb b (blocks_of (e file.Commit)) l, w.gone b h (omega (arith, rest_few w))) (w.named b h))
      (λ l. rw (le-ltb b (blocks_of (e file.Commit)) l) (w.named b h))
      (lt_or_ge b (blocks_of (e file.Commit)))

  pub sees_rest : Sees x t e → ((b : ℕ) → b < 16 → b < blocks_of x → e (file.NewBlock b) ≡ none) → Rest x t e
  sees_rest w g = record {
    named = λ b h. ⊎_elim (λ l. sym (ap (λ (y : Option (List ℕ)). first_of y (e (file.Block b))) (g b h l)) ∙ w.below b h l) (λ l. w.above b h l) (lt_or_ge b (blocks_of x));
    gone = g;
    commit = inr w.commit;
  }

pub rest_ends : {x : Option (List ℕ)} {t : ℕ → Option (List ℕ)} (c : File → List ℕ) (e : Folder) → Rest x t e → Rest x t (does c (step.Remove file.Commit) e)
unfolding does
rest_ends c e w = record {
  named = λ b h. commit_block none e b h ∙ w.named b h;
  gone = λ b h l. commit_new none e b h ∙ w.gone b h l;
  commit = inl (commit_commit none e);
}

-- before all are in place, or then
abbrev pub Held : Option (List ℕ) → (ℕ → Option (List ℕ)) → Folder → Type 0
Held x t e = Sees x t e ⊎ Rest x t e

pub held_alike : {x : Option (List ℕ)} {t : ℕ → Option (List ℕ)} {e : Folder} → Held x t e → Alike (seen e) t
held_alike (inl w) = sees_alike w
held_alike (inr w) = rest_alike w

-- STEPS THAT KEEP A FACT
abbrev pub is_write : Step → Bool
is_write (step.Write f) = true
is_write (step.Rename f g) = false
is_write (step.Remove f) = false
is_write step.Keep = false
is_write step.Nothing = false

pub steady_step : (c : File → List ℕ) (P : Folder → Type 0) (s : Step) → is_write s ≡ false → ((e : Folder) → P e → P (does c s e)) → Steady c P s
steady_step c P s n h = record { whole = h; part = λ f q. absurd (true≢false (sym (ap is_write q) ∙ n)) }

pub steady_write : (c : File → List ℕ) (P : Folder → Type 0) (f : File) → ((x : Option (List ℕ)) (e : Folder) → P e → P (put_file f x e)) → Steady c P (step.Write f)
unfolding does
steady_write c P f h = record { whole = h (some (c f)); part = λ g q x e p. subst (λ (i : File). P (put_file i x e)) (same_file f g q) (h x e p) }
  where
    same_file : (f g : File) → step.Write f ≡ step.Write g → f ≡ g
    same_file f g q = cc

pub steady_nothing : (c : File → List ℕ) (P : Folder → Type 0) → Steady c P step.Nothing
unfolding does
steady_nothing c P = steady_step c P step.Nothing refl (λ e p. p)
