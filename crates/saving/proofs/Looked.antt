-- What a recovery looks at: the files that a save cut anywhere leaves look right, and so do those that recoveries cut anywhere leave; where
-- they look right, what is seen has the committed length and digest. Assumes nothing.
use Rattle.std.specs.Prelude.{None, Option as Optional, Some, is_some}
use mathlib.Core.Path.{◌≡◌, refl, sym, ap, subst, ◌∙◌}
use mathlib.Core.Bool.{Bool, true, false, cond}
use mathlib.Core.List.{List}
use mathlib.Core.Logic.{inl, inr, ⊎_elim}
use mathlib.Core.Option.{Option, none, some, none-ne-some, some-injective}
use Prim.Native.Nat.{ℕ, ◌≤◌, ◌<◌}
use native.Mathlib.Omega.{arith}
use borrow.Author.Tests.{lt-ltb, eq-eqb}
use Rattle.laws.proofs.Tests.{and_intro, by_cases}
use Rattle.commands.specs.declared.names.File.TheVariants as file
use Rattle.saving.specs.declared.commit.Entry.{Entry}
use Rattle.saving.specs.declared.look.Look.TheVariants as look
use Rattle.saving.specs.Commit.{entry_of, entry_in}
use Rattle.saving.specs.Looks.{same_entry, look_of, look_found}
use Rattle.saving.specs.Folder.{Folder, blocks_of, first_of, seen, found_in, bytes_of, LooksRight, AsCommitted}
use Rattle.saving.proofs.Commits.{committed_few}
use Rattle.saving.proofs.Seen.{Held}

blocks_few : (x : Option (List ℕ)) → blocks_of x ≤ 16
blocks_few none = omega arith
blocks_few (some bytes) = committed_few bytes

-- ONE BLOCK: the file that is looked at is the one that is seen
pub record Committed (y : Option (List ℕ)) (e : Entry) : Type 0 where
  pub bytes : List ℕ
  pub is_seen : y ≡ some bytes
  pub same : same_entry (entry_of bytes) e ≡ true

never_place : look.Place ≡ look.Wrong → ⊥
never_place q = let z : ◌≡◌ {A = ℕ} 0 1 = cc in omega arith

never_placed : look.Placed ≡ look.Wrong → ⊥
never_placed q = let z : ◌≡◌ {A = ℕ} 0 1 = cc in omega arith

same_bytes : (e : Entry) (bytes : List ℕ) → Committed (some bytes) e → same_entry (entry_of bytes) e ≡ true
same_bytes e bytes w = ap (λ (l : List ℕ). same_entry (entry_of l) e) (some-injective bytes w.bytes w.is_seen) ∙ w.same

look_right : (e : Entry) (new own : Option (List ℕ)) → Committed (first_of new own) e → look_of e (found_in new) (found_in own) ≡ look.Wrong → ⊥
unfolding look_of
look_right e none none w q = none-ne-some w.bytes w.is_seen
look_right e none (some bytes) w q = never_placed (rw (same_bytes e bytes w) at q)
look_right e (some bytes) own w q = never_place (rw (same_bytes e bytes w) at q)

right_look : (e : Entry) (new own : Option (List ℕ)) → (look_of e (found_in new) (found_in own) ≡ look.Wrong → ⊥) → Committed (first_of new own) e
unfolding look_of
right_look e none none n = absurd (n refl)
right_look e none (some bytes) n = by_cases (same_entry (entry_of bytes) e) (λ t. record { bytes = bytes; is_seen = refl; same = t }) (λ t. absurd (n (rw t)))
right_look e (some bytes) own n = by_cases (same_entry (entry_of bytes) e) (λ t. record { bytes = bytes; is_seen = refl; same = t }) (λ t. absurd (n (rw t)))

-- by two tests
look_by : (e : Entry) (new own : Optional Entry) → cond (is_some new) (cond (look_found new e) look.Place look.Wrong) (cond (look_found own e) look.Placed look.Wrong) ≡ look_of e new own
unfolding look_of
look_by e (Some f) own = refl
look_by e None (Some f) = refl
look_by e None None = refl

pub look_new : (e : Entry) (new own : Optional Entry) (t : Bool) → is_some new ≡ true → look_found new e ≡ t → cond t look.Place look.Wrong ≡ look_of e new own
look_new e new own t f g = rw (f, g) at (look_by e new own)

pub look_own : (e : Entry) (new own : Optional Entry) (t : Bool) → is_some new ≡ false → look_found own e ≡ t → cond t look.Placed look.Wrong ≡ look_of e new own
look_own e new own t f g = rw (f, g) at (look_by e new own)

-- A FOLDER whose blocks are seen as t, with the commit x
pub record Right (x : Option (List ℕ)) (t : ℕ → Option (List ℕ)) : Type 0 where
  pub each : (b : ℕ) → b < 16 → b < blocks_of x → Committed (t b) (entry_in (bytes_of x) b)

pub sees_right : {x : Option (List ℕ)} {t : ℕ → Option (List ℕ)} {e : Folder} → Right x t → Held x t e → LooksRight e
sees_right {x} {t} {e} r (inl w) b h q =
    let l : b < blocks_of x = rw w.commit at h in
    let s : b < 16 = omega (arith, blocks_few x) in
    let entry : Entry = entry_in (bytes_of x) b in
    let seen-right = subst (λ (y : Option (List ℕ)). Committed y entry) (sym (w.below b s l)) (r.each b s l) in
    look_right entry (e (file.NewBlock b)) (e (file.Block b)) seen-right (rw w.commit at q)
sees_right {x} {t} {e} r (inr w) b h q = ⊎_elim gone there w.commit
  where
    gone : e file.Commit ≡ none → ⊥
    gone n = let z : b < 0 = rw n at h in omega arith

    there : e file.Commit ≡ x → ⊥
    there n =
        let l : b < blocks_of x = rw n at h in
        let s : b < 16 = omega (arith, blocks_few x) in
        let y : first_of (e (file.NewBlock b)) (e (file.Block b)) ≡ t b = ap (λ (o : Option (List ℕ)). first_of o (e (file.Block b))) (w.gone b s l) ∙ w.named b s in
        let entry : Entry = entry_in (bytes_of x) b in
        look_right entry (e (file.NewBlock b)) (e (file.Block b)) (subst (λ (o : Option (List ℕ)). Committed o entry) (sym y) (r.each b s l)) (rw n at q)

-- of any folder that looks right
seen_new : (d : Folder) (b : ℕ) → b < blocks_of (d file.Commit) → seen d b ≡ first_of (d (file.NewBlock b)) (d (file.Block b))
unfolding seen
seen_new d b l = rw (lt-ltb b (blocks_of (d file.Commit)) l)

pub looks_committed : (d : Folder) → LooksRight d → Right (d file.Commit) (seen d)
looks_committed d r = record {
  each = λ b h l.
      let entry : Entry = entry_in (bytes_of (d file.Commit)) b in
      subst (λ (y : Option (List ℕ)). Committed y entry) (sym (seen_new d b l)) (right_look entry (d (file.NewBlock b)) (d (file.Block b)) (r b l));
}

-- WHERE FILES LOOK RIGHT, what is seen is what was committed
pub as_committed : (d : Folder) → LooksRight d → (b : ℕ) → b < blocks_of (d file.Commit) → AsCommitted d b
as_committed d r b l =
    let s : b < 16 = omega (arith, blocks_few (d file.Commit)) in
    let w = (looks_committed d r).each b s l in
    record { bytes = w.bytes; is_seen = w.is_seen; same = w.same }

-- without a commit nothing is looked at
pub free_right : (t : ℕ → Option (List ℕ)) → Right none t
free_right t = record { each = λ b h l. absurd (omega arith) }

-- the files of a save
same_self : (e : Entry) → same_entry e e ≡ true
unfolding same_entry
same_self e = and_intro (eq-eqb e.size e.size refl) (eq-eqb e.digest e.digest refl)

pub saved_right : (x : Option (List ℕ)) (t : ℕ → Option (List ℕ)) (c : ℕ → List ℕ) → ((b : ℕ) → b < 16 → b < blocks_of x → t b ≡ some (c b))
    → ((b : ℕ) → b < 16 → b < blocks_of x → entry_in (bytes_of x) b ≡ entry_of (c b)) → Right x t
saved_right x t c s n = record { each = λ b h l. record { bytes = c b; is_seen = s b h l; same = rw (n b h l) (same_self (entry_of (c b))) } }
