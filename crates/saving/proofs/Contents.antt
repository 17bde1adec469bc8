-- What is written under a name, and how it is put into a room. Assumes nothing.
use Rattle.std.specs.Prelude.{Err, None, Ok, Option as Optional, Result, Some}
use mathlib.Core.Path.{◌≡◌, refl, sym, ap, ◌∙◌}
use mathlib.Core.Bool.{Bool, true, false, cond, ◌&&◌}
use mathlib.Core.List.{List, [], ◌∷◌, ◌++◌}
use mathlib.Core.Option.{Option, none}
use Prim.Native.Nat.{ℕ, ◌*◌, ◌-◌, ◌/◌, ◌≤◌}
use native.Mathlib.Omega.{arith}
use lib.Dec.{leb, eqb}
use lib.ListN.{length, take, drop, length-drop, length-take, length-append}
use lib.Seq.{take-append_seam, length-take-le, take-take}
use borrow.Author.Tests.{eqb-true, ne_eqb, le-leb, leb-true}
use Rattle.model.specs.Lists.{Check, first_no}
use Rattle.model.specs.Values.{rack}
use Rattle.model.specs.Image.{words, block_in, holds_block, memory_checks}
use Rattle.model.specs.Messages.{file}
use Rattle.model.specs.Calls.{served, refused, asked, writing, save_file}
use Rattle.laws.proofs.Tests.{by_cases, yes_first}
use Rattle.answers.specs.Answers.{Gives, written_of}
use Rattle.savefile.proofs.WholeFile.{file_most}
use Rattle.mesh.specs.Parts.{part}
use Rattle.commands.specs.declared.names.File.TheVariants as files
use Rattle.saving.specs.Prepare.{act_when, savable, file_of, contents, fitting, left_by, made_of, StepPut}
use Rattle.answers.specs.declared.Refusal.{Refusal}

-- SAVE FILE, and its third question
abbrev pub made_by : Result ℕ Refusal → Optional ℕ
made_by (Ok n) = Some n
made_by (Err r) = None

third_question : (a b t : Bool) → eqb (first_no ((1, a) ∷ (2, b) ∷ (15, t) ∷ [])) 0 ≡ (eqb (first_no ((1, a) ∷ (2, b) ∷ [])) 0 && t)
unfolding first_no
third_question true true true = refl
third_question true true false = refl
third_question true false t = refl
third_question false b t = refl

fits_if : (s : Bool) (bytes room : List ℕ) → fitting room (act_when s bytes) ≡ act_when (s && leb (length bytes) (length room)) bytes
fits_if true bytes room = refl
fits_if false bytes room = refl

-- what was answered, by whether all questions were answered yes
settled : (z : Bool) (q : ℕ) (bytes out after : List ℕ) (w : Result ℕ Refusal) → written_of w ≡ cond z (served (length bytes)) (refused q) → after ≡ cond z (bytes ++ drop (length bytes) out) out
    → (made_by w ≡ made_of (act_when z bytes)) × (after ≡ left_by (act_when z bytes) out)
settled true q bytes out after (Ok n) a l = let e : n ≡ length bytes = cc in (ap Some e, l)
settled true q bytes out after (Err r) a l = let z : ◌≡◌ {A = ℕ} 0 1 = cc in absurd (omega arith)
settled false q bytes out after (Ok n) a l = let z : ◌≡◌ {A = ℕ} 0 1 = cc in absurd (omega arith)
settled false q bytes out after (Err r) a l = (refl, l)

answer_if : {A : Type 0} (qs : List Check) (before : List ℕ) (value : A) (after : List ℕ) → (asked qs before value after).answer ≡ cond (eqb (first_no qs) 0) (served value) (refused (first_no qs))
unfolding asked
answer_if qs before value after = by_cases (eqb (first_no qs) 0) (λ e. rw e) (λ e. rw e)

lent_if : {A : Type 0} (qs : List Check) (before : List ℕ) (value : A) (after : List ℕ) → (asked qs before value after).lent ≡ cond (eqb (first_no qs) 0) after before
unfolding asked
lent_if qs before value after = by_cases (eqb (first_no qs) 0) (λ e. rw e) (λ e. rw e)

pub saved : (m : List ℕ) (b : ℕ) {out after : List ℕ} (w : Result ℕ Refusal) → Gives (save_file rack (part m b) out) (written_of w) after → StepPut (contents m (files.NewBlock b)) out after (made_by w)
unfolding contents savable file_of save_file writing memory_checks
saved m b {out} {after} w g =
    let p : List ℕ = part m b in
    let bytes : List ℕ = (file rack).put (block_in p) in
    let t : Bool = leb (length bytes) (length out) in
    let qs : List Check = (1, eqb (length p) words) ∷ (2, holds_block p) ∷ (15, t) ∷ [] in
    let whole : List ℕ = bytes ++ drop (length bytes) out in
    let put = settled (eqb (first_no qs) 0) (first_no qs) bytes out after w (g.answer ∙ answer_if qs out (length bytes) whole) (g.left ∙ lent_if qs out (length bytes) whole) in
    let two : Bool = eqb (first_no ((1, eqb (length p) words) ∷ (2, holds_block p) ∷ [])) 0 in
    let same = fits_if two bytes out ∙ ap (λ (z : Bool). act_when z bytes) (sym (third_question (eqb (length p) words) (holds_block p) t)) in
    record { answer = put.0 ∙ ap made_of (sym same); left = put.1 ∙ ap (λ (x : Option (List ℕ)). left_by x out) (sym same) }

-- past the last block there is none
pub no_block : (m : List ℕ) (b : ℕ) → length m / 32776 ≤ b → savable m b ≡ false
unfolding savable memory_checks first_no
no_block m b h = rw (ne_eqb (length (part m b)) words short)
  where
    short : length (part m b) ≡ words → ⊥
    short e = absurd (omega (arith, length-take words (drop (b * words) m), length-drop (b * words) m))

-- a file has at most 245,775 bytes
pub file_short : (m : List ℕ) (b : ℕ) → savable m b ≡ true → length (file_of m b) ≤ 245775
unfolding savable memory_checks file_of
file_short m b e =
    let p : List ℕ = part m b in
    let one = yes_first 1 (eqb (length p) words) ((2, holds_block p) ∷ []) (λ z. omega arith) (eqb-true (first_no ((1, eqb (length p) words) ∷ (2, holds_block p) ∷ [])) 0 e) in
    let two = yes_first 2 (holds_block p) [] (λ z. omega arith) one.1 in
    omega (arith, file_most rack p two.0)

-- A ROOM AFTERWARDS
-- bytes were put: they are all there, and stand first
made_some : (s : Bool) (bytes before after : List ℕ) (n : ℕ) → Some n ≡ made_of (fitting before (act_when s bytes)) → after ≡ left_by (fitting before (act_when s bytes)) before
    → (s ≡ true) × (n ≡ length bytes) × (n ≤ length before) × (after ≡ bytes ++ drop (length bytes) before)
made_some false bytes before after n a l = let z : ◌≡◌ {A = ℕ} 0 1 = cc in absurd (omega arith)
made_some true bytes before after n a l = go (leb (length bytes) (length before)) refl a l
  where
    go : (t : Bool) → leb (length bytes) (length before) ≡ t → Some n ≡ made_of (act_when t bytes) → after ≡ left_by (act_when t bytes) before
        → (◌≡◌ {A = Bool} true true) × (n ≡ length bytes) × (n ≤ length before) × (after ≡ bytes ++ drop (length bytes) before)
    go true e a l = let same : n ≡ length bytes = cc in (refl, same, omega (arith, leb-true (length bytes) (length before) e), l)
    go false e a l = let z : ◌≡◌ {A = ℕ} 0 1 = cc in absurd (omega arith)

-- no bytes were put, though there was room
made_none : (s : Bool) (bytes before : List ℕ) → None ≡ made_of (fitting before (act_when s bytes)) → (s ≡ true → length bytes ≤ length before) → s ≡ false
made_none false bytes before a h = refl
made_none true bytes before a h = let z : ◌≡◌ {A = ℕ} 0 1 = rw (le-leb (length bytes) (length before) (h refl)) at (ap number a) in absurd (omega arith)
  where
    number : Optional ℕ → ℕ
    number (Some n) = 1
    number None = 0

pub record Filed (m : List ℕ) (b n : ℕ) (after : List ℕ) : Type 0 where
  pub has_file : savable m b ≡ true
  pub room : n ≤ length after
  pub bytes : take n after ≡ file_of m b

pub filed : {m : List ℕ} {b : ℕ} {before after : List ℕ} {n : ℕ} {r : Optional ℕ} → Some n ≡ r → StepPut (contents m (files.NewBlock b)) before after r → Filed m b n after
unfolding contents
filed {m} {b} {before} {after} {n} e p =
    let q = made_some (savable m b) (file_of m b) before after n (e ∙ p.answer) p.left in
    let size = ap length q.3 ∙ length-append (file_of m b) (drop (length (file_of m b)) before) in
    record {
      has_file = q.0;
      room = omega (arith, size, q.1);
      bytes = rw (q.3, q.1) (take-append_seam (file_of m b) (drop (length (file_of m b)) before));
    }

pub not_filed : (m : List ℕ) (b : ℕ) {before after : List ℕ} {r : Optional ℕ} → None ≡ r → StepPut (contents m (files.NewBlock b)) before after r → 245775 ≤ length before → savable m b ≡ false
unfolding contents
not_filed m b {before} e p h = made_none (savable m b) (file_of m b) before (e ∙ p.answer) (λ s. omega (arith, file_short m b s))

-- nothing is put: there is nothing to write, or no room for it
pub put_none : {x : Option (List ℕ)} {room : List ℕ} → fitting room x ≡ none → StepPut x room room None
put_none e = record { answer = rw e; left = rw e }

pub no_file : (m room : List ℕ) (b : ℕ) → length m / 32776 ≤ b → StepPut (contents m (files.NewBlock b)) room room None
unfolding contents
no_file m room b h = put_none (rw (no_block m b h))

-- a part copied to the start of a room
pub copied : (s room : List ℕ) (n : ℕ) → n ≤ length s → {after : List ℕ} → after ≡ take (length (take (n - 0) (drop 0 s))) (take (n - 0) (drop 0 s)) ++ drop (length (take (n - 0) (drop 0 s))) room
    → after ≡ take n s ++ drop n room
copied s room n h e =
    let z : n - 0 ≡ n = omega arith in
    let p : take (n - 0) (drop 0 s) ≡ take n s = ap (λ (k : ℕ). take k s) z in
    let l = length-take-le n s h in
    e ∙ ap (λ (q : List ℕ). take (length q) q ++ drop (length q) room) p ∙ rw (l, take-take n n s (omega arith))
