-- The questions of the next move in their turn: what the mesh check said, then 28. Assumes nothing.
--   mesh_no, mesh_yes                what the mesh check answered
--   refused_mesh, refused_oracle     a no of the mesh check, and a no to 28
--   gives_move                       the move after all questions
--   balanced, not_refused            with what stands beside the answer
--   other_mesh, other_number         the same where no oracle has the number
--   by_zero, by_one, by_two, by_other    the oracle by its number
use Rattle.std.specs.Prelude.{Err, Ok, Result}
use mathlib.Core.Path.{◌≡◌, refl, sym, ap, subst, ◌∙◌}
use mathlib.Core.Bool.{true, false}
use mathlib.Core.List.{List, [], ◌∷◌, map}
use mathlib.Core.Option.{Option, none}
use Prim.Native.Nat.{ℕ, zero, suc}
use native.Mathlib.Omega.{arith}
use lib.IntN.{ℤ, pos}
use lib.ListN.{get_or}
use Rattle.model.specs.Lists.{tab}
use Rattle.model.specs.Values.{Point, Block, limits_in}
use Rattle.model.specs.Sound.{mesh_checks}
use Rattle.model.specs.Image.{block_in}
use Rattle.model.specs.Balance as balance
use Rattle.model.specs.Balance.{Oracle, every, box, plane, oracle_right, numbered_oracle}
use Rattle.model.specs.Calls as calls
use Rattle.model.specs.Calls.{served, refused, memories, whole_mesh_checks}
use Rattle.answers.specs.Answers.{question, answer_of, move_of, answered, Gives}
use Rattle.answers.specs.declared.Refusal.{Refusal}
use Rattle.answers.specs.declared.NextMove.{NextMove}
use Rattle.answers.specs.declared.NextMove.TheVariants as next
use Rattle.mesh.proofs.Parts.{mesh_tab}
use Rattle.balance.specs.Moves.{mesh_in}
use Rattle.balance.specs.declared.nextmove.Balance.{Balance}
use Rattle.balance.specs.Answer.{answer_with, balance_told, ZeroBeside, NothingBeside, GivesBalance}
use Rattle.answers.proofs.Questions.{numbered, gives, ask_all, ask_first, ask_no, ask_yes, ask_end}

-- no oracle has another number
no_other : (n axis : ℕ) (low high : Point) → (n ≡ 0 → ⊥) → (n ≡ 1 → ⊥) → (n ≡ 2 → ⊥) → numbered_oracle n axis low high ≡ none
unfolding numbered_oracle
no_other zero axis low high a b c = absurd (a refl)
no_other (suc zero) axis low high a b c = absurd (b refl)
no_other (suc (suc zero)) axis low high a b c = absurd (c refl)
no_other (suc (suc (suc n))) axis low high a b c = refl

-- BESIDE THE ANSWER
answer_named : (n : NextMove) (a : ℕ) (ss : List ℤ) {x : balance.NextMove} → move_of n ≡ served x → answer_with n a ss ≡ served (record { next = x; mean = a; surplus = ss })
unfolding answer_with
answer_named next.Level a ss {x} e = let q : balance.level ≡ x = cc in rw (sym q)
answer_named next.Blocked a ss {x} e = let q : balance.blocked ≡ x = cc in rw (sym q)
answer_named (next.Move d r s) a ss {x} e = let q : balance.move (record { donor = d; recipient = r; serial = s }) ≡ x = cc in rw (sym q)
answer_named (next.Refused q) a ss {x} e = let z : ◌≡◌ {A = ℕ} 0 1 = cc in absurd (omega arith)

pub told : (n : NextMove) (a : ℕ) (ss : List ℤ) {x : balance.NextMove} {b : ℕ} {rs : List ℤ} → move_of n ≡ served x → a ≡ b → ss ≡ rs
    → answer_with n a ss ≡ served (record { next = x; mean = b; surplus = rs })
told n a ss {x} e f g = answer_named n a ss e ∙ (λ i. served (record { next = x; mean = f i; surplus = g i }))

-- of the mesh that the model reads
pub model_mesh : (viewers : ℕ) (o : Oracle) (mesh : List ℕ)
    → served (record {
      next = balance.next_of (limits_in viewers) o (mesh_in mesh);
      mean = balance.mean (balance.counts o (mesh_in mesh));
      surplus = tab (λ i. get_or (balance.surpluses (balance.counts o (mesh_in mesh))) i (pos 0)) 16;
    })
    ≡ served (balance.balance_of (limits_in viewers) o (map block_in (memories mesh)))
unfolding balance.balance_of
model_mesh viewers o mesh = ap (λ (m : List Block). served (balance.balance_of (limits_in viewers) o m)) (sym (mesh_tab mesh))

none_beside : (n : NextMove) (a : ℕ) (ss : List ℤ) (x : balance.Balance) → answer_with n a ss ≡ served x → ZeroBeside n a ss
unfolding answer_with ZeroBeside
none_beside next.Level a ss x e = tt
none_beside next.Blocked a ss x e = tt
none_beside (next.Move d r s) a ss x e = tt
none_beside (next.Refused q) a ss x e = let z : ◌≡◌ {A = ℕ} 0 1 = cc in absurd (omega arith)

pub balanced : {result : calls.Result balance.Balance} {b : Balance} {given : calls.Answer balance.Balance} {after : List ℕ} → balance_told b ≡ given → NothingBeside b → Gives result given after
    → GivesBalance result b after
balanced e z g = record { answer = e ∙ g.answer; beside = z; left = g.left }

pub not_refused : (b : Balance) {x : balance.Balance} → balance_told b ≡ served x → NothingBeside b
not_refused b {x} e = none_beside b.next b.mean b.surplus x e

module _ (viewers : ℕ) (m s : List ℕ) where
  -- no question of the mesh check has the number 0
  mesh_numbered : numbered (whole_mesh_checks (limits_in viewers) m s) ≡ true
  unfolding whole_mesh_checks mesh_checks
  mesh_numbered = refl

  pub mesh_no : {a : Result (Unit {0}) Refusal} {q : Refusal} → a ≡ Err q → answer_of a ≡ answered (whole_mesh_checks (limits_in viewers) m s) → refused (question q) ≡ answered (whole_mesh_checks (limits_in viewers) m s)
  mesh_no e h = sym (ap answer_of e) ∙ h

  pub mesh_yes : {a : Result (Unit {0}) Refusal} → a ≡ (Ok tt) → answer_of a ≡ answered (whole_mesh_checks (limits_in viewers) m s) → served tt ≡ answered (whole_mesh_checks (limits_in viewers) m s)
  mesh_yes e h = sym (ap answer_of e) ∙ h

  module _ (o : Oracle) where
    pub refused_mesh : {n : ℕ} {after : List ℕ} → refused n ≡ answered (whole_mesh_checks (limits_in viewers) m s) → after ≡ s → Gives (calls.next_move (limits_in viewers) m o s) (refused n) after
    unfolding calls.next_move
    refused_mesh h l = gives _ _ _ _ (ask_first (whole_mesh_checks (limits_in viewers) m s) ((28, oracle_right o) ∷ []) h l)

    pub refused_oracle : {after : List ℕ} → served tt ≡ answered (whole_mesh_checks (limits_in viewers) m s) → oracle_right o ≡ false → after ≡ s → Gives (calls.next_move (limits_in viewers) m o s) (refused 28) after
    unfolding calls.next_move
    refused_oracle h e l = gives _ _ _ _ (ask_all (whole_mesh_checks (limits_in viewers) m s) ((28, oracle_right o) ∷ []) mesh_numbered h (ask_no refl e l))

    pub gives_move : {given : calls.Answer balance.Balance} {after : List ℕ} → served tt ≡ answered (whole_mesh_checks (limits_in viewers) m s)
        → oracle_right o ≡ true → given ≡ served (balance.balance_of (limits_in viewers) o (map block_in (memories m))) → after ≡ s
        → Gives (calls.next_move (limits_in viewers) m o s) given after
    unfolding calls.next_move
    gives_move h e g l =
        let r = gives _ _ _ _ (ask_all (whole_mesh_checks (limits_in viewers) m s) ((28, oracle_right o) ∷ []) mesh_numbered h (ask_yes e (ask_end l))) in
        record { answer = g ∙ r.answer; left = r.left }

  pub other_mesh : {n : ℕ} {after : List ℕ} → refused n ≡ answered (whole_mesh_checks (limits_in viewers) m s) → after ≡ s → Gives (calls.next_move_of (limits_in viewers) m none s) (refused n) after
  other_mesh h l = gives _ _ _ _ (ask_first (whole_mesh_checks (limits_in viewers) m s) ((28, false) ∷ []) h l)

  pub other_number : {after : List ℕ} → served tt ≡ answered (whole_mesh_checks (limits_in viewers) m s) → after ≡ s → Gives (calls.next_move_of (limits_in viewers) m none s) (refused 28) after
  other_number h l = gives _ _ _ _ (ask_all (whole_mesh_checks (limits_in viewers) m s) ((28, false) ∷ []) mesh_numbered h (ask_no refl refl l))

  module _ (n axis : ℕ) (low high : Point) {b : Balance} {after : List ℕ} where
    -- by the oracle that a number has
    by_oracle : {o : Option Oracle} → numbered_oracle n axis low high ≡ o → GivesBalance (calls.next_move_of (limits_in viewers) m o s) b after
        → GivesBalance (calls.next_move_by_number (limits_in viewers) m n axis low high s) b after
    unfolding calls.next_move_by_number
    by_oracle e g = subst (λ (x : Option Oracle). GivesBalance (calls.next_move_of (limits_in viewers) m x s) b after) (sym e) g

    pub by_zero : n ≡ 0 → GivesBalance (calls.next_move (limits_in viewers) m every s) b after → GivesBalance (calls.next_move_by_number (limits_in viewers) m n axis low high s) b after
    unfolding numbered_oracle
    by_zero e g = by_oracle (ap (λ (x : ℕ). numbered_oracle x axis low high) e) g

    pub by_one : n ≡ 1 → GivesBalance (calls.next_move (limits_in viewers) m (box low high) s) b after → GivesBalance (calls.next_move_by_number (limits_in viewers) m n axis low high s) b after
    unfolding numbered_oracle
    by_one e g = by_oracle (ap (λ (x : ℕ). numbered_oracle x axis low high) e) g

    pub by_two : n ≡ 2 → GivesBalance (calls.next_move (limits_in viewers) m (plane axis low.x) s) b after → GivesBalance (calls.next_move_by_number (limits_in viewers) m n axis low high s) b after
    unfolding numbered_oracle
    by_two e g = by_oracle (ap (λ (x : ℕ). numbered_oracle x axis low high) e) g

    pub by_other : (n ≡ 0 → ⊥) → (n ≡ 1 → ⊥) → (n ≡ 2 → ⊥) → GivesBalance (calls.next_move_of (limits_in viewers) m none s) b after → GivesBalance (calls.next_move_by_number (limits_in viewers) m n axis low high s) b after
    by_other a b c g = by_oracle (no_other n axis low high a b c) g
