-- What a step of balancing comes to, by the answer of the next move and by the outcome of its round. Assumes nothing.
use mathlib.Core.Path.{◌≡◌, refl, sym, ◌∙◌, ap, subst}
use mathlib.Core.List.{List}
use Prim.Native.Nat.{ℕ}
use lib.IntN.{ℤ}
use Rattle.model.specs.Values.{limits_in}
use Rattle.model.specs.Balance.{Oracle}
use Rattle.model.specs.Calls as calls
use Rattle.answers.specs.Answers.{move_of}
use Rattle.answers.specs.declared.NextMove.{NextMove}
use Rattle.answers.specs.declared.NextMove.TheVariants as next
use Rattle.balance.specs.Answer.{answer_with, GivesBalance}
use Rattle.balance.specs.declared.nextmove.Balance.{Balance}
use Rattle.rounds.specs.declared.Outcome.{Outcome}
use Rattle.rounds.specs.Played.{Played, outcome_of}
use Rattle.rounds.proofs.Placed.{nothing_changed}
use Rattle.rebalance.specs.declared.Ending.{Ending}
use Rattle.rebalance.specs.Turn.{TurnEnded, Levelled, ending_by, ending_of, still, next_answer, asked_next, turn, turn_by, round_turn, a_move}

-- nothing moves
pub stays : (viewers : ℕ) (m outbox : List ℕ) (s : Ending) → TurnEnded viewers (still viewers m outbox (ending_of s)) m s m outbox
stays viewers m outbox s = record { ending_is = refl; memories_are = refl; elsewhere = nothing_changed viewers m; outbox_is = refl }

-- a round that was played, and how it ended
pub carried : (viewers : ℕ) (m outbox : List ℕ) (d r s : ℕ) {o x : Outcome} {m' outbox' : List ℕ} (st : Ending) → o ≡ x
    → ending_of st ≡ ending_by (a_move d r s) (outcome_of x) → Played viewers m d r s outbox o m' outbox'
    → TurnEnded viewers (round_turn viewers m outbox (a_move d r s)) m st m' outbox'
unfolding round_turn
carried viewers m outbox d r s st known e p =
    record {
      ending_is = e ∙ ap (λ (x : Outcome). ending_by (a_move d r s) (outcome_of x)) (sym known) ∙ ap (ending_by (a_move d r s)) p.outcome_is;
      memories_are = p.memories_are;
      elsewhere = p.elsewhere;
      outbox_is = p.outbox_is;
    }

-- the move of an answer with what stands beside it
pub next_alone : (n : NextMove) (m : ℕ) (ss : List ℤ) → next_answer (answer_with n m ss) ≡ move_of n
unfolding answer_with
next_alone next.Level m ss = refl
next_alone next.Blocked m ss = refl
next_alone (next.Move d r s) m ss = refl
next_alone (next.Refused q) m ss = refl

pub asked_is : (viewers : ℕ) (m : List ℕ) (o : Oracle) (scratch : List ℕ) {b : Balance} {x : NextMove} {scratch' : List ℕ} → b.next ≡ x
    → GivesBalance (calls.next_move (limits_in viewers) m o scratch) b scratch' → move_of x ≡ asked_next viewers m o scratch
asked_is viewers m o scratch {b} known g = ap move_of (sym known) ∙ sym (next_alone b.next b.mean b.surplus) ∙ ap next_answer g.answer

-- what the next move answered, and the turn that this makes
pub answered : (viewers : ℕ) (m : List ℕ) (o : Oracle) (scratch outbox : List ℕ) {b : Balance} {x : NextMove} {s : Ending} {m' scratch' outbox' : List ℕ} → b.next ≡ x
    → GivesBalance (calls.next_move (limits_in viewers) m o scratch) b scratch' → TurnEnded viewers (turn_by viewers m outbox (move_of x)) m s m' outbox'
    → Levelled viewers m o scratch outbox s m' scratch' outbox'
unfolding turn
answered viewers m o scratch outbox {s = s} {m' = m'} {outbox' = outbox'} known g e =
    record {
      ended = subst (λ (y : calls.Answer _). TurnEnded viewers (turn_by viewers m outbox y) m s m' outbox') (asked_is viewers m o scratch known g) e;
      scratch_is = g.left;
    }
