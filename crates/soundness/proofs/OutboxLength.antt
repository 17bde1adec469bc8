-- An outbox of 65,536 bytes holds the messages of any volume. Assumes nothing.
use mathlib.Core.Path.{◌≡◌, refl, sym, ◌∙◌}
use mathlib.Core.Logic.{◌≢◌}
use mathlib.Core.Bool.{true, false, not}
use mathlib.Core.List.{List, [], ◌∷◌, ◌++◌}
use Prim.Native.Nat.{ℕ, ◌≤◌}
use native.Mathlib.Omega.{arith}
use lib.Dec.{leb, eqb}
use lib.ListN.{length, drop}
use borrow.Author.Tests.{eqb-true, eqb-false, le-leb, not-true}
use Rattle.model.specs.Lists.{all, concat, Check, first_no}
use Rattle.model.specs.Values.{Limits, rack, viewer, room}
use Rattle.laws.proofs.Tests.{by_cases, and_left, and_right, yes_then, no_more, first_no_append, first_no_stays}
use Rattle.model.specs.Departure.{departure_checks, messages}
use Rattle.model.specs.Calls.{writing, send}
use Rattle.model.specs.Demands.{OutboxSuffices}
use Rattle.model.specs.Image.{block_in, memory_checks}
use Rattle.theory.proofs.CallLaws.{asked_number, after_memory}
use Rattle.theory.proofs.SentLengths.{messages_fit}

-- QUESTION 15 is answered yes
not_among : (n : ℕ) (qs : List Check) → n ≢ 0 → all (λ q. not (eqb q.0 n)) qs ≡ true → first_no qs ≢ n
unfolding first_no
not_among n [] z h e = z (sym e)
not_among n ((m, true) ∷ qs) z h e = not_among n qs z (and_right (not (eqb m n)) _ h) e
not_among n ((m, false) ∷ qs) z h e = eqb-false m n (not-true (eqb m n) (and_left (not (eqb m n)) _ h)) e

pub outbox_suffices : (lim : Limits) → lim.block_darts ≤ room → lim.volume_darts ≤ 512 → OutboxSuffices lim
unfolding send writing memory_checks departure_checks
outbox_suffices lim fits few_sent m j s outbox enough e =
    let qs = memory_checks lim m ++ departure_checks lim.volume_darts (block_in m) j s in
    let bytes = concat (messages (block_in m) j s) in
    let asked-15 = sym (asked_number (qs ++ (15, leb (length bytes) (length outbox)) ∷ []) outbox (length bytes) (bytes ++ drop (length bytes) outbox)) ∙ e in
    by_cases (eqb (first_no qs) 0)
    (λ z.
    let none = eqb-true (first_no qs) 0 z in
    let a = after_memory lim m (departure_checks lim.volume_darts (block_in m) j s) none in
    let long = messages_fit lim (block_in m) fits few_sent a.0 j s a.1 in
    let yes =
    first_no_append qs ((15, leb (length bytes) (length outbox)) ∷ []) none refl
    ∙ yes_then 15 (leb (length bytes) (length outbox)) [] (le-leb (length bytes) (length outbox) (omega arith)) ∙ no_more
    in
    let zero-15 : 0 ≡ 15 = sym yes ∙ asked-15 in
    omega arith)
    (λ z. not_among 15 qs (λ q. omega arith) refl (sym (first_no_stays qs ((15, leb (length bytes) (length outbox)) ∷ []) (eqb-false (first_no qs) 0 z)) ∙ asked-15))

-- at both callers
pub rack_outbox_suffices : OutboxSuffices rack
rack_outbox_suffices = outbox_suffices rack (omega arith) (omega arith)

pub viewer_outbox_suffices : OutboxSuffices viewer
viewer_outbox_suffices = outbox_suffices viewer (omega arith) (omega arith)
