-- A round by its parts: what send wrote, the first message received, the last steps. Assumes nothing.
use Rattle.std.specs.Prelude.{Err, Ok}
use mathlib.Core.Path.{◌≡◌, refl, sym, ◌∙◌, ap, subst}
use mathlib.Core.Bool.{Bool, true, false, cond}
use mathlib.Core.List.{List, [], ◌∷◌, ◌++◌, map}
use Prim.Native.Nat.{ℕ, ◌+◌, ◌*◌, ◌-◌, ◌/◌, ◌≤◌, ◌<◌}
use native.Mathlib.Omega.{arith}
use lib.Dec.{eqb}
use lib.ListN.{length, get_or, take, drop, length-append}
use borrow.Author.Tests.{eqb-true, eqb-false}
use Rattle.model.specs.Values.{Limits, limits_in}
use Rattle.model.specs.Lists.{concat, first_no, Check}
use Rattle.model.specs.Image.{block_in, memory_checks}
use Rattle.model.specs.Departure.{departure_checks, messages}
use Rattle.model.specs.Calls.{Answer, Result, served, refused, number_of, send, writing}
use Rattle.model.specs.Runs as runs
use Rattle.model.specs.DividedRun.{Round, Step, Done, done, called, stored, run_steps, receiving, releasing, redirect_step, messages_in, send_step, sent_messages, round, written, memory_at}
use Rattle.laws.proofs.Lists.{rest_whole}
use Rattle.theory.proofs.CallLaws.{with_fifteen, writing_serves, writing_refuses}
use Rattle.answers.specs.Answers.{Gives, OrRefused, question, answer_of, written_of}
use Rattle.answers.specs.declared.Refusal.{Refusal}
use Rattle.answers.specs.declared.Refusal.TheVariants as refusal
use Rattle.send.proofs.SentLaws.{refused_size}
use Rattle.rounds.specs.declared.Outcome.{Outcome}
use Rattle.rounds.specs.declared.Outcome.TheVariants as outcome
use Rattle.rounds.specs.Post.{first_in}
use Rattle.rounds.specs.Played.{own_memory, own_memories, at_block, asks_for, outcome_of, delivered, Stepped, Ran, Delivered, round_in_order, Played}
use Rattle.rounds.proofs.Running.{some_number}
use Rattle.rounds.proofs.Cuts.{first_is, others_are, first_front}
use Rattle.rounds.proofs.Placed.{memory_is, no_memory, nothing_changed, then_elsewhere}

one : {b : Bool} → b ≡ true → (x y : Round) → cond b x y ≡ x
one e x y = rw e refl

other : {b : Bool} → b ≡ false → (x y : Round) → cond b x y ≡ y
other e x y = rw e refl

-- RECEIVED, or not
module _ (viewers : ℕ) (m : List ℕ) (from to serial : ℕ) (sent : List ℕ) where
  abbrev ms : List (List ℕ)
  ms = own_memories viewers m

  abbrev step : Step
  step = at_block to (receiving (get_or (messages_in sent) 0 []))

  abbrev taken : Done
  taken = done (limits_in viewers) ms step

  abbrev last : Bool × List (List ℕ)
  last = run_steps (limits_in viewers) (at_block from (releasing to serial) ∷ map redirect_step (drop 1 (messages_in sent))) (stored ms step taken)

  abbrev ended : Round
  ended = record { outcome = cond last.0 runs.finished runs.unfinished; memories = last.1 }

  abbrev not_taken : Round
  not_taken = record { outcome = runs.refused_by taken.number; memories = stored ms step taken }

  as_told : {n : ℕ} {m₁ : List ℕ} → Stepped viewers m (at_block to (receiving (first_in sent))) n m₁ → Stepped viewers m step n m₁
  as_told {n} {m₁} w = subst (λ (x : List ℕ). Stepped viewers m (at_block to (receiving x)) n m₁) (sym (first_is sent)) w

  pub refused_there : (q : Refusal) {m₁ : List ℕ} → Stepped viewers m (at_block to (receiving (first_in sent))) (question q) m₁ → Delivered viewers m from to serial sent (outcome.Refused q) m₁
  unfolding delivered
  refused_there q w =
      let v = as_told w in
      let e = other (ap (λ (k : ℕ). eqb k 0) (sym v.number_is) ∙ some_number q) ended not_taken in
      record {
        outcome_is = ap runs.refused_by v.number_is ∙ sym (ap (λ (x : Round). x.outcome) e);
        memories_are = v.stored_are ∙ sym (ap (λ (x : Round). x.memories) e);
        elsewhere = v.elsewhere;
      }

  pub taken_there : (n : ℕ) {m₁ m₂ : List ℕ} {ok : Bool} (o : Outcome) → n ≡ length (first_in sent)
      → outcome_of o ≡ cond ok runs.finished runs.unfinished → Stepped viewers m (at_block to (receiving (first_in sent))) 0 m₁
      → Ran viewers m₁ (at_block from (releasing to serial) ∷ map redirect_step (messages_in (drop n sent))) ok m₂ → Delivered viewers m from to serial sent o m₂
  unfolding delivered
  taken_there n {m₁} {m₂} {ok} o l f w r =
      let v = as_told w in
      let e = one (ap (λ (k : ℕ). eqb k 0) (sym v.number_is)) ended not_taken in
      let rs : run_steps (limits_in viewers) (at_block from (releasing to serial) ∷ map redirect_step (messages_in (drop n sent))) (own_memories viewers m₁) ≡ last =
      ap (λ (x : List (List ℕ)). run_steps (limits_in viewers) (at_block from (releasing to serial) ∷ map redirect_step (messages_in (drop n sent))) x) v.stored_are
      ∙ ap (λ (x : List (List ℕ)). run_steps (limits_in viewers) (at_block from (releasing to serial) ∷ map redirect_step x) (stored ms step taken)) (sym (others_are sent n l)) in
      record {
        outcome_is = f ∙ ap (λ (b : Bool). cond b runs.finished runs.unfinished) (r.said ∙ ap (λ (x : Bool × List (List ℕ)). x.0) rs) ∙ sym (ap (λ (x : Round). x.outcome) e);
        memories_are = r.stored_are ∙ ap (λ (x : Bool × List (List ℕ)). x.1) rs ∙ sym (ap (λ (x : Round). x.memories) e);
        elsewhere = then_elsewhere viewers v.elsewhere r.elsewhere;
      }

-- by the answers that the code has
yes_finished : {ok : Bool} → ok ≡ true → runs.finished ≡ cond ok runs.finished runs.unfinished
yes_finished e = rw e refl

no_finished : {ok : Bool} → ok ≡ false → runs.unfinished ≡ cond ok runs.finished runs.unfinished
no_finished e = rw e refl

module _ (viewers : ℕ) (m : List ℕ) (from to serial : ℕ) (sent : List ℕ) (n : ℕ) (l : n ≡ length (first_in sent)) (a : OrRefused (Unit {0}))
    {m₁ : List ℕ} (w : Stepped viewers m (at_block to (receiving (take n sent))) (number_of (answer_of a)) m₁) where
  first_got : {k : ℕ} → number_of (answer_of a) ≡ k → Stepped viewers m (at_block to (receiving (first_in sent))) k m₁
  first_got {k} e = subst (λ (x : List ℕ). Stepped viewers m (at_block to (receiving x)) k m₁) (first_front sent n l) (subst (λ (k : ℕ). Stepped viewers m (at_block to (receiving (take n sent))) k m₁) e w)

  pub deliver_refused : (q : Refusal) → a ≡ Err q → Delivered viewers m from to serial sent (outcome.Refused q) m₁
  deliver_refused q e = refused_there viewers m from to serial sent q (first_got (ap (λ (x : OrRefused (Unit {0})). number_of (answer_of x)) e))

  module _ (e : a ≡ (Ok tt)) {ok : Bool} {m₂ : List ℕ} (r : Ran viewers m₁ (at_block from (releasing to serial) ∷ map redirect_step (messages_in (take (length sent - n) (drop n sent)))) ok m₂) where
    last_ran : Ran viewers m₁ (at_block from (releasing to serial) ∷ map redirect_step (messages_in (drop n sent))) ok m₂
    last_ran = subst (λ (x : List ℕ). Ran viewers m₁ (at_block from (releasing to serial) ∷ map redirect_step (messages_in x)) ok m₂) (rest_whole sent n) r

    pub deliver_finished : ok ≡ true → Delivered viewers m from to serial sent outcome.Finished m₂
    deliver_finished y = taken_there viewers m from to serial sent n outcome.Finished l (yes_finished y) (first_got (ap (λ (x : OrRefused (Unit {0})). number_of (answer_of x)) e)) last_ran

    pub deliver_unfinished : ok ≡ false → Delivered viewers m from to serial sent outcome.Unfinished m₂
    deliver_unfinished y = taken_there viewers m from to serial sent n outcome.Unfinished l (no_finished y) (first_got (ap (λ (x : OrRefused (Unit {0})). number_of (answer_of x)) e)) last_ran

-- what send wrote lies within the outbox
fits_in : (qs : List Check) (out bytes : List ℕ) (n : ℕ) → served n ≡ (writing qs out bytes).answer → n ≤ length (writing qs out bytes).lent
fits_in qs out bytes n e = go (eqb (first_no (with_fifteen qs out bytes)) 0) refl
  where
    go : (b : Bool) → eqb (first_no (with_fifteen qs out bytes)) 0 ≡ b → n ≤ length (writing qs out bytes).lent
    go true q =
        let s = writing_serves qs out bytes (eqb-true (first_no (with_fifteen qs out bytes)) 0 q) in
        let k : ◌≡◌ {A = ℕ} n (length bytes) = ap written (e ∙ ap (λ (r : Result ℕ). r.answer) s) in
        let t = ap (λ (r : Result ℕ). length r.lent) s ∙ length-append bytes (drop (length bytes) out) in
        omega (arith, k, t)
    go false q =
        let s = writing_refuses qs out bytes (eqb-false (first_no (with_fifteen qs out bytes)) 0 q) in
        let k : ◌≡◌ {A = ℕ} 0 (first_no (with_fifteen qs out bytes)) = ap number_of (e ∙ ap (λ (r : Result ℕ). r.answer) s) in
        absurd (eqb-false (first_no (with_fifteen qs out bytes)) 0 q (sym k))

pub within_outbox : (lim : Limits) (x : List ℕ) (to serial : ℕ) (outbox : List ℕ) {n : ℕ} {w : OrRefused ℕ} {outbox' : List ℕ}
    → Gives (send lim x to serial outbox) (written_of w) outbox' → w ≡ Ok n → n ≤ length outbox'
unfolding send
within_outbox lim x to serial outbox {n} {w} {outbox'} g e =
    subst (λ (k : List ℕ). n ≤ length k) (sym g.left)
    (fits_in (memory_checks lim x ++ departure_checks lim.volume_darts (block_in x) to serial) outbox
    (concat (messages (block_in x) to serial)) n (sym (ap written_of e) ∙ g.answer))

-- SENT, or not
module _ (viewers : ℕ) (m : List ℕ) (from to serial : ℕ) (outbox : List ℕ) where
  abbrev there : List ℕ
  there = memory_at (own_memories viewers m) from

  abbrev gone : Done
  gone = done (limits_in viewers) (own_memories viewers m) (send_step (asks_for from to serial) outbox)

  abbrev after : Round
  after = delivered viewers (own_memories viewers m) (asks_for from to serial) (messages_in gone.sent)

  abbrev stays : Round
  stays = record { outcome = runs.refused_by gone.number; memories = own_memories viewers m }

  round_is : round_in_order viewers (own_memories viewers m) (asks_for from to serial) outbox ≡ cond (eqb gone.number 0) after stays
  unfolding round delivered sent_messages
  round_is = refl

  number_there : {a : Answer ℕ} {outbox' : List ℕ} → Gives (send (limits_in viewers from) there to serial outbox) a outbox' → number_of a ≡ gone.number
  unfolding done called
  number_there w = ap number_of w.answer

  sent_there : {n : ℕ} {outbox' : List ℕ} → Gives (send (limits_in viewers from) there to serial outbox) (served n) outbox' → take n outbox' ≡ gone.sent
  unfolding done called
  sent_there {n} w = ap (λ (l : List ℕ). take n l) w.left ∙ ap (λ (a : Answer ℕ). take (written a) (send (limits_in viewers from) there to serial outbox).lent) w.answer

  at_home : from < length m / 32776 → {a : Answer ℕ} {outbox' : List ℕ} → Gives (send (limits_in viewers from) (own_memory viewers m from) to serial outbox) a outbox' → Gives (send (limits_in viewers from) there to serial outbox) a outbox'
  at_home h {a} {outbox'} w = subst (λ (x : List ℕ). Gives (send (limits_in viewers from) x to serial outbox) a outbox') (sym (memory_is viewers m from h)) w

  not_sent : (q : Refusal) {outbox' : List ℕ} → Gives (send (limits_in viewers from) there to serial outbox) (refused (question q)) outbox' → Played viewers m from to serial outbox (outcome.Refused q) m outbox'
  not_sent q w =
      let n = number_there w in
      let e = round_is ∙ other (ap (λ (k : ℕ). eqb k 0) (sym n) ∙ some_number q) after stays in
      record {
        outcome_is = ap runs.refused_by n ∙ sym (ap (λ (x : Round). x.outcome) e);
        memories_are = sym (ap (λ (x : Round). x.memories) e);
        elsewhere = nothing_changed viewers m;
        outbox_is = w.left;
      }

  pub refused_here : from < length m / 32776 → (q : Refusal) {outbox' : List ℕ}
      → Gives (send (limits_in viewers from) (own_memory viewers m from) to serial outbox) (refused (question q)) outbox'
      → Played viewers m from to serial outbox (outcome.Refused q) m outbox'
  refused_here h q w = not_sent q (at_home h w)

  pub nobody_here : length m / 32776 ≤ from → Played viewers m from to serial outbox (outcome.Refused refusal.MemorySize) m outbox
  nobody_here h = not_sent refusal.MemorySize (refused_size there outbox to serial (limits_in viewers from) (λ e. none (limits_in viewers from).block_darts (ap length (sym (no_memory viewers m from h).0) ∙ e)))
    where
      none : (n : ℕ) → 0 ≡ 8 + 8 * n → ⊥
      none n e = absurd (omega (arith, e))

  pub was_sent : from < length m / 32776 → (n : ℕ) {outbox' m' : List ℕ} (o : Outcome)
      → Gives (send (limits_in viewers from) (own_memory viewers m from) to serial outbox) (served n) outbox' → Delivered viewers m from to serial (take n outbox') o m'
      → Played viewers m from to serial outbox o m' outbox'
  was_sent h n {outbox'} {m'} o g d =
      let w = at_home h g in
      let k = number_there w in
      let e = round_is ∙ one (ap (λ (k : ℕ). eqb k 0) (sym k)) after stays in
      let s = sent_there w in
      record {
        outcome_is = d.outcome_is ∙ ap (λ (x : List ℕ). (delivered viewers (own_memories viewers m) (asks_for from to serial) (messages_in x)).outcome) s ∙ sym (ap (λ (x : Round). x.outcome) e);
        memories_are = d.memories_are ∙ ap (λ (x : List ℕ). (delivered viewers (own_memories viewers m) (asks_for from to serial) (messages_in x)).memories) s ∙ sym (ap (λ (x : Round). x.memories) e);
        elsewhere = d.elsewhere;
        outbox_is = w.left;
      }

  pub refused_by_send : from < length m / 32776 → (q : Refusal) {w : OrRefused ℕ} {outbox' : List ℕ}
      → Gives (send (limits_in viewers from) (own_memory viewers m from) to serial outbox) (written_of w) outbox' → w ≡ Err q
      → Played viewers m from to serial outbox (outcome.Refused q) m outbox'
  refused_by_send h q {w} {outbox'} g e = refused_here h q (subst (λ (x : OrRefused ℕ). Gives (send (limits_in viewers from) (own_memory viewers m from) to serial outbox) (written_of x) outbox') e g)

  pub was_played : from < length m / 32776 → (n : ℕ) (o : Outcome) {w : OrRefused ℕ} {outbox' m' : List ℕ}
      → Gives (send (limits_in viewers from) (own_memory viewers m from) to serial outbox) (written_of w) outbox' → w ≡ Ok n
      → Delivered viewers m from to serial (take n outbox') o m' → Played viewers m from to serial outbox o m' outbox'
  was_played h n o {w} {outbox'} g e d = was_sent h n o (subst (λ (x : OrRefused ℕ). Gives (send (limits_in viewers from) (own_memory viewers m from) to serial outbox) (written_of x) outbox') e g) d
