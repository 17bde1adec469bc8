-- A round and an undivided request have the same outcome and keep the invariant. Assumes nothing.
use mathlib.Core.Path.{◌≡◌, refl, sym, ◌∙◌, ap, subst}
use mathlib.Core.Logic.{◌≢◌}
use mathlib.Core.Bool.{true, false, not, ◌&&◌}
use mathlib.Core.List.{List, [], ◌∷◌, map, Permᴰ}
use Prim.Native.Nat.{ℕ, ◌+◌, ◌^◌, ◌<◌}
use native.Mathlib.Omega.{arith}
use lib.Dec.{leb, ltb, eqb}
use lib.ListN.{length, take, drop, set}
use lib.Seq.{take-append_seam, set-get_or}
use borrow.Author.Tests.{eqb-true, eqb-false, ne_eqb, ltb-true, leb-true, not-true}
use Rattle.model.specs.Lists.{all, any, concat, mem, Check, first_no}
use Rattle.model.specs.Values.{Label, Block, Limits}
use Rattle.model.specs.Sound.{sound_block, Fit}
use Rattle.model.specs.Image.{words_of, image, memory_of}
use Rattle.model.specs.Layouts.{framed}
use Rattle.model.specs.Messages.{Transfer, transfer, update, Message, a_transfer}
use Rattle.model.specs.Departure.{departure_checks, updates_of, messages}
use Rattle.model.specs.Links.{pairs_once, vertex_pairs}
use Rattle.model.specs.Arrival.{received, receive_checks, received_from}
use Rattle.model.specs.Calls.{number_of, Result, storing, writing, send, receive}
use Rattle.model.specs.Runs.{Request, Outcome, is_refused, refused_by, finished, unfinished}
use Rattle.model.specs.UndividedRun.{State, nx, op, th, cell, inner_faces, has_room, request_checks, round_checks, after_move, Undivided, undivided}
use Rattle.model.specs.DividedRun.{Step, Done, written, called, memory_at, done, run_steps, messages_in, send_step, receive_step, last_steps, sent_messages, Round, round}
use Rattle.model.specs.Demands.{Enough, ended}
use Rattle.laws.proofs.Members.{all_in}
use Rattle.laws.proofs.Tables.{getD_tab, map_tab}
use Rattle.laws.proofs.Tests.{by_cases, and_left, and_right, yes_then, no_more, no_here, yes_first, first_no_append, first_no_stays}
use Rattle.theory.proofs.CallLaws.{storing_serves, storing_refuses, with_fifteen, writing_serves, writing_refuses, send_is, receive_is}
use Rattle.agreement.proofs.AfterMove.{after, after_is}
use Rattle.agreement.proofs.Arrived.{received_is}
use Rattle.agreement.proofs.BlockSound.{block_sound}
use Rattle.agreement.proofs.Described.{block_by, mesh_by, Inv}
use Rattle.agreement.proofs.Finishes.{cut_again, finishes, memories_after}
use Rattle.agreement.proofs.Moved.{Served, state_after, labels_after, inv_after}
use Rattle.agreement.proofs.MovedCell.{questions_agree}
use Rattle.agreement.proofs.Numbers.{first_six, last_two, round_split, refused_alike}
use Rattle.agreement.proofs.Sent.{transfer_by}
use Rattle.agreement.proofs.SentLayout.{transfer_read, receive_asks}

-- A ROUND, by what its calls give
module _ (lims : ℕ → Limits) (ms : List (List ℕ)) (r : Request) (outbox : List ℕ) (order : List Step) (d : Done) (sends : done lims ms (send_step r outbox) ≡ d) where
  round_unsent : eqb d.number 0 ≡ false → round lims ms r outbox order ≡ record { outcome = refused_by d.number; memories = ms }
  unfolding round
  round_unsent h = rw (sends, h)

  module _ (was_sent : eqb d.number 0 ≡ true) (a : Done) (takes : done lims ms (receive_step r (messages_in d.sent)) ≡ a) where
    round_untaken : eqb a.number 0 ≡ false → round lims ms r outbox order ≡ record { outcome = refused_by a.number; memories = set ms r.to a.memory }
    unfolding round
    round_untaken h = rw (sends, was_sent, takes, h)

    round_taken : eqb a.number 0 ≡ true → (after : List (List ℕ)) → (run_steps lims order (set ms r.to a.memory)).0 ≡ true → (run_steps lims order (set ms r.to a.memory)).1 ≡ after
        → round lims ms r outbox order ≡ record { outcome = finished; memories = after }
    unfolding round
    round_taken h after t e = rw (sends, was_sent, takes, h, t, e)

-- what both runs keep to, of a round that ends so
pub record Kept (lims : ℕ → Limits) (k : ℕ) (o : Outcome) (d : Round) (w : Undivided) : Type 0 where
  pub outcome_is : d.outcome ≡ o
  pub refused_alike : is_refused d.outcome ≡ is_refused w.outcome
  pub labels_now : ℕ → Label
  pub inv_now : Inv lims k w.state labels_now
  pub memories_now : d.memories ≡ map (memory_of lims) (mesh_by k w.state labels_now)
  pub never_unfinished : d.outcome ≢ unfinished

undivided_refuses : (lims : ℕ → Limits) (u : State) (r : Request) (n : ℕ) → first_no (request_checks lims u r) ≡ n → n ≢ 0 → undivided lims u r ≡ record { outcome = refused_by n; state = u }
unfolding undivided
undivided_refuses lims u r n e h = rw (e, ne_eqb n 0 h)

pub undivided_serves : (lims : ℕ → Limits) (u : State) (r : Request) → first_no (request_checks lims u r) ≡ 0 → undivided lims u r ≡ record { outcome = finished; state = after_move u r }
unfolding undivided
undivided_serves lims u r e = rw e

-- how a request ends, by its questions
ended_refused : (qs : List Check) (n : ℕ) → first_no qs ≡ n → n ≢ 0 → ended qs ≡ refused_by n
ended_refused qs n e h = rw (e, ne_eqb n 0 h)

pub ended_served : (qs : List Check) → first_no qs ≡ 0 → ended qs ≡ finished
ended_served qs e = rw e

not_unfinished : (n : ℕ) → refused_by n ≢ unfinished
not_unfinished n e = let z : ◌≡◌ {A = ℕ} 0 1 = cc in omega arith

finished_not : finished ≢ unfinished
finished_not e = let z : ◌≡◌ {A = ℕ} 0 1 = cc in omega arith

module _ (lims : ℕ → Limits) (fit : Fit lims) (k : ℕ) (u : State) (label : ℕ → Label) (I : Inv lims k u label) (r : Request) (from_below : r.from < k) (to_below : r.to < k)
    (outbox : List ℕ) (order : List Step) where
  abbrev ms : List (List ℕ)
  ms = map (memory_of lims) (mesh_by k u label)

  abbrev here : Block
  here = block_by u label r.from

  abbrev there : Block
  there = block_by u label r.to

  abbrev lim : Limits
  lim = lims r.from

  abbrev leaving : List Check
  leaving = departure_checks lim.volume_darts here r.to r.serial

  abbrev sent_bytes : List ℕ
  sent_bytes = concat (messages here r.to r.serial)

  memory_here : memory_at ms r.from ≡ image (words_of (lims r.from)) here
  unfolding block_by
  memory_here = rw (map_tab (memory_of lims) (block_by u label) k) (getD_tab (λ c. memory_of lims (block_by u label c)) k r.from [] from_below)

  memory_there : memory_at ms r.to ≡ image (words_of (lims r.to)) there
  unfolding block_by
  memory_there = rw (map_tab (memory_of lims) (block_by u label) k) (getD_tab (λ c. memory_of lims (block_by u label c)) k r.to [] to_below)

  here_sound : sound_block lim here ≡ true
  here_sound = block_sound lims k u label I r.from from_below

  there_sound : sound_block (lims r.to) there ≡ true
  there_sound = block_sound lims k u label I r.to to_below

  sends_is : send lim (memory_at ms r.from) r.to r.serial outbox ≡ writing leaving outbox sent_bytes
  sends_is = ap (λ (m : List ℕ). send lim m r.to r.serial outbox) memory_here ∙ send_is lim here here_sound r.to r.serial outbox

  send_done : (w : Result ℕ) → writing leaving outbox sent_bytes ≡ w
      → done lims ms (send_step r outbox) ≡ record { number = number_of w.answer; memory = memory_at ms r.from; sent = take (written w.answer) w.lent }
  unfolding done called
  send_done w e = ap (λ (a : Result ℕ). record { number = number_of a.answer; memory = memory_at ms r.from; sent = take (written a.answer) a.lent }) (sends_is ∙ e)

  -- 9 TO 14 REFUSE
  agree_six : first_no leaving ≡ first_no (first_six lims u r)
  agree_six = questions_agree lims fit k u label I r from_below to_below

  -- a round that its questions refuse leaves both runs as they were
  kept_refused : (n : ℕ) → first_no (round_checks lims u r) ≡ n → n ≢ 0 → round lims ms r outbox order ≡ record { outcome = refused_by n; memories = ms }
      → Kept lims k (ended (round_checks lims u r)) (round lims ms r outbox order) (undivided lims u r)
  kept_refused n e h round_is =
      let un = undivided_refuses lims u r _ refl ((refused_alike lims u r).0 (λ z. h (sym e ∙ z))) in
      let outcome : (round lims ms r outbox order).outcome ≡ refused_by n = ap (λ (z : Round). z.outcome) round_is in
      record {
        outcome_is = outcome ∙ sym (ended_refused (round_checks lims u r) n e h);
        refused_alike = ap is_refused outcome ∙ ap (λ (z : Undivided). is_refused z.outcome) (sym un);
        labels_now = label;
        inv_now = rw un I;
        memories_now = ap (λ (z : Round). z.memories) round_is ∙ ap (λ (z : Undivided). map (memory_of lims) (mesh_by k z.state label)) (sym un);
        never_unfinished = λ z. not_unfinished n (sym outcome ∙ z);
      }

  refused_six : first_no (first_six lims u r) ≢ 0 → Kept lims k (ended (round_checks lims u r)) (round lims ms r outbox order) (undivided lims u r)
  refused_six h =
      let n = first_no (first_six lims u r) in
      let left : first_no leaving ≢ 0 = λ e. h (sym agree_six ∙ e) in
      let full : first_no (with_fifteen leaving outbox sent_bytes) ≡ n = first_no_stays leaving _ left ∙ agree_six in
      let wrote = writing_refuses leaving outbox sent_bytes (λ e. h (sym full ∙ e)) in
      kept_refused n (ap first_no (round_split lims u r) ∙ first_no_stays (first_six lims u r) (last_two lims u r) h) h
      (round_unsent lims ms r outbox order _ (send_done _ wrote) (ne_eqb (first_no (with_fifteen leaving outbox sent_bytes)) 0 (λ e. h (sym full ∙ e)))
      ∙ ap (λ (z : ℕ). record { outcome = refused_by z; memories = ms }) full)

  -- 9 TO 14 LET PASS
  served_six : first_no (first_six lims u r) ≡ 0 → Served lims k u r
  served_six h =
      let v = cell u r.serial in
      let q9 = yes_first 9 (not (eqb r.to r.from)) _ (λ z. omega arith) h in
      let q10 = yes_first 10 (mem r.serial u.darts && eqb (u.number r.serial) r.from) _ (λ z. omega arith) q9.1 in
      let q11 = yes_first 11 (leb (length v) lim.volume_darts) _ (λ z. omega arith) q10.1 in
      let q12 = yes_first 12 (all (λ x. not (mem (th u x) v)) v) _ (λ z. omega arith) q11.1 in
      let q13 = yes_first 13 (pairs_once (vertex_pairs (nx u) (op u) v)) _ (λ z. omega arith) q12.1 in
      let q14 = yes_first 14 (ltb (u.count r.from + inner_faces u r.from v) (2 ^ 32)) _ (λ z. omega arith) q13.1 in
      record {
        from_below = from_below;
        to_below = to_below;
        apart_blocks = λ e. eqb-false r.to r.from (not-true _ q9.0) (sym e);
        start_mine = record { here = and_left (mem r.serial u.darts) _ q10.0; block = eqb-true (u.number r.serial) r.from (and_right (mem r.serial u.darts) _ q10.0) };
        few_darts = leb-true (length v) lim.volume_darts q11.0;
        leaves = λ x m. not-true (mem (th u x) v) (all_in (λ x. not (mem (th u x) v)) v q12.0 x m);
        pairs = q13.0;
        counter_fits = ltb-true _ _ q14.0;
      }

  module _ (six : first_no (first_six lims u r) ≡ 0) (enough : Enough lims ms r outbox) (any : Permᴰ order (last_steps r (sent_messages lims ms r outbox))) where
    abbrev S : Served lims k u r
    S = served_six six

    abbrev t₀ : Transfer
    t₀ = transfer_by lims fit k u label I r S

    abbrev sent_list : List (List ℕ)
    sent_list = framed transfer t₀ ∷ map (framed update) (updates_of here r.to r.serial)

    asks : first_no leaving ≡ 0
    asks = agree_six ∙ six

    positive_numbers : all (λ q. ltb 0 q.0) leaving ≡ true
    unfolding departure_checks
    positive_numbers = refl

    fifteen : first_no (with_fifteen leaving outbox sent_bytes) ≡ 0
    fifteen = by_cases (leb (length sent_bytes) (length outbox))
        (λ t. first_no_append leaving _ asks positive_numbers ∙ yes_then 15 _ [] t ∙ no_more)
        (λ t. let n : first_no (with_fifteen leaving outbox sent_bytes) ≡ 15 = first_no_append leaving _ asks positive_numbers ∙ no_here 15 _ [] t in
        absurd (enough (ap (λ (w : Result ℕ). number_of w.answer) (sends_is ∙ writing_refuses leaving outbox sent_bytes (λ z. let q = sym n ∙ z in omega arith)) ∙ n)))

    send_served : done lims ms (send_step r outbox) ≡ record { number = 0; memory = memory_at ms r.from; sent = sent_bytes }
    send_served = send_done _ (writing_serves leaving outbox sent_bytes fifteen)
        ∙ ap (λ (l : List ℕ). record { number = 0; memory = memory_at ms r.from; sent = l }) (take-append_seam sent_bytes (drop (length sent_bytes) outbox))

    cut_is : messages_in sent_bytes ≡ sent_list
    cut_is = cut_again lims fit k u label I r S

    sent_is : sent_messages lims ms r outbox ≡ sent_list
    unfolding sent_messages
    sent_is = ap (λ (d : Done). messages_in d.sent) send_served ∙ cut_is

    any_order : Permᴰ order (last_steps r sent_list)
    any_order = subst (λ (l : List (List ℕ)). Permᴰ order (last_steps r l)) sent_is any

    -- RECEIVE
    abbrev arriving : List Check
    arriving = receive_checks (lims r.to) there (a_transfer t₀)

    receives_is : receive (lims r.to) (memory_at ms r.to) (framed transfer t₀) ≡ storing (lims r.to) arriving (image (words_of (lims r.to)) there) (received there t₀)
    receives_is = ap (λ (m : List ℕ). receive (lims r.to) m (framed transfer t₀)) memory_there
        ∙ receive_is (lims r.to) there there_sound (framed transfer t₀)
        ∙ ap (λ (m : Message). storing (lims r.to) (receive_checks (lims r.to) there m) (image (words_of (lims r.to)) there) (received_from there m)) (transfer_read lims fit k u label I r S)

    receive_done : (w : Result (Unit {0})) → storing (lims r.to) arriving (image (words_of (lims r.to)) there) (received there t₀) ≡ w
        → done lims ms (receive_step r (messages_in sent_bytes)) ≡ record { number = number_of w.answer; memory = w.lent; sent = [] }
    receive_done w e = ap (λ (l : List (List ℕ)). done lims ms (receive_step r l)) cut_is ∙ one w e
      where
        one : (w : Result (Unit {0})) → storing (lims r.to) arriving (image (words_of (lims r.to)) there) (received there t₀) ≡ w
            → done lims ms (receive_step r sent_list) ≡ record { number = number_of w.answer; memory = w.lent; sent = [] }
        one w e = unfold done in unfold called in (ap (λ (a : Result (Unit {0})). record { number = number_of a.answer; memory = a.lent; sent = [] }) (receives_is ∙ e))

    arriving_is : first_no arriving ≡ first_no (last_two lims u r)
    arriving_is = receive_asks lims fit k u label I r S

    whole_checks : first_no (round_checks lims u r) ≡ first_no (last_two lims u r)
    whole_checks = ap first_no (round_split lims u r) ∙ first_no_append (first_six lims u r) _ six refl

    -- 29 or 21 refuses
    refused_there : first_no (last_two lims u r) ≢ 0 → Kept lims k (ended (round_checks lims u r)) (round lims ms r outbox order) (undivided lims u r)
    refused_there h =
        let no : first_no arriving ≢ 0 = λ z. h (sym arriving_is ∙ z) in
        let stored_is = storing_refuses (lims r.to) arriving (image (words_of (lims r.to)) there) (received there t₀) no in
        kept_refused (first_no (last_two lims u r)) whole_checks h
        (round_untaken lims ms r outbox order _ send_served refl _ (receive_done _ stored_is) (ne_eqb (first_no arriving) 0 no)
        ∙ as_it_was (first_no arriving) (first_no (last_two lims u r)) arriving_is)
      where
        as_it_was : (m n : ℕ) → m ≡ n → ◌≡◌ {A = Round} (record { outcome = refused_by m; memories = set ms r.to (image (words_of (lims r.to)) there) }) (record { outcome = refused_by n; memories = ms })
        as_it_was m n e = λ i. record { outcome = refused_by (e i); memories = (ap (set ms r.to) (sym memory_there) ∙ set-get_or ms r.to []) i }

    -- the cell moves
    moved_there : first_no (last_two lims u r) ≡ 0 → Kept lims k (ended (round_checks lims u r)) (round lims ms r outbox order) (undivided lims u r)
    moved_there n0 =
        let all_yes : first_no (round_checks lims u r) ≡ 0 = whole_checks ∙ n0 in
        let has = (yes_first 21 (has_room lims u r) [] (λ z. omega arith) (yes_first 29 _ ((21, has_room lims u r) ∷ []) (λ z. omega arith) n0).1).0 in
        let un : undivided lims u r ≡ record { outcome = finished; state = state_after lims fit k u label I r S } =
        undivided_serves lims u r ((refused_alike lims u r).1 all_yes) ∙ ap (λ (z : State). record { outcome = finished; state = z }) (after_is u r) in
        let stored_is = storing_serves (lims r.to) arriving (image (words_of (lims r.to)) there) (received there t₀) (arriving_is ∙ n0) in
        let lent : image (words_of (lims r.to)) (received there t₀) ≡ image (words_of (lims r.to)) (block_by (state_after lims fit k u label I r S) (labels_after lims fit k u label I r S) r.to) =
        ap (image (words_of (lims r.to))) (received_is lims fit k u label I r S)
        in
        let received-done = receive_done _ stored_is ∙ ap (λ (m : List ℕ). record { number = 0; memory = m; sent = [] }) lent in
        let round_is =
        round_taken lims ms r outbox order _ send_served refl _ received-done refl _
        (finishes lims fit k u label I r S asks order any_order)
        (memories_after lims fit k u label I r S asks order any_order)
        in
        let outcome : (round lims ms r outbox order).outcome ≡ finished = ap (λ (z : Round). z.outcome) round_is in
        record {
          outcome_is = outcome ∙ sym (ended_served (round_checks lims u r) all_yes);
          refused_alike = ap is_refused outcome ∙ ap (λ (z : Undivided). is_refused z.outcome) (sym un);
          labels_now = labels_after lims fit k u label I r S;
          inv_now = rw un (inv_after lims fit k u label I r S (leb-true _ _ has));
          memories_now = ap (λ (z : Round). z.memories) round_is ∙ ap (λ (z : Undivided). map (memory_of lims) (mesh_by k z.state (labels_after lims fit k u label I r S))) (sym un);
          never_unfinished = λ e. finished_not (sym outcome ∙ e);
        }

  pub keeps : Enough lims ms r outbox → Permᴰ order (last_steps r (sent_messages lims ms r outbox))
      → Kept lims k (ended (round_checks lims u r)) (round lims ms r outbox order) (undivided lims u r)
  keeps enough any = by_cases (eqb (first_no (first_six lims u r)) 0)
      (λ e. let six = eqb-true (first_no (first_six lims u r)) 0 e in by_cases (eqb (first_no (last_two lims u r)) 0)
      (λ z. moved_there six enough any (eqb-true _ 0 z))
      (λ z. refused_there six enough any (eqb-false _ 0 z)))
      (λ e. refused_six (eqb-false (first_no (first_six lims u r)) 0 e))
