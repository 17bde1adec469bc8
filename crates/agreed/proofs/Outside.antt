-- A request that names a block outside the mesh is refused by the number that the undivided run gives, and changes nothing. Assumes nothing.
use mathlib.Core.Path.{◌≡◌, refl, sym, ◌∙◌, ap}
use mathlib.Core.Logic.{◌≢◌, ⊎_elim}
use mathlib.Core.Bool.{Bool, true, false, true≢false, ◌&&◌}
use mathlib.Core.List.{List, [], ◌++◌, map}
use Prim.Native.Nat.{ℕ, ◌+◌, ◌*◌, ◌≤◌, ◌<◌}
use native.Mathlib.Omega.{arith}
use lib.Dec.{leb, ltb, eqb}
use lib.ListN.{length, get_or, set, length-map, get_or-eq_default}
use lib.Seq.{set_out}
use borrow.Author.Tests.{eqb-true, eqb-false, ne_eqb, lt-ltb, le-ltb}
use Rattle.model.specs.Lists.{all, mem, concat, first_no, Check}
use Rattle.model.specs.Values.{Label, Block, Limits, limits_in}
use Rattle.model.specs.Image.{words_of, image, block_in, memory_of, memory_checks}
use Rattle.model.specs.Messages.{message_in}
use Rattle.model.specs.Arrival.{receive_checks}
use Rattle.model.specs.Departure.{departure_checks, messages}
use Rattle.model.specs.Calls.{refused, number_of, Result, writing, send, receive}
use Rattle.model.specs.Runs.{Request, refused_by}
use Rattle.model.specs.UndividedRun.{State, inner_faces}
use Rattle.model.specs.DividedRun.{Step, Done, called, memory_at, done, messages_in, send_step, receive_step, round}
use Rattle.model.specs.Demands.{Enough}
use Rattle.laws.proofs.Tables.{getD_tab, map_tab, length_tab}
use Rattle.laws.proofs.Tests.{by_cases, lt_or_ge, and_left, and_right, yes_then, no_here, no_more, first_no_append, first_no_stays}
use Rattle.theory.proofs.CallLaws.{storing_refuses, with_fifteen, writing_serves, writing_refuses, send_is}
use Rattle.agreement.proofs.Agreement.{limits_fit}
use Rattle.agreement.proofs.BlockSound.{block_sound}
use Rattle.agreement.proofs.Described.{block_by, mesh_by, Inv, Mine, held_by}
use Rattle.agreement.proofs.MovedCell.{volume_same, twelve_same, pairs_same, sewn_same}
use Rattle.agreement.proofs.Numbers.{first_six}
use Rattle.agreed.specs.Course.{outside_checks}

-- A ROUND that ends early
module _ (viewers : ℕ) (ms : List (List ℕ)) (r : Request) (outbox : List ℕ) (order : List Step) where
  abbrev sent : Done
  sent = done (limits_in viewers) ms (send_step r outbox)

  unsent : (n : ℕ) → sent.number ≡ n → n ≢ 0 → round (limits_in viewers) ms r outbox order ≡ record { outcome = refused_by n; memories = ms }
  unfolding round
  unsent n e h = rw (e, ne_eqb n 0 h)

  untaken : sent.number ≡ 0 → (a : Done) → done (limits_in viewers) ms (receive_step r (messages_in sent.sent)) ≡ a → a.number ≢ 0
      → round (limits_in viewers) ms r outbox order ≡ record { outcome = refused_by a.number; memories = set ms r.to a.memory }
  unfolding round
  untaken z a takes h = rw (z, takes, ne_eqb a.number 0 h)

-- NO MEMORY, where there is no block
no_size : (lim : Limits) → eqb 0 (words_of lim) ≡ false
no_size lim = ne_eqb 0 (words_of lim) (λ e. let q : 0 ≡ 8 + 8 * lim.block_darts = e in omega arith)

nobody_sends : (lim : Limits) (to serial : ℕ) (outbox : List ℕ) → number_of (send lim [] to serial outbox).answer ≡ 1
unfolding send memory_checks
nobody_sends lim to serial outbox =
    let one : first_no (with_fifteen (memory_checks lim [] ++ departure_checks lim.volume_darts (block_in []) to serial) outbox (concat (messages (block_in []) to serial))) ≡ 1 =
    no_here 1 _ _ (no_size lim) in
    ap (λ (w : Result ℕ). number_of w.answer) (writing_refuses _ outbox _ (λ z. let e = sym one ∙ z in omega arith)) ∙ one

nobody_receives : (lim : Limits) (message : List ℕ) → receive lim [] message ≡ record { answer = refused 1; lent = [] }
unfolding receive memory_checks
nobody_receives lim message =
    let one : first_no (memory_checks lim [] ++ receive_checks lim (block_in []) (message_in message)) ≡ 1 = no_here 1 _ _ (no_size lim) in
    storing_refuses lim _ [] _ (λ z. let e = sym one ∙ z in omega arith) ∙ ap (λ (n : ℕ). record { answer = refused n; lent = [] }) one

module _ (viewers k : ℕ) (u : State) (label : ℕ → Label) (I : Inv (limits_in viewers) k u label) (r : Request) (outbox : List ℕ) (order : List Step) where
  abbrev ms : List (List ℕ)
  ms = map (memory_of (limits_in viewers)) (mesh_by k u label)

  abbrev i : ℕ
  i = r.from

  abbrev j : ℕ
  j = r.to

  abbrev s : ℕ
  s = r.serial

  abbrev six : List Check
  six = first_six (limits_in viewers) u r

  how_many : length ms ≡ k
  how_many = length-map (mesh_by k u label) (memory_of (limits_in viewers)) ∙ length_tab (block_by u label) k

  no_memory : (b : ℕ) → k ≤ b → memory_at ms b ≡ []
  no_memory b h = get_or-eq_default ms [] (let n = how_many in omega (arith, n, h))

  abbrev Refused : ℕ → Type 0
  Refused n = round (limits_in viewers) ms r outbox order ≡ record { outcome = refused_by n; memories = ms }

  -- NOBODY TO SEND
  sends_nothing : k ≤ i → (sent viewers ms r outbox order).number ≡ 1
  unfolding done called
  sends_nothing h = ap (λ (m : List ℕ). number_of (send (limits_in viewers i) m j s outbox).answer) (no_memory i h) ∙ nobody_sends (limits_in viewers i) j s outbox

  number_from : k ≤ i → first_no (outside_checks viewers k u r) ≡ 1
  unfolding outside_checks
  number_from h = no_here 1 (ltb i k) _ (le-ltb i k h)

  from_outside : k ≤ i → Refused (first_no (outside_checks viewers k u r))
  from_outside h = rw (number_from h) (unsent viewers ms r outbox order 1 (sends_nothing h) (λ z. omega (arith, z)))

  -- NOBODY TO RECEIVE
  module _ (below : i < k) (beyond : k ≤ j) where
    abbrev here : Block
    here = block_by u label i

    abbrev leaving : List Check
    leaving = departure_checks (limits_in viewers i).volume_darts here j s

    abbrev bytes : List ℕ
    bytes = concat (messages here j s)

    memory_here : memory_at ms i ≡ image (words_of (limits_in viewers i)) here
    unfolding block_by
    memory_here = rw (map_tab (memory_of (limits_in viewers)) (block_by u label) k) (getD_tab (λ c. memory_of (limits_in viewers) (block_by u label c)) k i [] below)

    sends_is : send (limits_in viewers i) (memory_at ms i) j s outbox ≡ writing leaving outbox bytes
    sends_is = ap (λ (m : List ℕ). send (limits_in viewers i) m j s outbox) memory_here ∙ send_is (limits_in viewers i) here (block_sound (limits_in viewers) k u label I i below) j s outbox

    sent_number : (sent viewers ms r outbox order).number ≡ number_of (writing leaving outbox bytes).answer
    unfolding done called
    sent_number = ap (λ (w : Result ℕ). number_of w.answer) sends_is

    receives_nothing : (messages : List (List ℕ)) → done (limits_in viewers) ms (receive_step r messages) ≡ record { number = 1; memory = []; sent = [] }
    unfolding done called
    receives_nothing messages =
        ap (λ (w : Result (Unit {0})). record { number = number_of w.answer; memory = w.lent; sent = [] })
        (ap (λ (m : List ℕ). receive (limits_in viewers j) m (get_or messages 0 [])) (no_memory j beyond) ∙ nobody_receives (limits_in viewers j) (get_or messages 0 []))

    -- the block's questions are the request's own
    checks_mine : leb j 15 ≡ true → Mine u i s → leaving ≡ six
    unfolding departure_checks block_by inner_faces
    checks_mine t m =
        rw (
          t,
          held_by u label i s,
          volume_same (limits_in viewers) (limits_fit viewers) k u label I i below s m,
          twelve_same (limits_in viewers) (limits_fit viewers) k u label I i below s m,
          pairs_same (limits_in viewers) (limits_fit viewers) k u label I i below s m,
          sewn_same (limits_in viewers) (limits_fit viewers) k u label I i below s m,
        )

    checks_other : leb j 15 ≡ true → (mem s u.darts && eqb (u.number s) i) ≡ false → first_no leaving ≡ first_no six
    unfolding departure_checks block_by first_no
    checks_other t n = rw (t, held_by u label i s, n)

    same_six : leb j 15 ≡ true → first_no leaving ≡ first_no six
    same_six t = by_cases (mem s u.darts && eqb (u.number s) i)
        (λ e. ap first_no (checks_mine t (record { here = and_left (mem s u.darts) _ e; block = eqb-true (u.number s) i (and_right (mem s u.darts) _ e) })))
        (checks_other t)

    too_far : leb j 15 ≡ false → first_no leaving ≡ 9
    unfolding departure_checks
    too_far t = no_here 9 _ _ (rw t)

    -- refused by send
    refused_here : (n : ℕ) → first_no leaving ≡ n → n ≢ 0 → Refused n
    refused_here n e h =
        let full : first_no (with_fifteen leaving outbox bytes) ≡ n = first_no_stays leaving _ (λ z. h (sym e ∙ z)) ∙ e in
        unsent viewers ms r outbox order n (sent_number ∙ ap (λ (w : Result ℕ). number_of w.answer) (writing_refuses leaving outbox bytes (λ z. h (sym full ∙ z))) ∙ full) h

    positive : all (λ q. ltb 0 q.0) leaving ≡ true
    unfolding departure_checks
    positive = refl

    -- sent, and refused where nobody is
    sent_there : Enough (limits_in viewers) ms r outbox → first_no leaving ≡ 0 → (sent viewers ms r outbox order).number ≡ 0
    sent_there enough e = by_cases (leb (length bytes) (length outbox))
        (λ t. let full = first_no_append leaving _ e positive ∙ yes_then 15 _ [] t ∙ no_more in
        sent_number ∙ ap (λ (w : Result ℕ). number_of w.answer) (writing_serves leaving outbox bytes full))
        (λ t. let full : first_no (with_fifteen leaving outbox bytes) ≡ 15 = first_no_append leaving _ e positive ∙ no_here 15 _ [] t in
        absurd (enough (ap (λ (w : Result ℕ). number_of w.answer) (sends_is ∙ writing_refuses leaving outbox bytes (λ z. let q = sym full ∙ z in omega (arith, q))) ∙ full)))

    refused_there : Enough (limits_in viewers) ms r outbox → first_no leaving ≡ 0 → Refused 1
    refused_there enough e =
        untaken viewers ms r outbox order (sent_there enough e) _ (receives_nothing (messages_in (sent viewers ms r outbox order).sent)) (λ z. let q : ◌≡◌ {A = ℕ} 1 0 = z in omega arith)
        ∙ ap (λ (x : List (List ℕ)). record { outcome = refused_by 1; memories = x }) (set_out ms j [] (let n = how_many in omega (arith, n, beyond)))

    -- the number: the destination's, the request's own, or that nobody is there
    number_far : leb j 15 ≡ false → first_no (outside_checks viewers k u r) ≡ 9
    unfolding outside_checks
    number_far t = yes_then 1 (ltb i k) _ (lt-ltb i k below) ∙ no_here 9 _ _ t

    number_own : leb j 15 ≡ true → first_no six ≢ 0 → first_no (outside_checks viewers k u r) ≡ first_no six
    unfolding outside_checks
    number_own t h = yes_then 1 (ltb i k) _ (lt-ltb i k below) ∙ yes_then 9 _ _ t ∙ first_no_stays six _ h

    number_none : leb j 15 ≡ true → first_no six ≡ 0 → first_no (outside_checks viewers k u r) ≡ 1
    unfolding outside_checks
    number_none t z = yes_then 1 (ltb i k) _ (lt-ltb i k below) ∙ yes_then 9 _ _ t ∙ first_no_append six _ z refl ∙ no_here _ false [] refl

    to_outside : Enough (limits_in viewers) ms r outbox → Refused (first_no (outside_checks viewers k u r))
    to_outside enough = by_cases (leb j 15)
        (λ t. by_cases (eqb (first_no six) 0)
        (λ e. let z = eqb-true (first_no six) 0 e in rw (number_none t z) (refused_there enough (same_six t ∙ z)))
        (λ e. let h = eqb-false (first_no six) 0 e in rw (number_own t h) (refused_here (first_no six) (same_six t) h)))
        (λ t. rw (number_far t) (refused_here 9 (too_far t) (λ z. omega (arith, z))))

  -- ANY REQUEST that names a block outside
  pub refused_outside : (ltb i k && ltb j k) ≡ false → Enough (limits_in viewers) ms r outbox → Refused (first_no (outside_checks viewers k u r))
  refused_outside n enough = ⊎_elim
      (λ (below : i < k). ⊎_elim (λ (inside : j < k). absurd (both below inside)) (λ (beyond : k ≤ j). to_outside below beyond enough) (lt_or_ge j k))
      (λ (h : k ≤ i). from_outside h)
      (lt_or_ge i k)
    where
      both : i < k → j < k → ⊥
      both a b = let e : ◌≡◌ {A = Bool} true false = sym (rw (lt-ltb i k a, lt-ltb j k b)) ∙ n in true≢false e
