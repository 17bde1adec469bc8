-- Requests played one after the other: one more. Assumes nothing.
use mathlib.Core.Path.{◌≡◌, refl, sym, ◌∙◌, ap}
use mathlib.Core.Bool.{Bool, true}
use mathlib.Core.List.{List, [], ◌∷◌, ◌++◌, map, append_assoc}
use Prim.Native.Nat.{ℕ, suc, ◌+◌, ◌/◌, ◌≤◌, ◌<◌}
use native.Mathlib.Omega.{arith}
use native.Mathlib.Numerals.{add-one}
use lib.Dec.{leb, ltb, eqb}
use lib.ListN.{length, get_or, set, take, drop, length-append, length-drop, length-set, length-map}
use lib.Seq.{take-suc, take_all, drop-cons, set_at, length-take-le}
use borrow.Author.Tests.{eqb-true, eqb-false, leb-true}
use Rattle.model.specs.Lists.{all, first_no, Check}
use Rattle.model.specs.Image.{memory_checks}
use Rattle.model.specs.Departure.{departure_checks}
use Rattle.model.specs.Calls.{Result, writing, send}
use Rattle.model.specs.DividedRun.{Round}
use Rattle.model.specs.Runs.{Request}
use Rattle.laws.proofs.Members.{map_append}
use Rattle.laws.proofs.Tables.{length_tab, getD_tab}
use Rattle.laws.proofs.Tests.{by_cases, yes_first, first_no_append, first_no_left}
use Rattle.theory.proofs.CallLaws.{with_fifteen, writing_serves, writing_refuses}
use Rattle.rounds.specs.Played.{own_memories, asks_for, outcome_of, round_in_order, outbox_after, Played}
use Rattle.rounds.proofs.Placed.{nothing_changed, then_elsewhere}
use Rattle.rounds.specs.declared.Outcome.{Outcome}
use Rattle.rounds.specs.Requests.{request_at, requests_in, outcome_number, PlayedRun, played_run, over_words, PlayedOne, RequestsListed, PlayedAll}

-- THE OUTBOX keeps its length
fifteen_yes : (qs : List Check) (b : Bool) → all (λ q. ltb 0 q.0) qs ≡ true → first_no (qs ++ (15, b) ∷ []) ≡ 0 → b ≡ true
fifteen_yes qs b h e = (yes_first 15 b [] (λ z. omega arith) (sym (first_no_append qs ((15, b) ∷ []) (first_no_left qs _ e) h) ∙ e)).0

writing_length : (qs : List Check) (out bytes : List ℕ) → all (λ q. ltb 0 q.0) qs ≡ true → length (writing qs out bytes).lent ≡ length out
writing_length qs out bytes h = by_cases (eqb (first_no (with_fifteen qs out bytes)) 0)
    (λ e.
    let z = eqb-true (first_no (with_fifteen qs out bytes)) 0 e in
    let fits = leb-true (length bytes) (length out) (fifteen_yes qs (leb (length bytes) (length out)) h z) in
    let d = length-drop (length bytes) out in
    ap (λ (r : Result ℕ). length r.lent) (writing_serves qs out bytes z) ∙ length-append bytes (drop (length bytes) out) ∙ omega (arith, d, fits))
    (λ e. ap (λ (r : Result ℕ). length r.lent) (writing_refuses qs out bytes (eqb-false (first_no (with_fifteen qs out bytes)) 0 e)))

pub outbox_length : (viewers : ℕ) (ms : List (List ℕ)) (r : Request) (outbox : List ℕ) → length (outbox_after viewers ms r outbox) ≡ length outbox
unfolding send memory_checks departure_checks
outbox_length viewers ms r outbox = writing_length _ outbox _ refl

-- a run, and one request more
abbrev then_one : ℕ → PlayedRun → Request → PlayedRun
then_one viewers d r =
    let last = round_in_order viewers d.memories r d.outbox in
    record { outcomes = d.outcomes ++ last.outcome ∷ []; memories = last.memories; outbox = outbox_after viewers d.memories r d.outbox }

pub run_more : (viewers : ℕ) (ms : List (List ℕ)) (outbox : List ℕ) (rs : List Request) (r : Request) → played_run viewers ms outbox (rs ++ r ∷ []) ≡ then_one viewers (played_run viewers ms outbox rs) r
unfolding played_run
run_more viewers ms outbox [] r = refl
run_more viewers ms outbox (x ∷ rs) r =
    ap (λ (d : PlayedRun). record { outcomes = (round_in_order viewers ms x outbox).outcome ∷ d.outcomes; memories = d.memories; outbox = d.outbox })
    (run_more viewers (round_in_order viewers ms x outbox).memories (outbox_after viewers ms x outbox) rs r)

pub run_length : (viewers : ℕ) (ms : List (List ℕ)) (outbox : List ℕ) (rs : List Request) → length (played_run viewers ms outbox rs).outcomes ≡ length rs
unfolding played_run
run_length viewers ms outbox [] = refl
run_length viewers ms outbox (x ∷ rs) = ap suc (run_length viewers (round_in_order viewers ms x outbox).memories (outbox_after viewers ms x outbox) rs)

-- one value more
pub over_more : (xs l : List ℕ) (i v : ℕ) → length xs ≡ i → i < length l → set (over_words xs l) i v ≡ over_words (xs ++ v ∷ []) l
over_more xs l i v e h =
    ap (λ (t : List ℕ). set (xs ++ t) i v) (drop-cons l (length xs) 0 (omega (arith, e, h)))
    ∙ set_at xs (get_or l (length xs) 0) (drop (suc (length xs)) l) v i e
    ∙ sym (append_assoc xs (v ∷ []) (drop (length (xs ++ v ∷ [])) l) ∙ ap (λ (n : ℕ). xs ++ v ∷ drop n l) (length-append xs (v ∷ []) ∙ add-one (length xs)))

-- THE REQUESTS
pub requests_length : (l : List ℕ) → length (requests_in l) ≡ length l / 3
unfolding requests_in
requests_length l = length_tab (request_at l) (length l / 3)

no_request : Request
no_request = asks_for 0 0 0

next_request : (l : List ℕ) (i : ℕ) → i < length l / 3 → take (i + 1) (requests_in l) ≡ take i (requests_in l) ++ request_at l i ∷ []
unfolding requests_in
next_request l i h = rw (add-one i) (
    take-suc (requests_in l) i no_request (rw (requests_length l) h)
    ∙ ap (λ (r : Request). take i (requests_in l) ++ r ∷ []) (getD_tab (request_at l) (length l / 3) i no_request h))

-- a round, and the number of its outcome
pub one_played : {viewers : ℕ} {m outbox m' outbox' : List ℕ} {from to serial n : ℕ} {o : Outcome} → n ≡ outcome_number (outcome_of o)
    → Played viewers m from to serial outbox o m' outbox' → PlayedOne viewers m (asks_for from to serial) outbox n m' outbox'
one_played e p = record {
  number_is = e ∙ ap outcome_number p.outcome_is;
  memories_are = p.memories_are;
  elsewhere = p.elsewhere;
  outbox_is = p.outbox_is;
}

-- THE LOOP: the requests before i are played
pub record Playing (viewers : ℕ) (m requests outcomes outbox : List ℕ) (i : ℕ) (m' outcomes' outbox' : List ℕ) : Type 0 where
  pub asked : i ≤ length requests / 3
  pub within : i ≤ length outcomes
  pub room : length outcomes' ≡ length outcomes
  pub outbox_room : length outbox' ≡ length outbox
  pub listed : RequestsListed viewers m (take i (requests_in requests)) outcomes outbox m' outcomes' outbox'

pub none_played : (viewers : ℕ) (m requests outcomes outbox : List ℕ) → Playing viewers m requests outcomes outbox 0 m outcomes outbox
unfolding played_run
none_played viewers m requests outcomes outbox = record {
  asked = omega arith;
  within = omega arith;
  room = refl;
  outbox_room = refl;
  listed = record { outcomes_are = refl; memories_are = refl; elsewhere = nothing_changed viewers m; outbox_is = refl };
}

module _ {viewers : ℕ} {m requests outcomes outbox : List ℕ} {i : ℕ} {m' outcomes' outbox' : List ℕ} (w : Playing viewers m requests outcomes outbox i m' outcomes' outbox') where
  abbrev before : PlayedRun
  before = played_run viewers (own_memories viewers m) outbox (take i (requests_in requests))

  pub one_more : i < length requests / 3 → i < length outcomes → (n : ℕ) {m'' outbox'' : List ℕ} → PlayedOne viewers m' (request_at requests i) outbox' n m'' outbox''
      → Playing viewers m requests outcomes outbox (i + 1) m'' (set outcomes' i n) outbox''
  one_more h k n p =
      let r = request_at requests i in
      let e : played_run viewers (own_memories viewers m) outbox (take (i + 1) (requests_in requests)) ≡ then_one viewers before r =
      ap (played_run viewers (own_memories viewers m) outbox) (next_request requests i h) ∙ run_more viewers (own_memories viewers m) outbox (take i (requests_in requests)) r in
      let here = w.listed.memories_are in
      let out = w.listed.outbox_is in
      let q : round_in_order viewers (own_memories viewers m') r outbox' ≡ round_in_order viewers before.memories r before.outbox = rw (here, out) in
      let lent : outbox_after viewers (own_memories viewers m') r outbox' ≡ outbox_after viewers before.memories r before.outbox = rw (here, out) in
      let wide = w.room in
      let sized = length-take-le i (requests_in requests) (omega (arith, requests_length requests, h)) in
      let many : length (map outcome_number before.outcomes) ≡ i =
      length-map before.outcomes outcome_number ∙ run_length viewers (own_memories viewers m) outbox (take i (requests_in requests)) ∙ sized in
      record {
        asked = omega (arith, h);
        within = omega (arith, k, wide);
        room = length-set outcomes' i n ∙ wide;
        outbox_room = ap length p.outbox_is ∙ outbox_length viewers (own_memories viewers m') r outbox' ∙ w.outbox_room;
        listed = record {
          outcomes_are = ap (λ (l : List ℕ). set l i n) w.listed.outcomes_are
              ∙ over_more (map outcome_number before.outcomes) outcomes i n many (omega (arith, k, wide))
              ∙ ap (λ (x : ℕ). over_words (map outcome_number before.outcomes ++ x ∷ []) outcomes) (p.number_is ∙ ap (λ (x : Round). outcome_number x.outcome) q)
              ∙ sym (ap (λ (l : List ℕ). over_words l outcomes) (ap (λ (d : PlayedRun). map outcome_number d.outcomes) e ∙ map_append outcome_number before.outcomes _));
          memories_are = p.memories_are ∙ ap (λ (x : Round). x.memories) q ∙ sym (ap (λ (d : PlayedRun). d.memories) e);
          elsewhere = then_elsewhere viewers w.listed.elsewhere p.elsewhere;
          outbox_is = p.outbox_is ∙ lent ∙ sym (ap (λ (d : PlayedRun). d.outbox) e);
        };
      }

  same_requests : take i (requests_in requests) ≡ take (length outcomes) (requests_in requests) → PlayedAll viewers m requests outcomes outbox m' outcomes' outbox'
  same_requests e = rw e at w.listed

  -- no room for another outcome
  pub no_room : length outcomes ≤ i → PlayedAll viewers m requests outcomes outbox m' outcomes' outbox'
  no_room h =
      let a = w.within in
      let b = w.room in
      let e : i ≡ length outcomes = omega (arith, a, b, h) in
      same_requests (ap (λ (n : ℕ). take n (requests_in requests)) e)

  -- no request left
  pub no_request_left : length requests / 3 ≤ i → PlayedAll viewers m requests outcomes outbox m' outcomes' outbox'
  no_request_left h =
      let l = requests_length requests in
      let a = w.within in
      same_requests (take_all i (requests_in requests) (omega (arith, l, h)) ∙ sym (take_all (length outcomes) (requests_in requests) (omega (arith, l, h, a))))
