-- DEMAND 3: the divided run and the undivided run agree on every list of requests, from any sound mesh. Assumes nothing.
--
-- The divided run is DividedRun.round: it is built from Calls.send, receive, release and redirect, the definitions that the contracts of the calls
-- cite, on memories and bytes. So the theorem is about the calls.
--
-- Wrong programs that it excludes, and the clause that does:
--   a round that takes and only pretends to release or to redirect     the mesh is sound after every request (two darts would have a serial, or
--                                                                      a label would not be paired)
--   one that moves nothing                                             each block has the same cells
--   one that refuses all                                               exactly the same requests are refused
--   labels in the wrong direction                                      same third links
--   a number used again                                                equal counts, and a sound mesh's labels lie below them
-- They are edits of the crate model that must fail: pretend_release, pretend_redirect, moves_nothing, own_direction, number_again.
use mathlib.Core.Path.{◌≡◌, refl, sym, ◌∙◌, ap, subst}
use mathlib.Core.Bool.{false, ◌&&◌}
use mathlib.Core.List.{List, [], ◌∷◌, map, Permᴰ}
use Prim.Native.Nat.{ℕ, ◌≤◌}
use native.Mathlib.Omega.{arith}
use lib.Dec.{ltb, eqb}
use lib.ListN.{length}
use borrow.Author.Tests.{ltb-true}
use Rattle.model.specs.Lists.{first_no, Check}
use Rattle.model.specs.Values.{room, message_darts, Label, Block, Limits, rack, viewer, is_viewer, limits_in}
use Rattle.model.specs.Sound.{Sound, Fit}
use Rattle.model.specs.Image.{memory_of}
use Rattle.model.specs.Runs.{Request, Outcome}
use Rattle.model.specs.UndividedRun.{State, start, request_checks, round_checks, Undivided, undivided}
use Rattle.model.specs.DividedRun.{last_steps, sent_messages, Round, round}
use Rattle.model.specs.Demands.{Demand1, Demand2, Claim, Agree, Enough, AfterEvery, Named, Demand3, ended, RoundNumbers, too_large_there, SameNumbers}
use Rattle.laws.proofs.Tests.{by_cases, and_left, and_right}
use Rattle.theory.proofs.CallLaws.{demand1}
use Rattle.theory.proofs.MessagesExact.{demand2}
use Rattle.agreement.proofs.Begins.{start_label, described, start_inv}
use Rattle.agreement.proofs.Described.{mesh_by, Inv}
use Rattle.agreement.proofs.Keeps.{Kept, keeps}
use Rattle.agreement.proofs.MeshSound.{says}
use Rattle.agreement.proofs.Numbers.{numbers_alike}

-- along a list, by what one request keeps
module _ (lims : ℕ → Limits) (fit : Fit lims) (claim : Claim) (k : ℕ)
    (from-kept : (u : State) (r : Request) (d : Round) (w : Undivided) → w ≡ undivided lims u r → Kept lims k (ended (round_checks lims u r)) d w → claim u r d w) where
  along : (rs : List Request) (ms : List (List ℕ)) (u : State) (label : ℕ → Label) → Inv lims k u label → ms ≡ map (memory_of lims) (mesh_by k u label) → Named k rs → AfterEvery claim lims ms u rs
  along [] ms u label I e named = tt
  along (r ∷ rs) ms u label I e named = λ outbox order enough any.
      let both = and_left (ltb r.from k && ltb r.to k) _ named in
      let kept = subst
      (λ (m : List (List ℕ)). Enough lims m r outbox → Permᴰ order (last_steps r (sent_messages lims m r outbox)) → Kept lims
      k (ended (round_checks lims u r)) (round lims m r outbox order) (undivided lims u r)) (sym e)
      (keeps lims fit k u label I r (ltb-true r.from k (and_left (ltb r.from k) _ both)) (ltb-true r.to k (and_right (ltb r.from k) _ both)) outbox order) enough any in (
        from-kept u r (round lims ms r outbox order) (undivided lims u r) refl kept,
        along rs (round lims ms r outbox order).memories (undivided lims u r).state kept.labels_now kept.inv_now kept.memories_now (and_right (ltb r.from k && ltb r.to k) _ named),
      )

module _ (lims : ℕ → Limits) (fit : Fit lims) where
  agree : (k : ℕ) {o : Outcome} (d : Round) (w : Undivided) → Kept lims k o d w → Agree lims d w
  agree k d w q = record {
    -- exactly the same requests are refused
    refused_alike = q.refused_alike;
    -- every round whose cell was taken finishes
    finishes = q.never_unfinished;
    -- the memories are a sound mesh's images, with the undivided run's whole map, cells and counts
    matches = says lims k w.state q.labels_now q.inv_now d.memories q.memories_now;
  }

  started : (m : List Block) (sound : Sound lims m) → map (memory_of lims) m ≡ map (memory_of lims) (mesh_by (length m) (start m) (start_label lims m sound))
  started m sound = ap (map (memory_of lims)) (described lims m sound)

  -- from any sound mesh, for any list of requests whose blocks are in the mesh, any outboxes that are long enough and any order of the last
  -- steps of each round
  pub agreement : Demand3 lims
  agreement m rs sound named = (
    says lims (length m) (start m) (start_label lims m sound) (start_inv lims m sound) (map (memory_of lims) m) (started m sound),
    along lims fit (λ u r. Agree lims) (length m) (λ u r d w e. agree (length m) d w) rs (map (memory_of lims) m) (start m) (start_label lims m sound) (start_inv lims m sound) (started m sound) named,
  )

  -- the number of every round
  pub round_numbers : RoundNumbers lims
  round_numbers m rs sound named =
      along lims fit (λ u r d w. d.outcome ≡ ended (round_checks lims u r)) (length m) (λ u r d w e q. q.outcome_is)
      rs (map (memory_of lims) m) (start m) (start_label lims m sound) (start_inv lims m sound) (started m sound) named

  -- how an undivided request ends, by its questions
  ends_by : (u : State) (r : Request) → (undivided lims u r).outcome ≡ ended (request_checks lims u r)
  unfolding undivided
  ends_by u r = by_cases (eqb (first_no (request_checks lims u r)) 0) (λ e. rw e) (λ e. rw e)

  -- and by the same number, unless the destination may not take what the sender may send
  pub same_numbers : SameNumbers lims
  same_numbers m rs sound named =
      along lims fit (λ u r d w. too_large_there lims u r ≡ false → d.outcome ≡ w.outcome) (length m)
      (λ u r d w e q small. q.outcome_is ∙ ended_same _ _ (numbers_alike lims u r small) ∙ sym (ends_by u r) ∙ ap (λ (z : Undivided). z.outcome) (sym e))
      rs (map (memory_of lims) m) (start m) (start_label lims m sound) (start_inv lims m sound) (started m sound) named
    where
      ended_same : (ps qs : List Check) → first_no ps ≡ first_no qs → ended ps ≡ ended qs
      ended_same ps qs e = rw e

-- EVERY SET OF VIEWERS: each demand, with no hypothesis left
pub limits_fit : (viewers : ℕ) → Fit (limits_in viewers)
limits_fit viewers = record { block_fits = λ b. (each b).0; volume_fits = λ b. (each b).1 }
  where
    each : (b : ℕ) → ((limits_in viewers b).block_darts ≤ room) × ((limits_in viewers b).volume_darts ≤ message_darts)
    each b = by_cases (is_viewer viewers b)
        (λ e. unfold limits_in in (rw e (omega arith, omega arith)))
        (λ e. unfold limits_in in (rw e (omega arith, omega arith)))

-- one set of facts, for both callers
pub rack_demand1 : (viewers : ℕ) → Demand1 rack (limits_in viewers)
rack_demand1 viewers = demand1 rack (limits_in viewers)

pub viewer_demand1 : (viewers : ℕ) → Demand1 viewer (limits_in viewers)
viewer_demand1 viewers = demand1 viewer (limits_in viewers)

-- of files and of messages
pub rack_demand2 : Demand2 rack
rack_demand2 = demand2 rack (omega arith) (omega arith)

pub viewer_demand2 : Demand2 viewer
viewer_demand2 = demand2 viewer (omega arith) (omega arith)

pub mesh_agreement : (viewers : ℕ) → Demand3 (limits_in viewers)
mesh_agreement viewers = agreement (limits_in viewers) (limits_fit viewers)

pub mesh_round_numbers : (viewers : ℕ) → RoundNumbers (limits_in viewers)
mesh_round_numbers viewers = round_numbers (limits_in viewers) (limits_fit viewers)

pub mesh_same_numbers : (viewers : ℕ) → SameNumbers (limits_in viewers)
mesh_same_numbers viewers = same_numbers (limits_in viewers) (limits_fit viewers)
