-- Balancing a sound mesh ends level, blocked or full, or is refused by 28 alone. Assumes nothing.
use mathlib.Core.Path.{◌≡◌, refl, sym, ◌∙◌, ap, subst}
use mathlib.Core.Bool.{true, false}
use mathlib.Core.List.Permᴰ
use mathlib.Core.List.{List, [], ◌∷◌, ◌++◌, map}
use Prim.Native.Nat.{ℕ, zero, suc, ◌+◌, ◌*◌, ◌≤◌}
use native.Mathlib.Omega.{arith}
use lib.Dec.{ltb}
use lib.ListN.{get_or}
use borrow.Author.Tests.{leb-true}
use Rattle.model.specs.Lists.{all, first_no, concat, Check}
use Rattle.model.specs.Values.{Block, limits_in}
use Rattle.model.specs.Sound.{Sound, mesh_checks}
use Rattle.model.specs.Image.{words, image, memory_of, block_in}
use Rattle.model.specs.Balance as balance
use Rattle.model.specs.Balance.{Oracle, oracle_right, counts, squared_counts, differences, Move, move, NextMove, is_level, next_of, Balance, balance_of}
use Rattle.model.specs.Calls.{Answer, served, refused, Result, memories, whole_mesh_checks, next_move}
use Rattle.model.specs.Runs.{Request, finished}
use Rattle.model.specs.DividedRun.{memory_at, last_steps, sent_messages, Round}
use Rattle.model.specs.Demands.{Answers}
use Rattle.laws.proofs.Tests.{by_cases, yes_then, no_here, no_more, first_no_append}
use Rattle.theory.proofs.CallLaws.{served_gives, refused_gives}
use Rattle.theory.proofs.MeshLaws.{sound_passes}
use Rattle.agreement.proofs.Agreement.{limits_fit}
use Rattle.soundness.proofs.OutboxLength.{outbox_suffices}
use Rattle.balancing.proofs.Chosen.{mesh_read, chosen}
use Rattle.balancing.proofs.Levels.{said_level}
use Rattle.balancing.proofs.Lowers.{move_gives}
use Rattle.balancing.proofs.Sums.{Given, squares_fall, gaps_fall, gaps_two}
use Rattle.rounds.specs.Played.{own_memories, round_in_order, outbox_after}
use Rattle.rounds.specs.Requests as list
use Rattle.rounds.proofs.Requests.{outbox_length}
use Rattle.agreed.specs.Promise.{Agreed}
use Rattle.agreed.proofs.Lists.{lists_agree}
use Rattle.rebalance.specs.Turn as step
use Rattle.rebalance.specs.Turn.{Turn, still, ending_by, next_answer, asked_next, turn, turn_by, round_turn}
use Rattle.rebalance.specs.Balanced.{Stop, level, blocked, full, unfinished, refused_by, BalancingRun, stopped, moved_first, with_memories, stop_by, after_step, balanced}
use Rattle.rebalance.specs.Promise.{ends_well, as_request, Levels, Lent, EndsWell}
use Rattle.rebalance.proofs.Rooms.{whole_again, own_lent, with_images}

-- STOPS are told apart
number_of_stop : Stop → ℕ
number_of_stop level = 0
number_of_stop blocked = 1
number_of_stop full = 2
number_of_stop unfinished = 3
number_of_stop (refused_by n) = 4

level_not_full : level ≡ full → ⊥
unfolding number_of_stop
level_not_full e = let z = ap number_of_stop e in omega (arith, z)

blocked_not_full : blocked ≡ full → ⊥
unfolding number_of_stop
blocked_not_full e = let z = ap number_of_stop e in omega (arith, z)

blocked_not_level : blocked ≡ level → ⊥
unfolding number_of_stop
blocked_not_level e = let z = ap number_of_stop e in omega (arith, z)

full_not_level : full ≡ level → ⊥
unfolding number_of_stop
full_not_level e = let z = ap number_of_stop e in omega (arith, z)

refused_not_full : refused_by 28 ≡ full → ⊥
unfolding number_of_stop
refused_not_full e = let z = ap number_of_stop e in omega (arith, z)

refused_not_level : refused_by 28 ≡ level → ⊥
unfolding number_of_stop
refused_not_level e = let z = ap number_of_stop e in omega (arith, z)

-- A SOUND MESH as it is lent
module _ (viewers : ℕ) (bs : List Block) (sound : Sound (limits_in viewers) bs) where
  abbrev lent : List ℕ
  lent = concat (map (image words) bs)

  abbrev blocks_now : List (List ℕ)
  blocks_now = map (memory_of (limits_in viewers)) bs

  -- THE NEXT MOVE is asked for, and refused by 28 alone
  module _ (o : Oracle) (scratch outbox : List ℕ) (L : Lent scratch outbox) where
    abbrev asks : List Check
    asks = whole_mesh_checks (limits_in viewers) lent scratch

    abbrev given : Answer NextMove
    given = asked_next viewers lent o scratch

    mesh_asked : first_no asks ≡ 0
    mesh_asked = sound_passes (limits_in viewers) (limits_fit viewers) bs scratch sound L.entries L.zeros

    positive : all (λ q. ltb 0 q.0) asks ≡ true
    unfolding whole_mesh_checks mesh_checks
    positive = refl

    oracle_asked : first_no (asks ++ (28, oracle_right o) ∷ []) ≡ first_no ((28, oracle_right o) ∷ [])
    oracle_asked = first_no_append asks _ mesh_asked positive

    asked_right : oracle_right o ≡ true → (next_move (limits_in viewers) lent o scratch).answer ≡ served (balance_of (limits_in viewers) o bs)
    unfolding next_move
    asked_right t = ap (λ (r : Result Balance). r.answer)
        (served_gives (asks ++ (28, oracle_right o) ∷ []) scratch (balance_of (limits_in viewers) o (map block_in (memories lent))) scratch (oracle_asked ∙ yes_then 28 (oracle_right o) [] t ∙ no_more))
        ∙ ap (λ (l : List Block). served (balance_of (limits_in viewers) o l)) (mesh_read (limits_in viewers) (limits_fit viewers) bs sound)

    given_right : oracle_right o ≡ true → (a : NextMove) → next_of (limits_in viewers) o bs ≡ a → given ≡ served a
    unfolding balance_of
    given_right t a e = ap next_answer (asked_right t) ∙ ap served e

    answers : oracle_right o ≡ true → (t : Move) → next_of (limits_in viewers) o bs ≡ move t → Answers (limits_in viewers) o bs t
    unfolding balance_of
    answers right t e = (scratch, balance_of (limits_in viewers) o bs, asked_right right, e)

    asked_wrong : oracle_right o ≡ false → given ≡ refused 28
    unfolding next_move
    asked_wrong t =
        let n = oracle_asked ∙ no_here 28 (oracle_right o) [] t in
        ap (λ (r : Result Balance). next_answer r.answer)
        (refused_gives (asks ++ (28, oracle_right o) ∷ []) scratch (balance_of (limits_in viewers) o (map block_in (memories lent))) scratch (λ z. let q = sym n ∙ z in omega (arith, q)))
        ∙ ap refused n

    -- NO MOVE: balancing ends there
    abbrev here : Stop → BalancingRun
    here e = stopped e lent outbox

    abbrev Stops : step.End → Stop → Type 0
    Stops e s = (m l : List ℕ) (r : BalancingRun) → after_step e m l r ≡ stopped s m l

    abbrev Ends : ℕ → Type 0
    Ends n = Levels viewers n bs o scratch outbox (balanced viewers n lent o scratch outbox)

    -- what is to be shown of such an end
    record Stopping (n : ℕ) (e : Stop) : Type 0 where
      well : ends_well o e ≡ true
      fully : e ≡ full → (0 ≡ n) × (n * 2 + 2 ≤ differences o bs)
      levelled : e ≡ level → is_level (counts o bs) ≡ true

    stays : (n : ℕ) (e : Stop) → Stopping n e → e ≡ stop_by given → Levels viewers n bs o scratch outbox (here e)
    unfolding list.played_run
    stays n e w l = record {
      after = bs;
      ended = record {
        ends = w.well;
        full_means = w.fully;
        level_means = w.levelled;
        differences_fall = omega arith;
        squares_fall = omega arith;
        sound = sound;
        same_map = λ x. refl;
      };
      last = l;
      mesh_is = refl;
      outcomes_again = refl;
      memories_again = refl;
    }

    -- a step that moves nothing is the last
    still_here : (n : ℕ) (e : step.End) (s : Stop) → turn viewers lent o scratch outbox ≡ still viewers lent outbox e → Stops e s → balanced viewers (suc n) lent o scratch outbox ≡ here s
    unfolding balanced
    still_here n e s t ends =
        ap (λ (T : Turn). after_step T.ending (with_memories viewers lent T.memories) T.outbox (balanced viewers n (with_memories viewers lent T.memories) o scratch T.outbox)) t
        ∙ ends (with_memories viewers lent (own_memories viewers lent)) outbox _ ∙ ap (λ (m : List ℕ). stopped s m outbox) (whole_again viewers lent)

    turned : (a : Answer NextMove) → given ≡ a → turn viewers lent o scratch outbox ≡ turn_by viewers lent outbox a
    unfolding turn
    turned a e = ap (turn_by viewers lent outbox) e

    none_left : (n : ℕ) (a : Answer NextMove) (e : step.End) (s : Stop) → given ≡ a → turn_by viewers lent outbox a ≡ still viewers lent outbox e
        → Stops e s → stop_by a ≡ s → Stopping n s → Ends n
    unfolding balanced
    none_left zero a e s q t ends stops w =
        subst (λ (x : Stop). Levels viewers zero bs o scratch outbox (here x)) (sym stops ∙ ap stop_by (sym q)) (stays zero s w (sym stops ∙ ap stop_by (sym q)))
    none_left (suc n) a e s q t ends stops w = rw (still_here n e s (turned a q ∙ t) ends) (stays (suc n) s w (sym stops ∙ ap stop_by (sym q)))

    -- BY CASES of the answer, where a move is taken care of
    by_answer : (n : ℕ) → oracle_right o ≡ true → ((t : Move) → next_of (limits_in viewers) o bs ≡ move t → Ends n) → (a : NextMove) → next_of (limits_in viewers) o bs ≡ a → Ends n
    by_answer n right moving balance.level q = none_left n (served balance.level) step.level level (given_right right _ q) refl (λ m l r. refl) refl
        (record { well = right; fully = λ z. absurd (level_not_full z); levelled = λ z. said_level (limits_in viewers) o bs q })
    by_answer n right moving balance.blocked q = none_left n (served balance.blocked) step.blocked blocked (given_right right _ q) refl (λ m l r. refl) refl
        (record { well = right; fully = λ z. absurd (blocked_not_full z); levelled = λ z. absurd (blocked_not_level z) })
    by_answer n right moving (balance.move t) q = moving t q

    by_oracle : (n : ℕ) → (oracle_right o ≡ true → (t : Move) → next_of (limits_in viewers) o bs ≡ move t → Ends n) → Ends n
    by_oracle n moving = by_cases (oracle_right o)
        (λ right. by_answer n right (moving right) (next_of (limits_in viewers) o bs) refl)
        (λ wrong. none_left n (refused 28) (step.refused_by 28) (refused_by 28) (asked_wrong wrong) refl (λ m l r. refl) refl
        (record { well = rw wrong; fully = λ z. absurd (refused_not_full z); levelled = λ z. absurd (refused_not_level z) }))

    -- NO ROOM for a move
    no_room : oracle_right o ≡ true → (t : Move) → next_of (limits_in viewers) o bs ≡ move t → Ends zero
    unfolding balanced differences
    no_room right t q =
        let c = (chosen (limits_in viewers) o bs t q).0 in
        let two = gaps_two (counts o bs) t.donor t.recipient c.donor_below c.recipient_below (leb-true _ (get_or (counts o bs) t.donor 0) c.gives) in
        let g : full ≡ stop_by given = ap stop_by (sym (given_right right (move t) q)) in
        subst (λ (x : Stop). Levels viewers zero bs o scratch outbox (here x)) g
        (stays zero full (record { well = right; fully = λ z. (refl, omega (arith, two)); levelled = λ z. absurd (full_not_level z) }) g)

    -- A MOVE: it is carried out, and the rest is balanced
    module _ (right : oracle_right o ≡ true) (t : Move) (q : next_of (limits_in viewers) o bs ≡ move t) where
      abbrev r : Request
      r = as_request t

      abbrev after_round : Round
      after_round = round_in_order viewers blocks_now r outbox

      carried : (after_round.outcome ≡ finished) × ((after : List Block) → after_round.memories ≡ map (memory_of (limits_in viewers)) after → Given (counts o bs) (counts o after))
      carried = move_gives (limits_in viewers) (limits_fit viewers) bs o t sound (answers right t q) outbox (last_steps r (sent_messages (limits_in viewers) blocks_now r outbox))
          (outbox_suffices (limits_in viewers t.donor) ((limits_fit viewers).block_fits t.donor) ((limits_fit viewers).volume_fits t.donor)
          (memory_at blocks_now t.donor) t.recipient t.serial outbox L.long) (Permᴰ.refl _)

      agreed : Agreed viewers bs (r ∷ []) (list.played_run viewers blocks_now outbox (r ∷ []))
      agreed = lists_agree viewers bs outbox (r ∷ []) sound L.long

      abbrev next : List Block
      next = agreed.matches.mesh

      next_images : after_round.memories ≡ map (memory_of (limits_in viewers)) next
      unfolding list.played_run
      next_images = agreed.matches.images

      lower : differences o next + 2 ≤ differences o bs
      unfolding differences
      lower = gaps_fall (carried.1 next next_images)

      lower_squares : squared_counts o next + 2 ≤ squared_counts o bs
      unfolding squared_counts
      lower_squares = squares_fall (carried.1 next next_images)

      abbrev next_outbox : List ℕ
      next_outbox = outbox_after viewers blocks_now r outbox

      next_lent : Lent scratch next_outbox
      next_lent = record { entries = L.entries; zeros = L.zeros; long = let e = outbox_length viewers blocks_now r outbox in let l = L.long in omega (arith, e, l) }

      abbrev turn_of : List (List ℕ) → Turn
      turn_of ms = record { ending = ending_by t (round_in_order viewers ms r outbox).outcome; memories = (round_in_order viewers ms r outbox).memories; outbox = outbox_after viewers ms r outbox }

      turns : turn viewers lent o scratch outbox ≡ record { ending = step.moved t; memories = map (memory_of (limits_in viewers)) next; outbox = next_outbox }
      unfolding round_turn
      turns = turned (served (move t)) (given_right right (move t) q) ∙ ap turn_of (own_lent viewers bs sound) ∙ (λ i. record { ending = ending_by t (carried.0 i); memories = next_images i; outbox = next_outbox })

      moves_on : (n : ℕ) → balanced viewers (suc n) lent o scratch outbox ≡ moved_first t (balanced viewers n (concat (map (image words) next)) o scratch next_outbox)
      unfolding balanced
      moves_on n =
          ap (λ (T : Turn). after_step T.ending (with_memories viewers lent T.memories) T.outbox (balanced viewers n (with_memories viewers lent T.memories) o scratch T.outbox)) turns
          ∙ ap (λ (m : List ℕ). moved_first t (balanced viewers n m o scratch next_outbox)) (with_images viewers bs sound next agreed.matches.sound agreed.same_count)

      one_more : (n : ℕ) (d : BalancingRun) → Levels viewers n next o scratch next_outbox d → Levels viewers (suc n) bs o scratch outbox (moved_first t d)
      unfolding list.played_run
      one_more n d w =
          let again : list.played_run viewers after_round.memories next_outbox (map as_request d.moves) ≡ list.played_run viewers (map (memory_of (limits_in viewers)) next) next_outbox (map as_request d.moves) =
          ap (λ (x : List (List ℕ)). list.played_run viewers x next_outbox (map as_request d.moves)) next_images in
          record {
            after = w.after;
            ended = record {
              ends = w.ended.ends;
              full_means = λ z. let f = w.ended.full_means z in (ap suc f.0, let g = f.1 in omega (arith, g, lower));
              level_means = w.ended.level_means;
              differences_fall = let a = w.ended.differences_fall in omega (arith, a, lower);
              squares_fall = let a = w.ended.squares_fall in omega (arith, a, lower_squares);
              sound = w.ended.sound;
              same_map = λ x. w.ended.same_map x ∙ agreed.same_map x;
            };
            last = w.last;
            mesh_is = w.mesh_is;
            outcomes_again = (λ i. carried.0 i ∷ (ap (λ (x : list.PlayedRun). x.outcomes) again ∙ w.outcomes_again) i);
            memories_again = ap (λ (x : list.PlayedRun). x.memories) again ∙ w.memories_again;
          }

      moved_well : (n : ℕ) → Levels viewers n next o scratch next_outbox (balanced viewers n (concat (map (image words) next)) o scratch next_outbox) → Ends (suc n)
      moved_well n w = rw (moves_on n) (one_more n (balanced viewers n (concat (map (image words) next)) o scratch next_outbox) w)

-- ANY SOUND MESH, by the room that there is
pub ends_well_at : EndsWell
ends_well_at viewers zero bs o scratch outbox sound L = by_oracle viewers bs sound o scratch outbox L zero (no_room viewers bs sound o scratch outbox L)
ends_well_at viewers (suc n) bs o scratch outbox sound L = by_oracle viewers bs sound o scratch outbox L (suc n)
    (λ right t q. moved_well viewers bs sound o scratch outbox L right t q n
    (ends_well_at viewers n (next viewers bs sound o scratch outbox L right t q) o scratch (next_outbox viewers bs sound o scratch outbox L right t q)
    (agreed viewers bs sound o scratch outbox L right t q).matches.sound (next_lent viewers bs sound o scratch outbox L right t q)))
