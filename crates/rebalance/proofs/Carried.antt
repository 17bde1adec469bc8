-- A MOVE THAT NEXT MOVE GIVES IS CARRIED OUT: with an outbox of 65,536 bytes its round is not refused and finishes, whatever the memory.
-- So a step is refused by the questions of next move alone. Assumes nothing.
use mathlib.Core.Path.{◌≡◌, sym, ◌∙◌, ap, subst}
use mathlib.Core.List.Permᴰ
use mathlib.Core.List.{List, [], ◌∷◌, map}
use Prim.Native.Nat.{ℕ, ◌≤◌}
use lib.ListN.{length}
use Rattle.model.specs.Lists.{concat}
use Rattle.model.specs.Values.{Block, limits_in}
use Rattle.model.specs.Sound.{Sound}
use Rattle.model.specs.Image.{words, image, memory_of, block_in}
use Rattle.model.specs.Balance.{Oracle, oracle_right, Move, move, NextMove, Balance}
use Rattle.model.specs.Calls.{Answer, served, memories, whole_mesh_checks, next_move}
use Rattle.model.specs.Runs.{finished}
use Rattle.model.specs.DividedRun.{last_steps, sent_messages, memory_at}
use Rattle.model.specs.Demands.{outbox_bytes, request_of}
use Rattle.laws.proofs.Tests.{first_no_left}
use Rattle.theory.proofs.CallLaws.{served_value}
use Rattle.theory.proofs.MeshLaws.{mesh_of}
use Rattle.agreement.proofs.Agreement.{limits_fit}
use Rattle.soundness.proofs.OutboxLength.{outbox_suffices}
use Rattle.balancing.proofs.Lowers.{mesh_move_lowers}
use Rattle.rounds.specs.Played.{own_memories, round_in_order}
use Rattle.rebalance.proofs.Rooms.{own_lent}
use Rattle.rebalance.specs.Turn.{ending_by, moved, next_answer, turn, turn_by, round_turn}

-- a mesh of which next move was served is sound, and its memories are the images of its blocks
module _ (viewers : ℕ) (m : List ℕ) (o : Oracle) (scratch : List ℕ) (b : Balance) (t : Move) (e : (next_move (limits_in viewers) m o scratch).answer ≡ served b) (f : b.next ≡ move t) where
  abbrev bs : List Block
  bs = map block_in (memories m)

  asked_of : Sound (limits_in viewers) bs × (concat (map (image words) bs) ≡ m)
  unfolding next_move
  asked_of = mesh_of (limits_in viewers) m scratch (first_no_left (whole_mesh_checks (limits_in viewers) m scratch) ((28, oracle_right o) ∷ []) (served_value _ scratch _ scratch b e).0)

  images_are : own_memories viewers m ≡ map (memory_of (limits_in viewers)) bs
  images_are = ap (own_memories viewers) (sym asked_of.1) ∙ own_lent viewers bs asked_of.0

  round_finishes : (outbox : List ℕ) → outbox_bytes ≤ length outbox → (round_in_order viewers (map (memory_of (limits_in viewers)) bs) (request_of t) outbox).outcome ≡ finished
  round_finishes outbox long =
      let ms = map (memory_of (limits_in viewers)) bs in
      let enough = outbox_suffices (limits_in viewers t.donor) ((limits_fit viewers).block_fits t.donor) ((limits_fit viewers).volume_fits t.donor)
      (memory_at ms t.donor) t.recipient t.serial outbox long in
      let asked = subst (λ (x : List ℕ). (next_move (limits_in viewers) x o scratch).answer ≡ served b) (sym asked_of.1) e in
      (mesh_move_lowers viewers bs o t asked_of.0 (scratch, b, asked, f) outbox (last_steps (request_of t) (sent_messages (limits_in viewers) ms (request_of t) outbox)) enough (Permᴰ.refl _)).0

  pub move_carried : (outbox : List ℕ) → outbox_bytes ≤ length outbox → (turn viewers m o scratch outbox).ending ≡ moved t
  unfolding turn round_turn
  move_carried outbox long =
      ap (λ (a : Answer Balance). (turn_by viewers m outbox (next_answer a)).ending) e ∙ ap (λ (a : NextMove). (turn_by viewers m outbox (served a)).ending) f
      ∙ ap (ending_by t) (subst (λ (ms : List (List ℕ)). (round_in_order viewers ms (request_of t) outbox).outcome ≡ finished) (sym images_are) (round_finishes outbox long))
