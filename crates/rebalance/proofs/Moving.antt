-- Moves one after the other: one more, and how it ends. Assumes nothing.
use mathlib.Core.Path.{◌≡◌, refl, sym, ◌∙◌, ap, subst}
use mathlib.Core.List.{List, [], ◌∷◌, ◌++◌, append_assoc, append-nil}
use Prim.Native.Nat.{ℕ, zero, suc, ◌+◌, ◌*◌, ◌/◌, ◌≤◌, ◌<◌}
use native.Mathlib.Omega.{arith}
use lib.Dec.{eqb}
use lib.ListN.{length, set, length-append, length-set}
use Rattle.model.specs.Lists.{first_no, Check}
use Rattle.model.specs.Values.{limits_in}
use Rattle.model.specs.Balance as balance
use Rattle.model.specs.Balance.{Oracle, Move, NextMove}
use Rattle.model.specs.Calls.{Answer, served, refused, asked, next_move}
use Rattle.laws.proofs.Tests.{by_cases}
use Rattle.answers.specs.Answers.{move_of}
use Rattle.balance.specs.Answer.{GivesBalance}
use Rattle.balance.specs.declared.nextmove.Balance.{Balance}
use Rattle.answers.specs.declared.NextMove as answers-move
use Rattle.rounds.specs.Played.{own_memories, asks_for}
use Rattle.rounds.specs.Requests.{over_words}
use Rattle.rounds.proofs.Requests.{over_more, outbox_length}
use Rattle.rebalance.specs.Turn.{ending_of, a_move, asked_next, turn, turn_by, round_turn, Levelled}
use Rattle.rebalance.specs.Balanced.{Stop, BalancingRun, stopped, moved_first, stop_by, after_step, balanced, numbers_of, with_move, stop_of, count_of, TurnAsked, Balances}
use Rattle.rebalance.proofs.Rooms.{mesh_after}
use Rattle.rebalance.proofs.Turns.{asked_is}
use Rattle.rebalance.specs.declared.Ending.{Ending}
use Rattle.rebalance.specs.declared.Ending.TheVariants as ending
use Rattle.rebalance.specs.declared.moves.Balanced.{Balanced}

-- THE SCRATCH stays
asked_keeps : {A : Type 0} (qs : List Check) (l : List ℕ) (v : A) → (asked qs l v l).lent ≡ l
unfolding asked
asked_keeps qs l v = by_cases (eqb (first_no qs) 0) (λ e. rw e) (λ e. rw e)

pub scratch_stays : (viewers : ℕ) (m : List ℕ) (o : Oracle) (scratch : List ℕ) → (next_move (limits_in viewers) m o scratch).lent ≡ scratch
unfolding next_move
scratch_stays viewers m o scratch = asked_keeps _ scratch _

-- THE OUTBOX keeps its length
turned_length : (viewers : ℕ) (m outbox : List ℕ) (a : Answer NextMove) → length (turn_by viewers m outbox a).outbox ≡ length outbox
unfolding round_turn
turned_length viewers m outbox (served balance.level) = refl
turned_length viewers m outbox (served balance.blocked) = refl
turned_length viewers m outbox (served (balance.move t)) = outbox_length viewers (own_memories viewers m) (asks_for t.donor t.recipient t.serial) outbox
turned_length viewers m outbox (refused n) = refl

pub turn_length : (viewers : ℕ) (m : List ℕ) (o : Oracle) (scratch outbox : List ℕ) → length (turn viewers m o scratch outbox).outbox ≡ length outbox
unfolding turn
turn_length viewers m o scratch outbox = turned_length viewers m outbox (asked_next viewers m o scratch)

-- MOVES AS NUMBERS
abbrev numbers : Move → List ℕ
numbers t = t.donor ∷ t.recipient ∷ t.serial ∷ []

numbers_length : (ts : List Move) → length (numbers_of ts) ≡ length ts * 3
unfolding numbers_of
numbers_length [] = refl
numbers_length (t ∷ ts) = let e = numbers_length ts in omega (arith, e)

numbers_more : (ts : List Move) (t : Move) → numbers_of (ts ++ t ∷ []) ≡ numbers_of ts ++ numbers t
unfolding numbers_of
numbers_more [] t = refl
numbers_more (s ∷ ts) t = ap (λ (l : List ℕ). s.donor ∷ s.recipient ∷ s.serial ∷ l) (numbers_more ts t)

-- one more, behind those that are written
with_move_over : (xs l : List ℕ) (n : ℕ) (t : Move) → length xs ≡ n * 3 → n < length l / 3 → with_move (over_words xs l) n t ≡ over_words (xs ++ numbers t) l
with_move_over xs l n t e h =
    let ys = xs ++ t.donor ∷ [] in
    let zs = ys ++ t.recipient ∷ [] in
    let ly : length ys ≡ n * 3 + 1 = length-append xs (t.donor ∷ []) ∙ ap (λ (k : ℕ). k + 1) e in
    let lz : length zs ≡ n * 3 + 2 = length-append ys (t.recipient ∷ []) ∙ omega (arith, ly) in
    ap (λ (x : List ℕ). set (set x (n * 3 + 1) t.recipient) (n * 3 + 2) t.serial) (over_more xs l (n * 3) t.donor e (omega (arith, h)))
    ∙ ap (λ (x : List ℕ). set x (n * 3 + 2) t.serial) (over_more ys l (n * 3 + 1) t.recipient ly (omega (arith, h)))
    ∙ over_more zs l (n * 3 + 2) t.serial lz (omega (arith, h))
    ∙ ap (λ (x : List ℕ). over_words x l) (append_assoc ys (t.recipient ∷ []) (t.serial ∷ []) ∙ append_assoc xs (t.donor ∷ []) (t.recipient ∷ t.serial ∷ []))

-- ONE STEP of the fold
one_step : {viewers : ℕ} {m : List ℕ} {o : Oracle} {scratch outbox : List ℕ} {s : Ending} {m' scratch' outbox' : List ℕ} (k : ℕ) → Levelled viewers m o scratch outbox s m' scratch' outbox'
    → balanced viewers (suc k) m o scratch outbox ≡ after_step (ending_of s) m' outbox' (balanced viewers k m' o scratch outbox')
unfolding balanced
one_step {viewers} {m} {o} {scratch} {outbox} {s} {m'} {scratch'} {outbox'} k w =
    let p = sym w.ended.ending_is in
    let q = mesh_after viewers w.ended.elsewhere w.ended.memories_are in
    let r = sym w.ended.outbox_is in
    λ i. after_step (p i) (q i) (r i) (balanced viewers k (q i) o scratch (r i))

-- moves that were carried out, and the rest
abbrev behind : List Move → BalancingRun → BalancingRun
behind ts r = record { stop = r.stop; moves = ts ++ r.moves; mesh = r.mesh; outbox = r.outbox }

behind_more : (ts : List Move) (t : Move) (r : BalancingRun) → behind ts (moved_first t r) ≡ behind (ts ++ t ∷ []) r
behind_more ts t r = ap (λ (l : List Move). record { stop = r.stop; moves = l; mesh = r.mesh; outbox = r.outbox }) (sym (append_assoc ts (t ∷ []) r.moves))

-- THE LOOP: n moves are carried out and written down, and what is left gives the same end
pub record Moving (viewers : ℕ) (m₀ : List ℕ) (o : Oracle) (scratch₀ outbox₀ moves₀ : List ℕ) (n : ℕ) (m scratch outbox moves : List ℕ) : Type 0 where
  pub carried : List Move
  pub count : length carried ≡ n
  pub room : ℕ
  pub rooms : length moves₀ / 3 ≡ n + room
  pub same_end : balanced viewers (length moves₀ / 3) m₀ o scratch₀ outbox₀ ≡ behind carried (balanced viewers room m o scratch₀ outbox)
  pub written : moves ≡ over_words (numbers_of carried) moves₀
  pub as_was : scratch ≡ scratch₀
  pub mesh_size : length m ≡ length m₀
  pub scratch_size : length scratch ≡ length scratch₀
  pub outbox_size : length outbox ≡ length outbox₀
  pub moves_size : length moves ≡ length moves₀

pub none_moved : (viewers : ℕ) (m : List ℕ) (o : Oracle) (scratch outbox moves : List ℕ) → Moving viewers m o scratch outbox moves 0 m scratch outbox moves
unfolding numbers_of
none_moved viewers m o scratch outbox moves = record {
  carried = [];
  count = refl;
  room = length moves / 3;
  rooms = omega arith;
  same_end = refl;
  written = refl;
  as_was = refl;
  mesh_size = refl;
  scratch_size = refl;
  outbox_size = refl;
  moves_size = refl;
}

module _ {viewers : ℕ} {m₀ : List ℕ} {o : Oracle} {scratch₀ outbox₀ moves₀ : List ℕ} {n : ℕ} {m scratch outbox moves : List ℕ} (w : Moving viewers m₀ o scratch₀ outbox₀ moves₀ n m scratch outbox moves) where
  abbrev whole : BalancingRun
  whole = balanced viewers (length moves₀ / 3) m₀ o scratch₀ outbox₀

  -- a step that is taken while there is room
  next_room : n < length moves₀ / 3 → (k : ℕ) × (w.room ≡ suc k)
  next_room h = go w.room w.rooms
    where
      go : (r : ℕ) → length moves₀ / 3 ≡ n + r → (k : ℕ) × (r ≡ suc k)
      go zero e = absurd (omega (arith, e, h))
      go (suc k) e = (k, refl)

  module _ (h : n < length moves₀ / 3) {s : Ending} {m' scratch' outbox' : List ℕ} (l : Levelled viewers m o scratch outbox s m' scratch' outbox') where
    abbrev k : ℕ
    k = (next_room h).0

    stepped : (x : Ending) → s ≡ x → whole ≡ behind w.carried (after_step (ending_of x) m' outbox' (balanced viewers k m' o scratch₀ outbox'))
    stepped x known =
        let e = subst (λ (c : List ℕ). Levelled viewers m o c outbox s m' scratch' outbox') w.as_was l in
        w.same_end
        ∙ ap (λ (r : ℕ). behind w.carried (balanced viewers r m o scratch₀ outbox)) (next_room h).1
        ∙ ap (behind w.carried) (one_step k e)
        ∙ ap (λ (y : Ending). behind w.carried (after_step (ending_of y) m' outbox' (balanced viewers k m' o scratch₀ outbox'))) known

    scratch_now : scratch' ≡ scratch₀
    scratch_now = l.scratch_is ∙ scratch_stays viewers m o scratch ∙ w.as_was

    outbox_now : length outbox' ≡ length outbox₀
    outbox_now = ap length l.ended.outbox_is ∙ turn_length viewers m o scratch outbox ∙ w.outbox_size

    pub one_moved : (d r v : ℕ) (moves' : List ℕ) → s ≡ ending.Moved d r v → moves' ≡ with_move moves n (a_move d r v) → Moving viewers m₀ o scratch₀ outbox₀ moves₀ (n + 1) m' scratch' outbox' moves'
    one_moved d r v moves' known put =
        let t = a_move d r v in
        let c = w.count in
        let size = w.moves_size in record {
          carried = w.carried ++ t ∷ [];
          count = length-append w.carried (t ∷ []) ∙ ap (λ (x : ℕ). x + 1) c;
          room = k;
          rooms = let e = w.rooms in let f = (next_room h).1 in omega (arith, e, f);
          same_end = stepped (ending.Moved d r v) known ∙ behind_more w.carried t (balanced viewers k m' o scratch₀ outbox');
          written = put ∙ ap (λ (x : List ℕ). with_move x n t) w.written
              ∙ with_move_over (numbers_of w.carried) moves₀ n t (numbers_length w.carried ∙ ap (λ (x : ℕ). x * 3) c) (omega (arith, h))
              ∙ ap (λ (x : List ℕ). over_words x moves₀) (sym (numbers_more w.carried t));
          as_was = scratch_now;
          mesh_size = l.ended.elsewhere.size ∙ w.mesh_size;
          scratch_size = ap length scratch_now;
          outbox_size = outbox_now;
          moves_size = ap length put ∙ sized ∙ size;
        }
      where
        sized : length (with_move moves n (a_move d r v)) ≡ length moves
        sized = length-set (set (set moves (n * 3) d) (n * 3 + 1) r) (n * 3 + 2) v ∙ length-set (set moves (n * 3) d) (n * 3 + 1) r ∙ length-set moves (n * 3) d

  -- THE END
  concludes : (b : Balanced) {m' scratch' outbox' : List ℕ} → whole ≡ behind w.carried (stopped (stop_of b) m' outbox') → count_of b ≡ n → scratch' ≡ scratch₀
      → Balances viewers m₀ o scratch₀ outbox₀ moves₀ b m' scratch' outbox' moves
  concludes b e c s = record {
    stop_is = sym (ap (λ (r : BalancingRun). r.stop) e);
    count_is = c ∙ sym w.count ∙ ap length done;
    mesh_is = sym (ap (λ (r : BalancingRun). r.mesh) e);
    scratch_is = s;
    outbox_is = sym (ap (λ (r : BalancingRun). r.outbox) e);
    moves_are = w.written ∙ ap (λ (ts : List Move). over_words (numbers_of ts) moves₀) done;
  }
    where
      done : w.carried ≡ whole.moves
      done = sym (ap (λ (r : BalancingRun). r.moves) e ∙ append-nil w.carried)

  -- by a step that moves nothing
  pub last_step : n < length moves₀ / 3 → {s : Ending} {m' scratch' outbox' : List ℕ} → Levelled viewers m o scratch outbox s m' scratch' outbox' → (x : Ending) → s ≡ x
      → (b : Balanced) → ((a c : List ℕ) (r : BalancingRun) → after_step (ending_of x) a c r ≡ stopped (stop_of b) a c) → count_of b ≡ n
      → Balances viewers m₀ o scratch₀ outbox₀ moves₀ b m' scratch' outbox' moves
  last_step h {s} {m'} {scratch'} {outbox'} l x known b ends c =
      concludes b (stepped h l x known ∙ ap (behind w.carried) (ends m' outbox' (balanced viewers (next_room h).0 m' o scratch₀ outbox'))) c (scratch_now h l)

  -- with no room left
  no_room : length moves₀ / 3 ≤ n → w.room ≡ 0
  no_room h = let e = w.rooms in omega (arith, e, h)

  pub last_asked : length moves₀ / 3 ≤ n → (b : Balanced) {scratch' : List ℕ} → TurnAsked viewers m o scratch (length moves₀ / 3) b scratch' → Balances viewers m₀ o scratch₀ outbox₀ moves₀ b m scratch' outbox moves
  unfolding balanced
  last_asked h b {scratch'} t =
      let all : length moves₀ / 3 ≡ n = (let e = w.rooms in omega (arith, e, h)) in
      let a = subst (λ (c : ℕ). TurnAsked viewers m o scratch c b scratch') all t in
      let e = a.stop_is ∙ ap (λ (c : List ℕ). stop_by (asked_next viewers m o c)) w.as_was in
      concludes b (w.same_end
      ∙ ap (λ (r : ℕ). behind w.carried (balanced viewers r m o scratch₀ outbox)) (no_room h)
      ∙ ap (λ (x : Stop). behind w.carried (stopped x m outbox)) (sym e)) a.count_is (a.scratch_is ∙ w.as_was)

-- the next move asked for
pub asked_as : (viewers : ℕ) (m : List ℕ) (o : Oracle) (scratch : List ℕ) (n : ℕ) {a : Balance} {x : answers-move.NextMove} {scratch' : List ℕ} (b : Balanced) → a.next ≡ x
    → GivesBalance (next_move (limits_in viewers) m o scratch) a scratch' → stop_of b ≡ stop_by (move_of x) → count_of b ≡ n → TurnAsked viewers m o scratch n b scratch'
asked_as viewers m o scratch n b known g e c = record {
  stop_is = e ∙ ap stop_by (asked_is viewers m o scratch known g);
  count_is = c;
  scratch_is = g.left ∙ scratch_stays viewers m o scratch;
}
