-- THE PROMISE about `rebalance::balance`: what it ensures, on a sound mesh. Assumes nothing.
use mathlib.Core.Path.{◌≡◌, refl, sym, ◌∙◌, ap, subst}
use mathlib.Core.List.{List, [], ◌∷◌, ◌++◌, map}
use Prim.Native.Nat.{ℕ, suc, ◌+◌, ◌*◌, ◌/◌}
use native.Mathlib.Omega.{arith}
use lib.ListN.{length, get_or, take}
use Rattle.model.specs.Lists.{tab}
use Rattle.model.specs.Image.{memory_of}
use Rattle.model.specs.Values.{Block, limits_in}
use Rattle.model.specs.Balance.{Oracle, Move}
use Rattle.model.specs.Runs.{Request}
use Rattle.laws.proofs.Tables.{tab_cong}
use Rattle.rounds.specs.Played.{asks_for}
use Rattle.rounds.specs.Requests as list
use Rattle.rounds.specs.Requests.{request_at, requests_in}
use Rattle.rebalance.specs.Balanced.{Stop, balanced, numbers_of, count_of}
use Rattle.rebalance.specs.Promise.{as_request, EndedAs, Levels, BalancingPromise}
use Rattle.rebalance.proofs.EndsWell.{ends_well_at}

-- MOVES THAT ARE WRITTEN are read again as requests
three_on : (a b c : ℕ) (l : List ℕ) (n k : ℕ) → n ≡ suc (suc (suc k)) → get_or (a ∷ b ∷ c ∷ l) n 0 ≡ get_or l k 0
three_on a b c l n k e = ap (λ (x : ℕ). get_or (a ∷ b ∷ c ∷ l) x 0) e

next_at : (a b c : ℕ) (l : List ℕ) (i : ℕ) → request_at (a ∷ b ∷ c ∷ l) (suc i) ≡ request_at l i
next_at a b c l i =
    let from = three_on a b c l (suc i * 3) (i * 3) (omega arith) in
    let to = three_on a b c l (suc i * 3 + 1) (i * 3 + 1) (omega arith) in
    let serial = three_on a b c l (suc i * 3 + 2) (i * 3 + 2) (omega arith) in
    λ j. asks_for (from j) (to j) (serial j)

one_first : (a b c : ℕ) (l : List ℕ) → requests_in (a ∷ b ∷ c ∷ l) ≡ asks_for a b c ∷ requests_in l
unfolding requests_in
one_first a b c l =
    let e : length (a ∷ b ∷ c ∷ l) / 3 ≡ suc (length l / 3) = omega arith in
    ap (tab (request_at (a ∷ b ∷ c ∷ l))) e
    ∙ ap (λ (rs : List Request). asks_for a b c ∷ rs) (tab_cong (λ i. request_at (a ∷ b ∷ c ∷ l) (suc i)) (request_at l) (length l / 3) (λ i h. next_at a b c l i))

read_again : (ts : List Move) (l : List ℕ) → take (length ts) (requests_in (numbers_of ts ++ l)) ≡ map as_request ts
unfolding numbers_of
read_again [] l = refl
read_again (t ∷ ts) l = ap (take (suc (length ts))) (one_first t.donor t.recipient t.serial (numbers_of ts ++ l)) ∙ ap (λ (rs : List Request). as_request t ∷ rs) (read_again ts l)

ended_as : {viewers n : ℕ} {bs : List Block} {o : Oracle} {s t : Stop} {c d : ℕ} {after : List Block} → s ≡ t → c ≡ d → EndedAs viewers n bs o t d after → EndedAs viewers n bs o s c after
ended_as {viewers} {n} {bs} {o} {s} {t} {c} {d} {after} e f w = subst (λ (x : Stop). EndedAs viewers n bs o x c after) (sym e) (subst (λ (x : ℕ). EndedAs viewers n bs o t x after) (sym f) w)

pub promise : BalancingPromise
promise viewers bs o m scratch outbox moves b m' scratch' outbox' moves' sound lent L p =
    let n = length moves / 3 in
    let r = balanced viewers n m o scratch outbox in
    let w : Levels viewers n bs o scratch outbox r =
    subst (λ (x : List ℕ). Levels viewers n bs o scratch outbox (balanced viewers n x o scratch outbox)) (sym lent) (ends_well_at viewers n bs o scratch outbox sound L) in
    let written : take (count_of b) (requests_in moves') ≡ map as_request r.moves =
    ap (λ (n : ℕ). take n (requests_in moves')) p.count_is ∙ ap (λ (l : List ℕ). take (length r.moves) (requests_in l)) p.moves_are ∙ read_again r.moves _ in
    record {
      after = w.after;
      ended = ended_as p.stop_is p.count_is w.ended;
      mesh_is = p.mesh_is ∙ w.mesh_is;
      played_again = ap (λ (rs : List Request). (list.played_run viewers (map (memory_of (limits_in viewers)) bs) outbox rs).memories) written ∙ w.memories_again;
    }
