-- The labels counted for each block: one face more adds to the block that shares it, and to no other. Assumes nothing.
use mathlib.Core.Path.{◌≡◌, refl, sym, ◌∙◌, ap}
use mathlib.Core.Bool.{true, false}
use mathlib.Core.Logic.{⊎_elim}
use mathlib.Core.List.{List, []}
use Prim.Native.Nat.{ℕ, ◌+◌, ◌-◌, ◌/◌, ◌%◌, ◌≤◌, ◌<◌}
use native.Mathlib.Omega.{arith}
use lib.ListN.{length, get_or, set, replicate, length-append, length-set}
use lib.Seq.{get_or-set_same, get_or-set_other}
use Rattle.model.specs.Messages.{label}
use Rattle.model.specs.Image.{column, label_in}
use Rattle.laws.proofs.Tests.{eq_or_ne}
use Rattle.laws.proofs.Lists.{getD_zeros}
use Rattle.outbox.specs.Runs.{run}
use Rattle.outbox.specs.Bytes.{end_of, in_part2, start_at}
use Rattle.outbox.proofs.Running.{run_more, run_short, tally_le, tally_no, tally_start, tally_yes}
use Rattle.outbox.specs.ByBlocks.{Few, Shares, least_code, least_put}
use Rattle.outbox.proofs.LeastLaws.{least_none, least_one, least_short, not_shared_by, shared_by}

-- ONE ENTRY MORE
module _ (b : ℕ → List ℕ) (f : ℕ) where
  longer_none : b f ≡ [] → length (run b (f + 1)) ≡ length (run b f)
  longer_none e = omega (arith, ap length (run_more b f), length-append (run b f) (b f), ap length e)

  longer_by : {w : ℕ} → w ≡ length (b f) → length (run b (f + 1)) ≡ length (run b f) + w
  longer_by e = omega (arith, ap length (run_more b f), length-append (run b f) (b f), e)

run_none : (b : ℕ → List ℕ) → 0 ≡ length (run b 0)
unfolding run
run_none b = refl

-- at the start
pub shares_start : (m order starts : List ℕ) (darts count : ℕ) {labels bytes : List ℕ} → labels ≡ replicate 16 0 → bytes ≡ replicate 16 0 → Shares m order starts darts count 0 labels bytes
shares_start m order starts darts count {labels} {bytes} p q = record {
  labels_size = ap length p;
  bytes_size = ap length q;
  labels_are = λ k h. ap (λ (l : List ℕ). get_or l k 0) p ∙ getD_zeros 16 k ∙ tally_start (in_part2 m k order starts);
  bytes_are = λ k h. ap (λ (l : List ℕ). get_or l k 0) q ∙ getD_zeros 16 k ∙ run_none (least_put m k order starts darts count);
}

module _ {m order starts : List ℕ} {darts count f : ℕ} {labels bytes : List ℕ} (s : Shares m order starts darts count f labels bytes) where
  pub shares_few : f ≤ 512 → Few labels bytes
  shares_few h = record {
    labels_size = s.labels_size;
    bytes_size = s.bytes_size;
    labels_few = λ k l. omega (arith, s.labels_are k l, tally_le (in_part2 m k order starts) f);
    bytes_few = λ k l. omega (arith, s.bytes_are k l, run_short (least_put m k order starts darts count) 15 f (λ g i. least_short m k order starts darts count g));
  }

  -- a face that nobody shares
  pub shares_skip : {w : ℕ} → w ≡ column m 3 (start_at order starts f) → (w % 4 ≡ 2 → ⊥) → Shares m order starts darts count (f + 1) labels bytes
  shares_skip {w} e n = record {
    labels_size = s.labels_size;
    bytes_size = s.bytes_size;
    labels_are = λ k h. s.labels_are k h ∙ sym (tally_no (in_part2 m k order starts) f (unshared k));
    bytes_are = λ k h. s.bytes_are k h ∙ sym (longer_none (least_put m k order starts darts count) f (least_none m k order starts darts count f (unshared k)));
  }
    where
      unshared : (k : ℕ) → in_part2 m k order starts f ≡ false
      unshared k = not_shared_by m k order starts darts count f e (λ i. n (omega (arith, i)))

  -- a face that one block shares
  module _ {w e v size : ℕ} (p : w ≡ column m 3 (start_at order starts f)) (critical : w % 4 ≡ 2) (small : w < 64) (h : e ≡ end_of starts count darts f)
      (c : v ≡ least_code m order (get_or starts f 0) (e - get_or starts f 0)) (g : size ≡ length (label.put (label_in v))) where
    shared : (k : ℕ) → k ≡ w / 4 → in_part2 m k order starts f ≡ true
    shared k i = shared_by m k order starts darts count f p (omega (arith, i, critical))

    unshared : (k : ℕ) → (k ≡ w / 4 → ⊥) → in_part2 m k order starts f ≡ false
    unshared k n = not_shared_by m k order starts darts count f p (λ i. n (omega (arith, i)))

    pub shares_step : Shares m order starts darts count (f + 1) (set labels (w / 4) (get_or labels (w / 4) 0 + 1)) (set bytes (w / 4) (get_or bytes (w / 4) 0 + size))
    shares_step = record {
      labels_size = length-set labels (w / 4) _ ∙ s.labels_size;
      bytes_size = length-set bytes (w / 4) _ ∙ s.bytes_size;
      labels_are = λ k l. ⊎_elim
          (λ i. rw i (get_or-set_same labels (w / 4) (get_or labels (w / 4) 0 + 1) 0 (omega (arith, s.labels_size))
          ∙ ap (λ (x : ℕ). x + 1) (s.labels_are (w / 4) (omega arith)) ∙ sym (tally_yes (in_part2 m (w / 4) order starts) f (shared (w / 4) refl))))
          (λ n. get_or-set_other labels (w / 4) k (get_or labels (w / 4) 0 + 1) 0 n ∙ s.labels_are k l ∙ sym (tally_no (in_part2 m k order starts) f (unshared k n)))
          (eq_or_ne k (w / 4));
      bytes_are = λ k l. ⊎_elim
          (λ i. rw i (get_or-set_same bytes (w / 4) (get_or bytes (w / 4) 0 + size) 0 (omega (arith, s.bytes_size))
          ∙ ap (λ (x : ℕ). x + size) (s.bytes_are (w / 4) (omega arith)) ∙ sym (longer_by (least_put m (w / 4) order starts darts count) f (size_is (w / 4) refl))))
          (λ n. get_or-set_other bytes (w / 4) k (get_or bytes (w / 4) 0 + size) 0 n ∙ s.bytes_are k l ∙ sym
          (longer_none (least_put m k order starts darts count) f (least_none m k order starts darts count f (unshared k n))))
          (eq_or_ne k (w / 4));
    }
      where
        size_is : (k : ℕ) → k ≡ w / 4 → size ≡ length (least_put m k order starts darts count f)
        size_is k i = g ∙ sym (ap length (least_one m k order starts darts count f e v (shared k i) h c))

-- as the code counts it, at r
pub shares_all : (labels bytes : List ℕ) (size : ℕ) {m order starts : List ℕ} {darts count f r k : ℕ} {labels' bytes' : List ℕ}
    → Shares m order starts darts count f (set labels k (get_or labels k 0 + 1)) (set bytes k (get_or bytes k 0 + size)) → r ≡ k
    → labels' ≡ set labels r (get_or labels r 0 + 1) → bytes' ≡ set bytes r (get_or bytes r 0 + size) → Shares m order starts darts count f labels' bytes'
shares_all labels bytes size s e p q = rw (p, q, e) s
