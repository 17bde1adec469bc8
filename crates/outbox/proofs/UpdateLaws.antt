-- One update: its bytes by the arrays, and how many they are. Assumes nothing.
use mathlib.Core.Path.{◌≡◌, refl, sym, ◌∙◌, ap}
use mathlib.Core.Bool.{true, false}
use mathlib.Core.List.{List, [], ◌++◌}
use Prim.Native.Nat.{ℕ, zero, suc, ◌+◌, ◌≤◌, ◌<◌, ◌^◌}
use native.Mathlib.Numerals.{add-one}
use native.Mathlib.Omega.{arith}
use lib.ListN.{length, get_or, length-append}
use Rattle.model.specs.Layouts.{group}
use Rattle.laws.proofs.Tests.{by_cases}
use Rattle.theory.proofs.GroupLaws.{one_group}
use Rattle.theory.proofs.LayoutLengths.{group_short}
use Rattle.outbox.specs.Runs.{run, tally}
use Rattle.outbox.specs.Bytes.{in_part2}
use Rattle.outbox.proofs.Running.{run_short}
use Rattle.outbox.specs.ByBlocks.{Shares, head_bytes, least_put, relative, rest_for, size_for, sizes_for, told_put, update_bytes}
use Rattle.outbox.proofs.SharesLaws.{shares_few}

-- SIZES, as the code adds them
module _ (j k n b : ℕ) where
  pub size_none : relative j k n ≡ false → 0 ≡ size_for j k n b
  unfolding size_for
  size_none e = rw e

  pub size_some : relative j k n ≡ true → {r w : ℕ} → r ≡ rest_for n b → w ≡ length (group.put r) + r → w ≡ size_for j k n b
  unfolding size_for
  size_some e {r} {w} p q = rw e (q ∙ ap (λ (x : ℕ). length (group.put x) + x) p)

  size_short : b < 2 ^ 16 → size_for j k n b ≤ 65550
  unfolding size_for rest_for
  size_short h = by_cases (relative j k n) (λ e. rw e (omega (arith, group_short n, group_short (4 + length (group.put n) + b)))) (λ e. rw e (omega arith))

pub sizes_start : (j : ℕ) (labels bytes : List ℕ) → 0 ≡ sizes_for j labels bytes 0
unfolding sizes_for
sizes_start j labels bytes = refl

pub sizes_more : (j : ℕ) (labels bytes : List ℕ) (k : ℕ) {s w : ℕ} → s ≡ sizes_for j labels bytes k → w ≡ size_for j k (get_or labels k 0) (get_or bytes k 0) → s + w ≡ sizes_for j labels bytes (k + 1)
unfolding sizes_for
sizes_more j labels bytes k p q = rw (add-one k, p, q)

-- LENGTHS
pub six_lengths : (a b c d e f : List ℕ) → length (a ++ (b ++ (c ++ (d ++ (e ++ f))))) ≡ length a + length b + length c + length d + length e + length f
six_lengths a b c d e f = simp length-append (omega arith)

module _ (m : List ℕ) (j k n r : ℕ) where
  pub head_of : head_bytes m j k n r ≡ group.put r ++ (group.put 2 ++ (group.put (get_or m 0 0) ++ (group.put k ++ (group.put j ++ group.put n))))
  unfolding head_bytes
  head_of = refl

  pub head_lengths : length (head_bytes m j k n r)
      ≡ length (group.put r) + length (group.put 2) + length (group.put (get_or m 0 0)) + length (group.put k) + length (group.put j) + length (group.put n)
  head_lengths = ap length head_of ∙ six_lengths (group.put r) (group.put 2) (group.put (get_or m 0 0)) (group.put k) (group.put j) (group.put n)

  head_length : get_or m 0 0 ≤ 15 → k ≤ 15 → j ≤ 15 → length (head_bytes m j k n r) ≡ length (group.put r) + 4 + length (group.put n)
  head_length p q h = omega (arith, head_lengths, one_group 2 (omega arith), one_group (get_or m 0 0) (omega arith), one_group k (omega arith), one_group j (omega arith))

module _ (m : List ℕ) (j : ℕ) (order starts : List ℕ) (darts count k : ℕ) where
  -- the message, with the counts that the code has
  pub update_of : {n b : ℕ} → n ≡ tally (in_part2 m k order starts) count → b ≡ length (run (least_put m k order starts darts count) count)
      → update_bytes m j order starts darts count k ≡ head_bytes m j k n (rest_for n b) ++ run (least_put m k order starts darts count) count
  unfolding update_bytes
  update_of p q = rw (p, q)

  -- and the rest that it has
  module _ {n b r : ℕ} (p : n ≡ tally (in_part2 m k order starts) count) (q : b ≡ length (run (least_put m k order starts darts count) count)) (e : r ≡ rest_for n b) where
    pub update_read : update_bytes m j order starts darts count k ≡ head_bytes m j k n r ++ run (least_put m k order starts darts count) count
    update_read = update_of p q ∙ ap (λ (x : ℕ). head_bytes m j k n x ++ run (least_put m k order starts darts count) count) (sym e)

    pub read_length : length (update_bytes m j order starts darts count k) ≡ length (head_bytes m j k n r) + length (run (least_put m k order starts darts count) count)
    read_length = ap length update_read ∙ length-append (head_bytes m j k n r) (run (least_put m k order starts darts count) count)

  update_length : get_or m 0 0 ≤ 15 → k ≤ 15 → j ≤ 15 → {n b : ℕ} → n ≡ tally (in_part2 m k order starts) count → b ≡ length (run (least_put m k order starts darts count) count)
      → length (update_bytes m j order starts darts count k) ≡ length (group.put (rest_for n b)) + rest_for n b
  unfolding rest_for
  update_length x y z {n} {b} p q =
      omega (arith, ap length (update_of p q), length-append (head_bytes m j k n (rest_for n b)) (run (least_put m k order starts darts count) count), head_length m j k n (rest_for n b) x y z)

  pub told_none : {n : ℕ} → n ≡ tally (in_part2 m k order starts) count → relative j k n ≡ false → told_put m j order starts darts count k ≡ []
  unfolding told_put
  told_none p e = rw (← p, e)

  pub told_some : {n : ℕ} → n ≡ tally (in_part2 m k order starts) count → relative j k n ≡ true → told_put m j order starts darts count k ≡ update_bytes m j order starts darts count k
  unfolding told_put
  told_some p e = rw (← p, e)

  pub told_length : get_or m 0 0 ≤ 15 → k ≤ 15 → j ≤ 15 → {n b : ℕ} → n ≡ tally (in_part2 m k order starts) count → b ≡ length (run (least_put m k order starts darts count) count)
      → size_for j k n b ≡ length (told_put m j order starts darts count k)
  told_length x y z {n} {b} p q = by_cases (relative j k n)
      (λ e. sym (ap length (told_some p e) ∙ size_some j k n b e refl (update_length x y z p q)))
      (λ e. sym (ap length (told_none p e) ∙ size_none j k n b e))

-- ALL OF THEM
-- are short
pub told_small : {m order starts : List ℕ} {darts count : ℕ} {labels bytes : List ℕ} → Shares m order starts darts count count labels bytes → count ≤ 512
    → (j : ℕ) → get_or m 0 0 ≤ 15 → j ≤ 15 → length (run (told_put m j order starts darts count) 16) < 2 ^ 32
told_small {m} {order} {starts} {darts} {count} {labels} {bytes} s few j x z = omega (
  arith,
  run_short (told_put m j order starts darts count) 65550 16
      (λ k h. omega (arith, told_length m j order starts darts count k x (omega arith) z (s.labels_are k h) (s.bytes_are k h), size_short j k (get_or labels k 0) (get_or bytes k 0) ((shares_few s few).bytes_few k h))),
)

pub sizes_are : {m order starts : List ℕ} {darts count : ℕ} {labels bytes : List ℕ} → Shares m order starts darts count count labels bytes → (j : ℕ) → get_or m 0 0 ≤ 15 → j ≤ 15
    → (c : ℕ) → c ≤ 16 → sizes_for j labels bytes c ≡ length (run (told_put m j order starts darts count) c)
unfolding sizes_for run
sizes_are s j x z zero h = refl
sizes_are {m} {order} {starts} {darts} {count} s j x z (suc c) h =
    omega (
      arith,
      sizes_are s j x z c (omega arith),
      told_length m j order starts darts count c x (omega arith) z (s.labels_are c (omega arith)) (s.bytes_are c (omega arith)),
      length-append (run (told_put m j order starts darts count) c) (told_put m j order starts darts count c),
    )
