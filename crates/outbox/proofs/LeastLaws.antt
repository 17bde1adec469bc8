-- The least label of a face, dart after dart, and what a face adds to the labels for a block. Assumes nothing.
use mathlib.Core.Path.{◌≡◌, refl, sym, ◌∙◌, ap}
use mathlib.Core.Bool.{true, false}
use mathlib.Core.List.{List, []}
use Prim.Native.Nat.{ℕ, zero, suc, ◌+◌, ◌-◌, ◌*◌, ◌≤◌, ◌<◌, min}
use native.Mathlib.Nat.{add-zero}
use native.Mathlib.Numerals.{add-one}
use native.Mathlib.Omega.{arith}
use lib.ListN.{length, get_or}
use borrow.Author.Tests.{eq-eqb, ne_eqb}
use Rattle.model.specs.Lists.{least, least_from, tab}
use Rattle.model.specs.Messages.{label}
use Rattle.model.specs.Image.{column, label_in}
use Rattle.laws.proofs.Tests.{by_cases}
use Rattle.theory.proofs.LayoutLengths.{label_short}
use Rattle.outbox.specs.Bytes.{end_of, in_part2, start_at}
use Rattle.outbox.specs.ByBlocks.{least_code, least_put}

-- one value more
least_from_more : (a : ℕ) (c : ℕ → ℕ) (n : ℕ) → least_from a (tab c (suc n)) ≡ min (least_from a (tab c n)) (c n)
least_from_more a c zero = refl
least_from_more a c (suc n) = least_from_more (min a (c 0)) (λ k. c (suc k)) n

least_more : (c : ℕ → ℕ) (n : ℕ) → least (tab c (suc (suc n))) ≡ min (least (tab c (suc n))) (c (suc n))
unfolding least
least_more c n = least_from_more (c 0) (λ k. c (suc k)) n

-- IN A LOOP: the least of the darts before k, at least one
pub least_start : (m order : List ℕ) (s w : ℕ) → w ≡ column m 4 (get_or order s 0) → w ≡ least_code m order s 1
unfolding least_code least
least_start m order s w e = e ∙ ap (λ (i : ℕ). column m 4 (get_or order i 0)) (sym (add-zero s))

pub least_step : (m order : List ℕ) (s k : ℕ) {v w r : ℕ} → 0 < k → v ≡ least_code m order s k → w ≡ column m 4 (get_or order (s + k) 0) → r ≡ min v w
    → r ≡ least_code m order s (k + 1)
unfolding least_code
least_step m order s zero h p q e = absurd (omega arith)
least_step m order s (suc k) h p q e = rw (add-one (suc k), e, p, q) (sym (least_more (λ t. column m 4 (get_or order (s + t) 0)) k))

-- WHAT FACE f ADDS
module _ (m : List ℕ) (k : ℕ) (order starts : List ℕ) (darts count f : ℕ) where
  pub least_none : in_part2 m k order starts f ≡ false → least_put m k order starts darts count f ≡ []
  unfolding least_put
  least_none e = rw e

  pub least_one : (e w : ℕ) → in_part2 m k order starts f ≡ true → e ≡ end_of starts count darts f → w ≡ least_code m order (get_or starts f 0) (e - get_or starts f 0)
      → least_put m k order starts darts count f ≡ label.put (label_in w)
  unfolding least_put
  least_one e w y h c = rw y (ap (λ (n : ℕ). label.put (label_in (least_code m order (get_or starts f 0) (n - get_or starts f 0)))) (sym h) ∙ ap (λ (v : ℕ). label.put (label_in v)) (sym c))

  pub least_short : length (least_put m k order starts darts count f) ≤ 15
  unfolding least_put
  least_short = by_cases (in_part2 m k order starts f) (λ e. rw e (label_short _)) (λ e. rw e (omega arith))

  -- the kind of its start was read
  module _ {w : ℕ} (p : w ≡ column m 3 (start_at order starts f)) where
    pub shared_by : w ≡ 2 + 4 * k → in_part2 m k order starts f ≡ true
    shared_by e = rw (← p) (eq-eqb w (2 + 4 * k) e)

    pub not_shared_by : (w ≡ 2 + 4 * k → ⊥) → in_part2 m k order starts f ≡ false
    not_shared_by n = rw (← p) (ne_eqb w (2 + 4 * k) n)
