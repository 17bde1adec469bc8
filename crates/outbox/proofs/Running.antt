-- Entries put in a loop: what is done before entry k, and one entry more. Assumes nothing.
use mathlib.Core.Path.{◌≡◌, refl, sym, ◌∙◌, ap}
use mathlib.Core.Bool.{Bool, true, false}
use mathlib.Core.List.{List, [], ◌++◌, append-nil}
use Prim.Native.Nat.{ℕ, zero, suc, ◌+◌, ◌*◌, ◌≤◌, ◌<◌, ◌^◌}
use native.Mathlib.Nat.{eq-or-lt_of_le, suc-mul}
use native.Mathlib.Numerals.{add-one}
use native.Mathlib.Omega.{arith}
use lib.ListN.{length, length-append}
use mathlib.Core.Logic.{⊎_elim}
use Rattle.laws.proofs.Tests.{by_cases}
use Rattle.groups.specs.Slices.{Stored}
use Rattle.groups.proofs.Writing.{stored_then, stored_length}
use Rattle.outbox.specs.Runs.{run, tally}
use Rattle.codec.proofs.EntryLaws.{stored_as}

module _ (b : ℕ → List ℕ) where
  -- one entry more, in the code's spelling
  pub run_more : (k : ℕ) → run b (k + 1) ≡ run b k ++ b k
  unfolding run
  run_more k = rw add-one

  longer : (k : ℕ) → length (run b (suc k)) ≡ length (run b k) + length (b k)
  unfolding run
  longer k = length-append (run b k) (b k)

  pub run_grows : (k n : ℕ) → k ≤ n → length (run b k) ≤ length (run b n)
  run_grows k zero h = let e : k ≡ 0 = omega arith in rw e (omega arith)
  run_grows k (suc n) h = ⊎_elim (λ e. rw e (omega arith)) (λ l. omega (arith, run_grows k n (omega arith), longer n)) (eq-or-lt_of_le h)

  -- entry k is one of n
  pub run_fits : (k n : ℕ) → k < n → length (run b k) + length (b k) ≤ length (run b n)
  run_fits k n h = omega (arith, longer k, run_grows (suc k) n h)

  -- entries of at most w bytes
  pub run_short : (w n : ℕ) → ((k : ℕ) → k < n → length (b k) ≤ w) → length (run b n) ≤ n * w
  unfolding run
  run_short w zero h = omega arith
  run_short w (suc n) h = omega (arith, longer n, run_short w n (λ k l. h k (omega arith)), h n (omega arith), suc-mul n w)

  -- entries of w bytes each
  pub run_same : (w n : ℕ) → ((k : ℕ) → k < n → length (b k) ≡ w) → length (run b n) ≡ n * w
  unfolding run
  run_same w zero h = omega arith
  run_same w (suc n) h = omega (arith, longer n, run_same w n (λ k l. h k (omega arith)), h n (omega arith), suc-mul n w)

-- IN A LOOP THAT PUTS: the entries before k stand from `from` up to `at`, and no place wraps
pub record Running (b : ℕ → List ℕ) (n : ℕ) (before : List ℕ) (from k : ℕ) (after : List ℕ) (at : ℕ) : Type 0 where
  pub k_le : k ≤ n
  pub so_far : Stored before from (run b k) after at
  pub space : from + length (run b n) < 2 ^ 63

pub running_start : (b : ℕ → List ℕ) (n : ℕ) (l : List ℕ) (from : ℕ) → from + length (run b n) < 2 ^ 63 → Running b n l from 0 l from
unfolding run
running_start b n l from h = record { k_le = omega arith; so_far = record { slice = refl; past = omega arith }; space = h }

module _ {b : ℕ → List ℕ} {n : ℕ} {l m : List ℕ} {from k at : ℕ} (r : Running b n l from k m at) where
  pub running_size : length m ≡ length l
  running_size = stored_length r.so_far

  pub running_end : n ≤ k → Stored l from (run b n) m at
  running_end h = let e : n ≡ k = omega (arith, r.k_le) in rw e r.so_far

  module _ (h : k < n) where
    pub running_within : at + length (b k) ≤ from + length (run b n)
    running_within = omega (arith, r.so_far.past, run_fits b k n h)

    pub running_space : at + length (b k) < 2 ^ 63
    running_space = omega (arith, running_within, r.space)

    pub running_step : {m' : List ℕ} {at' : ℕ} → Stored m at (b k) m' at' → Running b n l from (k + 1) m' at'
    running_step s = record { k_le = omega arith; so_far = stored_as (run_more b k) (stored_then r.so_far s); space = r.space }

    pub running_skip : b k ≡ [] → Running b n l from (k + 1) m at
    running_skip e = record { k_le = omega arith; so_far = stored_as (run_more b k ∙ ap (λ (x : List ℕ). run b k ++ x) e ∙ append-nil (run b k)) r.so_far; space = r.space }

-- HOW MANY PASS
module _ (q : ℕ → Bool) where
  pub tally_yes : (k : ℕ) → q k ≡ true → tally q (k + 1) ≡ tally q k + 1
  unfolding tally
  tally_yes k e = rw (add-one, e) (sym (add-one (tally q k)))

  pub tally_no : (k : ℕ) → q k ≡ false → tally q (k + 1) ≡ tally q k
  unfolding tally
  tally_no k e = rw (add-one, e)

  pub tally_le : (n : ℕ) → tally q n ≤ n
  unfolding tally
  tally_le zero = omega arith
  tally_le (suc n) = by_cases (q n) (λ e. rw e (omega (arith, tally_le n))) (λ e. rw e (omega (arith, tally_le n)))

  tally_up : (n : ℕ) → tally q n ≤ tally q (suc n)
  unfolding tally
  tally_up n = by_cases (q n) (λ e. rw e (omega arith)) (λ e. rw e (omega arith))

  pub tally_grows : (k n : ℕ) → k ≤ n → tally q k ≤ tally q n
  tally_grows k zero h = let e : k ≡ 0 = omega arith in rw e (omega arith)
  tally_grows k (suc n) h = ⊎_elim (λ e. rw e (omega arith)) (λ l. omega (arith, tally_grows k n (omega arith), tally_up n)) (eq-or-lt_of_le h)

  pub tally_start : 0 ≡ tally q 0
  unfolding tally
  tally_start = refl

  pub tally_from : (c : ℕ) → c ≡ c + tally q 0
  unfolding tally
  tally_from c = omega arith

-- IN A LOOP THAT COUNTS: of the first k so many pass
pub record Tallied (q : ℕ → Bool) (n k entries : ℕ) : Type 0 where
  pub k_le : k ≤ n
  pub so_far : entries ≡ tally q k

pub tallied_start : (q : ℕ → Bool) (n : ℕ) → Tallied q n 0 0
tallied_start q n = record { k_le = omega arith; so_far = tally_start q }

module _ {q : ℕ → Bool} {n k entries : ℕ} (r : Tallied q n k entries) where
  pub tallied_few : entries ≤ k
  tallied_few = omega (arith, r.so_far, tally_le q k)

  module _ (h : k < n) where
    pub tallied_step : q k ≡ true → Tallied q n (k + 1) (entries + 1)
    tallied_step e = record { k_le = omega arith; so_far = omega (arith, r.so_far, tally_yes q k e) }

    pub tallied_skip : q k ≡ false → Tallied q n (k + 1) entries
    tallied_skip e = record { k_le = omega arith; so_far = r.so_far ∙ sym (tally_no q k e) }
