-- Rows stored one after the other: what the loop has stored, and why there are none. Assumes nothing.
use mathlib.Core.Path.{◌≡◌, refl, sym, ◌∙◌, ap}
use mathlib.Core.Bool.{true}
use mathlib.Core.List.{List}
use mathlib.Core.Logic.{⊎_elim}
use Prim.Native.Nat.{ℕ, zero, suc, ◌+◌, ◌*◌, ◌≤◌, ◌<◌}
use native.Mathlib.Numerals.{add-one}
use native.Mathlib.Omega.{arith}
use lib.ListN.{length}
use Rattle.laws.specs.Order.{Ascending}
use Rattle.laws.specs.Standing.{Stands}
use Rattle.laws.proofs.Tests.{lt_or_ge}
use Rattle.laws.proofs.Tables.{length_tab}
use Rattle.laws.proofs.Maps.{tab_more}
use Rattle.model.specs.Lists.{tab}
use Rattle.model.specs.Values.{Dart}
use Rattle.model.specs.Pages.{Row, dart_of, row_line, row_place, row_ok}
use Rattle.theory.proofs.PageLaws.{row_small, row_positive, row_back}
use Rattle.memory.specs.Record.{put}
use Rattle.newblock.specs.Serials.{raw_words, stored_all}
use Rattle.newblock.proofs.Rows.{behind_none}
use Rattle.newblock.proofs.Stored.{stored_length, stored_more}
use Rattle.readpages.specs.Rows.{StoredAt, NoneAbove}
use Rattle.readpages.specs.Raw.{row_at, RowsAt, Filled}

-- the serial before row i, 0 before the first
abbrev before : (ℕ → Row) → ℕ → ℕ
before f zero = 0
before f (suc i) = (f i).serial

abbrev darts : List ℕ → ℕ → List Dart
darts s i = tab (λ j. dart_of (row_at s j)) i

pub record Filling (s : List ℕ) (n : ℕ) (m x : List ℕ) (last i : ℕ) : Type 0 where
  pub i_le : i ≤ n
  pub rows : RowsAt s i (row_at s)
  pub below : (j : ℕ) → j < i → (row_at s j).serial ≤ last
  pub last_is : last ≡ before (row_at s) i
  pub memory : x ≡ stored_all m (darts s i)

pub fill_none : (s : List ℕ) (n : ℕ) (m : List ℕ) → Filling s n m m 0 0
fill_none s n m = record {
  i_le = omega arith;
  rows = record { ok = λ j h. absurd (omega arith); stands = λ j h. absurd (omega arith); ascends = λ a b l h. absurd (omega arith) };
  below = λ j h. absurd (omega arith);
  last_is = refl;
  memory = behind_none m;
}

module _ {s : List ℕ} {n : ℕ} {m x : List ℕ} {last i : ℕ} (w : Filling s n m x last i) where
  pub fill_length : 8 + n * 8 ≤ length m → length x ≡ length m
  fill_length h = ap length w.memory ∙ stored_length m (darts s i) (omega (arith, length_tab (λ j. dart_of (row_at s j)) i, w.i_le))

  -- the row that stands there is the one that the columns say
  the_row : {last' p past serial : ℕ} {y after : List ℕ} (k : StoredAt s (row_place i) last' y p after serial past) → row_at s i ≡ k.row
  the_row k = row_back k.row (row_small k.row k.ok) k.stands

  pub fill_more : i < n → 8 + n * 8 ≤ length m → {after : List ℕ} {serial past : ℕ} → StoredAt s (row_place i) last x i after serial past → Filling s n m after serial (i + 1)
  fill_more l h {after} {serial} {past} k = record {
    i_le = omega arith;
    rows = record { ok = ok_more; stands = stands_more; ascends = ascends_more };
    below = below_more;
    last_is = rw (add-one i) own;
    memory = k.memory ∙ ap (λ (y : List ℕ). put y i (raw_words (dart_of k.row))) w.memory
        ∙ ap (λ (r : Row). put (stored_all m (darts s i)) i (raw_words (dart_of r))) (sym (the_row k))
        ∙ stored_more m (darts s i) (omega (arith, count, w.i_le)) (dart_of (row_at s i)) i count
        ∙ ap (stored_all m) (tab_more (λ j. dart_of (row_at s j)) i ∙ ap (darts s) (sym (add-one i)));
  }
    where
      count : length (darts s i) ≡ i
      count = length_tab (λ j. dart_of (row_at s j)) i

      own : serial ≡ (row_at s i).serial
      own = k.serial_is ∙ ap (λ (r : Row). r.serial) (sym (the_row k))

      above : last < (row_at s i).serial
      above = omega (arith, own, k.serial_is, k.above)

      ok_more : (j : ℕ) → j < i + 1 → row_ok (row_at s j) ≡ true
      ok_more j g = ⊎_elim (λ a. w.rows.ok j a) (λ b. let q : j ≡ i = omega arith in rw (q, the_row k) k.ok) (lt_or_ge j i)

      stands_more : (j : ℕ) → j < i + 1 → Stands s (row_place j) (row_line (row_at s j))
      stands_more j g = ⊎_elim (λ a. w.rows.stands j a) (λ b. let q : j ≡ i = omega arith in rw (q, the_row k) k.stands) (lt_or_ge j i)

      below_more : (j : ℕ) → j < i + 1 → (row_at s j).serial ≤ serial
      below_more j g = ⊎_elim (λ a. omega (arith, w.below j a, above, own)) (λ b. let q : j ≡ i = omega arith in rw q (omega (arith, own))) (lt_or_ge j i)

      ascends_more : Ascending (i + 1) (λ j. (row_at s j).serial)
      ascends_more a b g f = ⊎_elim
          (λ c. w.rows.ascends a b g c)
          (λ c. let q : b ≡ i = omega arith in rw q (omega (arith, w.below a (omega arith), above)))
          (lt_or_ge b i)

  pub fill_end : n ≤ i → Filled s n m x
  fill_end h =
      let e : i ≡ n = omega (arith, w.i_le) in
      record { rows = rw (← e) w.rows; memory = rw (← e) w.memory }

  -- rows f would go on above the last one
  pub fill_fails : i < n → NoneAbove s (row_place i) last → (f : ℕ → Row) → RowsAt s n f → ⊥
  fill_fails l none f r = none (f i) (r.ok i l) (r.stands i l) (higher i (λ j h. same j (omega arith)) w.last_is l)
    where
      same : (j : ℕ) → j < n → row_at s j ≡ f j
      same j h = row_back (f j) (row_small (f j) (r.ok j h)) (r.stands j h)

      higher : (i : ℕ) → ((j : ℕ) → j < i → row_at s j ≡ f j) → last ≡ before (row_at s) i → i < n → last < (f i).serial
      higher zero e q h = omega (arith, q, row_positive (f 0) (r.ok 0 h))
      higher (suc j) e q h = omega (arith, q, ap (λ (t : Row). t.serial) (e j (omega arith)), r.ascends j (suc j) (omega arith) h)
