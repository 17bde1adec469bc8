-- Bytes in pieces, one for each place, written one after the other by a loop. Assumes nothing.
use mathlib.Core.Path.{◌≡◌, refl, sym, ◌∙◌, ap}
use mathlib.Core.List.{List, [], ◌++◌, append_assoc, append-nil}
use mathlib.Core.Logic.{⊎_elim}
use Prim.Native.Nat.{ℕ, zero, suc, ◌+◌, ◌*◌, ◌≤◌, ◌<◌}
use native.Mathlib.Nat.{eq-or-lt_of_le, suc-mul}
use native.Mathlib.Numerals.{add-one}
use native.Mathlib.Omega.{arith}
use lib.ListN.{length, length-append}
use Rattle.model.specs.Lists.{tab, concat_map}
use Rattle.groups.specs.Slices.{Stored}
use Rattle.groups.proofs.Writing.{stored_none, stored_then, stored_length}

-- g 0, g 1, .., n pieces
abbrev pub pieces : (ℕ → List ℕ) → ℕ → List ℕ
pieces g zero = []
pieces g (suc n) = pieces g n ++ g n

front_piece : (g : ℕ → List ℕ) (n : ℕ) → pieces g (suc n) ≡ g 0 ++ pieces (λ k. g (suc k)) n
front_piece g zero = sym (append-nil (g 0))
front_piece g (suc n) = ap (λ (l : List ℕ). l ++ g (suc n)) (front_piece g n) ∙ append_assoc (g 0) (pieces (λ k. g (suc k)) n) (g (suc n))

-- what is made of each element of a list by places
pub in_pieces : {A : Type 0} (h : A → List ℕ) (f : ℕ → A) (n : ℕ) → concat_map h (tab f n) ≡ pieces (λ p. h (f p)) n
in_pieces h f zero = refl
in_pieces h f (suc n) = ap (λ (l : List ℕ). h (f 0) ++ l) (in_pieces h (λ k. f (suc k)) n) ∙ sym (front_piece (λ p. h (f p)) n)

-- one piece more
pub length_more : (g : ℕ → List ℕ) (i : ℕ) → length (pieces g (i + 1)) ≡ length (pieces g i) + length (g i)
length_more g i = rw (add-one i) (length-append (pieces g i) (g i))

-- fewer pieces are not longer
pub length_fewer : (g : ℕ → List ℕ) (n i : ℕ) → i ≤ n → length (pieces g i) ≤ length (pieces g n)
length_fewer g zero i h = let e : i ≡ 0 = omega arith in rw e (omega arith)
length_fewer g (suc n) i h = ⊎_elim
    (λ e. rw e (omega arith))
    (λ l. let ih = length_fewer g n i (omega arith) in omega (arith, length-append (pieces g n) (g n)))
    (eq-or-lt_of_le h)

pub length_most : (g : ℕ → List ℕ) (b n : ℕ) → ((p : ℕ) → p < n → length (g p) ≤ b) → length (pieces g n) ≤ n * b
length_most g b zero h = omega arith
length_most g b (suc n) h =
    let ih = length_most g b n (λ p l. h p (omega arith)) in
    omega (arith, length-append (pieces g n) (g n), h n (omega arith), suc-mul n b)

-- WHILE PIECES ARE WRITTEN, into any output: those below i are
pub record Laying (g : ℕ → List ℕ) (n at : ℕ) (before out : List ℕ) (past i : ℕ) : Type 0 where
  pub i_le : i ≤ n
  pub stored : Stored before at (pieces g i) out past

module _ {g : ℕ → List ℕ} {n at : ℕ} {l out : List ℕ} {past i : ℕ} (w : Laying g n at l out past i) where
  -- the next one ends no later than all
  pub lay_within : i < n → past + length (g i) ≤ at + length (pieces g n)
  lay_within h = omega (arith, length_more g i, length_fewer g n (i + 1) (omega arith), w.stored.past)

  pub lay_more : i < n → {after : List ℕ} {next : ℕ} → Stored out past (g i) after next → Laying g n at l after next (i + 1)
  lay_more h {after} {next} s = record { i_le = omega arith; stored = rw (add-one i) (stored_then w.stored s) }

  pub lay_all : n ≤ i → Stored l at (pieces g n) out past
  lay_all h = let e : n ≡ i = omega (arith, w.i_le) in rw e w.stored

-- and into one that has room for all
pub record Placing (g : ℕ → List ℕ) (n at : ℕ) (before out : List ℕ) (past i : ℕ) : Type 0 where
  pub i_le : i ≤ n
  pub fits : at + length (pieces g n) ≤ length before
  pub stored : Stored before at (pieces g i) out past

pub place_none : (g : ℕ → List ℕ) (n at : ℕ) (l : List ℕ) → at + length (pieces g n) ≤ length l → Placing g n at l l at 0
place_none g n at l h = record { i_le = omega arith; fits = h; stored = stored_none l at }

module _ {g : ℕ → List ℕ} {n at : ℕ} {l out : List ℕ} {past i : ℕ} (w : Placing g n at l out past i) where
  pub place_fits : i < n → past + length (g i) ≤ length out
  place_fits h = omega (arith, length_more g i, length_fewer g n (i + 1) (omega arith), w.fits, stored_length w.stored, w.stored.past)

  pub place_more : i < n → {after : List ℕ} {next : ℕ} → Stored out past (g i) after next → Placing g n at l after next (i + 1)
  place_more h {after} {next} s = record {
    i_le = omega arith;
    fits = w.fits;
    stored = rw (add-one i) (stored_then w.stored s);
  }

  pub place_all : n ≤ i → Stored l at (pieces g n) out past
  place_all h = let e : n ≡ i = omega (arith, w.i_le) in rw e w.stored
