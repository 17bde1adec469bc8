-- Bytes put one after another: one byte, a text, and how far a stored value reaches. Assumes nothing.
use mathlib.Core.Path.{◌≡◌, refl, ◌∙◌, ap}
use mathlib.Core.List.{List, [], ◌∷◌, ◌++◌}
use Prim.Native.Nat.{ℕ, ◌+◌, ◌≤◌, ◌<◌}
use native.Mathlib.Numerals.{add-one}
use native.Mathlib.Omega.{arith}
use lib.ListN.{length, get_or, take, drop, set}
use lib.Seq.{take-suc, take_all, sets-eq}
use Rattle.groups.specs.Slices.{Stored}
use Rattle.groups.proofs.Writing.{stored_then, stored_length}
use Rattle.listing.specs.Printed.{Printed}

pub stored_byte : (l : List ℕ) (at b : ℕ) → Stored l at (b ∷ []) (set l at b) (at + 1)
stored_byte l at b = record { slice = refl; past = refl }

-- a value of at most so many bytes
pub record Past (l : List ℕ) (at : ℕ) (m : List ℕ) (mid b : ℕ) : Type 0 where
  pub few : mid ≤ at + b
  pub same : length m ≡ length l

pub stored_past : {l m a : List ℕ} {at mid : ℕ} (b : ℕ) → Stored l at a m mid → length a ≤ b → Past l at m mid b
stored_past b p h = record { few = omega (arith, p.past); same = stored_length p }

-- at the start
pub printed : {l m a : List ℕ} {n : ℕ} → Stored l 0 a m n → length a ≤ length l → Printed a l m n
printed {l} {m} {a} {n} p h =
    let z : 0 + length a ≡ length a = omega arith in
    record { output = p.slice ∙ sets-eq a l 0 (omega arith) ∙ ap (λ (k : ℕ). a ++ drop k l) z; count = p.past ∙ z }

-- while a text is put: the bytes below i are stored
pub record Copying (before : List ℕ) (at : ℕ) (text out : List ℕ) (i : ℕ) : Type 0 where
  pub i_le : i ≤ length text
  pub fits : at + length text ≤ length before
  pub stored : Stored before at (take i text) out (at + i)

pub copy_none : (l : List ℕ) (at : ℕ) (text : List ℕ) → at + length text ≤ length l → Copying l at text l 0
copy_none l at text h = record { i_le = omega arith; fits = h; stored = record { slice = refl; past = refl } }

module _ {l text out : List ℕ} {at i : ℕ} (w : Copying l at text out i) where
  pub copy_fits : i < length text → at + i < length out
  copy_fits h = omega (arith, w.fits, stored_length w.stored)

  pub copy_more : i < length text → Copying l at text (set out (at + i) (get_or text i 0)) (i + 1)
  copy_more h = record {
    i_le = omega arith;
    fits = w.fits;
    stored = step (at + (i + 1)) (omega arith);
  }
    where
      step : (next : ℕ) → next ≡ at + i + 1 → Stored l at (take (i + 1) text) (set out (at + i) (get_or text i 0)) next
      step next e = rw (e, add-one i, take-suc text i 0 h) (stored_then w.stored (stored_byte out (at + i) (get_or text i 0)))

  pub copy_all : length text ≤ i → Stored l at text out (at + i)
  copy_all h = rw (take_all i text h) at w.stored
