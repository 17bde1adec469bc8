-- The volume of a dart by place is the least closed set, for links within the places. Assumes nothing.
use mathlib.Core.Path.{refl}
use mathlib.Core.List.{List}
use Prim.Native.Nat.{ℕ, ◌≤◌, ◌<◌}
use native.Mathlib.Omega.{arith}
use lib.Dec.{eqb}
use borrow.Author.Tests.{eq-eqb, eqb-true}
use Rattle.model.specs.Lists.{tab, mem}
use Rattle.model.specs.Cells.{volume}
use Rattle.model.specs.Image.{column}
use Rattle.model.specs.Values.{room}
use Rattle.laws.proofs.Members.{In, in_keep, keep_in}
use Rattle.laws.proofs.Volumes.{Volume, volume_is}
use Rattle.laws.proofs.Tables.{length_tab, tab_any, any_tab}
use Rattle.cells.specs.Places.{Within, Linked, places_in, volume_of}

abbrev pub places : ℕ → List ℕ
places n = tab (λ p. p) n

pub in_places : (n p : ℕ) → p < n → In p (places n)
in_places n p h = tab_any (eqb p) (λ k. k) n p h (eq-eqb p p refl)

pub places_below : (n p : ℕ) → In p (places n) → p < n
places_below n p h = let w = any_tab (eqb p) (λ k. k) n h in omega (arith, w.1, eqb-true p w.0 w.2)

pub within_places : {n : ℕ} {f : ℕ → ℕ} → Within n f → (p : ℕ) → In p (places n) → In (f p) (places n)
within_places {n} {f} w p h = in_places n (f p) (w p (places_below n p h))

pub volume_places : (n : ℕ) (f g : ℕ → ℕ) → n ≤ room → Within n f → Within n g → (d : ℕ) → d < n → Volume f g d (volume f g d)
volume_places n f g few wf wg d h =
    volume_is f g (places n) (within_places wf) (within_places wg) (omega (arith, length_tab (λ (p : ℕ). p) n)) d (in_places n d h)

-- of a block's memory
pub volume_linked : {b : List ℕ} {n d : ℕ} → Linked b n → d < n → Volume (column b 1) (column b 2) d (volume_of b d)
volume_linked {b} {n} {d} l h = volume_places n (column b 1) (column b 2) l.few l.next_within l.opposite_within d h

-- and lies below n
pub volume_below : {b : List ℕ} {n d : ℕ} → Linked b n → d < n → (p : ℕ) → In p (volume_of b d) → p < n
volume_below {b} {n} {d} l h = (volume_linked l h).least (λ p. p < n) h l.next_within l.opposite_within

-- the volume in ascending place
pub in_places_in : (n : ℕ) (v : List ℕ) (p : ℕ) → p < n → In p v → In p (places_in n v)
unfolding places_in
in_places_in n v p h k = in_keep (λ q. mem q v) p (places n) (in_places n p h) k

pub places_in_in : (n : ℕ) (v : List ℕ) (p : ℕ) → In p (places_in n v) → (p < n) × In p v
unfolding places_in
places_in_in n v p h = let r = keep_in (λ q. mem q v) (places n) p h in (places_below n p r.0, r.1)
