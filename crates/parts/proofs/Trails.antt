-- A walk round a face of the block, and the new face beside it, by places. Assumes nothing.
use mathlib.Core.Path.{◌≡◌, refl, sym, ◌∙◌, ap}
use mathlib.Core.Bool.{Bool, true, false, true≢false, ◌&&◌}
use mathlib.Core.List.{List}
use mathlib.Core.Logic.{⊎_elim}
use Prim.Native.Nat.{ℕ, zero, suc, ◌+◌, ◌*◌, ◌-◌, ◌≤◌, ◌<◌}
use native.Mathlib.Omega.{arith}
use lib.Dec.{eqb}
use lib.ListN.{length, get_or, take}
use lib.Seq.{get_or-take, length-take-le}
use borrow.Author.Tests.{eqb-true, eq-eqb, ne_eqb}
use Rattle.model.specs.Lists.{all, tab}
use Rattle.model.specs.Cells.{cycle}
use Rattle.model.specs.Image.{words_for, column}
use Rattle.memory.specs.Point.{FiniteAt}
use Rattle.laws.proofs.Orbits.{iter, path}
use Rattle.laws.proofs.Tests.{eq_or_ne, same_truth, first_false, all_three}
use Rattle.arrival.proofs.PairLaws.{all_same}
use Rattle.cells.specs.Places.{Within, Linked, Put}
use Rattle.cells.proofs.Paths.{Round, Going, round}
use Rattle.parts.specs.Meets.{Walked, Meetable, Trailed, meet_at, met_at, meets_at, EntryRight}

-- THE WALK
-- it is back
pub walked_back : {m o o' : List ℕ} {start size : ℕ} (i : ℕ) → size ≤ length o → Put (cycle (column m 1) start) 0 o o' (i + 1) → Walked m start size o' (eqb (i + 1) size)
walked_back {m} {o} {o'} {start} {size} i h p = record {
  len = omega (arith, p.size, h);
  said = same_truth _ _ (λ t. eq-eqb size _ (let e = eqb-true (i + 1) size t in omega (arith, e, p.end))) (λ t. eq-eqb (i + 1) size (let e = eqb-true size _ t in omega (arith, e, p.end)));
  front = λ t. ap (λ (n : ℕ). take n o') (sym (eqb-true (i + 1) size t)) ∙ p.front;
}

-- it has taken as many steps, and is not back
pub walked_far : {m o : List ℕ} {n start size p : ℕ} (i : ℕ) → size ≤ length o → Going n (column m 1) start (length (cycle (column m 1) start)) (i - 0) p → size ≤ i → Walked m start size o false
walked_far {m} {o} {n} {start} {size} i h g f = record {
  len = h;
  said = sym (ne_eqb size _ (λ e. let l = g.less in omega (arith, e, l, f)));
  front = λ t. absurd (true≢false (sym t));
}

-- WHAT DART j MEETS
pub met_first : (trail : List ℕ) (size j : ℕ) → j ≡ 0 → get_or trail 0 0 ≡ met_at trail size j
met_first trail size j e = rw (eq-eqb j 0 e) refl

pub met_later : (trail : List ℕ) (size j : ℕ) → (j ≡ 0 → ⊥) → get_or trail (size - j) 0 ≡ met_at trail size j
met_later trail size j e = rw (ne_eqb j 0 e) refl

pub met_same : (a b : List ℕ) (size j : ℕ) → j < size → ((i : ℕ) → i < size → get_or a i 0 ≡ get_or b i 0) → met_at a size j ≡ met_at b size j
met_same a b size j h e = ⊎_elim
    (λ (z : j ≡ 0). sym (met_first a size j z) ∙ e 0 (omega arith) ∙ met_first b size j z)
    (λ (z : j ≡ 0 → ⊥). sym (met_later a size j z) ∙ e (size - j) (less z) ∙ met_later b size j z)
    (eq_or_ne j 0)
  where
    less : (j ≡ 0 → ⊥) → size - j < size
    less z = omega (arith, z, h)

-- THE FACE by steps
path_at : (f : ℕ → ℕ) (k x j : ℕ) → j < k → get_or (path f k x) j 0 ≡ iter f j x
path_at f zero x j h = absurd (omega arith)
path_at f (suc k) x zero h = refl
path_at f (suc k) x (suc j) h = path_at f k (f x) j (omega arith)

iter_below : {n : ℕ} {f : ℕ → ℕ} → Within n f → (j x : ℕ) → x < n → iter f j x < n
iter_below w zero x h = h
iter_below {f = f} w (suc j) x h = iter_below w j (f x) (w x h)

module _ {m : List ℕ} {n : ℕ} (l : Linked m n) {y : ℕ} (hy : y < n) where
  around : Round (column m 1) y (length (cycle (column m 1) y))
  around = round l.few l.next_within l.next_apart y hy

  face_at : (j : ℕ) → j < length (cycle (column m 1) y) → get_or (cycle (column m 1) y) j 0 ≡ iter (column m 1) j y
  face_at j h = ap (λ (c : List ℕ). get_or c j 0) around.cycle_is ∙ path_at (column m 1) (length (cycle (column m 1) y)) y j h

  -- what dart j meets
  pub met_is : (j : ℕ) → j < length (cycle (column m 1) y) → met_at (cycle (column m 1) y) (length (cycle (column m 1) y)) j ≡ iter (column m 1) (length (cycle (column m 1) y) - j) y
  met_is j h = ⊎_elim
      (λ (z : j ≡ 0). sym (met_first (cycle (column m 1) y) (length (cycle (column m 1) y)) j z) ∙ face_at 0 (omega arith) ∙ sym around.returns ∙ ap (λ (c : ℕ). iter (column m 1) c y) (whole z))
      (λ (z : j ≡ 0 → ⊥). sym (met_later (cycle (column m 1) y) (length (cycle (column m 1) y)) j z) ∙ face_at (length (cycle (column m 1) y) - j) (less z))
      (eq_or_ne j 0)
    where
      whole : j ≡ 0 → length (cycle (column m 1) y) ≡ length (cycle (column m 1) y) - j
      whole z = omega (arith, z)

      less : (j ≡ 0 → ⊥) → length (cycle (column m 1) y) - j < length (cycle (column m 1) y)
      less z = omega (arith, z, h)

  pub trailed_front : {size : ℕ} {trail : List ℕ} → size ≤ length trail → take size trail ≡ cycle (column m 1) y → Trailed n size trail
  trailed_front {size} {trail} len front = record {
    len = len;
    below = λ j h.
        let e : length (take size trail) ≡ size = length-take-le size trail len in
        let s : get_or trail j 0 ≡ iter (column m 1) j y = sym (get_or-take size trail j 0 h) ∙ ap (λ (c : List ℕ). get_or c j 0) front ∙ face_at j (let g = ap length front in omega (arith, e, g, h)) in
        let b = iter_below l.next_within j y hy in omega (arith, s, b);
  }

  pub trailed : {size : ℕ} {trail : List ℕ} → Walked m y size trail true → Trailed n size trail
  trailed w = trailed_front w.len (w.front refl)

met_below : {n size : ℕ} {trail : List ℕ} (j : ℕ) → j < size → Trailed n size trail → met_at trail size j < n
met_below {n} {size} {trail} j l t = ⊎_elim
    (λ (z : j ≡ 0). let s = met_first trail size j z in let b = t.below 0 (omega arith) in omega (arith, s, b))
    (λ (z : j ≡ 0 → ⊥). let s = met_later trail size j z in let b = t.below (size - j) (less z) in omega (arith, s, b))
    (eq_or_ne j 0)
  where
    less : (j ≡ 0 → ⊥) → size - j < size
    less z = omega (arith, z, l)

-- what meet_at asks
abbrev Ready : List ℕ → List ℕ → ℕ → ℕ → Type 0
Ready m d p w =
    ((words_for (p + 1) ≤ length d) × (words_for (w + 1) ≤ length m) × (words_for (column d 1 p + 1) ≤ length d) × (words_for (column m 1 w + 1) ≤ length m))
    × (FiniteAt d p × FiniteAt d (column d 1 p) × FiniteAt m w × FiniteAt m (column m 1 w))

module _ {m d ranks : List ℕ} {n k : ℕ} (o : Meetable m n d k ranks) (at : ℕ) {size j : ℕ} {trail : List ℕ} (fits : at + size ≤ k) (l : j < size) (t : Trailed n size trail) where
  pub ready : {p w : ℕ} → p ≡ get_or ranks (at + j) 0 → w ≡ met_at trail size j → Ready m d p w
  ready {p} {w} r e =
      let hp : p < k = omega (arith, r, o.rank_below (at + j) (omega arith)) in
      let hw : w < n = let b = met_below j l t in omega (arith, e, b) in
      let np = o.new_within p hp in
      let nw = o.linked.next_within w hw in
      let new = o.draft_size in
      let old = o.linked.size in (
        (omega (arith, hp, new), omega (arith, hw, old), omega (arith, np, new), omega (arith, nw, old)),
        (o.new_finite p hp, o.new_finite (column d 1 p) np, o.finite w hw, o.finite (column m 1 w) nw),
      )

pub meets_told : (m d ranks : List ℕ) (at size j : ℕ) (trail : List ℕ) {p w : ℕ} {r : Bool} → p ≡ get_or ranks (at + j) 0 → w ≡ met_at trail size j
    → r ≡ meet_at m d p w → r ≡ meets_at m d ranks at size trail j
meets_told m d ranks at size j trail {p} {w} h e q = q ∙ ap (λ (x : ℕ). meet_at m d x w) h ∙ ap (meet_at m d (get_or ranks (at + j) 0)) e

-- AN ENTRY
second_no : (a b c : Bool) → b ≡ false → false ≡ (a && b && c)
second_no true b c e = rw e refl
second_no false b c e = refl

module _ (m d ranks : List ℕ) (from y at size : ℕ) {trail : List ℕ} where
  pub not_critical : {v : ℕ} → size ≤ length trail → v ≡ column m 3 y → (v ≡ 2 + 4 * from → ⊥) → EntryRight m d ranks from y at size trail false
  not_critical h e ne = record { len = h; said = first_false _ _ _ (ne_eqb (column m 3 y) (2 + 4 * from) (λ s. ne (e ∙ s))); front = λ t. absurd (true≢false (sym t)) }

  pub not_equal : Walked m y size trail false → EntryRight m d ranks from y at size trail false
  not_equal w =
      record {
        len = w.len;
        said = second_no (eqb (column m 3 y) (2 + 4 * from)) (eqb size (length (cycle (column m 1) y)))
            (all (meets_at m d ranks at size (cycle (column m 1) y)) (tab (λ j. j) size)) (sym w.said);
        front = λ t. absurd (true≢false (sym t));
      }

  pub entry_told : {v : ℕ} {r : Bool} → v ≡ column m 3 y → v ≡ 2 + 4 * from → Walked m y size trail true
      → r ≡ all (meets_at m d ranks at size trail) (tab (λ j. j) size) → EntryRight m d ranks from y at size trail r
  entry_told e c w q = record {
    len = w.len;
    said =
        all_three _ _ _ (eq-eqb (column m 3 y) (2 + 4 * from) (sym e ∙ c)) (sym w.said)
        (q ∙ all_same _ _ size (λ j h. ap (meet_at m d (get_or ranks (at + j) 0)) (met_same trail (cycle (column m 1) y) size j h one)));
    front = λ t. w.front refl;
  }
    where
      one : (j : ℕ) → j < size → get_or trail j 0 ≡ get_or (cycle (column m 1) y) j 0
      one j h = sym (get_or-take size trail j 0 h) ∙ ap (λ (l : List ℕ). get_or l j 0) (w.front refl)
