-- Faces as segments of the indices: the next index stays within, and no two indices have one. Assumes nothing.
use mathlib.Core.Path.{◌≡◌, sym, ◌∙◌, ap}
use mathlib.Core.Bool.{true, false}
use mathlib.Core.List.{List, [], ◌∷◌}
use mathlib.Core.Logic.{⊎_elim}
use Prim.Native.Nat.{ℕ, suc, ◌+◌, ◌-◌, ◌≤◌, ◌<◌}
use native.Mathlib.Omega.{arith}
use lib.Dec.{eqb}
use lib.ListN.{length, get_or, replicate, length-replicate, get_or-replicate, get_or-append}
use borrow.Author.Tests.{eqb-true, eqb-false}
use Rattle.model.specs.Messages.{FaceDart, size_all}
use Rattle.laws.proofs.Tests.{by_cases, lt_or_ge}
use Rattle.inbox.specs.Inbox.{FacesIn, starts_of, sizes_of}
use Rattle.arrival.specs.Sides.{next_index, Segments}
use Rattle.arrival.proofs.SideLaws.{From, past_face, from_start}

-- one index among faces that lie from o up to e
record Segment (b z : List ℕ) (o e i : ℕ) : Type 0 where
  pub after : o ≤ get_or b i 0
  pub start_le : get_or b i 0 ≤ i
  pub end_above : i < get_or b i 0 + get_or z i 0
  pub end_within : get_or b i 0 + get_or z i 0 ≤ e
  pub same_start : (j : ℕ) → get_or b i 0 ≤ j → j < get_or b i 0 + get_or z i 0 → get_or b j 0 ≡ get_or b i 0
  pub same_size : (j : ℕ) → get_or b i 0 ≤ j → j < get_or b i 0 + get_or z i 0 → get_or z j 0 ≡ get_or z i 0

module _ (v x b z : List ℕ) where
  module _ (o : ℕ) (f : List FaceDart) (fs : List (List FaceDart)) (w : From v x b z o (f ∷ fs)) where
    start_at : (i : ℕ) → o ≤ i → i < o + length f → get_or b i 0 ≡ o
    unfolding starts_of size_all
    start_at i g h =
        let e : i ≡ o + (i - o) = omega (arith, g) in
        let l : i - o < length f = omega (arith, g, h) in
        ap (λ (k : ℕ). get_or b k 0) e ∙ w.start_is (i - o) (omega (arith, l))
        ∙ get_or-append (replicate (length f) o) _ 0 (i - o) (rw (length-replicate (length f) o) l)
        ∙ get_or-replicate (length f) (i - o) o 0 l

    size_at : (i : ℕ) → o ≤ i → i < o + length f → get_or z i 0 ≡ length f
    unfolding sizes_of size_all
    size_at i g h =
        let e : i ≡ o + (i - o) = omega (arith, g) in
        let l : i - o < length f = omega (arith, g, h) in
        ap (λ (k : ℕ). get_or z k 0) e ∙ w.size_is (i - o) (omega (arith, l))
        ∙ get_or-append (replicate (length f) (length f)) _ 0 (i - o) (rw (length-replicate (length f) (length f)) l)
        ∙ get_or-replicate (length f) (i - o) (length f) 0 l

    first : (i : ℕ) → o ≤ i → i < o + length f → Segment b z o (o + size_all (f ∷ fs)) i
    unfolding size_all
    first i g h =
        let s = start_at i g h in
        let n = size_at i g h in
        record {
          after = omega (arith, s);
          start_le = omega (arith, s, g);
          end_above = omega (arith, s, n, h);
          end_within = omega (arith, s, n);
          same_start = λ j l u. start_at j (omega (arith, l, s)) (omega (arith, u, s, n)) ∙ sym s;
          same_size = λ j l u. size_at j (omega (arith, l, s)) (omega (arith, u, s, n)) ∙ sym n;
        }

  segment : (o : ℕ) (fs : List (List FaceDart)) → From v x b z o fs → (i : ℕ) → o ≤ i → i < o + size_all fs → Segment b z o (o + size_all fs) i
  unfolding size_all
  segment o [] w i g h = absurd (omega (arith, g, h))
  segment o (f ∷ fs) w i g h = ⊎_elim
      (λ (y : i < o + length f). first o f fs w i g y)
      (λ (y : o + length f ≤ i).
      let e : o + length f + size_all fs ≡ o + (length f + size_all fs) = omega arith in
      let r = segment (o + length f) fs (past_face v x b z o f fs w) i y (omega (arith, h)) in
      record {
        after = omega (arith, r.after);
        start_le = r.start_le;
        end_above = r.end_above;
        end_within = omega (arith, r.end_within, e);
        same_start = r.same_start;
        same_size = r.same_size;
      })
      (lt_or_ge i (o + length f))

  pub segments : (fs : List (List FaceDart)) → FacesIn fs v x b z → Segments b z (size_all fs)
  segments fs w = record {
    start_le = λ i h. (at i h).start_le;
    end_above = λ i h. (at i h).end_above;
    end_within = λ i h. omega (arith, (at i h).end_within);
    same_start = λ i h. (at i h).same_start;
    same_size = λ i h. (at i h).same_size;
  }
    where
      at : (i : ℕ) → i < size_all fs → Segment b z 0 (0 + size_all fs) i
      at i h = segment 0 fs (from_start v x b z fs w) i (omega arith) (omega (arith, h))

-- NEXT
module _ {b z : List ℕ} {k : ℕ} (w : Segments b z k) where
  pub next_below : (i : ℕ) → i < k → next_index b z i < k
  next_below i h = by_cases (eqb (suc i) (get_or b i 0 + get_or z i 0))
      (λ e. rw e (omega (arith, w.start_le i h, h)))
      (λ e. rw e (let d = eqb-false (suc i) (get_or b i 0 + get_or z i 0) e in ⊎_elim
      (λ (y : suc i < get_or b i 0 + get_or z i 0). omega (arith, y, w.end_within i h))
      (λ (y : get_or b i 0 + get_or z i 0 ≤ suc i). absurd (d (omega (arith, y, w.end_above i h))))
      (lt_or_ge (suc i) (get_or b i 0 + get_or z i 0))))

  pub next_apart : (i j : ℕ) → i < k → j < k → next_index b z i ≡ next_index b z j → i ≡ j
  next_apart i j hi hj = by_cases (eqb (suc i) (get_or b i 0 + get_or z i 0))
      (λ e. by_cases (eqb (suc j) (get_or b j 0 + get_or z j 0))
      (λ g. rw (e, g) (λ (q : get_or b i 0 ≡ get_or b j 0). both_last e g q))
      (λ g. rw (e, g) (λ (q : get_or b i 0 ≡ suc j). absurd (last_and_inner i j hi hj g q))))
      (λ e. by_cases (eqb (suc j) (get_or b j 0 + get_or z j 0))
      (λ g. rw (e, g) (λ (q : suc i ≡ get_or b j 0). absurd (last_and_inner j i hj hi e (sym q))))
      (λ g. rw (e, g) (λ (q : suc i ≡ suc j). omega (arith, q))))
    where
      both_last : eqb (suc i) (get_or b i 0 + get_or z i 0) ≡ true → eqb (suc j) (get_or b j 0 + get_or z j 0) ≡ true → get_or b i 0 ≡ get_or b j 0 → i ≡ j
      both_last e g q =
          let ei = eqb-true (suc i) (get_or b i 0 + get_or z i 0) e in
          let ej = eqb-true (suc j) (get_or b j 0 + get_or z j 0) g in
          let s = w.same_size i hi j (omega (arith, q, w.start_le j hj)) in
          ⊎_elim
          (λ (y : j < get_or b i 0 + get_or z i 0). omega (arith, ei, ej, q, s y))
          (λ (y : get_or b i 0 + get_or z i 0 ≤ j). let r = w.same_size j hj i (omega (arith, q, w.start_le i hi))
          (omega (arith, y, w.end_above i hi, w.end_above j hj)) in omega (arith, ei, ej, q, r))
          (lt_or_ge j (get_or b i 0 + get_or z i 0))

      -- the start of i is past j, which is not the last of its face
      last_and_inner : (i j : ℕ) → i < k → j < k → eqb (suc j) (get_or b j 0 + get_or z j 0) ≡ false → get_or b i 0 ≡ suc j → ⊥
      last_and_inner i j hi hj g q =
          let d = eqb-false (suc j) (get_or b j 0 + get_or z j 0) g in
          ⊎_elim
          (λ (y : suc j < get_or b j 0 + get_or z j 0).
          let r = w.same_start j hj (suc j) (omega (arith, w.start_le j hj)) y in
          let t = w.same_start i hi (suc j) (omega (arith, q)) (omega (arith, q, w.end_above i hi, w.start_le i hi)) in
          omega (arith, r, t, q, w.start_le j hj))
          (λ (y : get_or b j 0 + get_or z j 0 ≤ suc j). d (omega (arith, y, w.end_above j hj)))
          (lt_or_ge (suc j) (get_or b j 0 + get_or z j 0))
