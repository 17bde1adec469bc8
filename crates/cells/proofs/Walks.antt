-- A walk along two links with a queue that never pops: what is marked at its end is the volume. Assumes nothing.
use mathlib.Core.Path.{◌≡◌, refl, sym, ap, ◌∙◌}
use mathlib.Core.Bool.{Bool, true, false, true≢false}
use mathlib.Core.List.{List, [], ◌∷◌, ◌++◌}
use mathlib.Core.Logic.{⊎_elim}
use Prim.Native.Nat.{ℕ, zero, suc, ◌+◌, ◌≤◌, ◌<◌}
use native.Mathlib.Omega.{arith}
use lib.Dec.{eqb}
use lib.ListN.{length, get_or, set, take, length-append, length-set}
use native.Mathlib.Numerals.{add-one}
use lib.Seq.{get_or-set_same, get_or-set_other, get_or-take, length-take-le, take-suc-set}
use borrow.Author.Tests.{eqb-true, eqb-false, ne_eqb}
use Rattle.model.specs.Lists.{distinct, keep, mem, tab, sum}
use Rattle.laws.proofs.Tests.{by_cases}
use Rattle.laws.proofs.Members.{In, append_in, distinct_append, distinct_fewer, in_cons, in_eq, in_getD, in_here, in_there}
use Rattle.laws.proofs.Tables.{length_tab}
use Rattle.laws.proofs.Volumes.{Volume}
use Rattle.cells.specs.Places.{Clear, Within, Listed, Marked, Visited, bit, places_in}
use Rattle.cells.proofs.Reached.{places, in_places}

-- CASES
pub eq_or_ne {ℓ} : {C : Type ℓ} (a b : ℕ) → (a ≡ b → C) → ((a ≡ b → ⊥) → C) → C
eq_or_ne a b f g = by_cases (eqb a b) (λ e. f (eqb-true a b e)) (λ e. g (eqb-false a b e))

-- the code's i + 1
pub last_or_below {ℓ} : {C : Type ℓ} {k i : ℕ} → k < i + 1 → (k ≡ i → C) → (k < i → C) → C
last_or_below {C = C} {k = k} {i = i} h f g = eq_or_ne k i f (λ w. g (omega arith))

-- THE FIRST of a list
pub in_take : (l : List ℕ) (t k : ℕ) → k < t → k < length l → In (get_or l k 0) (take t l)
in_take [] t k h less = absurd (omega arith)
in_take (x ∷ l) zero k h less = absurd (omega arith)
in_take (x ∷ l) (suc t) zero h less = in_here x (take t l)
in_take (x ∷ l) (suc t) (suc k) h less = in_there (get_or l k 0) x (take t l) (in_take l t k (omega arith) (omega arith))

-- TOTALS of marks
sum_set : (l : List ℕ) (i : ℕ) → i < length l → get_or l i 0 ≡ 0 → sum (set l i 1) ≡ sum l + 1
sum_set [] i h e = absurd (omega arith)
sum_set (x ∷ l) zero h e = omega arith
sum_set (x ∷ l) (suc i) h e = omega (arith, sum_set l i (omega arith) e)

sum_none : (l : List ℕ) → Clear l → sum l ≡ 0
sum_none [] h = refl
sum_none (x ∷ l) h = omega (arith, h 0, sum_none l (λ k. h (suc k)))

-- marks of the places h 0, h 1, .., n of them, and none after: their sum is how many are in v
pub sum_marks : (v l : List ℕ) (n : ℕ) (h : ℕ → ℕ) → n ≤ length l → ((p : ℕ) → p < n → get_or l p 0 ≡ bit (mem (h p) v)) → ((p : ℕ) → n ≤ p → get_or l p 0 ≡ 0)
    → sum l ≡ length (keep (λ p. mem p v) (tab h n))
sum_marks v l zero h small low high = sum_none l (λ k. high k (omega arith))
sum_marks v [] (suc n) h small low high = absurd (omega arith)
sum_marks v (x ∷ l) (suc n) h small low high =
    let ih = sum_marks v l n (λ k. h (suc k)) (omega arith) (λ p k. low (suc p) (omega arith)) (λ p k. high (suc p) (omega arith)) in
    let first : x ≡ bit (mem (h 0) v) = low 0 (omega arith) in
    by_cases (mem (h 0) v) (λ e. let one : x ≡ 1 = rw e at first in rw e (omega arith)) (λ e. let none : x ≡ 0 = rw e at first in rw e (omega arith))

-- THE QUEUE: marks m and a queue o of length t. What is queued is marked and in v, and what is marked is queued
pub record Queue (n : ℕ) (v m o : List ℕ) (t : ℕ) : Type 0 where
  pub len_m : n ≤ length m
  pub len_o : n ≤ length o
  pub fits : t ≤ n
  pub bits : (p : ℕ) → get_or m p 0 ≤ 1
  pub count : t ≡ sum m
  pub once : distinct (take t o) ≡ true
  pub queued : (k : ℕ) → k < t → (get_or o k 0 < n) × (get_or m (get_or o k 0) 0 ≡ 1) × In (get_or o k 0) v
  pub back : (p : ℕ) → get_or m p 0 ≡ 1 → (k : ℕ) × (k < t) × (get_or o k 0 ≡ p)

-- what a visit of p changes
pub record Grown (p : ℕ) (m o : List ℕ) (t : ℕ) (m' o' : List ℕ) (t' : ℕ) : Type 0 where
  pub grows : (q : ℕ) → get_or m q 0 ≡ 1 → get_or m' q 0 ≡ 1
  pub new : get_or m' p 0 ≡ 1
  pub kept : (k : ℕ) → k < t → get_or o' k 0 ≡ get_or o k 0
  pub longer : t ≤ t'

pub visited_lengths : {p t t' : ℕ} {m o m' o' : List ℕ} → Visited p m o t m' o' t' → (length m' ≡ length m) × (length o' ≡ length o)
visited_lengths {p} {t} {t'} {m} {o} w = by_cases (eqb (get_or m p 0) 0)
    (λ e. rw (w.marks, w.order, e) (length-set m p 1, length-set o t p))
    (λ e. rw (w.marks, w.order, e) (refl, refl))

module _ {n : ℕ} {v m o : List ℕ} {t : ℕ} (q : Queue n v m o t) where
  queued_at : (x : ℕ) → In x (take t o) → (k : ℕ) × (k < t) × (x ≡ get_or o k 0)
  queued_at x i = let r = in_getD (take t o) x i in
      let less : r.0 < t = omega (arith, r.1, length-take-le t o (omega (arith, q.fits, q.len_o))) in
      (r.0, less, r.2 ∙ get_or-take t o r.0 0 less)

  -- what is queued is marked: a place that is not differs from it
  not_queued : (p : ℕ) → get_or m p 0 ≡ 0 → (x : ℕ) → In x (take t o) → mem x (p ∷ []) ≡ false
  not_queued p z x i = let r = queued_at x i in
      let one : get_or m x 0 ≡ 1 = rw r.2 (q.queued r.0 r.1).1 in
      rw (ne_eqb x p (λ e. omega (arith, one, ap (λ (y : ℕ). get_or m y 0) e, z)))

  -- the queue with p behind it has different places below n, so that p has room there
  pub queue_room : (p : ℕ) → p < n → get_or m p 0 ≡ 0 → t < n
  queue_room p h z =
      let longer = distinct_append (take t o) (p ∷ []) q.once refl (not_queued p z) in
      omega (
        arith,
        distinct_fewer (take t o ++ p ∷ []) (places n) longer inside,
        length_tab (λ (x : ℕ). x) n,
        length-append (take t o) (p ∷ []),
        length-take-le t o (omega (arith, q.fits, q.len_o)),
      )
    where
      inside : (x : ℕ) → In x (take t o ++ p ∷ []) → In x (places n)
      inside x i = ⊎_elim
          (λ j. let r = queued_at x j in in_places n x (rw r.2 (q.queued r.0 r.1).0))
          (λ j. in_places n x (in_cons x p [] j (λ e. rw e h) (λ none. absurd (true≢false (sym none)))))
          (append_in x (take t o) (p ∷ []) i)

  module _ {p : ℕ} (pn : p < n) (r : In p v) (z : get_or m p 0 ≡ 0) where
    same : get_or (set m p 1) p 0 ≡ 1
    same = get_or-set_same m p 1 0 (omega (arith, q.len_m))

    other : (k : ℕ) → (k ≡ p → ⊥) → get_or (set m p 1) k 0 ≡ get_or m k 0
    other k h = get_or-set_other m p k 1 0 h

    grows' : (k : ℕ) → get_or m k 0 ≡ 1 → get_or (set m p 1) k 0 ≡ 1
    grows' k e = other k (λ w. let f : get_or m p 0 ≡ 1 = rw (← w) e in omega arith) ∙ e

    kept' : (k : ℕ) → k < t → get_or (set o t p) k 0 ≡ get_or o k 0
    kept' k h = get_or-set_other o t k p 0 (λ w. omega arith)

    last' : get_or (set o t p) t 0 ≡ p
    last' = get_or-set_same o t p 0 (omega (arith, queue_room p pn z, q.len_o))

    push : Queue n v (set m p 1) (set o t p) (t + 1)
    push = record {
      len_m = simp length-set q.len_m;
      len_o = simp length-set q.len_o;
      fits = omega (arith, queue_room p pn z);
      bits = λ k. eq_or_ne k p (λ w. rw w (omega (arith, same))) (λ w. omega (arith, other k w, q.bits k));
      count = omega (arith, sum_set m p (omega (arith, q.len_m)) z, q.count);
      once =
          ap distinct
          (ap (λ (k : ℕ). take k (set o t p)) (add-one t)
          ∙ take-suc-set o t p (omega (arith, queue_room p pn z, q.len_o)))
          ∙ distinct_append (take t o) (p ∷ []) q.once refl (not_queued p z);
      queued = λ k l. last_or_below l (λ w. rw (at_last k w) (pn, same, r)) (old k);
      back = λ k e. eq_or_ne k p (λ w. (t, omega arith, last' ∙ sym w)) (λ w. earlier (q.back k (sym (other k w) ∙ e)));
    }
      where
        old : (k : ℕ) → k < t → (get_or (set o t p) k 0 < n) × (get_or (set m p 1) (get_or (set o t p) k 0) 0 ≡ 1) × In (get_or (set o t p) k 0) v
        old k l = rw (kept' k l) ((q.queued k l).0, grows' _ (q.queued k l).1, (q.queued k l).2)

        at_last : (k : ℕ) → k ≡ t → get_or (set o t p) k 0 ≡ p
        at_last k w = rw w last'

        earlier : {x : ℕ} → (k : ℕ) × (k < t) × (get_or o k 0 ≡ x) → (k : ℕ) × (k < t + 1) × (get_or (set o t p) k 0 ≡ x)
        earlier b = (b.0, omega (arith, b.1), kept' b.0 b.1 ∙ b.2)

  -- a visit of a place of v keeps the queue
  pub visit_queue : {p t' : ℕ} {m' o' : List ℕ} → p < n → In p v → Visited p m o t m' o' t' → Queue n v m' o' t' × Grown p m o t m' o' t'
  visit_queue {p} {t'} {m'} {o'} pn r w = go (eqb (get_or m p 0) 0) refl
    where
      go : (b : Bool) → eqb (get_or m p 0) 0 ≡ b → Queue n v m' o' t' × Grown p m o t m' o' t'
      go true e =
          let z : get_or m p 0 ≡ 0 = eqb-true _ _ e in
          rw (w.marks, w.order, w.tail, e)
          (push pn r z, record { grows = grows' pn r z; new = same pn r z; kept = kept' pn r z; longer = omega arith })
      go false e =
          rw (w.marks, w.order, w.tail, e)
          (q, record { grows = λ k h. h; new = one; kept = λ k l. refl; longer = omega arith })
        where
          one : get_or m p 0 ≡ 1
          one = eq_or_ne (get_or m p 0) 0 (λ x. absurd (eqb-false _ _ e x)) (λ x. omega (arith, q.bits p))

-- THE WALK: h places of the queue are done, so both links of each lead to what is marked
pub record Walk (n : ℕ) (f g : ℕ → ℕ) (d : ℕ) (v m o : List ℕ) (t h : ℕ) : Type 0 where
  pub queue : Queue n v m o t
  pub h_le : h ≤ t
  pub start : get_or m d 0 ≡ 1
  pub done : (k : ℕ) → k < h → (get_or m (f (get_or o k 0)) 0 ≡ 1) × (get_or m (g (get_or o k 0)) 0 ≡ 1)

empty_queue : (n : ℕ) (v m o : List ℕ) → n ≤ length m → n ≤ length o → Clear m → Queue n v m o 0
empty_queue n v m o lm lo clear = record {
  len_m = lm;
  len_o = lo;
  fits = omega arith;
  bits = λ p. omega (arith, clear p);
  count = sym (sum_none m clear);
  once = refl;
  queued = λ k l. absurd (omega arith);
  back = λ p e. absurd (omega (arith, clear p));
}

module _ (n : ℕ) (f g : ℕ → ℕ) (d : ℕ) (v : List ℕ) (vol : Volume f g d v) where
  pub walk_start : {t' : ℕ} {m o m' o' : List ℕ} → n ≤ length m → n ≤ length o → Clear m → d < n → Visited d m o 0 m' o' t' → Walk n f g d v m' o' t' 0
  walk_start {t'} {m} {o} lm lo clear dn x =
      let w = visit_queue {v = v} (empty_queue n v m o lm lo clear) dn vol.here x in
      record { queue = w.0; h_le = omega arith; start = w.1.new; done = λ k l. absurd (omega arith) }

  module _ {m o : List ℕ} {t h : ℕ} (w : Walk n f g d v m o t h) where
    pub walk_mid : {a t₁ : ℕ} {m₁ o₁ : List ℕ} → Within n f → h < t → a ≡ f (get_or o h 0) → Visited a m o t m₁ o₁ t₁ → Queue n v m₁ o₁ t₁
    walk_mid wf ht ea x =
        let p = w.queue.queued _ ht in
        (visit_queue w.queue (rw ea (wf _ p.0)) (rw ea (vol.closed_f _ p.2)) x).0

    -- the place at h and both visits
    pub walk_step : {a b t₁ t₂ : ℕ} {m₁ o₁ m₂ o₂ : List ℕ} → Within n f → Within n g → h < t
        → a ≡ f (get_or o h 0) → Visited a m o t m₁ o₁ t₁ → b ≡ g (get_or o h 0) → Visited b m₁ o₁ t₁ m₂ o₂ t₂ → Walk n f g d v m₂ o₂ t₂ (h + 1)
    walk_step {a} {b} wf wg ht ea x eb y =
        let p = w.queue.queued _ ht in
        let i = visit_queue w.queue (rw ea (wf _ p.0)) (rw ea (vol.closed_f _ p.2)) x in
        let j = visit_queue i.0 (rw eb (wg _ p.0)) (rw eb (vol.closed_g _ p.2)) y in
        record {
          queue = j.0;
          h_le = omega (arith, i.1.longer, j.1.longer);
          start = j.1.grows _ (i.1.grows _ w.start);
          done = λ k l. rw (j.1.kept k (omega (arith, i.1.longer)), i.1.kept k (omega arith)) (last_or_below l
              (λ q. let e₁ : f (get_or o k 0) ≡ a = ap (λ (z : ℕ). f (get_or o z 0)) q ∙ sym ea in let e₂ : g (get_or o k 0) ≡ b = ap
              (λ (z : ℕ). g (get_or o z 0)) q ∙ sym eb in rw (e₁, e₂) (j.1.grows _ i.1.new, j.1.new))
              (λ q. (j.1.grows _ (i.1.grows _ (w.done k q).0), j.1.grows _ (i.1.grows _ (w.done k q).1))));
        }

    -- nothing is left to do: the marks are closed under both links, so they hold v
    reached : t ≤ h → (y : ℕ) → In y v → get_or m y 0 ≡ 1
    reached e = vol.least (λ y. get_or m y 0 ≡ 1) w.start
        (λ x p. let b = w.queue.back x p in rw (← b.2) (w.done b.0 (omega (arith, b.1))).0)
        (λ x p. let b = w.queue.back x p in rw (← b.2) (w.done b.0 (omega (arith, b.1))).1)

    found : (p : ℕ) → get_or m p 0 ≡ 1 → In p v
    found p e = let b = w.queue.back p e in rw b.2 at (w.queue.queued b.0 b.1).2

    pub walk_end : t ≤ h → Marked v m
    walk_end e = record { mark = λ p. by_cases (mem p v) (λ i. rw i (reached e p i)) (λ i. rw i (unmarked p i)) }
      where
        unmarked : (p : ℕ) → mem p v ≡ false → get_or m p 0 ≡ 0
        unmarked p i = eq_or_ne (get_or m p 0) 1 (λ one. absurd (true≢false (sym (found p one) ∙ i))) (λ other. omega (arith, w.queue.bits p))

    pub walk_count : t ≤ h → t ≡ length (places_in n v)
    unfolding places_in
    walk_count e = w.queue.count ∙ sum_marks v m n (λ p. p) w.queue.len_m (λ p k. (walk_end e).mark p) above
      where
        above : (p : ℕ) → n ≤ p → get_or m p 0 ≡ 0
        above p k = eq_or_ne (get_or m p 0) 1
            (λ one. let b = w.queue.back p one in absurd (omega (arith, (w.queue.queued b.0 b.1).0, b.2)))
            (λ other. omega (arith, w.queue.bits p))

    -- and the queue lists it
    pub walk_listed : t ≤ h → Listed n v o t
    walk_listed e = record {
      size = w.queue.len_o;
      few = w.queue.fits;
      below = λ k l. (w.queue.queued k l).0;
      once = w.queue.once;
      has = λ p i. let b = w.queue.back p (reached e p i) in
          in_eq p (get_or o b.0 0) (take t o) (sym b.2) (in_take o t b.0 b.1 (omega (arith, b.1, w.queue.fits, w.queue.len_o)));
    }
