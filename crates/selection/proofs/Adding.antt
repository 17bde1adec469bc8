-- A walk that adds one volume to those marked before: what is marked and queued at its end. Assumes nothing.
use mathlib.Core.Path.{◌≡◌, sym, ap, ◌∙◌, subst}
use mathlib.Core.Bool.{Bool, false, true≢false, cond}
use mathlib.Core.List.{List, [], ◌∷◌}
use mathlib.Core.Logic.{⊎_elim}
use Prim.Native.Nat.{ℕ, zero, suc, ◌+◌, ◌≤◌, ◌<◌}
use native.Mathlib.Omega.{arith}
use lib.Dec.{eqb}
use lib.ListN.{length, get_or, set}
use lib.Seq.{get_or-set_same}
use borrow.Author.Tests.{eqb-true}
use Rattle.model.specs.Lists.{keep, mem, tab, sum}
use Rattle.model.specs.Image.{column}
use Rattle.laws.proofs.Tests.{by_cases, lt_or_ge}
use Rattle.laws.proofs.Members.{In}
use Rattle.laws.proofs.Volumes.{Volume}
use Rattle.cells.specs.Places.{Within, Linked, Visited, bit, places_in, volume_of}
use Rattle.cells.proofs.Walks.{Queue, Grown, eq_or_ne, last_or_below, queue_room, visit_queue, visited_lengths}
use Rattle.cells.proofs.Reached.{places, in_places, volume_linked, volume_below}
use Rattle.selection.specs.Picked.{Marking, Added}
use Rattle.selection.proofs.Symmetric.{volume_sym}

-- marks that grew by those of a test: the sum grew by how many pass
pub sum_more : (q : ℕ → Bool) (l₀ l : List ℕ) (n : ℕ) (h : ℕ → ℕ) → length l₀ ≡ length l → n ≤ length l
    → ((p : ℕ) → p < n → get_or l p 0 ≡ get_or l₀ p 0 + bit (q (h p))) → ((p : ℕ) → n ≤ p → get_or l p 0 ≡ get_or l₀ p 0)
    → sum l ≡ sum l₀ + length (keep q (tab h n))
sum_more q [] [] zero h len few low high = omega arith
sum_more q [] (y ∷ l) n h len few low high = absurd (omega arith)
sum_more q (x ∷ l₀) [] n h len few low high = absurd (omega arith)
sum_more q [] [] (suc n) h len few low high = absurd (omega arith)
sum_more q (x ∷ l₀) (y ∷ l) zero h len few low high =
    let ih = sum_more q l₀ l zero h (omega arith) (omega arith) (λ p k. absurd (omega arith)) (λ p k. high (suc p) (omega arith)) in
    omega (arith, high 0 (omega arith))
sum_more q (x ∷ l₀) (y ∷ l) (suc n) h len few low high =
    let ih = sum_more q l₀ l n (λ k. h (suc k)) (omega arith) (omega arith) (λ p k. low (suc p) (omega arith)) (λ p k. high (suc p) (omega arith)) in
    let first : y ≡ x + bit (q (h 0)) = low 0 (omega arith) in
    by_cases (q (h 0)) (λ e. let one : y ≡ x + 1 = rw e at first in rw e (omega arith)) (λ e. let none : y ≡ x + 0 = rw e at first in rw e (omega arith))

-- MARKS AS A QUEUE of places below n
pub as_queue : {n : ℕ} {f g : ℕ → ℕ} {m o : List ℕ} {t : ℕ} → Marking n f g m o t → Queue n (places n) m o t
as_queue {n} {f} {g} {m} {o} k = record {
  len_m = k.len_marks;
  len_o = k.len_order;
  fits = k.fits;
  bits = k.bits;
  count = k.count;
  once = k.once;
  queued = λ i h. ((k.queued i h).0, (k.queued i h).1, in_places n (get_or o i 0) (k.queued i h).0);
  back = k.back;
}

-- what a visit puts into the queue is the place that it visits
pushed : {n p t t' : ℕ} {v m o m' o' : List ℕ} → Queue n v m o t → p < n → Visited p m o t m' o' t' → (k : ℕ) → t ≤ k → k < t' → get_or o' k 0 ≡ p
pushed {n} {p} {t} {t'} {v} {m} {o} {m'} {o'} q h x k a b = by_cases (eqb (get_or m p 0) 0)
    (λ e. let z : get_or m p 0 ≡ 0 = eqb-true _ _ e in
    let t-is : t' ≡ t + 1 = rw e at x.tail in
    let o_is : o' ≡ set o t p = rw e at x.order in
    let k_is : k ≡ t = omega arith in
    rw (o_is, k_is) (get_or-set_same o t p 0 (omega (arith, queue_room q p h z, q.len_o))))
    (λ e. let t-is : t' ≡ t = rw e at x.tail in absurd (omega arith))

-- THE WALK from queue o₀ of length t₀ and marks m₀ on: h places of the queue are done
pub record Going (n : ℕ) (f g : ℕ → ℕ) (d : ℕ) (v m₀ o₀ : List ℕ) (t₀ : ℕ) (m o : List ℕ) (t h : ℕ) : Type 0 where
  pub queue : Queue n (places n) m o t
  pub same_marks : length m ≡ length m₀
  pub same_order : length o ≡ length o₀
  pub from_le : t₀ ≤ h
  pub h_le : h ≤ t
  pub old : (q : ℕ) → get_or m₀ q 0 ≡ 1 → get_or m q 0 ≡ 1
  pub first : (k : ℕ) → k < t₀ → get_or m₀ (get_or o k 0) 0 ≡ 1
  pub start : get_or m d 0 ≡ 1
  pub done : (k : ℕ) → k < h → (get_or m (f (get_or o k 0)) 0 ≡ 1) × (get_or m (g (get_or o k 0)) 0 ≡ 1)
  pub new_in : (k : ℕ) → t₀ ≤ k → k < t → In (get_or o k 0) v

module _ (n : ℕ) (f g : ℕ → ℕ) (d : ℕ) (v : List ℕ) (vol : Volume f g d v) {m₀ o₀ : List ℕ} {t₀ : ℕ} (mk : Marking n f g m₀ o₀ t₀) where
  pub going_start : {t : ℕ} {m o : List ℕ} → d < n → Visited d m₀ o₀ t₀ m o t → Going n f g d v m₀ o₀ t₀ m o t t₀
  going_start {t} {m} {o} dn x =
      let q = as_queue mk in
      let w = visit_queue q dn (in_places n d dn) x in
      record {
        queue = w.0;
        same_marks = (visited_lengths x).0;
        same_order = (visited_lengths x).1;
        from_le = omega arith;
        h_le = w.1.longer;
        old = w.1.grows;
        first = λ k l. rw (w.1.kept k l) (mk.queued k l).1;
        start = w.1.new;
        done = λ k l. rw (w.1.kept k l) (w.1.grows _ (mk.closed_f _ (mk.queued k l).0 (mk.queued k l).1), w.1.grows _ (mk.closed_g _ (mk.queued k l).0 (mk.queued k l).1));
        new_in = λ k a b. rw (pushed q dn x k a b) vol.here;
      }

  module _ {m o : List ℕ} {t h : ℕ} (w : Going n f g d v m₀ o₀ t₀ m o t h) (wf : Within n f) (wg : Within n g) (ht : h < t) where
    at_h : (get_or o h 0 < n) × In (get_or o h 0) v
    at_h = ((w.queue.queued h ht).0, w.new_in h w.from_le ht)

    module _ {a t₁ : ℕ} {m₁ o₁ : List ℕ} (ea : a ≡ f (get_or o h 0)) (x : Visited a m o t m₁ o₁ t₁) where
      a_below : a < n
      a_below = rw ea (wf _ at_h.0)

      one : Queue n (places n) m₁ o₁ t₁ × Grown a m o t m₁ o₁ t₁
      one = visit_queue w.queue a_below (in_places n a a_below) x

      pub going_mid : Queue n (places n) m₁ o₁ t₁
      going_mid = one.0

      module _ {b t₂ : ℕ} {m₂ o₂ : List ℕ} (eb : b ≡ g (get_or o h 0)) (y : Visited b m₁ o₁ t₁ m₂ o₂ t₂) where
        b_below : b < n
        b_below = rw eb (wg _ at_h.0)

        two : Queue n (places n) m₂ o₂ t₂ × Grown b m₁ o₁ t₁ m₂ o₂ t₂
        two = visit_queue one.0 b_below (in_places n b b_below) y

        kept : (k : ℕ) → k < t → get_or o₂ k 0 ≡ get_or o k 0
        kept k l = two.1.kept k (omega (arith, one.1.longer)) ∙ one.1.kept k l

        grows : (q : ℕ) → get_or m q 0 ≡ 1 → get_or m₂ q 0 ≡ 1
        grows q e = two.1.grows q (one.1.grows q e)

        new : (k : ℕ) → t₀ ≤ k → k < t₂ → In (get_or o₂ k 0) v
        new k l r = ⊎_elim
            (λ before. rw (kept k before) (w.new_in k l before))
            (λ after. ⊎_elim
            (λ mid. rw (two.1.kept k mid, pushed w.queue a_below x k after mid, ea) (vol.closed_f _ at_h.1))
            (λ late. rw (pushed one.0 b_below y k late r, eb) (vol.closed_g _ at_h.1))
            (lt_or_ge k t₁))
            (lt_or_ge k t)

        pub going_step : Going n f g d v m₀ o₀ t₀ m₂ o₂ t₂ (h + 1)
        going_step = record {
          queue = two.0;
          same_marks = (visited_lengths y).0 ∙ (visited_lengths x).0 ∙ w.same_marks;
          same_order = (visited_lengths y).1 ∙ (visited_lengths x).1 ∙ w.same_order;
          from_le = omega (arith, w.from_le);
          h_le = omega (arith, one.1.longer, two.1.longer);
          old = λ q e. grows q (w.old q e);
          first = λ k l. rw (kept k (omega (arith, w.from_le, w.h_le))) (w.first k l);
          start = grows d w.start;
          done = λ k l. rw (kept k (omega arith)) (last_or_below l
              (λ q. let e₁ : f (get_or o k 0) ≡ a = ap (λ (z : ℕ). f (get_or o z 0)) q ∙ sym ea in let e₂ : g (get_or o k 0) ≡ b = ap
              (λ (z : ℕ). g (get_or o z 0)) q ∙ sym eb in rw (e₁, e₂) (two.1.grows _ one.1.new, two.1.new))
              (λ q. (grows _ (w.done k q).0, grows _ (w.done k q).1)));
          new_in = new;
        }

  -- NOTHING IS LEFT to do
  module _ {m o : List ℕ} {t h : ℕ} (w : Going n f g d v m₀ o₀ t₀ m o t h) (over : t ≤ h) where
    closed : (x : ℕ) → get_or m x 0 ≡ 1 → (get_or m (f x) 0 ≡ 1) × (get_or m (g x) 0 ≡ 1)
    closed x e = let b = w.queue.back x e in rw (← b.2) (w.done b.0 (omega (arith, b.1)))

    pub going_marks : Marking n f g m o t
    going_marks = record {
      len_marks = w.queue.len_m;
      len_order = w.queue.len_o;
      fits = w.queue.fits;
      bits = w.queue.bits;
      count = w.queue.count;
      once = w.queue.once;
      queued = λ k l. ((w.queue.queued k l).0, (w.queue.queued k l).1);
      back = w.queue.back;
      closed_f = λ p l e. (closed p e).0;
      closed_g = λ p l e. (closed p e).1;
    }

    reached : (y : ℕ) → In y v → get_or m y 0 ≡ 1
    reached = vol.least (λ y. get_or m y 0 ≡ 1) w.start (λ x e. (closed x e).0) (λ x e. (closed x e).1)

    -- the volume is apart from what was marked before
    module _ (away : (y : ℕ) → In y v → get_or m₀ y 0 ≡ 0) (inside : (y : ℕ) → In y v → y < n) where
      stays : (p : ℕ) → mem p v ≡ false → get_or m p 0 ≡ get_or m₀ p 0
      stays p i = eq_or_ne (get_or m₀ p 0) 1
          (λ e. w.old p e ∙ sym e)
          (λ e. eq_or_ne (get_or m p 0) 1 (λ e'. absurd (queued_out (w.queue.back p e') e)) (λ e'. omega (arith, w.queue.bits p, mk.bits p)))
        where
          queued_out : (k : ℕ) × (k < t) × (get_or o k 0 ≡ p) → (get_or m₀ p 0 ≡ 1 → ⊥) → ⊥
          queued_out b e = ⊎_elim
              (λ l. e (subst (λ (y : ℕ). get_or m₀ y 0 ≡ 1) b.2 (w.first b.0 l)))
              (λ l. true≢false (sym (subst (λ (y : ℕ). In y v) b.2 (w.new_in b.0 l b.1)) ∙ i))
              (lt_or_ge b.0 t₀)

      mark_is : (p : ℕ) → get_or m p 0 ≡ cond (mem p v) 1 (get_or m₀ p 0)
      mark_is p = by_cases (mem p v) (λ e. rw e (reached p e)) (λ e. rw e (stays p e))

      all_new : (p : ℕ) → In p v → (k : ℕ) × (t₀ ≤ k) × (k < t) × (get_or o k 0 ≡ p)
      all_new p i = let b = w.queue.back p (reached p i) in ⊎_elim
          (λ l. let e : get_or m₀ p 0 ≡ 1 = subst (λ (y : ℕ). get_or m₀ y 0 ≡ 1) b.2 (w.first b.0 l) in absurd (omega (arith, away p i)))
          (λ l. (b.0, l, b.1, b.2))
          (lt_or_ge b.0 t₀)

      size_is : t ≡ t₀ + length (places_in n v)
      unfolding places_in
      size_is =
          let s = sum_more (λ p. mem p v) m₀ m n (λ p. p) (sym w.same_marks) w.queue.len_m
          (λ p l. by_cases (mem p v)
          (λ e. rw e (omega (arith, reached p e, away p e)))
          (λ e. rw e (omega (arith, stays p e))))
          (λ p l. by_cases (mem p v) (λ e. absurd (omega (arith, inside p e))) (stays p)) in
          omega (arith, w.queue.count, mk.count)

      pub going_added : Added n v m₀ t₀ m o t
      going_added = record { mark = mark_is; new_in = w.new_in; new_all = all_new; size = size_is }

-- OF A BLOCK'S MEMORY: a volume whose start is not marked is apart from what is
module _ {b : List ℕ} {n d : ℕ} (l : Linked b n) (h : d < n) {m o : List ℕ} {t : ℕ} (mk : Marking n (column b 1) (column b 2) m o t) (clear : get_or m d 0 ≡ 0) where
  record Mark (y : ℕ) : Type 0 where
    below : y < n
    marked : get_or m y 0 ≡ 1

  pub volume_away : (y : ℕ) → In y (volume_of b d) → get_or m y 0 ≡ 0
  volume_away y i = eq_or_ne (get_or m y 0) 1
      (λ e. let yn = volume_below l h y i in
      let r = (volume_linked l yn).least Mark (record { below = yn; marked = e })
      (λ x p. record { below = l.next_within x p.below; marked = mk.closed_f x p.below p.marked })
      (λ x p. record { below = l.opposite_within x p.below; marked = mk.closed_g x p.below p.marked }) d (volume_sym l d y h i) in
      absurd (omega (arith, r.marked)))
      (λ e. omega (arith, mk.bits y))
