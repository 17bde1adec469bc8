-- One face of a sound block gets new third links: a free face is labelled, or two faces are sewn; third links stay good.
-- Assumes nothing.
use mathlib.Core.Path.{◌≡◌, refl, sym, ◌∙◌, ap, subst}
use mathlib.Core.Logic.{◌⊎◌, inl, inr, ⊎_elim, ◌≢◌}
use mathlib.Core.Bool.{true, false, true≢false, not}
use mathlib.Core.List.{List}
use mathlib.Core.Option.{none, some}
use Prim.Native.Nat.{ℕ, zero, suc, ◌-◌, ◌<◌}
use native.Mathlib.Omega.{arith}
use native.Mathlib.Nat.{not-suc-le-zero}
use lib.Dec.{ltb, eqb}
use borrow.Author.Tests.{eqb-true, eqb-false, ltb-true, ltb-false}
use Rattle.model.specs.Lists.{zip, mem, distinct, find}
use Rattle.model.specs.Values.{Point, Label, Third, free, sewn, critical, code, label_key, is_free}
use Rattle.model.specs.Sound.{third_in_range, label_right}
use Rattle.model.specs.Links.{Link, third_or, sew_both}
use Rattle.laws.proofs.Members.{In, distinct_not}
use Rattle.laws.proofs.Orbits.{iter, iter_out, path, in_path}
use Rattle.laws.proofs.Tests.{by_cases, and_right}
use Rattle.soundness.proofs.ByDarts.{ThirdRight, Good}
use Rattle.soundness.proofs.Rows.{Elem, mem_false, zero_not_suc}

-- no third link is two things
pub free_not_sewn : (y : ℕ) → free ≡ sewn y → ⊥
free_not_sewn y e = true≢false (ap is_free e)

pub critical_not_sewn : (o : ℕ) (l : Label) (y : ℕ) → critical o l ≡ sewn y → ⊥
critical_not_sewn o l y e = zero_not_suc (code l) (sym (ap label_key e))

pub critical_not_free : (o : ℕ) (l : Label) → critical o l ≡ free → ⊥
critical_not_free o l e = zero_not_suc (code l) (sym (ap label_key e))

module _ (S : List ℕ) (nx : ℕ → ℕ) (pt : ℕ → Point) (me counter : ℕ) (T T' : ℕ → Third) (G : Good S nx pt me counter T) where
  -- A FREE FACE f IS LABELLED, with block o
  module _ (f : List ℕ) (o : ℕ)
      (on : (x : ℕ) → In x f → In (nx x) f)
      (back : (x : ℕ) → In x S → In (nx x) f → In x f)
      (was_free : (x : ℕ) → In x f → T x ≡ free)
      (off : (x : ℕ) → mem x f ≡ false → T' x ≡ T x)
      (labelled : (x : ℕ) → In x f → (l : Label) × (T' x ≡ critical o l))
      (ranges : (x : ℕ) → In x f → third_in_range (T' x) ≡ true)
      (owned : (x : ℕ) → In x f → label_right me counter (T' x) ≡ true)
      (once : (x y v : ℕ) → In x f → In y f → label_key (T' x) ≡ suc v → label_key (T' y) ≡ suc v → x ≡ y)
      (fresh : (x y v : ℕ) → In x f → In y S → label_key (T' x) ≡ suc v → label_key (T y) ≡ suc v → ⊥) where
    stays_off : (x : ℕ) → In x S → mem x f ≡ false → mem (nx x) f ≡ false
    stays_off x h e = mem_false (nx x) f (λ k. true≢false (sym (back x h k) ∙ e))

    off_right : (x : ℕ) → In x S → mem x f ≡ false → (u : Third) → T x ≡ u → ThirdRight S nx pt T' x u
    off_right x h e free q = off (nx x) (stays_off x h e) ∙ G.right x h free q
    off_right x h e (critical p l) q = let r = G.right x h (critical p l) q in (r.0, off (nx x) (stays_off x h e) ∙ r.1)
    off_right x h e (sewn y) q =
        let r = G.right x h (sewn y) q in
        let y-off = mem_false y f (λ k. free_not_sewn x (sym (was_free y k) ∙ r.1)) in
        (r.0, off y y-off ∙ r.1, r.2, (r.3.0, off (nx x) (stays_off x h e) ∙ r.3.1, r.3.2), r.4)

    pub face_labelled : Good S nx pt me counter T'
    face_labelled = record {
      in_range = λ x h. by_cases (mem x f) (ranges x) (λ e. rw (off x e) (G.in_range x h));
      own = λ x h. by_cases (mem x f) (owned x) (λ e. rw (off x e) (G.own x h));
      right = λ x h u q. by_cases (mem x f)
          (λ k. let here = labelled x k in subst (ThirdRight S nx pt T' x) (sym here.1 ∙ q) (labelled (nx x) (on x k)))
          (λ e. off_right x h e u (sym (off x e) ∙ q));
      apart = λ x y v h k e g. by_cases (mem x f)
          (λ p. by_cases (mem y f) (λ q. once x y v p q e g) (λ q. absurd (fresh x y v p k e (ap label_key (sym (off y q)) ∙ g))))
          (λ p. by_cases (mem y f) (λ q. absurd (fresh y x v q h g (ap label_key (sym (off x p)) ∙ e))) (λ q. G.apart x y v h k (ap label_key (sym (off x p)) ∙ e) (ap label_key (sym (off y q)) ∙ g)));
    }

  -- DARTS ARE SEWN IN PAIRS
  module _ (Pair : ℕ → ℕ → Type 0)
      (pair-in : (x y : ℕ) → Pair x y → In x S)
      (pair-sym : (x y : ℕ) → Pair x y → Pair y x)
      (Pair-one : (x y z : ℕ) → Pair x y → Pair x z → y ≡ z)
      (pair-other : (x y : ℕ) → Pair x y → y ≢ x)
      (pair-on : (x y : ℕ) → Pair x y → (z : ℕ) × Pair (nx x) z × (nx z ≡ y))
      (pair-back : (x z : ℕ) → In x S → Pair (nx x) z → (w : ℕ) × Pair x w)
      (pair-point : (x y : ℕ) → Pair x y → pt x ≡ pt (nx y))
      (not_sewn : (x y z : ℕ) → Pair x y → T x ≡ sewn z → ⊥)
      (after : (x : ℕ) → ((T' x ≡ T x) × ((y : ℕ) → Pair x y → ⊥)) ⊎ ((y : ℕ) × Pair x y × (T' x ≡ sewn y))) where
    sewn_pair : (x y : ℕ) → Pair x y → T' x ≡ sewn y
    sewn_pair x y p = ⊎_elim (λ r. absurd (r.1 y p)) (λ r. r.2 ∙ ap sewn (Pair-one x r.0 y r.1 p)) (after x)

    kept : (x : ℕ) → ((y : ℕ) → Pair x y → ⊥) → T' x ≡ T x
    kept x h = ⊎_elim (λ r. r.0) (λ r. absurd (h r.0 r.1)) (after x)

    met_right : (x y : ℕ) → Pair x y → ThirdRight S nx pt T' x (sewn y)
    met_right x y p = let q = pair-sym x y p in let n = pair-on x y p in (pair-in y x q, sewn_pair y x q, pair-other x y p, (n.0, sewn_pair (nx x) n.0 n.1, n.2), pair-point x y p)

    kept_right : (x : ℕ) → In x S → ((y : ℕ) → Pair x y → ⊥) → (u : Third) → T x ≡ u → ThirdRight S nx pt T' x u
    kept_right x h out free q = kept (nx x) (λ z p. let w = pair-back x z h p in out w.0 w.1) ∙ G.right x h free q
    kept_right x h out (critical o l) q = let r = G.right x h (critical o l) q in (r.0, kept (nx x) (λ z p. let w = pair-back x z h p in out w.0 w.1) ∙ r.1)
    kept_right x h out (sewn y) q =
        let r = G.right x h (sewn y) q in
        (r.0, kept y (λ z p. not_sewn y z x p r.1) ∙ r.1, r.2, (r.3.0, kept (nx x) (λ z p. let w = pair-back x z h p in out w.0 w.1) ∙ r.3.1, r.3.2), r.4)

    pairs_sewn : Good S nx pt me counter T'
    pairs_sewn = record {
      in_range = λ x h. ⊎_elim (λ r. rw r.0 (G.in_range x h)) (λ r. rw r.2) (after x);
      own = λ x h. ⊎_elim (λ r. rw r.0 (G.own x h)) (λ r. rw r.2) (after x);
      right = λ x h u q. ⊎_elim (λ r. kept_right x h r.1 u (sym r.0 ∙ q)) (λ r. subst (ThirdRight S nx pt T' x) (sym r.2 ∙ q) (met_right x r.0 r.1)) (after x);
      apart = λ x y v h k e g. ⊎_elim
          (λ p. ⊎_elim (λ q. G.apart x y v h k (ap label_key (sym p.0) ∙ e) (ap label_key (sym q.0) ∙ g)) (λ q. absurd (zero_not_suc v (sym (ap label_key q.2) ∙ g))) (after y))
          (λ p. absurd (zero_not_suc v (sym (ap label_key p.2) ∙ e))) (after x);
    }

-- TWO FACES AGAINST EACH OTHER: n darts from x along next, and n from y along previous
module _ (nx pv : ℕ → ℕ) where
  abbrev pub Paired : ℕ → ℕ → ℕ → ℕ → ℕ → Type 0
  Paired n x y a c = (k : ℕ) × (k < n) × (((a ≡ iter nx k x) × (c ≡ iter pv k y)) ⊎ ((a ≡ iter pv k y) × (c ≡ iter nx k x)))

  pub record Missed (n x y a : ℕ) : Type 0 where
    pub not_along : (k : ℕ) → k < n → a ≢ iter nx k x
    pub not_against : (k : ℕ) → k < n → a ≢ iter pv k y

  abbrev pub sewing : ℕ → ℕ → ℕ → List Link
  sewing n x y = sew_both (zip (path nx n x) (path pv n y))

  abbrev Found : ℕ → ℕ → ℕ → ℕ → Type 0
  Found n x y a = ((find (λ k. k.dart) a (sewing n x y) ≡ none) × Missed n x y a) ⊎ ((c : ℕ) × Paired n x y a c × (find (λ k. k.dart) a (sewing n x y) ≡ some (record { dart = a; third = sewn c })))

  found_sewing : (n x y a : ℕ) → Found n x y a
  found_sewing zero x y a = inl (refl, record { not_along = λ k h. absurd (not-suc-le-zero h); not_against = λ k h. absurd (not-suc-le-zero h) })
  found_sewing (suc n) x y a = by_cases (eqb a x)
      (λ e. inr (y, (0, omega arith, inl (eqb-true a x e, refl)), rw e (ap (λ (z : ℕ). some (record { dart = z; third = sewn y })) (sym (eqb-true a x e)))))
      (λ e. by_cases (eqb a y)
      (λ g. inr (x, (0, omega arith, inr (eqb-true a y g, refl)), rw (e, g) (ap (λ (z : ℕ). some (record { dart = z; third = sewn x })) (sym (eqb-true a y g)))))
      (λ g. ⊎_elim
      (λ r. inl (rw (e, g) r.0, record { not_along = first_not nx x a n (eqb-false a x e) r.1.not_along; not_against = first_not pv y a n (eqb-false a y g) r.1.not_against }))
      (λ r. inr (r.0, (suc r.1.0, omega (arith, r.1.1), r.1.2), rw (e, g) r.2))
      (found_sewing n (nx x) (pv y) a)))
    where
      first_not : (h : ℕ → ℕ) (x a n : ℕ) → a ≢ x → ((k : ℕ) → k < n → a ≢ iter h k (h x)) → (k : ℕ) → k < suc n → a ≢ iter h k x
      first_not h x a n ne later zero l = ne
      first_not h x a n ne later (suc k) l = later k (omega arith)

  pub zip_at : (n x y k : ℕ) → k < n → Elem (iter nx k x, iter pv k y) (zip (path nx n x) (path pv n y))
  zip_at zero x y k h = absurd (not-suc-le-zero h)
  zip_at (suc n) x y zero h = inl refl
  zip_at (suc n) x y (suc k) h = inr (zip_at n (nx x) (pv y) k (omega arith))

-- in a path of distinct darts an index is known by its dart
path_one : (f : ℕ → ℕ) (n x : ℕ) → distinct (path f n x) ≡ true → (k j : ℕ) → k < n → j < n → iter f k x ≡ iter f j x → k ≡ j
path_one f zero x d k j h l e = absurd (not-suc-le-zero h)
path_one f (suc n) x d zero zero h l e = refl
path_one f (suc n) x d zero (suc j) h l e = absurd (distinct_not x (path f n (f x)) d (iter f j (f x)) (in_path f n (f x) j (omega arith)) (sym e))
path_one f (suc n) x d (suc k) zero h l e = absurd (distinct_not x (path f n (f x)) d (iter f k (f x)) (in_path f n (f x) k (omega arith)) e)
path_one f (suc n) x d (suc k) (suc j) h l e = ap suc (path_one f n (f x) (and_right (not (mem x (path f n (f x)))) _ d) k j (omega arith) (omega arith) e)

-- what the links of such a pair of faces make of third links
pub sewing_after : (nx pv : ℕ → ℕ) (n x y : ℕ) (T : ℕ → Third) (a : ℕ)
    → ((third_or (T a) (find (λ k. k.dart) a (sewing nx pv n x y)) ≡ T a) × Missed nx pv n x y a)
    ⊎ ((c : ℕ) × Paired nx pv n x y a c × (third_or (T a) (find (λ k. k.dart) a (sewing nx pv n x y)) ≡ sewn c))
sewing_after nx pv n x y T a = ⊎_elim (λ r. inl (ap (third_or (T a)) r.0, r.1)) (λ r. inr (r.0, r.1, ap (third_or (T a)) r.2)) (found_sewing nx pv n x y a)

missed_unpaired : (nx pv : ℕ → ℕ) (n x y a : ℕ) → Missed nx pv n x y a → (c : ℕ) → Paired nx pv n x y a c → ⊥
missed_unpaired nx pv n x y a m c (k, h, inl e) = m.not_along k h e.0
missed_unpaired nx pv n x y a m c (k, h, inr e) = m.not_against k h e.0

module _ (S : List ℕ) (nx pv : ℕ → ℕ) (one : (x y : ℕ) → In x S → In y S → nx x ≡ nx y → x ≡ y) (n x y : ℕ)
    (round : iter nx n x ≡ x) (back : iter pv n y ≡ y)
    (in-along : (k : ℕ) → k < n → In (iter nx k x) S)
    (in-against : (k : ℕ) → k < n → In (iter pv k y) S)
    (next_back : (k : ℕ) → k < n → nx (pv (iter pv k y)) ≡ iter pv k y)
    (once : distinct (path nx n x) ≡ true) (once' : distinct (path pv n y) ≡ true)
    (disjoint : (k j : ℕ) → k < n → j < n → iter nx k x ≢ iter pv j y) where
  abbrev Pair : ℕ → ℕ → Type 0
  Pair a c = Paired nx pv n x y a c

  last_index : (f : ℕ → ℕ) (k z : ℕ) → suc k ≡ n → iter f n z ≡ z → iter f 0 z ≡ f (iter f k z)
  last_index f k z e r = sym r ∙ ap (λ (m : ℕ). iter f m z) (sym e) ∙ iter_out f k z

  -- an index and the ones after and before it, round the face
  ups : (k : ℕ) → k < n → (j : ℕ) × (j < n) × (iter nx j x ≡ nx (iter nx k x)) × (iter pv j y ≡ pv (iter pv k y))
  ups k h = by_cases (ltb (suc k) n)
      (λ e. (suc k, ltb-true (suc k) n e, iter_out nx k x, iter_out pv k y))
      (λ e. let last : suc k ≡ n = omega (arith, ltb-false (suc k) n e) in (0, omega arith, last_index nx k x last round, last_index pv k y last back))

  downs : (k : ℕ) → k < n → (j : ℕ) × (j < n) × (iter nx k x ≡ nx (iter nx j x)) × (iter pv k y ≡ pv (iter pv j y))
  downs zero h = let last : suc (n - 1) ≡ n = omega arith in (n - 1, omega arith, last_index nx (n - 1) x last round, last_index pv (n - 1) y last back)
  downs (suc k) h = (k, omega arith, iter_out nx k x, iter_out pv k y)

  paired_in : (a c : ℕ) → Pair a c → In a S
  paired_in a c (k, h, inl e) = rw e.0 (in-along k h)
  paired_in a c (k, h, inr e) = rw e.0 (in-against k h)

  paired_sym : (a c : ℕ) → Pair a c → Pair c a
  paired_sym a c (k, h, inl e) = (k, h, inr (e.1, e.0))
  paired_sym a c (k, h, inr e) = (k, h, inl (e.1, e.0))

  paired_one : (a c d : ℕ) → Pair a c → Pair a d → c ≡ d
  paired_one a c d (k, h, inl e) (j, l, inl g) = e.1 ∙ ap (λ (m : ℕ). iter pv m y) (path_one nx n x once k j h l (sym e.0 ∙ g.0)) ∙ sym g.1
  paired_one a c d (k, h, inl e) (j, l, inr g) = absurd (disjoint k j h l (sym e.0 ∙ g.0))
  paired_one a c d (k, h, inr e) (j, l, inl g) = absurd (disjoint j k l h (sym g.0 ∙ e.0))
  paired_one a c d (k, h, inr e) (j, l, inr g) = e.1 ∙ ap (λ (m : ℕ). iter nx m x) (path_one pv n y once' k j h l (sym e.0 ∙ g.0)) ∙ sym g.1

  paired_other : (a c : ℕ) → Pair a c → c ≢ a
  paired_other a c (k, h, inl e) q = disjoint k k h h (sym e.0 ∙ sym q ∙ e.1)
  paired_other a c (k, h, inr e) q = disjoint k k h h (sym e.1 ∙ q ∙ e.0)

  paired_on : (a c : ℕ) → Pair a c → (z : ℕ) × Pair (nx a) z × (nx z ≡ c)
  paired_on a c (k, h, inl e) = let j = ups k h in (iter pv j.0 y, (j.0, j.1, inl (ap nx e.0 ∙ sym j.2, refl)), ap nx j.3 ∙ next_back k h ∙ sym e.1)
  paired_on a c (k, h, inr e) = let j = downs k h in (iter nx j.0 x, (j.0, j.1, inr (ap nx (e.0 ∙ j.3) ∙ next_back j.0 j.1, refl)), sym j.2 ∙ sym e.1)

  paired_back : (a z : ℕ) → In a S → Pair (nx a) z → (w : ℕ) × Pair a w
  paired_back a z h (k, l, inl e) = let j = downs k l in (iter pv j.0 y, (j.0, j.1, inl (one a (iter nx j.0 x) h (in-along j.0 j.1) (e.0 ∙ j.2), refl)))
  paired_back a z h (k, l, inr e) =
      let j = ups k l in (
        iter nx j.0 x,
        (
          j.0,
          j.1,
          inr (one a (iter pv j.0 y) h (in-against j.0 j.1) (e.0 ∙ sym (next_back k l) ∙ ap nx (sym j.3)), refl),
        ),
      )

  pub faces_sewn : (pt : ℕ → Point) (me counter : ℕ) (T : ℕ → Third) → Good S nx pt me counter T
      → ((a c : ℕ) → Pair a c → pt a ≡ pt (nx c)) → ((a c z : ℕ) → Pair a c → T a ≡ sewn z → ⊥)
      → Good S nx pt me counter (λ a. third_or (T a) (find (λ k. k.dart) a (sewing nx pv n x y)))
  faces_sewn pt me counter T G points not_sewn = pairs_sewn S nx pt me counter T (λ a. third_or (T a) (find (λ k. k.dart) a (sewing nx pv n x y))) G Pair
      paired_in paired_sym paired_one paired_other paired_on paired_back points not_sewn
      (λ a. ⊎_elim (λ r. inl (r.0, missed_unpaired nx pv n x y a r.1)) (λ r. inr r) (sewing_after nx pv n x y T a))
