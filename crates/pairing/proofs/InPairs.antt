-- Keys in order, two by two: each code stands exactly twice, and those two keys pass the test. Assumes nothing.
use mathlib.Core.Path.{◌≡◌, refl, sym, ap, subst, ◌∙◌}
use mathlib.Core.Bool.{Bool, true, true≢false, ◌&&◌}
use mathlib.Core.List.{List, [], ◌∷◌}
use mathlib.Core.Logic.{⊎_elim}
use Prim.Native.Nat.{ℕ, ◌/◌, ◌≤◌, ◌<◌}
use native.Mathlib.Omega.{arith}
use lib.Dec.{eqb}
use borrow.Author.Tests.{eqb-true, eqb-false, eq-eqb, ne_eqb, not-true}
use Rattle.laws.proofs.Tests.{by_cases, eq_or_ne, and_intro, and_left, and_right}
use Rattle.laws.proofs.Members.{In, in_here, in_there, in_cons}
use Rattle.sort.specs.Order.{weight, total, SameKeys, Each, Sorted}
use Rattle.sort.proofs.Order.{each_map}
use Rattle.pairing.specs.Keys.{fresh, in_pairs, each_pair}

-- how often a code stands
abbrev pub times : ℕ → List ℕ → ℕ
times a l = total (λ y. eqb a (y / 65536)) l

one : (a b : ℕ) → a ≡ b → weight (eqb a b) ≡ 1
one a b e = ap weight (eq-eqb a b e)

none : (a b : ℕ) → (a ≡ b → ⊥) → weight (eqb a b) ≡ 0
none a b h = ap weight (ne_eqb a b h)

each_in : (P : ℕ → Type 0) (l : List ℕ) → Each P l → (v : ℕ) → In v l → P v
each_in P [] a v h = absurd (true≢false (sym h))
each_in P (x ∷ l) a v h = in_cons v x l h (λ e. subst P (sym e) a.0) (λ k. each_in P l a.1 v k)

-- a code below those of a list stands there nowhere
above_none : (a : ℕ) (l : List ℕ) → Each (λ y. a < y / 65536) l → times a l ≡ 0
above_none a [] h = refl
above_none a (y ∷ l) h = omega (arith, none a (y / 65536) (λ e. omega (arith, h.0, e)), above_none a l h.1)

in_times : (a v : ℕ) (l : List ℕ) → In v l → a ≡ v / 65536 → 1 ≤ times a l
in_times a v [] h e = absurd (true≢false (sym h))
in_times a v (x ∷ l) h e = in_cons v x l h
    (λ q. omega (arith, one a (x / 65536) (e ∙ ap (λ (z : ℕ). z / 65536) q)))
    (λ k. omega (arith, in_times a v l k e))

none_fresh : (a : ℕ) (l : List ℕ) → times a l ≡ 0 → fresh a l ≡ true
unfolding fresh
none_fresh a [] h = refl
none_fresh a (z ∷ l) h = by_cases (eqb a (z / 65536))
    (λ e. absurd (omega (arith, ap weight e, h)))
    (λ e. rw e refl)

-- what follows in order and begins with another code is above
fresh_above : (x : ℕ) (l : List ℕ) → Each (λ y. x ≤ y) l → Sorted l → fresh (x / 65536) l ≡ true → Each (λ y. x / 65536 < y / 65536) l
unfolding fresh
fresh_above x [] h s f = tt
fresh_above x (z ∷ l) h s f = (first, each_map (λ w. z ≤ w) (λ w. x / 65536 < w / 65536) (λ w k. omega (arith, first, k)) l s.0)
  where
    first : x / 65536 < z / 65536
    first = less (eqb-false (x / 65536) (z / 65536) (not-true (eqb (x / 65536) (z / 65536)) f)) h.0
      where
        less : (x / 65536 ≡ z / 65536 → ⊥) → x ≤ z → x / 65536 < z / 65536
        less n k = omega (arith, n, k)

-- lists with the same keys have the same members
in_total : (v : ℕ) (l : List ℕ) → In v l → 1 ≤ total (eqb v) l
in_total v [] h = absurd (true≢false (sym h))
in_total v (x ∷ l) h = in_cons v x l h (λ e. omega (arith, one v x e)) (λ k. omega (arith, in_total v l k))

total_in : (v : ℕ) (l : List ℕ) → 1 ≤ total (eqb v) l → In v l
total_in v [] h = absurd (omega arith)
total_in v (x ∷ l) h = by_cases (eqb v x)
    (λ e. rw e refl)
    (λ e. in_there v x l (total_in v l (omega (arith, ap weight e, h))))

pub same_back : (xs ys : List ℕ) → SameKeys xs ys → (v : ℕ) → In v xs → In v ys
same_back xs ys s v h = total_in v ys (omega (arith, s (eqb v), in_total v xs h))

pub same_members : (xs ys : List ℕ) → SameKeys xs ys → (v : ℕ) → In v ys → In v xs
same_members xs ys s v h = total_in v xs (omega (arith, s (eqb v), in_total v ys h))

-- THE TESTS of two by two, taken apart
record Two (t : ℕ → ℕ → Bool) (x y : ℕ) (l : List ℕ) : Type 0 where
  same : x / 65536 ≡ y / 65536
  other : fresh (x / 65536) l ≡ true
  so : t x y ≡ true
  rest : in_pairs t l ≡ true

two : (t : ℕ → ℕ → Bool) (x y : ℕ) (l : List ℕ) → in_pairs t (x ∷ y ∷ l) ≡ true → Two t x y l
unfolding in_pairs
two t x y l e =
    let q = eqb (x / 65536) (y / 65536) in
    let f = fresh (x / 65536) l in
    let a = and_left (q && f && t x y) (in_pairs t l) e in
    let b = and_left (q && f) (t x y) a in
    record {
      same = eqb-true (x / 65536) (y / 65536) (and_left q f b);
      other = and_right q f b;
      so = and_right (q && f) (t x y) a;
      rest = and_right (q && f && t x y) (in_pairs t l) e;
    }

of_two : (t : ℕ → ℕ → Bool) (x y : ℕ) (l : List ℕ) → Two t x y l → in_pairs t (x ∷ y ∷ l) ≡ true
unfolding in_pairs
of_two t x y l w = and_intro (and_intro (and_intro (eq-eqb (x / 65536) (y / 65536) w.same) w.other) w.so) w.rest

odd : (t : ℕ → ℕ → Bool) (x : ℕ) → in_pairs t (x ∷ []) ≡ true → ⊥
unfolding in_pairs
odd t x e = true≢false (sym e)

-- FROM THE TESTS: the twin of a key
pub record Twin (t : ℕ → ℕ → Bool) (l : List ℕ) (v : ℕ) : Type 0 where
  pub twin : ℕ
  pub there : In twin l
  pub same : twin / 65536 ≡ v / 65536
  pub so : t v twin ≡ true
  pub twice : times (v / 65536) l ≡ 2

module _ (t : ℕ → ℕ → Bool) (flip : (x y : ℕ) → t x y ≡ true → t y x ≡ true) where
  module _ (x y : ℕ) (l : List ℕ) (s : Sorted (x ∷ y ∷ l)) (w : Two t x y l) where
    above : Each (λ z. x / 65536 < z / 65536) l
    above = fresh_above x l s.0.1 s.1.1 w.other

    first : Twin t (x ∷ y ∷ l) x
    first = record {
      twin = y;
      there = in_there y x (y ∷ l) (in_here y l);
      same = sym w.same;
      so = w.so;
      twice = omega (arith, one (x / 65536) (x / 65536) refl, one (x / 65536) (y / 65536) w.same, above_none (x / 65536) l above);
    }

    second : Twin t (x ∷ y ∷ l) y
    second = record {
      twin = x;
      there = in_here x (y ∷ l);
      same = w.same;
      so = flip x y w.so;
      twice = subst (λ (a : ℕ). times a (x ∷ y ∷ l) ≡ 2) w.same first.twice;
    }

    later : (v : ℕ) → In v l → Twin t l v → Twin t (x ∷ y ∷ l) v
    later v k r =
        let up = each_in (λ z. x / 65536 < z / 65536) l above v k in
        record {
          twin = r.twin;
          there = in_there r.twin x (y ∷ l) (in_there r.twin y l r.there);
          same = r.same;
          so = r.so;
          twice = omega (arith, none (v / 65536) (x / 65536) (λ e. omega (arith, up, e)), none (v / 65536) (y / 65536) (λ e. omega (arith, up, e, w.same)), r.twice);
        }

  pub twins : (l : List ℕ) → Sorted l → in_pairs t l ≡ true → (v : ℕ) → In v l → Twin t l v
  twins [] s e v h = absurd (true≢false (sym h))
  twins (x ∷ []) s e v h = absurd (odd t x e)
  twins (x ∷ y ∷ l) s e v h =
      let w = two t x y l e in
      in_cons v x (y ∷ l) h
      (λ q. subst (Twin t (x ∷ y ∷ l)) (sym q) (first x y l s w))
      (λ k. in_cons v y l k
      (λ q. subst (Twin t (x ∷ y ∷ l)) (sym q) (second x y l s w))
      (λ j. later x y l s w v j (twins l s.1.1 w.rest v j)))

-- TO THE TESTS: each code stands twice, and each key has a mate
pub record Mate (t : ℕ → ℕ → Bool) (l : List ℕ) (v : ℕ) : Type 0 where
  pub mate : ℕ
  pub there : In mate l
  pub other : mate ≡ v → ⊥
  pub same : mate / 65536 ≡ v / 65536
  pub so : t v mate ≡ true
  pub twice : times (v / 65536) l ≡ 2

module _ (t : ℕ → ℕ → Bool) where
  single : (x : ℕ) → times (x / 65536) (x ∷ []) ≡ 2 → ⊥
  single x e = omega (arith, one (x / 65536) (x / 65536) refl, e)

  module _ (x y : ℕ) (l : List ℕ) (s : Sorted (x ∷ y ∷ l)) (each : (v : ℕ) → In v (x ∷ y ∷ l) → Mate t (x ∷ y ∷ l) v) where
    head : Mate t (x ∷ y ∷ l) x
    head = each x (in_here x (y ∷ l))

    -- the second has the code of the first: what follows another is above
    beside : x / 65536 ≡ y / 65536
    beside = ⊎_elim (λ e. e) (λ n. absurd (go n (less n s.0.0))) (eq_or_ne (x / 65536) (y / 65536))
      where
        less : (x / 65536 ≡ y / 65536 → ⊥) → x ≤ y → x / 65536 < y / 65536
        less n k = omega (arith, n, k)

        go : (x / 65536 ≡ y / 65536 → ⊥) → x / 65536 < y / 65536 → ⊥
        go n k =
            let nothing = above_none (x / 65536) l (each_map (λ z. y ≤ z) (λ z. x / 65536 < z / 65536) (λ z h. omega (arith, k, h)) l s.1.0) in
            omega (arith, one (x / 65536) (x / 65536) refl, none (x / 65536) (y / 65536) n, nothing, head.twice)

    gone : times (x / 65536) l ≡ 0
    gone = omega (arith, one (x / 65536) (x / 65536) refl, one (x / 65536) (y / 65536) beside, head.twice)

    not_there : (v : ℕ) → In v l → x / 65536 ≡ v / 65536 → ⊥
    not_there v k e = omega (arith, in_times (x / 65536) v l k e, gone)

    passes : t x y ≡ true
    passes = in_cons head.mate x (y ∷ l) head.there
        (λ e. absurd (head.other e))
        (λ k. in_cons head.mate y l k
        (λ e. subst (λ (z : ℕ). t x z ≡ true) e head.so)
        (λ j. absurd (not_there head.mate j (sym head.same))))

    fewer : (v : ℕ) → In v l → Mate t l v
    fewer v k =
        let r = each v (in_there v x (y ∷ l) (in_there v y l k)) in
        record {
          mate = r.mate;
          there = in_cons r.mate x (y ∷ l) r.there
              (λ e. absurd (not_there v k (ap (λ (z : ℕ). z / 65536) (sym e) ∙ r.same)))
              (λ j. in_cons r.mate y l j (λ e. absurd (not_there v k (beside ∙ ap (λ (z : ℕ). z / 65536) (sym e) ∙ r.same))) (λ i. i));
          other = r.other;
          same = r.same;
          so = r.so;
          twice = omega (arith, none (v / 65536) (x / 65536) (λ e. not_there v k (sym e)), none (v / 65536) (y / 65536) (λ e. not_there v k (beside ∙ sym e)), r.twice);
        }

  pub mates : (l : List ℕ) → Sorted l → ((v : ℕ) → In v l → Mate t l v) → in_pairs t l ≡ true
  unfolding in_pairs
  mates [] s each = refl
  mates (x ∷ []) s each = absurd (single x (each x (in_here x [])).twice)
  mates (x ∷ y ∷ l) s each = of_two t x y l (record {
    same = beside x y l s each;
    other = none_fresh (x / 65536) l (gone x y l s each);
    so = passes x y l s each;
    rest = mates l s.1.1 (fewer x y l s each);
  })

-- A SECOND TEST of the same pairs
pub both_tests : (t u : ℕ → ℕ → Bool) (l : List ℕ) → in_pairs t l ≡ true → each_pair u l ≡ in_pairs (λ x y. t x y && u x y) l
unfolding in_pairs each_pair
both_tests t u [] e = refl
both_tests t u (x ∷ []) e = absurd (true≢false (sym e))
both_tests t u (x ∷ y ∷ l) e = go (two t x y l e) (both_tests t u l (two t x y l e).rest)
  where
    go : Two t x y l → each_pair u l ≡ in_pairs (λ x y. t x y && u x y) l
        → (u x y && each_pair u l) ≡ ((eqb (x / 65536) (y / 65536) && fresh (x / 65536) l && (t x y && u x y)) && in_pairs (λ x y. t x y && u x y) l)
    go w r = rw (r, eq-eqb (x / 65536) (y / 65536) w.same, w.other, w.so) refl
