-- Ordered vertex pairs: each once, with different ends, as a fact of the darts; and the walk along a ring that colours the ends.
-- Assumes nothing.
use mathlib.Core.Path.{◌≡◌, refl, sym, ◌∙◌, ap}
use mathlib.Core.Logic.{◌≢◌}
use mathlib.Core.Bool.{Bool, true, false, true≢false, not, ◌&&◌, ◌||◌}
use mathlib.Core.List.{List, [], ◌∷◌, ◌++◌, map}
use Prim.Native.Nat.{ℕ, zero, suc, ◌+◌, ◌-◌, ◌≤◌, ◌<◌}
use native.Mathlib.Omega.{arith}
use lib.Dec.{eqb}
use lib.ListN.{length, get_or, set, length-set}
use lib.Seq.{get_or-set_same, get_or-set_other}
use borrow.Author.Tests.{eq-eqb, ne_eqb, eqb-true, eqb-false, not-true}
use Rattle.model.specs.Lists.{all, any, mem, distinct, tab}
use Rattle.model.specs.Cells.{cycle}
use Rattle.model.specs.Links.{same_pair, pairs_once}
use Rattle.laws.proofs.Tests.{by_cases, and_intro, and_left, and_right, not_equal}
use Rattle.laws.proofs.Members.{In, in_here, in_there, in_eq, in_cons, map_append, distinct_append, distinct_left, distinct_apart, distinct_not}
use Rattle.laws.proofs.Orbits.{iter, path, in_path}
use Rattle.laws.proofs.Tables.{tab_all, all_tab}
use Rattle.cells.specs.Places.{Within, Coloured, ends_of, ends_once}
use Rattle.cells.proofs.Walks.{eq_or_ne}
use Rattle.cells.proofs.Paths.{Round, Going, path_next, going_end, mem_append}

-- EACH PAIR ONCE: a dart x leads from key x to key (nx x)
pub record Once (key nx : ℕ → ℕ) (v : List ℕ) : Type 0 where
  pub ends_differ : (x : ℕ) → In x v → key x ≢ key (nx x)
  pub pairs_differ : (x y : ℕ) → In x v → In y v → x ≢ y → key x ≡ key y → key (nx x) ≢ key (nx y)

module _ (key nx : ℕ → ℕ) where
  abbrev pair : ℕ → ℕ × ℕ
  pair x = (key x, key (nx x))

  some_pair : (x : ℕ) (v : List ℕ) (y : ℕ) → In y v → key x ≡ key y → key (nx x) ≡ key (nx y) → any (same_pair (pair x)) (map pair v) ≡ true
  some_pair x [] y h a b = absurd (true≢false (sym h))
  some_pair x (z ∷ v) y h a b = by_cases (same_pair (pair x) (pair z)) (λ e. rw e) (λ e. rw e (in_cons y z v h
      (λ w. absurd (true≢false (sym (and_intro (eq-eqb (key x) (key z) (a ∙ ap key w)) (eq-eqb (key (nx x)) (key (nx z)) (b ∙ ap (λ (i : ℕ). key (nx i)) w))) ∙ e)))
      (λ k. some_pair x v y k a b)))

  pair_some : (x : ℕ) (v : List ℕ) → any (same_pair (pair x)) (map pair v) ≡ true → (y : ℕ) × In y v × (key x ≡ key y) × (key (nx x) ≡ key (nx y))
  pair_some x [] h = absurd (true≢false (sym h))
  pair_some x (z ∷ v) h = by_cases (same_pair (pair x) (pair z))
      (λ e. (z, in_here z v, eqb-true (key x) (key z) (and_left (eqb (key x) (key z)) _ e), eqb-true (key (nx x)) (key (nx z)) (and_right (eqb (key x) (key z)) _ e)))
      (λ e. let r = pair_some x v (rw e at h) in (r.0, in_there r.0 z v r.1, r.2, r.3))

  pub once_from : (v : List ℕ) → pairs_once (map pair v) ≡ true → Once key nx v
  unfolding pairs_once
  once_from [] h = record { ends_differ = λ x k. absurd (true≢false (sym k)); pairs_differ = λ x y k. absurd (true≢false (sym k)) }
  once_from (z ∷ v) h =
      let two = not (eqb (key z) (key (nx z))) && not (any (same_pair (pair z)) (map pair v)) in
      let differ = eqb-false _ _ (not-true _ (and_left (not (eqb (key z) (key (nx z)))) _ (and_left two _ h))) in
      let new = not-true _ (and_right (not (eqb (key z) (key (nx z)))) _ (and_left two _ h)) in
      let ih = once_from v (and_right two _ h) in
      record {
        ends_differ = λ x k. in_cons x z v k (λ e. rw e differ) (ih.ends_differ x);
        pairs_differ = λ x y i j ne a b. in_cons x z v i
            (λ e. in_cons y z v j (λ f. ne (e ∙ sym f)) (λ m. true≢false (sym (some_pair z v y m (ap key (sym e) ∙ a) (ap (λ (w : ℕ). key (nx w)) (sym e) ∙ b)) ∙ new)))
            (λ k. in_cons y z v j (λ f. true≢false (sym (some_pair z v x k (ap key (sym f) ∙ sym a) (ap (λ (w : ℕ). key (nx w)) (sym f) ∙ sym b)) ∙ new)) (λ m. ih.pairs_differ x y k m ne a b));
      }

  pub once_to : (v : List ℕ) → distinct v ≡ true → Once key nx v → pairs_once (map pair v) ≡ true
  unfolding pairs_once
  once_to [] d o = refl
  once_to (z ∷ v) d o = and_intro (and_intro (not_equal (key z) (key (nx z)) (o.ends_differ z (in_here z v))) (new (any (same_pair (pair z)) (map pair v)) refl))
      (once_to v (and_right (not (mem z v)) _ d)
      (record {
        ends_differ = λ x k. o.ends_differ x (in_there x z v k);
        pairs_differ = λ x y i j. o.pairs_differ x y (in_there x z v i) (in_there y z v j);
      }))
    where
      new : (b : Bool) → any (same_pair (pair z)) (map pair v) ≡ b → not (any (same_pair (pair z)) (map pair v)) ≡ true
      new false e = rw e
      new true e = let r = pair_some z v e in
          absurd (o.pairs_differ z r.0 (in_here z v) (in_there r.0 z v r.1) (λ w. distinct_not z v d r.0 r.1 (sym w)) r.2 r.3)

-- STAMPS
pub give_colour_start : (a : ℕ) (colours : List ℕ) → a < length colours → ((b : ℕ) → get_or colours b 0 ≤ a) → Coloured (length colours) (a + 1) (a ∷ []) (set colours a (a + 1))
give_colour_start a colours h low = record {
  size = simp length-set;
  bound = λ b. eq_or_ne b a (λ e. rw e (omega (arith, here))) (λ e. omega (arith, get_or-set_other colours a b (a + 1) 0 e, low b));
  give_colour_is = λ b k. eq_or_ne b a
      (λ e. rw (e, here, eq-eqb (a + 1) (a + 1) refl, eq-eqb a a refl))
      (λ e. rw (get_or-set_other colours a b (a + 1) 0 e, ne_eqb b a e, ne_eqb (get_or colours b 0) (a + 1) (λ w. omega (arith, low b))));
}
  where
    here : get_or (set colours a (a + 1)) a 0 ≡ a + 1
    here = get_or-set_same colours a (a + 1) 0 (omega arith)

pub give_colour_more : {m c : ℕ} {l colours : List ℕ} → Coloured m c l colours → (b : ℕ) → b < m → Coloured m c (l ++ b ∷ []) (set colours b c)
give_colour_more {m} {c} {l} {colours} s b h = record {
  size = simp length-set s.size;
  bound = λ d. eq_or_ne d b (λ e. rw e (omega (arith, here))) (λ e. omega (arith, get_or-set_other colours b d c 0 e, s.bound d));
  give_colour_is = λ d k. rw (mem_append d l (b ∷ [])) (eq_or_ne d b
      (λ e. rw (e, here, eq-eqb c c refl, eq-eqb b b refl) (sym (either (mem b l))))
      (λ e. rw (get_or-set_other colours b d c 0 e, ne_eqb d b e) (s.give_colour_is d k ∙ sym (neither (mem d l)))));
}
  where
    here : get_or (set colours b c) b 0 ≡ c
    here = get_or-set_same colours b c 0 (omega (arith, s.size))

    either : (t : Bool) → (t || true) ≡ true
    either true = refl
    either false = refl

    neither : (t : Bool) → (t || false) ≡ t
    neither true = refl
    neither false = refl

-- as the calls leave the table
pub coloured_first : {a : ℕ} (colours : List ℕ) {colours' : List ℕ} → a < length colours → ((b : ℕ) → get_or colours b 0 ≤ a)
    → colours' ≡ set colours a (a + 1) → Coloured (length colours') (a + 1) (a ∷ []) colours'
coloured_first {a} colours h low e = rw (e, length-set) (give_colour_start a colours h low)

pub coloured_next : {m c b : ℕ} {l colours colours' : List ℕ} → Coloured m c l colours → b < m → colours' ≡ set colours b c → Coloured m c (l ++ b ∷ []) colours'
coloured_next {b = b} s h e = rw e (give_colour_more s b h)

pub coloured_size : {m c : ℕ} {l colours : List ℕ} (b : ℕ) {colours' : List ℕ} → Coloured m c l colours → colours' ≡ set colours b c → length colours' ≡ m
coloured_size b s e = rw e (simp length-set s.size)

-- THE WALK along a ring: a and the ends so far differ, and are coloured
pub record Ending (n : ℕ) (nx f : ℕ → ℕ) (numbers : List ℕ) (m x a c k p : ℕ) (colours : List ℕ) : Type 0 where
  pub going : Going n f x c k p
  pub differ : distinct (a ∷ map (λ q. get_or numbers (nx q) 0) (path f k x)) ≡ true
  pub coloured : Coloured m (a + 1) (a ∷ map (λ q. get_or numbers (nx q) 0) (path f k x)) colours

path_split : (f : ℕ → ℕ) (i j x : ℕ) → path f (i + j) x ≡ path f i x ++ path f j (iter f i x)
path_split f zero j x = let z : 0 + j ≡ j = omega arith in rw z
path_split f (suc i) j x = let z : suc i + j ≡ suc (i + j) = omega arith in rw z (ap (λ (l : List ℕ). x ∷ l) (path_split f i j (f x)))

module _ {n : ℕ} {nx f : ℕ → ℕ} {numbers colours : List ℕ} {m x a c k p b : ℕ} (wf : Within n f) (r : Round f x c) (w : Ending n nx f numbers m x a c k p colours)
    (e : b ≡ get_or numbers (nx p) 0) (small : b < m) where
  one_end : (a ∷ map (λ q. get_or numbers (nx q) 0) (path f (suc k) x)) ≡ (a ∷ map (λ q. get_or numbers (nx q) 0) (path f k x)) ++ b ∷ []
  one_end = ap (λ (l : List ℕ). a ∷ map (λ q. get_or numbers (nx q) 0) l) (path_next wf r w.going)
      ∙ ap (λ (l : List ℕ). a ∷ l) (map_append (λ q. get_or numbers (nx q) 0) (path f k x) (p ∷ []))
      ∙ ap (λ (y : ℕ). a ∷ (map (λ q. get_or numbers (nx q) 0) (path f k x) ++ y ∷ [])) (sym e)

  -- an end that is coloured already comes twice
  pub ending_twice : not (eqb (get_or colours b 0) (a + 1)) ≡ false → false ≡ distinct (a ∷ map (λ q. get_or numbers (nx q) 0) (cycle f x))
  ending_twice t = by_cases (distinct (a ∷ map (λ q. get_or numbers (nx q) 0) (cycle f x))) (λ d. absurd (twice d)) (λ d. sym d)
    where
      there : In b (a ∷ map (λ q. get_or numbers (nx q) 0) (path f k x))
      there = sym (w.coloured.give_colour_is b small) ∙ not_false' (eqb (get_or colours b 0) (a + 1)) t
        where
          not_false' : (o : Bool) → not o ≡ false → o ≡ true
          not_false' true h = refl
          not_false' false h = sym h

      whole : (a ∷ map (λ q. get_or numbers (nx q) 0) (cycle f x))
          ≡ ((a ∷ map (λ q. get_or numbers (nx q) 0) (path f k x)) ++ b ∷ [])
          ++ map (λ q. get_or numbers (nx q) 0) (path f (c - suc k) (iter f (suc k) x))
      whole =
          let parts : c ≡ suc k + (c - suc k) = omega (arith, w.going.less) in
          ap (λ (l : List ℕ). a ∷ map (λ q. get_or numbers (nx q) 0) l) (r.cycle_is ∙ ap (λ (j : ℕ). path f j x) parts ∙ path_split f (suc k) (c - suc k) x)
          ∙ ap (λ (l : List ℕ). a ∷ l) (map_append (λ q. get_or numbers (nx q) 0) (path f (suc k) x) (path f (c - suc k) (iter f (suc k) x)))
          ∙ ap (λ (l : List ℕ). l ++ map (λ q. get_or numbers (nx q) 0) (path f (c - suc k) (iter f (suc k) x))) one_end

      twice : distinct (a ∷ map (λ q. get_or numbers (nx q) 0) (cycle f x)) ≡ true → ⊥
      twice d =
          let front =
          distinct_left ((a ∷ map (λ q. get_or numbers (nx q) 0) (path f k x)) ++ b ∷ [])
          (map (λ q. get_or numbers (nx q) 0) (path f (c - suc k) (iter f (suc k) x))) (sym (ap distinct whole) ∙ d)
          in
          true≢false (sym there ∙ distinct_apart (a ∷ map (λ q. get_or numbers (nx q) 0) (path f k x)) (b ∷ []) front b (in_here b []))

  -- one that is not goes with the others
  module _ (t : not (eqb (get_or colours b 0) (a + 1)) ≡ true) where
    absent : mem b (a ∷ map (λ q. get_or numbers (nx q) 0) (path f k x)) ≡ false
    absent = sym (w.coloured.give_colour_is b small) ∙ not-true (eqb (get_or colours b 0) (a + 1)) t

    further : distinct (a ∷ map (λ q. get_or numbers (nx q) 0) (path f (suc k) x)) ≡ true
    further = ap distinct one_end ∙ distinct_append (a ∷ map (λ q. get_or numbers (nx q) 0) (path f k x)) (b ∷ []) w.differ refl
        (λ y h. go y h (mem y (b ∷ [])) refl)
      where
        go : (y : ℕ) → In y (a ∷ map (λ q. get_or numbers (nx q) 0) (path f k x)) → (o : Bool) → mem y (b ∷ []) ≡ o → mem y (b ∷ []) ≡ false
        go y h false m = m
        go y h true m = in_cons y b [] m (λ same. absurd (true≢false (sym (in_eq b y (a ∷ map (λ q. get_or numbers (nx q) 0) (path f k x)) (sym same) h) ∙ absent))) (λ z. absurd (true≢false (sym z)))

    pub ending_more : {q : ℕ} {colours' : List ℕ} → colours' ≡ set colours b (a + 1) → Going n f x c (k + 1) q → Ending n nx f numbers m x a c (k + 1) q colours'
    ending_more s g = let more : k + 1 ≡ suc k = omega arith in
        record { going = g; differ = rw more further; coloured = rw (more, one_end) (coloured_next w.coloured small s) }

    pub ending_all : {q : ℕ} → q ≡ f p → q ≡ x → true ≡ distinct (a ∷ map (λ q. get_or numbers (nx q) 0) (cycle f x))
    ending_all i j = sym (ap (λ (l : List ℕ). distinct (a ∷ map (λ q. get_or numbers (nx q) 0) l)) (r.cycle_is ∙ ap (λ (m : ℕ). path f m x) (sym (going_end wf r w.going i j))) ∙ further)

-- where the walk stands is on the cycle
pub going_in : {n : ℕ} {f : ℕ → ℕ} {x c k p : ℕ} → Round f x c → Going n f x c k p → In p (cycle f x)
going_in {n} {f} {x} {c} {k} {p} r g = rw (r.cycle_is, g.at) (in_path f c x k g.less)

-- EACH VERTEX
pub ends_all : (nx op : ℕ → ℕ) (numbers firsts : List ℕ) (count : ℕ)
    → ((a : ℕ) → a < count → distinct (a ∷ ends_of nx op numbers (get_or firsts a 0)) ≡ true)
    → true ≡ ends_once nx op numbers firsts count
unfolding ends_once
ends_all nx op numbers firsts count h = sym (tab_all (λ a. distinct (a ∷ ends_of nx op numbers (get_or firsts a 0))) (λ a. a) count h)

pub ends_not : (nx op : ℕ → ℕ) (numbers firsts : List ℕ) (count a : ℕ) → a < count → distinct (a ∷ ends_of nx op numbers (get_or firsts a 0)) ≡ false → false ≡ ends_once nx op numbers firsts count
unfolding ends_once
ends_not nx op numbers firsts count a h e = by_cases (all (λ a. distinct (a ∷ ends_of nx op numbers (get_or firsts a 0))) (tab (λ a. a) count))
    (λ t. absurd (true≢false (sym (all_tab (λ a. distinct (a ∷ ends_of nx op numbers (get_or firsts a 0))) (λ a. a) count t a h) ∙ e)))
    (λ t. sym t)
