-- Vertices by first use: a ring's least dart stands for it, and a table that has a number at each dart of the rings met so far.
-- Assumes nothing.
use mathlib.Core.Path.{◌≡◌, refl, sym, ◌∙◌, ap}
use mathlib.Core.Bool.{Bool, true, false, true≢false, cond, not, ◌&&◌}
use mathlib.Core.List.{List, [], ◌∷◌, ◌++◌, map, append-nil}
use Prim.Native.Nat.{ℕ, suc, ◌+◌, ◌≤◌, ◌<◌}
use native.Mathlib.Omega.{arith}
use native.Mathlib.Numerals.{add-one}
use lib.Dec.{eqb}
use lib.ListN.{length, get_or, set, take, length-append, length-set}
use lib.Seq.{get_or-set_same, get_or-set_other, take-suc-set, length-take-le, get_or-take}
use borrow.Author.Tests.{eq-eqb, ne_eqb}
use Rattle.model.specs.Lists.{keep, mem, firsts, index_of}
use Rattle.model.specs.Cells.{cycle, ring, vertex, vertices, vertex_number}
use Rattle.model.specs.Values.{room}
use Rattle.laws.proofs.Tests.{by_cases}
use Rattle.laws.proofs.Members.{In, in_here, in_eq, in_getD, in_append_left, in_append_right, in_map, map_append, mem_keep, least_below, least_among}
use Rattle.laws.proofs.Faces.{face_self, face_stays, face_sym, face_trans}
use Rattle.theory.proofs.ImageLaws.{place_back}
use Rattle.cells.specs.Places.{Within, Apart, Assigned, Numbered}
use Rattle.cells.proofs.Walks.{eq_or_ne, in_take, last_or_below}
use Rattle.cells.proofs.Reached.{places, in_places, places_below, within_places}
use Rattle.cells.proofs.Paths.{apart_places, few_places, mem_append}
use Rattle.cells.proofs.FaceLaws.{keep_append}
use Rattle.laws.proofs.Lists.{take_more}

-- FIRST USES
pub mem_firsts : (y : ℕ) (l : List ℕ) → mem y (firsts l) ≡ mem y l
unfolding firsts
mem_firsts y [] = refl
mem_firsts y (x ∷ l) = eq_or_ne y x
    (λ e. rw (e, eq-eqb x x refl))
    (λ e. rw (ne_eqb y x e, mem_keep (λ z. not (eqb x z)) y (firsts l), ne_eqb x y (λ w. e (sym w)), mem_firsts y l) (both (mem y l)))
  where
    both : (b : Bool) → (b && true) ≡ b
    both true = refl
    both false = refl

pub firsts_more : (l : List ℕ) (y : ℕ) → firsts (l ++ y ∷ []) ≡ firsts l ++ cond (mem y l) [] (y ∷ [])
unfolding firsts
firsts_more [] y = refl
firsts_more (x ∷ l) y = ap (λ (t : List ℕ). x ∷ t) (ap (keep (λ z. not (eqb x z))) (firsts_more l y) ∙ keep_append (λ z. not (eqb x z)) (firsts l) (cond (mem y l) [] (y ∷ []))
    ∙ ap (λ (t : List ℕ). keep (λ z. not (eqb x z)) (firsts l) ++ t) last)
  where
    last : keep (λ z. not (eqb x z)) (cond (mem y l) [] (y ∷ [])) ≡ cond (mem y (x ∷ l)) [] (y ∷ [])
    last = eq_or_ne y x
        (λ e. rw (e, eq-eqb x x refl) (by_cases (mem x l) (λ k. rw k) (λ k. rw (k, eq-eqb x x refl))))
        (λ e. rw (ne_eqb y x e) (by_cases (mem y l) (λ k. rw k) (λ k. rw (k, ne_eqb x y (λ w. e (sym w))))))

index_more : (x : ℕ) (l r : List ℕ) → In x l → index_of x (l ++ r) ≡ index_of x l
unfolding index_of
index_more x [] r h = absurd (true≢false (sym h))
index_more x (y ∷ l) r h = by_cases (eqb x y) (λ e. rw e) (λ e. rw e (ap suc (index_more x l r (rw e at h))))

index_last : (y : ℕ) (l : List ℕ) → mem y l ≡ false → index_of y (l ++ y ∷ []) ≡ length l
unfolding index_of
index_last y [] h = rw (eq-eqb y y refl)
index_last y (x ∷ l) h = by_cases (eqb y x) (λ e. absurd (true≢false (rw e at h))) (λ e. rw e (ap suc (index_last y l (rw e at h))))

-- RINGS: two darts have one vertex where one is in the other's ring
module _ (n : ℕ) (nx op : ℕ → ℕ) (few : n ≤ room) (wn : Within n nx) (an : Apart n nx) (wo : Within n op) (ao : Apart n op) where
  abbrev pub step : ℕ → ℕ
  step d = nx (op d)

  pub step_within : Within n step
  step_within p h = wn (op p) (wo p h)

  pub step_apart : Apart n step
  step_apart p q hp hq e = ao p q hp hq (an (op p) (op q) (wo p hp) (wo q hq) e)

  module _ (x : ℕ) (hx : x < n) where
    pub ring_self : In x (ring nx op x)
    unfolding ring cycle
    ring_self = face_self step (places n) (within_places step_within) (apart_places step_apart) (few_places few) x (in_places n x hx)

    pub ring_below : (y : ℕ) → In y (ring nx op x) → y < n
    unfolding ring cycle
    ring_below y k = places_below n y (face_stays step (places n) (within_places step_within) (apart_places step_apart) (few_places few) x y (in_places n x hx) k)

    pub vertex_in : In (vertex nx op x) (ring nx op x)
    unfolding vertex
    vertex_in = least_among (ring nx op x) x ring_self

    ring_sym : (y : ℕ) → In y (ring nx op x) → In x (ring nx op y)
    unfolding ring cycle
    ring_sym y k = face_sym step (places n) (within_places step_within) (apart_places step_apart) (few_places few) x y (in_places n x hx) k

    ring_trans : (y z : ℕ) → In y (ring nx op x) → In z (ring nx op y) → In z (ring nx op x)
    unfolding ring cycle
    ring_trans y z k j = face_trans step (places n) (within_places step_within) (apart_places step_apart) (few_places few) x y z (in_places n x hx) k j

  pub one_vertex : (x y : ℕ) → x < n → y < n → In y (ring nx op x) → vertex nx op y ≡ vertex nx op x
  unfolding vertex
  one_vertex x y hx hy k =
      let a = least_below (ring nx op x) (vertex nx op y) (ring_trans x hx y (vertex nx op y) k (vertex_in y hy)) in
      let b = least_below (ring nx op y) (vertex nx op x) (ring_trans y hy x (vertex nx op x) (ring_sym x hx y k) (vertex_in x hx)) in
      omega arith

  pub one_ring : (x y : ℕ) → x < n → y < n → vertex nx op y ≡ vertex nx op x → In y (ring nx op x)
  one_ring x y hx hy e =
      let there : In (vertex nx op x) (ring nx op y) = in_eq _ (vertex nx op y) (ring nx op y) (sym e) (vertex_in y hy) in
      ring_trans x hx (vertex nx op x) y (vertex_in x hx) (ring_sym y hy (vertex nx op x) there)

  -- as a test
  pub ring_test : (x y : ℕ) → x < n → y < n → mem y (ring nx op x) ≡ eqb (vertex nx op y) (vertex nx op x)
  ring_test x y hx hy = eq_or_ne (vertex nx op y) (vertex nx op x)
      (λ e. rw (eq-eqb _ _ e) (one_ring x y hx hy e))
      (λ e. rw (ne_eqb _ _ e) (by_cases (mem y (ring nx op x)) (λ k. absurd (e (one_vertex x y hx hy k))) (λ k. k)))

-- NUMBERS: of the darts l those of `done` are passed, and every dart of l whose vertex one of them has, has its number
pub record Numbering (n : ℕ) (nx op : ℕ → ℕ) (l done numbers first : List ℕ) (count : ℕ) : Type 0 where
  pub numbers_size : n ≤ length numbers
  pub first_size : count ≤ length first
  pub value : (q : ℕ) → q < n → In q l → get_or numbers q 0 ≡ cond (mem (vertex nx op q) (vertices nx op done)) (index_of (vertex nx op q) (vertices nx op done)) room
  pub count_is : count ≡ length (vertices nx op done)
  pub count_le : count ≤ length done
  pub firsts_are : map (vertex nx op) (take count first) ≡ vertices nx op done
  pub firsts_in : (k : ℕ) → k < count → In (get_or first k 0) done

pub numbering_start : (n : ℕ) (nx op : ℕ → ℕ) (l numbers first : List ℕ) → n ≤ length numbers → ((q : ℕ) → In q l → get_or numbers q 0 ≡ room)
    → Numbering n nx op l [] numbers first 0
unfolding vertices firsts
numbering_start n nx op l numbers first size none = record {
  numbers_size = size;
  first_size = omega arith;
  value = λ q h k. none q k;
  count_is = refl;
  count_le = omega arith;
  firsts_are = refl;
  firsts_in = λ k h. absurd (omega arith);
}

vertices_more : (nx op : ℕ → ℕ) (l : List ℕ) (p : ℕ) → vertices nx op (l ++ p ∷ []) ≡ vertices nx op l ++ cond (mem (vertex nx op p) (vertices nx op l)) [] (vertex nx op p ∷ [])
unfolding vertices
vertices_more nx op l p = ap firsts (map_append (vertex nx op) l (p ∷ [])) ∙ firsts_more (map (vertex nx op) l) (vertex nx op p)
    ∙ ap (λ (b : Bool). firsts (map (vertex nx op) l) ++ cond b [] (vertex nx op p ∷ [])) (sym (mem_firsts (vertex nx op p) (map (vertex nx op) l)))

module _ {n p count : ℕ} {nx op : ℕ → ℕ} {l done numbers first : List ℕ} (w : Numbering n nx op l done numbers first count) (h : p < n) (here : In p l) (short : length done < room) where
  -- a dart that has a number
  pub numbering_skip : (get_or numbers p 0 ≡ room → ⊥) → Numbering n nx op l (done ++ p ∷ []) numbers first count
  numbering_skip ne = record {
    numbers_size = w.numbers_size;
    first_size = w.first_size;
    value = λ q k i. rw same (w.value q k i);
    count_is = rw same w.count_is;
    count_le = omega (arith, w.count_le, length-append done (p ∷ []));
    firsts_are = rw same w.firsts_are;
    firsts_in = λ k j. in_append_left (get_or first k 0) done (p ∷ []) (w.firsts_in k j);
  }
    where
      same : vertices nx op (done ++ p ∷ []) ≡ vertices nx op done
      same = by_cases (mem (vertex nx op p) (vertices nx op done))
          (λ e. vertices_more nx op done p ∙ ap (λ (b : Bool). vertices nx op done ++ cond b [] (vertex nx op p ∷ [])) e ∙ append-nil (vertices nx op done))
          (λ e. absurd (ne (w.value p h here ∙ ap (λ (b : Bool). cond b (index_of (vertex nx op p) (vertices nx op done)) room) e)))

  -- a dart that has none
  module _ (none : get_or numbers p 0 ≡ room) where
    unnumbered : mem (vertex nx op p) (vertices nx op done) ≡ false
    unnumbered = by_cases (mem (vertex nx op p) (vertices nx op done))
        (λ e. let at : get_or numbers p 0 ≡ index_of (vertex nx op p) (vertices nx op done) = w.value p h here ∙ ap (λ (b : Bool). cond b (index_of (vertex nx op p) (vertices nx op done)) room) e in
        absurd (omega (arith, (place_back (vertex nx op p) (vertices nx op done) e).1, w.count_is, w.count_le)))
        (λ e. e)

    grown : vertices nx op (done ++ p ∷ []) ≡ vertices nx op done ++ vertex nx op p ∷ []
    grown = vertices_more nx op done p ∙ ap (λ (b : Bool). vertices nx op done ++ cond b [] (vertex nx op p ∷ [])) unnumbered

    pub numbering_new : {numbers' : List ℕ} → count < length first → ((x y : ℕ) → x < n → y < n → mem y (ring nx op x) ≡ eqb (vertex nx op y) (vertex nx op x))
        → Assigned count (ring nx op p) numbers numbers' → Numbering n nx op l (done ++ p ∷ []) numbers' (set first count p) (count + 1)
    numbering_new {numbers'} fits test m = record {
      numbers_size = omega (arith, m.size, w.numbers_size);
      first_size = simp length-set (omega arith);
      value = λ q k i. m.value q ∙ ap (λ (b : Bool). cond b count (get_or numbers q 0)) (test p q h k) ∙ numbered q k i;
      count_is = omega (arith, w.count_is, ap length grown, length-append (vertices nx op done) (vertex nx op p ∷ []));
      count_le = omega (arith, w.count_le, length-append done (p ∷ []));
      firsts_are = rw (grown, add-one, take-suc-set first count p fits, map_append, w.firsts_are);
      firsts_in = λ k j. last_or_below j
          (λ e. in_append_right (get_or (set first count p) k 0) done (p ∷ [])
          (in_eq _ p (p ∷ [])
          (ap (λ (j : ℕ). get_or (set first count p) j 0) e
          ∙ get_or-set_same first count p 0 fits) (in_here p [])))
          (λ e. in_append_left (get_or (set first count p) k 0) done (p ∷ []) (in_eq _ (get_or first k 0) done (get_or-set_other first count k p 0 (λ z. omega arith)) (w.firsts_in k e)));
    }
      where
        numbered : (q : ℕ) → q < n → In q l → cond (eqb (vertex nx op q) (vertex nx op p)) count (get_or numbers q 0)
            ≡ cond (mem (vertex nx op q) (vertices nx op (done ++ p ∷ []))) (index_of (vertex nx op q) (vertices nx op (done ++ p ∷ []))) room
        numbered q k here = rw (grown, mem_append (vertex nx op q) (vertices nx op done) (vertex nx op p ∷ [])) (eq_or_ne (vertex nx op q) (vertex nx op p)
            (λ e. rw (e, eq-eqb (vertex nx op p) (vertex nx op p) refl, unnumbered, index_last (vertex nx op p) (vertices nx op done) unnumbered) w.count_is)
            (λ e. rw (ne_eqb _ _ e) (w.value q k here ∙ by_cases (mem (vertex nx op q) (vertices nx op done))
            (λ i. rw (i, index_more (vertex nx op q) (vertices nx op done) (vertex nx op p ∷ []) i))
            (λ i. rw i))))

-- the darts before i of an order are passed
pub record Passing (n : ℕ) (nx op : ℕ → ℕ) (order : List ℕ) (darts i : ℕ) (numbers first : List ℕ) (count : ℕ) : Type 0 where
  pub i_le : i ≤ darts
  pub passed : Numbering n nx op (take darts order) (take i order) numbers first count
  pub few : count ≤ i
  pub first_long : darts ≤ length first

pub passing_start : (n : ℕ) (nx op : ℕ → ℕ) (order : List ℕ) (darts : ℕ) (numbers first : List ℕ) → n ≤ length numbers
    → ((q : ℕ) → In q (take darts order) → get_or numbers q 0 ≡ room) → darts ≤ length first
    → Passing n nx op order darts 0 numbers first 0
passing_start n nx op order darts numbers first size none fits =
    record { i_le = omega arith; passed = numbering_start n nx op (take darts order) numbers first size none; few = omega arith; first_long = fits }

module _ {n darts i count p : ℕ} {nx op : ℕ → ℕ} {order numbers first : List ℕ} (w : Passing n nx op order darts i numbers first count)
    (h : i < darts) (fits : darts ≤ room) (there : darts ≤ length order) (below : (k : ℕ) → k < darts → get_or order k 0 < n) (e : p ≡ get_or order i 0) where
  one_more : take (i + 1) order ≡ take i order ++ p ∷ []
  one_more = take_more order i (omega arith) ∙ ap (λ (x : ℕ). take i order ++ x ∷ []) (sym e)

  short : length (take i order) < room
  short = omega (arith, length-take-le i order (omega arith))

  pub place_below : p < n
  place_below = rw e (below i h)

  place_in : In p (take darts order)
  place_in = rw e (in_take order darts i h (omega arith))

  pub passing_skip : (get_or numbers p 0 ≡ room → ⊥) → Passing n nx op order darts (i + 1) numbers first count
  passing_skip ne = record {
    i_le = omega arith;
    passed = rw one_more (numbering_skip w.passed place_below place_in short ne);
    few = omega (arith, w.few);
    first_long = w.first_long;
  }

  pub passing_new : {numbers' : List ℕ} → get_or numbers p 0 ≡ room → ((x y : ℕ) → x < n → y < n → mem y (ring nx op x) ≡ eqb (vertex nx op y) (vertex nx op x))
      → Assigned count (ring nx op p) numbers numbers' → Passing n nx op order darts (i + 1) numbers' (set first count p) (count + 1)
  passing_new none test m = record {
    i_le = omega arith;
    passed = rw one_more (numbering_new w.passed place_below place_in short none (omega (arith, w.few, w.first_long)) test m);
    few = omega (arith, w.few);
    first_long = simp length-set w.first_long;
  }

pub numbering_end : {n count : ℕ} {nx op : ℕ → ℕ} {l numbers first : List ℕ} → Numbering n nx op l l numbers first count → ((p : ℕ) → In p l → p < n) → Numbered nx op l numbers first count
unfolding vertex_number vertices
numbering_end {n} {count} {nx} {op} {l} w h =
    record {
      numbers_size = λ p k. omega (arith, h p k, w.numbers_size);
      firsts_size = w.first_size;
      count_le = w.count_le;
      firsts_in = w.firsts_in;
      number = λ p k. w.value p (h p k) k
          ∙ ap (λ (b : Bool). cond b (index_of (vertex nx op p) (vertices nx op l)) room) (there p k);
      count_is = w.count_is;
      firsts_are = w.firsts_are;
    }
  where
    there : (p : ℕ) → In p l → In (vertex nx op p) (vertices nx op l)
    there p k = mem_firsts (vertex nx op p) (map (vertex nx op) l) ∙ in_map (vertex nx op) p l k

-- all are passed
pub passing_end : {n darts i count : ℕ} {nx op : ℕ → ℕ} {order numbers first : List ℕ} → Passing n nx op order darts i numbers first count → darts ≤ i → darts ≤ length order
    → ((k : ℕ) → k < darts → get_or order k 0 < n) → Numbered nx op (take darts order) numbers first count
passing_end {n} {darts} {i} {count} {nx} {op} {order} {numbers} {first} w h there below =
    let same : i ≡ darts = omega (arith, w.i_le) in
    numbering_end (rw same at w.passed) (λ p k. let r = in_getD (take darts order) p k in
    let less : r.0 < darts = omega (arith, r.1, length-take-le darts order there) in
    rw (r.2, get_or-take darts order r.0 0 less) (below r.0 less))
