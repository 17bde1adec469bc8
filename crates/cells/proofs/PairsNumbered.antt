-- Ordered vertex pairs of whole lists of places: by rings and numbers, in any order of the darts, and by serial (question 13).
-- Assumes nothing.
use mathlib.Core.Path.{◌≡◌, refl, sym, ◌∙◌, ap}
use mathlib.Core.Logic.{◌≢◌}
use mathlib.Core.Bool.{Bool, true, false, true≢false, not}
use mathlib.Core.List.{List, [], ◌∷◌, map}
use Prim.Native.Nat.{ℕ, zero, suc, ◌<◌, ◌≤◌}
use native.Mathlib.Omega.{arith}
use lib.Dec.{eqb}
use lib.ListN.{length, get_or, take, length-take}
use lib.Seq.{get_or-take}
use borrow.Author.Tests.{eq-eqb, ne_eqb}
use Rattle.model.specs.Lists.{any, keep, mem, distinct, index_of, firsts, concat}
use Rattle.model.specs.Cells.{cycle, faces, ring, vertex, vertices, vertex_number, volume_in, next_in, opposite_in}
use Rattle.model.specs.Image.{count_in, column}
use Rattle.model.specs.Values.{room}
use Rattle.model.specs.Links.{same_pair, pairs_once, vertex_pairs}
use Rattle.laws.proofs.Tests.{by_cases, and_intro, and_right, same_truth}
use Rattle.laws.proofs.Members.{In, in_here, in_there, in_cons, in_map, map_in, map_map, map_cong, keep_in, distinct_not}
use Rattle.laws.proofs.Faces.{along_face, face_distinct}
use Rattle.laws.proofs.Tables.{tab_all, all_tab}
use Rattle.theory.proofs.ImageLaws.{place_back}
use Rattle.cells.specs.Places.{Within, Apart, Closed, Marked, Numbered, WholeCells, Ended, ends_of, ends_once, marked, volume_of}
use Rattle.cells.proofs.Reached.{places, in_places, within_places}
use Rattle.cells.proofs.Paths.{apart_places, few_places}
use Rattle.cells.proofs.Sited.{Sited, darts_in}
use Rattle.cells.proofs.Serials.{serials_apart}
use Rattle.cells.proofs.FaceLaws.{marked_in, in_marked, distinct_few, stays, marked_distinct, order_distinct, has, only}
use Rattle.cells.proofs.FaceSerials.{marked_below, volume_marked}
use Rattle.cells.proofs.RingLaws.{mem_firsts, step_within, step_apart, one_vertex, one_ring}
use Rattle.cells.proofs.VertexSerials.{same_eqb, vertex_below, vertex_serial}
use Rattle.cells.proofs.PairLaws.{Once, once_from, once_to}

-- ANY ORDER of the darts
once_any : {key nx : ℕ → ℕ} {v l : List ℕ} → ((x : ℕ) → In x l → In x v) → Once key nx v → Once key nx l
once_any h o = record { ends_differ = λ x k. o.ends_differ x (h x k); pairs_differ = λ x y i j. o.pairs_differ x y (h x i) (h y j) }

pub pairs_any : (nx op : ℕ → ℕ) (v l : List ℕ) → distinct v ≡ true → distinct l ≡ true → ((x : ℕ) → In x v → In x l) → ((x : ℕ) → In x l → In x v)
    → pairs_once (vertex_pairs nx op l) ≡ pairs_once (vertex_pairs nx op v)
unfolding vertex_pairs
pairs_any nx op v l dv dl f g = same_truth _ _
    (λ e. once_to (vertex nx op) nx v dv (once_any f (once_from (vertex nx op) nx l e)))
    (λ e. once_to (vertex nx op) nx l dl (once_any g (once_from (vertex nx op) nx v e)))

-- DISTINCT LISTS under a map
distinct_map : (g : ℕ → ℕ) (l : List ℕ) → distinct l ≡ true → ((x y : ℕ) → In x l → In y l → x ≢ y → g x ≢ g y) → distinct (map g l) ≡ true
distinct_map g [] d h = refl
distinct_map g (z ∷ l) d h = and_intro (go (mem (g z) (map g l)) refl) (distinct_map g l (and_right (not (mem z l)) _ d) (λ x y i j. h x y (in_there x z l i) (in_there y z l j)))
  where
    go : (o : Bool) → mem (g z) (map g l) ≡ o → not (mem (g z) (map g l)) ≡ true
    go false e = rw e
    go true e = let r = map_in g l (g z) e in absurd (h z r.0 (in_here z l) (in_there r.0 z l r.1) (λ w. distinct_not z l d r.0 r.1 (sym w)) r.2)

map_distinct : (g : ℕ → ℕ) (l : List ℕ) → distinct (map g l) ≡ true → (x y : ℕ) → In x l → In y l → x ≢ y → g x ≢ g y
map_distinct g [] d x y i j ne e = true≢false (sym i)
map_distinct g (z ∷ l) d x y i j ne e = in_cons x z l i
    (λ a. in_cons y z l j (λ b. ne (a ∙ sym b)) (λ b. distinct_not (g z) (map g l) d (g y) (in_map g y l b) (sym e ∙ ap g a)))
    (λ a. in_cons y z l j (λ b. distinct_not (g z) (map g l) d (g x) (in_map g x l a) (e ∙ ap g b)) (λ b. map_distinct g l (and_right (not (mem (g z) (map g l))) _ d) x y a b ne e))

-- the index of what stands at an index of a list without repeats
index_at : (l : List ℕ) (k : ℕ) → distinct l ≡ true → k < length l → index_of (get_or l k 0) l ≡ k
unfolding index_of
index_at [] k d h = absurd (omega arith)
index_at (x ∷ l) zero d h = rw (eq-eqb x x refl)
index_at (x ∷ l) (suc k) d h =
    rw (ne_eqb (get_or l k 0) x (distinct_not x l d (get_or l k 0) (at_in l k (omega arith)))) (ap suc (index_at l k (and_right (not (mem x l)) _ d) (omega arith)))
  where
    at_in : (l : List ℕ) (k : ℕ) → k < length l → In (get_or l k 0) l
    at_in [] k h = absurd (omega arith)
    at_in (y ∷ l) zero h = in_here y l
    at_in (y ∷ l) (suc k) h = in_there (get_or l k 0) y l (at_in l k (omega arith))

keep_distinct : (q : ℕ → Bool) (l : List ℕ) → distinct l ≡ true → distinct (keep q l) ≡ true
keep_distinct q [] d = refl
keep_distinct q (x ∷ l) d = let rest = keep_distinct q l (and_right (not (mem x l)) _ d) in
    by_cases (q x) (λ e. rw e (and_intro (go (mem x (keep q l)) refl) rest)) (λ e. rw e rest)
  where
    go : (o : Bool) → mem x (keep q l) ≡ o → not (mem x (keep q l)) ≡ true
    go false e = rw e
    go true e = absurd (distinct_not x l d x (keep_in q l x e).0 refl)

firsts_distinct : (l : List ℕ) → distinct (firsts l) ≡ true
unfolding firsts
firsts_distinct [] = refl
firsts_distinct (x ∷ l) = and_intro (go (mem x (keep (λ y. not (eqb x y)) (firsts l))) refl) (keep_distinct (λ y. not (eqb x y)) (firsts l) (firsts_distinct l))
  where
    go : (o : Bool) → mem x (keep (λ y. not (eqb x y)) (firsts l)) ≡ o → not (mem x (keep (λ y. not (eqb x y)) (firsts l))) ≡ true
    go false e = rw e
    go true e = absurd (true≢false (sym (keep_in (λ y. not (eqb x y)) (firsts l) x e).1 ∙ ap not (eq-eqb x x refl)))

get_d_map : (g : ℕ → ℕ) (l : List ℕ) (k : ℕ) → k < length l → get_or (map g l) k 0 ≡ g (get_or l k 0)
get_d_map g [] k h = absurd (omega arith)
get_d_map g (x ∷ l) zero h = refl
get_d_map g (x ∷ l) (suc k) h = get_d_map g l k (omega arith)

-- BY RINGS AND NUMBERS
module _ (n : ℕ) (nx op : ℕ → ℕ) (few : n ≤ room) (wn : Within n nx) (an : Apart n nx) (wo : Within n op) (ao : Apart n op)
    {l numbers first : List ℕ} {count : ℕ} (w : WholeCells n nx op l) (m : Numbered nx op l numbers first count) where
  number_is : (x : ℕ) → In x l → get_or numbers x 0 ≡ index_of (vertex nx op x) (vertices nx op l)
  unfolding vertex_number
  number_is x h = m.number x h

  vertex_there : (x : ℕ) → In x l → In (vertex nx op x) (vertices nx op l)
  unfolding vertices
  vertex_there x h = mem_firsts (vertex nx op x) (map (vertex nx op) l) ∙ in_map (vertex nx op) x l h

  one_number : (x y : ℕ) → In x l → In y l → get_or numbers x 0 ≡ get_or numbers y 0 → vertex nx op x ≡ vertex nx op y
  one_number x y hx hy e = sym (place_back (vertex nx op x) (vertices nx op l) (vertex_there x hx)).0
      ∙ ap (λ (k : ℕ). get_or (vertices nx op l) k 0) (sym (number_is x hx) ∙ e ∙ number_is y hy) ∙ (place_back (vertex nx op y) (vertices nx op l) (vertex_there y hy)).0

  number_one : (x y : ℕ) → In x l → In y l → vertex nx op x ≡ vertex nx op y → get_or numbers x 0 ≡ get_or numbers y 0
  number_one x y hx hy e = number_is x hx ∙ ap (λ (v : ℕ). index_of v (vertices nx op l)) e ∙ sym (number_is y hy)

  pub number_below : (x : ℕ) → In x l → get_or numbers x 0 < count
  number_below x h = omega (arith, number_is x h, (place_back (vertex nx op x) (vertices nx op l) (vertex_there x h)).1, m.count_is)

  first_number : (a : ℕ) → a < count → get_or numbers (get_or first a 0) 0 ≡ a
  unfolding vertices
  first_number a h = number_is (get_or first a 0) (m.firsts_in a h) ∙ ap (λ (v : ℕ). index_of v (vertices nx op l)) at
      ∙ index_at (vertices nx op l) a (firsts_distinct (map (vertex nx op) l)) (omega (arith, m.count_is))
    where
      inside : a < length (take count first)
      inside = omega (arith, length-take count first, m.firsts_size)

      at : vertex nx op (get_or first a 0) ≡ get_or (vertices nx op l) a 0
      at = ap (vertex nx op) (sym (get_or-take count first a 0 h)) ∙ sym (get_d_map (vertex nx op) (take count first) a inside) ∙ ap (λ (v : List ℕ). get_or v a 0) m.firsts_are

  ring_inside : (x q : ℕ) → In x l → In q (ring nx op x) → In q l
  unfolding ring cycle
  ring_inside x q h k = along_face (λ d. nx (op d)) (places n) (within_places (step_within n nx op few wn an wo ao)) (apart_places (step_apart n nx op few wn an wo ao)) (few_places few)
      (λ y. In y l) (λ y j i. w.next_in (op y) (w.opposite_in y i)) x q (in_places n x (w.below x h)) h k

  ring_distinct : (x : ℕ) → In x l → distinct (ring nx op x) ≡ true
  unfolding ring cycle
  ring_distinct x h =
      face_distinct (λ d. nx (op d)) (places n) (within_places (step_within n nx op few wn an wo ao))
      (apart_places (step_apart n nx op few wn an wo ao)) (few_places few) x (in_places n x (w.below x h))

  -- what the code asks of the arrays
  pub ended : Ended n nx op numbers first count
  ended = record {
    firsts_size = m.firsts_size;
    count_few = omega (arith, m.count_le, w.few);
    first_below = λ a h. w.below (get_or first a 0) (m.firsts_in a h);
    end_there = λ a h q k. m.numbers_size (nx q) (w.next_in q (ring_inside (get_or first a 0) q (m.firsts_in a h) k));
    end_below = λ a h q k. number_below (nx q) (w.next_in q (ring_inside (get_or first a 0) q (m.firsts_in a h) k));
  }

  -- a dart lies in the ring of the first dart with its number
  in_ring : (x a : ℕ) → In x l → get_or numbers x 0 ≡ a → a < count → In x (ring nx op (get_or first a 0))
  in_ring x a h e k =
      one_ring n nx op few wn an wo ao (get_or first a 0) x (w.below _ (m.firsts_in a k)) (w.below x h)
      (one_number x (get_or first a 0) h (m.firsts_in a k) (e ∙ sym (first_number a k)))

  ring_number : (x a : ℕ) → a < count → In x (ring nx op (get_or first a 0)) → get_or numbers x 0 ≡ a
  ring_number x a k h = let i = ring_inside (get_or first a 0) x (m.firsts_in a k) h in
      number_one x (get_or first a 0) i (m.firsts_in a k) (one_vertex n nx op few wn an wo ao (get_or first a 0) x (w.below _ (m.firsts_in a k)) (w.below x i) h) ∙ first_number a k

  ends_to_once : ((a : ℕ) → a < count → distinct (a ∷ ends_of nx op numbers (get_or first a 0)) ≡ true) → Once (vertex nx op) nx l
  ends_to_once t = record {
    ends_differ = λ x h e.
        let a = number_below x h in
        distinct_not (get_or numbers x 0) (ends_of nx op numbers (get_or first (get_or numbers x 0) 0)) (t (get_or numbers x 0) a) (get_or numbers (nx x) 0)
        (in_map (λ q. get_or numbers (nx q) 0) x (ring nx op (get_or first (get_or numbers x 0) 0)) (in_ring x (get_or numbers x 0) h refl a)) (number_one (nx x) x (w.next_in x h) h (sym e));
    pairs_differ = λ x y i j ne e f.
        let a = number_below x i in
        map_distinct (λ q. get_or numbers (nx q) 0) (ring nx op (get_or first (get_or numbers x 0) 0))
        (and_right (not (mem (get_or numbers x 0) (ends_of nx op numbers (get_or first (get_or numbers x 0) 0)))) _
        (t (get_or numbers x 0) a)) x y
        (in_ring x (get_or numbers x 0) i refl a) (in_ring y (get_or numbers x 0) j (number_one y x j i (sym e)) a) ne (number_one (nx x) (nx y) (w.next_in x i) (w.next_in y j) f);
  }

  once_to_ends : Once (vertex nx op) nx l → (a : ℕ) → a < count → distinct (a ∷ ends_of nx op numbers (get_or first a 0)) ≡ true
  once_to_ends o a h = and_intro (go (mem a (ends_of nx op numbers (get_or first a 0))) refl)
      (distinct_map (λ q. get_or numbers (nx q) 0) (ring nx op (get_or first a 0)) (ring_distinct (get_or first a 0) (m.firsts_in a h)) apart)
    where
      inside : (q : ℕ) → In q (ring nx op (get_or first a 0)) → In q l
      inside q k = ring_inside (get_or first a 0) q (m.firsts_in a h) k

      go : (b : Bool) → mem a (ends_of nx op numbers (get_or first a 0)) ≡ b → not (mem a (ends_of nx op numbers (get_or first a 0))) ≡ true
      go false e = rw e
      go true e =
          let r = map_in (λ q. get_or numbers (nx q) 0) (ring nx op (get_or first a 0)) a e in
          absurd (o.ends_differ r.0 (inside r.0 r.1) (one_number r.0 (nx r.0) (inside r.0 r.1) (w.next_in r.0 (inside r.0 r.1)) (ring_number r.0 a h r.1 ∙ r.2)))

      apart : (x y : ℕ) → In x (ring nx op (get_or first a 0)) → In y (ring nx op (get_or first a 0)) → x ≢ y → get_or numbers (nx x) 0 ≢ get_or numbers (nx y) 0
      apart x y i j ne e = o.pairs_differ x y (inside x i) (inside y j) ne (one_number x y (inside x i) (inside y j) (ring_number x a h i ∙ sym (ring_number y a h j)))
          (one_number (nx x) (nx y) (w.next_in x (inside x i)) (w.next_in y (inside y j)) e)

  pub pairs_numbered : ends_once nx op numbers first count ≡ pairs_once (vertex_pairs nx op l)
  unfolding ends_once vertex_pairs
  pairs_numbered = same_truth _ _
      (λ e. once_to (vertex nx op) nx l w.once (ends_to_once (all_tab (λ a. distinct (a ∷ ends_of nx op numbers (get_or first a 0))) (λ a. a) count e)))
      (λ e. tab_all (λ a. distinct (a ∷ ends_of nx op numbers (get_or first a 0))) (λ a. a) count (once_to_ends (once_from (vertex nx op) nx l e)))

-- MESSAGE ORDER is whole
module _ (n : ℕ) (nx op : ℕ → ℕ) (marks : List ℕ) (few : n ≤ room) (wn : Within n nx) (an : Apart n nx) (wo : Within n op) (cn : Closed n nx marks) (co : Closed n op marks) where
  stays_op : (x : ℕ) → In x (marked n marks) → In (op x) (marked n marks)
  stays_op x h = let r = marked_in n marks x h in in_marked n marks (op x) (wo x r.0) (co x r.0 r.1)

  pub order_whole : WholeCells n nx op (concat (faces nx (marked n marks)))
  order_whole =
      let in-marks = only n nx marks few wn an cn in
      let in_order = has n nx marks few wn an cn in
      record {
        few = omega (arith, distinct_few (concat (faces nx (marked n marks))) n (order_distinct n nx marks few wn an cn) (λ x h. (marked_in n marks x (in-marks x h)).0), few);
        once = order_distinct n nx marks few wn an cn;
        below = λ x h. (marked_in n marks x (in-marks x h)).0;
        next_in = λ x h. in_order (nx x) (stays n nx marks few wn an cn x (in-marks x h));
        opposite_in = λ x h. in_order (op x) (stays_op x (in-marks x h));
      }

  -- pairs in message order are pairs in ascending place
  pub pairs_order : pairs_once (vertex_pairs nx op (concat (faces nx (marked n marks)))) ≡ pairs_once (vertex_pairs nx op (marked n marks))
  pairs_order =
      pairs_any nx op (marked n marks) (concat (faces nx (marked n marks))) (marked_distinct n nx marks few wn an cn)
      (order_distinct n nx marks few wn an cn) (has n nx marks few wn an cn) (only n nx marks few wn an cn)

-- BY SERIAL
pairs_map : (h f g : ℕ → ℕ) (v : List ℕ) → ((x y : ℕ) → In x v → In y v → eqb (h (f x)) (h (f y)) ≡ eqb (f x) (f y)) → ((x y : ℕ) → In x v → In y v → eqb (h (g x)) (h (g y)) ≡ eqb (g x) (g y))
    → ((x : ℕ) → In x v → eqb (h (f x)) (h (g x)) ≡ eqb (f x) (g x)) → pairs_once (map (λ x. (h (f x), h (g x))) v) ≡ pairs_once (map (λ x. (f x, g x)) v)
unfolding pairs_once
pairs_map h f g [] a b c = refl
pairs_map h f g (x ∷ v) a b c =
    rw (
      c x (in_here x v),
      same v (λ y k. in_there y x v k),
      pairs_map h f g v (λ y z i j. a y z (in_there y x v i) (in_there z x v j))
          (λ y z i j. b y z (in_there y x v i) (in_there z x v j)) (λ y i. c y (in_there y x v i)),
    )
  where
    same : (l : List ℕ) → ((y : ℕ) → In y l → In y (x ∷ v)) → any (same_pair (h (f x), h (g x))) (map (λ y. (h (f y), h (g y))) l) ≡ any (same_pair (f x, g x)) (map (λ y. (f y, g y)) l)
    same [] k = refl
    same (y ∷ l) k = rw (a x y (in_here x v) (k y (in_here y l)), b x y (in_here x v) (k y (in_here y l)), same l (λ z j. k z (in_there z y l j)))

module _ {m : List ℕ} (site : Sited m) (p : ℕ) (h : p < count_in m) {marks : List ℕ} (mk : Marked (volume_of m p) marks) where
  -- question 13
  pub question_13 : pairs_once (vertex_pairs (next_in (darts_in m)) (opposite_in (darts_in m)) (volume_in (darts_in m) (column m 0 p)))
      ≡ pairs_once (vertex_pairs (column m 1) (column m 2) (marked (count_in m) marks))
  unfolding vertex_pairs
  question_13 =
      let v = marked (count_in m) marks in
      let key = vertex (column m 1) (column m 2) in
      ap (λ (l : List ℕ). pairs_once (vertex_pairs (next_in (darts_in m)) (opposite_in (darts_in m)) l)) (sym (volume_marked site p h mk))
      ∙ ap pairs_once (map_map (column m 0) (λ x. (vertex (next_in (darts_in m)) (opposite_in (darts_in m)) x, vertex (next_in (darts_in m)) (opposite_in (darts_in m)) (next_in (darts_in m) x))) v
      ∙ map_cong
      (λ x. (
        vertex (next_in (darts_in m)) (opposite_in (darts_in m)) (column m 0 x),
        vertex (next_in (darts_in m)) (opposite_in (darts_in m)) (next_in (darts_in m) (column m 0 x)),
      )) (λ x. (column m 0 (key x), column m 0 (key (column m 1 x)))) v (λ x k. both x (marked_below site p h mk x k)))
      ∙ pairs_map (column m 0) key (λ x. key (column m 1 x)) v
      (λ x y i j. test (key x) (key y) (origin x i) (origin y j))
      (λ x y i j. test (key (column m 1 x)) (key (column m 1 y)) (end x i) (end y j))
      (λ x i. test (key x) (key (column m 1 x)) (origin x i) (end x i))
    where
      both : (x : ℕ) → x < count_in m
          → ◌≡◌ {A = ℕ × ℕ} (
            vertex (next_in (darts_in m)) (opposite_in (darts_in m)) (column m 0 x),
            vertex (next_in (darts_in m)) (opposite_in (darts_in m)) (next_in (darts_in m) (column m 0 x)),
          )
          (column m 0 (vertex (column m 1) (column m 2) x), column m 0 (vertex (column m 1) (column m 2) (column m 1 x)))
      both x k = rw (← site.next_is x k, vertex_serial site x k, vertex_serial site (column m 1 x) (site.linked.next_within x k))

      test : (x y : ℕ) → x < count_in m → y < count_in m → eqb (column m 0 x) (column m 0 y) ≡ eqb x y
      test x y i j = same_eqb (column m 0) x y (serials_apart site x y i j)

      origin : (x : ℕ) → In x (marked (count_in m) marks) → vertex (column m 1) (column m 2) x < count_in m
      origin x i = vertex_below site x (marked_below site p h mk x i)

      end : (x : ℕ) → In x (marked (count_in m) marks) → vertex (column m 1) (column m 2) (column m 1 x) < count_in m
      end x i = vertex_below site (column m 1 x) (site.linked.next_within x (marked_below site p h mk x i))
