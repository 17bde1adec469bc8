-- The faces left behind are labelled: a walk round one face, then face after face. Assumes nothing.
use mathlib.Core.Path.{◌≡◌, refl, sym, ◌∙◌, ap}
use mathlib.Core.Bool.{true, false}
use mathlib.Core.List.{List, [], ◌∷◌}
use Prim.Native.Nat.{ℕ, suc, ◌+◌, ◌*◌, ◌-◌, ◌%◌, ◌≤◌, ◌<◌}
use native.Mathlib.Omega.{arith}
use native.Mathlib.Numerals.{add-one}
use lib.Dec.{eqb, leb}
use lib.ListN.{length, get_or, set, drop, length-set, length-map, drop_of_length-le}
use lib.Seq.{get_or-set_other, drop-cons}
use borrow.Author.Tests.{eqb-true, eqb-false, ne_eqb}
use Rattle.model.specs.Lists.{all, keep}
use Rattle.model.specs.Values.{Label, critical, code, room}
use Rattle.model.specs.Cells.{cycle, faces, start_of}
use Rattle.model.specs.Image.{kind_word, link_word, column}
use Rattle.model.specs.Links.{Link, label_links, label_faces}
use Rattle.laws.proofs.Maps.{map_at}
use Rattle.laws.proofs.Members.{In, in_here, in_there, keep_in, getD_in}
use Rattle.laws.proofs.Orbits.{path}
use Rattle.laws.proofs.Faces.{along_face}
use Rattle.memory.proofs.Records.{set_there}
use Rattle.cells.specs.Places.{InOrder, marked, sewn_out}
use Rattle.cells.proofs.Reached.{places, in_places, places_below, within_places}
use Rattle.cells.proofs.Paths.{Round, round, Going, going_start, going_next, going_end, apart_places, few_places}
use Rattle.cells.proofs.FaceLaws.{marked_in}
use Rattle.cells.proofs.StartLaws.{cycle_start, in_order_few, start_place}
use Rattle.departure.specs.Asked.{faces_at}
use Rattle.release.specs.LetGo.{with_link, with_links, let_go, left_behind}
use Rattle.release.proofs.PutLinks.{links_append}
use Rattle.release.specs.Asks.{Sewing, Same}

-- ONE LABEL: two stores are a link
pub link_stored : (b : List ℕ) (q j : ℕ) (l : Label) {x y : List ℕ} {w : ℕ} → w ≡ code l → x ≡ set b (8 + q * 8 + 3) (2 + 4 * j)
    → y ≡ set x (8 + q * 8 + 4) w → y ≡ with_link b (record { dart = q; third = critical j l })
link_stored b q j l e f g = rw (g, f, e)

-- MEMORY THAT IS THE SAME WITHIN THE VOLUME
pub same_self : (m marks : List ℕ) → Same m marks m
same_self m marks = record { size = refl; header = λ i h. refl; inside = λ p f h k. refl; next = λ p. refl }

pub same_trans : {m marks x y : List ℕ} → Same m marks x → Same x marks y → Same m marks y
same_trans a b = record {
  size = b.size ∙ a.size;
  header = λ i h. b.header i h ∙ a.header i h;
  inside = λ p f h k. b.inside p f h k ∙ a.inside p f h k;
  next = λ p. b.next p ∙ a.next p;
}

-- a new link of a dart that is not marked
pub same_link : {m marks x : List ℕ} → Same m marks x → (k : Link) → (get_or marks k.dart 0 ≡ 1 → ⊥) → Same m marks (with_link x k)
same_link {m} {marks} {x} a k out = record {
  size = simp length-set a.size;
  header = λ i h. get_or-set_other (set x (8 + k.dart * 8 + 3) (kind_word k.third)) (8 + k.dart * 8 + 4) i (link_word [] k.third) 0 (λ e. omega arith)
      ∙ get_or-set_other x (8 + k.dart * 8 + 3) i (kind_word k.third) 0 (λ e. omega arith) ∙ a.header i h;
  inside = λ p f h i. there p f h (λ q e. out (sym (ap (λ (y : ℕ). get_or marks y 0) q) ∙ i)) (λ q e. out (sym (ap (λ (y : ℕ). get_or marks y 0) q) ∙ i)) ∙ a.inside p f h i;
  next = λ p. there p 1 (omega arith) (λ q e. omega arith) (λ q e. omega arith) ∙ a.next p;
}
  where
    there : (p f : ℕ) → f < 8 → (p ≡ k.dart → f ≡ 3 → ⊥) → (p ≡ k.dart → f ≡ 4 → ⊥) → column (with_link x k) f p ≡ column x f p
    there p f h b c = set_there (set x (8 + k.dart * 8 + 3) (kind_word k.third)) k.dart 4 p f (link_word [] k.third) (omega arith) h c
        ∙ set_there x k.dart 3 p f (kind_word k.third) (omega arith) h b

-- what labelling asks still holds
pub sewing_stays : {m marks x : List ℕ} {n : ℕ} → Sewing m marks n → Same m marks x → Sewing x marks n
sewing_stays {m} {marks} {x} {n} w a = record {
  size = omega (arith, a.size, w.size);
  few = w.few;
  number_small = omega (arith, w.number_small, a.header 0 (omega arith));
  next_within = λ p h. omega (arith, a.next p, w.next_within p h);
  next_apart = λ p q h k e. w.next_apart p q h k (sym (a.next p) ∙ e ∙ a.next q);
  closed = λ p h i. ap (λ (y : ℕ). get_or marks y 0) (a.next p) ∙ w.closed p h i;
  along = λ p h i. ap (column x 3) (a.next p) ∙ a.inside (column m 1 p) 3 (omega arith) (w.closed p h i) ∙ w.along p h i ∙ sym (a.inside p 3 (omega arith) i);
  kinds = λ p h i e. a.inside p 3 (omega arith) i ∙ w.kinds p h i (ap (λ (k : ℕ). k % 4) (sym (a.inside p 3 (omega arith) i)) ∙ e);
  away =
      λ p h i e. let r = w.away p h i (sym (a.inside p 3 (omega arith) i) ∙ e) in
      (omega (arith, r.0, a.inside p 4 (omega arith) i), λ o. r.1 (ap (λ (y : ℕ). get_or marks y 0) (sym (a.inside p 4 (omega arith) i)) ∙ o));
}

-- ROUND ONE FACE: the darts sewn to those before p have labels, i of c
pub record Walking (m marks : List ℕ) (n j number start c : ℕ) (x : List ℕ) (i p : ℕ) : Type 0 where
  pub going : Going n (column m 1) start c i p
  pub here : get_or marks p 0 ≡ 1
  pub kind : column m 3 p ≡ 1
  pub same : Same m marks x
  pub rest : with_links x (label_links (column m 4) j (get_or m 0 0) number i (path (column m 1) (c - i) p)) ≡ with_links m (label_links (column m 4) j (get_or m 0 0) number 0 (cycle (column m 1) start))

module _ {m marks : List ℕ} {n : ℕ} (w : Sewing m marks n) (j number start : ℕ) (h : start < n) where
  abbrev pub length_of : ℕ
  length_of = length (cycle (column m 1) start)

  pub turn : Round (column m 1) start length_of
  turn = round w.few w.next_within w.next_apart start h

  pub walking_start : get_or marks start 0 ≡ 1 → column m 3 start ≡ 1 → Walking m marks n j number start length_of m 0 start
  walking_start a b = record {
    going = going_start turn h;
    here = a;
    kind = b;
    same = same_self m marks;
    rest = let z : length_of - 0 ≡ length_of = omega arith in ap (λ (k : ℕ). with_links m (label_links (column m 4) j (get_or m 0 0) number 0 (path (column m 1) k start))) z
        ∙ ap (λ (l : List ℕ). with_links m (label_links (column m 4) j (get_or m 0 0) number 0 l)) (sym turn.cycle_is);
  }

  module _ {x : List ℕ} {i p : ℕ} (g : Walking m marks n j number start length_of x i p) where
    -- the place across
    pub across : (column x 4 p < n) × (get_or marks (column x 4 p) 0 ≡ 1 → ⊥)
    across = (sewing_stays w g.same).away p g.going.below g.here (g.same.inside p 3 (omega arith) g.here ∙ g.kind)

    abbrev pub new_link : Link
    new_link = record { dart = column x 4 p; third = critical j (record { maker = get_or m 0 0; number = number; position = i }) }

    same_on : Same m marks (with_link x new_link)
    same_on = same_link g.same new_link across.1

    rest_on : with_links (with_link x new_link)
        (label_links (column m 4) j (get_or m 0 0) number (suc i) (path (column m 1) (length_of - suc i) (column m 1 p)))
        ≡ with_links m (label_links (column m 4) j (get_or m 0 0) number 0 (cycle (column m 1) start))
    unfolding label_links with_links
    rest_on =
        let z : suc (length_of - suc i) ≡ length_of - i = omega (arith, g.going.less) in
        ap (λ (l : Link). with_links (with_link x l) (label_links (column m 4) j (get_or m 0 0) number (suc i) (path (column m 1) (length_of - suc i) (column m 1 p)))) link_is
        ∙ ap (λ (k : ℕ). with_links x (label_links (column m 4) j (get_or m 0 0) number i (path (column m 1) k p))) z ∙ g.rest
      where
        link_is : new_link ≡ record { dart = column m 4 p; third = critical j (record { maker = get_or m 0 0; number = number; position = i }) }
        link_is = λ k. record { dart = g.same.inside p 4 (omega arith) g.here k; third = critical j (record { maker = get_or m 0 0; number = number; position = i }) }

    -- as the code puts it
    abbrev link_at : ℕ → Link
    link_at a = record { dart = a; third = critical j (record { maker = get_or m 0 0; number = number; position = i }) }

    put_is : {a : ℕ} {y : List ℕ} → a ≡ column x 4 p → y ≡ with_link x (link_at a) → y ≡ with_link x new_link
    put_is e f = f ∙ ap (λ (k : ℕ). with_link x (link_at k)) e

    pub walking_on : {a : ℕ} {y : List ℕ} {q : ℕ} → a ≡ column x 4 p → y ≡ with_link x (link_at a) → q ≡ column y 1 p → (q ≡ start → ⊥) → Walking m marks n j number start length_of y (i + 1) q
    walking_on {a} {y} {q} e₀ e₁ f ne =
        let e = put_is e₀ e₁ in
        let next : q ≡ column m 1 p = f ∙ ap (λ (l : List ℕ). column l 1 p) e ∙ same_on.next p in
        record {
          going = going_next w.next_within turn g.going next ne;
          here = ap (λ (k : ℕ). get_or marks k 0) next ∙ w.closed p g.going.below g.here;
          kind = ap (column m 3) next ∙ w.along p g.going.below g.here ∙ g.kind;
          same = rw e same_on;
          rest = rw (e, next, add-one) rest_on;
        }

    pub same_end : {a : ℕ} {y : List ℕ} → a ≡ column x 4 p → y ≡ with_link x (link_at a) → Same m marks y
    same_end e₀ e₁ = rw (put_is e₀ e₁) same_on

    pub walking_end : {a : ℕ} {y : List ℕ} {q : ℕ} → a ≡ column x 4 p → y ≡ with_link x (link_at a) → q ≡ column y 1 p → q ≡ start
        → y ≡ with_links m (label_links (column m 4) j (get_or m 0 0) number 0 (cycle (column m 1) start))
    unfolding label_links with_links
    walking_end {a} {y} {q} e₀ e₁ f s =
        let e = put_is e₀ e₁ in
        let next : q ≡ column m 1 p = f ∙ ap (λ (l : List ℕ). column l 1 p) e ∙ same_on.next p in
        let z : length_of - suc i ≡ 0 = omega (arith, going_end w.next_within turn g.going next s) in
        e ∙ sym (ap (λ (k : ℕ). with_links (with_link x new_link) (label_links (column m 4) j (get_or m 0 0) number (suc i) (path (column m 1) k (column m 1 p)))) z) ∙ rest_on

-- FACES IN A ROW
pub record FaceAt (m marks : List ℕ) (n k : ℕ) : Type 0 where
  pub start : ℕ
  pub below : start < n
  pub inside : get_or marks start 0 ≡ 1
  pub face_is : get_or (faces (column m 1) (marked n marks)) k [] ≡ cycle (column m 1) start
  pub start_is : start_of (get_or (faces (column m 1) (marked n marks)) k []) ≡ start

links_cong : (of by : ℕ → ℕ) (j i c a : ℕ) (f : List ℕ) → ((q : ℕ) → In q f → of q ≡ by q) → label_links of j i c a f ≡ label_links by j i c a f
unfolding label_links
links_cong of by j i c a [] h = refl
links_cong of by j i c a (q ∷ f) h = rw (h q (in_here q f), links_cong of by j i c (suc a) f (λ y k. h y (in_there y q f k)))

module _ {m marks : List ℕ} {n : ℕ} (w : Sewing m marks n) where
  pub face_at : (k : ℕ) → k < length (faces (column m 1) (marked n marks)) → FaceAt m marks n k
  unfolding faces
  face_at k h =
      let l = keep (λ y. all (leb y) (cycle (column m 1) y)) (marked n marks) in
      let small : k < length l = omega (arith, length-map l (cycle (column m 1))) in
      let b = marked_in n marks (get_or l k 0) (keep_in (λ y. all (leb y) (cycle (column m 1) y)) (marked n marks) (get_or l k 0) (getD_in l k small)).0 in
      let e = map_at (cycle (column m 1)) 0 [] l k small in
      record { start = get_or l k 0; below = b.0; inside = b.1; face_is = e; start_is = ap start_of e ∙ cycle_start (round w.few w.next_within w.next_apart (get_or l k 0) b.0) }

  -- a marked dart that is sewn is sewn away
  pub test_yes : (p : ℕ) → p < n → get_or marks p 0 ≡ 1 → column m 3 p ≡ 1 → sewn_out m marks p ≡ true
  test_yes p h i e = rw (e, ne_eqb (get_or marks (column m 4 p) 0) 1 (w.away p h i e).1)

  pub test_no : (p : ℕ) → p < n → get_or marks p 0 ≡ 1 → (column m 3 p ≡ 1 → ⊥) → sewn_out m marks p ≡ false
  test_no p h i e = rw (ne_eqb (column m 3 p % 4) 1 (λ z. e (w.kinds p h i z)))

  -- labels put along a face of memory that is the same within the volume
  pub along_same : {x y : List ℕ} → Same m marks x → (j number p : ℕ) → p < n → get_or marks p 0 ≡ 1 → y ≡ with_links x (label_links (column x 4) j (get_or x 0 0) number 0 (cycle (column x 1) p))
      → y ≡ with_links x (label_links (column m 4) j (get_or m 0 0) number 0 (cycle (column m 1) p))
  unfolding cycle
  along_same {x} {y} a j number p h i e =
      let next : column x 1 ≡ column m 1 = λ k q. a.next q k in
      e ∙ ap (λ (f : ℕ → ℕ). with_links x (label_links (column x 4) j (get_or x 0 0) number 0 (cycle f p))) next
      ∙ ap (λ (k : ℕ). with_links x (label_links (column x 4) j k number 0 (cycle (column m 1) p))) (a.header 0 (omega arith))
      ∙ ap (with_links x) (links_cong (column x 4) (column m 4) j (get_or m 0 0) number 0 (cycle (column m 1) p) (λ q k. a.inside q 4 (omega arith)
      (along_face (column m 1) (places n) (within_places w.next_within) (apart_places w.next_apart) (few_places w.few) (λ z. get_or marks z 0 ≡ 1) (λ z t. w.closed z (places_below n z t)) p q (in_places n p h) i k)))

-- FACE AFTER FACE: the faces before f have labels, and the next gets `number`
abbrev pub later : List ℕ → List ℕ → ℕ → List (List ℕ)
later m marks f = keep (λ g. sewn_out m marks (start_of g)) (drop f (faces_at m marks))

pub record Facing (m marks : List ℕ) (j : ℕ) (x : List ℕ) (number f : ℕ) : Type 0 where
  pub same : Same m marks x
  pub number_is : number + length (later m marks f) ≡ get_or m 1 0 + length (let_go m marks)
  pub rest : with_links x (label_faces (column m 4) j (get_or m 0 0) number (later m marks f)) ≡ with_links m (left_behind m marks j)

pub facing_start : (m marks : List ℕ) (j : ℕ) → Facing m marks j m (get_or m 1 0) 0
unfolding left_behind
facing_start m marks j = record { same = same_self m marks; number_is = refl; rest = refl }

module _ {m marks : List ℕ} {j : ℕ} {x : List ℕ} {number f : ℕ} (a : Facing m marks j x number f) (h : f < length (faces_at m marks)) where
  later_is : later m marks f ≡ keep (λ g. sewn_out m marks (start_of g)) (get_or (faces_at m marks) f [] ∷ drop (f + 1) (faces_at m marks))
  later_is = ap (keep (λ g. sewn_out m marks (start_of g))) (drop-cons (faces_at m marks) f [] h ∙ ap (λ (k : ℕ). get_or (faces_at m marks) f [] ∷ drop k (faces_at m marks)) (sym (add-one f)))

  pub facing_skip : sewn_out m marks (start_of (get_or (faces_at m marks) f [])) ≡ false → Facing m marks j x number (f + 1)
  facing_skip e =
      let same-later : later m marks f ≡ later m marks (f + 1) = later_is ∙ rw e in
      record {
        same =
            a.same;
        number_is = ap (λ (l : List (List ℕ)). number + length l) (sym same-later)
            ∙ a.number_is;
        rest = ap (λ (l : List (List ℕ)). with_links x (label_faces (column m 4) j (get_or m 0 0) number l))
            (sym same-later) ∙ a.rest;
      }

  module _ (e : sewn_out m marks (start_of (get_or (faces_at m marks) f [])) ≡ true) where
    one_later : later m marks f ≡ get_or (faces_at m marks) f [] ∷ later m marks (f + 1)
    one_later = later_is ∙ rw e

    pub number_small : number < get_or m 1 0 + length (let_go m marks)
    number_small = omega (arith, a.number_is, ap length one_later)

    pub facing_one : {y : List ℕ} → Same m marks y → y ≡ with_links x (label_links (column m 4) j (get_or m 0 0) number 0 (get_or (faces_at m marks) f [])) → Facing m marks j y (number + 1) (f + 1)
    unfolding label_faces
    facing_one {y} s q = record {
      same = s;
      number_is = omega (arith, a.number_is, ap length one_later);
      rest = rw (add-one number) (ap (λ (l : List ℕ). with_links l (label_faces (column m 4) j (get_or m 0 0) (suc number) (later m marks (f + 1)))) q
          ∙ sym (links_append x (label_links (column m 4) j (get_or m 0 0) number 0 (get_or (faces_at m marks) f [])) (label_faces (column m 4) j (get_or m 0 0) (suc number) (later m marks (f + 1))))
          ∙ ap (λ (l : List (List ℕ)). with_links x (label_faces (column m 4) j (get_or m 0 0) number l)) (sym one_later) ∙ a.rest);
    }

pub facing_end : {m marks : List ℕ} {j : ℕ} {x : List ℕ} {number f : ℕ} → Facing m marks j x number f → length (faces_at m marks) ≤ f → x ≡ with_links m (left_behind m marks j)
unfolding label_faces with_links
facing_end {m} {marks} {j} {x} {number} {f} a h =
    ap (λ (l : List (List ℕ)). with_links x (label_faces (column m 4) j (get_or m 0 0) number (keep (λ g. sewn_out m marks (start_of g)) l))) (sym (drop_of_length-le (faces_at m marks) h)) ∙ a.rest

-- WHAT IS IN ORDER is few
pub order_few : {m marks out starts : List ℕ} {darts count : ℕ} → Sewing m marks (get_or m 2 0) → InOrder (faces_at m marks) out starts darts count → (darts ≤ room) × (count ≤ room)
order_few {m} {marks} w o =
    let r = in_order_few (get_or m 2 0) (column m 1) marks w.few w.next_within w.next_apart o in
    (omega (arith, r.0, w.few), omega (arith, r.1, w.few))

-- WHERE FACE f STARTS in the arrays
pub record Starting (m marks order starts : List ℕ) (n darts f : ℕ) : Type 0 where
  pub index_lt : get_or starts f 0 < darts
  pub below : get_or order (get_or starts f 0) 0 < n
  pub inside : get_or marks (get_or order (get_or starts f 0) 0) 0 ≡ 1
  pub face_is : get_or (faces (column m 1) (marked n marks)) f [] ≡ cycle (column m 1) (get_or order (get_or starts f 0) 0)
  pub start_is : start_of (get_or (faces (column m 1) (marked n marks)) f []) ≡ get_or order (get_or starts f 0) 0

pub starting : {m marks order starts : List ℕ} {n darts count : ℕ} → Sewing m marks n
    → InOrder (faces (column m 1) (marked n marks)) order starts darts count → (f : ℕ) → f < count
    → Starting m marks order starts n darts f
starting {m} {marks} {order} {starts} {n} w o f h =
    let r = start_place n (column m 1) marks w.few w.next_within w.next_apart o f h in
    let a = face_at w f (omega (arith, o.count_is)) in
    let same : get_or order (get_or starts f 0) 0 ≡ a.start = r.1 ∙ a.start_is in
    record {
      index_lt = r.0;
      below = r.2;
      inside = ap (λ (k : ℕ). get_or marks k 0) same ∙ a.inside;
      face_is = a.face_is ∙ ap (cycle (column m 1)) (sym same);
      start_is = sym r.1;
    }

module _ {m marks order starts : List ℕ} {darts count j : ℕ} {x : List ℕ} {number f : ℕ} (w : Sewing m marks (get_or m 2 0))
    (o : InOrder (faces_at m marks) order starts darts count) (h : f < count) (a : Facing m marks j x number f) where
  abbrev at : ℕ
  at = get_or order (get_or starts f 0) 0

  abbrev here : Starting m marks order starts (get_or m 2 0) darts f
  here = starting w o f h

  less : f < length (faces_at m marks)
  less = omega (arith, o.count_is)

  kind_here : {k : ℕ} → k ≡ column x 3 at → k ≡ column m 3 at
  kind_here e = e ∙ a.same.inside at 3 (omega arith) here.inside

  pub face_skip : {k : ℕ} → k ≡ column x 3 at → eqb (k % 4) 1 ≡ false → Facing m marks j x number (f + 1)
  face_skip {k} e none = facing_skip a less (ap (sewn_out m marks) here.start_is ∙ test_no w at here.below here.inside other)
    where
      other : column m 3 at ≡ 1 → ⊥
      other z = let one : k % 4 ≡ 1 = omega (arith, kind_here e, z) in eqb-false (k % 4) 1 none one

  module _ {k : ℕ} (e : k ≡ column x 3 at) (some : eqb (k % 4) 1 ≡ true) where
    pub one : k ≡ 1
    one = kind_here e ∙ w.kinds at here.below here.inside (ap (λ (z : ℕ). z % 4) (sym (kind_here e)) ∙ eqb-true (k % 4) 1 some)

    sewn_here : sewn_out m marks (start_of (get_or (faces_at m marks) f [])) ≡ true
    sewn_here = ap (sewn_out m marks) here.start_is ∙ test_yes w at here.below here.inside (sym (kind_here e) ∙ one)

    pub number_fits : number < get_or m 1 0 + length (let_go m marks)
    number_fits = number_small a less sewn_here

    pub face_one : {y : List ℕ} → Same x marks y → y ≡ with_links x (label_links (column x 4) j (get_or x 0 0) number 0 (cycle (column x 1) at)) → Facing m marks j y (number + 1) (f + 1)
    face_one {y} s q = facing_one a less sewn_here (same_trans a.same s)
        (along_same w a.same j number at here.below here.inside q ∙ ap (λ (l : List ℕ). with_links x (label_links (column m 4) j (get_or m 0 0) number 0 l)) (sym here.face_is))
