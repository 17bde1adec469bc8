-- The darts of any transfer that passes questions 18 and 19: their links are right among themselves. Assumes nothing.
use mathlib.Core.Path.{◌≡◌, refl, sym, ◌∙◌, ap, subst}
use mathlib.Core.Logic.{◌⊎◌, inl, inr, ⊎_elim, ◌≢◌}
use mathlib.Core.Bool.{Bool, true, true≢false, not, ◌&&◌}
use mathlib.Core.List.{List, [], ◌∷◌, ◌++◌, map}
use Prim.Native.Nat.{ℕ, zero, suc, ◌<◌, ◌≤◌}
use lib.Dec.{eqb}
use lib.ListN.{length, get_or}
use borrow.Author.Tests.{eqb-true, eqb-false, eq-eqb, not-true}
use Rattle.model.specs.Lists.{all, any, keep, zip, distinct}
use Rattle.model.specs.Values.{Point, free, Dart, no_point, finite_bits, finite, serial_bound}
use Rattle.model.specs.Cells.{dart_at, next_in, opposite_in, third_at, serials}
use Rattle.model.specs.Messages.{FaceDart, Transfer}
use Rattle.model.specs.Links.{same_pair, pairs_once}
use Rattle.model.specs.Arrival.{Side, sides_of, sides, reverses, first_serial, opposite_of, new_dart, new_darts, face_serials, pairs_right}
use Rattle.laws.proofs.Members.{In, in_eq, map_map}
use Rattle.laws.proofs.Orbits.{iter, path}
use Rattle.laws.proofs.Tests.{by_cases, and_intro, and_left, and_right}
use Rattle.soundness.proofs.ByDarts.{dart_there, Frame, point_of}
use Rattle.soundness.proofs.Rows.{Elem, all_elem, elem_any, elem_map, elem_concat, concat_elem, elem_key, key_row, one_row}

-- WHERE EVERY PAIR OCCURS ONCE
module _ {A : Type 0} (f : A → ℕ × ℕ) where
  pub pair_row : (l : List A) → pairs_once (map f l) ≡ true → (a c : A) → Elem a l → Elem c l → (f a).0 ≡ (f c).0 → (f a).1 ≡ (f c).1 → a ≡ c
  unfolding pairs_once
  pair_row [] p a c h k e g = absurd h
  pair_row (x ∷ l) p a c h k e g = go h k (pair_row l (and_right (not (eqb (f x).0 (f x).1) && not (any (same_pair (f x)) (map f l))) _ p) a c)
    where
      none_again : any (same_pair (f x)) (map f l) ≡ true → ⊥
      none_again q =
          true≢false
          (sym q
          ∙ not-true (any (same_pair (f x)) (map f l))
          (and_right (not (eqb (f x).0 (f x).1)) _
          (and_left (not (eqb (f x).0 (f x).1) && not (any (same_pair (f x)) (map f l))) _ p)))

      again : (y z : A) → y ≡ x → Elem z l → (f y).0 ≡ (f z).0 → (f y).1 ≡ (f z).1 → ⊥
      again y z q j u v = none_again (elem_any (same_pair (f x)) (map f l) (f z) (elem_map f z l j)
          (and_intro (eq-eqb _ _ (ap (λ (w : A). (f w).0) (sym q) ∙ u)) (eq-eqb _ _ (ap (λ (w : A). (f w).1) (sym q) ∙ v))))

      go : (a ≡ x) ⊎ Elem a l → (c ≡ x) ⊎ Elem c l → (Elem a l → Elem c l → (f a).0 ≡ (f c).0 → (f a).1 ≡ (f c).1 → a ≡ c) → a ≡ c
      go (inl q) (inl r) ih = q ∙ sym r
      go (inl q) (inr r) ih = absurd (again a c q r e g)
      go (inr q) (inl r) ih = absurd (again c a r q (sym e) (sym g))
      go (inr q) (inr r) ih = ih q r e g

  pub row_ends : (l : List A) → pairs_once (map f l) ≡ true → (a : A) → Elem a l → (f a).0 ≢ (f a).1
  unfolding pairs_once
  row_ends [] p a h = absurd h
  row_ends (x ∷ l) p a (inl e) = λ q. eqb-false (f x).0 (f x).1 (not-true _ (and_left (not (eqb (f x).0 (f x).1)) _ (and_left _ _ p))) (subst (λ (y : A). (f y).0 ≡ (f y).1) e q)
  row_ends (x ∷ l) p a (inr k) = row_ends l (and_right (not (eqb (f x).0 (f x).1) && not (any (same_pair (f x)) (map f l))) _ p) a k

-- THE SIDES OF A FACE
abbrev side : FaceDart → FaceDart → Side
side c d = record { serial = c.serial; next = d.serial; tail = c.vertex; head = d.vertex }

-- from c on along cs, to z
abbrev chain : FaceDart → List FaceDart → FaceDart → List Side
chain c [] z = side c z ∷ []
chain c (d ∷ cs) z = side c d ∷ chain d cs z

pairs_chain : (c : FaceDart) (cs : List FaceDart) (z : FaceDart)
    → map (λ p. record { serial = p.0.serial; next = p.1.serial; tail = p.0.vertex; head = p.1.vertex }) (zip (c ∷ cs) (cs ++ z ∷ [])) ≡ chain c cs z
pairs_chain c [] z = refl
pairs_chain c (d ∷ cs) z = ap (λ (l : List Side). side c d ∷ l) (pairs_chain d cs z)

sides_chain : (c : FaceDart) (cs : List FaceDart) → sides_of (c ∷ cs) ≡ chain c cs c
unfolding sides_of
sides_chain c cs = pairs_chain c cs c

-- the side after a side
pub record After (a : Side) (l : List Side) : Type 0 where
  pub then_side : Side
  pub there : Elem then_side l
  pub serial_is : then_side.serial ≡ a.next
  pub tail_is : then_side.tail ≡ a.head

pub record Before (a : Side) (l : List Side) : Type 0 where
  pub then_side : Side
  pub there : Elem then_side l
  pub next_is : then_side.next ≡ a.serial

chain_first : (c : FaceDart) (cs : List FaceDart) (z : FaceDart) → (a : Side) × Elem a (chain c cs z) × (a.serial ≡ c.serial) × (a.tail ≡ c.vertex)
chain_first c [] z = (side c z, inl refl, refl, refl)
chain_first c (d ∷ cs) z = (side c d, inl refl, refl, refl)

chain_last : (c : FaceDart) (cs : List FaceDart) (z : FaceDart) → (a : Side) × Elem a (chain c cs z) × (a.next ≡ z.serial)
chain_last c [] z = (side c z, inl refl, refl)
chain_last c (d ∷ cs) z = let r = chain_last d cs z in (r.0, inr r.1, r.2)

chain_after : (c : FaceDart) (cs : List FaceDart) (z : FaceDart) (a : Side) → Elem a (chain c cs z) → ((a.next ≡ z.serial) × (a.head ≡ z.vertex)) ⊎ After a (chain c cs z)
chain_after c [] z a (inl e) = inl (ap (λ (s : Side). s.next) e, ap (λ (s : Side). s.head) e)
chain_after c [] z a (inr k) = absurd k
chain_after c (d ∷ cs) z a (inl e) = let r = chain_first d cs z in
    inr (record { then_side = r.0; there = inr r.1; serial_is = r.2 ∙ ap (λ (s : Side). s.next) (sym e); tail_is = r.3 ∙ ap (λ (s : Side). s.head) (sym e) })
chain_after c (d ∷ cs) z a (inr k) = ⊎_elim (λ q. inl q)
    (λ q. inr (record { then_side = q.then_side; there = inr q.there; serial_is = q.serial_is; tail_is = q.tail_is })) (chain_after d cs z a k)

chain_before : (c : FaceDart) (cs : List FaceDart) (z : FaceDart) (a : Side) → Elem a (chain c cs z) → (a.serial ≡ c.serial) ⊎ Before a (chain c cs z)
chain_before c [] z a (inl e) = inl (ap (λ (s : Side). s.serial) e)
chain_before c [] z a (inr k) = absurd k
chain_before c (d ∷ cs) z a (inl e) = inl (ap (λ (s : Side). s.serial) e)
chain_before c (d ∷ cs) z a (inr k) = inr (⊎_elim
    (λ q. record { then_side = side c d; there = inl refl; next_is = sym q })
    (λ q. record { then_side = q.then_side; there = inr q.there; next_is = q.next_is }) (chain_before d cs z a k))

chain_serials : (c : FaceDart) (cs : List FaceDart) (z : FaceDart) → map (λ a. a.serial) (chain c cs z) ≡ face_serials (c ∷ cs)
chain_serials c [] z = refl
chain_serials c (d ∷ cs) z = ap (λ (l : List ℕ). c.serial ∷ l) (chain_serials d cs z)

-- along a function that is next there
chain_path : (nx : ℕ → ℕ) (c : FaceDart) (cs : List FaceDart) (z : FaceDart) → ((a : Side) → Elem a (chain c cs z) → nx a.serial ≡ a.next)
    → (face_serials (c ∷ cs) ≡ path nx (suc (length cs)) c.serial) × (iter nx (suc (length cs)) c.serial ≡ z.serial)
chain_path nx c [] z h = (refl, h (side c z) (inl refl))
chain_path nx c (d ∷ cs) z h =
    let r = chain_path nx d cs z (λ a k. h a (inr k)) in
    let e : nx c.serial ≡ d.serial = h (side c d) (inl refl) in
    (ap (λ (l : List ℕ). c.serial ∷ l) (r.0 ∙ ap (path nx (suc (length cs))) (sym e)), ap (iter nx (suc (length cs))) e ∙ r.1)

pub face_after : (f : List FaceDart) (a : Side) → Elem a (sides_of f) → After a (sides_of f)
unfolding sides_of
face_after [] a h = absurd h
face_after (c ∷ cs) a h = rw (pairs_chain c cs c) (⊎_elim
    (λ q. let r = chain_first c cs c in record { then_side = r.0; there = r.1; serial_is = r.2 ∙ sym q.0; tail_is = r.3 ∙ sym q.1 })
    (λ q. q) (chain_after c cs c a (rw (pairs_chain c cs c) at h)))

pub face_before : (f : List FaceDart) (a : Side) → Elem a (sides_of f) → Before a (sides_of f)
unfolding sides_of
face_before [] a h = absurd h
face_before (c ∷ cs) a h = rw (pairs_chain c cs c) (⊎_elim
    (λ q. let r = chain_last c cs c in record { then_side = r.0; there = r.1; next_is = r.2 ∙ sym q })
    (λ q. q) (chain_before c cs c a (rw (pairs_chain c cs c) at h)))

pub sides_serials : (f : List FaceDart) → map (λ a. a.serial) (sides_of f) ≡ face_serials f
unfolding sides_of
sides_serials [] = refl
sides_serials (c ∷ cs) = rw (pairs_chain c cs c) (chain_serials c cs c)

pub face_path : (nx : ℕ → ℕ) (c : FaceDart) (cs : List FaceDart) → ((a : Side) → Elem a (sides_of (c ∷ cs)) → nx a.serial ≡ a.next)
    → (face_serials (c ∷ cs) ≡ path nx (suc (length cs)) c.serial) × (iter nx (suc (length cs)) c.serial ≡ c.serial)
face_path nx c cs h = chain_path nx c cs c (λ a k. h a (rw (sides_chain c cs) k))

-- the first that passes
first_kept : (q : Side → Bool) (l : List Side) → any q l ≡ true → (c : Side) × Elem c l × (q c ≡ true) × (first_serial (keep q l) ≡ c.serial)
first_kept q [] h = absurd (true≢false (sym h))
first_kept q (a ∷ l) h = by_cases (q a)
    (λ e. (a, inl refl, e, rw e))
    (λ e. let r = first_kept q l (rw e at h) in (r.0, inr r.1, r.2, rw e r.3))

getD_finite : (l : List Point) (i : ℕ) → all finite l ≡ true → finite (get_or l i no_point) ≡ true
unfolding finite finite_bits no_point
getD_finite [] i h = refl
getD_finite (p ∷ l) zero h = and_left (finite p) _ h
getD_finite (p ∷ l) (suc i) h = getD_finite l i (and_right (finite p) _ h)

-- THE DARTS
module _ (t : Transfer) where
  abbrev ss : List Side
  ss = sides t

  abbrev pub new_serials : List ℕ
  new_serials = map (λ a. a.serial) (sides t)

  pub serials_new_are : serials (new_darts t) ≡ new_serials
  unfolding new_darts new_dart
  serials_new_are = map_map (new_dart t) (λ d. d.serial) ss

  pub side_elem : (f : List FaceDart) → Elem f t.faces → (a : Side) → Elem a (sides_of f) → Elem a ss
  unfolding sides
  side_elem f h a k = elem_concat sides_of a f t.faces h k

  pub side_face : (a : Side) → Elem a ss → (f : List FaceDart) × Elem f t.faces × Elem a (sides_of f)
  unfolding sides
  side_face a h = concat_elem sides_of a t.faces h

  side_after : (a : Side) → Elem a ss → After a ss
  side_after a h =
      let f = side_face a h in
      let n = face_after f.0 a f.2 in
      record { then_side = n.then_side; there = side_elem f.0 f.1 n.then_side n.there; serial_is = n.serial_is; tail_is = n.tail_is }

  side_before : (a : Side) → Elem a ss → Before a ss
  side_before a h =
      let f = side_face a h in
      let n = face_before f.0 a f.2 in
      record { then_side = n.then_side; there = side_elem f.0 f.1 n.then_side n.there; next_is = n.next_is }

  pub new_side : (x : ℕ) → In x new_serials → (a : Side) × Elem a ss × (x ≡ a.serial)
  new_side x h = key_row (λ a. a.serial) x ss h

  module _ (once : distinct new_serials ≡ true) where
    once_darts : distinct (serials (new_darts t)) ≡ true
    once_darts = rw serials_new_are once

    pub at_side : (a : Side) → Elem a ss → dart_at (new_darts t) a.serial ≡ new_dart t a
    at_side a h = at (new_dart t a) (λ u. dart_there (new_darts t) u (new_dart t a) (there a h)) (serial_same a)
      where
        there : (a : Side) → Elem a ss → Elem (new_dart t a) (new_darts t)
        there a h = unfold new_darts in (elem_map (new_dart t) a ss h)

        serial_same : (a : Side) → (new_dart t a).serial ≡ a.serial
        serial_same a = unfold new_dart in refl

        at : (d : Dart) → (distinct (serials (new_darts t)) ≡ true → dart_at (new_darts t) d.serial ≡ d) → d.serial ≡ a.serial → dart_at (new_darts t) a.serial ≡ d
        at d f e = ap (dart_at (new_darts t)) (sym e) ∙ f once_darts

    pub next_side : (a : Side) → Elem a ss → next_in (new_darts t) a.serial ≡ a.next
    unfolding new_dart
    next_side a h = ap (λ (d : Dart). d.next) (at_side a h)

    pub free_side : (a : Side) → Elem a ss → third_at (new_darts t) a.serial ≡ free
    unfolding new_dart
    free_side a h = ap (λ (d : Dart). d.third) (at_side a h)

    point_side : (a : Side) → Elem a ss → point_of (new_darts t) a.serial ≡ get_or t.points a.tail no_point
    unfolding new_dart
    point_side a h = ap (λ (d : Dart). d.point) (at_side a h)

    opposite_side : (a : Side) → Elem a ss → opposite_in (new_darts t) a.serial ≡ opposite_of ss a
    unfolding new_dart
    opposite_side a h = ap (λ (d : Dart). d.opposite) (at_side a h)

    module _ (pairs : pairs_right ss ≡ true) where
      record Facing (a : Side) : Type 0 where
        across : Side
        across_there : Elem across ss
        tail_head : a.tail ≡ across.head
        head_tail : a.head ≡ across.tail
        serial_across : opposite_in (new_darts t) a.serial ≡ across.serial

      facing : (a : Side) → Elem a ss → Facing a
      unfolding pairs_right reverses opposite_of
      facing a h =
          let r = first_kept (reverses a) ss (all_elem _ ss (and_right (pairs_once (map (λ a. (a.tail, a.head)) ss)) _ pairs) a h) in
          record {
            across = r.0;
            across_there = r.1;
            tail_head = eqb-true a.tail r.0.head (and_left (eqb a.tail r.0.head) _ r.2);
            head_tail = eqb-true a.head r.0.tail (and_right (eqb a.tail r.0.head) _ r.2);
            serial_across = opposite_side a h ∙ r.3;
          }

      one_pair : pairs_once (map (λ a. (a.tail, a.head)) ss) ≡ true
      unfolding pairs_right
      one_pair = and_left (pairs_once (map (λ a. (a.tail, a.head)) ss)) _ pairs

      twice : (a : Side) → Elem a ss → opposite_in (new_darts t) (opposite_in (new_darts t) a.serial) ≡ a.serial
      twice a h =
          let p = facing a h in
          let q = facing p.across p.across_there in
          ap (opposite_in (new_darts t)) p.serial_across ∙ q.serial_across
          ∙ ap (λ (s : Side). s.serial)
          (pair_row (λ a. (a.tail, a.head)) ss one_pair q.across a q.across_there h
          (sym q.head_tail ∙ sym p.tail_head) (sym q.tail_head ∙ sym p.head_tail))

      other : (a : Side) → Elem a ss → opposite_in (new_darts t) a.serial ≢ a.serial
      other a h e =
          let p = facing a h in
          let same : p.across ≡ a = one_row (λ a. a.serial) ss once p.across a p.across_there h (sym p.serial_across ∙ e) in
          row_ends (λ a. (a.tail, a.head)) ss one_pair a h (p.tail_head ∙ ap (λ (s : Side). s.head) same)

      round : (a : Side) → Elem a ss → point_of (new_darts t) a.serial ≡ point_of (new_darts t) (next_in (new_darts t) (opposite_in (new_darts t) a.serial))
      round a h =
          let p = facing a h in
          let n = side_after p.across p.across_there in
          let e : next_in (new_darts t) (opposite_in (new_darts t) a.serial) ≡ n.then_side.serial =
          ap (next_in (new_darts t)) p.serial_across ∙ next_side p.across p.across_there ∙ sym n.serial_is
          in
          point_side a h ∙ ap (λ (i : ℕ). get_or t.points i no_point) (p.tail_head ∙ sym n.tail_is) ∙ sym (point_side n.then_side n.there) ∙ ap (point_of (new_darts t)) (sym e)

      module _ (points : all finite t.points ≡ true) (low : (a : Side) → Elem a ss → 1 ≤ a.serial) (high : (a : Side) → Elem a ss → a.serial < serial_bound) where
        -- what holds of the sides holds of the serials
        by_side : (P : ℕ → Type 0) → ((a : Side) → Elem a ss → P a.serial) → (x : ℕ) → In x new_serials → P x
        by_side P f x h = let r = new_side x h in subst P (sym r.2) (f r.0 r.1)

        side_in : (a : Side) → Elem a ss → In a.serial new_serials
        side_in a h = elem_key (λ a. a.serial) a ss h

        pub new_frame : Frame new_serials (next_in (new_darts t)) (opposite_in (new_darts t)) (point_of (new_darts t))
        new_frame = record {
          next_stays =
              by_side (λ x. In (next_in (new_darts t) x) new_serials)
              (λ a h. let n = side_after a h in in_eq _ _ new_serials (next_side a h ∙ sym n.serial_is) (side_in n.then_side n.there));
          next_onto = by_side (λ x. (y : ℕ) × In y new_serials × (next_in (new_darts t) y ≡ x))
              (λ a h. let n = side_before a h in (n.then_side.serial, side_in n.then_side n.there, next_side n.then_side n.there ∙ n.next_is));
          opposite_stays = by_side (λ x. In (opposite_in (new_darts t) x) new_serials) (λ a h. let p = facing a h in in_eq _ _ new_serials p.serial_across (side_in p.across p.across_there));
          opposite_twice = by_side (λ x. opposite_in (new_darts t) (opposite_in (new_darts t) x) ≡ x) twice;
          opposite_other = by_side (λ x. opposite_in (new_darts t) x ≢ x) other;
          ring_point = by_side (λ x. point_of (new_darts t) x ≡ point_of (new_darts t) (next_in (new_darts t) (opposite_in (new_darts t) x))) round;
          point_finite = by_side (λ x. finite (point_of (new_darts t) x) ≡ true) (λ a h. rw (point_side a h) (getD_finite t.points a.tail points));
          serial_low = by_side (λ x. 1 ≤ x) low;
          serial_high = by_side (λ x. x < serial_bound) high;
        }
