-- The faces of a transfer by the index of their start: each is found, no dart is in two. Assumes nothing.
use mathlib.Core.Path.{◌≡◌, refl, sym, ◌∙◌, ap, subst}
use mathlib.Core.Logic.{inl, inr}
use mathlib.Core.Bool.{true, true≢false, ◌&&◌}
use mathlib.Core.List.{List, [], ◌∷◌, ◌++◌, map}
use mathlib.Core.Option.{some}
use Prim.Native.Nat.{ℕ, ◌+◌, ◌-◌, ◌<◌, ◌≤◌}
use native.Mathlib.Omega.{arith}
use lib.Dec.{leb, ltb}
use lib.ListN.{length, length-map, length-append}
use borrow.Author.Tests.{ltb-true, lt-ltb, le-ltb}
use Rattle.model.specs.Lists.{all, concat, concat_map, distinct, find}
use Rattle.model.specs.Cells.{start_of}
use Rattle.model.specs.Messages.{FaceDart, Transfer, size_all, size_at}
use Rattle.model.specs.Links.{Placed, placed}
use Rattle.model.specs.Arrival.{Side, sides_of, sides, face_serials, placed_faces, face_or, face_from, faces_ordered}
use Rattle.laws.proofs.Members.{In, in_append_left, in_append_right, distinct_left, distinct_right, distinct_apart, map_append, Each}
use Rattle.laws.proofs.Tests.{and_left}
use Rattle.agreement.proofs.Received.{placed_low, placed_find}
use Rattle.soundness.proofs.NewDarts.{new_serials, sides_serials}
use Rattle.soundness.proofs.Rows.{Elem, all_elem, map_elem, elem_map, key_row}

each_elem : {A : Type 0} (P : A → Type 0) (l : List A) → Each P l → (a : A) → Elem a l → P a
each_elem P [] h a k = absurd k
each_elem P (x ∷ l) h a (inl e) = subst P (sym e) h.0
each_elem P (x ∷ l) h a (inr k) = each_elem P l h.1 a k

elem_each : {A : Type 0} (P : A → Type 0) (l : List A) → ((a : A) → Elem a l → P a) → Each P l
elem_each P [] h = tt
elem_each P (x ∷ l) h = (h x (inl refl), elem_each P l (λ a k. h a (inr k)))

placed_row : (i : ℕ) (fs : List (List ℕ)) (p : Placed) → Elem p (placed i fs) → Elem p.face fs
unfolding placed
placed_row i [] p h = absurd h
placed_row i (f ∷ fs) p (inl e) = inl (ap (λ (q : Placed). q.face) e)
placed_row i (f ∷ fs) p (inr k) = inr (placed_row (i + length f) fs p k)

pub in_concat : (f : List ℕ) (fs : List (List ℕ)) (x : ℕ) → Elem f fs → In x f → In x (concat fs)
unfolding concat
in_concat f [] x h k = absurd h
in_concat f (g ∷ fs) x (inl e) k = in_append_left x g (concat fs) (subst (λ (w : List ℕ). In x w) e k)
in_concat f (g ∷ fs) x (inr h) k = in_append_right x g (concat fs) (in_concat f fs x h k)

pub distinct_face : (f : List ℕ) (fs : List (List ℕ)) → Elem f fs → distinct (concat fs) ≡ true → distinct f ≡ true
unfolding concat
distinct_face f [] h d = absurd h
distinct_face f (g ∷ fs) (inl e) d = subst (λ (w : List ℕ). distinct w ≡ true) (sym e) (distinct_left g (concat fs) d)
distinct_face f (g ∷ fs) (inr k) d = distinct_face f fs k (distinct_right g (concat fs) d)

-- a dart tells its face
placed_one : (i : ℕ) (fs : List (List ℕ)) → distinct (concat fs) ≡ true → (p q : Placed) → Elem p (placed i fs) → Elem q (placed i fs) → (x : ℕ) → In x p.face → In x q.face → p.at ≡ q.at
unfolding placed concat
placed_one i [] d p q h k x a b = absurd h
placed_one i (f ∷ fs) d p q (inl h) (inl k) x a b = ap (λ (w : Placed). w.at) (h ∙ sym k)
placed_one i (f ∷ fs) d p q (inl h) (inr k) x a b =
    absurd (true≢false (sym (subst (λ (w : Placed). In x w.face) h a) ∙ distinct_apart f (concat fs) d x (in_concat q.face fs x (placed_row (i + length f) fs q k) b)))
placed_one i (f ∷ fs) d p q (inr h) (inl k) x a b =
    absurd (true≢false (sym (subst (λ (w : Placed). In x w.face) k b) ∙ distinct_apart f (concat fs) d x (in_concat p.face fs x (placed_row (i + length f) fs p h) a)))
placed_one i (f ∷ fs) d p q (inr h) (inr k) x a b = placed_one (i + length f) fs (distinct_right f (concat fs) d) p q h k x a b

-- the size that the layout reads
placed_size : (i : ℕ) (fs : List (List FaceDart)) → ((f : List FaceDart) → Elem f fs → 0 < length f) → (p : Placed)
    → Elem p (placed i (map face_serials fs)) → size_at (p.at - i) fs ≡ length p.face
unfolding placed size_at
placed_size i [] some_dart p h = absurd h
placed_size i (f ∷ fs) some_dart p (inl e) =
    let none_before : p.at - i ≡ 0 = omega (arith, ap (λ (q : Placed). q.at) e) in
    rw (none_before, lt-ltb 0 (length f) (some_dart f (inl refl))) (sym (length-map f (λ (c : FaceDart). c.serial)) ∙ sym (ap (λ (q : Placed). length q.face) e))
placed_size i (f ∷ fs) some_dart p (inr k) =
    let j = i + length (face_serials f) in
    let low : j ≤ p.at = each_elem (λ q. j ≤ q.at) (placed j (map face_serials fs)) (placed_low j (map face_serials fs)) p k in
    let size = length-map f (λ (c : FaceDart). c.serial) in
    let later : p.at - i - length f ≡ p.at - j = omega arith in
    rw (le-ltb (p.at - i) (length f) (omega arith), later) (placed_size j fs (λ g m. some_dart g (inr m)) p k)

size_face : (f : List FaceDart) (fs : List (List FaceDart)) → Elem f fs → length f ≤ size_all fs
unfolding size_all
size_face f [] h = absurd h
size_face f (g ∷ fs) (inl e) = omega (arith, ap length e)
size_face f (g ∷ fs) (inr k) = omega (arith, size_face f fs k)

module _ (t : Transfer) where
  abbrev fs : List (List ℕ)
  fs = map face_serials t.faces

  abbrev pub starts : List ℕ
  starts = map (λ p. p.at) (placed_faces t)

  pub faces_serials : new_serials t ≡ concat (map face_serials t.faces)
  unfolding sides concat
  faces_serials = go t.faces
    where
      go : (l : List (List FaceDart)) → map (λ a. a.serial) (concat_map sides_of l) ≡ concat (map face_serials l)
      go [] = refl
      go (f ∷ l) =
          map_append (λ (a : Side). a.serial) (sides_of f) (concat_map sides_of l)
          ∙ ap (λ (r : List ℕ). r ++ map (λ a. a.serial) (concat_map sides_of l)) (sides_serials f)
          ∙ ap (λ (r : List ℕ). face_serials f ++ r) (go l)

  -- how many darts
  pub count_serials : length (new_serials t) ≡ size_all t.faces
  unfolding concat size_all
  count_serials = ap length faces_serials ∙ go t.faces
    where
      go : (l : List (List FaceDart)) → length (concat (map face_serials l)) ≡ size_all l
      go [] = refl
      go (f ∷ l) = length-append (face_serials f) (concat (map face_serials l)) ∙ (let a = length-map f (λ (c : FaceDart). c.serial) in let b = go l in omega arith)

  module _ (ordered : faces_ordered t ≡ true) (once : distinct (new_serials t) ≡ true) where
    pub some_dart : (f : List FaceDart) → Elem f t.faces → 0 < length f
    unfolding faces_ordered
    some_dart f h =
        let e =
        all_elem (λ f. ltb 0 (length f) && all (leb (start_of f)) f) fs
        (and_left (all (λ f. ltb 0 (length f) && all (leb (start_of f)) f) fs) _ ordered) (face_serials f)
        (elem_map face_serials f t.faces h)
        in
        let a = ltb-true 0 (length (face_serials f)) (and_left (ltb 0 (length (face_serials f))) _ e) in
        omega (arith, length-map f (λ (c : FaceDart). c.serial))

    pub record Start (i : ℕ) : Type 0 where
      pub place : Placed
      pub there : Elem place (placed 0 fs)
      pub at_is : i ≡ place.at
      pub face_darts : List FaceDart
      pub in_faces : Elem face_darts t.faces
      pub face_is : face_from t i ≡ face_serials face_darts
      pub place_is : face_from t i ≡ place.face

    pub start : (i : ℕ) → In i starts → Start i
    unfolding placed_faces face_from
    start i h =
        let r = key_row (λ p. p.at) i (placed 0 fs) h in
        let f = map_elem face_serials r.0.face t.faces (placed_row 0 fs r.0 r.1) in
        let found = each_elem (λ q. find (λ p. p.at) q.at (placed 0 fs) ≡ some q) (placed 0 fs) (placed_find 0 fs (elem_each (λ f. 0 < length f) fs some_serial)) r.0 r.1 in
        let is : face_from t i ≡ r.0.face = ap face_or (ap (λ (k : ℕ). find (λ p. p.at) k (placed 0 fs)) r.2 ∙ found) in
        record { place = r.0; there = r.1; at_is = r.2; face_darts = f.0; in_faces = f.1; face_is = is ∙ f.2; place_is = is }
      where
        some_serial : (g : List ℕ) → Elem g fs → 0 < length g
        some_serial g k = let f = map_elem face_serials g t.faces k in let n = some_dart f.0 f.1 in omega (arith, ap length f.2, length-map f.0 (λ (c : FaceDart). c.serial))

    pub start_one : (i j x : ℕ) → In i starts → In j starts → In x (face_from t i) → In x (face_from t j) → i ≡ j
    start_one i j x h k a b =
        let p = start i h in
        let q = start j k in
        p.at_is
        ∙ placed_one 0 fs (rw (← faces_serials) once) p.place q.place p.there q.there x
        (subst (λ (w : List ℕ). In x w) p.place_is a) (subst (λ (w : List ℕ). In x w) q.place_is b) ∙ sym q.at_is

    pub start_size : (i : ℕ) → In i starts → size_at i t.faces ≡ length (face_from t i)
    start_size i h =
        let p = start i h in
        let e : p.place.at - 0 ≡ i = omega (arith, p.at_is) in
        ap (λ (k : ℕ). size_at k t.faces) (sym e) ∙ placed_size 0 t.faces some_dart p.place p.there ∙ ap length (sym p.place_is)

    pub start_few : (i : ℕ) → In i starts → length (face_from t i) ≤ size_all t.faces
    start_few i h = let p = start i h in let a = size_face p.face_darts t.faces p.in_faces in omega (arith, ap length p.face_is, length-map p.face_darts (λ (c : FaceDart). c.serial))
