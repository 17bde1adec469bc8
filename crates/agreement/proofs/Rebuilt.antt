-- Receive finds again the darts that send put into a transfer. Assumes nothing.
use mathlib.Core.Path.{◌≡◌, refl, sym, ◌∙◌, ap}
use mathlib.Core.Bool.{Bool, true, true≢false}
use mathlib.Core.List.{List, [], ◌∷◌, ◌++◌, map}
use Prim.Native.Nat.{ℕ, zero, suc, ◌<◌, ◌≤◌}
use native.Mathlib.Nat.{not-suc-le-zero}
use lib.Dec.{eqb}
use lib.ListN.{length, get_or}
use borrow.Author.Tests.{eqb-true, eq-eqb}
use Rattle.model.specs.Lists.{any, keep, concat, concat_map, zip, firsts, index_of}
use Rattle.model.specs.Values.{Point, free, Dart, no_point}
use Rattle.model.specs.Cells.{around, cycle, faces}
use Rattle.model.specs.Messages.{FaceDart, Transfer}
use Rattle.model.specs.Arrival.{Side, sides_of, sides, reverses, first_serial, opposite_of, new_dart, new_darts}
use Rattle.laws.proofs.Faces.{order_has, order_only}
use Rattle.laws.proofs.Members.{In, in_here, in_there, any_in, keep_in, map_append, map_map, map_cong, in_map, firsts_have}
use Rattle.laws.proofs.Orbits.{iter, path, around_path}
use Rattle.laws.proofs.Tests.{by_cases, and_intro, and_left, and_right}
use Rattle.agreement.proofs.NewLabels.{index_one}

-- THE SIDES OF A FACE: each dart with the one after it
module _ (nx number : ℕ → ℕ) where
  abbrev pub face_dart_of : ℕ → FaceDart
  face_dart_of x = record { vertex = number x; serial = x }

  abbrev pub side_of : ℕ → Side
  side_of x = record { serial = x; next = nx x; tail = number x; head = number (nx x) }

  zip_path : {A : Type 0} (g : ℕ → A) (p x s : ℕ) → iter nx (suc p) x ≡ s → zip (map g (path nx (suc p) x)) (map g (path nx p (nx x)) ++ g s ∷ []) ≡ map (λ y. (g y, g (nx y))) (path nx (suc p) x)
  zip_path g zero x s e = rw e
  zip_path g (suc p) x s e = ap (λ (l : List _). (g x, g (nx x)) ∷ l) (zip_path g p (nx x) s e)

  sides_path : (p x : ℕ) → 0 < p → iter nx p x ≡ x → sides_of (map face_dart_of (path nx p x)) ≡ map side_of (path nx p x)
  unfolding sides_of
  sides_path zero x h e = absurd (not-suc-le-zero h)
  sides_path (suc p) x h e = rw (zip_path face_dart_of p x x e) (map_map {B = FaceDart × FaceDart} (λ y. (face_dart_of y, face_dart_of (nx y)))
      (λ w. record { serial = w.0.serial; next = w.1.serial; tail = w.0.vertex; head = w.1.vertex }) (path nx (suc p) x))

  -- THE OPPOSITE IS FOUND AGAIN: it is the only side with the reversed pair
  module _ (q : Side → Bool) (z : ℕ) where
    first_passing : (l : List ℕ) → any (λ y. q (side_of y)) l ≡ true → ((y : ℕ) → In y l → q (side_of y) ≡ true → y ≡ z) → first_serial (keep q (map side_of l)) ≡ z
    first_passing [] h only = absurd (true≢false (sym h))
    first_passing (y ∷ l) h only = by_cases (q (side_of y))
        (λ e. rw e (only y (in_here y l) e))
        (λ e. rw e (first_passing l (rw e at h) (λ w k. only w (in_there w y l k))))

  module _ (op : ℕ → ℕ) (l : List ℕ)
      (op-in : (x : ℕ) → In x l → In (op x) l)
      (op-tail : (x : ℕ) → In x l → number (op x) ≡ number (nx x))
      (op-head : (x : ℕ) → In x l → number (nx (op x)) ≡ number x)
      (once : (x y : ℕ) → In x l → In y l → number x ≡ number y → number (nx x) ≡ number (nx y) → x ≡ y) where
    pub reverse_there : (x : ℕ) → In x l → reverses (side_of x) (side_of (op x)) ≡ true
    unfolding reverses
    reverse_there x h = and_intro (eq-eqb (number x) (number (nx (op x))) (sym (op-head x h))) (eq-eqb (number (nx x)) (number (op x)) (sym (op-tail x h)))

    pub opposite_again : (x : ℕ) → In x l → opposite_of (map side_of l) (side_of x) ≡ op x
    unfolding opposite_of
    opposite_again x h = first_passing (reverses (side_of x)) (op x) l (any_in _ l (op x) (op-in x h) (reverse_there x h)) only
      where
        only : (y : ℕ) → In y l → reverses (side_of x) (side_of y) ≡ true → y ≡ op x
        only y k e = unfold reverses in (once y (op x) k (op-in x h)
            (sym (eqb-true (number (nx x)) (number y) (and_right (eqb (number x) (number (nx y))) _ e)) ∙ sym (op-tail x h))
            (sym (eqb-true (number x) (number (nx y)) (and_left _ _ e)) ∙ sym (op-head x h)))

-- the index of a value that is there leads back to it
pub index_back : {B : Type 0} (f : ℕ → B) (d : B) (y : ℕ) (l : List ℕ) → In y l → get_or (map f l) (index_of y l) d ≡ f y
unfolding index_of
index_back f d y [] h = absurd (true≢false (sym h))
index_back f d y (x ∷ l) h = by_cases (eqb y x)
    (λ e. rw e (ap f (sym (eqb-true y x e))))
    (λ e. rw e (index_back f d y l (rw e at h)))

-- A VOLUME v in message order, with vertices c and points
module _ (nx op c : ℕ → ℕ) (at-point : ℕ → Point) (v : List ℕ)
    (stays : (x : ℕ) → In x v → In (nx x) v) (inj : (x y : ℕ) → In x v → In y v → nx x ≡ nx y → x ≡ y) (small : length v ≤ 4096)
    (op-stays : (x : ℕ) → In x v → In (op x) v)
    (op-tail : (x : ℕ) → In x v → c (op x) ≡ c (nx x))
    (op-head : (x : ℕ) → In x v → c (nx (op x)) ≡ c x)
    (once : (x y : ℕ) → In x v → In y v → c x ≡ c y → c (nx x) ≡ c (nx y) → x ≡ y)
    (one_point : (x : ℕ) → In x v → at-point (c x) ≡ at-point x) where
  abbrev pub order : List ℕ
  order = concat (faces nx v)

  abbrev pub vs : List ℕ
  vs = firsts (map c order)

  abbrev pub number_of_vertex : ℕ → ℕ
  number_of_vertex x = index_of (c x) vs

  pub vertex_there : (x : ℕ) → In x v → In (c x) vs
  vertex_there x h = firsts_have (c x) (map c order) (in_map c x order (order_has nx v stays inj small x h))

  -- the sides of the message are the darts in order
  one_face : (x : ℕ) → In x v → sides_of (map (face_dart_of nx number_of_vertex) (around nx x 4096 x)) ≡ map (side_of nx number_of_vertex) (around nx x 4096 x)
  one_face x h = let q = around_path nx v stays inj 4096 x small h in rw q.3 (sides_path nx number_of_vertex q.0 x q.1 q.4)

  sides_faces : (l : List ℕ) → ((x : ℕ) → In x l → In x v)
      → concat_map sides_of (map (λ f. map (face_dart_of nx number_of_vertex) f) (map (cycle nx) l)) ≡ map (side_of nx number_of_vertex) (concat (map (cycle nx) l))
  unfolding concat cycle
  sides_faces [] h = refl
  sides_faces (x ∷ l) h =
      rw (map_append (side_of nx number_of_vertex) (around nx x 4096 x) (concat (map (cycle nx) l)), sides_faces l (λ y k. h y (in_there y x l k)), one_face x (h x (in_here x l)))

  pub sides_order : (t : Transfer) → t.faces ≡ map (λ f. map (face_dart_of nx number_of_vertex) f) (faces nx v) → sides t ≡ map (side_of nx number_of_vertex) order
  unfolding sides faces
  sides_order t e = rw e (sides_faces (keep _ v) (λ x h. (keep_in _ v x h).0))

  in_order_back : (y : ℕ) → In y order → In y v
  in_order_back = order_only nx v stays inj small

  number_one : (y z : ℕ) → In y v → In z v → number_of_vertex y ≡ number_of_vertex z → c y ≡ c z
  number_one y z hy hz q = index_one (c y) (c z) vs (vertex_there y hy) (vertex_there z hz) q

  pub opposite_found : (x : ℕ) → In x v → opposite_of (map (side_of nx number_of_vertex) order) (side_of nx number_of_vertex x) ≡ op x
  opposite_found x h = opposite_again nx number_of_vertex op order
      (λ y k. order_has nx v stays inj small (op y) (op-stays y (in_order_back y k)))
      (λ y k. ap (λ (w : ℕ). index_of w vs) (op-tail y (in_order_back y k)))
      (λ y k. ap (λ (w : ℕ). index_of w vs) (op-head y (in_order_back y k)))
      (λ y z k j a b. once y z (in_order_back y k) (in_order_back z j) (number_one y z (in_order_back y k) (in_order_back z j) a)
      (number_one (nx y) (nx z) (stays y (in_order_back y k)) (stays z (in_order_back z j)) b))
      x (order_has nx v stays inj small x h)

  abbrev pub rebuilt : ℕ → Dart
  rebuilt x = record { serial = x; next = nx x; opposite = op x; third = free; point = at-point x }

  pub new_darts_are : (t : Transfer) → t.faces ≡ map (λ f. map (face_dart_of nx number_of_vertex) f) (faces nx v) → t.points ≡ map at-point vs → new_darts t ≡ map rebuilt order
  unfolding new_darts new_dart
  new_darts_are t e p = rw (sides_order t e, map_map (side_of nx number_of_vertex) (new_dart t) order) (map_cong _ rebuilt order (λ x h. each x (in_order_back x h)))
    where
      each : (x : ℕ) → In x v → new_dart t (side_of nx number_of_vertex x) ≡ rebuilt x
      each x h = rw (sides_order t e, p)
          (λ n. record { serial = x; next = nx x; opposite = opposite_found x h n; third = free; point = (index_back at-point no_point (c x) vs (vertex_there x h) ∙ one_point x h) n })
