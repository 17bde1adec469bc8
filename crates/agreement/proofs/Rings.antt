-- Rings of a cell: an opposite has the reversed pair of vertices, and a vertex has one point. Assumes nothing.
use mathlib.Core.Path.{◌≡◌, refl, sym, ◌∙◌, ap}
use mathlib.Core.List.{List}
use Prim.Native.Nat.{ℕ}
use Rattle.model.specs.Lists.{least}
use Rattle.model.specs.Cells.{cycle, ring, vertex}
use Rattle.model.specs.UndividedRun.{State, nx, op}
use Rattle.laws.proofs.Faces.{face, face_stays, face_self, face_trans, face_sym, along_face}
use Rattle.laws.proofs.Members.{In, in_eq, least_among}
use Rattle.laws.proofs.Orbits.{in_cycle}
use Rattle.agreement.proofs.Described.{pt, Map}
use Rattle.agreement.proofs.MovedCell.{Cell}
use Rattle.agreement.proofs.Redirected.{least_same}

module _ (u : State) (M : Map u) (i s : ℕ) (v : List ℕ) (C : Cell u i s v) where
  -- one step round a vertex
  abbrev pub turn : ℕ → ℕ
  turn x = nx u (op u x)

  turn_stays : (x : ℕ) → In x v → In (turn x) v
  turn_stays x h = C.next_closed (op u x) (C.opposite_closed x h)

  turn_one : (x y : ℕ) → In x v → In y v → turn x ≡ turn y → x ≡ y
  turn_one x y h m e =
      let dx = (C.mine x h).here in
      let dy = (C.mine y m).here in
      let q = M.next_one (op u x) (op u y) (M.opposite_in_map x dx) (M.opposite_in_map y dy) e in
      sym (M.opposite_twice x dx) ∙ ap (op u) q ∙ M.opposite_twice y dy

  abbrev ring_of : ℕ → List ℕ
  ring_of x = face turn v turn_stays turn_one C.few x

  vertex_is : (x : ℕ) → vertex (nx u) (op u) x ≡ least (ring_of x)
  unfolding vertex ring cycle
  vertex_is x = refl

  same_ring : (x y : ℕ) → In x v → In y (ring_of x) → least (ring_of x) ≡ least (ring_of y)
  same_ring x y h m =
      let hy = face_stays turn v turn_stays turn_one C.few x y h m in
      least_same (ring_of x) (ring_of y) x (face_self turn v turn_stays turn_one C.few x h)
      (λ z q. face_trans turn v turn_stays turn_one C.few y x z hy (face_sym turn v turn_stays turn_one C.few x y h m) q)
      (λ z q. face_trans turn v turn_stays turn_one C.few x y z h m q)

  turn_in : (x : ℕ) → In x v → In (turn x) (ring_of x)
  turn_in x h = in_cycle turn v turn_stays turn_one 4096 x 1 C.few h

  pub vertex_turn : (x : ℕ) → In x v → vertex (nx u) (op u) (nx u (op u x)) ≡ vertex (nx u) (op u) x
  vertex_turn x h = vertex_is (turn x) ∙ sym (same_ring x (turn x) h (turn_in x h)) ∙ sym (vertex_is x)

  -- the opposite starts where the next dart starts
  pub vertex_opposite : (x : ℕ) → In x v → vertex (nx u) (op u) (op u x) ≡ vertex (nx u) (op u) (nx u x)
  vertex_opposite x h = sym (vertex_turn (op u x) (C.opposite_closed x h)) ∙ ap (λ (y : ℕ). vertex (nx u) (op u) (nx u y)) (M.opposite_twice x (C.mine x h).here)

  least_there : (x : ℕ) → In x v → In (least (ring_of x)) (ring_of x)
  least_there x h = least_among (ring_of x) x (face_self turn v turn_stays turn_one C.few x h)

  pub vertex_in : (x : ℕ) → In x v → In (vertex (nx u) (op u) x) v
  vertex_in x h = in_eq (vertex (nx u) (op u) x) (least (ring_of x)) v (vertex_is x) (face_stays turn v turn_stays turn_one C.few x (least (ring_of x)) h (least_there x h))

  pub vertex_point : (x : ℕ) → In x v → pt u (vertex (nx u) (op u) x) ≡ pt u x
  vertex_point x h = ap (pt u) (vertex_is x) ∙ along_face turn v turn_stays turn_one C.few (λ y. pt u y ≡ pt u x)
      (λ y m e. sym (M.point_ring y (C.mine y m).here) ∙ e) x (least (ring_of x)) h refl (least_there x h)
