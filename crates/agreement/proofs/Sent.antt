-- The transfer that send writes, in terms of the undivided state. Assumes nothing.
use mathlib.Core.Path.{◌≡◌, refl, sym, ◌∙◌, ap}
use mathlib.Core.Logic.{◌≢◌}
use mathlib.Core.Bool.{Bool, true, cond}
use mathlib.Core.List.{List, [], ◌∷◌, map}
use mathlib.Core.Option.{Option, none, some}
use Prim.Native.Nat.{ℕ}
use lib.Dec.{leb, eqb}
use Rattle.model.specs.Lists.{all, keep, concat, collect, firsts}
use Rattle.model.specs.Values.{Label, Third, free, sewn, critical, Dart, Limits}
use Rattle.model.specs.Cells.{around, cycle, vertex, faces, start_of, vertices, vertex_number, dart_at, next_in, opposite_in, third_at, labels_along}
use Rattle.model.specs.Sound.{Fit}
use Rattle.model.specs.Messages.{Part4, Transfer}
use Rattle.model.specs.Departure.{is_sewn_out_of, part2_entry, part3_from, part4_entry, transfer_of}
use Rattle.model.specs.Links.{Placed, placed}
use Rattle.model.specs.Runs.{Request}
use Rattle.model.specs.UndividedRun.{State, nx, op, th, cell}
use Rattle.laws.proofs.Faces.{face_stays, is_start, along_face, order_only}
use Rattle.laws.proofs.Members.{In, in_here, in_there, in_eq, keep_in, Each, map_cong, map_in, firsts_only, keep_each}
use Rattle.agreement.proofs.Described.{pt, third_by, block_by, Map, Inv, Mine, darts_by, third_is, point_at, kind_free, kind_sewn, kind_critical, by_kind}
use Rattle.agreement.proofs.Moved.{Served, moved_cell}
use Rattle.agreement.proofs.MovedCell.{Cell, volume_same, faces_same, vertex_same, out_same}
use Rattle.agreement.proofs.NewLabels.{Facing, next_one_cell, facing_next, inner}
use Rattle.agreement.proofs.Rebuilt.{face_dart_of}
use Rattle.agreement.proofs.Redirected.{labels_map}
use Rattle.agreement.proofs.Rings.{vertex_in}
use Rattle.theory.proofs.FaceIndices.{placed_each}

-- FACES WITH THE INDEX OF THEIR START
pub collect_cong : {A B : Type 0} (P : A → Type 0) (f g : A → Option B) (l : List A) → Each P l → ((a : A) → P a → f a ≡ g a) → collect f l ≡ collect g l
collect_cong P f g [] e h = refl
collect_cong P f g (a ∷ l) e h = rw (h a e.0, collect_cong P f g l e.1 h)

module _ (lims : ℕ → Limits) (fit : Fit lims) (k : ℕ) (u : State) (label : ℕ → Label) (I : Inv lims k u label) (r : Request) (S : Served lims k u r) where
  abbrev M₂ : Map u
  M₂ = I.map_sound

  abbrev v₂ : List ℕ
  v₂ = cell u r.serial

  abbrev C₂ : Cell u r.from r.serial v₂
  C₂ = moved_cell lims fit k u label I r S

  abbrev ds : List Dart
  ds = darts_by u label r.from

  abbrev pub cell_faces : List (List ℕ)
  cell_faces = faces (nx u) v₂

  abbrev pub cell_order : List ℕ
  cell_order = concat cell_faces

  abbrev pub number_in : ℕ → ℕ
  number_in x = vertex_number (nx u) (op u) cell_order x

  -- one of the cell's faces: a cycle from a start in the cell
  pub record IsFace (f : List ℕ) : Type 0 where
    pub from_dart : ℕ
    pub in_cell : In from_dart v₂
    pub starts_face : is_start (nx u) v₂ C₂.next_closed (next_one_cell u M₂ r.from r.serial v₂ C₂) C₂.few from_dart ≡ true
    pub is_cycle : f ≡ cycle (nx u) from_dart

  faces_each : (l : List ℕ)
      → ((x : ℕ) → In x l
      → In x v₂ × (is_start (nx u) v₂ C₂.next_closed (next_one_cell u M₂ r.from r.serial v₂ C₂) C₂.few x ≡ true))
      → Each IsFace (map (cycle (nx u)) l)
  faces_each [] h = tt
  faces_each (x ∷ l) h = (record { from_dart = x; in_cell = (h x (in_here x l)).0; starts_face = (h x (in_here x l)).1; is_cycle = refl }, faces_each l (λ y m. h y (in_there y x l m)))

  pub all_faces : Each IsFace cell_faces
  unfolding faces cycle
  all_faces = faces_each (keep (λ x. all (leb x) (cycle (nx u) x)) v₂) (λ x m. keep_in (λ y. all (leb y) (cycle (nx u) y)) v₂ x m)

  pub start_is : (f : List ℕ) (q : IsFace f) → start_of f ≡ q.from_dart
  unfolding cycle around
  start_is f q = rw q.is_cycle

  start_mine_of : (f : List ℕ) (q : IsFace f) → Mine u r.from q.from_dart
  start_mine_of f q = C₂.mine q.from_dart q.in_cell

  pub start_third : (f : List ℕ) (q : IsFace f) → third_at ds (start_of f) ≡ third_by u label q.from_dart
  start_third f q = ap (third_at ds) (start_is f q) ∙ third_is u label r.from q.from_dart (start_mine_of f q)

  pub in_face_cell : (f : List ℕ) (q : IsFace f) (x : ℕ) → In x f → In x v₂
  unfolding cycle
  in_face_cell f q x m = face_stays (nx u) v₂ C₂.next_closed (next_one_cell u M₂ r.from r.serial v₂ C₂) C₂.few q.from_dart x q.in_cell (rw q.is_cycle at m)

  -- what faces a block at its start does so all along
  pub face_faces : (f : List ℕ) (q : IsFace f) (b : ℕ) → Facing u b q.from_dart → (x : ℕ) → In x f → Facing u b x
  unfolding cycle
  face_faces f q b c x m =
      along_face (nx u) v₂ C₂.next_closed (next_one_cell u M₂ r.from r.serial v₂ C₂) C₂.few (Facing u b)
      (facing_next u M₂ r.from r.serial v₂ C₂ b) q.from_dart x q.in_cell c (rw q.is_cycle at m)

  -- THE TRANSFER
  abbrev pub part4_by : Placed → Third → Option Part4
  part4_by p free = none
  part4_by p (sewn y) = none
  part4_by p (critical o l) = cond (eqb o r.to) none (some (record { index = p.at; other = o; labels = map label p.face }))

  abbrev pub is_inner_face : List ℕ → Bool
  is_inner_face = inner u M₂ r.from r.serial v₂ C₂ S.leaves

  unfoldable pub transfer_by : Transfer
  transfer_by = record {
    from = r.from;
    to = r.to;
    points = map (pt u) (vertices (nx u) (op u) cell_order);
    faces = map (λ f. map (face_dart_of (nx u) number_in) f) cell_faces;
    part2 = collect (λ p. part2_entry r.to p.at (third_by u label (start_of p.face))) (placed 0 cell_faces);
    part3 = part3_from (u.count r.from) (map (λ p. p.at) (keep (λ p. is_inner_face p.face) (placed 0 cell_faces)));
    part4 = collect (λ p. part4_by p (third_by u label (start_of p.face))) (placed 0 cell_faces);
  }

  -- vertices are the same in the block and in the map
  order_in : (x : ℕ) → In x cell_order → In x v₂
  order_in = order_only (nx u) v₂ C₂.next_closed (next_one_cell u M₂ r.from r.serial v₂ C₂) C₂.few

  same_vertex : (x : ℕ) → In x v₂ → vertex (next_in ds) (opposite_in ds) x ≡ vertex (nx u) (op u) x
  same_vertex x h = vertex_same lims fit k u label I r.from S.from_below r.serial S.start_mine x (C₂.mine x h)

  vertices_same : vertices (next_in ds) (opposite_in ds) cell_order ≡ vertices (nx u) (op u) cell_order
  unfolding vertices
  vertices_same = ap firsts (map_cong _ _ cell_order (λ x m. same_vertex x (order_in x m)))

  points_same : map (λ x. (dart_at ds x).point) (vertices (nx u) (op u) cell_order) ≡ map (pt u) (vertices (nx u) (op u) cell_order)
  unfolding vertices
  points_same = map_cong _ _ (firsts (map (vertex (nx u) (op u)) cell_order)) (λ w m.
      let a = map_in (vertex (nx u) (op u)) cell_order w (firsts_only w (map (vertex (nx u) (op u)) cell_order) m) in
      let inside = in_eq w (vertex (nx u) (op u) a.0) v₂ a.2 (vertex_in u M₂ r.from r.serial v₂ C₂ a.0 (order_in a.0 a.1)) in
      point_at u label r.from w (C₂.mine w inside))

  number_same : (x : ℕ) → In x v₂ → vertex_number (next_in ds) (opposite_in ds) cell_order x ≡ number_in x
  unfolding vertex_number
  number_same x h = rw (vertices_same, same_vertex x h)

  faces_numbered : (l : List (List ℕ)) → Each IsFace l
      → map (λ f. map (λ x. record { vertex = vertex_number (next_in ds) (opposite_in ds) cell_order x; serial = x }) f) l ≡ map (λ f. map (face_dart_of (nx u) number_in) f) l
  faces_numbered [] e = refl
  faces_numbered (f ∷ l) e =
      rw (
        map_cong _ (face_dart_of (nx u) number_in) f
            (λ x m. ap (λ (n : ℕ). record { vertex = n; serial = x }) (number_same x (in_face_cell f e.0 x m))),
        faces_numbered l e.1,
      )

  inner_same : (p : Placed) → IsFace p.face → is_sewn_out_of v₂ (third_at ds (start_of p.face)) ≡ is_inner_face p.face
  inner_same p q = out_same lims fit k u label I r.from S.from_below r.serial S.start_mine p.face (in_eq (start_of p.face) q.from_dart v₂ (start_is p.face q) q.in_cell)

  part4_same : (p : Placed) → IsFace p.face → part4_entry ds r.to p (third_at ds (start_of p.face)) ≡ part4_by p (third_by u label (start_of p.face))
  part4_same p q = rw (start_third p.face q, start_is p.face q) (by_kind u label q.from_dart
      (λ e. rw (kind_free u label q.from_dart e))
      (λ t e. rw (kind_sewn u label q.from_dart t e))
      (λ t e. rw (kind_critical u label q.from_dart t e, along t e)))
    where
      along : th u q.from_dart ≢ 0 → u.number (th u q.from_dart) ≢ u.number q.from_dart → labels_along ds p.face ≡ map label p.face
      along t e = labels_map ds label (u.number (th u q.from_dart)) p.face (λ x m.
          let c = face_faces p.face q (u.number (th u q.from_dart)) (record { linked = t; block = refl }) x m in
          let h = in_face_cell p.face q x m in
          third_is u label r.from x (C₂.mine x h)
          ∙ kind_critical u label x c.linked (λ w. e (sym c.block ∙ w ∙ (C₂.mine x h).block ∙ sym (C₂.mine q.from_dart q.in_cell).block))
          ∙ ap (λ (o : ℕ). critical o (label x)) c.block)

  pub transfer_is : transfer_of (block_by u label r.from) r.to r.serial ≡ transfer_by
  unfolding transfer_of transfer_by block_by
  transfer_is = rw (faces_same lims fit k u label I r.from S.from_below r.serial S.start_mine, volume_same lims fit k u label I r.from S.from_below r.serial S.start_mine)
      (λ n. record {
        from = r.from;
        to = r.to;
        points = (ap (map (λ x. (dart_at ds x).point)) vertices_same ∙ points_same) n;
        faces = faces_numbered cell_faces all_faces n;
        part2 =
            collect_cong (λ p. IsFace p.face) _ _ (placed 0 cell_faces) placed_faces_each
            (λ p q. ap (part2_entry r.to p.at) (start_third p.face q ∙ ap (third_by u label) (sym (start_is p.face q))))
            n;
        part3 = ap (λ (l : List Placed). part3_from (u.count r.from) (map (λ p. p.at) l)) (keep_each (λ p. IsFace p.face) _ _ (placed 0 cell_faces) placed_faces_each inner_same) n;
        part4 = collect_cong (λ p. IsFace p.face) _ _ (placed 0 cell_faces) placed_faces_each part4_same n;
      })
    where
      placed_faces_each : Each (λ q. IsFace q.face) (placed 0 cell_faces)
      placed_faces_each = placed_each IsFace 0 cell_faces all_faces
