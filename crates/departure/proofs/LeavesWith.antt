-- What leaves by place is what leaves by serial: the transfer and the updates of a volume. Assumes nothing.
use mathlib.Core.Path.{◌≡◌, refl, sym, ◌∙◌, ap}
use mathlib.Core.Bool.{Bool, true, cond}
use mathlib.Core.List.{List, [], ◌∷◌, map}
use mathlib.Core.Option.{Option, none, some}
use Prim.Native.Nat.{ℕ, ◌+◌, ◌*◌, ◌/◌, ◌<◌}
use native.Mathlib.Omega.{arith}
use lib.Dec.{eqb}
use lib.ListN.{length, get_or, take, length-map, length-take}
use lib.Seq.{get_or-take}
use borrow.Author.Tests.{eqb-true}
use Rattle.model.specs.Lists.{keep, collect, concat, concat_map, tab}
use Rattle.model.specs.Values.{Label, Dart, is_critical_with}
use Rattle.model.specs.Cells.{cycle, ring, vertex, vertices, vertex_number, start_of, faces, faces_in, dart_at, next_in, opposite_in, third_at, volume_in}
use Rattle.model.specs.Image.{count_in, column, is_critical_word, third_in, dart_in, block_in}
use Rattle.model.specs.Messages.{FaceDart}
use Rattle.model.specs.Departure.{part2_entry, part3_from, part4_entry, is_sewn_out_of, least_labels, transfer_of, update_for, updates_of}
use Rattle.model.specs.Links.{Placed, placed}
use Rattle.laws.proofs.Tests.{by_cases, and_left}
use Rattle.laws.proofs.Members.{In, in_eq, in_getD, in_append_left, in_append_right, map_map, map_cong, keep_map, Each, map_each, keep_each, each_kept, collect_each, collect_map}
use Rattle.laws.proofs.Tables.{dart_place}
use Rattle.laws.proofs.Faces.{along_face, start_map}
use Rattle.theory.proofs.BlockLaws.{same_point_is}
use Rattle.columns.specs.Columns.{Kind, point_test, same_at}
use Rattle.columns.proofs.Thirds.{with_critical}
use Rattle.columns.proofs.Question.{Passed}
use Rattle.cells.specs.Places.{InOrder, Marked, Numbered, marked, sewn_out, volume_of}
use Rattle.cells.proofs.Reached.{places, in_places, places_below, within_places}
use Rattle.cells.proofs.Paths.{apart_places, few_places}
use Rattle.cells.proofs.SewnLaws.{sewn_out_is}
use Rattle.cells.proofs.FaceSerials.{faces_serials}
use Rattle.cells.proofs.RingLaws.{step_within, step_apart, vertex_in}
use Rattle.cells.proofs.VertexSerials.{vertex_below}
use Rattle.cells.proofs.VolumeArrays.{number_of, vertices_of}
use Rattle.cells.proofs.VolumeReady.{out_whole}
use Rattle.cells.proofs.Sited.{Sited, darts_in}
use Rattle.departure.specs.ByPlaces.{critical_with, critical_beside, dart_entry, part2_at, part4_at, transfer_at, least_at, update_at, updates_at}
use Rattle.departure.proofs.LeavingFaces.{Face, faces_are, start_below, critical_is, part2_is, part4_is, labels_are, least_is}

-- faces by place, and what becomes of one by serial
abbrev serial_face : (ℕ → ℕ) → Placed → Placed
serial_face s f = record { at = f.at; face = map s f.face }

placed_serials : (s : ℕ → ℕ) (i : ℕ) (fs : List (List ℕ)) → placed i (map (map s) fs) ≡ map (serial_face s) (placed i fs)
unfolding placed
placed_serials s i [] = refl
placed_serials s i (f ∷ fs) = rw (length-map f s) (ap (λ (l : List Placed). record { at = i; face = map s f } ∷ l) (placed_serials s (i + length f) fs))

each_placed : (P : List ℕ → Type 0) (i : ℕ) (fs : List (List ℕ)) → Each P fs → Each (λ (f : Placed). P f.face) (placed i fs)
unfolding placed
each_placed P i [] a = tt
each_placed P i (f ∷ fs) a = (a.0, each_placed P (i + length f) fs a.1)

concat_one : {A B : Type 0} (P : A → Type 0) (g : A → List B) (e : A → B) (l : List A) → Each P l → ((x : A) → P x → g x ≡ e x ∷ []) → concat_map g l ≡ map e l
concat_one P g e [] a h = refl
concat_one P g e (x ∷ l) a h = rw (h x a.0) (ap (λ (t : List _). e x ∷ t) (concat_one P g e l a.1 h))

concat_map_map : {A B C : Type 0} (g : B → List C) (f : A → B) (l : List A) → concat_map g (map f l) ≡ concat_map (λ x. g (f x)) l
concat_map_map g f [] = refl
concat_map_map g f (x ∷ l) = rw (concat_map_map g f l)

collect_same : {A B : Type 0} (f g : A → Option B) (l : List A) → ((x : A) → f x ≡ g x) → collect f l ≡ collect g l
collect_same f g [] h = refl
collect_same f g (x ∷ l) h = rw (h x, collect_same f g l h)

each_inside : (fs : List (List ℕ)) (l : List ℕ) → ((q : ℕ) → In q (concat fs) → In q l) → Each (λ f. (q : ℕ) → In q f → In q l) fs
unfolding concat
each_inside [] l h = tt
each_inside (f ∷ fs) l h = (λ q k. h q (in_append_left q f (concat fs) k), each_inside fs l (λ q k. h q (in_append_right q f (concat fs) k)))

module _ {m : List ℕ} (site : Sited m) (ok : Passed m) where
  abbrev ds : List Dart
  ds = darts_in m

  abbrev s : ℕ → ℕ
  s = column m 0

  -- ONE POINT along a ring
  point_step : (y : ℕ) → y < count_in m → (dart_in m (column m 1 (column m 2 y))).point ≡ (dart_in m y).point
  unfolding point_test
  point_step y h = sym (same_point_is (dart_in m y).point (dart_in m (column m 1 (column m 2 y))).point (and_left (same_at m y (column m 1 (column m 2 y))) _ (ok.points y h)))

  vertex_point : (x : ℕ) → x < count_in m → (dart_in m (vertex (column m 1) (column m 2) x)).point ≡ (dart_in m x).point
  unfolding ring cycle
  vertex_point x h = let l = site.linked in
      along_face (λ d. column m 1 (column m 2 d)) (places (count_in m))
      (within_places (step_within _ _ _ l.few l.next_within l.next_apart l.opposite_within l.opposite_apart))
      (apart_places (step_apart _ _ _ l.few l.next_within l.next_apart l.opposite_within l.opposite_apart)) (few_places l.few)
      (λ y. (dart_in m y).point ≡ (dart_in m x).point) (λ y k e. point_step y (places_below (count_in m) y k) ∙ e) x (vertex (column m 1) (column m 2) x) (in_places (count_in m) x h) refl
      (vertex_in _ _ _ l.few l.next_within l.next_apart l.opposite_within l.opposite_apart x h)

  -- the third link of a face's start
  third_start : (f : List ℕ) → Face m f → third_at ds (start_of (map s f)) ≡ third_in s (column m 3 (start_of f)) (column m 4 (start_of f))
  third_start f w = ap (third_at ds) (start_map s f w.some) ∙ site.third_is (start_of f) (start_below w)

  start_kind : (f : List ℕ) → Face m f → Kind (column m 3 (start_of f)) (column m 4 (start_of f))
  start_kind f w = ok.range.kinds (start_of f) (start_below w)

  module _ (p : ℕ) (h : p < count_in m) {marks : List ℕ} (mk : Marked (volume_of m p) marks) where
    abbrev fs : List (List ℕ)
    fs = faces (column m 1) (marked (count_in m) marks)

    each : Each (Face m) fs
    each = faces_are site ok p h mk

    each_at : Each (λ (f : Placed). Face m f.face) (placed 0 fs)
    each_at = each_placed (Face m) 0 fs each

    placed_are : placed 0 (faces_in ds (s p)) ≡ map (serial_face s) (placed 0 fs)
    placed_are = ap (placed 0) (sym (faces_serials site p h mk)) ∙ placed_serials s 0 fs

    part2_law : (j : ℕ)
        → collect (λ f. part2_entry j f.at (third_at ds (start_of f.face))) (placed 0 (faces_in ds (s p)))
        ≡ map (part2_at m) (keep (λ f. critical_with m j (start_of f.face)) (placed 0 fs))
    part2_law j = ap (collect (λ f. part2_entry j f.at (third_at ds (start_of f.face)))) placed_are
        ∙ collect_map (serial_face s) (λ f. part2_entry j f.at (third_at ds (start_of f.face))) (placed 0 fs)
        ∙ collect_each (λ f. Face m f.face) (λ f. part2_entry j f.at (third_at ds (start_of (map s f.face)))) (λ f. critical_with m j (start_of f.face)) (part2_at m) (placed 0 fs) each_at
        (λ f w. ap (part2_entry j f.at) (third_start f.face w) ∙ part2_is s (column m 3 (start_of f.face)) (column m 4 (start_of f.face)) j f.at (start_kind f.face w))

    part3_law : map (λ f. f.at)
        (keep (λ f. is_sewn_out_of (volume_in ds (s p)) (third_at ds (start_of f.face))) (placed 0 (faces_in ds (s p))))
        ≡ map (λ f. f.at) (keep (λ f. sewn_out m marks (start_of f.face)) (placed 0 fs))
    part3_law =
        let test : Placed → Bool = λ f. is_sewn_out_of (volume_in ds (s p)) (third_at ds (start_of f.face)) in
        ap (λ (l : List Placed). map (λ f. f.at) (keep test l)) placed_are
        ∙ ap (map (λ f. f.at)) (keep_map test (serial_face s) (placed 0 fs))
        ∙ map_map (serial_face s) (λ f. f.at) (keep (λ f. test (serial_face s f)) (placed 0 fs))
        ∙ ap (map (λ f. f.at)) (keep_each (λ f. Face m f.face) (λ f. test (serial_face s f)) (λ f. sewn_out m marks (start_of f.face)) (placed 0 fs) each_at
        (λ f w. ap (λ (x : ℕ). is_sewn_out_of (volume_in ds (s p)) (third_at ds x)) (start_map s f.face w.some) ∙ sewn_out_is site p h mk (start_of f.face) (start_below w)))

    part4_one : (j : ℕ) (f : Placed) → Face m f.face
        → part4_entry ds j (serial_face s f) (third_at ds (start_of (map s f.face)))
        ≡ cond (critical_beside m j (start_of f.face)) (some (part4_at m f)) none
    part4_one j f w = ap (part4_entry ds j (serial_face s f)) (third_start f.face w)
        ∙ part4_is s ds (column m 3 (start_of f.face)) (column m 4 (start_of f.face)) j (serial_face s f) (start_kind f.face w)
        ∙ by_cases (critical_beside m j (start_of f.face))
        (λ e. rw e (ap (λ (l : List Label). some (record { index = f.at; other = column m 3 (start_of f.face) / 4; labels = l }))
        (labels_are site ok f.face w (and_left (is_critical_word (column m 3 (start_of f.face))) _ e))))
        (λ e. rw e)

    part4_law : (j : ℕ)
        → collect (λ f. part4_entry ds j f (third_at ds (start_of f.face))) (placed 0 (faces_in ds (s p)))
        ≡ map (part4_at m) (keep (λ f. critical_beside m j (start_of f.face)) (placed 0 fs))
    part4_law j = ap (collect (λ f. part4_entry ds j f (third_at ds (start_of f.face)))) placed_are
        ∙ collect_map (serial_face s) (λ f. part4_entry ds j f (third_at ds (start_of f.face))) (placed 0 fs)
        ∙ collect_each (λ f. Face m f.face)
        (λ f. part4_entry ds j (serial_face s f) (third_at ds (start_of (map s f.face))))
        (λ f. critical_beside m j (start_of f.face)) (part4_at m) (placed 0 fs) each_at (part4_one j)

    -- THE UPDATES
    abbrev shared : ℕ → List (List ℕ)
    shared k = keep (λ f. critical_with m k (start_of f)) fs

    shared_law : (k : ℕ) → keep (λ f. is_critical_with k (third_at ds (start_of f))) (faces_in ds (s p)) ≡ map (map s) (shared k)
    shared_law k =
        let test : List ℕ → Bool = λ f. is_critical_with k (third_at ds (start_of f)) in
        ap (keep test) (sym (faces_serials site p h mk)) ∙ keep_map test (map s) fs
        ∙ ap (map (map s)) (keep_each (Face m) (λ f. test (map s f)) (λ f. critical_with m k (start_of f)) fs each
        (λ f w. ap (is_critical_with k) (third_start f w) ∙ critical_is s (column m 3 (start_of f)) (column m 4 (start_of f)) k (start_kind f w)))

    labels_told : (k : ℕ) → concat_map (least_labels ds) (map (map s) (shared k)) ≡ map (least_at m) (shared k)
    labels_told k = concat_map_map (least_labels ds) (map s) (shared k)
        ∙ concat_one (λ f. Face m f × (critical_with m k (start_of f) ≡ true)) (λ f. least_labels ds (map s f)) (least_at m)
        (shared k) (each_kept (Face m) (λ f. critical_with m k (start_of f)) fs each)
        (λ f w. least_is site ok f w.0 (with_critical (column m 3 (start_of f)) k (eqb-true (column m 3 (start_of f)) (2 + 4 * k) w.1)))

    update_one : (j k : ℕ) (gs : List (List ℕ)) → concat_map (least_labels ds) (map (map s) gs) ≡ map (least_at m) gs → update_for (block_in m) j k (map (map s) gs) ≡ update_at m j k gs
    unfolding update_for
    update_one j k [] e = refl
    update_one j k (f ∷ gs) e = ap (λ (l : List Label). cond (eqb k j) none (some (record { from = get_or m 0 0; to = k; block = j; labels = l }))) e

    pub updates_law : (j : ℕ) → updates_of (block_in m) j (s p) ≡ updates_at m j fs
    unfolding updates_of updates_at
    updates_law j = collect_same (λ k. update_for (block_in m) j k (keep (λ f. is_critical_with k (third_at ds (start_of f))) (faces_in ds (s p)))) (λ k. update_at m j k (shared k)) (tab (λ k. k) 16)
        (λ k. ap (update_for (block_in m) j k) (shared_law k) ∙ update_one j k (shared k) (labels_told k))

    -- THE TRANSFER
    module _ {out starts : List ℕ} {darts count : ℕ} (o : InOrder fs out starts darts count) {numbers first : List ℕ} {vs : ℕ}
        (nb : Numbered (column m 1) (column m 2) (take darts out) numbers first vs) where
      first_below : (q : ℕ) → In q (take vs first) → q < count_in m
      first_below q k =
          let r = in_getD (take vs first) q k in
          let few : r.0 < vs = omega (arith, length-take vs first, r.1) in
          let e : get_or first r.0 0 ≡ q = sym (get_or-take vs first r.0 0 few) ∙ sym r.2 in
          (out_whole site.linked h mk o).below q (in_eq q (get_or first r.0 0) (take darts out) (sym e) (nb.firsts_in r.0 few))

      points_law : map (λ x. (dart_at ds x).point) (vertices (next_in ds) (opposite_in ds) (concat (faces_in ds (s p)))) ≡ map (λ q. (dart_in m q).point) (take vs first)
      points_law = ap (map (λ x. (dart_at ds x).point)) (sym (vertices_of site p h mk o nb))
          ∙ map_map s (λ x. (dart_at ds x).point) (map (vertex (column m 1) (column m 2)) (take vs first))
          ∙ map_map (vertex (column m 1) (column m 2)) (λ q. (dart_at ds (s q)).point) (take vs first)
          ∙ map_cong (λ q. (dart_at ds (s (vertex (column m 1) (column m 2) q))).point) (λ q. (dart_in m q).point) (take vs first)
          (λ q k. ap (λ (d : Dart). d.point)
          (dart_place (dart_in m) (count_in m) (vertex (column m 1) (column m 2) q) site.ascends
          (vertex_below site q (first_below q k))) ∙ vertex_point q (first_below q k))

      faces_law : map
          (λ f. map
          (λ x. record { vertex = vertex_number (next_in ds) (opposite_in ds) (concat (faces_in ds (s p))) x; serial = x }) f)
          (faces_in ds (s p)) ≡ map (map (dart_entry m numbers)) fs
      faces_law =
          let e : ℕ → FaceDart = λ x. record { vertex = vertex_number (next_in ds) (opposite_in ds) (concat (faces_in ds (s p))) x; serial = x } in
          ap (map (map e)) (sym (faces_serials site p h mk)) ∙ map_map (map s) (map e) fs
          ∙ map_each (λ f. (q : ℕ) → In q f → In q (take darts out)) (λ f. map e (map s f)) (map (dart_entry m numbers)) fs (each_inside fs (take darts out) (λ q k. rw o.order k))
          (λ f w. map_map s e f ∙ map_cong (λ q. e (s q)) (dart_entry m numbers) f (λ q k. ap (λ (v : ℕ). record { vertex = v; serial = s q }) (sym (number_of site p h mk o nb q (w q k)))))

      pub transfer_law : (j : ℕ) → transfer_of (block_in m) j (s p) ≡ transfer_at m j marks fs numbers first vs
      unfolding transfer_of transfer_at
      transfer_law j = λ i. record {
        from = get_or m 0 0;
        to = j;
        points = points_law i;
        faces = faces_law i;
        part2 = part2_law j i;
        part3 = part3_from (get_or m 1 0) (part3_law i);
        part4 = part4_law j i;
      }
