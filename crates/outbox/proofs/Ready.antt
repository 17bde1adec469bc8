-- A surveyed volume of a sound block has what the functions ask of its arrays. Assumes nothing.
use mathlib.Core.Path.{◌≡◌, sym, ap, ◌∙◌}
use mathlib.Core.Bool.{true, ◌&&◌}
use mathlib.Core.List.{List, [], ◌∷◌}
use Prim.Native.Nat.{ℕ, suc, ◌≤◌, ◌<◌, ◌^◌}
use native.Mathlib.Omega.{arith}
use lib.Dec.{leb, ltb}
use lib.ListN.{length, get_or, take, length-append}
use lib.Seq.{get_or-take, length-take-le}
use borrow.Author.Tests.{leb-true, ltb-true}
use Rattle.model.specs.Lists.{concat, mem}
use Rattle.model.specs.Values.{Third, free, sewn, critical, serial_bound, finite, finite_bits}
use Rattle.model.specs.Sound.{third_in_range, dart_in_range, coordinates_finite}
use Rattle.model.specs.Image.{count_in, column, dart_in, dart_words, kind_word, holds_block}
use Rattle.laws.proofs.Tests.{and_left, and_right}
use Rattle.laws.proofs.Members.{In, getD_in}
use Rattle.laws.proofs.Tables.{all_tab}
use Rattle.memory.specs.Point.{FiniteAt}
use Rattle.cells.specs.Places.{Linked}
use Rattle.cells.proofs.Sited.{parts, read, sited, word_is}
use Rattle.cells.proofs.StartLaws.{face_at, start_place}
use Rattle.cells.proofs.PairsNumbered.{number_below}
use Rattle.cells.proofs.VolumeReady.{out_below, out_long, out_whole}
use Rattle.departure.specs.Asked.{Surveyed, faces_at}
use Rattle.departure.specs.declared.Counts.{Counts}
use Rattle.departure.proofs.FirstNo.{ranges_in}
use Rattle.outbox.specs.Bytes.{DartsListed, Opened, Pointed, FacesStarted, Vertexed}
use Rattle.outbox.proofs.ByFaces.{end_after, end_within}

-- WORDS OF A SOUND BLOCK
module _ (m : List ℕ) (ok : holds_block m ≡ true) (p : ℕ) (h : p < count_in m) where
  kind_small : column m 3 p < 64
  unfolding dart_words
  kind_small = go (dart_in m p).third (word_is m ok p 3 h (omega arith)) (read m ok p h).in_range
    where
      go : (t : Third) → column m 3 p ≡ kind_word t → third_in_range t ≡ true → column m 3 p < 64
      go free k r = omega arith
      go (sewn y) k r = omega arith
      go (critical o l) k r =
          let three = and_left (leb o 15 && leb l.maker 15 && ltb l.number (2 ^ 32)) _ r in
          let two = and_left (leb o 15 && leb l.maker 15) _ three in
          omega (arith, leb-true o 15 (and_left (leb o 15) _ two))

  small_serial : column m 0 p < serial_bound
  unfolding dart_in_range
  small_serial =
      let r = all_tab dart_in_range (dart_in m) (count_in m) (ranges_in m ok).each_dart p h in
      ltb-true (column m 0 p) serial_bound (and_right (leb 1 (column m 0 p)) _ (and_left (leb 1 (column m 0 p) && ltb (column m 0 p) serial_bound) _ r))

  finite_there : FiniteAt m p
  unfolding coordinates_finite finite
  finite_there =
      let r = all_tab (λ d. finite d.point) (dart_in m) (count_in m) (parts m ok).finite p h in
      let two = and_left (finite_bits (column m 5 p) && finite_bits (column m 6 p)) _ r in
      record {
        on_x = and_left (finite_bits (column m 5 p)) _ two;
        on_y = and_right (finite_bits (column m 5 p)) _ two;
        on_z = and_right (finite_bits (column m 5 p) && finite_bits (column m 6 p)) _ r;
      }

-- faces that have darts are not more than these
fewer_faces : (fs : List (List ℕ)) → ((k : ℕ) → k < length fs → 0 < length (get_or fs k [])) → length fs ≤ length (concat fs)
unfolding concat
fewer_faces [] h = omega arith
fewer_faces (f ∷ fs) h = omega (arith, length-append f (concat fs), h 0 (omega arith), fewer_faces fs (λ k l. h (suc k) (omega arith)))

-- A SURVEYED VOLUME
module _ (m : List ℕ) (ok : holds_block m ≡ true) {c : Counts} {marks order starts numbers firsts : List ℕ} (s : Surveyed m c marks order starts numbers firsts) where
  pub linked : Linked m (count_in m)
  linked = (sited m ok).linked

  pub some_face : (k : ℕ) → k < c.faces → 0 < length (get_or (faces_at m marks) k [])
  some_face k h = (face_at (count_in m) (column m 1) marks linked.few linked.next_within linked.next_apart k (omega (arith, s.order.count_is))).0

  faces_few : c.faces ≤ 512
  faces_few = omega (arith, s.few, s.order.count_is, s.order.darts_are, fewer_faces (faces_at m marks) (λ k h. some_face k (omega (arith, s.order.count_is))))

  place_there : (k : ℕ) → k < c.darts → get_or order k 0 < count_in m
  place_there = out_below linked s.place_below s.volume_marked s.order

  pub listed : DartsListed m order c.darts
  listed = record {
    header = omega (arith, linked.size);
    held = λ k h. omega (arith, place_there k h, linked.size);
    order_size = s.order.out_size;
    few = s.few;
    below = λ k h. omega (arith, place_there k h, linked.few);
    serial_small = λ k h. small_serial m ok (get_or order k 0) (place_there k h);
    other_small = λ k h. kind_small m ok (get_or order k 0) (place_there k h);
  }

  in_order : (k : ℕ) → k < c.darts → In (get_or order k 0) (take c.darts order)
  in_order k h = let inside : k < length (take c.darts order) = omega (arith, length-take-le c.darts order (out_long linked s.place_below s.volume_marked s.order)) in
      ap (λ (x : ℕ). mem x (take c.darts order)) (sym (get_or-take c.darts order k 0 h)) ∙ getD_in (take c.darts order) k inside

  pub vertexed : Vertexed numbers order c.darts
  vertexed = record {
    numbers_size = λ k h. s.numbering.numbers_size (get_or order k 0) (in_order k h);
    number_small = λ k h. let l = linked in
        let w = out_whole l s.place_below s.volume_marked s.order in
        omega (
          arith,
          number_below (count_in m) (column m 1) (column m 2) l.few l.next_within l.next_apart l.opposite_within l.opposite_apart w s.numbering (get_or order k 0) (in_order k h),
          s.numbering.count_le,
          w.few,
        );
  }

  start_there : (f : ℕ) → f < c.faces → (get_or starts f 0 < c.darts) × (get_or order (get_or starts f 0) 0 < count_in m)
  start_there f h = let r = start_place (count_in m) (column m 1) marks linked.few linked.next_within linked.next_apart s.order f h in (r.0, r.2)

  pub started : FacesStarted starts c.darts c.faces
  started = record {
    starts_size = s.order.starts_size;
    few = faces_few;
    below = λ f h. (start_there f h).0;
    ends_after = λ f h. end_after s.order f h (some_face f h);
    ends_within = λ f h. end_within s.order f h;
  }

  pub opened : Opened (count_in m) order starts c.faces
  opened = record {
    order_size = λ f h. omega (arith, (start_there f h).0, s.order.out_size);
    starts_size = s.order.starts_size;
    few = faces_few;
    index_small = λ f h. omega (arith, (start_there f h).0, s.few);
    place_below = λ f h. (start_there f h).1;
  }

  vertices_few : c.vertices ≤ 512
  vertices_few = omega (arith, s.numbering.count_le, length-take-le c.darts order (out_long linked s.place_below s.volume_marked s.order), s.few)

  first_there : (k : ℕ) → k < c.vertices → get_or firsts k 0 < count_in m
  first_there k h = (out_whole linked s.place_below s.volume_marked s.order).below (get_or firsts k 0) (s.numbering.firsts_in k h)

  pub pointed : Pointed m firsts c.vertices
  pointed = record {
    held = λ k h. omega (arith, first_there k h, linked.size);
    firsts_size = s.numbering.firsts_size;
    few = vertices_few;
    below = λ k h. omega (arith, first_there k h, linked.few);
    finite = λ k h. finite_there m ok (get_or firsts k 0) (first_there k h);
  }
