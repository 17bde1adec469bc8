-- A volume that 9 to 14 let leave a sound block: what the questions say of it, and that it is closed under next and opposite.
-- Assumes nothing.
use mathlib.Core.Path.{◌≡◌, sym, ◌∙◌, ap}
use mathlib.Core.Logic.{◌≢◌}
use mathlib.Core.Bool.{true, not, ◌&&◌}
use mathlib.Core.List.{List}
use Prim.Native.Nat.{ℕ, ◌+◌, ◌^◌, ◌<◌, ◌≤◌}
use native.Mathlib.Omega.{arith}
use lib.Dec.{leb, ltb, eqb}
use lib.ListN.{length, length-map}
use borrow.Author.Tests.{eqb-false, leb-true, ltb-true, not-true}
use Rattle.model.specs.Lists.{mem, ascending, first_no}
use Rattle.model.specs.Values.{Dart, Block, Limits, serial_bound, finite}
use Rattle.model.specs.Cells.{volume, serials, dart_at, next_in, opposite_in, previous_in, third_at, volume_in}
use Rattle.model.specs.Sound.{third_in_range, dart_in_range, coordinates_finite, sound_block}
use Rattle.model.specs.Departure.{sewn_faces, departure_checks}
use Rattle.laws.proofs.Members.{In, in_keep, keep_in, keep_le, keep_ascending, ascending_distinct}
use Rattle.laws.proofs.Tests.{and_left, and_right, yes_first}
use Rattle.laws.proofs.Volumes.{Volume, volume_is}
use Rattle.theory.proofs.BlockLaws.{at_held, Links, links_from}
use Rattle.theory.proofs.ImageLaws.{Parts, parts_of, Ranges, ranges_of}

module _ (lim : Limits) (b : Block) (fits : lim.block_darts ≤ 4096) (sound : sound_block lim b ≡ true) where
  abbrev ds : List Dart
  ds = b.darts

  abbrev all_serials : List ℕ
  all_serials = serials ds

  -- THE BLOCK
  pub parts : Parts lim b
  parts = parts_of lim b sound

  pub ranges : Ranges lim b
  ranges = ranges_of lim b parts.ranges

  pub links : Links ds
  links = links_from ds (ascending_distinct all_serials ranges.in_order) parts.links

  pub next_one : (x y : ℕ) → In x all_serials → In y all_serials → next_in ds x ≡ next_in ds y → x ≡ y
  next_one x y hx hy e = sym (links.previous_next x hx) ∙ ap (previous_in ds) e ∙ links.previous_next y hy

  pub few : length all_serials ≤ 4096
  few = omega (arith, length-map ds (λ (d : Dart). d.serial), ranges.few_darts)

  pub dart_right : (x : ℕ) → In x all_serials → (x < serial_bound) × (third_in_range (third_at ds x) ≡ true)
  unfolding dart_in_range
  dart_right x h =
      let r = at_held dart_in_range ds ranges.each_dart x h in
      let d = dart_at ds x in
      let own = and_right (leb 1 d.serial) _ (and_left (leb 1 d.serial && ltb d.serial serial_bound) _ r.0) in
      (rw (← r.1) (ltb-true d.serial serial_bound own), and_right (leb 1 d.serial && ltb d.serial serial_bound) _ r.0)

  pub point_finite : (x : ℕ) → In x all_serials → finite (dart_at ds x).point ≡ true
  unfolding coordinates_finite
  point_finite x h = (at_held (λ d. finite d.point) ds parts.finite x h).0

  module _ (j s : ℕ) (asks : first_no (departure_checks lim.volume_darts b j s) ≡ 0) where
    abbrev v : List ℕ
    v = volume_in ds s

    -- THE QUESTIONS
    pub record Asked : Type 0 where
      pub small : j ≤ 15
      pub elsewhere : j ≢ b.number
      pub here : In s all_serials
      pub few_moved : length v ≤ lim.volume_darts
      pub counter : b.counter + length (sewn_faces ds s) < 2 ^ 32

    pub asked : Asked
    unfolding departure_checks
    asked =
        let q9 = yes_first 9 (leb j 15 && not (eqb j b.number)) _ (λ z. omega arith) asks in
        let q10 = yes_first 10 (mem s all_serials) _ (λ z. omega arith) q9.1 in
        let q11 = yes_first 11 (leb (length v) lim.volume_darts) _ (λ z. omega arith) q10.1 in
        let q12 = yes_first 12 _ _ (λ z. omega arith) q11.1 in
        let q13 = yes_first 13 _ _ (λ z. omega arith) q12.1 in
        let q14 = yes_first 14 (ltb (b.counter + length (sewn_faces ds s)) (2 ^ 32)) _ (λ z. omega arith) q13.1 in
        record {
          small = leb-true j 15 (and_left (leb j 15) _ q9.0);
          elsewhere = eqb-false j b.number (not-true (eqb j b.number) (and_right (leb j 15) _ q9.0));
          here = q10.0;
          few_moved = leb-true (length v) lim.volume_darts q11.0;
          counter = ltb-true (b.counter + length (sewn_faces ds s)) (2 ^ 32) q14.0;
        }

    -- THE VOLUME
    reached : Volume (next_in ds) (opposite_in ds) s (volume (next_in ds) (opposite_in ds) s)
    reached = volume_is (next_in ds) (opposite_in ds) all_serials links.next_in_block links.opposite_in_block few s asked.here

    pub in_block : (x : ℕ) → In x v → In x all_serials
    unfolding volume_in
    in_block x h = (keep_in (λ y. mem y (volume (next_in ds) (opposite_in ds) s)) all_serials x h).0

    pub has_start : In s v
    unfolding volume_in
    has_start = in_keep (λ y. mem y (volume (next_in ds) (opposite_in ds) s)) s all_serials asked.here reached.here

    pub closed_next : (x : ℕ) → In x v → In (next_in ds x) v
    unfolding volume_in
    closed_next x h = let a = keep_in (λ y. mem y (volume (next_in ds) (opposite_in ds) s)) all_serials x h in
        in_keep (λ y. mem y (volume (next_in ds) (opposite_in ds) s)) (next_in ds x) all_serials (links.next_in_block x a.0) (reached.closed_f x a.1)

    pub closed_opposite : (x : ℕ) → In x v → In (opposite_in ds x) v
    unfolding volume_in
    closed_opposite x h = let a = keep_in (λ y. mem y (volume (next_in ds) (opposite_in ds) s)) all_serials x h in
        in_keep (λ y. mem y (volume (next_in ds) (opposite_in ds) s)) (opposite_in ds x) all_serials (links.opposite_in_block x a.0) (reached.closed_g x a.1)

    pub in_order : ascending v ≡ true
    unfolding volume_in
    in_order = keep_ascending (λ y. mem y (volume (next_in ds) (opposite_in ds) s)) all_serials ranges.in_order

    pub v_few : length v ≤ 4096
    unfolding volume_in
    v_few = omega (arith, keep_le (λ y. mem y (volume (next_in ds) (opposite_in ds) s)) all_serials, few)

    pub v_one : (x y : ℕ) → In x v → In y v → next_in ds x ≡ next_in ds y → x ≡ y
    v_one x y hx hy e = next_one x y (in_block x hx) (in_block y hy) e
