-- Sound blocks and sound meshes, as tests. Each test has the number of its question (3 to 8 of a block, 23 to 27 of a mesh).
-- Assumes nothing.
use Rattle.std.specs.Prelude.{Bool, true, false, not, ◌&&◌, ◌||◌, List, [], ◌∷◌, map, ◌≡◌, ℕ, suc, ◌≤◌, min, leb, ltb, eqb, length, get_or}
use Rattle.model.specs.Lists.{all, any, keep, distinct, ascending, concat_map, passed, Check}
use Rattle.model.specs.Values.{room, message_darts, blocks, last_block, last_position, number_bound, Third, free, sewn, critical, Dart, Block, no_block, Limits, serial_bound, code, label_key, has_label, same_point, finite, is_free, is_sewn_to, is_critical_with}
use Rattle.model.specs.Cells.{dart_at, held, next_in, opposite_in, third_at, previous_in, serials, labels, labelled}

-- RANGES, what is left of 3 where bytes or memory are read: "block, other blocks and makers at most 15, positions at most 4,095, at
-- most 4,096 darts, darts' own serials at least 1 and ascending"
abbrev pub third_in_range : Third → Bool
third_in_range free = true
third_in_range (sewn y) = true
third_in_range (critical o l) = leb o last_block && leb l.maker last_block && ltb l.number number_bound && leb l.position last_position

unfoldable pub dart_in_range : Dart → Bool
dart_in_range d = leb 1 d.serial && ltb d.serial serial_bound && third_in_range d.third

unfoldable pub ranges_right : Limits → Block → Bool
ranges_right lim b = leb b.number last_block && ltb b.counter number_bound && leb (length b.darts) lim.block_darts
    && all dart_in_range b.darts && ascending (serials b.darts)

-- 4
unfoldable pub coordinates_finite : List Dart → Bool
coordinates_finite ds = all (λ d. finite d.point) ds

-- 5: "Next is a permutation of the block's darts. Opposite is its own inverse and fixes no dart"
unfoldable pub link_right : List Dart → Dart → Bool
link_right ds d = held ds d.next && any (λ e. eqb e.next d.serial) ds
    && held ds d.opposite && eqb (opposite_in ds d.opposite) d.serial && not (eqb d.opposite d.serial)

unfoldable pub links_right : List Dart → Bool
links_right ds = all (link_right ds) ds

-- 6: a face's "darts are all free, all sewn, or all critical with one other block. Sewing is its own inverse, fixes no dart, and
-- β3(next d) = previous(β3 d)"
abbrev pub sewn_along : List Dart → ℕ → Third → Bool
sewn_along ds y free = false
sewn_along ds y (sewn z) = eqb (next_in ds z) y
sewn_along ds y (critical o l) = false

unfoldable pub third_right : List Dart → Dart → Third → Bool
third_right ds d free = is_free (third_at ds d.next)
third_right ds d (sewn y) = held ds y && is_sewn_to d.serial (third_at ds y) && not (eqb y d.serial) && sewn_along ds y (third_at ds d.next)
third_right ds d (critical o l) = is_critical_with o (third_at ds d.next)

unfoldable pub thirds_right : List Dart → Bool
thirds_right ds = all (λ d. third_right ds d d.third) ds

-- 7: "critical labels differ, the other block is not the block itself, and own-made labels lie below the counter"
abbrev pub label_right : ℕ → ℕ → Third → Bool
label_right me counter free = true
label_right me counter (sewn y) = true
label_right me counter (critical o l) = not (eqb o me) && (not (eqb l.maker me) || ltb l.number counter)

unfoldable pub labels_right : Block → Bool
labels_right b = all (λ d. label_right b.number b.counter d.third) b.darts && distinct (map code (labels b.darts))

-- 8: "d and next(opposite d) have one point, and so do d and next(β3 d)"
abbrev pub sewn_points : List Dart → Dart → Third → Bool
sewn_points ds d free = true
sewn_points ds d (sewn y) = same_point d.point (dart_at ds (next_in ds y)).point
sewn_points ds d (critical o l) = true

unfoldable pub points_agree : List Dart → Bool
points_agree ds = all (λ d. same_point d.point (dart_at ds (next_in ds d.opposite)).point && sewn_points ds d d.third) ds

-- 4 to 8, in order
unfoldable pub block_checks : Block → List Check
block_checks b =
    (4, coordinates_finite b.darts) ∷ (5, links_right b.darts) ∷ (6, thirds_right b.darts) ∷ (7, labels_right b) ∷ (8, points_agree b.darts) ∷ []

-- "In a sound block all the above holds"
unfoldable pub sound_block : Limits → Block → Bool
sound_block lim b = ranges_right lim b && passed (block_checks b)

-- MESHES: blocks 0 to k−1 as a list
unfoldable pub block_at : List Block → ℕ → Block
block_at m i = get_or m i no_block

unfoldable pub all_darts : List Block → List Dart
all_darts m = concat_map (λ b. b.darts) m

-- 23: "blocks 0 to k−1, k from 1 to 16"
unfoldable pub numbered_from : ℕ → List Block → Bool
numbered_from i [] = true
numbered_from i (b ∷ m) = eqb b.number i && numbered_from (suc i) m

unfoldable pub blocks_right : List Block → Bool
blocks_right m = leb 1 (length m) && leb (length m) blocks && numbered_from 0 m

-- 24
unfoldable pub serials_distinct : List Block → Bool
serials_distinct m = distinct (serials (all_darts m))

-- 25, of a dart d of block b: "Each label stands on exactly two darts, in two blocks that name each other; if d and d' share a label,
-- next d and previous d' share one"
abbrev pub share_label : Third → Third → Bool
share_label s t = ltb 0 (label_key s) && eqb (label_key s) (label_key t)

unfoldable pub paired : List Block → Block → Dart → Third → Bool
paired m b d free = true
paired m b d (sewn y) = true
paired m b d (critical o l) =
    let es = (block_at m o).darts in
    let e = labelled l es in
    eqb (length (keep (λ c. has_label l c.third) (all_darts m))) 2
    && is_critical_with b.number e.third
    && share_label (third_at b.darts d.next) (third_at es (previous_in es e.serial))

unfoldable pub labels_paired : List Block → Bool
labels_paired m = all (λ b. all (λ d. paired m b d d.third) b.darts) m

-- 26: "Points agree across such pairs as for sewing"
unfoldable pub same_across : List Block → Dart → Third → Bool
same_across m d free = true
same_across m d (sewn y) = true
same_across m d (critical o l) = let es = (block_at m o).darts in same_point d.point (dart_at es (labelled l es).next).point

unfoldable pub points_across : List Block → Bool
points_across m = all (λ b. all (λ d. same_across m d d.third) b.darts) m

-- 27: "makers are below k, and every label's number is below its maker's counter"
unfoldable pub made_before : List Block → Third → Bool
made_before m free = true
made_before m (sewn y) = true
made_before m (critical o l) = ltb l.maker (length m) && ltb l.number (block_at m l.maker).counter

unfoldable pub makers_right : List Block → Bool
makers_right m = all (λ b. all (λ d. made_before m d.third) b.darts) m

-- 23 to 27, in order
unfoldable pub mesh_checks : List Block → List Check
mesh_checks m = (23, blocks_right m) ∷ (24, serials_distinct m) ∷ (25, labels_paired m) ∷ (26, points_across m) ∷ (27, makers_right m) ∷ []

-- "A sound mesh has blocks 0 to k−1, k from 1 to 16, all sound, serials distinct", and so on
unfoldable pub sound_mesh : (ℕ → Limits) → List Block → Bool
sound_mesh lims m = all (λ b. sound_block (lims b.number) b) m && passed (mesh_checks m)

abbrev pub Sound : (ℕ → Limits) → List Block → Type 0
Sound lims m = sound_mesh lims m ≡ true

-- LIMITS THAT FIT: none are wider than `widest`
pub record Fit (lims : ℕ → Limits) : Type 0 where
  pub block_fits : (b : ℕ) → (lims b).block_darts ≤ room
  pub volume_fits : (b : ℕ) → (lims b).volume_darts ≤ message_darts

-- "64 for a round into or out of" a viewer: a volume that goes from block i to block j keeps to the limits of both
abbrev pub volume_limit : (ℕ → Limits) → ℕ → ℕ → ℕ
volume_limit lims i j = min (lims i).volume_darts (lims j).volume_darts
