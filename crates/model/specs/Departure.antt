-- A volume leaves a block: questions 9 to 14, the messages, and the block without it. Assumes nothing.
use Rattle.std.specs.Prelude.{Bool, false, cond, not, ◌&&◌, List, [], ◌∷◌, map, ℕ, suc, ◌+◌, leb, ltb, eqb, length}
use Rattle.std.proofs.Math.Option.{Option, none, some}
use Rattle.model.specs.Lists.{all, keep, mem, collect, concat, concat_map, tab, Check}
use Rattle.model.specs.Values.{blocks, last_block, number_bound, Label, Third, free, sewn, critical, Dart, Block, code, is_critical_with, partner}
use Rattle.model.specs.Layouts.{framed}
use Rattle.model.specs.Cells.{vertices, vertex_number, start_of, dart_at, held, next_in, opposite_in, third_at, volume_in, faces_in, labels_along, least_label}
use Rattle.model.specs.Links.{pairs_once, vertex_pairs, Placed, placed, relink, label_faces}
use Rattle.model.specs.Messages.{Part2, Part3, Part4, Transfer, Update, transfer, update}

-- QUESTIONS 9 TO 14
-- 12: "No dart sewn within the volume"
abbrev pub is_sewn_into : List ℕ → Third → Bool
is_sewn_into v free = false
is_sewn_into v (sewn y) = mem y v
is_sewn_into v (critical o l) = false

abbrev pub is_sewn_out_of : List ℕ → Third → Bool
is_sewn_out_of v free = false
is_sewn_out_of v (sewn y) = not (mem y v)
is_sewn_out_of v (critical o l) = false

-- the faces of a dart's volume that are sewn to another volume, in message order: part 3's faces, and what 14 counts
unfoldable pub sewn_faces : List Dart → ℕ → List (List ℕ)
sewn_faces ds s = keep (λ f. is_sewn_out_of (volume_in ds s) (third_at ds (start_of f))) (faces_in ds s)

-- of the volume of dart s, of at most `most` darts, that goes from block b to block j
unfoldable pub departure_checks : ℕ → Block → ℕ → ℕ → List Check
departure_checks most b j s =
    let ds = b.darts in
    let v = volume_in ds s in
    (9, leb j last_block && not (eqb j b.number)) ∷ (10, held ds s) ∷ (11, leb (length v) most)
    ∷ (12, all (λ x. not (is_sewn_into v (third_at ds x))) v)
    ∷ (13, pairs_once (vertex_pairs (next_in ds) (opposite_in ds) v))
    ∷ (14, ltb (b.counter + length (sewn_faces ds s)) number_bound) ∷ []

-- THE TRANSFER
-- "Part 2 lists faces critical with j; part 3 the sewn faces; part 4 other critical faces", by the third link of the start
abbrev pub part2_entry : ℕ → ℕ → Third → Option Part2
part2_entry j i free = none
part2_entry j i (sewn y) = none
part2_entry j i (critical o l) = cond (eqb o j) (some (record { label = l; index = i })) none

-- "The f-th part 3 face gets number counter + f"
unfoldable pub part3_from : ℕ → List ℕ → List Part3
part3_from c [] = []
part3_from c (i ∷ is) = record { number = c; index = i } ∷ part3_from (suc c) is

abbrev pub part4_entry : List Dart → ℕ → Placed → Third → Option Part4
part4_entry ds j p free = none
part4_entry ds j p (sewn y) = none
part4_entry ds j p (critical o l) = cond (eqb o j) none (some (record { index = p.at; other = o; labels = labels_along ds p.face }))

unfoldable pub transfer_of : Block → ℕ → ℕ → Transfer
transfer_of b j s =
    let ds = b.darts in
    let nx = next_in ds in
    let op = opposite_in ds in
    let fs = faces_in ds s in
    let ps = placed 0 fs in
    record {
      from = b.number;
      to = j;
      points = map (λ x. (dart_at ds x).point) (vertices nx op (concat fs));
      faces = map (λ f. map (λ x. record { vertex = vertex_number nx op (concat fs) x; serial = x }) f) fs;
      part2 = collect (λ p. part2_entry j p.at (third_at ds (start_of p.face))) ps;
      part3 = part3_from b.counter (map (λ p. p.at) (keep (λ p. is_sewn_out_of (volume_in ds s) (third_at ds (start_of p.face))) ps));
      part4 = collect (λ p. part4_entry ds j p (third_at ds (start_of p.face))) ps;
    }

-- THE UPDATES
-- "the least label of each face"
unfoldable pub least_labels : List Dart → List ℕ → List Label
least_labels ds f = keep (λ l. eqb (code l) (least_label ds f)) (labels_along ds f)

-- for block k, if it is a relative: "a block other than j that shares a critical face with the volume"; fs are those faces
unfoldable pub update_for : Block → ℕ → ℕ → List (List ℕ) → Option Update
update_for b j k [] = none
update_for b j k (f ∷ fs) = cond (eqb k j) none
    (some (record { from = b.number; to = k; block = j; labels = concat_map (least_labels b.darts) (f ∷ fs) }))

-- "an update for each relative k, by ascending k", labels "in the transfer's face order"
unfoldable pub updates_of : Block → ℕ → ℕ → List Update
updates_of b j s =
    collect (λ k. update_for b j k (keep (λ f. is_critical_with k (third_at b.darts (start_of f))) (faces_in b.darts s))) (tab (λ k. k) blocks)

-- "the transfer, then an update for each relative"
unfoldable pub messages : Block → ℕ → ℕ → List (List ℕ)
messages b j s = framed transfer (transfer_of b j s) ∷ map (framed update) (updates_of b j s)

-- THE BLOCK WITHOUT THE VOLUME
-- let go "removes the volume, labels the faces left behind with other block j" ("the dart sewn to each takes the same label"),
-- "and advances the counter by the part 3 count"
unfoldable pub released : Block → ℕ → ℕ → Block
released b j s =
    let ds = b.darts in
    let v = volume_in ds s in
    let fs = sewn_faces ds s in
    let links = label_faces (λ x. partner (third_at ds x)) j b.number b.counter fs in
    record { number = b.number; counter = b.counter + length fs; darts = map (relink links) (keep (λ d. not (mem d.serial v)) ds) }
