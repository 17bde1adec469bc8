-- A message reaches a block: questions 16 to 22, the block with the volume, and the block that names the new owner. Assumes nothing.
use Rattle.std.specs.Prelude.{Bool, true, false, not, ◌&&◌, ◌||◌, List, [], ◌∷◌, ◌++◌, map, ℕ, suc, ◌+◌, leb, ltb, eqb, length, get_or}
use Rattle.std.proofs.Math.Option.{Option, none, some}
use Rattle.model.specs.Lists.{all, any, keep, mem, distinct, ascending, find, insert, collect, zip, concat_map, turned, least, same_list, Check}
use Rattle.model.specs.Values.{Label, free, critical, Dart, Block, Limits, code, same_point, finite, no_point, is_critical_with, label_of, with_other}
use Rattle.model.specs.Cells.{cycle, volume, vertices, vertex_number, start_of, dart_at, held, next_in, opposite_in, previous_in, third_at, labels, least_label, labelled}
use Rattle.model.specs.Messages.{FaceDart, Part2, Part3, Part4, Transfer, Update, size_all, Message, a_transfer, an_update, no_message}
use Rattle.model.specs.Links.{pairs_once, Placed, placed, Link, relink, label_links, sew_both}

-- THE DARTS OF A TRANSFER
-- a dart with the serial after it in its face, and the vertices of both
pub record Side : Type 0 where
  pub serial : ℕ
  pub next : ℕ
  pub tail : ℕ
  pub head : ℕ

unfoldable pub sides_of : List FaceDart → List Side
sides_of f = map (λ p. record { serial = p.0.serial; next = p.1.serial; tail = p.0.vertex; head = p.1.vertex }) (zip f (turned f))

unfoldable pub sides : Transfer → List Side
sides t = concat_map sides_of t.faces

-- "two darts are opposite when their ordered pairs are reversed"
unfoldable pub reverses : Side → Side → Bool
reverses a b = eqb a.tail b.head && eqb a.head b.tail

abbrev pub first_serial : List Side → ℕ
first_serial [] = 0
first_serial (a ∷ as') = a.serial

unfoldable pub opposite_of : List Side → Side → ℕ
opposite_of ss a = first_serial (keep (reverses a) ss)

unfoldable pub new_dart : Transfer → Side → Dart
new_dart t a = record { serial = a.serial; next = a.next; opposite = opposite_of (sides t) a; third = free; point = get_or t.points a.tail no_point }

unfoldable pub new_darts : Transfer → List Dart
new_darts t = map (new_dart t) (sides t)

-- THE FACES OF A TRANSFER
abbrev pub face_serials : List FaceDart → List ℕ
face_serials f = map (λ c. c.serial) f

unfoldable pub placed_faces : Transfer → List Placed
placed_faces t = placed 0 (map face_serials t.faces)

abbrev pub face_or : Option Placed → List ℕ
face_or none = []
face_or (some p) = p.face

-- the face that starts at an index
unfoldable pub face_from : Transfer → ℕ → List ℕ
face_from t i = face_or (find (λ p. p.at) i (placed_faces t))

-- THE BLOCK WITH THE VOLUME
-- "part 2 faces become sewn, their labels go": the face that it meets goes against next
unfoldable pub part2_links : List Dart → Transfer → Part2 → List Link
part2_links ds t m = sew_both (zip (face_from t m.index) (cycle (previous_in ds) (labelled m.label ds).serial))

-- part 3 faces become critical with the sender, who is the maker
unfoldable pub part3_links : Transfer → Part3 → List Link
part3_links t m = label_links (λ x. x) t.from t.from m.number 0 (face_from t m.index)

-- part 4 faces keep their labels
unfoldable pub part4_links : Transfer → Part4 → List Link
part4_links t m = map (λ p. record { dart = p.0; third = critical m.other p.1 }) (zip (face_from t m.index) m.labels)

-- of parts 3 and 4
unfoldable pub critical_links : Transfer → List Link
critical_links t = concat_map (part3_links t) t.part3 ++ concat_map (part4_links t) t.part4

unfoldable pub transfer_links : List Dart → Transfer → List Link
transfer_links ds t = concat_map (part2_links ds t) t.part2 ++ critical_links t

abbrev pub insert_all : List Dart → List Dart → List Dart
insert_all [] es = es
insert_all (d ∷ ds) es = insert (λ e. e.serial) d (insert_all ds es)

-- take "at j adds the volume"
unfoldable pub received : Block → Transfer → Block
received b t = let links = transfer_links b.darts t in
    record { number = b.number; counter = b.counter; darts = insert_all (map (relink links) (new_darts t)) (map (relink links) b.darts) }

-- QUESTIONS 16 TO 21
-- 18: "Coordinates finite, serials at least 1, distinct, not held"
unfoldable pub serials_new : List Dart → Transfer → Bool
serials_new ds t = all finite t.points && all (λ a. leb 1 a.serial && not (held ds a.serial)) (sides t) && distinct (map (λ a. a.serial) (sides t))

-- 19: "No face of size 0", faces by least serial, each started at its least serial
unfoldable pub faces_ordered : Transfer → Bool
faces_ordered t = let fs = map face_serials t.faces in
    all (λ f. ltb 0 (length f) && all (leb (start_of f)) f) fs && ascending (map start_of fs)

-- "pairs as in 13 with each reverse present"
unfoldable pub pairs_right : List Side → Bool
pairs_right ss = pairs_once (map (λ a. (a.tail, a.head)) ss) && all (λ a. any (reverses a) ss) ss

-- "one volume", that of the first dart
unfoldable pub one_volume : Transfer → Bool
one_volume t =
    let ds = new_darts t in
    let v = volume (next_in ds) (opposite_in ds) (first_serial (sides t)) in
    all (λ a. mem a.serial v) (sides t)

-- "order and numbering as above": vertices are the volume's rings, numbered by first use, and each has one point
unfoldable pub vertices_right : Transfer → Bool
vertices_right t =
    let nx = next_in (new_darts t) in
    let op = opposite_in (new_darts t) in
    let order = map (λ a. a.serial) (sides t) in
    same_list (map (λ a. a.tail) (sides t)) (map (vertex_number nx op order) order) && eqb (length t.points) (length (vertices nx op order))

unfoldable pub volume_right : Transfer → Bool
volume_right t = faces_ordered t && pairs_right (sides t) && one_volume t && vertices_right t

-- 20: "face starts, ascending, no face in two parts"
unfoldable pub indices_right : Transfer → Bool
indices_right t =
    let part2 = map (λ m. m.index) t.part2 in
    let part3 = map (λ m. m.index) t.part3 in
    let part4 = map (λ m. m.index) t.part4 in
    all (λ i. mem i (map (λ p. p.at) (placed_faces t))) (part2 ++ part3 ++ part4) && ascending part2 && ascending part3 && ascending part4
    && distinct (part2 ++ part3 ++ part4)

-- "part 2 labels held, critical with the sender", on faces "of equal size with agreeing points": x of the message meets y
unfoldable pub points_meet : List Dart → Transfer → ℕ → ℕ → Bool
points_meet ds t x y = let new = new_darts t in
    same_point (dart_at new x).point (dart_at ds (next_in ds y)).point && same_point (dart_at ds y).point (dart_at new (next_in new x)).point

unfoldable pub part2_right : List Dart → Transfer → Part2 → Bool
part2_right ds t m =
    let e = labelled m.label ds in
    let face = face_from t m.index in
    let met = cycle (previous_in ds) e.serial in
    is_critical_with t.from e.third && eqb (length face) (length met) && all (λ p. points_meet ds t p.0 p.1) (zip face met)

-- "on different faces"
unfoldable pub part2_apart : List Dart → List Part2 → Bool
part2_apart ds ms = distinct (map (λ m. least (cycle (next_in ds) (labelled m.label ds).serial)) ms)

-- "part 3 numbers consecutive"
abbrev pub consecutive : List Part3 → Bool
consecutive [] = true
consecutive (m ∷ []) = true
consecutive (m ∷ n ∷ ms) = eqb (suc m.number) n.number && consecutive (n ∷ ms)

-- "part 3 and 4 labels new and distinct, own-made ones below the counter"
unfoldable pub label_new : Block → Label → Bool
label_new b l = not (mem (code l) (map code (labels b.darts))) && (not (eqb l.maker b.number) || ltb l.number b.counter)

unfoldable pub labels_new : Block → Transfer → Bool
labels_new b t = let ls = collect (λ k. label_of k.third) (critical_links t) in all (label_new b) ls && distinct (map code ls)

-- "part 4 blocks neither end"
unfoldable pub parts_right : Block → Transfer → Bool
parts_right b t = indices_right t && all (part2_right b.darts t) t.part2 && part2_apart b.darts t.part2 && consecutive t.part3
    && labels_new b t && all (λ k. not (eqb k.other t.from) && not (eqb k.other t.to)) t.part4

-- 17: "Right kind, addressed here, from elsewhere"
abbrev pub addressed : ℕ → ℕ → Block → Bool
addressed from to b = eqb to b.number && not (eqb from b.number)

-- 16 to 21, of take; 29 "when a transfer of more than 64 darts reaches a viewer, put after 17"
unfoldable pub receive_checks : Limits → Block → Message → List Check
receive_checks lim b no_message = (16, false) ∷ []
receive_checks lim b (an_update u) = (17, false) ∷ []
receive_checks lim b (a_transfer t) =
    (17, addressed t.from t.to b) ∷ (29, leb (size_all t.faces) lim.volume_darts) ∷ (18, serials_new b.darts t) ∷ (19, volume_right t) ∷ (20, parts_right b t)
    ∷ (21, leb (length b.darts + size_all t.faces) lim.block_darts) ∷ []

abbrev pub received_from : Block → Message → Block
received_from b (a_transfer t) = received b t
received_from b (an_update u) = b
received_from b no_message = b

-- TELL "sets the new block on the listed faces"
-- the face of this block that has a label
unfoldable pub face_with : List Dart → Label → List ℕ
face_with ds l = cycle (next_in ds) (labelled l ds).serial

-- 22, of a label: "the least of a different critical face shared with the sender"
unfoldable pub names_face : List Dart → ℕ → Label → Bool
names_face ds from l = is_critical_with from (labelled l ds).third && eqb (code l) (least_label ds (face_with ds l))

unfoldable pub update_right : Block → Update → Bool
update_right b u = not (eqb u.block u.from) && not (eqb u.block u.to) && all (names_face b.darts u.from) u.labels
    && distinct (map code u.labels)

-- 16, 17, 22, of tell
unfoldable pub redirect_checks : Block → Message → List Check
redirect_checks b no_message = (16, false) ∷ []
redirect_checks b (a_transfer t) = (17, false) ∷ []
redirect_checks b (an_update u) = (17, addressed u.from u.to b) ∷ (22, update_right b u) ∷ []

unfoldable pub update_links : List Dart → Update → List Link
update_links ds u = concat_map (λ l. map (λ x. record { dart = x; third = with_other u.block (third_at ds x) }) (face_with ds l)) u.labels

unfoldable pub redirected : Block → Update → Block
redirected b u = record { number = b.number; counter = b.counter; darts = map (relink (update_links b.darts u)) b.darts }

abbrev pub redirected_from : Block → Message → Block
redirected_from b (an_update u) = redirected b u
redirected_from b (a_transfer t) = b
redirected_from b no_message = b
