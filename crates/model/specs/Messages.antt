-- The three byte layouts: transfer, update, file. Assumes nothing.
use Rattle.std.specs.Prelude.{Bool, true, cond, ◌&&◌, List, [], ◌∷◌, ℕ, zero, suc, ◌+◌, ◌-◌, leb, ltb, eqb, length}
use Rattle.std.proofs.Math.Option.{Option, none, some}
use Rattle.model.specs.Lists.{all, ascending}
use Rattle.model.specs.Values.{last_block, last_position, message_darts, Point, Label, Third, free, sewn, critical, Dart, Block, Limits}
use Rattle.model.specs.Cells.{serials}
use Rattle.model.specs.Layouts.{Layout, Read, then, group, serial, coordinate, ◌⊗◌, ◌⊕◌, as_type, such_that, at_most, exactly, times, counted, unframed}

-- TRANSFER
-- a dart of a face: "vertex and serial of each dart"
pub record FaceDart : Type 0 where
  pub vertex : ℕ
  pub serial : ℕ

-- "Part 2: count, then label and dart index"
pub record Part2 : Type 0 where
  pub label : Label
  pub index : ℕ

-- "Part 3: count, then number and dart index"
pub record Part3 : Type 0 where
  pub number : ℕ
  pub index : ℕ

-- "Part 4: count, then dart index, other block, and the labels from there along next"
pub record Part4 : Type 0 where
  pub index : ℕ
  pub other : ℕ
  pub labels : List Label

pub record Transfer : Type 0 where
  pub from : ℕ
  pub to : ℕ
  pub points : List Point
  pub faces : List (List FaceDart)
  pub part2 : List Part2
  pub part3 : List Part3
  pub part4 : List Part4

unfoldable pub point : Layout Point
point = as_type (λ p. record { x = p.0; y = p.1.0; z = p.1.1 }) (λ p. (p.x, (p.y, p.z))) (coordinate ⊕ coordinate ⊕ coordinate)

unfoldable pub label : Layout Label
label = as_type (λ p. record { maker = p.0; number = p.1.0; position = p.1.1 }) (λ l. (l.maker, (l.number, l.position)))
    (at_most last_block ⊕ group ⊕ at_most last_position)

unfoldable pub face_dart : Layout FaceDart
face_dart = as_type (λ p. record { vertex = p.0; serial = p.1 }) (λ c. (c.vertex, c.serial)) (group ⊕ serial)

unfoldable pub part2 : Layout Part2
part2 = as_type (λ p. record { label = p.0; index = p.1 }) (λ m. (m.label, m.index)) (label ⊕ group)

unfoldable pub part3 : Layout Part3
part3 = as_type (λ p. record { number = p.0; index = p.1 }) (λ m. (m.number, m.index)) (group ⊕ group)

-- how many darts faces have
unfoldable pub size_all : {A : Type 0} → List (List A) → ℕ
size_all [] = 0
size_all (f ∷ fs) = length f + size_all fs

-- the size of the face that holds the dart with that index
unfoldable pub size_at : {A : Type 0} → ℕ → List (List A) → ℕ
size_at i [] = 0
size_at i (f ∷ fs) = cond (ltb i (length f)) (length f) (size_at (i - length f) fs)

-- the labels run along next, so there are as many as the face has darts; "part 4 indices below the dart count"
unfoldable pub part4 : List (List FaceDart) → Layout Part4
part4 fs = as_type (λ p. record { index = p.0; other = p.1.0; labels = p.1.1 }) (λ k. (k.index, (k.other, k.labels)))
    (such_that group (λ i. ltb i (size_all fs)) ⊗ (λ i. at_most last_block ⊕ times (size_at i fs) label))

-- "1, from, to, vertex count, points, face count; for each face its size, then vertex and serial of each dart"; "1 to 512 darts",
-- whatever the limits of its reader
abbrev pub Part1 : Type 0
Part1 = ℕ × (ℕ × (ℕ × (List Point × List (List FaceDart))))

-- its numbers and lists by name: kind, from, to, points, faces
abbrev pub part1_from : Part1 → ℕ
part1_from h = h.1.0

abbrev pub part1_to : Part1 → ℕ
part1_to h = h.1.1.0

abbrev pub part1_points : Part1 → List Point
part1_points h = h.1.1.1.0

abbrev pub part1_faces : Part1 → List (List FaceDart)
part1_faces h = h.1.1.1.1

unfoldable pub part1 : Layout Part1
part1 = exactly 1 ⊕ at_most last_block ⊕ at_most last_block ⊕ counted point
    ⊕ such_that (counted (counted face_dart)) (λ fs. leb 1 (size_all fs) && leb (size_all fs) message_darts)

unfoldable pub transfer : Layout Transfer
transfer = as_type
    (λ p. record {
      from = part1_from p.0;
      to = part1_to p.0;
      points = part1_points p.0;
      faces = part1_faces p.0;
      part2 = p.1.0;
      part3 = p.1.1.0;
      part4 = p.1.1.1;
    })
    (λ t. ((1, (t.from, (t.to, (t.points, t.faces)))), (t.part2, (t.part3, t.part4))))
    (part1 ⊗ (λ h. counted part2 ⊕ counted part3 ⊕ counted (part4 (part1_faces h))))

-- UPDATE: "2, from, to, new block, count, the least label of each face"
pub record Update : Type 0 where
  pub from : ℕ
  pub to : ℕ
  pub block : ℕ
  pub labels : List Label

-- its numbers and labels by name: kind, from, to, new block, labels
abbrev pub UpdateParts : Type 0
UpdateParts = ℕ × (ℕ × (ℕ × (ℕ × List Label)))

abbrev pub update_from : UpdateParts → ℕ
update_from u = u.1.0

abbrev pub update_to : UpdateParts → ℕ
update_to u = u.1.1.0

abbrev pub update_block : UpdateParts → ℕ
update_block u = u.1.1.1.0

abbrev pub update_labels : UpdateParts → List Label
update_labels u = u.1.1.1.1

unfoldable pub update : Layout Update
update = as_type (λ p. record { from = update_from p; to = update_to p; block = update_block p; labels = update_labels p })
    (λ u. (2, (u.from, (u.to, (u.block, u.labels)))))
    (exactly 2 ⊕ at_most last_block ⊕ at_most last_block ⊕ at_most last_block ⊕ counted label)

-- 16: what a slice of bytes is: one message of a kind, to the last byte, or none ("an unknown kind has none")
pub data Message : Type 0 where
  a_transfer : Transfer → Message
  an_update : Update → Message
  no_message : Message

abbrev pub one_of : Option Transfer → Option Update → Message
one_of (some t) u = a_transfer t
one_of none (some u) = an_update u
one_of none none = no_message

unfoldable pub message_in : List ℕ → Message
message_in bytes = one_of (unframed transfer bytes) (unframed update bytes)

-- FILE: "for each dart serial, next, opposite, kind (0 free; 1 sewn, serial; 2 critical, other block, label), point"
abbrev pub kind_of : Third → ℕ
kind_of free = 0
kind_of (sewn y) = 1
kind_of (critical o l) = 2

unfoldable pub critical_link : Layout (ℕ × Label)
critical_link = at_most last_block ⊕ label

abbrev pub third_ok : Third → Bool
third_ok free = true
third_ok (sewn s) = serial.ok s
third_ok (critical o l) = critical_link.ok (o, l)

unfoldable pub third_put : Third → List ℕ
third_put free = []
third_put (sewn s) = serial.put s
third_put (critical o l) = critical_link.put (o, l)

abbrev pub third_get : ℕ → List ℕ → Read Third
third_get zero bs = some (free, bs)
third_get (suc zero) bs = then (serial.get bs) (λ s rest. some (sewn s, rest))
third_get (suc (suc zero)) bs = then (critical_link.get bs) (λ c rest. some (critical c.0 c.1, rest))
third_get (suc (suc (suc k))) bs = none

-- what follows the kind k
unfoldable pub third : ℕ → Layout Third
third k = record { ok = λ t. eqb k (kind_of t) && third_ok t; put = third_put; get = third_get k }

-- a dart's numbers, third link and point by name: serial, next, opposite, kind and third link, point
abbrev pub DartParts : Type 0
DartParts = ℕ × (ℕ × (ℕ × ((ℕ × Third) × Point)))

abbrev pub dart_opposite : DartParts → ℕ
dart_opposite p = p.1.1.0

abbrev pub dart_third : DartParts → Third
dart_third p = p.1.1.1.0.1

abbrev pub dart_point : DartParts → Point
dart_point p = p.1.1.1.1

unfoldable pub a_dart : Layout Dart
a_dart = as_type
    (λ p. record { serial = p.0; next = p.1.0; opposite = dart_opposite p; third = dart_third p; point = dart_point p })
    (λ d. (d.serial, (d.next, (d.opposite, ((kind_of d.third, d.third), d.point)))))
    (serial ⊕ serial ⊕ serial ⊕ (at_most 2 ⊗ third) ⊕ point)

-- "block, counter, dart count", then the darts; 3 asks too for "at most 4,096 darts, darts' own serials at least 1 and ascending"
unfoldable pub file : Limits → Layout Block
file lim = such_that (as_type (λ p. record { number = p.0; counter = p.1.0; darts = p.1.1 }) (λ b. (b.number, (b.counter, b.darts)))
    (at_most last_block ⊕ group ⊕ counted a_dart))
    (λ b. leb (length b.darts) lim.block_darts && all (λ d. leb 1 d.serial) b.darts && ascending (serials b.darts))
