-- How many bytes values take at the most, by their layouts. Assumes nothing.
use mathlib.Core.List.{List, [], ◌∷◌, ◌++◌}
use Prim.Native.Nat.{ℕ, zero, suc, ◌+◌, ◌*◌, ◌/◌, ◌≤◌}
use native.Mathlib.Omega.{arith}
use native.Mathlib.Nat.{suc-mul}
use lib.Dec.{ltb}
use lib.ListN.{length, length-append}
use Rattle.model.specs.Values.{Point, Label}
use Rattle.model.specs.Layouts.{Layout, groups, group_below, group, serial, low_bytes, coordinate, ◌⊗◌, ◌⊕◌, as_type, such_that, at_most, exactly, put_all, times, counted}
use Rattle.model.specs.Messages.{FaceDart, Part2, Part3, Part4, point, label, face_dart, part2, part3, part4, Update, update}
use Rattle.laws.proofs.Members.{Each}
use Rattle.laws.proofs.Tests.{by_cases}

groups_short : (n v : ℕ) → length (groups n v) ≤ suc n
unfolding groups
groups_short zero v = omega arith
groups_short (suc n) v = by_cases (ltb v 128) (λ e. rw e (omega arith)) (λ e. rw e (let ih = groups_short n (v / 128) in omega arith))

pub group_short : (v : ℕ) → length (group.put v) ≤ 5
unfolding group group_below
group_short v = groups_short 4 v

pub serial_short : (v : ℕ) → length (serial.put v) ≤ 5
unfolding serial group_below
serial_short v = groups_short 4 v

pub all_short : {A : Type 0} (l : Layout A) (m : ℕ) (as' : List A) → Each (λ a. length (l.put a) ≤ m) as' → length (put_all l as') ≤ length as' * m
unfolding put_all
all_short l m [] e = omega arith
all_short l m (a ∷ as') e = let ih = all_short l m as' e.1 in let h = e.0 in omega (arith, length-append (l.put a) (put_all l as'), suc-mul (length as') m)

pub counted_short : {A : Type 0} (l : Layout A) (m : ℕ) (as' : List A) → Each (λ a. length (l.put a) ≤ m) as' → length ((counted l).put as') ≤ 5 + length as' * m
unfolding counted as_type ◌⊗◌ times
counted_short l m as' e = let a = all_short l m as' e in let b = group_short (length as') in omega (arith, length-append (group.put (length as')) (put_all l as'))

pub pair_short : {A B : Type 0} (l : Layout A) (m : Layout B) (a : A) (b : B) (x y : ℕ) → length (l.put a) ≤ x → length (m.put b) ≤ y → length ((l ⊕ m).put (a, b)) ≤ x + y
unfolding ◌⊕◌ ◌⊗◌
pair_short l m a b x y h k = omega (arith, length-append (l.put a) (m.put b))

coordinate_short : (v : ℕ) → length (coordinate.put v) ≤ 8
unfolding coordinate low_bytes
coordinate_short v = omega arith

pub point_short : (p : Point) → length (point.put p) ≤ 24
unfolding point as_type
point_short p =
    pair_short coordinate (coordinate ⊕ coordinate) p.x (p.y, p.z) 8 16 (coordinate_short p.x)
    (pair_short coordinate coordinate p.y p.z 8 8 (coordinate_short p.y) (coordinate_short p.z))

pub at_most_short : (n v : ℕ) → length ((at_most n).put v) ≤ 5
unfolding at_most such_that
at_most_short n v = group_short v

pub exactly_short : (n v : ℕ) → length ((exactly n).put v) ≤ 5
unfolding exactly such_that
exactly_short n v = group_short v

pub label_short : (l : Label) → length (label.put l) ≤ 15
unfolding label as_type
label_short l =
    pair_short (at_most 15) (group ⊕ at_most 4095) l.maker (l.number, l.position) 5 10 (at_most_short 15 l.maker)
    (pair_short group (at_most 4095) l.number l.position 5 5 (group_short l.number) (at_most_short 4095 l.position))

pub face_dart_short : (d : FaceDart) → length (face_dart.put d) ≤ 10
unfolding face_dart as_type
face_dart_short d = pair_short group serial d.vertex d.serial 5 5 (group_short d.vertex) (serial_short d.serial)

pub part2_short : (m : Part2) → length (part2.put m) ≤ 20
unfolding part2 as_type
part2_short m = pair_short label group m.label m.index 15 5 (label_short m.label) (group_short m.index)

pub part3_short : (m : Part3) → length (part3.put m) ≤ 10
unfolding part3 as_type
part3_short m = pair_short group group m.number m.index 5 5 (group_short m.number) (group_short m.index)

pub each_of : {A : Type 0} {P : A → Type 0} (l : List A) → ((a : A) → P a) → Each P l
each_of [] h = tt
each_of (a ∷ l) h = (h a, each_of l h)

labels_short : (l : List Label) → length (put_all label l) ≤ length l * 15
labels_short l = all_short label 15 l (each_of l label_short)

pub part4_short : (fs : List (List FaceDart)) (m : Part4) → length ((part4 fs).put m) ≤ 10 + length m.labels * 15
unfolding part4 as_type ◌⊗◌ ◌⊕◌ such_that times
part4_short fs m =
    let a = group_short m.index in
    let b = at_most_short 15 m.other in
    let c = labels_short m.labels in
    omega (arith, length-append (group.put m.index) ((at_most 15).put m.other ++ put_all label m.labels), length-append ((at_most 15).put m.other) (put_all label m.labels))

pub update_short : (w : Update) → length (update.put w) ≤ 25 + length w.labels * 15
unfolding update as_type ◌⊕◌ ◌⊗◌
update_short w =
    let a = exactly_short 2 2 in
    let b = at_most_short 15 w.from in
    let c = at_most_short 15 w.to in
    let d = at_most_short 15 w.block in
    let e = counted_short label 15 w.labels (each_of w.labels label_short) in
    omega (
      arith,
      length-append ((exactly 2).put 2) ((at_most 15).put w.from ++ ((at_most 15).put w.to ++ ((at_most 15).put w.block ++ (counted label).put w.labels))),
      length-append ((at_most 15).put w.from) ((at_most 15).put w.to ++ ((at_most 15).put w.block ++ (counted label).put w.labels)),
      length-append ((at_most 15).put w.to) ((at_most 15).put w.block ++ (counted label).put w.labels),
      length-append ((at_most 15).put w.block) ((counted label).put w.labels),
    )
