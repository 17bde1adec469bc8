-- What the range test of a transfer's layout says of its parts. Assumes nothing.
use mathlib.Core.Path.{◌≡◌}
use mathlib.Core.Bool.{Bool, true, ◌&&◌}
use mathlib.Core.List.{List}
use Prim.Native.Nat.{ℕ, ◌<◌, ◌≤◌, ◌^◌}
use lib.Dec.{leb, ltb, eqb}
use lib.ListN.{length}
use borrow.Author.Tests.{eqb-true, leb-true, ltb-true}
use Rattle.model.specs.Lists.{all}
use Rattle.model.specs.Values.{Label, serial_bound}
use Rattle.model.specs.Layouts.{Layout, group_below, group, serial, ◌⊗◌, ◌⊕◌, as_type, such_that, at_most, exactly, times, counted}
use Rattle.model.specs.Messages.{FaceDart, Part1, Part2, Part3, Part4, Transfer, point, label, face_dart, part2, part3, part4, part1, transfer, size_all, size_at}
use Rattle.laws.proofs.Tests.{and_left, and_right}
use Rattle.soundness.proofs.Rows.{Elem, all_elem}

module _ {A B : Type 0} where
  ok_then : (l : Layout A) (m : A → Layout B) (a : A) (b : B) → (l ⊗ m).ok (a, b) ≡ true → (l.ok a ≡ true) × ((m a).ok b ≡ true)
  unfolding ◌⊗◌
  ok_then l m a b o = (and_left (l.ok a) ((m a).ok b) o, and_right (l.ok a) ((m a).ok b) o)

  ok_both : (l : Layout A) (m : Layout B) (a : A) (b : B) → (l ⊕ m).ok (a, b) ≡ true → (l.ok a ≡ true) × (m.ok b ≡ true)
  unfolding ◌⊕◌
  ok_both l m a b o = ok_then l (λ a. m) a b o

  ok_as : (to : A → B) (from : B → A) (l : Layout A) (b : B) → (as_type to from l).ok b ≡ true → l.ok (from b) ≡ true
  unfolding as_type
  ok_as to from l b o = o

module _ {A : Type 0} where
  ok_such : (l : Layout A) (p : A → Bool) (v : A) → (such_that l p).ok v ≡ true → (l.ok v ≡ true) × (p v ≡ true)
  unfolding such_that
  ok_such l p v o = (and_left (l.ok v) (p v) o, and_right (l.ok v) (p v) o)

  ok_times : (n : ℕ) (l : Layout A) (v : List A) → (times n l).ok v ≡ true → (length v ≡ n) × ((a : A) → Elem a v → l.ok a ≡ true)
  unfolding times
  ok_times n l v o = (eqb-true (length v) n (and_left (eqb (length v) n) (all l.ok v) o), all_elem l.ok v (and_right (eqb (length v) n) (all l.ok v) o))

  ok_counted : (l : Layout A) (v : List A) → (counted l).ok v ≡ true → (a : A) → Elem a v → l.ok a ≡ true
  unfolding counted
  ok_counted l v o = (ok_times (length v) l v (ok_then group (λ n. times n l) (length v) v (ok_as (λ p. p.1) (λ v. (length v, v)) (group ⊗ (λ n. times n l)) v o)).1).1

ok_group : (v : ℕ) → group.ok v ≡ true → v < 2 ^ 32
unfolding group group_below
ok_group v o = ltb-true v (2 ^ 32) o

ok_serial : (v : ℕ) → serial.ok v ≡ true → v < serial_bound
unfolding serial group_below
ok_serial v o = ltb-true v serial_bound o

pub ok_most : (n v : ℕ) → (at_most n).ok v ≡ true → v ≤ n
unfolding at_most
ok_most n v o = leb-true v n (ok_such group (λ v. leb v n) v o).1

pub record LabelFits (l : Label) : Type 0 where
  pub maker_small : l.maker ≤ 15
  pub number_small : l.number < 2 ^ 32
  pub position_small : l.position ≤ 4095

ok_label : (l : Label) → label.ok l ≡ true → LabelFits l
unfolding label
ok_label l o =
    let p = ok_as _ (λ l. (l.maker, (l.number, l.position))) (at_most 15 ⊕ group ⊕ at_most 4095) l o in
    let a = ok_both (at_most 15) (group ⊕ at_most 4095) l.maker (l.number, l.position) p in
    let b = ok_both group (at_most 4095) l.number l.position a.1 in
    record { maker_small = ok_most 15 l.maker a.0; number_small = ok_group l.number b.0; position_small = ok_most 4095 l.position b.1 }

ok_face_dart : (c : FaceDart) → face_dart.ok c ≡ true → c.serial < serial_bound
unfolding face_dart
ok_face_dart c o = ok_serial c.serial (ok_both group serial c.vertex c.serial (ok_as _ (λ c. (c.vertex, c.serial)) (group ⊕ serial) c o)).1

ok_part3 : (m : Part3) → part3.ok m ≡ true → m.number < 2 ^ 32
unfolding part3
ok_part3 m o = ok_group m.number (ok_both group group m.number m.index (ok_as _ (λ m. (m.number, m.index)) (group ⊕ group) m o)).0

pub record Part4Fits (fs : List (List FaceDart)) (k : Part4) : Type 0 where
  pub other_small : k.other ≤ 15
  pub as_many : length k.labels ≡ size_at k.index fs
  pub labels_fit : (l : Label) → Elem l k.labels → LabelFits l

ok_part4 : (fs : List (List FaceDart)) (k : Part4) → (part4 fs).ok k ≡ true → Part4Fits fs k
unfolding part4
ok_part4 fs k o =
    let p = ok_as _ (λ k. (k.index, (k.other, k.labels))) (such_that group (λ i. ltb i (size_all fs)) ⊗ (λ i. at_most 15 ⊕ times (size_at i fs) label)) k o in
    let a = ok_then (such_that group (λ i. ltb i (size_all fs))) (λ i. at_most 15 ⊕ times (size_at i fs) label) k.index (k.other, k.labels) p in
    let b = ok_both (at_most 15) (times (size_at k.index fs) label) k.other k.labels a.1 in
    let c = ok_times (size_at k.index fs) label k.labels b.1 in
    record { other_small = ok_most 15 k.other b.0; as_many = c.0; labels_fit = λ l h. ok_label l (c.1 l h) }

pub record Fits (t : Transfer) : Type 0 where
  pub from_small : t.from ≤ 15
  pub serial_small : (f : List FaceDart) → Elem f t.faces → (c : FaceDart) → Elem c f → c.serial < serial_bound
  pub few_darts : size_all t.faces ≤ 512
  pub part3_small : (m : Part3) → Elem m t.part3 → m.number < 2 ^ 32
  pub part4_fits : (k : Part4) → Elem k t.part4 → Part4Fits t.faces k

pub fits : (t : Transfer) → transfer.ok t ≡ true → Fits t
unfolding transfer part1
fits t o =
    let faces-right : List (List FaceDart) → Bool = λ fs. leb 1 (size_all fs) && leb (size_all fs) 512 in
    let faces_layout = such_that (counted (counted face_dart)) faces-right in
    let head : Part1 = (1, (t.from, (t.to, (t.points, t.faces)))) in
    let rest : List Part2 × (List Part3 × List Part4) = (t.part2, (t.part3, t.part4)) in
    let p = ok_as _ (λ t. ((1, (t.from, (t.to, (t.points, t.faces)))), (t.part2, (t.part3, t.part4)))) (part1 ⊗ (λ h. counted part2 ⊕ counted part3 ⊕ counted (part4 h.1.1.1.1))) t o in
    let a = ok_then part1 (λ h. counted part2 ⊕ counted part3 ⊕ counted (part4 h.1.1.1.1)) head rest p in
    let b = ok_both (exactly 1) (at_most 15 ⊕ at_most 15 ⊕ counted point ⊕ faces_layout) 1 (t.from, (t.to, (t.points, t.faces))) a.0 in
    let c = ok_both (at_most 15) (at_most 15 ⊕ counted point ⊕ faces_layout) t.from (t.to, (t.points, t.faces)) b.1 in
    let d = ok_both (at_most 15) (counted point ⊕ faces_layout) t.to (t.points, t.faces) c.1 in
    let e = ok_both (counted point) faces_layout t.points t.faces d.1 in
    let f = ok_such (counted (counted face_dart)) faces-right t.faces e.1 in
    let g = ok_both (counted part2) (counted part3 ⊕ counted (part4 t.faces)) t.part2 (t.part3, t.part4) a.1 in
    let h = ok_both (counted part3) (counted (part4 t.faces)) t.part3 t.part4 g.1 in
    record {
      from_small = ok_most 15 t.from c.0;
      serial_small = λ fc k x j. ok_face_dart x (ok_counted face_dart fc (ok_counted (counted face_dart) t.faces f.0 fc k) x j);
      few_darts = leb-true (size_all t.faces) 512 (and_right (leb 1 (size_all t.faces)) (leb (size_all t.faces) 512) f.1);
      part3_small = λ m k. ok_part3 m (ok_counted part3 t.part3 h.0 m k);
      part4_fits = λ m k. ok_part4 t.faces m (ok_counted (part4 t.faces) t.part4 h.1 m k);
    }
