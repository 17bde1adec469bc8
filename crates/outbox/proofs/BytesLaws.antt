-- The entries by the arrays: what was read of the memory gives their bytes. Assumes nothing.
use mathlib.Core.Path.{◌≡◌, refl, sym, ◌∙◌, ap}
use mathlib.Core.Bool.{true, false}
use mathlib.Core.List.{List, [], ◌++◌}
use Prim.Native.Nat.{ℕ, ◌+◌, ◌-◌, ◌/◌, ◌≤◌, ◌<◌}
use native.Mathlib.Omega.{arith}
use lib.ListN.{length, get_or, length-append}
use borrow.Author.Tests.{lt-ltb, le-ltb}
use Rattle.model.specs.Layouts.{group}
use Rattle.model.specs.Messages.{point, label, face_dart, part2, part3}
use Rattle.model.specs.Image.{column, label_in}
use Rattle.memory.specs.Point.{point_of, patterns, FinitePoint, FiniteAt}
use Rattle.memory.specs.declared.point.Point.{Point}
use Rattle.memory.proofs.Points.{point_finite, point_patterns}
use Rattle.outbox.specs.Runs.{run, tally}
use Rattle.outbox.specs.Bytes.{DartsListed, FacesStarted, Vertexed, beside_put, dart_put, end_of, face_put, faces_put, in_part2, in_part3, in_part4, label_put, part2_put, part3_put, part4_put, point_put, start_at}
use Rattle.codec.proofs.EntryLaws.{point_length}

-- POINTS
module _ (m firsts : List ℕ) (k : ℕ) (p : Point)
    (e : p ≡ point_of (column m 5 (get_or firsts k 0)) (column m 6 (get_or firsts k 0)) (column m 7 (get_or firsts k 0)))
    (f : FiniteAt m (get_or firsts k 0)) where
  pub point_fine : FinitePoint p
  point_fine = rw e (point_finite _ _ _ f.on_x f.on_y f.on_z)

  pub point_is : point_put m firsts k ≡ point.put (patterns p)
  unfolding point_put
  point_is = sym (ap (λ (q : Point). point.put (patterns q)) e ∙ ap point.put (point_patterns _ _ _ f.on_x f.on_y f.on_z))

pub point_put_length : (m firsts : List ℕ) (k : ℕ) → length (point_put m firsts k) ≡ 24
unfolding point_put
point_put_length m firsts k = point_length _

-- DARTS AND LABELS of a face from index s on
pub dart_is : (m numbers order : List ℕ) (s k w : ℕ) → w ≡ column m 0 (get_or order (s + k) 0)
    → dart_put m numbers order s k ≡ face_dart.put (record { vertex = get_or numbers (get_or order (s + k) 0) 0; serial = w })
unfolding dart_put
dart_is m numbers order s k w e = rw e

pub label_is : (m order : List ℕ) (s k w : ℕ) → w ≡ column m 4 (get_or order (s + k) 0) → label_put m order s k ≡ label.put (label_in w)
unfolding label_put
label_is m order s k w e = rw e

-- WHERE A FACE ENDS
pub ends_next : (starts : List ℕ) (count darts f : ℕ) → f + 1 < count → get_or starts (f + 1) 0 ≡ end_of starts count darts f
ends_next starts count darts f h = rw (lt-ltb (f + 1) count h)

pub ends_last : (starts : List ℕ) (count darts f : ℕ) → count ≤ f + 1 → darts ≡ end_of starts count darts f
ends_last starts count darts f h = rw (le-ltb (f + 1) count h)

-- WHOLE FACES
pub face_of : (m numbers order : List ℕ) (s n : ℕ) → face_put m numbers order s n ≡ group.put n ++ run (dart_put m numbers order s) n
unfolding face_put
face_of m numbers order s n = refl

pub face_length : (m numbers order : List ℕ) (s n : ℕ) → length (face_put m numbers order s n) ≡ length (group.put n) + length (run (dart_put m numbers order s) n)
unfolding face_put
face_length m numbers order s n = length-append (group.put n) (run (dart_put m numbers order s) n)

-- what is asked of all darts holds of the first ones
pub listed_part : {m order : List ℕ} {darts : ℕ} → DartsListed m order darts → (n : ℕ) → n ≤ darts → DartsListed m order n
listed_part l n h = record {
  header = l.header;
  held = λ k j. l.held k (omega arith);
  order_size = omega (arith, l.order_size);
  few = omega (arith, l.few);
  below = λ k j. l.below k (omega arith);
  serial_small = λ k j. l.serial_small k (omega arith);
  other_small = λ k j. l.other_small k (omega arith);
}

pub vertexed_part : {numbers order : List ℕ} {darts : ℕ} → Vertexed numbers order darts → (n : ℕ) → n ≤ darts → Vertexed numbers order n
vertexed_part v n h = record { numbers_size = λ k j. v.numbers_size k (omega arith); number_small = λ k j. v.number_small k (omega arith) }

-- face f, where its end was read
pub faces_is : (m numbers order starts : List ℕ) (darts count f e : ℕ) → e ≡ end_of starts count darts f
    → faces_put m numbers order starts darts count f ≡ face_put m numbers order (get_or starts f 0) (e - get_or starts f 0)
unfolding faces_put
faces_is m numbers order starts darts count f e h = ap (λ (k : ℕ). face_put m numbers order (get_or starts f 0) (k - get_or starts f 0)) (sym h)

module _ {starts : List ℕ} {darts count : ℕ} (s : FacesStarted starts darts count) (f e : ℕ) (l : f < count) (h : e ≡ end_of starts count darts f) where
  pub start_le : get_or starts f 0 ≤ e
  start_le = omega (arith, s.ends_after f l)

  pub end_le : get_or starts f 0 + (e - get_or starts f 0) ≤ darts
  end_le = omega (arith, s.ends_after f l, s.ends_within f l)

  pub some_darts : 0 < e - get_or starts f 0
  some_darts = omega (arith, s.ends_after f l)

-- PARTS: what face f adds, by the test of its start
module _ (m : List ℕ) (j : ℕ) (order starts : List ℕ) (f : ℕ) where
  pub part2_none : in_part2 m j order starts f ≡ false → part2_put m j order starts f ≡ []
  unfolding part2_put
  part2_none e = rw e

  pub part2_one : (w : ℕ) → in_part2 m j order starts f ≡ true → w ≡ column m 4 (start_at order starts f)
      → part2_put m j order starts f ≡ part2.put (record { label = label_in w; index = get_or starts f 0 })
  unfolding part2_put
  part2_one w e h = rw (e, h)

  pub part4_none : (darts count : ℕ) → in_part4 m j order starts f ≡ false → part4_put m j order starts darts count f ≡ []
  unfolding part4_put
  part4_none darts count e = rw e

  pub part4_one : (darts count e : ℕ) → in_part4 m j order starts f ≡ true → e ≡ end_of starts count darts f
      → part4_put m j order starts darts count f ≡ beside_put m order (get_or starts f 0) (e - get_or starts f 0)
  unfolding part4_put
  part4_one darts count e y h = rw y (ap (λ (k : ℕ). beside_put m order (get_or starts f 0) (k - get_or starts f 0)) (sym h))

module _ (m marks : List ℕ) (c : ℕ) (order starts : List ℕ) (f : ℕ) where
  pub part3_none : in_part3 m marks order starts f ≡ false → part3_put m marks c order starts f ≡ []
  unfolding part3_put
  part3_none e = rw e

  pub part3_one : (n : ℕ) → in_part3 m marks order starts f ≡ true → n ≡ c + tally (in_part3 m marks order starts) f
      → part3_put m marks c order starts f ≡ part3.put (record { number = n; index = get_or starts f 0 })
  unfolding part3_put
  part3_one n e h = rw (e, h)

-- an entry of part 4
pub beside_of : (m order : List ℕ) (s n o : ℕ) → o ≡ column m 3 (get_or order s 0) / 4 → beside_put m order s n ≡ (group.put s ++ group.put o) ++ run (label_put m order s) n
unfolding beside_put
beside_of m order s n o e = rw e

pub beside_length : (m order : List ℕ) (s n o : ℕ) → o ≡ column m 3 (get_or order s 0) / 4
    → length (beside_put m order s n) ≡ length (group.put s ++ group.put o) + length (run (label_put m order s) n)
beside_length m order s n o e = ap length (beside_of m order s n o e) ∙ length-append (group.put s ++ group.put o) (run (label_put m order s) n)
