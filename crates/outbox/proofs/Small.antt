-- How many bytes the faces and the parts take at the most: few enough for any sum of them. Assumes nothing.
use mathlib.Core.Path.{◌≡◌}
use mathlib.Core.Bool.{Bool, true, false, cond}
use mathlib.Core.List.{List, [], ◌++◌}
use Prim.Native.Nat.{ℕ, ◌+◌, ◌*◌, ◌/◌, ◌≤◌, ◌<◌}
use native.Mathlib.Omega.{arith}
use lib.ListN.{length, get_or, length-append}
use Rattle.model.specs.Layouts.{group}
use Rattle.model.specs.Image.{column}
use Rattle.theory.proofs.LayoutLengths.{group_short, face_dart_short, label_short, part2_short, part3_short}
use Rattle.outbox.specs.Runs.{run}
use Rattle.outbox.specs.Bytes.{FacesStarted, beside_put, dart_put, face_put, faces_put, in_part2, in_part3, in_part4, label_put, part2_put, part3_put, part4_put, point_put, size_of_face}
use Rattle.outbox.proofs.Running.{run_same, run_short}
use Rattle.outbox.proofs.BytesLaws.{point_put_length}

pub points_length : (m firsts : List ℕ) (n : ℕ) → length (run (point_put m firsts) n) ≡ n * 24
points_length m firsts n = run_same (point_put m firsts) 24 n (λ k h. point_put_length m firsts k)

either : (t : Bool) (l : List ℕ) (w : ℕ) → length l ≤ w → length (cond t l []) ≤ w
either true l w h = h
either false l w h = omega arith

dart_short : (m numbers order : List ℕ) (s k : ℕ) → length (dart_put m numbers order s k) ≤ 10
unfolding dart_put
dart_short m numbers order s k = face_dart_short _

face_short : (m numbers order : List ℕ) (s n : ℕ) → length (face_put m numbers order s n) ≤ 5 + n * 10
unfolding face_put
face_short m numbers order s n = omega (
  arith,
  length-append (group.put n) (run (dart_put m numbers order s) n),
  group_short n,
  run_short (dart_put m numbers order s) 10 n (λ k h. dart_short m numbers order s k),
)

a_label_short : (m order : List ℕ) (s k : ℕ) → length (label_put m order s k) ≤ 15
unfolding label_put
a_label_short m order s k = label_short _

beside_short : (m order : List ℕ) (s n : ℕ) → length (beside_put m order s n) ≤ 10 + n * 15
unfolding beside_put
beside_short m order s n =
    let o = column m 3 (get_or order s 0) / 4 in
    omega (
      arith,
      length-append (group.put s ++ group.put o) (run (label_put m order s) n),
      length-append (group.put s) (group.put o),
      group_short s,
      group_short o,
      run_short (label_put m order s) 15 n (λ k h. a_label_short m order s k),
    )

module _ (m order : List ℕ) {starts : List ℕ} {darts count : ℕ} (s : FacesStarted starts darts count) (few : darts ≤ 512) where
  size_small : (f : ℕ) → f < count → size_of_face starts count darts f ≤ 512
  size_small f h = omega (arith, s.ends_within f h)

  pub faces_small : (numbers : List ℕ) → length (run (faces_put m numbers order starts darts count) count) ≤ count * 5125
  unfolding faces_put
  faces_small numbers = run_short (faces_put m numbers order starts darts count) 5125 count
      (λ f h. omega (arith, face_short m numbers order (get_or starts f 0) (size_of_face starts count darts f), size_small f h))

  pub part4_small : (j : ℕ) → length (run (part4_put m j order starts darts count) count) ≤ count * 7690
  unfolding part4_put
  part4_small j = run_short (part4_put m j order starts darts count) 7690 count
      (λ f h. either (in_part4 m j order starts f) _ 7690 (omega (arith, beside_short m order (get_or starts f 0) (size_of_face starts count darts f), size_small f h)))

pub part2_small : (m : List ℕ) (j : ℕ) (order starts : List ℕ) (count : ℕ) → length (run (part2_put m j order starts) count) ≤ count * 20
unfolding part2_put
part2_small m j order starts count = run_short (part2_put m j order starts) 20 count (λ f h. either (in_part2 m j order starts f) _ 20 (part2_short _))

pub part3_small : (m marks : List ℕ) (c : ℕ) (order starts : List ℕ) (count : ℕ) → length (run (part3_put m marks c order starts) count) ≤ count * 10
unfolding part3_put
part3_small m marks c order starts count = run_short (part3_put m marks c order starts) 10 count (λ f h. either (in_part3 m marks order starts f) _ 10 (part3_short _))
