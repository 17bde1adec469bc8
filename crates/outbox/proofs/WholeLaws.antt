-- The whole transfer: its bytes by the arrays are those of its layout, and its sizes are the sums of the parts' sizes. Assumes nothing.
use mathlib.Core.Path.{◌≡◌, refl, sym, ◌∙◌, ap}
use mathlib.Core.Bool.{true}
use mathlib.Core.List.{List, ◌++◌}
use Prim.Native.Nat.{ℕ, ◌+◌, ◌≤◌, ◌<◌, ◌^◌}
use native.Mathlib.Omega.{arith}
use lib.ListN.{length, get_or, length-append, length-map}
use Rattle.model.specs.Lists.{keep}
use Rattle.model.specs.Cells.{start_of}
use Rattle.model.specs.Layouts.{group, such_that, at_most, exactly, counted, framed, ◌⊗◌, ◌⊕◌, as_type}
use Rattle.model.specs.Messages.{Transfer, point, face_dart, part1, part2, part3, part4, transfer}
use Rattle.model.specs.Links.{placed}
use Rattle.model.specs.Image.{holds_block}
use Rattle.cells.specs.Places.{sewn_out}
use Rattle.departure.specs.ByPlaces.{critical_with, critical_beside, part2_at, part4_at, transfer_at}
use Rattle.departure.specs.Asked.{Surveyed, faces_at}
use Rattle.departure.specs.declared.Counts.{Counts}
use Rattle.theory.proofs.LayoutLengths.{group_short}
use Rattle.outbox.specs.Runs.{run, tally}
use Rattle.outbox.specs.Bytes.{faces_put, in_part2, in_part3, in_part4, part2_put, part3_put, part4_put, point_put}
use Rattle.outbox.specs.Whole.{TransferSized, first_bytes, parts_bytes, transfer_for}
use Rattle.outbox.specs.declared.transfer.Sizes.{Sizes}
use Rattle.outbox.proofs.ByFaces.{count_faces, count_part, faces_run, part2_run, part3_run, part4_run, points_run}
use Rattle.outbox.proofs.Ready.{pointed, some_face, started}
use Rattle.outbox.proofs.Small.{faces_small, part2_small, part3_small, part4_small, points_length}

-- THE LAYOUT, part after part
layout_bytes : (t : Transfer) → transfer.put t
    ≡ (group.put 1 ++ (group.put t.from ++ (group.put t.to ++ ((counted point).put t.points ++ (counted (counted face_dart)).put t.faces))))
    ++ ((counted part2).put t.part2 ++ ((counted part3).put t.part3 ++ (counted (part4 t.faces)).put t.part4))
unfolding transfer part1 as_type ◌⊗◌ ◌⊕◌ exactly at_most such_that
layout_bytes t = refl

each_part : (k i j : List ℕ) {a b c d e a' b' c' d' e' : List ℕ} → a ≡ a' → b ≡ b' → c ≡ c' → d ≡ d' → e ≡ e'
    → (k ++ (i ++ (j ++ (a ++ b)))) ++ (c ++ (d ++ e)) ≡ (k ++ (i ++ (j ++ (a' ++ b')))) ++ (c' ++ (d' ++ e'))
each_part k i j p q r s t = rw (p, q, r, s, t)

-- LENGTHS
first_lengths : (a b c d e f g : List ℕ)
    → length (a ++ (b ++ (c ++ ((d ++ e) ++ (f ++ g))))) ≡ length a + length b + length c + (length d + length e) + (length f + length g)
first_lengths a b c d e f g = simp length-append (omega arith)

parts_lengths : (a b c d e f : List ℕ) → length ((a ++ b) ++ ((c ++ d) ++ (e ++ f))) ≡ (length a + length b) + (length c + length d) + (length e + length f)
parts_lengths a b c d e f = simp length-append (omega arith)

pub first_length : (m : List ℕ) (j : ℕ) (c : Counts) (order starts numbers firsts : List ℕ) → length (first_bytes m j c order starts numbers firsts)
    ≡ length (group.put 1) + length (group.put (get_or m 0 0)) + length (group.put j) + (length (group.put c.vertices) + length (run (point_put m firsts) c.vertices))
    + (length (group.put c.faces) + length (run (faces_put m numbers order starts c.darts c.faces) c.faces))
unfolding first_bytes
first_length m j c order starts numbers firsts =
    first_lengths (group.put 1) (group.put (get_or m 0 0)) (group.put j) (group.put c.vertices)
    (run (point_put m firsts) c.vertices) (group.put c.faces) _

pub parts_length : (m : List ℕ) (j : ℕ) (c : Counts) (marks order starts : List ℕ) → length (parts_bytes m j c marks order starts)
    ≡ (length (group.put (tally (in_part2 m j order starts) c.faces)) + length (run (part2_put m j order starts) c.faces))
    + (length (group.put (tally (in_part3 m marks order starts) c.faces)) + length (run (part3_put m marks (get_or m 1 0) order starts) c.faces))
    + (length (group.put (tally (in_part4 m j order starts) c.faces)) + length (run (part4_put m j order starts c.darts c.faces) c.faces))
unfolding parts_bytes
parts_length m j c marks order starts =
    parts_lengths (group.put (tally (in_part2 m j order starts) c.faces)) (run (part2_put m j order starts) c.faces)
    (group.put (tally (in_part3 m marks order starts) c.faces)) (run (part3_put m marks (get_or m 1 0) order starts) c.faces)
    (group.put (tally (in_part4 m j order starts) c.faces)) (run (part4_put m j order starts c.darts c.faces) c.faces)

-- as the code puts them, with the counts that it has
pub first_of : (m : List ℕ) (j : ℕ) (c : Counts) (order starts numbers firsts : List ℕ) → first_bytes m j c order starts numbers firsts
    ≡ group.put 1 ++ (group.put (get_or m 0 0) ++ (group.put j ++ ((group.put c.vertices ++ run (point_put m firsts) c.vertices)
    ++ (group.put c.faces ++ run (faces_put m numbers order starts c.darts c.faces) c.faces))))
unfolding first_bytes
first_of m j c order starts numbers firsts = refl

pub parts_of : (m : List ℕ) (j : ℕ) (c : Counts) (marks order starts : List ℕ) {a b d : ℕ} → a ≡ tally (in_part2 m j order starts) c.faces → b ≡ tally (in_part3 m marks order starts) c.faces
    → d ≡ tally (in_part4 m j order starts) c.faces → parts_bytes m j c marks order starts
    ≡ (group.put a ++ run (part2_put m j order starts) c.faces) ++ ((group.put b ++ run (part3_put m marks (get_or m 1 0) order starts) c.faces)
    ++ (group.put d ++ run (part4_put m j order starts c.darts c.faces) c.faces))
unfolding parts_bytes
parts_of m j c marks order starts p q r = rw (p, q, r)

module _ (m : List ℕ) (ok : holds_block m ≡ true) (j : ℕ) {c : Counts} {marks order starts numbers firsts : List ℕ} (s : Surveyed m c marks order starts numbers firsts) where
  pub transfer_bytes : transfer.put (transfer_for m j c marks numbers firsts) ≡ first_bytes m j c order starts numbers firsts ++ parts_bytes m j c marks order starts
  unfolding transfer_at first_bytes parts_bytes
  transfer_bytes = let o = s.order in let f = some_face m ok s in
      layout_bytes (transfer_for m j c marks numbers firsts) ∙ each_part (group.put 1) (group.put (get_or m 0 0)) (group.put j)
      (points_run m firsts c.vertices s.numbering.firsts_size)
      (faces_run m numbers o f) (part2_run m numbers o f j) (part3_run m numbers o f marks (get_or m 1 0)) (part4_run m numbers o f _ j)

  -- entries of the parts
  pub sewn_tally : c.sewn ≡ tally (in_part3 m marks order starts) c.faces
  sewn_tally = s.sewn_is ∙ count_faces m numbers s.order (some_face m ok s) (sewn_out m marks)

  pub part2_entries : length (transfer_for m j c marks numbers firsts).part2 ≡ tally (in_part2 m j order starts) c.faces
  unfolding transfer_at
  part2_entries = length-map (keep (λ p. critical_with m j (start_of p.face)) (placed 0 (faces_at m marks))) (part2_at m) ∙ count_part m numbers s.order (some_face m ok s) (critical_with m j)

  pub part4_entries : length (transfer_for m j c marks numbers firsts).part4 ≡ tally (in_part4 m j order starts) c.faces
  unfolding transfer_at
  part4_entries =
      length-map (keep (λ p. critical_beside m j (start_of p.face)) (placed 0 (faces_at m marks))) (part4_at m)
      ∙ count_part m numbers s.order (some_face m ok s) (critical_beside m j)

  -- SIZES
  pub framed_length : length (framed transfer (transfer_for m j c marks numbers firsts))
      ≡ length (group.put (length (transfer.put (transfer_for m j c marks numbers firsts)))) + length (transfer.put (transfer_for m j c marks numbers firsts))
  unfolding framed
  framed_length = length-append (group.put (length (transfer.put (transfer_for m j c marks numbers firsts)))) (transfer.put (transfer_for m j c marks numbers firsts))

  pub sized : (z : Sizes) → z.part2 ≡ tally (in_part2 m j order starts) c.faces → z.part4 ≡ tally (in_part4 m j order starts) c.faces
      → z.rest ≡ length (transfer.put (transfer_for m j c marks numbers firsts))
      → z.whole ≡ length (group.put z.rest) + z.rest → z.whole < 2 ^ 32 → TransferSized (transfer_for m j c marks numbers firsts) z
  sized z p q r w b = record {
    part2_is = p ∙ sym part2_entries;
    part4_is = q ∙ sym part4_entries;
    rest_is = r;
    whole_is = w ∙ ap (λ (n : ℕ). length (group.put n) + n) r ∙ sym framed_length;
    small = b;
  }

  -- what is put fits where the whole fits
  pub whole_length : {z : Sizes} → TransferSized (transfer_for m j c marks numbers firsts) z
      → z.whole ≡ length (group.put z.rest) + (length (first_bytes m j c order starts numbers firsts) + length (parts_bytes m j c marks order starts))
  whole_length {z} w = omega (
    arith,
    w.whole_is,
    framed_length,
    ap (λ (n : ℕ). length (group.put n)) w.rest_is,
    ap length transfer_bytes,
    length-append (first_bytes m j c order starts numbers firsts) (parts_bytes m j c marks order starts),
  )

  pub rest_small : {z : Sizes} → TransferSized (transfer_for m j c marks numbers firsts) z → z.rest < 2 ^ 32
  rest_small w = omega (arith, w.whole_is, w.rest_is, w.small, framed_length)

  -- the message is its length, then both halves
  pub message_bytes : {n : ℕ} → n ≡ length (transfer.put (transfer_for m j c marks numbers firsts)) → framed transfer (transfer_for m j c marks numbers firsts)
      ≡ group.put n ++ (first_bytes m j c order starts numbers firsts ++ parts_bytes m j c marks order starts)
  unfolding framed
  message_bytes {n} e = ap (λ (k : ℕ). group.put k ++ transfer.put (transfer_for m j c marks numbers firsts)) (sym e) ∙ ap (λ (l : List ℕ). group.put n ++ l) transfer_bytes

-- BOUNDS of each part
pub record Bounds (m : List ℕ) (j : ℕ) (c : Counts) (marks order starts numbers : List ℕ) : Type 0 where
  pub vertices_few : c.vertices ≤ 512
  pub faces_bytes : length (run (faces_put m numbers order starts c.darts c.faces) c.faces) ≤ 2624000
  pub two_bytes : length (run (part2_put m j order starts) c.faces) ≤ 10240
  pub three_bytes : length (run (part3_put m marks (get_or m 1 0) order starts) c.faces) ≤ 5120
  pub four_bytes : length (run (part4_put m j order starts c.darts c.faces) c.faces) ≤ 3937280

pub bounds : (m : List ℕ) (ok : holds_block m ≡ true) (j : ℕ) {c : Counts} {marks order starts numbers firsts : List ℕ}
    → Surveyed m c marks order starts numbers firsts → Bounds m j c marks order starts numbers
bounds m ok j {c} {marks} {order} {starts} {numbers} s = let few = (started m ok s).few in
    record {
      vertices_few = (pointed m ok s).few;
      faces_bytes = omega (arith, faces_small m order (started m ok s) s.few numbers);
      two_bytes = omega (arith, part2_small m j order starts c.faces);
      three_bytes = omega (arith, part3_small m marks (get_or m 1 0) order starts c.faces);
      four_bytes = omega (arith, part4_small m order (started m ok s) s.few j);
    }

-- so both halves are short
pub halves_short : (m : List ℕ) (ok : holds_block m ≡ true) (j : ℕ) {c : Counts} {marks order starts numbers firsts : List ℕ} → Surveyed m c marks order starts numbers firsts
    → length (first_bytes m j c order starts numbers firsts) + length (parts_bytes m j c marks order starts) < 2 ^ 31
halves_short m ok j {c} {marks} {order} {starts} {numbers} {firsts} s =
    let b = bounds m ok j s in
    let two = tally (in_part2 m j order starts) c.faces in
    let three = tally (in_part3 m marks order starts) c.faces in
    let four = tally (in_part4 m j order starts) c.faces in
    omega (
      arith,
      first_length m j c order starts numbers firsts,
      parts_length m j c marks order starts,
      points_length m firsts c.vertices,
      group_short 1,
      group_short (get_or m 0 0),
      group_short j,
      group_short c.vertices,
      group_short c.faces,
      group_short two,
      group_short three,
      group_short four,
      b.vertices_few,
      b.faces_bytes,
      b.two_bytes,
      b.three_bytes,
      b.four_bytes,
    )

-- where both halves end that are put from place 0 on
module _ (m : List ℕ) (ok : holds_block m ≡ true) (j : ℕ) {c : Counts} {marks order starts numbers firsts : List ℕ} (s : Surveyed m c marks order starts numbers firsts)
    {mid end : ℕ} (a : mid ≡ 0 + length (first_bytes m j c order starts numbers firsts)) (b : end ≡ mid + length (parts_bytes m j c marks order starts)) where
  pub end_small : end < 2 ^ 31
  end_small = omega (arith, a, b, halves_short m ok j s)

  pub end_is : end ≡ length (transfer.put (transfer_for m j c marks numbers firsts))
  end_is = omega (
    arith,
    a,
    b,
    ap length (transfer_bytes m ok j s),
    length-append (first_bytes m j c order starts numbers firsts) (parts_bytes m j c marks order starts),
  )
