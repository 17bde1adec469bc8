-- The arrays face by face: where each face starts and ends, and the bytes of all faces and of each part by the arrays. Assumes nothing.
use mathlib.Core.Path.{◌≡◌, refl, sym, ◌∙◌, ap}
use mathlib.Core.Bool.{Bool, cond}
use mathlib.Core.List.{List, [], ◌∷◌, ◌++◌, map, append_assoc}
use Prim.Native.Nat.{ℕ, zero, suc, ◌+◌, ◌/◌, ◌≤◌, ◌<◌}
use native.Mathlib.Nat.{add_assoc}
use native.Mathlib.Numerals.{add-one}
use native.Mathlib.Omega.{arith}
use lib.Dec.{ltb}
use lib.ListN.{length, get_or, take, length-append, length-map, get_or-append}
use lib.Seq.{get_or-append-add, get_or-take, length-take-le}
use borrow.Author.Tests.{ltb-true, ltb-false}
use Rattle.model.specs.Lists.{keep, concat}
use Rattle.model.specs.Cells.{start_of}
use Rattle.model.specs.Image.{column, dart_in}
use Rattle.model.specs.Layouts.{Layout, group, such_that, at_most, times, counted, put_all, ◌⊗◌, ◌⊕◌, as_type}
use Rattle.model.specs.Messages.{FaceDart, Part4, point, label, face_dart, part2, part3, part4}
use Rattle.model.specs.Departure.{part3_from}
use Rattle.model.specs.Links.{Placed, placed}
use Rattle.laws.proofs.Tests.{by_cases}
use Rattle.theory.proofs.FaceIndices.{placed_count, part3_count}
use Rattle.cells.specs.Places.{InOrder, sewn_out}
use Rattle.departure.specs.ByPlaces.{critical_with, critical_beside, label_at, dart_entry, part2_at, part4_at}
use Rattle.outbox.specs.Runs.{run, tally}
use Rattle.outbox.specs.Bytes.{beside_put, dart_put, end_of, face_put, faces_put, in_part2, in_part3, in_part4, label_put, part2_put, part3_put, part4_put, point_put, size_of_face, start_at}
use Rattle.outbox.proofs.RunLists.{put_kept, put_mapped, put_numbered, run_cong, tally_cong, tally_kept}

-- FACES ONE AFTER THE OTHER, the first at index i: face k starts `off` after it
record FaceAt (i : ℕ) (fs : List (List ℕ)) (k : ℕ) : Type 0 where
  off : ℕ
  index : get_or (map (λ f. f.at) (placed i fs)) k 0 ≡ i + off
  places : (t : ℕ) → t < length (get_or fs k []) → get_or (concat fs) (off + t) 0 ≡ get_or (get_or fs k []) t 0
  next : suc k < length fs → get_or (map (λ f. f.at) (placed i fs)) (suc k) 0 ≡ i + (off + length (get_or fs k []))
  last : length fs ≡ suc k → off + length (get_or fs k []) ≡ length (concat fs)
  within : off + length (get_or fs k []) ≤ length (concat fs)
  whole : (d : Placed) → get_or (placed i fs) k d ≡ record { at = i + off; face = get_or fs k [] }

first_index : (i : ℕ) (fs : List (List ℕ)) → 0 < length fs → get_or (map (λ f. f.at) (placed i fs)) 0 0 ≡ i
unfolding placed
first_index i [] h = absurd (omega arith)
first_index i (f ∷ fs) h = refl

none_left : (fs : List (List ℕ)) → length fs ≡ 0 → length (concat fs) ≡ 0
unfolding concat
none_left [] h = refl
none_left (f ∷ fs) h = absurd (omega arith)

face_here : (i : ℕ) (fs : List (List ℕ)) (k : ℕ) → k < length fs → FaceAt i fs k
unfolding placed concat
face_here i [] k h = absurd (omega arith)
face_here i (f ∷ fs) zero h = record {
  off = 0;
  index = omega arith;
  places = λ t l. let e : 0 + t ≡ t = omega arith in rw e (get_or-append f (concat fs) 0 t l);
  next = λ l. first_index (i + length f) fs (omega arith) ∙ omega arith;
  last = λ e. omega (arith, length-append f (concat fs), none_left fs (omega arith));
  within = omega (arith, length-append f (concat fs));
  whole = λ d. let e : i ≡ i + 0 = omega arith in ap (λ (x : ℕ). record { at = x; face = f }) e;
}
face_here i (f ∷ fs) (suc k) h = go (face_here (i + length f) fs k (omega arith))
  where
    go : FaceAt (i + length f) fs k → FaceAt i (f ∷ fs) (suc k)
    go r = record {
      off = length f + r.off;
      index = omega (arith, r.index);
      places = λ t l. ap (λ (x : ℕ). get_or (f ++ concat fs) x 0) (add_assoc (length f) r.off t) ∙ get_or-append-add f (concat fs) (r.off + t) 0 ∙ r.places t l;
      next = λ l. omega (arith, r.next (omega arith));
      last = λ e. omega (arith, length-append f (concat fs), r.last (omega arith));
      within = omega (arith, length-append f (concat fs), r.within);
      whole = λ d. let e : i + length f + r.off ≡ i + (length f + r.off) = omega arith in r.whole d ∙ ap (λ (x : ℕ). record { at = x; face = get_or fs k [] }) e;
    }

module _ {fs : List (List ℕ)} {order starts : List ℕ} {darts count : ℕ} (o : InOrder fs order starts darts count) (f : ℕ) (h : f < count) where
  here : FaceAt 0 fs f
  here = face_here 0 fs f (omega (arith, o.count_is))

  start_is : get_or starts f 0 ≡ here.off
  start_is = sym (get_or-take count starts f 0 h) ∙ ap (λ (l : List ℕ). get_or l f 0) o.indices ∙ here.index ∙ omega arith

  end_is : end_of starts count darts f ≡ here.off + length (get_or fs f [])
  end_is = by_cases (ltb (f + 1) count)
      (λ e. let less = ltb-true (f + 1) count e in
      rw e (sym (get_or-take count starts (f + 1) 0 less) ∙ ap (λ (l : List ℕ). get_or l (f + 1) 0) o.indices ∙ ap (λ (k : ℕ). get_or (map (λ p. p.at) (placed 0 fs)) k 0) (add-one f)
      ∙ here.next (omega (arith, o.count_is)) ∙ omega arith))
      (λ e. let over = ltb-false (f + 1) count e in rw e (o.darts_are ∙ sym (here.last (omega (arith, o.count_is)))))

  -- its size, its places, and where it stands in the order
  pub size_is : size_of_face starts count darts f ≡ length (get_or fs f [])
  size_is = omega (arith, start_is, end_is)

  pub place_is : (t : ℕ) → t < length (get_or fs f []) → get_or order (get_or starts f 0 + t) 0 ≡ get_or (get_or fs f []) t 0
  place_is t l =
      let inside : here.off + t < darts = omega (arith, here.within, o.darts_are) in
      ap (λ (k : ℕ). get_or order (k + t) 0) start_is ∙ sym (get_or-take darts order (here.off + t) 0 inside) ∙ ap (λ (l : List ℕ). get_or l (here.off + t) 0) o.order ∙ here.places t l

  pub end_within : end_of starts count darts f ≤ darts
  end_within = omega (arith, end_is, here.within, o.darts_are)

  pub placed_is : (d : Placed) → get_or (placed 0 fs) f d ≡ record { at = get_or starts f 0; face = get_or fs f [] }
  placed_is d = let e : 0 + here.off ≡ get_or starts f 0 = omega (arith, start_is) in here.whole d ∙ ap (λ (x : ℕ). record { at = x; face = get_or fs f [] }) e

  module _ (some : 0 < length (get_or fs f [])) where
    pub end_after : get_or starts f 0 < end_of starts count darts f
    end_after = omega (arith, start_is, end_is)

    pub first_is : start_of (get_or fs f []) ≡ start_at order starts f
    first_is = let e : get_or starts f 0 + 0 ≡ get_or starts f 0 = omega arith in sym (ap (λ (k : ℕ). get_or order k 0) (sym e) ∙ place_is 0 some)

-- LAYOUTS
counted_bytes : {A : Type 0} (l : Layout A) (v : List A) → (counted l).put v ≡ group.put (length v) ++ put_all l v
unfolding counted as_type ◌⊗◌ times
counted_bytes l v = refl

part4_bytes : (g : List (List FaceDart)) (e : Part4) → (part4 g).put e ≡ (group.put e.index ++ group.put e.other) ++ put_all label e.labels
unfolding part4 as_type ◌⊗◌ ◌⊕◌ such_that at_most times
part4_bytes g e = sym (append_assoc (group.put e.index) (group.put e.other) (put_all label e.labels))

none : Placed
none = record { at = 0; face = [] }

module _ (m numbers : List ℕ) {fs : List (List ℕ)} {order starts : List ℕ} {darts count : ℕ} (o : InOrder fs order starts darts count)
    (some : (k : ℕ) → k < count → 0 < length (get_or fs k [])) where
  -- one face
  face_is : (f : ℕ) → f < count → (counted face_dart).put (map (dart_entry m numbers) (get_or fs f [])) ≡ faces_put m numbers order starts darts count f
  unfolding faces_put face_put dart_put
  face_is f h =
      let F = get_or fs f [] in
      let g : ℕ → List ℕ = λ t. face_dart.put (dart_entry m numbers (get_or order (get_or starts f 0 + t) 0)) in
      let same : length F ≡ size_of_face starts count darts f = sym (size_is o f h) in
      counted_bytes face_dart (map (dart_entry m numbers) F)
      ∙ ap (λ (n : ℕ). group.put n ++ put_all face_dart (map (dart_entry m numbers) F)) (length-map F (dart_entry m numbers))
      ∙ ap (λ (l : List ℕ). group.put (length F) ++ l) (put_mapped 0 face_dart (dart_entry m numbers) F
      ∙ run_cong _ g (length F) (λ t l. ap (λ (p : ℕ). face_dart.put (dart_entry m numbers p)) (sym (place_is o f h t l))))
      ∙ ap (λ (n : ℕ). group.put n ++ run g n) same

  pub faces_run : (counted (counted face_dart)).put (map (map (dart_entry m numbers)) fs) ≡ group.put count ++ run (faces_put m numbers order starts darts count) count
  faces_run = counted_bytes (counted face_dart) (map (map (dart_entry m numbers)) fs)
      ∙ ap (λ (n : ℕ). group.put n ++ put_all (counted face_dart) (map (map (dart_entry m numbers)) fs)) (length-map fs (map (dart_entry m numbers)) ∙ sym o.count_is)
      ∙ ap (λ (l : List ℕ). group.put count ++ l) (put_mapped [] (counted face_dart) (map (dart_entry m numbers)) fs
      ∙ ap (run _) (sym o.count_is) ∙ run_cong _ _ count face_is)

  -- a part: the faces that pass a test of their start
  module _ (q : ℕ → Bool) where
    test_is : (f : ℕ) → f < count → q (start_of (get_or (placed 0 fs) f none).face) ≡ q (start_at order starts f)
    test_is f h = ap (λ (p : Placed). q (start_of p.face)) (placed_is o f h none) ∙ ap q (first_is o f h (some f h))

    pub count_part : length (keep (λ p. q (start_of p.face)) (placed 0 fs)) ≡ tally (λ f. q (start_at order starts f)) count
    count_part = tally_kept none (λ p. q (start_of p.face)) (placed 0 fs)
        ∙ ap (tally _) (placed_count 0 fs ∙ sym o.count_is) ∙ tally_cong _ _ count test_is

    -- b says what a face adds that passes
    part_run : {B : Type 0} (l : Layout B) (g : Placed → B) (b : ℕ → List ℕ)
        → ((f : ℕ) → f < count → cond (q (start_at order starts f)) (l.put (g (record { at = get_or starts f 0; face = get_or fs f [] }))) [] ≡ b f)
        → (counted l).put (map g (keep (λ p. q (start_of p.face)) (placed 0 fs))) ≡ group.put (tally (λ f. q (start_at order starts f)) count) ++ run b count
    part_run l g b e =
        counted_bytes l (map g (keep (λ p. q (start_of p.face)) (placed 0 fs)))
        ∙ ap (λ (n : ℕ). group.put n ++ put_all l (map g (keep (λ p. q (start_of p.face)) (placed 0 fs)))) (length-map (keep (λ p. q (start_of p.face)) (placed 0 fs)) g ∙ count_part)
        ∙ ap (λ (r : List ℕ). group.put (tally (λ f. q (start_at order starts f)) count) ++ r) (put_kept none l g (λ p. q (start_of p.face)) (placed 0 fs)
        ∙ ap (run _) (placed_count 0 fs ∙ sym o.count_is) ∙ run_cong _ b count (λ f h. one f h ∙ e f h))
      where
        one : (f : ℕ) → f < count → cond (q (start_of (get_or (placed 0 fs) f none).face)) (l.put (g (get_or (placed 0 fs) f none))) []
            ≡ cond (q (start_at order starts f)) (l.put (g (record { at = get_or starts f 0; face = get_or fs f [] }))) []
        one f h = ap (λ (t : Bool). cond t (l.put (g (get_or (placed 0 fs) f none))) []) (test_is f h)
            ∙ ap (λ (p : Placed). cond (q (start_at order starts f)) (l.put (g p)) []) (placed_is o f h none)

  pub part2_run : (j : ℕ) → (counted part2).put (map (part2_at m) (keep (λ p. critical_with m j (start_of p.face)) (placed 0 fs)))
      ≡ group.put (tally (in_part2 m j order starts) count) ++ run (part2_put m j order starts) count
  unfolding part2_put
  part2_run j = part_run (critical_with m j) part2 (part2_at m) (part2_put m j order starts)
      (λ f h. ap (λ (p : ℕ). cond (critical_with m j (start_at order starts f)) (part2.put (record { label = label_at m p; index = get_or starts f 0 })) []) (first_is o f h (some f h)))

  beside_is : (g : List (List FaceDart)) (f : ℕ) → f < count → (part4 g).put (part4_at m (record { at = get_or starts f 0; face = get_or fs f [] }))
      ≡ beside_put m order (get_or starts f 0) (size_of_face starts count darts f)
  unfolding beside_put label_put
  beside_is g f h =
      let F = get_or fs f [] in
      let b : ℕ → List ℕ = λ t. label.put (label_at m (get_or order (get_or starts f 0 + t) 0)) in
      part4_bytes g (part4_at m (record { at = get_or starts f 0; face = F }))
      ∙ ap (λ (p : ℕ). (group.put (get_or starts f 0) ++ group.put (column m 3 p / 4)) ++ put_all label (map (label_at m) F)) (first_is o f h (some f h))
      ∙ ap (λ (l : List ℕ). (group.put (get_or starts f 0) ++ group.put (column m 3 (start_at order starts f) / 4)) ++ l) (put_mapped 0 label (label_at m) F
      ∙ run_cong _ b (length F) (λ t l. ap (λ (p : ℕ). label.put (label_at m p)) (sym (place_is o f h t l)))
      ∙ ap (run b) (sym (size_is o f h)))

  pub part4_run : (g : List (List FaceDart)) (j : ℕ) → (counted (part4 g)).put (map (part4_at m) (keep (λ p. critical_beside m j (start_of p.face)) (placed 0 fs)))
      ≡ group.put (tally (in_part4 m j order starts) count) ++ run (part4_put m j order starts darts count) count
  unfolding part4_put
  part4_run g j = part_run (critical_beside m j) (part4 g) (part4_at m) (part4_put m j order starts darts count)
      (λ f h. ap (λ (l : List ℕ). cond (critical_beside m j (start_at order starts f)) l []) (beside_is g f h))

  -- part 3 counts what question 14 counts, and numbers it
  pub count_faces : (q : ℕ → Bool) → length (keep (λ l. q (start_of l)) fs) ≡ tally (λ f. q (start_at order starts f)) count
  count_faces q = tally_kept [] (λ l. q (start_of l)) fs ∙ ap (tally _) (sym o.count_is) ∙ tally_cong _ _ count (λ f h. ap q (first_is o f h (some f h)))

  pub part3_run : (marks : List ℕ) (c : ℕ) → (counted part3).put (part3_from c (map (λ p. p.at) (keep (λ p. sewn_out m marks (start_of p.face)) (placed 0 fs))))
      ≡ group.put (tally (in_part3 m marks order starts) count) ++ run (part3_put m marks c order starts) count
  unfolding part3_put
  part3_run marks c =
      let q : Placed → Bool = λ p. sewn_out m marks (start_of p.face) in
      let ps = placed 0 fs in
      counted_bytes part3 (part3_from c (map (λ p. p.at) (keep q ps)))
      ∙ ap (λ (n : ℕ). group.put n ++ put_all part3 (part3_from c (map (λ p. p.at) (keep q ps))))
      (part3_count c (map (λ p. p.at) (keep q ps)) ∙ length-map (keep q ps) (λ (p : Placed). p.at)
      ∙ count_part (sewn_out m marks))
      ∙ ap (λ (r : List ℕ). group.put (tally (in_part3 m marks order starts) count) ++ r) (put_numbered none (λ p. p.at) q c ps
      ∙ ap (run _) (placed_count 0 fs ∙ sym o.count_is) ∙ run_cong _ (part3_put m marks c order starts) count one)
    where
      one : (f : ℕ) → f < count → cond (sewn_out m marks (start_of (get_or (placed 0 fs) f none).face))
          (part3.put (record { number = c + tally (λ t. sewn_out m marks (start_of (get_or (placed 0 fs) t none).face)) f; index = (get_or (placed 0 fs) f none).at })) []
          ≡ cond (in_part3 m marks order starts f) (part3.put (record { number = c + tally (in_part3 m marks order starts) f; index = get_or starts f 0 })) []
      one f h =
          ap
          (λ (t : Bool). cond t
          (part3.put
          (record {
            number = c + tally (λ t. sewn_out m marks (start_of (get_or (placed 0 fs) t none).face)) f;
            index = (get_or (placed 0 fs) f none).at;
          })) []) (test_is (sewn_out m marks) f h)
          ∙ ap
          (λ (n : ℕ). cond (in_part3 m marks order starts f)
          (part3.put (record { number = c + n; index = (get_or (placed 0 fs) f none).at })) [])
          (tally_cong _ _ f (λ t l. test_is (sewn_out m marks) t (omega arith)))
          ∙ ap (λ (p : Placed). cond (in_part3 m marks order starts f) (part3.put (record { number = c + tally (in_part3 m marks order starts) f; index = p.at })) []) (placed_is o f h none)

-- POINTS
pub points_run : (m firsts : List ℕ) (count : ℕ) → count ≤ length firsts
    → (counted point).put (map (λ p. (dart_in m p).point) (take count firsts)) ≡ group.put count ++ run (point_put m firsts) count
unfolding point_put
points_run m firsts count h =
    let l = length-take-le count firsts h in
    counted_bytes point (map (λ p. (dart_in m p).point) (take count firsts))
    ∙ ap (λ (n : ℕ). group.put n ++ put_all point (map (λ p. (dart_in m p).point) (take count firsts))) (length-map (take count firsts) (λ (p : ℕ). (dart_in m p).point) ∙ l)
    ∙ ap (λ (r : List ℕ). group.put count ++ r) (put_mapped 0 point (λ p. (dart_in m p).point) (take count firsts)
    ∙ ap (run _) l ∙ run_cong _ _ count (λ k j. ap (λ (p : ℕ). point.put (dart_in m p).point) (get_or-take count firsts k 0 j)))
