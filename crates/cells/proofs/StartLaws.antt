-- Where the faces start in message order, and a count of the faces by a test of their starts. Assumes nothing.
use mathlib.Core.Path.{◌≡◌, refl, sym, ◌∙◌, ap}
use mathlib.Core.Bool.{Bool, true, false, not, ◌&&◌}
use mathlib.Core.List.{List, [], ◌∷◌, ◌++◌, map}
use Prim.Native.Nat.{ℕ, zero, suc, ◌+◌, ◌%◌, ◌≤◌, ◌<◌}
use native.Mathlib.Omega.{arith}
use native.Mathlib.Nat.{add_assoc}
use native.Mathlib.Numerals.{add-one}
use lib.Dec.{leb, eqb}
use lib.ListN.{length, get_or, take, length-append, length-map, get_or-append}
use lib.Seq.{take-suc, take_all, get_or-append-add, get_or-take}
use Rattle.model.specs.Lists.{all, keep, concat, distinct}
use Rattle.model.specs.Cells.{cycle, faces, volume_in, third_at, start_of}
use Rattle.model.specs.Image.{count_in, column}
use Rattle.model.specs.Values.{room}
use Rattle.model.specs.Departure.{sewn_faces, is_sewn_out_of}
use Rattle.model.specs.Links.{placed}
use Rattle.laws.proofs.Members.{In, ascending_distinct, keep_ascending, keep_in, keep_map, getD_in, keep_cong}
use Rattle.laws.proofs.Faces.{face_stays, faces_distinct, faces_only}
use Rattle.laws.proofs.Orbits.{path}
use Rattle.cells.specs.Places.{Within, Apart, InOrder, Marked, marked, sewn_out, volume_of}
use Rattle.cells.proofs.Reached.{places, in_places, places_below, within_places}
use Rattle.cells.proofs.Paths.{Round, apart_places, few_places, round}
use Rattle.cells.proofs.Sited.{Sited, darts_in}
use Rattle.cells.proofs.SewnLaws.{sewn_out_is}
use Rattle.cells.proofs.FaceLaws.{distinct_few, keep_append, marked_ascending, marked_in}
use Rattle.cells.proofs.FaceSerials.{faces_serials, marked_below}

-- STARTS: the index of a face that has darts is that of its first dart
start_at : (i : ℕ) (fs : List (List ℕ)) (k : ℕ) → k < length fs → 0 < length (get_or fs k [])
    → (j : ℕ) × (get_or (map (λ f. f.at) (placed i fs)) k 0 ≡ i + j) × (j < length (concat fs)) × (get_or (concat fs) j 0 ≡ start_of (get_or fs k []))
unfolding placed concat
start_at i [] k h some = absurd (omega arith)
start_at i (f ∷ fs) zero h some = (0, omega arith, omega (arith, length-append f (concat fs)), get_or-append f (concat fs) 0 0 some)
start_at i (f ∷ fs) (suc k) h some =
    let r = start_at (i + length f) fs k (omega arith) some in
    (length f + r.0, r.1 ∙ add_assoc i (length f) r.0, omega (arith, length-append f (concat fs), r.2), get_or-append-add f (concat fs) r.0 0 ∙ r.3)

-- the first dart of a face
pub cycle_start : {f : ℕ → ℕ} {x c : ℕ} → Round f x c → start_of (cycle f x) ≡ x
cycle_start {f} {x} {c} r = rw r.cycle_is (go c r.some)
  where
    go : (k : ℕ) → 0 < k → get_or (path f k x) 0 0 ≡ x
    go zero h = absurd (omega arith)
    go (suc k) h = refl

getD_cycles : (f : ℕ → ℕ) (l : List ℕ) (k : ℕ) → k < length l → get_or (map (cycle f) l) k [] ≡ cycle f (get_or l k 0)
getD_cycles f [] k h = absurd (omega arith)
getD_cycles f (x ∷ l) zero h = refl
getD_cycles f (x ∷ l) (suc k) h = getD_cycles f l k (omega arith)

module _ (n : ℕ) (f : ℕ → ℕ) (marks : List ℕ) (few : n ≤ room) (wf : Within n f) (af : Apart n f) where
  -- faces that different places below n start are of different places below n
  faces_few : (length (concat (faces f (marked n marks))) ≤ n) × (length (faces f (marked n marks)) ≤ n)
  unfolding faces cycle
  faces_few =
      let l = keep (λ x. all (leb x) (cycle f x)) (marked n marks) in
      let once : distinct l ≡ true = ascending_distinct l (keep_ascending (λ x. all (leb x) (cycle f x)) (marked n marks) (marked_ascending n marks)) in (
        distinct_few (concat (faces f (marked n marks))) n
            (faces_distinct f (places n) (within_places wf) (apart_places af) (few_places few) l (λ x k. (in_places n x (start_below x k), starts x k)) once)
            (λ x k. let r = faces_only f (places n) (within_places wf) (apart_places af) (few_places few) l x k in
            places_below n x (face_stays f (places n) (within_places wf) (apart_places af) (few_places few) r.0 x (in_places n r.0 (start_below r.0 r.1)) r.2)),
        omega (arith, distinct_few l n once start_below, length-map l (cycle f)),
      )
    where
      starts : (x : ℕ) → In x (keep (λ x. all (leb x) (cycle f x)) (marked n marks)) → all (leb x) (cycle f x) ≡ true
      starts x k = (keep_in (λ x. all (leb x) (cycle f x)) (marked n marks) x k).1

      start_below : (x : ℕ) → In x (keep (λ x. all (leb x) (cycle f x)) (marked n marks)) → x < n
      start_below x k = (marked_in n marks x (keep_in (λ x. all (leb x) (cycle f x)) (marked n marks) x k).0).0

  -- what is in order is at most n
  pub in_order_few : {out starts : List ℕ} {darts count : ℕ} → InOrder (faces f (marked n marks)) out starts darts count → (darts ≤ n) × (count ≤ n)
  in_order_few o = (omega (arith, o.darts_are, faces_few.0), omega (arith, o.count_is, faces_few.1))

  pub face_at : (k : ℕ) → k < length (faces f (marked n marks)) → (0 < length (get_or (faces f (marked n marks)) k [])) × (start_of (get_or (faces f (marked n marks)) k []) < n)
  unfolding faces
  face_at k h =
      let l = keep (λ x. all (leb x) (cycle f x)) (marked n marks) in
      let small : k < length l = omega (arith, length-map l (cycle f)) in
      let x = get_or l k 0 in
      let below : x < n = (marked_in n marks x (keep_in (λ x. all (leb x) (cycle f x)) (marked n marks) x (getD_in l k small)).0).0 in
      let r = round few wf af x below in
      let e = getD_cycles f l k small in
      (omega (arith, r.some, ap length e), omega (arith, ap start_of e ∙ cycle_start r))

  -- in the arrays
  pub start_place : {out starts : List ℕ} {darts count : ℕ} → InOrder (faces f (marked n marks)) out starts darts count → (k : ℕ) → k < count
      → (get_or starts k 0 < darts) × (get_or out (get_or starts k 0) 0 ≡ start_of (get_or (faces f (marked n marks)) k [])) × (get_or out (get_or starts k 0) 0 < n)
  start_place {out} {starts} {darts} {count} o k h =
      let fs = faces f (marked n marks) in
      let w = face_at k (omega (arith, o.count_is)) in
      let r = start_at 0 fs k (omega (arith, o.count_is)) w.0 in
      let index : get_or starts k 0 ≡ r.0 = sym (get_or-take count starts k 0 h) ∙ ap (λ (l : List ℕ). get_or l k 0) o.indices ∙ r.1 ∙ (omega arith) in
      let less : get_or starts k 0 < darts = omega (arith, o.darts_are, r.2) in
      let place : get_or out (get_or starts k 0) 0 ≡ start_of (get_or fs k []) =
      sym (get_or-take darts out (get_or starts k 0) 0 less) ∙ ap (λ (l : List ℕ). get_or l (get_or starts k 0) 0) o.order
      ∙ ap (λ (j : ℕ). get_or (concat fs) j 0) index ∙ r.3
      in
      (less, place, omega (arith, w.1))

-- COUNTS: of the faces before k, so many pass
module _ (q : List ℕ → Bool) (fs : List (List ℕ)) (k count : ℕ) (so_far : count ≡ length (keep q (take k fs))) (h : k < length fs) where
  more_faces : keep q (take (k + 1) fs) ≡ keep q (take k fs) ++ keep q (get_or fs k [] ∷ [])
  more_faces = ap (λ (j : ℕ). keep q (take j fs)) (add-one k) ∙ ap (keep q) (take-suc fs k [] h) ∙ keep_append q (take k fs) (get_or fs k [] ∷ [])

  pub count_skip : q (get_or fs k []) ≡ false → count ≡ length (keep q (take (k + 1) fs))
  count_skip e = omega (arith, so_far, ap length more_faces, length-append (keep q (take k fs)) (keep q (get_or fs k [] ∷ [])), none)
    where
      none : length (keep q (get_or fs k [] ∷ [])) ≡ 0
      none = rw e

  pub count_one : q (get_or fs k []) ≡ true → count + 1 ≡ length (keep q (take (k + 1) fs))
  count_one e = omega (arith, so_far, ap length more_faces, length-append (keep q (take k fs)) (keep q (get_or fs k [] ∷ [])), one)
    where
      one : length (keep q (get_or fs k [] ∷ [])) ≡ 1
      one = rw e

pub count_all : (q : List ℕ → Bool) (fs : List (List ℕ)) (k count : ℕ) → count ≡ length (keep q (take k fs)) → length fs ≤ k → count ≡ length (keep q fs)
count_all q fs k count e h = e ∙ ap (λ (l : List (List ℕ)). length (keep q l)) (take_all k fs h)

-- THE TEST OF ONE PLACE, arm by arm
pub sewn_away : (marks : List ℕ) (k j q r : ℕ) → j ≡ k → eqb (j % 4) 1 ≡ true → q ≡ r → not (eqb (get_or marks q 0) 1) ≡ (eqb (k % 4) 1 && not (eqb (get_or marks r 0) 1))
sewn_away marks k j q r e h f = rw (← e, h, f)

-- QUESTION 14
module _ {m : List ℕ} (site : Sited m) (p : ℕ) (h : p < count_in m) {marks : List ℕ} (mk : Marked (volume_of m p) marks) where
  -- the model's sewn faces, from the places
  pub sewn_faces_serials : map (map (column m 0)) (keep (λ f. sewn_out m marks (start_of f)) (faces (column m 1) (marked (count_in m) marks))) ≡ sewn_faces (darts_in m) (column m 0 p)
  unfolding sewn_faces faces
  sewn_faces_serials =
      let l = keep (λ x. all (leb x) (cycle (column m 1) x)) (marked (count_in m) marks) in
      let test : List ℕ → Bool = λ f. is_sewn_out_of (volume_in (darts_in m) (column m 0 p)) (third_at (darts_in m) (start_of f)) in
      sym (ap (keep test) (sym (faces_serials site p h mk))
      ∙ keep_map test (map (column m 0)) (map (cycle (column m 1)) l)
      ∙ ap (map (map (column m 0))) (keep_map (λ f. test (map (column m 0) f)) (cycle (column m 1)) l
      ∙ ap (map (cycle (column m 1))) (keep_cong (λ x. test (map (column m 0) (cycle (column m 1) x))) (λ x. sewn_out m marks (start_of (cycle (column m 1) x))) l (λ x k. same x k))
      ∙ sym (keep_map (λ f. sewn_out m marks (start_of f)) (cycle (column m 1)) l)))
    where
      start_map : (f : List ℕ) → 0 < length f → start_of (map (column m 0) f) ≡ column m 0 (start_of f)
      start_map [] some = absurd (omega arith)
      start_map (y ∷ f) some = refl

      same : (x : ℕ) → In x (keep (λ x. all (leb x) (cycle (column m 1) x)) (marked (count_in m) marks))
          → is_sewn_out_of (volume_in (darts_in m) (column m 0 p)) (third_at (darts_in m) (start_of (map (column m 0) (cycle (column m 1) x)))) ≡ sewn_out m marks (start_of (cycle (column m 1) x))
      same x k =
          let below : x < count_in m = marked_below site p h mk x (keep_in (λ x. all (leb x) (cycle (column m 1) x)) (marked (count_in m) marks) x k).0 in
          let r = round site.linked.few site.linked.next_within site.linked.next_apart x below in
          ap (λ (s : ℕ). is_sewn_out_of (volume_in (darts_in m) (column m 0 p)) (third_at (darts_in m) s)) (start_map (cycle (column m 1) x) r.some ∙ ap (column m 0) (cycle_start r))
          ∙ sewn_out_is site p h mk x below ∙ ap (sewn_out m marks) (sym (cycle_start r))

  pub question_14 : length (sewn_faces (darts_in m) (column m 0 p)) ≡ length (keep (λ f. sewn_out m marks (start_of f)) (faces (column m 1) (marked (count_in m) marks)))
  question_14 = ap length (sym sewn_faces_serials) ∙ length-map (keep (λ f. sewn_out m marks (start_of f)) (faces (column m 1) (marked (count_in m) marks))) (map (column m 0))
