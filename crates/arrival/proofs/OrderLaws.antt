-- Faces in message order, by index: the test of each dart tells that of the faces. Assumes nothing.
use mathlib.Core.Path.{◌≡◌, refl, sym, ◌∙◌, ap, subst}
use mathlib.Core.Bool.{Bool, true, false, true≢false, not, ◌&&◌}
use mathlib.Core.List.{List, [], ◌∷◌, map}
use mathlib.Core.Logic.{⊎_elim}
use Prim.Native.Nat.{ℕ, suc, ◌+◌, ◌-◌, ◌≤◌, ◌<◌}
use native.Mathlib.Omega.{arith}
use lib.Dec.{leb, ltb, eqb}
use lib.ListN.{length, get_or, replicate, length-replicate, get_or-replicate, length-map, get_or-append, get_or-map}
use borrow.Author.Tests.{eq-eqb, ne_eqb, leb-true, le-leb, ltb-true, lt-ltb, eqb-false, not-true}
use Rattle.model.specs.Lists.{all, concat, tab, ascending}
use Rattle.model.specs.Cells.{start_of}
use Rattle.model.specs.Messages.{FaceDart, Transfer, size_all}
use Rattle.model.specs.Arrival.{face_serials, faces_ordered}
use Rattle.laws.proofs.Tests.{by_cases, all_at, lt_or_ge, eq_or_ne, and_intro, and_left, and_right, same_truth}
use Rattle.laws.proofs.Members.{Each, all_map}
use Rattle.laws.proofs.Maps.{all_weaken}
use Rattle.laws.proofs.Tables.{all_tab, tab_all}
use Rattle.inbox.specs.Inbox.{FacesIn, starts_of, is_hollow}
use Rattle.arrival.specs.Sides.{floor_at, order_at}
use Rattle.arrival.proofs.SideLaws.{no_side, From, past_face, from_start}

-- faces whose starts ascend from a floor on
abbrev Chained : ℕ → List (List FaceDart) → Type 0
Chained p [] = Unit {0}
Chained p (f ∷ fs) = (p ≤ start_of (face_serials f)) × Chained (suc (start_of (face_serials f))) fs

abbrev Started : List (List FaceDart) → Type 0
Started [] = Unit {0}
Started (f ∷ fs) = ((j : ℕ) → j < length f → start_of (face_serials f) ≤ (get_or f j no_side).serial) × Started fs

module _ (v x b z : List ℕ) where
  module _ (o : ℕ) (f : List FaceDart) (fs : List (List FaceDart)) (w : From v x b z o (f ∷ fs)) where
    within : {j : ℕ} → j < length f → j < size_all (f ∷ fs)
    unfolding size_all
    within h = omega (arith, h)

    serial_at : (j : ℕ) → j < length f → get_or x (o + j) 0 ≡ (get_or f j no_side).serial
    unfolding concat
    serial_at j h = w.serial_is j (within h) ∙ ap (λ (d : FaceDart). d.serial) (get_or-append f (concat fs) no_side j h)

    start_at : (j : ℕ) → j < length f → get_or b (o + j) 0 ≡ o
    unfolding starts_of
    start_at j h = w.start_is j (within h) ∙ get_or-append (replicate (length f) o) _ 0 j (rw (length-replicate (length f) o) h) ∙ get_or-replicate (length f) j o 0 h

    start_is : 0 < length f → get_or x o 0 ≡ start_of (face_serials f)
    start_is h = ap (λ (i : ℕ). get_or x i 0) (omega arith) ∙ serial_at 0 h ∙ sym (get_or-map (λ (d : FaceDart). d.serial) f 0 no_side)

    -- the floor past a face is its start
    floor_past : 0 < length f → floor_at x b (o + length f) ≡ suc (start_of (face_serials f))
    floor_past h =
        let e : o + length f - 1 ≡ o + (length f - 1) = omega (arith, h) in
        rw (ne_eqb (o + length f) 0 (λ q. omega (arith, h, q)), e, start_at (length f - 1) (omega (arith, h)), start_is h) refl

    forth_first : 0 < length f → order_at x b (o + 0) ≡ true → floor_at x b o ≤ start_of (face_serials f)
    forth_first h t =
        let s : get_or b o 0 ≡ o = ap (λ (i : ℕ). get_or b i 0) (omega arith) ∙ start_at 0 h in
        let z : o + 0 ≡ o = omega arith in
        let u = and_right (leb (get_or x (get_or b o 0) 0) (get_or x o 0)) _ (rw z at t) in
        let g : leb (floor_at x b o) (get_or x o 0) ≡ true = rw (s, eq-eqb o o refl) at u in
        omega (arith, leb-true (floor_at x b o) (get_or x o 0) g, start_is h)

    forth_each : (j : ℕ) → j < length f → order_at x b (o + j) ≡ true → start_of (face_serials f) ≤ (get_or f j no_side).serial
    forth_each j h t =
        let g = leb-true (get_or x (get_or b (o + j) 0) 0) (get_or x (o + j) 0) (and_left (leb (get_or x (get_or b (o + j) 0) 0) (get_or x (o + j) 0)) _ t) in
        let e : get_or x (get_or b (o + j) 0) 0 ≡ start_of (face_serials f) = ap (λ (i : ℕ). get_or x i 0) (start_at j h) ∙ start_is (omega (arith, h)) in
        omega (arith, g, e, serial_at j h)

    back_each : (j : ℕ) → j < length f → start_of (face_serials f) ≤ (get_or f j no_side).serial → floor_at x b o ≤ start_of (face_serials f) → order_at x b (o + j) ≡ true
    back_each j h q r =
        let e : get_or x (get_or b (o + j) 0) 0 ≡ start_of (face_serials f) = ap (λ (i : ℕ). get_or x i 0) (start_at j h) ∙ start_is (omega (arith, h)) in
        and_intro (le-leb (get_or x (get_or b (o + j) 0) 0) (get_or x (o + j) 0) (omega (arith, q, e, serial_at j h))) (rw (start_at j h) (⊎_elim
        (λ (y : j ≡ 0). let y' : o + j ≡ o = omega (arith, y) in rw (y', eq-eqb o o refl) (le-leb (floor_at x b o) (get_or x o 0) (omega (arith, r, start_is (omega (arith, h))))))
        (λ (y : j ≡ 0 → ⊥). rw (ne_eqb o (o + j) (λ u. y (omega (arith, u)))) refl)
        (eq_or_ne j 0)))

  -- every test of the darts from index o on
  abbrev Tested : ℕ → List (List FaceDart) → Type 0
  Tested o fs = (j : ℕ) → j < size_all fs → order_at x b (o + j) ≡ true

  abbrev Full : List (List FaceDart) → Type 0
  Full fs = Each (λ (f : List FaceDart). 0 < length f) fs

  forth : (o : ℕ) (fs : List (List FaceDart)) → From v x b z o fs → Full fs → Tested o fs → Chained (floor_at x b o) fs × Started fs
  unfolding size_all
  forth o [] w h t = (tt, tt)
  forth o (f ∷ fs) w h t =
      let r = forth (o + length f) fs (past_face v x b z o f fs w) h.1 (λ j l. rw (shift j) (t (length f + j) (omega (arith, l)))) in
      ((forth_first o f fs w h.0 (t 0 (omega (arith, h.0))), rw (floor_past o f fs w h.0) at r.0), (λ j l. forth_each o f fs w j l (t j (omega (arith, l))), r.1))
    where
      shift : (j : ℕ) → o + length f + j ≡ o + (length f + j)
      shift j = omega arith

  back : (o : ℕ) (fs : List (List FaceDart)) → From v x b z o fs → Full fs → Chained (floor_at x b o) fs → Started fs → Tested o fs
  unfolding size_all
  back o [] w h c s j l = absurd (omega (arith, l))
  back o (f ∷ fs) w h c s j l = ⊎_elim
      (λ (y : j < length f). back_each o f fs w j y (s.0 j y) c.0)
      (λ (y : length f ≤ j). let e : o + j ≡ o + length f + (j - length f) = omega (arith, y) in
      rw e (back (o + length f) fs (past_face v x b z o f fs w) h.1 (rw (floor_past o f fs w h.0) c.1) s.1 (j - length f) (omega (arith, y, l))))
      (lt_or_ge j (length f))

-- THE MODEL'S TEST
abbrev starts : List (List FaceDart) → List ℕ
starts fs = map start_of (map face_serials fs)

chained_ascends : (p : ℕ) (fs : List (List FaceDart)) → Chained p fs → (all (leb p) (starts fs) ≡ true) × (ascending (starts fs) ≡ true)
unfolding ascending
chained_ascends p [] c = (refl, refl)
chained_ascends p (f ∷ fs) c =
    let s = start_of (face_serials f) in
    let r = chained_ascends (suc s) fs c.1 in (
      and_intro (le-leb p s c.0) (all_weaken (leb (suc s)) (leb p) (starts fs) (λ y h. le-leb p y (let g = leb-true (suc s) y h in omega (arith, g, c.0))) r.0),
      and_intro (all_weaken (leb (suc s)) (ltb s) (starts fs) (λ y h. lt-ltb s y (let g = leb-true (suc s) y h in omega (arith, g))) r.0) r.1,
    )

ascends_chained : (p : ℕ) (fs : List (List FaceDart)) → all (leb p) (starts fs) ≡ true → ascending (starts fs) ≡ true → Chained p fs
unfolding ascending
ascends_chained p [] a u = tt
ascends_chained p (f ∷ fs) a u =
    let s = start_of (face_serials f) in (
      leb-true p s (and_left (leb p s) _ a),
      ascends_chained (suc s) fs
          (all_weaken (ltb s) (leb (suc s)) (starts fs) (λ y h. le-leb (suc s) y (let g = ltb-true s y h in omega (arith, g)))
          (and_left (all (ltb s) (starts fs)) _ u)) (and_right (all (ltb s) (starts fs)) _ u),
    )

-- one face: not of size 0, and started at its least
abbrev face_right : List ℕ → Bool
face_right f = ltb 0 (length f) && all (leb (start_of f)) f

right_started : (fs : List (List FaceDart)) → all face_right (map face_serials fs) ≡ true → Each (λ (f : List FaceDart). 0 < length f) fs × Started fs
right_started [] a = (tt, tt)
right_started (f ∷ fs) a =
    let g = and_left (face_right (face_serials f)) _ a in
    let r = right_started fs (and_right (face_right (face_serials f)) _ a) in
    let n = ltb-true 0 (length (face_serials f)) (and_left (ltb 0 (length (face_serials f))) _ g) in
    ((omega (arith, n, length-map f (λ (d : FaceDart). d.serial)), r.0), (each f (start_of (face_serials f)) (and_right (ltb 0 (length (face_serials f))) _ g), r.1))
  where
    each : (f : List FaceDart) (s : ℕ) → all (leb s) (face_serials f) ≡ true → (j : ℕ) → j < length f → s ≤ (get_or f j no_side).serial
    each f s a j h = leb-true s (get_or f j no_side).serial (all_at (λ (d : FaceDart). leb s d.serial) no_side f j (sym (all_map (leb s) (λ (d : FaceDart). d.serial) f) ∙ a) h)

started_right : (fs : List (List FaceDart)) → Each (λ (f : List FaceDart). 0 < length f) fs → Started fs → all face_right (map face_serials fs) ≡ true
started_right [] n s = refl
started_right (f ∷ fs) n s =
    and_intro
    (and_intro (lt-ltb 0 (length (face_serials f)) (omega (arith, n.0, length-map f (λ (d : FaceDart). d.serial))))
    (each f (start_of (face_serials f)) s.0)) (started_right fs n.1 s.1)
  where
    each : (f : List FaceDart) (s : ℕ) → ((j : ℕ) → j < length f → s ≤ (get_or f j no_side).serial) → all (leb s) (face_serials f) ≡ true
    each [] s h = refl
    each (d ∷ f) s h = and_intro (le-leb s d.serial (h 0 (omega arith))) (each f s (λ j l. h (suc j) (omega (arith, l))))

full_hollow : (fs : List (List FaceDart)) → Each (λ (f : List FaceDart). 0 < length f) fs → is_hollow fs ≡ false
full_hollow [] n = refl
full_hollow (f ∷ fs) n = rw (ne_eqb (length f) 0 (λ e. omega (arith, e, n.0))) (full_hollow fs n.1)

hollow_full : (fs : List (List FaceDart)) → is_hollow fs ≡ false → Each (λ (f : List FaceDart). 0 < length f) fs
hollow_full [] h = tt
hollow_full (f ∷ fs) h = by_cases (eqb (length f) 0)
    (λ e. absurd (true≢false (rw e at h)))
    (λ e. (⊎_elim (λ (q : 0 < length f). q) (λ (q : length f ≤ 0). absurd (eqb-false (length f) 0 e (omega (arith, q)))) (lt_or_ge 0 (length f)), hollow_full fs (rw e at h)))

all_zero : (l : List ℕ) → all (leb 0) l ≡ true
all_zero [] = refl
all_zero (y ∷ l) = and_intro (le-leb 0 y (omega arith)) (all_zero l)

-- "No face of size 0", faces by least serial, each started at its least serial
pub order_is : (v x b z : List ℕ) (t : Transfer) → FacesIn t.faces v x b z → faces_ordered t ≡ (not (is_hollow t.faces) && all (order_at x b) (tab (λ i. i) (size_all t.faces)))
unfolding faces_ordered
order_is v x b z t w = same_truth _ _ there back_again
  where
    from : From v x b z 0 t.faces
    from = from_start v x b z t.faces w

    there : faces_ordered t ≡ true → (not (is_hollow t.faces) && all (order_at x b) (tab (λ i. i) (size_all t.faces))) ≡ true
    there q =
        let a = right_started t.faces (and_left (all face_right (map face_serials t.faces)) _ q) in
        let c = ascends_chained 0 t.faces (all_zero (starts t.faces)) (and_right (all face_right (map face_serials t.faces)) _ q) in
        and_intro (ap not (full_hollow t.faces a.0))
        (tab_all (order_at x b) (λ i. i) (size_all t.faces)
        (λ j h. subst (λ (i : ℕ). order_at x b i ≡ true) (let e : 0 + j ≡ j = omega arith in e)
        (back v x b z 0 t.faces from a.0 c a.1 j h)))

    back_again : (not (is_hollow t.faces) && all (order_at x b) (tab (λ i. i) (size_all t.faces))) ≡ true → faces_ordered t ≡ true
    back_again q =
        let n = hollow_full t.faces (not-true _ (and_left (not (is_hollow t.faces)) _ q)) in
        let g = and_right (not (is_hollow t.faces)) _ q in
        let r =
        forth v x b z 0 t.faces from n
        (λ j h. subst (λ (i : ℕ). order_at x b i ≡ true) (let e : j ≡ 0 + j = omega arith in e)
        (all_tab (order_at x b) (λ i. i) (size_all t.faces) g j h))
        in
        and_intro (started_right t.faces n r.1) (chained_ascends 0 t.faces r.0).1
