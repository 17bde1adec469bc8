-- The faces of a volume that pass a test which tells, by any dart of a face, whether its darts have a property. Assumes nothing.
use mathlib.Core.Path.{◌≡◌}
use mathlib.Core.Bool.{Bool, true}
use mathlib.Core.List.{List, [], ◌∷◌, map}
use Prim.Native.Nat.{ℕ, ◌≤◌}
use lib.Dec.{leb}
use lib.ListN.{length}
use Rattle.model.specs.Lists.{all, keep, concat, distinct, ascending}
use Rattle.model.specs.Cells.{cycle, faces}
use Rattle.laws.proofs.Faces.{face, face_stays, face_sym, is_start, face_start, start_in, start_starts, in_faces, faces_only, face_few, along_face, faces_distinct}
use Rattle.laws.proofs.Members.{In, in_here, in_there, in_keep, keep_in, keep_ascending, ascending_distinct, Each, keep_map}

module _ (nx : ℕ → ℕ) (v : List ℕ) (stays : (x : ℕ) → In x v → In (nx x) v) (inj : (x y : ℕ) → In x v → In y v → nx x ≡ nx y → x ≡ y) (small : length v ≤ 4096)
    (order : ascending v ≡ true) (p : List ℕ → Bool) where
  -- where they start
  abbrev pub starts : List ℕ
  starts = keep (λ x. p (cycle nx x)) (keep (λ x. all (leb x) (cycle nx x)) v)

  pub kept_are : keep p (faces nx v) ≡ map (cycle nx) starts
  unfolding faces
  kept_are = keep_map p (cycle nx) (keep (λ x. all (leb x) (cycle nx x)) v)

  pub start_there : (x : ℕ) → In x starts → In x v × (is_start nx v stays inj small x ≡ true) × (p (cycle nx x) ≡ true)
  unfolding cycle
  start_there x h = let a = keep_in (λ y. p (cycle nx y)) (keep (λ y. all (leb y) (cycle nx y)) v) x h in let b = keep_in (λ y. all (leb y) (cycle nx y)) v x a.0 in (b.0, b.1, a.1)

  pub starts_distinct : distinct starts ≡ true
  starts_distinct = ascending_distinct starts (keep_ascending (λ x. p (cycle nx x)) _ (keep_ascending (λ x. all (leb x) (cycle nx x)) v order))

  -- their darts are in no two of them
  pub kept_distinct : distinct (concat (keep p (faces nx v))) ≡ true
  unfolding cycle
  kept_distinct = rw kept_are (faces_distinct nx v stays inj small starts (λ x h. let a = start_there x h in (a.0, a.1)) starts_distinct)

  few_each : (l : List ℕ) → ((x : ℕ) → In x l → In x v) → Each (λ f. length f ≤ 4096) (map (cycle nx) l)
  unfolding cycle
  few_each [] h = tt
  few_each (x ∷ l) h = (face_few nx v stays inj small x (h x (in_here x l)), few_each l (λ y m. h y (in_there y x l m)))

  pub kept_few : Each (λ f. length f ≤ 4096) (keep p (faces nx v))
  kept_few = rw kept_are (few_each starts (λ x h. (start_there x h).0))

  module _ (P : ℕ → Type 0) (goes : (x : ℕ) → In x v → P x → P (nx x)) (says : (x : ℕ) → In x v → p (cycle nx x) ≡ true → P x) (hears : (x : ℕ) → In x v → P x → p (cycle nx x) ≡ true) where
    -- they hold the darts that have the property, and no others
    pub kept_in : (x : ℕ) → In x (concat (keep p (faces nx v))) → In x v × P x
    unfolding cycle
    kept_in x h =
        let r = faces_only nx v stays inj small starts x (rw kept_are at h) in
        let a = start_there r.0 r.1 in
        (face_stays nx v stays inj small r.0 x a.0 r.2, along_face nx v stays inj small P goes r.0 x a.0 (says r.0 a.0 a.2) r.2)

    -- the start of the face of such a dart
    pub start_kept : (x : ℕ) → In x v → P x → (st : ℕ) × In st starts × In st (face nx v stays inj small x) × In x (face nx v stays inj small st)
    unfolding cycle
    start_kept x h c =
        let st = face_start nx v stays inj small x in
        let m = start_in nx v stays inj small x h in
        let sv = face_stays nx v stays inj small x st h m in
        let cs = along_face nx v stays inj small P goes x st h c m in
        let is = start_starts nx v stays inj small x h in
        (st, in_keep (λ y. p (cycle nx y)) st (keep (λ y. all (leb y) (cycle nx y)) v) (in_keep (λ y. all (leb y) (cycle nx y)) st v sv is) (hears st sv cs), m, face_sym nx v stays inj small x st h m)

    pub in_kept : (x : ℕ) → In x v → P x → In x (concat (keep p (faces nx v)))
    unfolding cycle
    in_kept x h c = let q = start_kept x h c in rw kept_are (in_faces nx v stays inj small starts q.0 x q.1 q.3)
