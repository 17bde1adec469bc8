-- Message order: the faces of a volume hold each of its darts once. Assumes nothing.
use mathlib.Core.Path.{◌≡◌, refl, sym, ◌∙◌, ap, subst}
use mathlib.Core.Logic.{◌⊎◌, inl, inr, ◌≢◌}
use mathlib.Core.Bool.{Bool, true, false, true≢false, not}
use mathlib.Core.List.{List, [], ◌∷◌, map}
use Prim.Native.Nat.{ℕ, zero, suc, ◌+◌, ◌-◌, ◌<◌, ◌≤◌}
use native.Mathlib.Omega.{arith}
use lib.Dec.{leb}
use lib.ListN.{length}
use borrow.Author.Tests.{leb-true, le-leb, not-true}
use Rattle.model.specs.Lists.{all, keep, concat, mem, distinct, least}
use Rattle.model.specs.Cells.{around, cycle, faces, start_of}
use Rattle.laws.proofs.Members.{In, in_here, in_there, in_keep, in_cons, in_eq, all_in, all_from, keep_in, in_append_left, in_append_right, append_in, distinct_append, least_in, least_below}
use Rattle.laws.proofs.Orbits.{iter, iter_add, path, path_in, iter_stays, iter_inj, around_path, around_enough, Cyc, in_cycle, cycle_in, cycle_sym}
use Rattle.laws.proofs.Tests.{and_intro, and_left, and_right}

pub start_map : (s : ℕ → ℕ) (f : List ℕ) → 0 < length f → start_of (map s f) ≡ s (start_of f)
start_map s [] h = absurd (omega arith)
start_map s (x ∷ f) h = refl

module _ (nx : ℕ → ℕ) (v : List ℕ) (stays : (x : ℕ) → In x v → In (nx x) v) (inj : (x y : ℕ) → In x v → In y v → nx x ≡ nx y → x ≡ y) (small : length v ≤ 4096) where
  abbrev pub face : ℕ → List ℕ
  face x = around nx x 4096 x

  pub face_stays : (x y : ℕ) → In x v → In y (face x) → In y v
  face_stays x y h k = let r = cycle_in nx v stays inj 4096 x y small h k in in_eq y (iter nx r.0 x) v r.1 (iter_stays nx v stays inj r.0 x h)

  pub face_self : (x : ℕ) → In x v → In x (face x)
  face_self x h = in_cycle nx v stays inj 4096 x 0 small h

  pub face_trans : (x y z : ℕ) → In x v → In y (face x) → In z (face y) → In z (face x)
  face_trans x y z h k j =
      let a = cycle_in nx v stays inj 4096 x y small h k in
      let b = cycle_in nx v stays inj 4096 y z small (face_stays x y h k) j in
      in_eq z (iter nx (a.0 + b.0) x) (face x) (b.1 ∙ ap (iter nx b.0) a.1 ∙ sym (iter_add nx a.0 b.0 x)) (in_cycle nx v stays inj 4096 x (a.0 + b.0) small h)

  pub face_sym : (x y : ℕ) → In x v → In y (face x) → In x (face y)
  face_sym x y h k = cycle_sym nx v stays inj 4096 x y small h (face_stays x y h k) k

  abbrev pub is_start : ℕ → Bool
  is_start x = all (leb x) (face x)

  -- the least dart of a face starts it
  nonempty : (l : List ℕ) (x : ℕ) → In x l → In (least l) l
  nonempty [] x h = absurd (true≢false (sym h))
  nonempty (y ∷ l) x h = least_in y l

  pub face_start : ℕ → ℕ
  face_start x = least (face x)

  pub start_in : (x : ℕ) → In x v → In (face_start x) (face x)
  unfolding face_start
  start_in x h = nonempty (face x) x (face_self x h)

  pub start_starts : (x : ℕ) → In x v → is_start (face_start x) ≡ true
  unfolding face_start
  start_starts x h = all_from (leb (least (face x))) (face (least (face x))) (λ z k. le-leb _ z (least_below (face x) z (face_trans x (face_start x) z h (start_in x h) k)))

  -- one face, one start
  pub start_unique : (x y : ℕ) → In x v → In y v → is_start x ≡ true → is_start y ≡ true → In y (face x) → x ≡ y
  start_unique x y hx hy sx sy k =
      let a = leb-true x y (all_in (leb x) (face x) sx y k) in
      let b = leb-true y x (all_in (leb y) (face y) sy x (face_sym x y hx k)) in
      omega arith

  pub in_faces : (l : List ℕ) (s x : ℕ) → In s l → In x (face s) → In x (concat (map face l))
  unfolding concat
  in_faces [] s x h k = absurd (true≢false (sym h))
  in_faces (y ∷ l) s x h k = in_cons s y l h (λ e. in_append_left x (face y) _ (subst (λ (t : ℕ). In x (face t)) e k)) (λ j. in_append_right x (face y) (concat (map face l)) (in_faces l s x j k))

  pub faces_only : (l : List ℕ) (x : ℕ) → In x (concat (map face l)) → (s : ℕ) × In s l × In x (face s)
  unfolding concat
  faces_only [] x h = absurd (true≢false (sym h))
  faces_only (y ∷ l) x h = go (append_in x (face y) (concat (map face l)) h) (faces_only l x)
    where
      go : In x (face y) ⊎ In x (concat (map face l)) → (In x (concat (map face l)) → (s : ℕ) × In s l × In x (face s)) → (s : ℕ) × In s (y ∷ l) × In x (face s)
      go (inl a) ih = (y, in_here y l, a)
      go (inr a) ih = let r = ih a in (r.0, in_there r.0 y l r.1, r.2)

  -- a face has at most as many darts as the volume
  pub face_few : (x : ℕ) → In x v → length (face x) ≤ 4096
  face_few x h = let r = around_path nx v stays inj 4096 x small h in let n = path_length r.0 x in omega (arith, ap length r.3, r.2)
    where
      path_length : (p x : ℕ) → length (path nx p x) ≡ p
      path_length zero x = refl
      path_length (suc p) x = ap suc (path_length p (nx x))

  -- so many steps are enough: with more of them the cycle is the same
  pub cycle_enough : (n x : ℕ) → 4096 ≤ n → In x v → around nx x n x ≡ cycle nx x
  unfolding cycle
  cycle_enough n x h m = around_enough nx v stays inj n 4096 x (omega arith) small m

  -- what holds of a dart and goes on along next holds of its face
  pub along_face : (P : ℕ → Type 0) → ((y : ℕ) → In y v → P y → P (nx y)) → (x y : ℕ) → In x v → P x → In y (face x) → P y
  along_face P step x y h p m = let r = cycle_in nx v stays inj 4096 x y small h m in subst P (sym r.1) (go r.0 x h p)
    where
      go : (n z : ℕ) → In z v → P z → P (iter nx n z)
      go zero z k q = q
      go (suc n) z k q = go n (nx z) (stays z k) (step z k q)

  -- message order: all darts of the volume and no other
  pub order_has : (x : ℕ) → In x v → In x (concat (faces nx v))
  unfolding faces cycle
  order_has x h =
      in_faces (keep is_start v) (face_start x) x
      (in_keep is_start (face_start x) v (face_stays x (face_start x) h (start_in x h)) (start_starts x h))
      (face_sym x (face_start x) h (start_in x h))

  pub order_only : (x : ℕ) → In x (concat (faces nx v)) → In x v
  unfolding faces cycle
  order_only x h = let r = faces_only (keep is_start v) x h in face_stays r.0 x (keep_in is_start v r.0 r.1).0 r.2

  -- each face has a dart once
  path_distinct : (p x : ℕ) → In x v → ((a b : ℕ) → a < b → b < p → iter nx a x ≢ iter nx b x) → distinct (path nx p x) ≡ true
  path_distinct zero x h apart = refl
  path_distinct (suc p) x h apart = and_intro (go (mem x (path nx p (nx x))) refl) (path_distinct p (nx x) (stays x h) (λ a b s t. apart (suc a) (suc b) (omega arith) (omega arith)))
    where
      go : (o : Bool) → mem x (path nx p (nx x)) ≡ o → not (mem x (path nx p (nx x))) ≡ true
      go false e = rw e
      go true e = let r = path_in nx p (nx x) x e in absurd (apart 0 (suc r.0) (omega arith) (omega (arith, r.1)) r.2)

  cycle_apart : (x : ℕ) → In x v → (r : Cyc nx v stays inj 4096 x) → (a b : ℕ) → a < b → b < r.0 → iter nx a x ≢ iter nx b x
  cycle_apart x h r a b s t e = r.5 (b - a) (omega arith) (omega arith) (sym (iter_inj nx v stays inj a x (iter nx (b - a) x) h (iter_stays nx v stays inj (b - a) x h) (e ∙ shift)))
    where
      shift : iter nx b x ≡ iter nx a (iter nx (b - a) x)
      shift = let q : b ≡ (b - a) + a = omega arith in ap (λ (k : ℕ). iter nx k x) q ∙ iter_add nx (b - a) a x

  pub face_distinct : (x : ℕ) → In x v → distinct (face x) ≡ true
  face_distinct x h = let r = around_path nx v stays inj 4096 x small h in rw r.3 (path_distinct r.0 x h (cycle_apart x h r))

  pub faces_distinct : (l : List ℕ) → ((x : ℕ) → In x l → In x v × (is_start x ≡ true)) → distinct l ≡ true → distinct (concat (map face l)) ≡ true
  unfolding concat
  faces_distinct [] h d = refl
  faces_distinct (y ∷ l) h d = distinct_append (face y) (concat (map face l)) (face_distinct y (h y (in_here y l)).0)
      (faces_distinct l (λ x k. h x (in_there x y l k)) (and_right (not (mem y l)) _ d)) (λ x k. go x k (mem x (concat (map face l))) refl)
    where
      go : (x : ℕ) → In x (face y) → (o : Bool) → mem x (concat (map face l)) ≡ o → mem x (concat (map face l)) ≡ false
      go x k false e = e
      go x k true e =
          let r = faces_only l x e in
          let hy = h y (in_here y l) in
          let hs = h r.0 (in_there r.0 y l r.1) in
          let same = start_unique y r.0 hy.0 hs.0 hy.1 hs.1 (face_trans y x r.0 hy.0 k (face_sym r.0 x hs.0 r.2)) in
          absurd (true≢false (sym (in_eq y r.0 l same r.1) ∙ not-true (mem y l) (and_left _ _ d)))
