-- The labels of the faces that a move cuts: one number to a face from the counter on, positions along next. Assumes nothing.
use mathlib.Core.Path.{◌≡◌, refl, sym, ◌∙◌, ap}
use mathlib.Core.Logic.{◌⊎◌, inl, inr, ◌≢◌}
use mathlib.Core.Bool.{Bool, true, false, true≢false, cond, not, ◌&&◌}
use mathlib.Core.List.{List, [], ◌∷◌, ◌++◌, map}
use Prim.Native.Nat.{ℕ, suc, ◌+◌, ◌<◌, ◌≤◌}
use native.Mathlib.Omega.{arith}
use lib.Dec.{eqb}
use lib.ListN.{length}
use borrow.Author.Tests.{eqb-true, eqb-false, eq-eqb, not-true}
use Rattle.model.specs.Lists.{keep, concat, mem, distinct, index_of}
use Rattle.model.specs.Values.{Label}
use Rattle.model.specs.Cells.{around, cycle, faces, start_of}
use Rattle.model.specs.UndividedRun.{State, nx, th}
use Rattle.laws.proofs.Faces.{face, is_start}
use Rattle.laws.proofs.KeptFaces.{starts, start_there as start-there-is, starts_distinct as distinct-starts, kept_are, kept_distinct, kept_few, kept_in, start_kept, in_kept}
use Rattle.laws.proofs.Members.{In, append_in, Each}
use Rattle.laws.proofs.Tests.{by_cases, and_intro, and_left, and_right, not_equal}
use Rattle.agreement.proofs.Described.{Map, third_level}
use Rattle.agreement.proofs.MovedCell.{Cell}

-- the label that a dart of the cut faces gets
unfoldable pub fresh_of : ℕ → ℕ → List (List ℕ) → ℕ → Label
fresh_of i c [] x = record { maker = i; number = c; position = 0 }
fresh_of i c (f ∷ fs) x = cond (mem x f) (record { maker = i; number = c; position = index_of x f }) (fresh_of i (suc c) fs x)

pub fresh_maker : (i c : ℕ) (fs : List (List ℕ)) (x : ℕ) → (fresh_of i c fs x).maker ≡ i
unfolding fresh_of
fresh_maker i c [] x = refl
fresh_maker i c (f ∷ fs) x = by_cases (mem x f) (λ e. rw e) (λ e. rw e (fresh_maker i (suc c) fs x))

pub fresh_low : (i c : ℕ) (fs : List (List ℕ)) (x : ℕ) → c ≤ (fresh_of i c fs x).number
unfolding fresh_of
fresh_low i c [] x = omega arith
fresh_low i c (f ∷ fs) x = by_cases (mem x f) (λ e. rw e (omega arith)) (λ e. rw e (omega (arith, fresh_low i (suc c) fs x)))

pub fresh_high : (i c : ℕ) (fs : List (List ℕ)) (x : ℕ) → In x (concat fs) → (fresh_of i c fs x).number < c + length fs
unfolding fresh_of concat
fresh_high i c [] x h = absurd (true≢false (sym h))
fresh_high i c (f ∷ fs) x h = by_cases (mem x f)
    (λ e. rw e (omega arith))
    (λ e. rw e (go (append_in x f (concat fs) h) e (fresh_high i (suc c) fs x)))
  where
    go : In x f ⊎ In x (concat fs) → mem x f ≡ false → (In x (concat fs) → (fresh_of i (suc c) fs x).number < suc c + length fs) → (fresh_of i (suc c) fs x).number < c + suc (length fs)
    go (inl a) e ih = absurd (true≢false (sym a ∙ e))
    go (inr a) e ih = omega (arith, ih a)

pub index_in : (x : ℕ) (l : List ℕ) → In x l → index_of x l < length l
unfolding index_of
index_in x [] h = absurd (true≢false (sym h))
index_in x (y ∷ l) h = by_cases (eqb x y) (λ e. rw e (omega arith)) (λ e. rw e (omega (arith, index_in x l (rw e at h))))

pub index_one : (x y : ℕ) (l : List ℕ) → In x l → In y l → index_of x l ≡ index_of y l → x ≡ y
unfolding index_of
index_one x y [] h k e = absurd (true≢false (sym h))
index_one x y (z ∷ l) h k e = by_cases (eqb x z)
    (λ a. by_cases (eqb y z)
    (λ b. eqb-true x z a ∙ sym (eqb-true y z b))
    (λ b. absurd (let q : 0 ≡ suc (index_of y l) = rw (a, b) at e in omega arith)))
    (λ a. by_cases (eqb y z)
    (λ b. absurd (let q : suc (index_of x l) ≡ 0 = rw (a, b) at e in omega arith))
    (λ b. let q : suc (index_of x l) ≡ suc (index_of y l) = rw (a, b) at e in index_one x y l (rw a at h) (rw b at k) (omega arith)))

pub fresh_position : (i c : ℕ) (fs : List (List ℕ)) (x : ℕ) → Each (λ f. length f ≤ 4096) fs → (fresh_of i c fs x).position ≤ 4095
unfolding fresh_of
fresh_position i c [] x few = omega arith
fresh_position i c (f ∷ fs) x few = by_cases (mem x f)
    (λ e. rw e (let n = index_in x f e in let m = few.0 in omega arith))
    (λ e. rw e (fresh_position i (suc c) fs x few.1))

pub fresh_one : (i c : ℕ) (fs : List (List ℕ)) (x y : ℕ) → In x (concat fs) → In y (concat fs) → fresh_of i c fs x ≡ fresh_of i c fs y → x ≡ y
unfolding fresh_of concat
fresh_one i c [] x y h k e = absurd (true≢false (sym h))
fresh_one i c (f ∷ fs) x y h k e = by_cases (mem x f)
    (λ a. by_cases (mem y f)
    (λ b. index_one x y f a b (ap (λ (l : Label). l.position) (rw (a, b) at e)))
    (λ b. absurd (let low = fresh_low i (suc c) fs y in let q : c ≡ (fresh_of i (suc c) fs y).number = ap (λ (l : Label). l.number) (rw (a, b) at e) in omega arith)))
    (λ a. by_cases (mem y f)
    (λ b. absurd (let low = fresh_low i (suc c) fs x in let q : (fresh_of i (suc c) fs x).number ≡ c = ap (λ (l : Label). l.number) (rw (a, b) at e) in omega arith))
    (λ b. fresh_one i (suc c) fs x y (rest x h a) (rest y k b) (rw (a, b) at e)))
  where
    rest : (z : ℕ) → In z (f ++ concat fs) → mem z f ≡ false → In z (concat fs)
    rest z m n = go (append_in z f (concat fs) m)
      where
        go : In z f ⊎ In z (concat fs) → In z (concat fs)
        go (inl q) = absurd (true≢false (sym q ∙ n))
        go (inr q) = q

-- FACES OF A CELL THAT MEET ONE BLOCK
-- the third link of x leads to a dart of block b
pub record Facing (u : State) (b x : ℕ) : Type 0 where
  pub linked : th u x ≢ 0
  pub block : u.number (th u x) ≡ b

module _ (u : State) (M : Map u) (i s : ℕ) (v : List ℕ) (C : Cell u i s v) where
  pub next_one_cell : (x y : ℕ) → In x v → In y v → nx u x ≡ nx u y → x ≡ y
  next_one_cell x y h k e = M.next_one x y (C.mine x h).here (C.mine y k).here e

  pub facing_next : (b x : ℕ) → In x v → Facing u b x → Facing u b (nx u x)
  facing_next b x h c = let d = (C.mine x h).here in record { linked = M.third_goes_on x d c.linked; block = third_level u M x d c.linked ∙ c.block }

  -- a test of faces that tells, by its start, whether a face meets block b
  pub record Tells (b : ℕ) (p : List ℕ → Bool) : Type 0 where
    pub says : (x : ℕ) → In x v → p (cycle (nx u) x) ≡ true → Facing u b x
    pub hears : (x : ℕ) → In x v → Facing u b x → p (cycle (nx u) x) ≡ true

  -- the faces that pass, in message order
  abbrev pub facing_starts : (List ℕ → Bool) → List ℕ
  facing_starts p = starts (nx u) v C.next_closed next_one_cell C.few C.in_order p

  pub start_there : (p : List ℕ → Bool) (x : ℕ) → In x (facing_starts p) → In x v × (is_start (nx u) v C.next_closed next_one_cell C.few x ≡ true) × (p (cycle (nx u) x) ≡ true)
  start_there p = start-there-is (nx u) v C.next_closed next_one_cell C.few C.in_order p

  pub starts_distinct : (p : List ℕ → Bool) → distinct (facing_starts p) ≡ true
  starts_distinct p = distinct-starts (nx u) v C.next_closed next_one_cell C.few C.in_order p

  pub facing_are : (p : List ℕ → Bool) → keep p (faces (nx u) v) ≡ map (cycle (nx u)) (facing_starts p)
  facing_are p = kept_are (nx u) v C.next_closed next_one_cell C.few C.in_order p

  -- their darts are in no two of them
  pub facing_distinct : (p : List ℕ → Bool) → distinct (concat (keep p (faces (nx u) v))) ≡ true
  facing_distinct p = kept_distinct (nx u) v C.next_closed next_one_cell C.few C.in_order p

  pub facing_few : (p : List ℕ → Bool) → Each (λ f. length f ≤ 4096) (keep p (faces (nx u) v))
  facing_few p = kept_few (nx u) v C.next_closed next_one_cell C.few C.in_order p

  module _ (b : ℕ) (p : List ℕ → Bool) (tells : Tells b p) where
    -- and they are the darts of the cell that face block b
    pub facing_in : (x : ℕ) → In x (concat (keep p (faces (nx u) v))) → In x v × Facing u b x
    facing_in = kept_in (nx u) v C.next_closed next_one_cell C.few C.in_order p (Facing u b) (facing_next b) tells.says tells.hears

    -- the start of the face of a dart that faces block b
    pub start_facing : (x : ℕ) → In x v → Facing u b x
        → (st : ℕ) × In st (facing_starts p) × In st (face (nx u) v C.next_closed next_one_cell C.few x)
        × In x (face (nx u) v C.next_closed next_one_cell C.few st)
    start_facing = start_kept (nx u) v C.next_closed next_one_cell C.few C.in_order p (Facing u b) (facing_next b) tells.says tells.hears

    pub in_facing : (x : ℕ) → In x v → Facing u b x → In x (concat (keep p (faces (nx u) v)))
    in_facing = in_kept (nx u) v C.next_closed next_one_cell C.few C.in_order p (Facing u b) (facing_next b) tells.says tells.hears

  -- THE FACES THAT A MOVE CUTS meet another cell of block i
  module _ (leaves : (x : ℕ) → In x v → mem (th u x) v ≡ false) where
    abbrev pub inner : List ℕ → Bool
    inner f = let y = th u (start_of f) in not (eqb y 0) && not (mem y v) && eqb (u.number y) i

    abbrev pub cut_faces : List (List ℕ)
    cut_faces = keep inner (faces (nx u) v)

    pub inner_tells : Tells i inner
    unfolding cycle around
    inner_tells = record {
      says = λ x h e. let a = and_left (not (eqb (th u x) 0) && not (mem (th u x) v)) _ e in
          record { linked = eqb-false (th u x) 0 (not-true (eqb (th u x) 0) (and_left _ _ a)); block = eqb-true (u.number (th u x)) i (and_right (not (eqb (th u x) 0) && not (mem (th u x) v)) _ e) };
      hears = λ x h c. and_intro (and_intro (not_equal (th u x) 0 c.linked) (not_in x h)) (eq-eqb (u.number (th u x)) i c.block);
    }
      where
        not_in : (x : ℕ) → In x v → not (mem (th u x) v) ≡ true
        not_in x h = rw (leaves x h)

    pub cut_in : (x : ℕ) → In x (concat cut_faces) → In x v × Facing u i x
    cut_in = facing_in i inner inner_tells

    pub in_cut : (x : ℕ) → In x v → Facing u i x → In x (concat cut_faces)
    in_cut = in_facing i inner inner_tells

    pub cut_distinct : distinct (concat cut_faces) ≡ true
    cut_distinct = facing_distinct inner

    pub cut_few : Each (λ f. length f ≤ 4096) cut_faces
    cut_few = facing_few inner
