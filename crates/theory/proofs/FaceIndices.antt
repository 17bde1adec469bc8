-- Faces with the index of their start: how many, how high, how large. Assumes nothing.
use mathlib.Core.Path.{◌≡◌, refl, ap}
use mathlib.Core.Bool.{Bool, true}
use mathlib.Core.List.{List, [], ◌∷◌, map}
use mathlib.Core.Option.{Option, none, some}
use Prim.Native.Nat.{ℕ, suc, ◌+◌, ◌-◌, ◌<◌, ◌≤◌}
use native.Mathlib.Omega.{arith}
use lib.ListN.{length, length-append, length-map}
use borrow.Author.Tests.{lt-ltb, le-ltb}
use Rattle.model.specs.Lists.{all, keep, concat, more, collect}
use Rattle.model.specs.Messages.{FaceDart, size_all, size_at}
use Rattle.model.specs.Departure.{part3_from}
use Rattle.model.specs.Links.{placed}
use Rattle.laws.proofs.Members.{Each, each_weaken}
use Rattle.laws.proofs.Tests.{by_cases, and_intro}

-- WHAT IS COLLECTED
abbrev pub Passing : {B : Type 0} → (B → Bool) → Option B → Type 0
Passing q none = Unit {0}
Passing q (some b) = q b ≡ true

pub collect_all : {A B : Type 0} (f : A → Option B) (q : B → Bool) (l : List A) → Each (λ a. Passing q (f a)) l → all q (collect f l) ≡ true
collect_all f q [] e = refl
collect_all f q (a ∷ l) e = go (f a) e.0 (collect_all f q l e.1)
  where
    go : (o : Option _) → Passing q o → all q (collect f l) ≡ true → all q (more o (collect f l)) ≡ true
    go none p r = r
    go (some b) p r = and_intro p r

pub collect_fewer : {A B : Type 0} (f : A → Option B) (l : List A) → length (collect f l) ≤ length l
collect_fewer f [] = omega arith
collect_fewer f (a ∷ l) = go (f a) (collect_fewer f l)
  where
    go : (o : Option _) → length (collect f l) ≤ length l → length (more o (collect f l)) ≤ suc (length l)
    go none r = omega arith
    go (some b) r = omega arith

-- what holds of each value that is given
abbrev pub Holding : {B : Type 0} → (B → Type 0) → Option B → Type 0
Holding P none = Unit {0}
Holding P (some b) = P b

pub collected_each : {A B : Type 0} (P : B → Type 0) (f : A → Option B) (l : List A) → Each (λ a. Holding P (f a)) l → Each P (collect f l)
collected_each P f [] e = tt
collected_each P f (a ∷ l) e = go (f a) e.0 (collected_each P f l e.1)
  where
    go : (o : Option _) → Holding P o → Each P (collect f l) → Each P (more o (collect f l))
    go none p r = r
    go (some b) p r = (p, r)

-- FACES WITH THEIR INDICES
pub placed_count : (n : ℕ) (fs : List (List ℕ)) → length (placed n fs) ≡ length fs
unfolding placed
placed_count n [] = refl
placed_count n (f ∷ fs) = ap suc (placed_count (n + length f) fs)

pub placed_high : (n : ℕ) (fs : List (List ℕ)) → Each (λ q. q.at + length q.face ≤ n + length (concat fs)) (placed n fs)
unfolding placed concat
placed_high n [] = tt
placed_high n (f ∷ fs) =
    let a = length-append f (concat fs) in
    (omega arith, each_weaken (placed (n + length f) fs) (placed_high (n + length f) fs) (λ q h. omega arith))

pub placed_size : (g : ℕ → FaceDart) (n : ℕ) (fs : List (List ℕ)) → Each (λ f. 0 < length f) fs
    → Each (λ q. (n ≤ q.at) × (size_at (q.at - n) (map (λ f. map g f) fs) ≡ length q.face)) (placed n fs)
unfolding placed size_at
placed_size g n [] e = tt
placed_size g n (f ∷ fs) e =
    let some_dart = e.0 in
    let size = length-map f g in
    let here : n - n ≡ 0 = omega arith in (
      (omega arith, rw (here, size, lt-ltb 0 (length f) some_dart)),
      each_weaken (placed (n + length f) fs) (placed_size g (n + length f) fs e.1) (λ q h.
          let low = h.0 in
          let past : q.at - n - length f ≡ q.at - (n + length f) = omega arith in
          (omega arith, rw (size, le-ltb (q.at - n) (length f) (omega arith), past) h.1)),
    )

-- darts of faces are at least as many as faces
pub faces_fewer : (fs : List (List ℕ)) → Each (λ f. 0 < length f) fs → length fs ≤ length (concat fs)
unfolding concat
faces_fewer [] e = omega arith
faces_fewer (f ∷ fs) e = let a = e.0 in let b = faces_fewer fs e.1 in omega (arith, length-append f (concat fs))

pub placed_keep : (q : List ℕ → Bool) (a : ℕ) (fs : List (List ℕ)) → map (λ p. p.face) (keep (λ p. q p.face) (placed a fs)) ≡ keep q fs
unfolding placed
placed_keep q a [] = refl
placed_keep q a (f ∷ fs) = by_cases (q f) (λ e. rw (e, placed_keep q (a + length f) fs)) (λ e. rw (e, placed_keep q (a + length f) fs))

pub placed_each : (P : List ℕ → Type 0) (n : ℕ) (fs : List (List ℕ)) → Each P fs → Each (λ q. P q.face) (placed n fs)
unfolding placed
placed_each P n [] e = tt
placed_each P n (f ∷ fs) e = (e.0, placed_each P (n + length f) fs e.1)

-- all darts of the faces
pub size_concat : (g : ℕ → FaceDart) (fs : List (List ℕ)) → size_all (map (λ f. map g f) fs) ≡ length (concat fs)
unfolding size_all concat
size_concat g [] = refl
size_concat g (f ∷ fs) = rw (length-append f (concat fs), size_concat g fs, length-map f g)

-- part 3 has an entry for each index
pub part3_count : (c : ℕ) (l : List ℕ) → length (part3_from c l) ≡ length l
unfolding part3_from
part3_count c [] = refl
part3_count c (i ∷ l) = ap suc (part3_count (suc c) l)

pub each_mapped : {A B : Type 0} (P : B → Type 0) (f : A → B) (l : List A) → Each (λ a. P (f a)) l → Each P (map f l)
each_mapped P f [] e = tt
each_mapped P f (a ∷ l) e = (e.0, each_mapped P f l e.1)
