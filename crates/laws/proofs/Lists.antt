-- Lists that a loop writes or reads from front to back, and lists of zeros. Assumes nothing.
use Prim.Native.Nat.{ℕ, zero, suc, ◌+◌, ◌-◌, ◌≤◌, ◌<◌}
use mathlib.Core.Path.{◌≡◌, refl, sym, ◌∙◌, ap}
use mathlib.Core.List.{List, [], ◌∷◌, ◌++◌, append_assoc, append-nil}
use native.Mathlib.Numerals.{add-one}
use native.Mathlib.Omega.{arith}
use lib.ListN.{length, get_or, take, drop, set, replicate, drop_of_length-le, length-drop}
use lib.Seq.{take-suc-set, drop-cons, take_all, take-suc}
use Rattle.model.specs.Lists.{concat, sum}

-- zeros hold nothing but 0, also past their end
pub getD_zeros : (n t : ℕ) → ◌≡◌ {A = ℕ} (get_or (replicate n 0) t 0) 0
getD_zeros zero t = refl
getD_zeros (suc n) zero = refl
getD_zeros (suc n) (suc t) = getD_zeros n t

pub sum_zeros : (n : ℕ) → sum (replicate n 0) ≡ 0
sum_zeros zero = refl
sum_zeros (suc n) = omega (arith, sum_zeros n)

pub drop_zeros : (k n m : ℕ) → m ≡ k + n → ◌≡◌ {A = List ℕ} (drop k (replicate m 0)) (replicate n 0)
drop_zeros zero n m e =
    let f : m ≡ n = omega arith in
    rw f
drop_zeros (suc k) n zero e = absurd (omega arith)
drop_zeros (suc k) n (suc m) e = drop_zeros k n m (omega arith)

-- one element more is written at k: what is done, then the rest, stays the whole
pub emit : (out : List ℕ) (k v : ℕ) (rest whole : List ℕ) → k < length out → take k out ++ v ∷ rest ≡ whole → take (k + 1) (set out k v) ++ rest ≡ whole
emit out k v rest whole h e = rw (add-one, take-suc-set out k v h, append_assoc) e

-- all is written
pub emitted : (out : List ℕ) (k : ℕ) (whole : List ℕ) → length out ≤ k → take k out ++ [] ≡ whole → out ≡ whole
emitted out k whole h e = sym (take_all k out h) ∙ sym (append-nil _) ∙ e

-- the next element is read at j
pub drop_at_cons : (l : List ℕ) (j : ℕ) → j < length l → drop j l ≡ get_or l j 0 ∷ drop (j + 1) l
drop_at_cons l j h = rw (add-one, drop-cons l j 0 h)

pub drop_end : (l : List ℕ) (n : ℕ) → length l ≤ n → drop n l ≡ []
drop_end l n h = drop_of_length-le l h

-- the part from a place to the end is all that is left
pub rest_whole : (l : List ℕ) (at : ℕ) → take (length l - at) (drop at l) ≡ drop at l
rest_whole l at = take_all (length l - at) (drop at l) (omega (arith, length-drop at l))

-- one list more
pub concat_snoc : (l : List (List ℕ)) (r : List ℕ) → concat (l ++ r ∷ []) ≡ concat l ++ r
unfolding concat
concat_snoc [] r = append-nil r
concat_snoc (a ∷ l) r = rw (concat_snoc l r, append_assoc)

-- one more of a list
pub take_more : (l : List ℕ) (i : ℕ) → i < length l → take (i + 1) l ≡ take i l ++ get_or l i 0 ∷ []
take_more l i h = ap (λ (k : ℕ). take k l) (add-one i) ∙ take-suc l i 0 h
