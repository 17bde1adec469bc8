-- Bytes stored into what is left of a slice, lent on as a part, said of the whole. Assumes nothing.
use mathlib.Core.Path.{◌≡◌, ap, ◌∙◌}
use mathlib.Core.List.{List, [], ◌∷◌, ◌++◌, append-nil}
use Prim.Native.Nat.{ℕ, suc, ◌+◌, ◌-◌, ◌≤◌}
use native.Mathlib.Nat.{add-zero, add-suc, le-add_right}
use native.Mathlib.Omega.{arith}
use lib.ListN.{length, take, drop, set, take-append-drop, drop_of_length-le, length-drop}
use lib.Seq.{sets, drop-set-add, take-set-le}
use borrow.Rule.Slice.PartMut.{put_mid}
use Rattle.groups.specs.Slices.{Stored}
use Rattle.laws.proofs.Lists.{rest_whole}

-- stores after the first at
into_rest : (xs l : List ℕ) (at j : ℕ) → take at l ++ sets (drop at l) j xs ≡ sets l (at + j) xs
into_rest [] l at j = take-append-drop at l
into_rest (x ∷ xs) l at j =
    rw (← drop-set-add at l j x, ← take-set-le at l (at + j) x (le-add_right at j)) (into_rest xs (set l (at + j) x) at (suc j) ∙ ap (λ (n : ℕ). sets (set l (at + j) x) n xs) (add-suc at j))

rest_back : (xs l ys : List ℕ) (at : ℕ) → at ≤ length l → ys ≡ sets (take (length l - at) (drop at l)) 0 xs → put_mid at (length l - at) l ys ≡ sets l at xs
rest_back xs l ys at h e =
    let none : drop (length l - at) (drop at l) ≡ [] = drop_of_length-le (drop at l) {i = length l - at} (omega (arith, length-drop at l)) in
    rw (e, rest_whole l at, none, append-nil) (into_rest xs l at 0 ∙ ap (λ (n : ℕ). sets l n xs) (add-zero at))

pub rest_length : (l : List ℕ) (at : ℕ) → length (take (length l - at) (drop at l)) ≡ length l - at
rest_length l at = ap length (rest_whole l at) ∙ length-drop at l

pub stored_rest : (l ys : List ℕ) (at : ℕ) {bytes : List ℕ} {n : ℕ} → at ≤ length l → Stored (take (length l - at) (drop at l)) 0 bytes ys n
    → Stored l at bytes (put_mid at (length l - at) l ys) (at + n)
stored_rest l ys at {bytes} h s = record { slice = rest_back bytes l ys at h s.slice; past = omega (arith, s.past) }
