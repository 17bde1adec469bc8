-- Tables made ready again at the places of a list: assigning by a list, marks taken away, the least of a list. Assumes nothing.
use mathlib.Core.Path.{◌≡◌, refl, sym, ◌∙◌, ap}
use mathlib.Core.Bool.{Bool, true≢false, cond}
use mathlib.Core.List.{List, [], ◌∷◌, ◌++◌}
use Prim.Native.Nat.{ℕ, ◌+◌, ◌-◌, ◌≤◌, ◌<◌, min}
use native.Mathlib.Omega.{arith}
use lib.ListN.{length, get_or, replicate, take, drop, length-replicate}
use lib.Seq.{length-take-le, get_or-take}
use Rattle.model.specs.Lists.{least, mem}
use Rattle.laws.proofs.Tests.{by_cases}
use Rattle.laws.proofs.Lists.{getD_zeros, take_more}
use Rattle.laws.proofs.Members.{In, in_getD, least_in, least_below, least_more}
use Rattle.cells.specs.Places.{Clear, Listed, Marked, Assigned, bit, marked}
use Rattle.cells.proofs.FaceLaws.{in_marked, marked_in}

-- PAINTED BY A LIST: one place more
-- what is marked is in the volume
pub marks_in : {v marks : List ℕ} → Marked v marks → (p : ℕ) → get_or marks p 0 ≡ 1 → In p v
marks_in {v} m p e = by_cases (mem p v) (λ i. i) (λ i. absurd (omega (arith, e, m.mark p ∙ ap bit i)))

-- UNMARKED: where every mark is in the list, none is left
pub unmarked : {v l marks marks' : List ℕ} → Marked v marks → ((p : ℕ) → In p v → In p l) → Assigned 0 l marks marks' → Clear marks'
unmarked {v} {l} {marks} {marks'} m has w p = w.value p ∙ none p
  where
    none : (p : ℕ) → cond (mem p l) 0 (get_or marks p 0) ≡ 0
    none p = by_cases (mem p l) (λ e. rw e) (λ e. rw e (m.mark p ∙ by_cases (mem p v) (λ i. absurd (true≢false (sym (has p i) ∙ e))) (λ i. rw i)))

-- ZEROS are clear, and long enough for what is no more than they are
pub zeros_clear : (k : ℕ) {l : List ℕ} → l ≡ replicate k 0 → Clear l
zeros_clear k e p = ap (λ (m : List ℕ). get_or m p 0) e ∙ getD_zeros k p

pub zeros_long : (n k : ℕ) {l : List ℕ} → l ≡ replicate k 0 → n ≤ k → n ≤ length l
zeros_long n k e h = omega (arith, ap length e, length-replicate {A = ℕ} k 0)

-- THE LEAST
least_last : (l : List ℕ) (y : ℕ) → 0 < length l → least (l ++ y ∷ []) ≡ min (least l) y
unfolding least
least_last [] y h = absurd (omega arith)
least_last (x ∷ l) y h = least_more x l y

-- the loop that looks for it: low is the least of the first i
pub record Lowest (order : List ℕ) (i low : ℕ) : Type 0 where
  pub some : 0 < i
  pub low_is : low ≡ least (take i order)

pub lowest_first : (order : List ℕ) → 0 < length order → Lowest order 1 (get_or order 0 0)
unfolding least
lowest_first [] h = absurd (omega arith)
lowest_first (x ∷ order) h = record { some = omega arith; low_is = refl }

module _ (order : List ℕ) (i : ℕ) {low : ℕ} (w : Lowest order i low) (h : i < length order) where
  next_least : least (take (i + 1) order) ≡ min low (get_or order i 0)
  next_least =
      ap least (take_more order i h)
      ∙ least_last (take i order) (get_or order i 0) (omega (arith, w.some, length-take-le i order (omega arith)))
      ∙ ap (λ (k : ℕ). min k (get_or order i 0)) (sym w.low_is)

  pub lower_next : {p : ℕ} → p ≡ get_or order i 0 → p < low → Lowest order (i + 1) p
  lower_next e less = record { some = omega arith; low_is = let m : min low (get_or order i 0) ≡ get_or order i 0 = omega arith in e ∙ sym (next_least ∙ m) }

  pub higher_next : {p : ℕ} → p ≡ get_or order i 0 → low ≤ p → Lowest order (i + 1) low
  higher_next e le = record { some = omega arith; low_is = let m : min low (get_or order i 0) ≡ low = omega arith in sym (next_least ∙ m) }

-- no mark stands below it, where the list has every marked place
pub none_below : (marks : List ℕ) {n t : ℕ} {order : List ℕ} → Listed n (marked n marks) order t → least (take t order) ≤ n → (q : ℕ) → q < least (take t order) → get_or marks q 0 ≡ 1 → ⊥
none_below marks {n} {t} {order} l low q h one = omega (arith, least_below (take t order) q (l.has q (in_marked n marks q (omega arith) one)))

-- a list of a volume is one of the marked places
pub listed_marked : {n t : ℕ} {v marks order : List ℕ} → Marked v marks → Listed n v order t → Listed n (marked n marks) order t
listed_marked {n} {t} {v} {marks} m l = record { size = l.size; few = l.few; below = l.below; once = l.once; has = λ p i. l.has p (marks_in m p (marked_in n marks p i).1) }

pub least_small : {n t : ℕ} {v order : List ℕ} → Listed n v order t → 0 < t → least (take t order) < n
least_small {n} {t} {v} {order} l h = by_first (take t order) refl
  where
    by_first : (f : List ℕ) → f ≡ take t order → least (take t order) < n
    by_first [] e = absurd (omega (arith, ap length e, length-take-le t order (omega (arith, l.few, l.size))))
    by_first (x ∷ f) e = rw (← e) (let r = in_getD (x ∷ f) (least (x ∷ f)) (least_in x f) in
        let less : r.0 < t = omega (arith, r.1, ap length e, length-take-le t order (omega (arith, l.few, l.size))) in
        omega (arith, r.2, ap (λ (k : List ℕ). get_or k r.0 0) e, get_or-take t order r.0 0 less, l.below r.0 less))

pub listed_some : {n t : ℕ} {v order : List ℕ} (p : ℕ) → Listed n v order t → In p v → 0 < t
listed_some {n} {t} {v} {order} p l i = let r = in_getD (take t order) p (l.has p i) in omega (arith, r.1, length-take-le t order (omega (arith, l.few, l.size)))

-- what is assigned has the value
pub assigned_in : {c : ℕ} {l t t' : List ℕ} → Assigned c l t t' → (q : ℕ) → In q l → get_or t' q 0 ≡ c
assigned_in {c} {l} {t} w q k = w.value q ∙ ap (λ (b : Bool). cond b c (get_or t q 0)) k

-- a part that is cleared
pub part_cleared : (l : List ℕ) (n : ℕ) {x : List ℕ} → n ≤ length l → x ≡ replicate (length (take (n - 0) (drop 0 l))) 0 → x ≡ replicate n 0
part_cleared l n h e = let z : n - 0 ≡ n = omega arith in e ∙ ap (λ (k : ℕ). replicate k 0) (ap (λ (j : ℕ). length (take j l)) z ∙ length-take-le n l h)
