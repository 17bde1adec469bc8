-- Messages in a row, one after the other. Assumes nothing.
use Rattle.std.specs.Prelude.{None, Option as Optional, Some, MatchOption}
use mathlib.Core.Path.{◌≡◌, refl, sym, ◌∙◌, ap}
use mathlib.Core.List.{List, [], ◌∷◌}
use mathlib.Core.Logic.{⊎_elim, ◌⊎◌, inl, inr}
use mathlib.Core.Option.{Option, none, some, none-ne-some}
use Prim.Native.Nat.{ℕ, zero, suc, ◌+◌, ◌-◌, ◌≤◌, ◌<◌, min}
use native.Mathlib.Omega.{arith}
use lib.ListN.{length, get_or, take, drop, length-drop, length-take, drop_of_length-le}
use lib.Seq.{length-take-le, take-nil, drop-nil, take_all, take-length, drop-length, drop-drop}
use Rattle.model.specs.Layouts.{Read, group, ◌⊕◌}
use Rattle.model.specs.DividedRun.{message_length, cut, messages_in, to_number, addressee}
use Rattle.laws.proofs.Tests.{lt_or_ge}
use Rattle.laws.proofs.Lists.{rest_whole}
use Rattle.groups.proofs.Ends.{group_ends}
use Rattle.codec.specs.Taken.{Took}
use Rattle.reader.specs.Heads.{Four, four, head_told, head_in}
use Rattle.codec.proofs.Taking.{both_none}
use Rattle.rounds.specs.Post.{first_in, rest_in}
use Rattle.reader.specs.declared.Head.{Head}

le_or_ge : (a b : ℕ) → (a ≤ b) ⊎ (b ≤ a)
le_or_ge a b = ⊎_elim (λ (h : a < b). inl (omega (arith, h))) (λ (h : b ≤ a). inr h) (lt_or_ge a b)

-- a message has a byte, where there is one
pub some_bytes : (bs : List ℕ) → 0 < length bs → 0 < message_length bs (group.get bs)
some_bytes bs h = go (group.get bs) refl
  where
    go : (r : Read ℕ) → group.get bs ≡ r → 0 < message_length bs r
    go none e = h
    go (some r) e =
        let o = group_ends bs r.0 r.1 e in
        let n = ap length o.left ∙ length-drop o.count bs in
        omega (arith, o.some_read, o.within, n)

cut_same : (n m : ℕ) (bs : List ℕ) → length bs ≤ n → length bs ≤ m → cut n bs ≡ cut m bs
unfolding cut
cut_same zero zero bs a b = refl
cut_same zero (suc m) [] a b = refl
cut_same (suc n) zero [] a b = refl
cut_same (suc n) (suc m) [] a b = refl
cut_same zero (suc m) (x ∷ bs) a b = absurd (omega (arith, a))
cut_same (suc n) zero (x ∷ bs) a b = absurd (omega (arith, b))
cut_same (suc n) (suc m) (x ∷ bs) a b =
    let size = message_length (x ∷ bs) (group.get (x ∷ bs)) in
    let p = some_bytes (x ∷ bs) (omega arith) in
    let l = length-drop size (x ∷ bs) in
    ap (λ (r : List (List ℕ)). take size (x ∷ bs) ∷ r) (cut_same n m (drop size (x ∷ bs)) (omega (arith, a, p, l)) (omega (arith, b, p, l)))

-- the first, and those behind it
pub first_then : (bs : List ℕ) → 0 < length bs → messages_in bs ≡ first_in bs ∷ messages_in (rest_in bs)
unfolding cut messages_in
first_then [] h = absurd (omega (arith, h))
first_then (x ∷ bs) h =
    let size = message_length (x ∷ bs) (group.get (x ∷ bs)) in
    let p = some_bytes (x ∷ bs) h in
    let l = length-drop size (x ∷ bs) in
    ap (λ (r : List (List ℕ)). take size (x ∷ bs) ∷ r) (cut_same (length bs) (length (drop size (x ∷ bs))) (drop size (x ∷ bs)) (omega (arith, p, l)) (omega arith))

pub nothing_in : messages_in [] ≡ []
unfolding cut messages_in
nothing_in = refl

-- HOW LONG THE FIRST ONE IS
length_by : (bs : List ℕ) (r : Read ℕ) → group.get bs ≡ r → message_length bs (group.get bs) ≡ message_length bs r
length_by bs r e = ap (message_length bs) e

pub unread_length : (bs : List ℕ) → group.get (drop 0 bs) ≡ none → length bs ≡ length (first_in bs)
unread_length bs e = let q = length_by bs none e in let l = length-take (message_length bs (group.get bs)) bs in sym (l ∙ ap (λ (n : ℕ). min n (length bs)) q ∙ min_self (length bs))
  where
    min_self : (n : ℕ) → min n n ≡ n
    min_self n = omega arith

module _ {bs : List ℕ} {n next : ℕ} (w : Took group bs 0 n next) where
  size_is : message_length bs (group.get bs) ≡ next + n
  size_is = let q = length_by bs (some (n, drop next bs)) w.value in let l = length-drop next bs in let h = w.within in q ∙ omega (arith, l, h)

  pub first_length : n ≤ length bs - next → next + n ≡ length (first_in bs)
  first_length h = let l = length-take (message_length bs (group.get bs)) bs in let s = size_is in let g = w.within in omega (arith, l, s, h, g)

  pub cut_short : length bs - next < n → length bs ≡ length (first_in bs)
  cut_short h = let l = length-take (message_length bs (group.get bs)) bs in let s = size_is in let g = w.within in omega (arith, l, s, h, g)

take_fits : (n : ℕ) (l : List ℕ) → take (length (take n l)) l ≡ take n l
take_fits n l =
    ⊎_elim (λ (h : n ≤ length l). ap (λ (k : ℕ). take k l) (length-take-le n l h))
    (λ (h : length l ≤ n). ap (λ (k : ℕ). take k l) (ap length (take_all n l h)) ∙ take-length l ∙ sym (take_all n l h))
    (le_or_ge n (length l))

drop_fits : (n : ℕ) (l : List ℕ) → drop (length (take n l)) l ≡ drop n l
drop_fits n l =
    ⊎_elim (λ (h : n ≤ length l). ap (λ (k : ℕ). drop k l) (length-take-le n l h))
    (λ (h : length l ≤ n). ap (λ (k : ℕ). drop k l) (ap length (take_all n l h)) ∙ drop-length l ∙ sym (drop_of_length-le l h))
    (le_or_ge n (length l))

-- the first message as a part of the slice, and those behind it
pub first_part : (u : List ℕ) (at end : ℕ) → end ≡ at + length (first_in (drop at u)) → take (end - at) (drop at u) ≡ first_in (drop at u)
first_part u at end e =
    let k : end - at ≡ length (first_in (drop at u)) = omega (arith, e) in ap (λ (n : ℕ). take n (drop at u)) k ∙ take_fits
    (message_length (drop at u) (group.get (drop at u))) (drop at u)

pub behind_first : (u : List ℕ) (at end : ℕ) → end ≡ at + length (first_in (drop at u)) → rest_in (drop at u) ≡ drop end u
behind_first u at end e = sym (drop_fits (message_length (drop at u) (group.get (drop at u))) (drop at u)) ∙ drop-drop (length (first_in (drop at u))) at u ∙ ap (λ (n : ℕ). drop n u) (sym e)

pub first_there : (u : List ℕ) (at : ℕ) {n : ℕ} → n ≡ length (first_in (take (length u - at) (drop at u))) → n ≡ length (first_in (drop at u))
first_there u at e = e ∙ ap (λ (q : List ℕ). length (first_in q)) (rest_whole u at)

pub first_fits : (bs : List ℕ) → length (first_in bs) ≤ length bs
first_fits bs = let l = length-take (message_length bs (group.get bs)) bs in omega (arith, l)

pub first_some : (bs : List ℕ) → 0 < length bs → 0 < length (first_in bs)
first_some bs h = let l = length-take (message_length bs (group.get bs)) bs in let p = some_bytes bs h in omega (arith, l, p, h)

-- TO WHOM IT GOES
abbrev to_of : Optional Head → ℕ
to_of None = 0
to_of (Some h) = h.to

to_told : (n : ℕ) (a : Option (ℕ × List ℕ)) (r : Option (Four × List ℕ)) → (a ≡ none → r ≡ none) → to_of (head_told n a r) ≡ to_number r
to_told n none none f = refl
to_told n none (some r) f = absurd (none-ne-some r (sym (f refl)))
to_told n (some a) none f = refl
to_told n (some a) (some r) f = refl

goes_to : (s : List ℕ) {r : Optional Head} → r ≡ head_in s → to_of r ≡ addressee s
unfolding head_in four addressee
goes_to s e = ap to_of e ∙ to_told (length s) (group.get s) (four.get s) (λ n. both_none group (group ⊕ group ⊕ group) s n)

pub goes_by : (s : List ℕ) (r : Optional Head) {n : ℕ} {Gives : Head → Type 0} → r ≡ head_in s → MatchOption r (n ≡ 0) Gives → ((h : Head) → Gives h → n ≡ h.to) → n ≡ addressee s
goes_by s (Some h) e m f = f h m ∙ goes_to s e
goes_by s None e m f = m ∙ goes_to s e

-- THE FIRST AND THE OTHERS, by get_or and drop
pub first_is : (bs : List ℕ) → get_or (messages_in bs) 0 [] ≡ first_in bs
first_is [] = ap (λ (l : List (List ℕ)). get_or l 0 []) nothing_in ∙ sym (take-nil (message_length [] (group.get [])))
first_is (x ∷ bs) = ap (λ (l : List (List ℕ)). get_or l 0 []) (first_then (x ∷ bs) (omega arith))

pub others_are : (bs : List ℕ) (n : ℕ) → n ≡ length (first_in bs) → drop 1 (messages_in bs) ≡ messages_in (drop n bs)
others_are [] n e = ap (drop 1) nothing_in ∙ sym (ap messages_in (drop-nil n) ∙ nothing_in)
others_are (x ∷ bs) n e =
    ap (drop 1) (first_then (x ∷ bs) (omega arith))
    ∙ ap messages_in
    (sym (drop_fits (message_length (x ∷ bs) (group.get (x ∷ bs))) (x ∷ bs)) ∙ ap (λ (k : ℕ). drop k (x ∷ bs)) (sym e))

pub first_front : (bs : List ℕ) (n : ℕ) → n ≡ length (first_in bs) → take n bs ≡ first_in bs
first_front bs n e = ap (λ (k : ℕ). take k bs) e ∙ take_fits (message_length bs (group.get bs)) bs
