-- Messages that stand one after the other are cut apart by their first numbers. Assumes nothing.
use mathlib.Core.Path.{◌≡◌, refl, ◌∙◌, ap}
use mathlib.Core.Bool.{true}
use mathlib.Core.List.{List, [], ◌∷◌, ◌++◌, append_assoc}
use mathlib.Core.Option.{some}
use Prim.Native.Nat.{ℕ, zero, suc, ◌<◌, ◌≤◌}
use native.Mathlib.Omega.{arith}
use native.Mathlib.Nat.{not-suc-le-zero}
use lib.Dec.{ltb}
use lib.ListN.{length, take, drop, length-append}
use lib.Seq.{take_at, drop_at}
use Rattle.model.specs.Lists.{concat}
use Rattle.model.specs.Layouts.{Layout, groups, group_below, group, framed}
use Rattle.model.specs.DividedRun.{message_length, cut, messages_in}
use Rattle.laws.proofs.Members.{Each}
use Rattle.laws.proofs.Tests.{by_cases}
use Rattle.theory.proofs.LayoutLaws.{group_lawful}

-- a number, then as many bytes
pub record Framed (m : List ℕ) : Type 0 where
  pub number : ℕ
  pub rest : List ℕ
  pub is : m ≡ group.put number ++ rest
  pub size : length rest ≡ number
  pub small : group.ok number ≡ true

pub framed_is : {A : Type 0} (l : Layout A) (v : A) → group.ok (length (l.put v)) ≡ true → Framed (framed l v)
unfolding framed
framed_is l v h = record { number = length (l.put v); rest = l.put v; is = refl; size = refl; small = h }

groups_some : (n v : ℕ) → 0 < length (groups n v)
unfolding groups
groups_some zero v = omega arith
groups_some (suc n) v = by_cases (ltb v 128) (λ e. rw e (omega arith)) (λ e. rw e (omega arith))

group_some : (v : ℕ) → 0 < length (group.put v)
unfolding group group_below
group_some v = groups_some 4 v

pub framed_some : (m : List ℕ) → Framed m → 0 < length m
framed_some m f = let a = ap length f.is ∙ length-append (group.put f.number) f.rest in let b = group_some f.number in omega arith

cut_step : (n : ℕ) (bytes : List ℕ) → 0 < length bytes
    → cut (suc n) bytes ≡ take (message_length bytes (group.get bytes)) bytes ∷ cut n (drop (message_length bytes (group.get bytes)) bytes)
unfolding cut
cut_step n [] h = absurd (not-suc-le-zero h)
cut_step n (b ∷ bs) h = refl

whole_length : (m after : List ℕ) (f : Framed m) → message_length (m ++ after) (group.get (m ++ after)) ≡ length m
whole_length m after f =
    let reads : group.get (m ++ after) ≡ some (f.number, f.rest ++ after) =
    rw (f.is, append_assoc (group.put f.number) f.rest after) (group_lawful.back f.number (f.rest ++ after) f.small) in
    let a = length-append m after in
    let b = length-append f.rest after in
    let c = ap length f.is ∙ length-append (group.put f.number) f.rest in
    let d = f.size in
    rw reads (omega arith)

pub cut_apart : (ms : List (List ℕ)) (n : ℕ) → length ms ≤ n → Each Framed ms → cut n (concat ms) ≡ ms
unfolding concat cut
cut_apart [] zero h f = refl
cut_apart [] (suc n) h f = refl
cut_apart (m ∷ ms) zero h f = absurd (not-suc-le-zero h)
cut_apart (m ∷ ms) (suc n) h f =
    let long : 0 < length (m ++ concat ms) = omega (arith, length-append m (concat ms), framed_some m f.0) in
    cut_step n (m ++ concat ms) long
    ∙ rw (whole_length m (concat ms) f.0, take_at m (concat ms), drop_at m (concat ms), cut_apart ms n (omega arith) f.1)

count_below : (ms : List (List ℕ)) → Each Framed ms → length ms ≤ length (concat ms)
unfolding concat
count_below [] f = omega arith
count_below (m ∷ ms) f = omega (arith, length-append m (concat ms), framed_some m f.0, count_below ms f.1)

-- so what stands in an outbox is the messages that were written
pub messages_back : (ms : List (List ℕ)) → Each Framed ms → messages_in (concat ms) ≡ ms
unfolding messages_in
messages_back ms f = cut_apart ms (length (concat ms)) (count_below ms f) f
