-- What layouts take of a slice: one after the other, counted, and item by item. Assumes nothing.
use Rattle.std.specs.Prelude.{None, Option as Optional, Some}
use mathlib.Core.Path.{◌≡◌, refl, sym, ◌∙◌, ap, subst}
use mathlib.Core.Bool.{Bool, true, false}
use mathlib.Core.List.{List, [], ◌∷◌, ◌++◌, append_assoc, append-nil}
use mathlib.Core.Option.{Option, none, some, none-ne-some}
use Prim.Native.Nat.{ℕ, suc, ◌+◌, ◌-◌, ◌≤◌}
use native.Mathlib.Omega.{arith}
use lib.ListN.{length, drop, length-append}
use Rattle.model.specs.Layouts.{Layout, Read, then, group, serial, coordinate, at_most, as_type, such_that, ◌⊗◌, ◌⊕◌, get_all, times, counted}
use Rattle.model.specs.Messages.{face_dart}
use Rattle.groups.specs.Slices.{read_at}
use Rattle.groups.proofs.Ends.{Reads, group_at, serial_at, at_most_at, coordinate_at}
use Rattle.codec.specs.Taken.{Took}
use Rattle.codec.specs.Entries.{FacedSaid, FacedRead}

-- NUMBERS
pub took_reads : {A : Type 0} {l : Layout A} {s : List ℕ} {at : ℕ} {v : A} {next : ℕ} → Reads l s at v next → Took l s at v next
took_reads r = record { value = r.value; onward = let h = r.past in omega arith; within = r.within }

pub took_group : {s : List ℕ} {at v next : ℕ} → Some (v, next) ≡ read_at group s at → Took group s at v next
took_group e = took_reads (group_at e)

pub took_serial : {s : List ℕ} {at v next : ℕ} → Some (v, next) ≡ read_at serial s at → Took serial s at v next
took_serial e = took_reads (serial_at e)

pub took_at_most : (n : ℕ) {s : List ℕ} {at v next : ℕ} → Some (v, next) ≡ read_at (at_most n) s at → Took (at_most n) s at v next
took_at_most n e = took_reads (at_most_at n e)

pub took_coordinate : {s : List ℕ} {at v next : ℕ} → Some (v, next) ≡ read_at coordinate s at → Took coordinate s at v next
took_coordinate e = took_reads (coordinate_at e)

-- ONE AFTER THE OTHER
module _ {A B : Type 0} (l : Layout A) (m : A → Layout B) where
  pub pair_none : (bs : List ℕ) → l.get bs ≡ none → (l ⊗ m).get bs ≡ none
  unfolding ◌⊗◌
  pair_none bs e = rw e

  pub pair_half : {s : List ℕ} {at p : ℕ} {a : A} → Took l s at a p → (m a).get (drop p s) ≡ none → (l ⊗ m).get (drop at s) ≡ none
  unfolding ◌⊗◌
  pair_half w e = rw (w.value, e)

  pub pair_took : {s : List ℕ} {at p q : ℕ} {a : A} {b : B} → Took l s at a p → Took (m a) s p b q → Took (l ⊗ m) s at (a, b) q
  unfolding ◌⊗◌
  pair_took w x = record { value = rw (w.value, x.value); onward = let h = w.onward in let k = x.onward in omega arith; within = x.within }

module _ {A B : Type 0} (l : Layout A) (m : Layout B) where
  pub both_none : (bs : List ℕ) → l.get bs ≡ none → (l ⊕ m).get bs ≡ none
  unfolding ◌⊕◌
  both_none = pair_none l (λ a. m)

  pub both_half : {s : List ℕ} {at p : ℕ} {a : A} → Took l s at a p → m.get (drop p s) ≡ none → (l ⊕ m).get (drop at s) ≡ none
  unfolding ◌⊕◌
  both_half = pair_half l (λ a. m)

  pub both_took : {s : List ℕ} {at p q : ℕ} {a : A} {b : B} → Took l s at a p → Took m s p b q → Took (l ⊕ m) s at (a, b) q
  unfolding ◌⊕◌
  both_took = pair_took l (λ a. m)

module _ {A B : Type 0} (to : A → B) (from : B → A) (l : Layout A) where
  pub as_none : (bs : List ℕ) → l.get bs ≡ none → (as_type to from l).get bs ≡ none
  unfolding as_type
  as_none bs e = rw e

  pub as_took : {s : List ℕ} {at p : ℕ} {a : A} → Took l s at a p → Took (as_type to from l) s at (to a) p
  unfolding as_type
  as_took w = record { value = rw w.value; onward = w.onward; within = w.within }

module _ {A : Type 0} (l : Layout A) (q : A → Bool) where
  pub such_none : (bs : List ℕ) → l.get bs ≡ none → (such_that l q).get bs ≡ none
  unfolding such_that
  such_none bs e = rw e

  pub such_refused : {s : List ℕ} {at p : ℕ} {a : A} → Took l s at a p → q a ≡ false → (such_that l q).get (drop at s) ≡ none
  unfolding such_that
  such_refused w e = rw (w.value, e)

  pub such_took : {s : List ℕ} {at p : ℕ} {a : A} → Took l s at a p → q a ≡ true → Took (such_that l q) s at a p
  unfolding such_that
  such_took w e = record { value = rw (w.value, e); onward = w.onward; within = w.within }

-- NOTHING THERE, as a record: its slice and its place are found where the laws above would have to be told them
pub record Lacks {A : Type 0} (l : Layout A) (s : List ℕ) (at : ℕ) : Type 0 where
  pub value : l.get (drop at s) ≡ none

module _ {A B : Type 0} {s : List ℕ} {at : ℕ} where
  pub dependent_lacks : (l : Layout A) (m : A → Layout B) → Lacks l s at → Lacks (l ⊗ m) s at
  dependent_lacks l m e = record { value = pair_none l m (drop at s) e.value }

  pub dependent_then_lacks : (l : Layout A) (m : A → Layout B) {mid : ℕ} {a : A} → Took l s at a mid → Lacks (m a) s mid → Lacks (l ⊗ m) s at
  dependent_then_lacks l m p e = record { value = pair_half l m p e.value }

  pub pair_lacks : (l : Layout A) (m : Layout B) → Lacks l s at → Lacks (l ⊕ m) s at
  pair_lacks l m e = record { value = both_none l m (drop at s) e.value }

  pub pair_then_lacks : (l : Layout A) (m : Layout B) {mid : ℕ} {a : A} → Took l s at a mid → Lacks m s mid → Lacks (l ⊕ m) s at
  pair_then_lacks l m p e = record { value = both_half l m p e.value }

  pub as_lacks : (to : A → B) (from : B → A) (l : Layout A) → Lacks l s at → Lacks (as_type to from l) s at
  as_lacks to from l e = record { value = as_none to from l (drop at s) e.value }

  pub lacks_as : (to : A → B) (from : B → A) (l : Layout A) → Lacks (as_type to from l) s at → Lacks l s at
  unfolding as_type
  lacks_as to from l e = record { value = go (l.get (drop at s)) e.value }
    where
      go : (r : Option (A × List ℕ)) → then {B = B} r (λ a rest. some (to a, rest)) ≡ none → r ≡ none
      go none q = refl
      go (some r) q = absurd (none-ne-some _ (sym q))

-- COUNTED
module _ {A : Type 0} (l : Layout A) where
  pub counted_none : (bs : List ℕ) → group.get bs ≡ none → (counted l).get bs ≡ none
  unfolding counted
  counted_none bs e = as_none (λ p. p.1) (λ v. (length v, v)) (group ⊗ (λ n. times n l)) bs (pair_none group (λ n. times n l) bs e)

  pub counted_half : {s : List ℕ} {at p n : ℕ} → Took group s at n p → get_all l n (drop p s) ≡ none → (counted l).get (drop at s) ≡ none
  unfolding counted times
  counted_half {s} {at} w e = as_none (λ p. p.1) (λ v. (length v, v)) (group ⊗ (λ n. times n l)) (drop at s) (pair_half group (λ n. times n l) w e)

  pub counted_took : {s : List ℕ} {at p q n : ℕ} {xs : List A} → Took group s at n p → Took (times n l) s p xs q → Took (counted l) s at xs q
  unfolding counted
  counted_took w x = as_took (λ p. p.1) (λ v. (length v, v)) (group ⊗ (λ n. times n l)) (pair_took group (λ n. times n l) w x)

-- ITEM BY ITEM: some are taken, and what is left gives the rest
pub record SoFar {A : Type 0} (l : Layout A) (s : List ℕ) (at p : ℕ) (xs : List A) : Type 0 where
  pub onward : at ≤ p
  pub within : p ≤ length s
  pub rest : (n : ℕ) → get_all l (length xs + n) (drop at s) ≡ then (get_all l n (drop p s)) (λ ys r. some (xs ++ ys, r))

module _ {A : Type 0} (l : Layout A) where
  then_same : (r : Read (List A)) → r ≡ then r (λ ys t. some (ys, t))
  then_same none = refl
  then_same (some r) = refl

  pub so_far_start : {s : List ℕ} (at : ℕ) → at ≤ length s → SoFar l s at at []
  so_far_start {s} at h = record { onward = omega arith; within = h; rest = λ n. ap (λ (k : ℕ). get_all l k (drop at s)) (none_yet n) ∙ then_same (get_all l n (drop at s)) }
    where
      none_yet : (n : ℕ) → length {A = A} [] + n ≡ n
      none_yet n = omega arith

  then_more : (x : A) (xs : List A) (r : Read (List A)) → then (then r (λ ys t. some (x ∷ ys, t))) (λ ys t. some (xs ++ ys, t)) ≡ then r (λ ys t. some ((xs ++ x ∷ []) ++ ys, t))
  then_more x xs none = refl
  then_more x xs (some r) = ap (λ (ys : List A). some (ys, r.1)) (sym (append_assoc xs (x ∷ []) r.0))

  pub so_far_more : {s : List ℕ} {at p q : ℕ} {xs : List A} {x : A} → SoFar l s at p xs → Took l s p x q → SoFar l s at q (xs ++ x ∷ [])
  unfolding get_all
  so_far_more {s} {at} {p} {q} {xs} {x} w t = record {
    onward = let h = w.onward in let k = t.onward in omega arith;
    within = t.within;
    rest = λ n. ap (λ (k : ℕ). get_all l k (drop at s)) (count n) ∙ w.rest (suc n) ∙ rw t.value (then_more x xs (get_all l n (drop q s)));
  }
    where
      count : (n : ℕ) → length (xs ++ x ∷ []) + n ≡ length xs + suc n
      count n = omega (arith, length-append xs (x ∷ []))

  pub so_far_stop : {s : List ℕ} {at p : ℕ} {xs : List A} (n : ℕ) → SoFar l s at p xs → length xs + 1 ≤ n → l.get (drop p s) ≡ none → get_all l n (drop at s) ≡ none
  unfolding get_all
  so_far_stop {s} {at} {p} {xs} n w h e = ap (λ (k : ℕ). get_all l k (drop at s)) count ∙ w.rest (suc (n - length xs - 1)) ∙ rw e
    where
      count : n ≡ length xs + suc (n - length xs - 1)
      count = omega arith

  pub so_far_end : {s : List ℕ} {at p : ℕ} {xs : List A} (n : ℕ) → SoFar l s at p xs → length xs ≡ n → Took (times n l) s at xs p
  unfolding times get_all
  so_far_end {s} {at} {p} {xs} n w e = record {
    value = ap (λ (k : ℕ). get_all l k (drop at s)) (count) ∙ w.rest 0 ∙ ap (λ (ys : List A). some (ys, drop p s)) (append-nil xs);
    onward = w.onward;
    within = w.within;
  }
    where
      count : n ≡ length xs + 0
      count = omega arith

-- A DART OF A FACE
pub faced_took : {s : List ℕ} {at v x next : ℕ} {r : Optional (ℕ × ℕ × ℕ)} → r ≡ Some (v, x, next) → FacedRead s at r → Took face_dart s at (record { vertex = v; serial = x }) next
faced_took {s} {at} e d = subst (FacedSaid s at) e d.said

pub faced_none : {s : List ℕ} {at : ℕ} {r : Optional (ℕ × ℕ × ℕ)} → r ≡ None → FacedRead s at r → face_dart.get (drop at s) ≡ none
faced_none {s} {at} e d = subst (FacedSaid s at) e d.said

pub dart_none : (bs : List ℕ) → group.get bs ≡ none → face_dart.get bs ≡ none
unfolding face_dart
dart_none bs e = as_none (λ p. record { vertex = p.0; serial = p.1 }) (λ c. (c.vertex, c.serial)) (group ⊕ serial) bs (both_none group serial bs e)

pub dart_half : {s : List ℕ} {at p v : ℕ} → Took group s at v p → serial.get (drop p s) ≡ none → face_dart.get (drop at s) ≡ none
unfolding face_dart
dart_half {s} {at} w e = as_none (λ p. record { vertex = p.0; serial = p.1 }) (λ c. (c.vertex, c.serial)) (group ⊕ serial) (drop at s) (both_half group serial w e)

pub dart_took : {s : List ℕ} {at p q v x : ℕ} → Took group s at v p → Took serial s p x q → Took face_dart s at (record { vertex = v; serial = x }) q
unfolding face_dart
dart_took w t = as_took (λ p. record { vertex = p.0; serial = p.1 }) (λ c. (c.vertex, c.serial)) (group ⊕ serial) (both_took group serial w t)
