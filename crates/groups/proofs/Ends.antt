-- Where a read ends: past its place, within the slice, and what it leaves is the rest of the slice. Assumes nothing.
use Rattle.std.proofs.lemmas.Option.{some_pair_parts}
use Rattle.std.specs.Prelude.{None, Some}
use mathlib.Core.Path.{◌≡◌, refl, sym, ◌∙◌, ap}
use mathlib.Core.Bool.{Bool, not}
use mathlib.Core.List.{List, [], ◌∷◌}
use mathlib.Core.Option.{Option, none, some, none-ne-some, some-injective}
use Prim.Native.Nat.{ℕ, zero, suc, ◌+◌, ◌*◌, ◌-◌, ◌<◌, ◌≤◌}
use native.Mathlib.Omega.{arith}
use lib.Dec.{ltb, eqb}
use lib.ListN.{length, drop, length-drop}
use lib.Seq.{drop-drop}
use Rattle.model.specs.Layouts.{Layout, Read, when, read_groups, group_below, group, serial, such_that, at_most, read_bytes, coordinate, ◌⊗◌, ◌⊕◌, as_type}
use Rattle.model.specs.Messages.{label}
use Rattle.laws.proofs.Tests.{by_cases}
use Rattle.theory.proofs.LayoutLaws.{then_some, when_some}
use Rattle.groups.specs.Slices.{as_read, read_at, label_code}

-- some bytes were read, and the rest is left
pub record Onward (bs rest : List ℕ) : Type 0 where
  pub count : ℕ
  pub some_read : 0 < count
  pub within : count ≤ length bs
  pub left : rest ≡ drop count bs

-- a layout that reads at least one byte of what it is given, and leaves the rest
abbrev pub Ends : {A : Type 0} → Layout A → Type 0
Ends {A} l = (bs : List ℕ) (v : A) (rest : List ℕ) → l.get bs ≡ some (v, rest) → Onward bs rest

-- WHAT A READ SAYS
pub record Reads {A : Type 0} (l : Layout A) (s : List ℕ) (at : ℕ) (v : A) (next : ℕ) : Type 0 where
  pub value : l.get (drop at s) ≡ some (v, drop next s)
  pub past : at < next
  pub within : next ≤ length s

pub from_onward : {A : Type 0} (l : Layout A) (s rest : List ℕ) (at : ℕ) (v : A) → l.get (drop at s) ≡ some (v, rest) → Onward (drop at s) rest → Reads l s at v (length s - length rest)
from_onward l s rest at v e o =
    let n = length-drop at s in
    let m = ap length o.left ∙ length-drop o.count (drop at s) in
    let next : length s - length rest ≡ at + o.count = omega (arith, n, m, o.some_read, o.within) in
    record {
      value = rw (next, ← drop-drop o.count at s, ← o.left) e;
      past = omega (arith, next, o.some_read);
      within = omega (arith, n, m);
    }

-- a value was read: what the layout gives there, and where it ends
pub value_at : (l : Layout ℕ) → Ends l → {s : List ℕ} {at v next : ℕ} → Some (v, next) ≡ read_at l s at → Reads l s at v next
unfolding read_at
value_at l E {s} {at} {v} {next} h = go (l.get (drop at s)) refl h
  where
    go : (r : Option (ℕ × List ℕ)) → l.get (drop at s) ≡ r → Some (v, next) ≡ as_read (length s) r → Reads l s at v next
    go none e q = let z : ◌≡◌ {A = ℕ} 0 1 = cc in absurd (omega arith)
    go (some r) e q =
        let same = some_pair_parts v r.0 next (length s - length r.1) q in
        rw (same.0, same.1) (from_onward l s r.1 at r.0 e (E (drop at s) r.0 r.1 e))

-- no value was read: the layout gives none
pub bad_at : (l : Layout ℕ) (s : List ℕ) (at : ℕ) → None ≡ read_at l s at → l.get (drop at s) ≡ none
unfolding read_at
bad_at l s at h = go (l.get (drop at s)) h
  where
    go : (r : Option (ℕ × List ℕ)) → None ≡ as_read (length s) r → r ≡ none
    go none q = refl
    go (some r) q = let z : ◌≡◌ {A = ℕ} 0 1 = cc in absurd (omega arith)

-- the place that the bytes left tell
pub place_back : (s : List ℕ) (next : ℕ) → next ≤ length s → length s - length (drop next s) ≡ next
place_back s next h = omega (arith, length-drop next s)

-- and the other way round
pub at_value : (l : Layout ℕ) {s : List ℕ} {at v next : ℕ} → Reads l s at v next → Some (v, next) ≡ read_at l s at
unfolding read_at
at_value l {s} {at} {v} {next} r = rw (r.value, place_back s next r.within)

-- LAYOUTS THAT END
pub same_rest : {A : Type 0} {a b : A} {s t : List ℕ} → ◌≡◌ {A = Read A} (some (a, s)) (some (b, t)) → s ≡ t
same_rest {A} {a} {b} {s} {t} p = ap (λ (r : A × List ℕ). r.1) (some-injective (a, s) (b, t) p)

pub onward_then : {a b c : List ℕ} → Onward a b → Onward b c → Onward a c
onward_then {a} {b} {c} p q =
    let n = ap length p.left ∙ length-drop p.count a in
    record {
      count = p.count + q.count;
      some_read = omega (arith, p.some_read);
      within = omega (arith, n, p.within, q.within);
      left = rw (← drop-drop q.count p.count a, ← p.left) q.left;
    }

pub onward_to : {a b c : List ℕ} → b ≡ c → Onward a b → Onward a c
onward_to e p = record { count = p.count; some_read = p.some_read; within = p.within; left = sym e ∙ p.left }

one_byte : (b : ℕ) (bs : List ℕ) → Onward (b ∷ bs) bs
one_byte b bs = record { count = 1; some_read = omega arith; within = omega arith; left = refl }

groups_end : (n : ℕ) (bs : List ℕ) (v : ℕ) (rest : List ℕ) → read_groups n bs ≡ some (v, rest) → Onward bs rest
unfolding read_groups
groups_end zero [] v rest p = absurd (none-ne-some _ p)
groups_end zero (b ∷ bs) v rest p = onward_to (same_rest (when_some (ltb b 128) _ _ p).1) (one_byte b bs)
groups_end (suc n) [] v rest p = absurd (none-ne-some _ p)
groups_end (suc n) (b ∷ bs) v rest p = by_cases (ltb b 128)
    (λ e. let q : bs ≡ rest = same_rest (rw e at p) in onward_to q (one_byte b bs))
    (λ e. go (then_some (read_groups n bs) _ _ (rw e at p)) (groups_end n bs))
  where
    go : (w : ℕ) × (t : List ℕ) × (read_groups n bs ≡ some (w, t)) × (when (not (eqb w 0)) (some (b - 128 + 128 * w, t)) ≡ some (v, rest))
        → ((w : ℕ) (t : List ℕ) → read_groups n bs ≡ some (w, t) → Onward bs t) → Onward (b ∷ bs) rest
    go t ih = onward_to (same_rest (when_some (not (eqb t.0 0)) _ _ t.3).1) (onward_then (one_byte b bs) (ih t.0 t.1 t.2))

pub such_that_ends : {A : Type 0} (l : Layout A) (p : A → Bool) → Ends l → Ends (such_that l p)
unfolding such_that
such_that_ends l p L bs v rest h =
    let t = then_some (l.get bs) _ _ h in
    onward_to (same_rest (when_some (p t.0) _ _ t.3).1) (L bs t.0 t.1 t.2)

pub as_type_ends : {A B : Type 0} (to : A → B) (from : B → A) (l : Layout A) → Ends l → Ends (as_type to from l)
unfolding as_type
as_type_ends to from l L bs v rest h =
    let t = then_some (l.get bs) _ _ h in
    onward_to (same_rest t.3) (L bs t.0 t.1 t.2)

pub ⊗-ends : {A B : Type 0} (l : Layout A) (m : A → Layout B) → Ends l → ((a : A) → Ends (m a)) → Ends (l ⊗ m)
unfolding ◌⊗◌
⊗-ends l m L M bs v rest h =
    let t = then_some (l.get bs) _ _ h in
    let u = then_some ((m t.0).get t.1) _ _ t.3 in
    onward_to (same_rest u.3) (onward_then (L bs t.0 t.1 t.2) (M t.0 t.1 u.0 u.1 u.2))

pub ⊕-ends : {A B : Type 0} (l : Layout A) (m : Layout B) → Ends l → Ends m → Ends (l ⊕ m)
unfolding ◌⊕◌
⊕-ends l m L M = ⊗-ends l (λ a. m) L (λ a. M)

pub below_ends : (n bound : ℕ) → Ends (group_below n bound)
unfolding group_below
below_ends n bound bs v rest h =
    let t = then_some (read_groups n bs) _ _ h in
    onward_to (same_rest (when_some (ltb t.0 bound) _ _ t.3).1) (groups_end n bs t.0 t.1 t.2)

pub group_ends : Ends group
unfolding group
group_ends = below_ends 4 _

pub serial_ends : Ends serial
unfolding serial
serial_ends = below_ends 4 _

pub at_most_ends : (n : ℕ) → Ends (at_most n)
unfolding at_most
at_most_ends n = such_that_ends group _ group_ends

pub label_ends : Ends label
unfolding label
label_ends =
    as_type_ends _ _ (at_most 15 ⊕ group ⊕ at_most 4095)
    (⊕-ends (at_most 15) (group ⊕ at_most 4095) (at_most_ends 15) (⊕-ends group (at_most 4095) group_ends (at_most_ends 4095)))

pub label_code_ends : Ends label_code
unfolding label_code
label_code_ends = as_type_ends _ _ label label_ends

bytes_end : (n : ℕ) (bs : List ℕ) (v : ℕ) (rest : List ℕ) → read_bytes (suc n) bs ≡ some (v, rest) → Onward bs rest
unfolding read_bytes
bytes_end n [] v rest p = absurd (none-ne-some _ p)
bytes_end zero (b ∷ bs) v rest p = onward_to (same_rest p) (one_byte b bs)
bytes_end (suc n) (b ∷ bs) v rest p =
    let t = then_some (read_bytes (suc n) bs) _ _ p in
    onward_to (same_rest t.3) (onward_then (one_byte b bs) (bytes_end n bs t.0 t.1 t.2))

pub coordinate_ends : Ends coordinate
unfolding coordinate
coordinate_ends = bytes_end 7

-- A VALUE WAS READ, by layout
pub group_at : {s : List ℕ} {at v next : ℕ} → Some (v, next) ≡ read_at group s at → Reads group s at v next
group_at = value_at group group_ends

pub serial_at : {s : List ℕ} {at v next : ℕ} → Some (v, next) ≡ read_at serial s at → Reads serial s at v next
serial_at = value_at serial serial_ends

pub at_most_at : (n : ℕ) {s : List ℕ} {at v next : ℕ} → Some (v, next) ≡ read_at (at_most n) s at → Reads (at_most n) s at v next
at_most_at n = value_at (at_most n) (at_most_ends n)

pub coordinate_at : {s : List ℕ} {at v next : ℕ} → Some (v, next) ≡ read_at coordinate s at → Reads coordinate s at v next
coordinate_at = value_at coordinate coordinate_ends
