-- Layouts: how a value is put as bytes and read back; groups and coordinates. Assumes nothing.
-- A reader trusts `put` and `ok`: the laws (crate theory, LayoutLaws) say that `get` reads what `put` writes, and nothing else.
use Rattle.std.specs.Prelude.{Bool, true, false, cond, not, ◌&&◌, List, [], ◌∷◌, ◌++◌, ℕ, zero, suc, ◌+◌, ◌*◌, ◌-◌, ◌/◌, ◌%◌, ◌^◌, leb, ltb, eqb, length, get_or}
use Rattle.std.proofs.Math.Option.{Option, none, some}
use Rattle.std.specs.Float.Ieee.{size}
use Rattle.model.specs.Lists.{all}
use Rattle.model.specs.Values.{number_bound, serial_bound}

-- what reading gives: a value and the bytes after it, or nothing
abbrev pub Read : Type 0 → Type 0
Read A = Option (A × List ℕ)

abbrev pub then : {A B : Type 0} → Read A → (A → List ℕ → Read B) → Read B
then none f = none
then (some r) f = f r.0 r.1

abbrev pub when : {A : Type 0} → Bool → Read A → Read A
when true r = r
when false r = none

-- `ok` says which values have a layout
pub record Layout (A : Type 0) : Type 0 where
  pub ok : A → Bool
  pub put : A → List ℕ
  pub get : List ℕ → Read A

-- GROUPS "of seven bits, lowest first, top bit set on all but the last", n + 1 at the most
unfoldable pub groups : ℕ → ℕ → List ℕ
groups zero v = v ∷ []
groups (suc n) v = let more = (v % 128 + 128) ∷ groups n (v / 128) in cond (ltb v 128) (v ∷ []) more

-- "shortest form": what comes after a group with its top bit set is not 0
unfoldable pub read_groups : ℕ → List ℕ → Read ℕ
read_groups zero [] = none
read_groups zero (b ∷ bs) = when (ltb b 128) (some (b, bs))
read_groups (suc n) [] = none
read_groups (suc n) (b ∷ bs) =
    let more = then (read_groups n bs) (λ h rest. when (not (eqb h 0)) (some (b - 128 + 128 * h, rest))) in
    cond (ltb b 128) (some (b, bs)) more

-- a number below a bound, in n + 1 groups at the most
unfoldable pub group_below : ℕ → ℕ → Layout ℕ
unfolding groups read_groups
group_below n bound = record {
  ok = λ v. ltb v bound;
  put = groups n;
  get = λ bs. then (read_groups n bs) (λ v rest. when (ltb v bound) (some (v, rest)));
}

-- numbers are "below 2^32"
unfoldable pub group : Layout ℕ
unfolding group_below
group = group_below 4 number_bound

-- serials have a bound of their own
unfoldable pub serial : Layout ℕ
unfolding group_below
serial = group_below 4 serial_bound

-- "A table of 33 entries, by bit length 0 to 32, gives the count of groups"
unfoldable pub group_counts : List ℕ
group_counts = 1 ∷ 1 ∷ 1 ∷ 1 ∷ 1 ∷ 1 ∷ 1 ∷ 1 ∷ 2 ∷ 2 ∷ 2 ∷ 2 ∷ 2 ∷ 2 ∷ 2 ∷ 3 ∷ 3 ∷ 3 ∷ 3 ∷ 3 ∷ 3 ∷ 3 ∷ 4 ∷ 4 ∷ 4 ∷ 4 ∷ 4 ∷ 4 ∷ 4 ∷ 5 ∷ 5 ∷ 5 ∷ 5 ∷ []

unfoldable pub group_count : ℕ → ℕ
unfolding group_counts size
group_count v = get_or group_counts (size v) 0

-- A COORDINATE "is 8 bytes, least significant first"
unfoldable pub low_bytes : ℕ → ℕ → List ℕ
low_bytes zero v = []
low_bytes (suc n) v = v % 256 ∷ low_bytes n (v / 256)

unfoldable pub read_bytes : ℕ → List ℕ → Read ℕ
read_bytes zero bs = some (0, bs)
read_bytes (suc n) [] = none
read_bytes (suc n) (b ∷ bs) = then (read_bytes n bs) (λ h rest. some (b + 256 * h, rest))

unfoldable pub coordinate : Layout ℕ
unfolding low_bytes read_bytes
coordinate = record { ok = λ v. ltb v (2 ^ 64); put = low_bytes 8; get = read_bytes 8 }

-- COMBINATORS
-- one value after another; the second's layout may depend on the first
unfoldable pub ◌⊗◌ : {A B : Type 0} → Layout A → (A → Layout B) → Layout (A × B)
◌⊗◌ l m = record {
  ok = λ p. l.ok p.0 && (m p.0).ok p.1;
  put = λ p. l.put p.0 ++ (m p.0).put p.1;
  get = λ bs. then (l.get bs) (λ a rest. then ((m a).get rest) (λ b rest'. some ((a, b), rest')));
}

infixr 30 ◌⊗◌ ◌⊕◌
unfoldable pub ◌⊕◌ : {A B : Type 0} → Layout A → Layout B → Layout (A × B)
unfolding ◌⊗◌
◌⊕◌ l m = l ⊗ (λ a. m)

-- the same bytes for another type
unfoldable pub as_type : {A B : Type 0} → (A → B) → (B → A) → Layout A → Layout B
as_type to from l = record {
  ok = λ b. l.ok (from b);
  put = λ b. l.put (from b);
  get = λ bs. then (l.get bs) (λ a rest. some (to a, rest));
}

-- only the values that pass a test
unfoldable pub such_that : {A : Type 0} → Layout A → (A → Bool) → Layout A
such_that l p = record {
  ok = λ v. l.ok v && p v;
  put = l.put;
  get = λ bs. then (l.get bs) (λ v rest. when (p v) (some (v, rest)));
}

unfoldable pub at_most : ℕ → Layout ℕ
at_most n = such_that group (λ v. leb v n)

unfoldable pub exactly : ℕ → Layout ℕ
exactly n = such_that group (eqb n)

-- exactly n values
unfoldable pub put_all : {A : Type 0} → Layout A → List A → List ℕ
put_all l [] = []
put_all l (a ∷ as') = l.put a ++ put_all l as'

unfoldable pub get_all : {A : Type 0} → Layout A → ℕ → List ℕ → Read (List A)
get_all l zero bs = some ([], bs)
get_all l (suc n) bs = then (l.get bs) (λ a rest. then (get_all l n rest) (λ as' rest'. some (a ∷ as', rest')))

unfoldable pub times : {A : Type 0} → ℕ → Layout A → Layout (List A)
unfolding put_all get_all
times n l = record { ok = λ v. eqb (length v) n && all l.ok v; put = put_all l; get = get_all l n }

-- a count, then so many values
unfoldable pub counted : {A : Type 0} → Layout A → Layout (List A)
unfolding ◌⊗◌ as_type times group
counted l = as_type (λ p. p.1) (λ v. (length v, v)) (group ⊗ (λ n. times n l))

-- WHOLE FILES AND MESSAGES
-- "to the last byte": nothing after it
abbrev pub ended : {A : Type 0} → A → List ℕ → Option A
ended a [] = some a
ended a (b ∷ more) = none

abbrev pub at_end : {A : Type 0} → Read A → Option A
at_end none = none
at_end (some r) = ended r.0 r.1

unfoldable pub whole : {A : Type 0} → Layout A → List ℕ → Option A
whole l bs = at_end (l.get bs)

-- a message: "Its first number is the length of the rest"
unfoldable pub framed : {A : Type 0} → Layout A → A → List ℕ
framed l v = let body = l.put v in group.put (length body) ++ body

abbrev pub of_length : {A : Type 0} → Layout A → Read ℕ → Option A
of_length l none = none
of_length l (some r) = cond (eqb (length r.1) r.0) (whole l r.1) none

unfoldable pub unframed : {A : Type 0} → Layout A → List ℕ → Option A
unframed l bs = of_length l (group.get bs)
