-- Rows taken out of an ascending table and inserted again, in whatever order, give the table. Assumes nothing.
use mathlib.Core.Path.{◌≡◌, refl, sym, ◌∙◌, ap}
use mathlib.Core.Bool.{Bool, true, false, true≢false, not, ◌||◌}
use mathlib.Core.List.{List, [], ◌∷◌, map}
use mathlib.Core.Option.{some, none-ne-some, some-injective}
use Prim.Native.Nat.{ℕ, ◌<◌}
use native.Mathlib.Omega.{arith}
use lib.Dec.{eqb, ltb}
use lib.ListN.{length}
use borrow.Author.Tests.{eqb-false, eq-eqb, ne_eqb, le-ltb, ltb-true, not-true}
use Rattle.model.specs.Lists.{all, keep, mem, distinct, ascending, find, insert}
use Rattle.model.specs.Values.{Dart}
use Rattle.model.specs.Cells.{serials}
use Rattle.model.specs.Arrival.{insert_all}
use Rattle.laws.proofs.Tests.{by_cases, and_left, and_right, found_all}
use Rattle.laws.proofs.Members.{In, in_cons, all_map, Each, keep_true}
use Rattle.cells.proofs.FaceLaws.{distinct_few}

-- ONE ROW
module _ {A : Type 0} (key : A → ℕ) (r : ℕ → Bool) where
  -- without those of key v, and those of r
  abbrev without : ℕ → List A → List A
  without v l = keep (λ e. not (eqb (key e) v || r (key e))) l

  abbrev with : List A → List A
  with l = keep (λ e. not (r (key e))) l

  above_stay : (v : ℕ) (l : List A) → all (λ e. ltb v (key e)) l ≡ true → without v l ≡ with l
  above_stay v [] h = refl
  above_stay v (e ∷ l) h =
      let less = ltb-true v (key e) (and_left (ltb v (key e)) _ h) in
      rw (ne_eqb (key e) v (λ q. omega arith), above_stay v l (and_right (ltb v (key e)) _ h))

  in_front : (d : A) (l : List A) → all (λ e. ltb (key d) (key e)) l ≡ true → insert key d (with l) ≡ d ∷ with l
  in_front d [] h = refl
  in_front d (e ∷ l) h = by_cases (r (key e))
      (λ t. rw t (in_front d l (and_right (ltb (key d) (key e)) _ h)))
      (λ t. rw (t, and_left (ltb (key d) (key e)) _ h))

  put_back : (d : A) (l : List A) → ascending (map key l) ≡ true → find key (key d) l ≡ some d → r (key d) ≡ false → insert key d (without (key d) l) ≡ with l
  unfolding ascending
  put_back d [] a f o = absurd (none-ne-some d f)
  put_back d (e ∷ l) a f o =
      let up : all (λ x. ltb (key e) (key x)) l ≡ true = sym (all_map (ltb (key e)) key l) ∙ and_left (all (ltb (key e)) (map key l)) _ a in
      let later = put_back d l (and_right (all (ltb (key e)) (map key l)) _ a) in
      by_cases (eqb (key d) (key e))
      (λ t. here (some-injective e d (rw t at f)) up)
      (λ t. there t (ltb-true (key e) (key d) (found_all key (λ x. ltb (key e) (key x)) (key d) l d up (rw t at f))) (later (rw t at f) o))
    where
      here : e ≡ d → all (λ x. ltb (key e) (key x)) l ≡ true → insert key d (without (key d) (e ∷ l)) ≡ with (e ∷ l)
      here q up =
          let up_d : all (λ x. ltb (key d) (key x)) l ≡ true = rw q at up in
          rw (q, eq-eqb (key d) (key d) refl, o) (ap (insert key d) (above_stay (key d) l up_d) ∙ in_front d l up_d)

      there : eqb (key d) (key e) ≡ false → key e < key d → insert key d (without (key d) l) ≡ with l → insert key d (without (key d) (e ∷ l)) ≡ with (e ∷ l)
      there t less ih = by_cases (r (key e))
          (λ z. rw (ne_eqb (key e) (key d) (λ q. omega arith), z) ih)
          (λ z. rw (ne_eqb (key e) (key d) (λ q. omega arith), z, le-ltb (key d) (key e) (omega arith), ih))

-- ALL OF THEM
or_assoc : (a b c : Bool) → ((a || b) || c) ≡ (b || (a || c))
or_assoc true true c = refl
or_assoc true false c = refl
or_assoc false true c = refl
or_assoc false false c = refl

put_all : (r : ℕ → Bool) (ns l : List Dart) → ascending (serials l) ≡ true → Each (λ d. find (λ e. e.serial) d.serial l ≡ some d) ns
    → Each (λ d. r d.serial ≡ false) ns → distinct (serials ns) ≡ true
    → insert_all ns (keep (λ e. not (mem e.serial (serials ns) || r e.serial)) l) ≡ keep (λ e. not (r e.serial)) l
put_all r [] l a f o d = refl
put_all r (n ∷ ns) l a f o d =
    ap (λ (z : List Dart). insert (λ e. e.serial) n (insert_all ns z)) (λ i. keep (λ e. not (or_assoc (eqb e.serial n.serial) (mem e.serial (serials ns)) (r e.serial) i)) l)
    ∙ ap (insert (λ e. e.serial) n)
    (put_all (λ x. eqb x n.serial || r x) ns l a f.1
    (out ns (not-true (mem n.serial (serials ns)) (and_left _ _ d)) o.1)
    (and_right (not (mem n.serial (serials ns))) _ d))
    ∙ put_back (λ e. e.serial) r n l a f.0 o.0
  where
    out : (ms : List Dart) → mem n.serial (serials ms) ≡ false → Each (λ d. r d.serial ≡ false) ms → Each (λ d. (eqb d.serial n.serial || r d.serial) ≡ false) ms
    out [] z y = tt
    out (m ∷ ms) z y = by_cases (eqb n.serial m.serial)
        (λ t. absurd (true≢false (rw t at z)))
        (λ t. (rw (ne_eqb m.serial n.serial (λ q. eqb-false n.serial m.serial t (sym q))) y.0, out ms (rw t at z) y.1))

-- THE LAW: rows that a table holds, each once, inserted into what is left of it
pub inserted : (ns l : List Dart) → ascending (serials l) ≡ true → Each (λ d. find (λ e. e.serial) d.serial l ≡ some d) ns → distinct (serials ns) ≡ true
    → insert_all ns (keep (λ e. not (mem e.serial (serials ns) || false)) l) ≡ l
inserted ns l a f d = put_all (λ x. false) ns l a f (all_false ns) d ∙ keep_true l
  where
    all_false : (ms : List Dart) → Each (λ d. false ≡ false) ms
    all_false [] = tt
    all_false (m ∷ ms) = (refl, all_false ms)

-- EACH PLACE below k stands in a list of k different places below k
pub all_there : (k : ℕ) (ps : List ℕ) → distinct ps ≡ true → length ps ≡ k → ((x : ℕ) → In x ps → x < k) → (q : ℕ) → q < k → In q ps
all_there k ps d size low q h = by_cases (mem q ps) (λ t. t) (λ t. absurd (too_many t))
  where
    too_many : mem q ps ≡ false → ⊥
    too_many t = let few = distinct_few (q ∷ ps) k (rw (t, d)) (λ x i. in_cons x q ps i (λ e. omega arith) (λ j. low x j)) in omega arith
