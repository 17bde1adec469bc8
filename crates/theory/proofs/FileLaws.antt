-- The layout of files is lawful. Assumes nothing.
use mathlib.Core.Path.{◌≡◌, refl, sym}
use mathlib.Core.Bool.{true, ◌&&◌}
use mathlib.Core.List.{List, ◌++◌}
use mathlib.Core.Option.{some, none-ne-some}
use Prim.Native.Nat.{ℕ, zero, suc}
use lib.Dec.{eqb}
use borrow.Author.Tests.{eqb-true}
use Rattle.model.specs.Values.{Third, free, sewn, critical, Limits}
use Rattle.model.specs.Layouts.{Layout, Read, then, serial, ◌⊗◌, ◌⊕◌, at_most}
use Rattle.model.specs.Messages.{label, point, kind_of, critical_link, third_put, third_get, third_ok, third, a_dart, file}
use Rattle.model.specs.Demands.{Bytes}
use Rattle.laws.proofs.Tests.{and_left, and_right}
use Rattle.theory.proofs.LayoutLaws.{Lawful, read_eq, then_some, group_lawful, serial_lawful, ⊗-lawful, ⊕-lawful, as_type_lawful, such_that_lawful, at_most_lawful, counted_lawful}
use Rattle.theory.proofs.MessageLaws.{point_lawful, label_lawful}

-- THIRD LINKS
critical_lawful : Lawful critical_link
unfolding critical_link
critical_lawful = ⊕-lawful (at_most 15) label (at_most_lawful 15) label_lawful

third_back : (k : ℕ) (t : Third) (rest : List ℕ) → k ≡ kind_of t → third_ok t ≡ true → third_get k (third_put t ++ rest) ≡ some (t, rest)
unfolding third_put
third_back k free rest e o = rw e
third_back k (sewn y) rest e o = rw (e, serial_lawful.back y rest o)
third_back k (critical b l) rest e o = rw (e, critical_lawful.back (b, l) rest o)

-- what is read under a constructor was put under it
under : {A : Type 0} (l : Layout A) (wrap : A → Third) → Lawful l → (bs : List ℕ) (t : Third) (rest : List ℕ) → Bytes bs
    → then (l.get bs) (λ a s. some (wrap a, s)) ≡ some (t, rest) → (a : A) × (wrap a ≡ t) × (bs ≡ l.put a ++ rest) × (l.ok a ≡ true)
under {A} l wrap L bs t rest h p = go (then_some (l.get bs) _ _ p)
  where
    go : (a : A) × (s : List ℕ) × (l.get bs ≡ some (a, s)) × (◌≡◌ {A = Read Third} (some (wrap a, s)) (some (t, rest)))
        → (a : A) × (wrap a ≡ t) × (bs ≡ l.put a ++ rest) × (l.ok a ≡ true)
    go r = let e = read_eq r.3 in let f = L.only bs r.0 r.1 h r.2 in (r.0, e.0, rw (← e.1) f.0, f.1)

third_only : (k : ℕ) (bs : List ℕ) (t : Third) (rest : List ℕ) → Bytes bs → third_get k bs ≡ some (t, rest)
    → (bs ≡ third_put t ++ rest) × ((eqb k (kind_of t) && third_ok t) ≡ true)
unfolding third_put
third_only zero bs t rest h p = let e = read_eq p in rw (← e.0) (e.1, refl)
third_only (suc zero) bs t rest h p = let r = under serial (λ s. sewn s) serial_lawful bs t rest h p in rw (← r.1) (r.2, r.3)
third_only (suc (suc zero)) bs t rest h p = let r = under critical_link (λ c. critical c.0 c.1) critical_lawful bs t rest h p in rw (← r.1) (r.2, r.3)
third_only (suc (suc (suc k))) bs t rest h p = absurd (none-ne-some (t, rest) p)

third_lawful : (k : ℕ) → Lawful (third k)
unfolding third
third_lawful k = record {
  back = λ t rest o. third_back k t rest (eqb-true k (kind_of t) (and_left _ _ o)) (and_right (eqb k (kind_of t)) _ o);
  only = λ bs t rest h p. third_only k bs t rest h p;
}

-- DARTS AND FILES
dart_lawful : Lawful a_dart
unfolding a_dart ◌⊗◌ ◌⊕◌ third
dart_lawful = as_type_lawful _ _ _
    (⊕-lawful serial _ serial_lawful (⊕-lawful serial _ serial_lawful (⊕-lawful serial _ serial_lawful (⊕-lawful _ point (⊗-lawful (at_most 2) third (at_most_lawful 2) third_lawful) point_lawful))))
    (λ d. refl)
    (λ p o. let four = p.1.1.1 in
    let o3 = and_right (serial.ok p.1.1.0) _ (and_right (serial.ok p.1.0) _ (and_right (serial.ok p.0) _ o)) in
    let kind = eqb-true four.0.0 (kind_of four.0.1) (and_left _ _ (and_right ((at_most 2).ok four.0.0) _ (and_left _ (point.ok four.1) o3))) in
    λ i. (p.0, (p.1.0, (p.1.1.0, ((sym kind i, four.0.1), four.1)))))

pub file_lawful : (lim : Limits) → Lawful (file lim)
unfolding file
file_lawful lim = such_that_lawful _ (as_type_lawful _ _ _ (⊕-lawful _ _ (at_most_lawful 15) (⊕-lawful _ _ group_lawful (counted_lawful a_dart dart_lawful))) (λ b. refl) (λ p o. refl)) _
