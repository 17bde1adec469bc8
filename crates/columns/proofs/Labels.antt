-- Question 7, labels, by columns. Assumes nothing.
use mathlib.Core.Path.{◌≡◌, refl, ap, ◌∙◌}
use mathlib.Core.Bool.{◌&&◌}
use mathlib.Core.List.{List, [], ◌∷◌, ◌++◌, map, append-nil}
use mathlib.Core.Option.{Option, none, some}
use Prim.Native.Nat.{ℕ, zero, suc, ◌<◌}
use native.Mathlib.Omega.{arith}
use lib.ListN.{get_or}
use Rattle.model.specs.Lists.{tab, more, collect, distinct}
use Rattle.model.specs.Values.{Label, Dart, code, label_of}
use Rattle.model.specs.Cells.{labels}
use Rattle.model.specs.Sound.{label_right, labels_right}
use Rattle.model.specs.Image.{column, third_in, dart_in, block_in}
use Rattle.laws.proofs.Members.{map_append}
use Rattle.laws.proofs.Tables.{tab_more}
use Rattle.laws.proofs.Labels.{code_in}
use Rattle.columns.specs.Columns.{all_below, count, Kind, kind_free, kind_sewn, kind_critical, Ranged, label_test, own_test, codes}
use Rattle.columns.proofs.Below.{all_tests}
use Rattle.columns.proofs.Thirds.{third_free, third_sewn, third_critical}

pub label_is : (s : ℕ → ℕ) (me counter k a : ℕ) → Kind k a → label_right me counter (third_in s k a) ≡ label_test me counter k a
unfolding label_test
label_is s me counter k a (kind_free e f) = rw (third_free s k a e, e) refl
label_is s me counter k a (kind_sewn e) = rw (third_sewn s k a e, e) refl
label_is s me counter k a (kind_critical e f g) = rw (third_critical s k a e, e) refl

-- THE LABELS, in the order of the darts
labels_append : (x y : List Dart) → labels (x ++ y) ≡ labels x ++ labels y
unfolding labels
labels_append [] y = refl
labels_append (d ∷ x) y = go (label_of d.third) (labels_append x y)
  where
    go : (o : Option Label) → collect (λ d. label_of d.third) (x ++ y) ≡ collect (λ d. label_of d.third) x ++ collect (λ d. label_of d.third) y
        → more o (collect (λ d. label_of d.third) (x ++ y)) ≡ more o (collect (λ d. label_of d.third) x) ++ collect (λ d. label_of d.third) y
    go none e = e
    go (some l) e = ap (λ (z : List Label). l ∷ z) e

pub codes_are : (m : List ℕ) (n : ℕ) → ((p : ℕ) → p < n → Kind (column m 3 p) (column m 4 p)) → map code (labels (tab (dart_in m) n)) ≡ codes m n
unfolding codes labels
codes_are m zero h = refl
codes_are m (suc n) h =
    ap (λ (x : List Dart). map code (labels x)) (tab_more (dart_in m) n) ∙ ap (map code) (labels_append (tab (dart_in m) n) (dart_in m n ∷ []))
    ∙ map_append code (labels (tab (dart_in m) n)) (labels (dart_in m n ∷ []))
    ∙ ap (λ (x : List ℕ). x ++ map code (labels (dart_in m n ∷ []))) (codes_are m n (λ p l. h p (omega arith)))
    ∙ last (h n (omega arith))
  where
    last : Kind (column m 3 n) (column m 4 n) → codes m n ++ map code (labels (dart_in m n ∷ [])) ≡ codes m (suc n)
    last (kind_free e f) = rw (third_free (column m 0) (column m 3 n) (column m 4 n) e, e) (append-nil (codes m n))
    last (kind_sewn e) = rw (third_sewn (column m 0) (column m 3 n) (column m 4 n) e, e) (append-nil (codes m n))
    last (kind_critical e f g) = rw (third_critical (column m 0) (column m 3 n) (column m 4 n) e, e) (ap (λ (z : ℕ). codes m n ++ z ∷ []) (code_in (column m 4 n)))

-- QUESTION 7
pub labels_are : (m : List ℕ) → Ranged m → (all_below (own_test m) (count m) && distinct (codes m (count m))) ≡ labels_right (block_in m)
unfolding labels_right
labels_are m w = rw (
  codes_are m (count m) w.kinds,
  all_tests (λ d. label_right (get_or m 0 0) (get_or m 1 0) d.third) (dart_in m) (own_test m) (count m)
      (λ p h. label_is (column m 0) (get_or m 0 0) (get_or m 1 0) (column m 3 p) (column m 4 p) (w.kinds p h)),
) refl
