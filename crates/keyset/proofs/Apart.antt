-- Keys of which no two are the same pass the model's test, and no others do. Assumes nothing.
use mathlib.Core.Path.{◌≡◌, refl, sym, ◌∙◌}
use mathlib.Core.Bool.{true, false, not}
use mathlib.Core.List.{List, [], ◌∷◌}
use Prim.Native.Nat.{ℕ, zero, suc, ◌≤◌}
use native.Mathlib.Omega.{arith}
use lib.ListN.{length, get_or, take}
use lib.Seq.{get_or-take, length-take-le}
use Rattle.model.specs.Lists.{mem, distinct}
use Rattle.laws.proofs.Tests.{by_cases, and_intro, and_right}
use Rattle.laws.proofs.Members.{distinct_not, getD_in}
use Rattle.theory.proofs.ImageLaws.{place_back}
use Rattle.keyset.specs.Slots.{KeysApart, Searched}
use Rattle.keyset.specs.declared.Search.{Search}
use Rattle.keyset.specs.declared.Search.TheVariants.{Distinct, Repeated}

apart_distinct : (l : List ℕ) → KeysApart l (length l) → distinct l ≡ true
apart_distinct [] a = refl
apart_distinct (x ∷ l) a = and_intro {a = not (mem x l)} (by_cases (mem x l)
    (λ e. let r = place_back x l e in absurd (a 0 (suc _) (omega arith) (omega (arith, r.1)) (sym r.0)))
    (λ e. rw e refl))
    (apart_distinct l (λ p q h k. a (suc p) (suc q) (omega arith) (omega arith)))

distinct_apart : (l : List ℕ) → distinct l ≡ true → KeysApart l (length l)
distinct_apart [] d p q h k = absurd (omega arith)
distinct_apart (x ∷ l) d p zero h k = absurd (omega arith)
distinct_apart (x ∷ l) d zero (suc q) h k = λ e. distinct_not x l d (get_or l q 0) (getD_in l q (omega arith)) (sym e)
distinct_apart (x ∷ l) d (suc p) (suc q) h k = distinct_apart l (and_right (not (mem x l)) _ d) p q (omega arith) (omega arith)

module _ (keys : List ℕ) (n : ℕ) (fits : n ≤ length keys) where
  long : length (take n keys) ≡ n
  long = length-take-le n keys fits

  pub searched_yes : {r : Search} → Searched keys n r → r ≡ Distinct → true ≡ distinct (take n keys)
  searched_yes t e = let a = rw e at t in
      sym (apart_distinct (take n keys) (λ p q h k f. a p q h (omega (arith, long))
      (sym (get_or-take n keys p 0 (omega (arith, long))) ∙ f ∙ get_or-take n keys q 0 (omega (arith, long)))))

  pub searched_no : {r : Search} → Searched keys n r → r ≡ Repeated → false ≡ distinct (take n keys)
  searched_no t e = let twice = rw e at t in by_cases (distinct (take n keys))
      (λ d. absurd (twice (λ p q h k f. distinct_apart (take n keys) d p q h (omega (arith, long)) (get_or-take n keys p 0 (omega arith) ∙ f ∙ sym (get_or-take n keys q 0 (omega arith))))))
      (λ d. sym d)
