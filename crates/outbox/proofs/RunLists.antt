-- Entries by index and entries by list: the bytes of a list of values are those of its elements one after the other. Assumes nothing.
use mathlib.Core.Path.{◌≡◌, refl, sym, ◌∙◌, ap}
use mathlib.Core.Bool.{Bool, true, false, cond}
use mathlib.Core.List.{List, [], ◌∷◌, ◌++◌, map, append-nil, append_assoc}
use Prim.Native.Nat.{ℕ, zero, suc, ◌+◌, ◌<◌}
use native.Mathlib.Omega.{arith}
use lib.ListN.{length, get_or}
use Rattle.model.specs.Lists.{keep}
use Rattle.model.specs.Layouts.{Layout, put_all}
use Rattle.model.specs.Messages.{part3}
use Rattle.model.specs.Departure.{part3_from}
use Rattle.laws.proofs.Tests.{by_cases}
use Rattle.outbox.specs.Runs.{run, tally}

-- THE FIRST ENTRY APART
pub run_first : (b : ℕ → List ℕ) (n : ℕ) → b 0 ++ run (λ k. b (suc k)) n ≡ run b (suc n)
unfolding run
run_first b zero = append-nil (b 0)
run_first b (suc n) = sym (append_assoc (b 0) (run (λ k. b (suc k)) n) (b (suc n))) ∙ ap (λ (l : List ℕ). l ++ b (suc n)) (run_first b n)

pub run_cong : (b c : ℕ → List ℕ) (n : ℕ) → ((k : ℕ) → k < n → b k ≡ c k) → run b n ≡ run c n
unfolding run
run_cong b c zero h = refl
run_cong b c (suc n) h = ap (λ (l : List ℕ). l ++ b n) (run_cong b c n (λ k j. h k (omega arith))) ∙ ap (λ (l : List ℕ). run c n ++ l) (h n (omega arith))

abbrev one_if : Bool → ℕ
one_if true = 1
one_if false = 0

tally_first : (q : ℕ → Bool) (n : ℕ) → tally q (suc n) ≡ one_if (q 0) + tally (λ k. q (suc k)) n
unfolding tally
tally_first q zero = by_cases (q 0) (λ e. rw e) (λ e. rw e)
tally_first q (suc n) = by_cases (q (suc n)) (λ e. rw e (ap suc (tally_first q n) ∙ omega arith)) (λ e. rw e (tally_first q n))

pub tally_cong : (p q : ℕ → Bool) (n : ℕ) → ((k : ℕ) → k < n → p k ≡ q k) → tally p n ≡ tally q n
unfolding tally
tally_cong p q zero h = refl
tally_cong p q (suc n) h = rw (h n (omega arith), tally_cong p q n (λ k j. h k (omega arith)))

-- LISTS
module _ {A : Type 0} (d : A) where
  pub put_mapped : {B : Type 0} (l : Layout B) (g : A → B) (xs : List A) → put_all l (map g xs) ≡ run (λ k. l.put (g (get_or xs k d))) (length xs)
  unfolding put_all run
  put_mapped l g [] = refl
  put_mapped l g (x ∷ xs) = ap (λ (t : List ℕ). l.put (g x) ++ t) (put_mapped l g xs) ∙ run_first (λ k. l.put (g (get_or (x ∷ xs) k d))) (length xs)

  -- what passes a test
  first_kept : {B : Type 0} (l : Layout B) (g : A → B) (q : A → Bool) (x : A) (xs : List A)
      → put_all l (map g (keep q (x ∷ xs))) ≡ cond (q x) (l.put (g x)) [] ++ put_all l (map g (keep q xs))
  unfolding put_all
  first_kept l g q x xs = by_cases (q x) (λ e. rw e) (λ e. rw e)

  pub put_kept : {B : Type 0} (l : Layout B) (g : A → B) (q : A → Bool) (xs : List A)
      → put_all l (map g (keep q xs)) ≡ run (λ k. cond (q (get_or xs k d)) (l.put (g (get_or xs k d))) []) (length xs)
  unfolding put_all run
  put_kept l g q [] = refl
  put_kept l g q (x ∷ xs) = first_kept l g q x xs ∙ ap (λ (t : List ℕ). cond (q x) (l.put (g x)) [] ++ t) (put_kept l g q xs)
      ∙ run_first (λ k. cond (q (get_or (x ∷ xs) k d)) (l.put (g (get_or (x ∷ xs) k d))) []) (length xs)

  pub tally_kept : (q : A → Bool) (xs : List A) → length (keep q xs) ≡ tally (λ k. q (get_or xs k d)) (length xs)
  unfolding tally
  tally_kept q [] = refl
  tally_kept q (x ∷ xs) = first ∙ ap (λ (t : ℕ). one_if (q x) + t) (tally_kept q xs) ∙ sym (tally_first (λ k. q (get_or (x ∷ xs) k d)) (length xs))
    where
      first : length (keep q (x ∷ xs)) ≡ one_if (q x) + length (keep q xs)
      first = by_cases (q x) (λ e. rw e (omega arith)) (λ e. rw e (omega arith))

  -- and is numbered from c on
  module _ (index : A → ℕ) (q : A → Bool) where
    numbered : ℕ → List A → ℕ → List ℕ
    numbered c xs k = cond (q (get_or xs k d)) (part3.put (record { number = c + tally (λ t. q (get_or xs t d)) k; index = index (get_or xs k d) })) []

    first_numbered : (c : ℕ) (x : A) (xs : List A) → put_all part3 (part3_from c (map index (keep q (x ∷ xs))))
        ≡ cond (q x) (part3.put (record { number = c; index = index x })) [] ++ put_all part3 (part3_from (one_if (q x) + c) (map index (keep q xs)))
    unfolding put_all part3_from
    first_numbered c x xs =
        let up : suc c ≡ 1 + c = omega arith in
        let same : c ≡ 0 + c = omega arith in
        by_cases (q x)
        (λ e. rw e (ap (λ (n : ℕ). part3.put (record { number = c; index = index x }) ++ put_all part3 (part3_from n (map index (keep q xs)))) up))
        (λ e. rw e (ap (λ (n : ℕ). put_all part3 (part3_from n (map index (keep q xs)))) same))

    later : (c : ℕ) (x : A) (xs : List A) (k : ℕ) → numbered (one_if (q x) + c) xs k ≡ numbered c (x ∷ xs) (suc k)
    unfolding numbered
    later c x xs k = let e : one_if (q x) + c + tally (λ t. q (get_or xs t d)) k ≡ c + tally (λ t. q (get_or (x ∷ xs) t d)) (suc k) = omega (arith, tally_first (λ t. q (get_or (x ∷ xs) t d)) k) in
        ap (λ (n : ℕ). cond (q (get_or xs k d)) (part3.put (record { number = n; index = index (get_or xs k d) })) []) e

    start : (c : ℕ) (x : A) (xs : List A) → cond (q x) (part3.put (record { number = c; index = index x })) [] ≡ numbered c (x ∷ xs) 0
    unfolding numbered tally
    start c x xs = let e : c ≡ c + 0 = omega arith in ap (λ (n : ℕ). cond (q x) (part3.put (record { number = n; index = index x })) []) e

    pub put_numbered : (c : ℕ) (xs : List A) → put_all part3 (part3_from c (map index (keep q xs)))
        ≡ run (λ k. cond (q (get_or xs k d)) (part3.put (record { number = c + tally (λ t. q (get_or xs t d)) k; index = index (get_or xs k d) })) []) (length xs)
    unfolding put_all part3_from run numbered
    put_numbered c [] = refl
    put_numbered c (x ∷ xs) = first_numbered c x xs
        ∙ ap (λ (t : List ℕ). cond (q x) (part3.put (record { number = c; index = index x })) [] ++ t) (put_numbered (one_if (q x) + c) xs ∙ run_cong _ _ (length xs) (λ k h. later c x xs k))
        ∙ ap (λ (t : List ℕ). t ++ run (λ k. numbered c (x ∷ xs) (suc k)) (length xs)) (start c x xs)
        ∙ run_first (numbered c (x ∷ xs)) (length xs)
