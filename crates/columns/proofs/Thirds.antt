-- Kind words and link words: what the test of them says, and the third link that they stand for. Assumes nothing.
use mathlib.Core.Path.{◌≡◌, refl, sym, ap}
use mathlib.Core.Bool.{true, false, not, ◌&&◌, ◌||◌, cond}
use mathlib.Core.List.{List}
use mathlib.Core.Logic.{◌⊎◌, inl, inr}
use Prim.Native.Nat.{ℕ, ◌+◌, ◌*◌, ◌/◌, ◌%◌, ◌<◌, ◌^◌, suc}
use native.Mathlib.Omega.{arith}
use lib.Dec.{ltb, eqb}
use borrow.Author.Tests.{eqb-true, eq-eqb, ne_eqb, ltb-true, lt-ltb}
use Rattle.model.specs.Lists.{index_of}
use Rattle.model.specs.Values.{free, sewn, critical, label_key}
use Rattle.model.specs.Image.{kind_word, link_word, is_sewn_word, is_critical_word, label_in, third_in}
use Rattle.laws.proofs.Tests.{by_cases, and_intro, and_left, and_right, or_cases}
use Rattle.laws.proofs.Members.{or_right}
use Rattle.laws.proofs.Labels.{code_in}
use Rattle.columns.specs.Columns.{Kind, kind_free, kind_sewn, kind_critical, label_test, critical_test, kind_test}

-- THE THREE KINDS
pub third_free : (s : ℕ → ℕ) (k a : ℕ) → k ≡ 0 → third_in s k a ≡ free
unfolding third_in
third_free s k a e = rw e refl

pub third_sewn : (s : ℕ → ℕ) (k a : ℕ) → k ≡ 1 → third_in s k a ≡ sewn (s a)
unfolding third_in
third_sewn s k a e = rw e refl

pub critical_two : (k : ℕ) → is_critical_word k ≡ true → k % 4 ≡ 2
critical_two k e = eqb-true (k % 4) 2 e

pub sewn_one : (k : ℕ) → is_sewn_word k ≡ true → k % 4 ≡ 1
sewn_one k e = eqb-true (k % 4) 1 e

pub critical_unsewn : (k : ℕ) → is_critical_word k ≡ true → is_sewn_word k ≡ false
critical_unsewn k e = ne_eqb (k % 4) 1 (λ q. omega (arith, critical_two k e))

pub with_critical : (k o : ℕ) → k ≡ 2 + 4 * o → is_critical_word k ≡ true
with_critical k o e = eq-eqb (k % 4) 2 (omega arith)

pub third_critical : (s : ℕ → ℕ) (k a : ℕ) → is_critical_word k ≡ true → third_in s k a ≡ critical (k / 4) (label_in a)
unfolding third_in
third_critical s k a e = rw (critical_two k e) refl

-- THE TEST
pub record KindRight (me counter n k a : ℕ) : Type 0 where
  pub kind : Kind k a
  pub label : label_test me counter k a ≡ true
  pub sewn_lt : is_sewn_word k ≡ true → a < n

pub critical_says : (me counter n k a : ℕ) → is_critical_word k ≡ true → critical_test me counter k a ≡ true → KindRight me counter n k a
unfolding critical_test label_test
critical_says me counter n k a h e =
    let own = not (eqb (a / 4096 / 2 ^ 32) me) || ltb (a / 4096 % 2 ^ 32) counter in
    let two = ltb (k / 4) 16 && ltb a (2 ^ 48) in
    let three = two && not (eqb (k / 4) me) in
    let e3 = and_left three own e in
    let e2 = and_left two (not (eqb (k / 4) me)) e3 in
    record {
      kind = kind_critical h (ltb-true (k / 4) 16 (and_left (ltb (k / 4) 16) (ltb a (2 ^ 48)) e2)) (ltb-true a (2 ^ 48) (and_right (ltb (k / 4) 16) (ltb a (2 ^ 48)) e2));
      label = or_right (not (is_critical_word k)) _ (and_intro (and_right two (not (eqb (k / 4) me)) e3) (and_right three own e));
      sewn_lt = λ q. absurd (omega (arith, critical_two k h, sewn_one k q));
    }

pub kind_says : (me counter n k a : ℕ) → kind_test me counter n k a ≡ true → KindRight me counter n k a
unfolding kind_test label_test
kind_says me counter n k a e = by_cases (is_critical_word k) (λ t. critical_says me counter n k a t (rw t at e)) (λ t. near t (or_cases (eqb k 0 && eqb a 0) (eqb k 1 && ltb a n) (rw t at e)))
  where
    near : is_critical_word k ≡ false → (eqb k 0 && eqb a 0) ≡ true ⊎ ((eqb k 1 && ltb a n) ≡ true) → KindRight me counter n k a
    near t (inl q) =
        let zero-kind = eqb-true k 0 (and_left (eqb k 0) (eqb a 0) q) in
        record { kind = kind_free zero-kind (eqb-true a 0 (and_right (eqb k 0) (eqb a 0) q)); label = rw t refl; sewn_lt = λ one. absurd (omega (arith, sewn_one k one)) }
    near t (inr q) = record { kind = kind_sewn (eqb-true k 1 (and_left (eqb k 1) (ltb a n) q)); label = rw t refl; sewn_lt = λ _. ltb-true a n (and_right (eqb k 1) (ltb a n) q) }

pub kind_yes : (me counter n k a : ℕ) → Kind k a → label_test me counter k a ≡ true → (is_sewn_word k ≡ true → a < n) → kind_test me counter n k a ≡ true
unfolding kind_test critical_test label_test
kind_yes me counter n k a (kind_free e f) l s = rw (e, f) refl
kind_yes me counter n k a (kind_sewn e) l s = rw (e, lt-ltb a n (s (ap is_sewn_word e))) refl
kind_yes me counter n k a (kind_critical e f g) l s =
    let t : (not (eqb (k / 4) me) && (not (eqb (a / 4096 / 2 ^ 32) me) || ltb (a / 4096 % 2 ^ 32) counter)) ≡ true = rw e at l in
    rw e (and_intro (and_intro (and_intro (lt-ltb (k / 4) 16 f) (lt-ltb a (2 ^ 48) g)) (and_left (not (eqb (k / 4) me)) _ t)) (and_right (not (eqb (k / 4) me)) _ t))

-- BACK TO WORDS
pub kind_back : (s : ℕ → ℕ) (k a : ℕ) → Kind k a → kind_word (third_in s k a) ≡ k
kind_back s k a (kind_free e f) = rw (third_free s k a e) (sym e)
kind_back s k a (kind_sewn e) = rw (third_sewn s k a e) (sym e)
kind_back s k a (kind_critical e f g) = rw (third_critical s k a e) (omega (arith, critical_two k e))

pub link_back : (s : ℕ → ℕ) (ss : List ℕ) (k a : ℕ) → Kind k a → (k ≡ 1 → index_of (s a) ss ≡ a) → link_word ss (third_in s k a) ≡ a
link_back s ss k a (kind_free e f) h = rw (third_free s k a e) (sym f)
link_back s ss k a (kind_sewn e) h = rw (third_sewn s k a e) (h e)
link_back s ss k a (kind_critical e f g) h = rw (third_critical s k a e) (code_in a)

pub kind_one : {k a : ℕ} → Kind k a → is_sewn_word k ≡ true → k ≡ 1
kind_one {k} (kind_free e f) h = absurd (omega (arith, sewn_one k h))
kind_one (kind_sewn e) h = e
kind_one {k} (kind_critical e f g) h = absurd (omega (arith, critical_two k e, sewn_one k h))

pub label_word : (s : ℕ → ℕ) (k a : ℕ) → Kind k a → label_key (third_in s k a) ≡ cond (is_critical_word k) (suc a) 0
label_word s k a (kind_free e f) = rw (third_free s k a e, e) refl
label_word s k a (kind_sewn e) = rw (third_sewn s k a e, e) refl
label_word s k a (kind_critical e f g) = rw (third_critical s k a e, e) (ap suc (code_in a))
