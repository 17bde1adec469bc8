-- From what a call gives to what goes through a C name. Assumes nothing.
--   told_served, told_refused    the number and the bytes written, by the answer's case
--   numbered, counted            these, and what was lent, are the model's
--   five_words                   the first five words of an answer, stored
--   level_told, blocked_told, move_told, move_refused    the number and the words of next move, by the answer's case
--   not_sized, moved             a no to the size of the answer, and all else
--   putting-*, put_all           the loop that puts the surpluses
use Rattle.std.specs.Prelude.{Err, Ok}
use mathlib.Core.Path.{◌≡◌, refl, sym, ap, ◌∙◌}
use mathlib.Core.Bool.{true, false}
use mathlib.Core.List.{List, [], ◌∷◌, map}
use mathlib.Core.Logic.{⊎_elim}
use Prim.Native.Nat.{ℕ, ◌+◌, ◌-◌, ◌<◌, ◌≤◌}
use native.Mathlib.Omega.{arith}
use lib.Dec.{ltb, eqb}
use lib.IntN.{ℤ, pos}
use lib.ListN.{length, get_or, set, take, drop, length-set, length-append, length-map, get_or-append, get_or-map}
use lib.Seq.{ext_get_or, length-take-le, get_or-take, get_or-append-add, get_or-set_same, get_or-set_other}
use borrow.Author.Tests.{ltb-true, ltb-false, eq-eqb, ne_eqb}
use Rattle.model.specs.Balance as balance
use Rattle.model.specs.Calls.{Answer, Result, number_of, signed_word}
use Rattle.laws.proofs.Tests.{by_cases, last_or_below}
use Rattle.answers.specs.Answers.{OrRefused, question, written_of, Gives}
use Rattle.balance.specs.Answer.{answer_with, balance_told, GivesBalance}
use Rattle.balance.specs.declared.nextmove.Balance.{Balance}
use Rattle.answers.specs.declared.NextMove.{NextMove}
use Rattle.answers.specs.declared.NextMove.TheVariants as next
use Rattle.answers.specs.declared.Refusal.{Refusal}
use Rattle.dmap.specs.CInterface.{AnswerNumbered, CountWritten, WrittenCounted, written_over, answer_words, sized_first, balance_over, ToldBalance, Moved, with_surpluses}

pub told_served : {w : OrRefused ℕ} {before n : ℕ} → w ≡ Ok n → CountWritten (written_of w) before 0 n
told_served {before = b} e = record {
  number_is = sym (ap (λ x. number_of (written_of x)) e);
  written_is = sym (ap (λ x. written_over b (written_of x)) e);
}

pub told_refused : {w : OrRefused ℕ} {before number : ℕ} {r : Refusal} → w ≡ Err r → number ≡ question r → CountWritten (written_of w) before number before
told_refused {before = b} e q = record {
  number_is = q ∙ sym (ap (λ x. number_of (written_of x)) e);
  written_is = sym (ap (λ x. written_over b (written_of x)) e);
}

pub numbered : {result : Result (Unit {0})} {given : Answer (Unit {0})} {number : ℕ} {lent : List ℕ} → number ≡ number_of given → Gives result given lent → AnswerNumbered result number lent
numbered e g = record { number_is = e ∙ ap number_of g.answer; left = g.left }

pub counted : {result : Result ℕ} {given : Answer ℕ} {before number written : ℕ} {lent : List ℕ} → CountWritten given before number written
    → Gives result given lent → WrittenCounted result before number lent written
counted {before = b} t g = record {
  told = record { number_is = t.number_is ∙ ap number_of g.answer; written_is = t.written_is ∙ ap (written_over b) g.answer };
  left = g.left;
}

-- NEXT MOVE
pub five_words : (l : List ℕ) (a b c d e : ℕ) → length l ≡ answer_words → set (set (set (set (set l 0 a) 1 b) 2 c) 3 d) 4 e ≡ a ∷ b ∷ c ∷ d ∷ e ∷ drop 5 l
five_words [] a b c d e h = absurd (omega (arith, h))
five_words (x ∷ []) a b c d e h = absurd (omega (arith, h))
five_words (x ∷ y ∷ []) a b c d e h = absurd (omega (arith, h))
five_words (x ∷ y ∷ z ∷ []) a b c d e h = absurd (omega (arith, h))
five_words (x ∷ y ∷ z ∷ w ∷ []) a b c d e h = absurd (omega (arith, h))
five_words (x ∷ y ∷ z ∷ w ∷ v ∷ l) a b c d e h = refl

module _ {n : NextMove} (m : ℕ) (ss : List ℤ) {before words : List ℕ} where
  pub level_told : n ≡ next.Level → words ≡ 0 ∷ 0 ∷ 0 ∷ 0 ∷ m ∷ map signed_word ss → ToldBalance (answer_with n m ss) before 0 words
  unfolding answer_with
  level_told e w = record {
    number_is = sym (ap (λ x. number_of (answer_with x m ss)) e);
    words_are = w ∙ sym (ap (λ x. balance_over before (answer_with x m ss)) e);
  }

  pub blocked_told : n ≡ next.Blocked → words ≡ 1 ∷ 0 ∷ 0 ∷ 0 ∷ m ∷ map signed_word ss → ToldBalance (answer_with n m ss) before 0 words
  unfolding answer_with
  blocked_told e w = record {
    number_is = sym (ap (λ x. number_of (answer_with x m ss)) e);
    words_are = w ∙ sym (ap (λ x. balance_over before (answer_with x m ss)) e);
  }

  pub move_told : {d r s : ℕ} → n ≡ next.Move d r s → words ≡ 2 ∷ d ∷ r ∷ s ∷ m ∷ map signed_word ss → ToldBalance (answer_with n m ss) before 0 words
  unfolding answer_with
  move_told e w = record {
    number_is = sym (ap (λ x. number_of (answer_with x m ss)) e);
    words_are = w ∙ sym (ap (λ x. balance_over before (answer_with x m ss)) e);
  }

  pub move_refused : {number : ℕ} {r : Refusal} → n ≡ next.Refused r → number ≡ question r → words ≡ before → ToldBalance (answer_with n m ss) before number words
  unfolding answer_with
  move_refused e q w = record {
    number_is = q ∙ sym (ap (λ x. number_of (answer_with x m ss)) e);
    words_are = w ∙ sym (ap (λ x. balance_over before (answer_with x m ss)) e);
  }

pub not_sized : (words scratch : List ℕ) (result : Result balance.Balance) → (length words ≡ answer_words → ⊥) → Moved (sized_first words scratch result) words 1 scratch words
unfolding sized_first
not_sized words scratch result h =
    let e : eqb (length words) answer_words ≡ false = ne_eqb (length words) answer_words h in
    record { told = record { number_is = rw e refl; words_are = rw e refl }; left = rw e refl }

pub moved : (words scratch : List ℕ) {result : Result balance.Balance} {b : Balance} {number : ℕ}
    {lent after : List ℕ} → length words ≡ answer_words → ToldBalance (balance_told b) words number after → GivesBalance result b lent
    → Moved (sized_first words scratch result) words number lent after
unfolding sized_first
moved words scratch h t g =
    let e : eqb (length words) answer_words ≡ true = eq-eqb (length words) answer_words h in
    rw e (record { told = record { number_is = t.number_is ∙ ap number_of g.answer; words_are = t.words_are ∙ ap (balance_over words) g.answer }; left = g.left })

from_five : (j : ℕ) → 5 ≤ j → j ≡ 5 + (j - 5)
from_five j a = omega arith

-- the first five words, then the surpluses
pub words_then : (ss : List ℤ) {first kept all : List ℕ} {kind donor recipient serial mean : ℕ} → first ≡ kind ∷ donor ∷ recipient ∷ serial ∷ mean ∷ kept → all ≡ with_surpluses first ss
    → all ≡ kind ∷ donor ∷ recipient ∷ serial ∷ mean ∷ map signed_word ss
words_then ss e f = f ∙ ap (λ (l : List ℕ). with_surpluses l ss) e

-- THE LOOP over surpluses: those before i stand behind the first five words
pub record Putting (before : List ℕ) (ss : List ℤ) (l : List ℕ) (i : ℕ) : Type 0 where
  pub i_le : i ≤ 16
  pub size : length l ≡ answer_words
  pub put : (j : ℕ) → j < i → get_or l (5 + j) 0 ≡ signed_word (get_or ss j (pos 0))
  pub first : (j : ℕ) → j < 5 → get_or l j 0 ≡ get_or before j 0

pub putting_start : (before : List ℕ) (ss : List ℤ) → length before ≡ answer_words → Putting before ss before 0
putting_start before ss h = record { i_le = omega arith; size = h; put = λ j l. absurd (omega arith); first = λ j l. refl }

pub putting_next : {before : List ℕ} {ss : List ℤ} {l : List ℕ} {i : ℕ} → Putting before ss l i → i < 16 → {x : ℕ} → x ≡ signed_word (get_or ss i (pos 0)) → Putting before ss (set l (5 + i) x) (i + 1)
putting_next {before} {ss} {l} {i} w h {x} e = record {
  i_le = omega arith;
  size = simp length-set w.size;
  put = λ j q. ⊎_elim
      (λ same. ap (λ (y : ℕ). get_or (set l (5 + i) x) (5 + y) 0) same ∙ get_or-set_same l (5 + i) x 0 (omega (arith, w.size)) ∙ e ∙ ap (λ (y : ℕ). signed_word (get_or ss y (pos 0))) (sym same))
      (λ below. get_or-set_other l (5 + i) (5 + j) x 0 (λ same. omega arith) ∙ w.put j below)
      (last_or_below q);
  first = λ j q. get_or-set_other l (5 + i) j x 0 (λ same. omega arith) ∙ w.first j q;
}

pub put_all : {before : List ℕ} {ss : List ℤ} {l : List ℕ} {i : ℕ} → Putting before ss l i → 16 ≤ i → length before ≡ answer_words → length ss ≡ 16 → l ≡ with_surpluses before ss
put_all {before} {ss} {l} {i} w h size n = ext_get_or 0 l (with_surpluses before ss) (w.size ∙ sym lengths) (λ j q. by_cases (ltb j 5) (λ e. early j (ltb-true j 5 e)) (λ e. late j (ltb-false j 5 e) (omega (arith, q, w.size))))
  where
    five : length (take 5 before) ≡ 5
    five = length-take-le 5 before (omega (arith, size))

    lengths : length (with_surpluses before ss) ≡ answer_words
    lengths = length-append (take 5 before) (map signed_word ss) ∙ (let a = five in let b = length-map ss signed_word in omega (arith, a, b, n))

    early : (j : ℕ) → j < 5 → get_or l j 0 ≡ get_or (with_surpluses before ss) j 0
    early j q = w.first j q ∙ sym (get_or-append (take 5 before) (map signed_word ss) 0 j (omega (arith, q, five)) ∙ get_or-take 5 before j 0 q)

    late : (j : ℕ) → 5 ≤ j → j < 21 → get_or l j 0 ≡ get_or (with_surpluses before ss) j 0
    late j a b =
        let p = from_five j a in
        ap (λ (y : ℕ). get_or l y 0) p ∙ w.put (j - 5) (omega (arith, a, b, h)) ∙ sym (get_or-map signed_word ss (j - 5) (pos 0))
        ∙ sym (get_or-append-add (take 5 before) (map signed_word ss) (j - 5) 0) ∙ ap (λ (y : ℕ). get_or (with_surpluses before ss) (y + (j - 5)) 0) five
        ∙ ap (λ (y : ℕ). get_or (with_surpluses before ss) y 0) (sym p)
