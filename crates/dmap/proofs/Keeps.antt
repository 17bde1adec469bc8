-- A refused call changes nothing that C lent: memory, output, scratch, the count behind `written`, the words of `answer`. Assumes nothing.
use mathlib.Core.Path.{◌≡◌, refl, ◌∙◌}
use mathlib.Core.Logic.{◌≢◌}
use mathlib.Core.List.{List}
use Prim.Native.Nat.{ℕ}
use native.Mathlib.Omega.{arith}
use lib.Dec.{eqb}
use lib.ListN.{length}
use Rattle.model.specs.Values.{Limits, rack, viewer, limits_in}
use Rattle.model.specs.Balance.{Balance}
use Rattle.model.specs.Calls.{Answer, served, refused, Result, number_of}
use Rattle.model.specs.Demands.{Unchanged, Demand1}
use Rattle.laws.proofs.Tests.{by_cases}
use Rattle.theory.proofs.CallLaws.{demand1}
use Rattle.dmap.specs.CInterface.{AnswerNumbered, WrittenCounted, written_over, answer_words, sized_first, balance_over, Moved, BlockKeeps, CKeeps}

module _ {A : Type 0} (before : List ℕ) (result : Result A) (u : Unchanged before result) where
  lent_kept : number_of result.answer ≢ 0 → result.lent ≡ before
  lent_kept h = go result.answer refl h
    where
      go : (a : Answer A) → result.answer ≡ a → number_of a ≢ 0 → result.lent ≡ before
      go (served v) e h = absurd (h refl)
      go (refused n) e h = u.kept n e

-- what stands behind `written`, and the words of `answer`
count_kept : (before : ℕ) (a : Answer ℕ) → number_of a ≢ 0 → written_over before a ≡ before
count_kept before (served v) h = absurd (h refl)
count_kept before (refused n) h = refl

words_kept : (before : List ℕ) (a : Answer Balance) → number_of a ≢ 0 → balance_over before a ≡ before
words_kept before (served v) h = absurd (h refl)
words_kept before (refused n) h = refl

-- by the three shapes that a C call has
numbered_keeps : (before : List ℕ) (result : Result (Unit {0})) → Unchanged before result → (number : ℕ) (lent : List ℕ) → AnswerNumbered result number lent → number ≢ 0 → lent ≡ before
numbered_keeps before result u number lent t h = t.left ∙ lent_kept before result u (λ e. h (t.number_is ∙ e))

counted_keeps : (before : List ℕ) (result : Result ℕ) → Unchanged before result → (old number : ℕ) (lent : List ℕ) (written : ℕ)
    → WrittenCounted result old number lent written → number ≢ 0 → (lent ≡ before) × (written ≡ old)
counted_keeps before result u old number lent written t h =
    let not_served : number_of result.answer ≢ 0 = λ e. h (t.told.number_is ∙ e) in
    (t.left ∙ lent_kept before result u not_served, t.told.written_is ∙ count_kept old result.answer not_served)

moved_keeps : (before : List ℕ) (result : Result Balance) → Unchanged before result → (old : List ℕ) (number : ℕ) (lent words : List ℕ)
    → Moved result old number lent words → number ≢ 0 → (lent ≡ before) × (words ≡ old)
moved_keeps before result u old number lent words t h =
    let not_served : number_of result.answer ≢ 0 = λ e. h (t.told.number_is ∙ e) in
    (t.left ∙ lent_kept before result u not_served, t.told.words_are ∙ words_kept old result.answer not_served)

-- 1 of the answer's size comes first, and leaves the scratch too
sized_unchanged : (words scratch : List ℕ) (result : Result Balance) → Unchanged scratch result → Unchanged scratch (sized_first words scratch result)
unfolding sized_first
sized_unchanged words scratch result u = by_cases (eqb (length words) answer_words)
    (λ e. rw e u)
    (λ e. rw e (record { kept = λ n h. refl; numbered = λ n h z. one_not_zero n h z }))
  where
    one_not_zero : (n : ℕ) → ◌≡◌ {A = Answer Balance} (refused 1) (refused n) → n ≢ 0
    one_not_zero n h z = let q : 1 ≡ n = cc in absurd (one (q ∙ z))
      where
        one : ◌≡◌ {A = ℕ} 1 0 → ⊥
        one e = omega arith

block_keeps : (lim : Limits) → BlockKeeps lim
block_keeps lim =
    let d : Demand1 lim (limits_in 0) = demand1 lim (limits_in 0) in
    record {
      empty_keeps = λ n m. numbered_keeps m _ (d.empty_keeps n m);
      read_file_keeps = λ file m. numbered_keeps m _ (d.read_file_keeps file m);
      save_file_keeps = λ m out. counted_keeps out _ (d.save_file_keeps m out);
      write_pages_keeps = λ m out. counted_keeps out _ (d.write_pages_keeps m out);
      read_pages_keeps = λ pages m. numbered_keeps m _ (d.read_pages_keeps pages m);
      send_keeps = λ m j s outbox. counted_keeps outbox _ (d.send_keeps m j s outbox);
      receive_keeps = λ m message. numbered_keeps m _ (d.receive_keeps m message);
      release_keeps = λ m j s. numbered_keeps m _ (d.release_keeps m j s);
      redirect_keeps = λ m message. numbered_keeps m _ (d.redirect_keeps m message);
    }

pub c_keeps : CKeeps
c_keeps = record {
  rack_keeps = block_keeps rack;
  viewer_keeps = block_keeps viewer;
  check_mesh_keeps = λ mesh viewers scratch. numbered_keeps scratch _ ((demand1 rack (limits_in viewers)).check_mesh_keeps mesh scratch);
  next_move_keeps = λ mesh viewers n axis low high scratch before.
      moved_keeps scratch _ (sized_unchanged before scratch _ ((demand1 rack (limits_in viewers)).numbered_keeps mesh n axis low high scratch)) before;
}
