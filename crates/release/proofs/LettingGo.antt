-- What the questions leave labelling and taking out with, and the call's answers. Assumes nothing.
use mathlib.Core.Path.{◌≡◌, refl, sym, ◌∙◌, subst, ap}
use mathlib.Core.Bool.{true, false}
use mathlib.Core.List.{List, [], ◌++◌}
use Prim.Native.Nat.{ℕ, ◌+◌, ◌*◌, ◌-◌, ◌<◌, ◌^◌}
use native.Mathlib.Omega.{arith}
use lib.ListN.{length, get_or, drop, replicate}
use borrow.Author.Tests.{eq-eqb, ne_eqb}
use Rattle.model.specs.Values.{Limits}
use Rattle.model.specs.Image.{words_for, words_of, image, is_image, block_in, holds_block, memory_checks}
use Rattle.model.specs.Departure.{departure_checks, released}
use Rattle.model.specs.Calls.{Answer, served, refused, storing, release}
use Rattle.columns.proofs.Thirds.{kind_one}
use Rattle.answers.specs.Answers.{Gives, answered}
use Rattle.answers.proofs.Questions.{Asks, gives, ask_no, ask_yes, ask_end, ask_all, ask_first}
use Rattle.columns.proofs.ThirdLinks.{same_kind}
use Rattle.columns.proofs.Question.{Passed, image_passed}
use Rattle.cells.proofs.FaceSerials.{closed_next}
use Rattle.cells.proofs.Sited.{Sited, sited}
use Rattle.departure.specs.Asked.{Departs}
use Rattle.departure.specs.declared.Counts.{Counts}
use Rattle.release.specs.LetGo.{with_links, let_go, left_behind, without, released_at}
use Rattle.release.proofs.PutLinks.{length_links, header_stays, column_stays}
use Rattle.release.proofs.CutFaces.{sewn, away}
use Rattle.release.proofs.ReleasedImage.{none_within, sewn_after, rest_after, released_image}
use Rattle.release.specs.Asks.{Sewing, Bounded}

module _ (m : List ℕ) (ok : holds_block m ≡ true) (j d : ℕ) {most : ℕ} {c : Counts} {marks out starts numbers firsts : List ℕ} (w : Departs most m j d c marks out starts numbers firsts) where
  abbrev site : Sited m
  site = sited m ok

  abbrev pass : Passed m
  pass = image_passed m ok

  abbrev p : ℕ
  p = w.survey.place

  abbrev n : ℕ
  n = get_or m 2 0

  -- LABELLING
  pub sewing : Sewing m marks n
  sewing = record {
    size = site.linked.size;
    few = site.linked.few;
    number_small = pass.range.number_small;
    next_within = site.linked.next_within;
    next_apart = site.linked.next_apart;
    closed = closed_next site.linked w.survey.place_below w.survey.volume_marked;
    along = λ q h i. same_kind m n q (pass.thirds q h);
    kinds = λ q h i e. kind_one (pass.range.kinds q h) (eq-eqb _ _ e);
    away =
        λ q h i e.
        ((sewn site pass p w.survey.place_below w.survey.volume_marked q h e).sewn_lt, away site pass p w.survey.place_below w.survey.volume_marked (none_within m ok j d w) q h i e);
  }

  pub labels_fit : get_or m 1 0 + length (let_go m marks) < 2 ^ 32
  labels_fit = omega (arith, w.counter_fits, w.survey.sewn_is)

  -- TAKING OUT
  abbrev labelled : List ℕ
  labelled = with_links m (left_behind m marks j)

  count_same : get_or labelled 2 0 ≡ n
  count_same = header_stays m (left_behind m marks j) 2 (omega arith)

  pub count_left : {x : List ℕ} → x ≡ labelled → get_or x 2 0 ≡ n
  count_left e = ap (λ (x : List ℕ). get_or x 2 0) e ∙ count_same

  bounded_first : Bounded labelled n
  bounded_first = record {
    size = omega (arith, length_links m (left_behind m marks j), site.linked.size);
    few = site.linked.few;
    next_lt = λ q h. omega (arith, column_stays m (left_behind m marks j) q 1 (omega arith) (λ e. omega arith) (λ e. omega arith), site.linked.next_within q h);
    opposite_lt = λ q h. omega (arith, column_stays m (left_behind m marks j) q 2 (omega arith) (λ e. omega arith) (λ e. omega arith), site.linked.opposite_within q h);
    sewn_lt = sewn_after site pass p w.survey.place_below w.survey.volume_marked (none_within m ok j d w) j;
  }

  pub bounded : {x : List ℕ} → x ≡ labelled → Bounded x (get_or x 2 0)
  bounded e = subst (λ (x : List ℕ). Bounded x (get_or x 2 0)) (sym e) (subst (Bounded labelled) (sym count_same) bounded_first)

  pub rest_zero : {x : List ℕ} → x ≡ labelled → drop (8 + get_or x 2 0 * 8) x ≡ replicate (length x - words_for (get_or x 2 0)) 0
  rest_zero e = subst (λ (x : List ℕ). drop (8 + get_or x 2 0 * 8) x ≡ replicate (length x - words_for (get_or x 2 0)) 0) (sym e)
      (subst (λ (k : ℕ). drop (8 + k * 8) labelled ≡ replicate (length labelled - words_for k) 0) (sym count_same)
      (rest_after site pass p w.survey.place_below w.survey.volume_marked (none_within m ok j d w) j))

  pub all_gone : {x y : List ℕ} → x ≡ labelled → y ≡ without x marks (get_or m 1 0 + c.sewn) → y ≡ released_at m marks j
  unfolding released_at
  all_gone e f = f ∙ (λ i. without (e i) marks (get_or m 1 0 + w.survey.sewn_is i))

-- THE ANSWERS, by any limits
module _ (m : List ℕ) (j s : ℕ) (lim : Limits) where
  pub size_refused : (length m ≡ words_of lim → ⊥) → Gives (release lim m j s) (refused 1) m
  unfolding release storing memory_checks
  size_refused h = gives _ _ _ _ (ask_no refl (ne_eqb (length m) (words_of lim) h) refl)

  pub image_refused : length m ≡ words_of lim → is_image lim m ≡ false → Gives (release lim m j s) (refused 2) m
  unfolding release storing memory_checks
  image_refused size h = gives _ _ _ _ (ask_yes (eq-eqb (length m) (words_of lim) size) (ask_no refl h refl))

  module _ (size : length m ≡ words_of lim) (ok : is_image lim m ≡ true) where
    -- 1 and 2 before
    block_given : {given : Answer (Unit {0})} {lent : List ℕ}
        → Asks (departure_checks lim.volume_darts (block_in m) j s ++ []) m tt (image (words_of lim) (released (block_in m) j s)) given lent
        → Gives (release lim m j s) given lent
    unfolding release storing memory_checks departure_checks
    block_given a = gives _ _ _ _ (ask_yes (eq-eqb (length m) (words_of lim) size) (ask_yes ok a))

    pub volume_refused : {q : ℕ} → refused q ≡ answered (departure_checks lim.volume_darts (block_in m) j s) → Gives (release lim m j s) (refused q) m
    volume_refused e = block_given (ask_first (departure_checks lim.volume_darts (block_in m) j s) [] e refl)

    pub volume_released : {c : Counts} {marks out starts numbers firsts y : List ℕ} → holds_block m ≡ true → Departs lim.volume_darts m j s c marks out starts numbers firsts
        → y ≡ released_at m marks j → Gives (release lim m j s) (served tt) y
    volume_released sound w e =
        block_given (ask_all (departure_checks lim.volume_darts (block_in m) j s) [] (unfold departure_checks in refl) w.asked
        (ask_end (e ∙ sym (released_image m sound j s w) ∙ ap (λ (k : ℕ). image k (released (block_in m) j s)) size)))
