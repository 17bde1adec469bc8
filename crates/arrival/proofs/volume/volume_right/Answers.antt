-- `arrival::volume::volume_right` meets its contract.
-- Assumes nothing.
use mathlib.Core.Path.{sym, ◌∙◌}
use mathlib.Core.Bool.{true≢false}
use Rattle.arrival.proofs.DraftLaws.{links}
use Rattle.arrival.proofs.Nineteen.{segs, small, hollow_no, order_no, order_yes, fit_no, paired_no, paired_yes, draftable, draft_of, volume_no, numbers_tell}
use native.Mathlib.Omega.{arith}
use Rattle.arrival.proofs.volume.volume_right.Goals as goal

pub returns-then-hollow : goal.returns-then-hollow
returns-then-hollow c =
    record { answer = (λ t w. hollow_no w c.if-hollow.true); drafted = (λ y. absurd (true≢false (sym y))); unmarked = c.requires.k_in_bounds_2.6 }

pub ordered-requires : goal.ordered-requires
ordered-requires c =
    (c.requires.k_in_bounds.1, c.requires.k_in_bounds.2, (segs c.requires.ranked.2.1).start_le)

pub returns-then-not-ordered : goal.returns-then-not-ordered
returns-then-not-ordered c =
    record {
      answer = (λ t w. order_no w (sym c.ordered.ensures ∙ c.if-not-ordered.true));
      drafted = (λ y. absurd (true≢false (sym y)));
      unmarked = c.requires.k_in_bounds_2.6;
    }

pub vertices_fit-requires : goal.vertices_fit-requires
vertices_fit-requires c =
    c.requires.k_in_bounds.0

pub returns-then-not-vertices_fit : goal.returns-then-not-vertices_fit
returns-then-not-vertices_fit c =
    record {
      answer = (λ t w. fit_no w (sym c.vertices_fit.ensures ∙ c.if-not-vertices_fit.true));
      drafted = (λ y. absurd (true≢false (sym y)));
      unmarked = c.requires.k_in_bounds_2.6;
    }

pub paired-requires : goal.paired-requires
paired-requires c =
    let told = c.requires.ranked.2.1 in
    let lent = c.requires.k_in_bounds_2 in
    record {
      k_in_bounds = (
        c.requires.k_in_bounds.0,
        c.requires.k_in_bounds.2,
        c.requires.k_in_bounds.3,
        c.requires.k_in_bounds.6,
        told.some_darts,
        told.few,
      );
      k_in_bounds_2 = (lent.2, lent.3, lent.4, lent.0);
      segments = (segs told, small told (sym c.vertices_fit.ensures ∙ c.if-not-vertices_fit.false));
    }

pub returns-then-not-paired : goal.returns-then-not-paired
returns-then-not-paired c =
    record {
      answer = (λ t w. paired_no w (sym c.vertices_fit.ensures ∙ c.if-not-vertices_fit.false) c.paired.ensures c.if-not-paired.true);
      drafted = (λ y. absurd (true≢false (sym y)));
      unmarked = c.requires.k_in_bounds_2.6;
    }

pub put_draft-requires : goal.put_draft-requires
put_draft-requires c =
    record {
      k_in_bounds = (
        c.requires.k_in_bounds.0,
        c.requires.k_in_bounds.2,
        c.requires.k_in_bounds.3,
        c.requires.k_in_bounds.4,
        c.requires.k_in_bounds.5,
        omega (arith, c.paired.auto, c.requires.k_in_bounds.6),
        c.requires.k_in_bounds.7,
      );
      draftable = draftable c.requires.ranked.2.1 (sym c.vertices_fit.ensures ∙ c.if-not-vertices_fit.false) c.requires.ranked.0 c.paired.ensures
          c.if-not-paired.false c.requires.ranked.1;
    }

pub rank_at-first-requires : goal.rank_at-first-requires
rank_at-first-requires c =
    omega (arith, c.requires.k_in_bounds.5, c.requires.ranked.2.1.some_darts)

pub one_volume-requires : goal.one_volume-requires
one_volume-requires c = (
  links
      (draft_of c.requires.ranked.2.1 (sym c.vertices_fit.ensures ∙ c.if-not-vertices_fit.false) c.requires.ranked.0 c.paired.ensures
      c.if-not-paired.false c.put_draft.ensures),
  omega (arith, c.rank_at-first.ensures, c.requires.ranked.0.rank_below 0 c.requires.ranked.2.1.some_darts),
  omega (arith, c.paired.auto, c.requires.k_in_bounds_2.0),
  c.requires.k_in_bounds_2.5,
  c.requires.k_in_bounds_2.6,
)

pub returns-then-not-one_volume : goal.returns-then-not-one_volume
returns-then-not-one_volume c =
    let vertices-fit-yes = sym c.vertices_fit.ensures ∙ c.if-not-vertices_fit.false in
    record {
      answer = (λ t w. volume_no w vertices-fit-yes
          (draft_of w vertices-fit-yes c.requires.ranked.0 c.paired.ensures c.if-not-paired.false c.put_draft.ensures)
          c.rank_at-first.ensures (sym c.one_volume.ensures.answer ∙ c.if-not-one_volume.true));
      drafted = (λ y. absurd (true≢false (sym y)));
      unmarked = c.one_volume.ensures.unmarked;
    }

pub numbered-requires : goal.numbered-requires
numbered-requires c = (
  links
      (draft_of c.requires.ranked.2.1 (sym c.vertices_fit.ensures ∙ c.if-not-vertices_fit.false) c.requires.ranked.0 c.paired.ensures
      c.if-not-paired.false c.put_draft.ensures),
  c.requires.k_in_bounds.0,
  c.requires.k_in_bounds.5,
  c.requires.ranked.2.1.few,
  c.requires.ranked.0.rank_below,
  omega (arith, c.one_volume.auto, c.paired.auto, c.requires.k_in_bounds_2.0),
  c.requires.k_in_bounds_2.1,
)

pub shape_of-opposite : goal.shape_of-opposite
shape_of-opposite c =
    omega (arith, c.paired.auto)

pub shape_of-pairs : goal.shape_of-pairs
shape_of-pairs c =
    omega (arith, c.paired.auto)

pub shape_of-sorted : goal.shape_of-sorted
shape_of-sorted c =
    omega (arith, c.paired.auto)

pub returns : goal.returns
returns c =
    let vertices-fit-yes = sym c.vertices_fit.ensures ∙ c.if-not-vertices_fit.false in
    record {
      answer = (λ t w. c.numbered.ensures.result ∙ numbers_tell w vertices-fit-yes
          (draft_of w vertices-fit-yes c.requires.ranked.0 c.paired.ensures c.if-not-paired.false c.put_draft.ensures)
          c.rank_at-first.ensures c.requires.k_in_bounds.5 c.numbered.ensures.numbered
          (order_yes w c.if-hollow.false (sym c.ordered.ensures ∙ c.if-not-ordered.false))
          (paired_yes w vertices-fit-yes c.requires.ranked.0 c.paired.ensures c.if-not-paired.false)
          (sym c.one_volume.ensures.answer ∙ c.if-not-one_volume.false));
      drafted = (λ y. draft_of c.requires.ranked.2.1 vertices-fit-yes c.requires.ranked.0 c.paired.ensures c.if-not-paired.false c.put_draft.ensures);
      unmarked = c.one_volume.ensures.unmarked;
    }
