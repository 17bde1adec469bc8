-- `arrival::serials::new_serials` meets its contract.
-- Assumes nothing.
use mathlib.Core.Path.{sym, ◌∙◌}
use Rattle.arrival.proofs.Eighteen.{not_finite, not_new, new_ranked}
use native.Mathlib.Omega.{arith}
use Rattle.arrival.proofs.serials.new_serials.Goals as goal

pub returns-then-not-points_finite : goal.returns-then-not-points_finite
returns-then-not-points_finite c =
    not_finite (sym c.points_finite.ensures ∙ c.if-not-points_finite.true)

pub returns-then-not-all_new : goal.returns-then-not-all_new
returns-then-not-all_new c =
    not_new (sym c.points_finite.ensures ∙ c.if-not-points_finite.false) (sym c.all_new.ensures ∙ c.if-not-all_new.true)

pub rank-requires : goal.rank-requires
rank-requires c =
    record {
      le_k = (
        c.requires.k_in_bounds.4,
        c.requires.k_in_bounds.5,
        c.requires.k_in_bounds.0,
        (λ i h. let b = c.requires.k_in_bounds.7 i h in omega (arith, b)),
      );
      k_in_bounds = (c.requires.k_in_bounds.1, c.requires.k_in_bounds.3, c.requires.k_in_bounds.2);
    }

pub returns : goal.returns
returns c =
    new_ranked (sym c.points_finite.ensures ∙ c.if-not-points_finite.false) (sym c.all_new.ensures ∙ c.if-not-all_new.false) c.rank.ensures.answer
    c.rank.ensures.ranked
