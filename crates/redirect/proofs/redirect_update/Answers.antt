-- `redirect::redirect_update` meets its contract: each answer is that of the first question that is answered no.
-- Assumes nothing.
use mathlib.Core.Path.{refl}
use Rattle.cells.proofs.Sited.{sited}
use Rattle.redirect.proofs.Answered.{redirects_elsewhere, redirects_to_an_end, redirects_too_many, redirects_unnamed, redirects_served, rewritten_word}
use native.Mathlib.Omega.{arith}
use Rattle.redirect.proofs.redirect_update.Goals as goal

pub for_here-requires : goal.for_here-requires
for_here-requires c =
    omega (arith, (sited c.args.block.now c.requires.block_value.0).linked.size)

pub returns-then-not-for_here : goal.returns-then-not-for_here
returns-then-not-for_here c =
    redirects_elsewhere _ c.requires.block_value.0 c.for_here.ensures c.if-not-for_here.true

pub returns-then-not-neither : goal.returns-then-not-neither
returns-then-not-neither c =
    redirects_to_an_end _ c.requires.block_value.0 c.for_here.ensures c.if-not-for_here.false c.neither.ensures c.if-not-neither.true

pub bounds-block-2 : goal.bounds-block-2
bounds-block-2 c =
    omega (arith, (sited c.args.block.now c.requires.block_value.0).linked.size)

pub returns-then-darts-u : goal.returns-then-darts-u
returns-then-darts-u c =
    redirects_too_many _ c.requires.block_value.0 c.for_here.ensures c.if-not-for_here.false c.neither.ensures c.if-darts-u.true

pub all_named-requires : goal.all_named-requires
all_named-requires c =
    let few = (sited c.args.block.now c.requires.block_value.0).linked.few in
    record {
      block_value = (
        c.requires.block_value.0,
        refl,
        c.requires.block_value.1.from_small,
        c.requires.block_value.1.labels_within,
        omega (arith, c.if-darts-u.false, few),
      );
      n_in_bounds = (
        c.requires.block_in_bounds.0,
        c.requires.block_in_bounds.1,
        omega (arith, c.if-darts-u.false, c.requires.block_in_bounds.2),
        c.requires.block_in_bounds.3,
      );
      count_in_bounds = (
        omega (arith, c.if-darts-u.false, c.requires.block_in_bounds_2.0),
        omega (arith, c.if-darts-u.false, c.requires.block_in_bounds_2.1),
      );
    }

pub returns-then-not-all_named : goal.returns-then-not-all_named
returns-then-not-all_named c =
    redirects_unnamed _ c.requires.block_value.0 c.for_here.ensures c.if-not-for_here.false c.neither.ensures c.all_named.ensures
    c.if-not-all_named.true

pub critical_with-word-requires : goal.critical_with-word-requires
critical_with-word-requires c =
    omega (arith, c.requires.block_value.1.block_small)

pub rewrite-requires : goal.rewrite-requires
rewrite-requires c =
    let l = (sited c.args.block.now c.requires.block_value.0).linked in
    (l.few, l.size, omega (arith, c.all_named.auto, c.requires.block_in_bounds.0))

pub returns : goal.returns
returns c =
    redirects_served _ c.requires.block_value.0 c.for_here.ensures c.if-not-for_here.false c.neither.ensures c.all_named.ensures
    c.if-not-neither.false c.if-not-all_named.false
    c.requires.block_value.1 (rewritten_word c.critical_with-word.ensures c.rewrite.ensures)
