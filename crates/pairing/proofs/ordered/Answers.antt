-- `pairing::ordered` meets its contract.
-- Assumes nothing.
use mathlib.Core.Path.{sym, ◌∙◌}
use Rattle.pairing.proofs.Decides.{in_order}
use Rattle.pairing.proofs.ordered.Goals as goal

pub fill-requires : goal.fill-requires
fill-requires c =
    (c.requires.0, c.order.ensures.2 ∙ c.requires.3)

pub front-requires : goal.front-requires
front-requires c =
    let k = in_order c.args.c c.args.keys.now _ c.order.ensures.0 c.order.ensures.1 c.requires.2 c.requires.1 c.requires.4 in
    (c.requires.0, c.fill.ensures, k.0, k.1)

pub shape_of-keys : goal.shape_of-keys
shape_of-keys c =
    c.order.ensures.1

pub shape_of-other : goal.shape_of-other
shape_of-other c =
    c.fill.ensures.len ∙ sym c.requires.3

pub returns : goal.returns
returns c =
    (c.front.ensures, c.order.ensures.1 ∙ c.requires.2)
