-- `pairing::tested` meets its contract.
-- Assumes nothing.
use Rattle.pairing.proofs.ByNumber.{held_keys}
use Rattle.pairing.proofs.Decides.{unpaired, apart, right}
use Rattle.pairing.proofs.tested.Goals as goal

pub labels-requires : goal.labels-requires
labels-requires c =
    (c.requires.0, c.requires.1, held_keys c.requires.0 c.requires.2)

pub returns-then-not-labels : goal.returns-then-not-labels
returns-then-not-labels c =
    unpaired c.requires.0 c.requires.1 c.requires.2 c.labels.ensures c.if-not-labels.true

pub points-requires : goal.points-requires
points-requires c =
    (c.requires.0, held_keys c.requires.0 c.requires.2)

pub returns-then-not-points : goal.returns-then-not-points
returns-then-not-points c =
    apart c.requires.0 c.requires.1 c.requires.2 c.labels.ensures c.if-not-labels.false c.points.ensures c.if-not-points.true

pub returns : goal.returns
returns c =
    right c.requires.0 c.requires.1 c.requires.2 c.labels.ensures c.if-not-labels.false c.points.ensures c.if-not-points.false
