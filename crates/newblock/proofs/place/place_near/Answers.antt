-- `newblock::place::place_near` meets its contract: the guess, both hints, the lookup and no place at all are the serial's index.
-- Assumes nothing.
use Rattle.std.proofs.Common.{rules}
use Rattle.newblock.proofs.Resolving.{place_is, place_or}
use Rattle.newblock.proofs.place.place_near.Goals as goal

pub returns-then-stands_at : goal.returns-then-stands_at
returns-then-stands_at c =
    let found = c.stands_at.ensures c.if-stands_at.true in
    place_is _ _ _ c.requires.1 _ found.0 found.1

pub returns-then-stands_at-2 : goal.returns-then-stands_at-2
returns-then-stands_at-2 c =
    let found = c.stands_at-2.ensures c.if-stands_at-2.true in
    place_is _ _ _ c.requires.1 _ found.0 found.1

pub returns-then-stands_at-3 : goal.returns-then-stands_at-3
returns-then-stands_at-3 c =
    let found = c.stands_at-3.ensures c.if-stands_at-3.true in
    place_is _ _ _ c.requires.1 _ found.0 found.1

pub returns : goal.returns
returns c =
    place_or _ _ _ c.requires.1 c.place_of.result c.place_of.ensures c.map_or.ensures (λ p e. search rules)
