-- `balance::next_by` meets its contract. Assumes nothing.
use mathlib.Core.Path.{refl, ◌∙◌}
use Rattle.model.specs.Values.{room}
use Rattle.oracle.specs.Oracle.{oracle_of}
use Rattle.cells.proofs.Resets.{zeros_long}
use Rattle.cells.proofs.Sited.{sited}
use Rattle.mesh.specs.Parts.{part}
use Rattle.balance.proofs.MovesLaws.{least_small, nobody_gives, somebody_gives}
use Rattle.balance.proofs.next_by.Goals as goal

pub some_gives-requires : goal.some_gives-requires
some_gives-requires c =
    (c.requires.0.few, least_small c.requires.0 c.requires.1 c.least-low.ensures)

pub returns-then-not-some_gives : goal.returns-then-not-some_gives
returns-then-not-some_gives c =
    nobody_gives c.args.viewers (oracle_of c.args.o) c.args.mesh.now c.requires.1 c.least-low.ensures c.some_gives.ensures c.if-not-some_gives.true

pub first_move-requires : goal.first_move-requires
first_move-requires c =
    let mesh = c.args.mesh.now in
    (c.requires.0, c.requires.1, c.least-low.ensures, λ i h. zeros_long _ room refl (sited (part mesh i) (c.requires.0.image i h)).linked.few)

pub returns : goal.returns
returns c =
    c.first_move.ensures ∙ somebody_gives c.args.viewers (oracle_of c.args.o) c.args.mesh.now c.requires.1 c.least-low.ensures c.some_gives.ensures
    c.if-not-some_gives.false
