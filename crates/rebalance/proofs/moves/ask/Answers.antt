-- `rebalance::moves::ask` meets its contract, case by case of the next move. Assumes nothing.
use mathlib.Core.Path.{refl}
use Rattle.oracle.specs.Oracle.{oracle_of}
use Rattle.rebalance.proofs.Moving.{asked_as}
use Rattle.rebalance.proofs.moves.ask.Goals as goal

pub returns-in-Level : goal.returns-in-Level
returns-in-Level c =
    asked_as c.args.viewers c.args.mesh.now (oracle_of c.args.o) c.args.scratch.now c.args.n _ c.in-Level.is c.next_move-b.ensures refl refl

pub returns-in-Blocked : goal.returns-in-Blocked
returns-in-Blocked c =
    asked_as c.args.viewers c.args.mesh.now (oracle_of c.args.o) c.args.scratch.now c.args.n _ c.in-Blocked.is c.next_move-b.ensures refl refl

pub returns-in-Move : goal.returns-in-Move
returns-in-Move c =
    asked_as c.args.viewers c.args.mesh.now (oracle_of c.args.o) c.args.scratch.now c.args.n _ c.in-Move.is c.next_move-b.ensures refl refl

pub returns-in-Refused : goal.returns-in-Refused
returns-in-Refused c =
    asked_as c.args.viewers c.args.mesh.now (oracle_of c.args.o) c.args.scratch.now c.args.n _ c.in-Refused.is c.next_move-b.ensures refl refl
