-- `arrival::pairs::edge` meets its contract.
-- Assumes nothing.
use Rattle.arrival.proofs.EdgeLaws.{edge_round, edge_kept}
use native.Mathlib.Omega.{arith}
use Rattle.arrival.proofs.pairs.edge.Goals as goal

pub returns-then-c-a : goal.returns-then-c-a
returns-then-c-a c =
    edge_round c.args.a c.args.c c.if-c-a.true

pub returns : goal.returns
returns c =
    edge_kept c.args.a c.args.c (omega (arith, c.if-c-a.false))
