-- `rebalance::moves::put_move` meets its contract: three stores, one for each number. Assumes nothing.
use lib.ListN.{length-set}
use native.Mathlib.Omega.{arith}
use Rattle.rebalance.proofs.moves.put_move.Goals as goal

pub bounds-moves-at-2 : goal.bounds-moves-at-2
bounds-moves-at-2 c =
    simp length-set (omega arith)

pub bounds-moves-at-3 : goal.bounds-moves-at-3
bounds-moves-at-3 c =
    simp length-set (omega arith)

pub returns : goal.returns
returns c =
    rw (c.from.ensures, c.from-2.ensures)
