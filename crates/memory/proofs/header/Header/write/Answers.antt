-- `memory::header::Header::write` meets its contract: eight stores are the header's words in front of the rest.
-- Assumes nothing.
use lib.ListN.{length-set}
use Rattle.memory.proofs.Headers.{stores_are}
use native.Mathlib.Omega.{arith}
use Rattle.memory.proofs.header.Header.write.Goals as goal

pub bounds-block-1 : goal.bounds-block-1
bounds-block-1 c =
    simp length-set (omega arith)

pub bounds-block-2 : goal.bounds-block-2
bounds-block-2 c =
    simp length-set (omega arith)

pub bounds-block-3 : goal.bounds-block-3
bounds-block-3 c =
    simp length-set (omega arith)

pub bounds-block-4 : goal.bounds-block-4
bounds-block-4 c =
    simp length-set (omega arith)

pub bounds-block-5 : goal.bounds-block-5
bounds-block-5 c =
    simp length-set (omega arith)

pub bounds-block-6 : goal.bounds-block-6
bounds-block-6 c =
    simp length-set (omega arith)

pub bounds-block-7 : goal.bounds-block-7
bounds-block-7 c =
    simp length-set (omega arith)

pub returns : goal.returns
returns c =
    stores_are c.args.block.now c.args.self.number c.args.self.counter c.args.self.darts c.requires
