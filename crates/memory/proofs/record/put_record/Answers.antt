-- `memory::record::put_record` meets its contract: eight stores are a record.
-- Assumes nothing.
use lib.ListN.{length-set}
use Rattle.memory.proofs.Records.{stores_are}
use native.Mathlib.Omega.{arith}
use Rattle.memory.proofs.record.put_record.Goals as goal

pub bounds-block-at-2 : goal.bounds-block-at-2
bounds-block-at-2 c =
    simp length-set (omega arith)

pub bounds-block-at-3 : goal.bounds-block-at-3
bounds-block-at-3 c =
    simp length-set (omega arith)

pub bounds-block-at-4 : goal.bounds-block-at-4
bounds-block-at-4 c =
    simp length-set (omega arith)

pub bounds-block-at-5 : goal.bounds-block-at-5
bounds-block-at-5 c =
    simp length-set (omega arith)

pub bounds-block-at-6 : goal.bounds-block-at-6
bounds-block-at-6 c =
    simp length-set (omega arith)

pub bounds-block-at-7 : goal.bounds-block-at-7
bounds-block-at-7 c =
    simp length-set (omega arith)

pub bounds-block-at-8 : goal.bounds-block-at-8
bounds-block-at-8 c =
    simp length-set (omega arith)

pub returns : goal.returns
returns c =
    stores_are c.args.block.now c.args.p.0 c.args.r.serial c.args.r.next c.args.r.opposite c.args.r.kind c.args.r.link c.args.r.x c.args.r.y
    c.args.r.z (omega arith)
