use lib.ListN.{get_or}
use Rattle.arrival.specs.Draft.{is_new}
use Rattle.arrival.proofs.Eighteen.{told_old, told_new}
use Rattle.arrival.proofs.Steps.{passing_none, passing_more, passing_all, passing_not}
use native.Mathlib.Omega.{arith}
use Rattle.arrival.proofs.serials.all_new.Goals as goal

pub loop-i-init : goal.loop-i-init
loop-i-init c =
    (omega arith, passing_none _)

pub gap_of-requires : goal.gap_of-requires
gap_of-requires c =
    (c.requires.0, c.requires.1, c.requires.2, c.requires.3, c.requires.4, c.requires.6 c.loop-i.i c.loop-i-test.true, c.loop-i.invariant.0)

pub returns-in_default : goal.returns-in_default
returns-in_default c =
    let serial = c.args.serial.now in
    let block = c.args.block.now in
    let k = c.args.k in
    passing_not (λ j. is_new block (get_or serial j 0)) c.loop-i.i k (omega arith) (told_old c.gap_of.ensures c.in_default.is)

pub loop-i-preserved : goal.loop-i-preserved
loop-i-preserved c =
    let new = told_new c.gap_of.ensures c.in-Some.is in
    (new.1, passing_more c.loop-i.invariant.1 new.0)

pub returns : goal.returns
returns c =
    passing_all {k = c.args.k} c.loop-i.invariant.1 (omega arith)
