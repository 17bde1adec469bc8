use Rattle.savefile.proofs.Pieces.{lay_within, lay_more, lay_all}
use Rattle.savefile.proofs.FileBytes.{darts_put}
use native.Mathlib.Omega.{arith}
use Rattle.savefile.proofs.put.put_darts.Goals as goal

pub put_dart-past-requires : goal.put_dart-past-requires
put_dart-past-requires c =
    let bound = rw (darts_put _ _) at c.requires.1 in
    (c.requires.0.each _ c.loop-i-test.true, omega (arith, bound, lay_within c.loop-i.invariant c.loop-i-test.true))

pub loop-i-preserved : goal.loop-i-preserved
loop-i-preserved c =
    lay_more c.loop-i.invariant c.loop-i-test.true c.put_dart-past.ensures

pub returns : goal.returns
returns c =
    rw (darts_put _ _) (lay_all c.loop-i.invariant c.loop-i-test.false)
