use Rattle.readfile.proofs.Storing.{fill_start, fill_more, fill_fails, fill_ends}
use native.Mathlib.Omega.{arith}
use Rattle.readfile.proofs.raw.read_darts.Goals as goal

pub loop-i-init : goal.loop-i-init
loop-i-init c =
    fill_start _ _ _ _ c.requires.0

pub returns-in_err-serial : goal.returns-in_err-serial
returns-in_err-serial c =
    rw c.from_residual.ensures (fill_fails c.loop-i.invariant c.loop-i-test.true (rw c.in_err-serial.was at c.store_dart.ensures))

pub loop-i-preserved : goal.loop-i-preserved
loop-i-preserved c =
    fill_more c.loop-i.invariant c.loop-i-test.true (omega arith) (rw c.in_ok-serial.was at c.store_dart.ensures)

pub returns : goal.returns
returns c =
    fill_ends c.loop-i.invariant c.loop-i-test.false
