use mathlib.Core.Path.{refl}
use Rattle.inbox.proofs.Arrays.{darts_start, darts_more, darts_stop, darts_end}
use native.Mathlib.Omega.{arith}
use Rattle.inbox.proofs.faces.read_darts.Goals as goal

pub loop-i-init : goal.loop-i-init
loop-i-init c =
    darts_start c.requires.0 c.requires.2

pub returns-in_err-x : goal.returns-in_err-x
returns-in_err-x c =
    rw c.from_residual.ensures (
    darts_stop c.requires.1 c.loop-i.invariant c.in_err-x.was (omega (arith, c.loop-i-test.true)) c.read_dart.ensures)

pub loop-i-preserved : goal.loop-i-preserved
loop-i-preserved c =
    darts_more c.requires.1 c.loop-i.invariant c.in_ok-x.was (omega (arith, c.loop-i-test.true)) c.read_dart.ensures

pub returns : goal.returns
returns c =
    darts_end c.requires.1 c.loop-i.invariant refl (omega (arith, c.loop-i-test.false))
