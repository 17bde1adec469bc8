use mathlib.Core.Path.{◌≡◌}
use Prim.Native.Nat.{◌+◌, ◌-◌}
use Rattle.model.specs.Messages.{label}
use Rattle.codec.proofs.Passing.{label_pass, passing_start, passing_more, passing_stop, passing_end}
use native.Mathlib.Omega.{arith}
use Rattle.codec.proofs.entry.pass_labels.Goals as goal

pub loop-init : goal.loop-init
loop-init c =
    let all : c.args.count - 0 ≡ c.args.count = omega arith in
    rw all (passing_start label c.requires)

pub returns-in_err-code : goal.returns-in_err-code
returns-in_err-code c =
    rw c.from_residual.ensures (passing_stop label c.loop.invariant c.in_err-code.was (omega (arith, c.loop-test.true)) (label_pass _ _ c.read_label.ensures))

pub loop-preserved : goal.loop-preserved
loop-preserved c =
    let less : c.args.count - (c.loop.counter + 1) ≡ c.args.count - c.loop.counter - 1 = omega arith in
    rw less (passing_more label c.loop.invariant c.in_ok-code.was (omega (arith, c.loop-test.true)) (label_pass _ _ c.read_label.ensures))

pub returns : goal.returns
returns c =
    passing_end label c.loop.invariant (omega (arith, c.loop-test.false))
