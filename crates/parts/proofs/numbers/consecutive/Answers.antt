use Prim.Native.Nat.{◌-◌}
use mathlib.Core.Path.{sym, ◌∙◌}
use Rattle.parts.specs.Numbers.{follows_at}
use Rattle.arrival.proofs.Steps.{passing_none, passing_more, passing_all, passing_not}
use native.Mathlib.Omega.{arith}
use Rattle.parts.proofs.numbers.consecutive.Goals as goal

pub loop-e-init : goal.loop-e-init
loop-e-init c =
    (passing_none _, omega arith)

pub returns-then-not-follows : goal.returns-then-not-follows
returns-then-not-follows c =
    passing_not (follows_at c.args.numbers.now) c.loop-e.e (c.args.c - 1) (omega arith) (sym c.follows.ensures ∙ c.if-not-follows.true)

pub loop-e-preserved : goal.loop-e-preserved
loop-e-preserved c =
    (passing_more c.loop-e.invariant.0 (sym c.follows.ensures ∙ c.if-not-follows.false), omega arith)

pub returns : goal.returns
returns c =
    passing_all {k = c.args.c - 1} c.loop-e.invariant.0 (omega arith)
