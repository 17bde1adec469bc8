use mathlib.Core.Path.{refl}
use Rattle.rebalance.proofs.Moving.{none_moved, one_moved, last_step, last_asked}
use Rattle.rebalance.proofs.moves.balance.Goals as goal

pub loop-n-init : goal.loop-n-init
loop-n-init c =
    none_moved _ _ _ _ _ _

pub loop-n-preserved : goal.loop-n-preserved
loop-n-preserved c =
    one_moved c.loop-n.invariant c.loop-n-test.true c.step.ensures _ _ _ _ c.in-Moved.is c.put_move.ensures

pub returns-in-Level : goal.returns-in-Level
returns-in-Level c =
    last_step c.loop-n.invariant c.loop-n-test.true c.step.ensures _ c.in-Level.is _ (λ a b r. refl) refl

pub returns-in-Blocked : goal.returns-in-Blocked
returns-in-Blocked c =
    last_step c.loop-n.invariant c.loop-n-test.true c.step.ensures _ c.in-Blocked.is _ (λ a b r. refl) refl

pub returns-in-Unfinished : goal.returns-in-Unfinished
returns-in-Unfinished c =
    last_step c.loop-n.invariant c.loop-n-test.true c.step.ensures _ c.in-Unfinished.is _ (λ a b r. refl) refl

pub returns-in-Refused : goal.returns-in-Refused
returns-in-Refused c =
    last_step c.loop-n.invariant c.loop-n-test.true c.step.ensures _ c.in-Refused.is _ (λ a b r. refl) refl

pub returns : goal.returns
returns c =
    last_asked c.loop-n.invariant c.loop-n-test.false _ c.ask.ensures
