use Prim.Native.Nat.{◌+◌, ◌/◌}
use Rattle.memory.proofs.Lookups.{halving_start}
use Rattle.ranking.proofs.Halves.{halving_on}
use native.Mathlib.Omega.{arith}
use Rattle.arrival.proofs.serials.last_of.Goals as goal

pub loop-left-init : goal.loop-left-init
loop-left-init c =
    halving_start _ _ _ c.requires.0

pub up-low-requires : goal.up-low-requires
up-low-requires c = (
  omega arith,
  (let small = c.requires.4 (c.loop-left.low + c.loop-left.left / 2) (omega arith) in omega (arith, small, c.field-middle.ensures)),
  (let small = c.requires.5 in omega (arith, small)),
)

pub loop-left-preserved : goal.loop-left-preserved
loop-left-preserved c =
    halving_on c.requires.3 c.loop-left.invariant c.loop-left-test.true c.field-middle.ensures c.up-low.ensures

pub returns : goal.returns
returns c =
    (omega arith, λ p h e. let k = c.loop-left.invariant.within p h e in omega (arith, k.0, k.1, c.loop-left-test.false))
