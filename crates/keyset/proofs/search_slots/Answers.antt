use mathlib.Core.Path.{refl}
use Rattle.keyset.proofs.Spread.{none_spread, one_more}
use native.Mathlib.Omega.{arith}
use Rattle.keyset.proofs.search_slots.Goals as goal

pub loop-i-init : goal.loop-i-init
loop-i-init c =
    (none_spread _ _ c.requires.2, omega arith)

pub loop-i-preserved : goal.loop-i-preserved
loop-i-preserved c = (
  one_more c.loop-i.invariant.0 refl c.slot_of-h.ensures.0 c.probe-s.ensures (omega (arith, c.probe-s.ensures.to, c.slot_of-h.ensures.1))
      c.if-table-s-ne0.false,
  omega (arith, c.loop-i-test.true),
)
