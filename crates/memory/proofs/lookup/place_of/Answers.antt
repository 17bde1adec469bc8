use Rattle.memory.proofs.Lookups.{place_found, place_none, halving_start, halving_up, halving_down, halving_end}
use native.Mathlib.Omega.{arith}
use Rattle.memory.proofs.lookup.place_of.Goals as goal
use Rattle.memory.proofs.lookup.place_of.Goals.{then-field-serial, else-field-serial}

pub returns-then-n-eq0 : goal.returns-then-n-eq0
returns-then-n-eq0 c =
    place_none _ _ _ (λ k l e. omega arith)

pub loop-left-init : goal.loop-left-init
loop-left-init c =
    halving_start _ _ _ (omega arith)

pub loop-left-preserved : goal.loop-left-preserved
loop-left-preserved c =
    elim c.if-field-serial.branch [
      | then-field-serial w ↦ rw w.low-is (halving_up c.requires.1 c.loop-left.invariant c.loop-left-test.true c.field.ensures w.if-field-serial.true)
      | else-field-serial w ↦ rw w.low-is
          (halving_down c.requires.1 c.loop-left.invariant c.loop-left-test.true c.field.ensures w.if-field-serial.false)
    ]

pub returns-then-field-serial-2 : goal.returns-then-field-serial-2
returns-then-field-serial-2 c =
    place_found _ _ _ _ c.requires.1 (omega arith) (cc)

pub returns : goal.returns
returns c =
    halving_end c.loop-left.invariant c.loop-left-test.false (λ e. c.if-field-serial-2.false (cc))
