use mathlib.Core.Path.{refl}
use lib.ListN.{get_or}
use Rattle.memory.proofs.Lookups.{halving_start, halving_up, halving_down}
use Rattle.redirect.proofs.ReadCodes.{halved, halved_none, none_among}
use native.Mathlib.Omega.{arith}
use Rattle.redirect.proofs.codes.index_of.Goals as goal
use Rattle.redirect.proofs.codes.index_of.Goals.{then-codes-mid, else-codes-mid}

pub returns-then-c-eq0 : goal.returns-then-c-eq0
returns-then-c-eq0 c =
    none_among (λ k. get_or c.args.codes.now k 0) c.args.c c.args.x c.if-c-eq0.true

pub loop-left-init : goal.loop-left-init
loop-left-init c =
    halving_start _ _ _ (omega arith)

pub offset_bounds-codes-mid : goal.offset_bounds-codes-mid
offset_bounds-codes-mid c =
    omega arith

pub bounds-codes-mid : goal.bounds-codes-mid
bounds-codes-mid c =
    omega arith

pub loop-left-preserved : goal.loop-left-preserved
loop-left-preserved c =
    elim c.if-codes-mid.branch [
      | then-codes-mid w ↦ rw w.low-is (halving_up c.requires.2 c.loop-left.invariant c.loop-left-test.true refl (omega (arith, w.if-codes-mid.true)))
      | else-codes-mid w ↦ rw w.low-is
          (halving_down c.requires.2 c.loop-left.invariant c.loop-left-test.true refl (omega (arith, w.if-codes-mid.false)))
    ]

pub offset_bounds-codes-low : goal.offset_bounds-codes-low
offset_bounds-codes-low c =
    omega arith

pub bounds-codes-low : goal.bounds-codes-low
bounds-codes-low c =
    omega arith

pub returns-then-codes-low : goal.returns-then-codes-low
returns-then-codes-low c =
    halved c.requires.2 c.loop-left.invariant (omega (arith, c.loop-left-test.false)) refl c.if-codes-low.true

pub returns : goal.returns
returns c =
    halved_none c.loop-left.invariant (omega (arith, c.loop-left-test.false)) refl c.if-codes-low.false
