use Rattle.std.specs.Prelude.{Some}
use Prim.Native.Nat.{ℕ}
use mathlib.Core.Path.{refl, sym, ap, ◌∙◌}
use lib.ListN.{length-set}
use Rattle.cells.proofs.Sited.{sited}
use Rattle.balance.proofs.Strikes.{trying_start, trying_none, trying_large, trying_strike, tried_found, tried_all}
use native.Mathlib.Omega.{arith}
use Rattle.balance.proofs.leaving.first_asked.Goals as goal

pub bounds-block-2 : goal.bounds-block-2
bounds-block-2 c =
    omega (arith, (sited c.args.block.now c.requires.block_value.0).linked.size)

pub loop-p-init : goal.loop-p-init
loop-p-init c = (
  trying_start _ _ _ c.requires.block_value.1,
  c.requires.asking,
  record { sizes = refl; marks = refl; order = refl; starts = refl; seen = refl; numbers = refl; firsts = refl; colours = refl },
)

pub offset_bounds-sizes-p : goal.offset_bounds-sizes-p
offset_bounds-sizes-p c =
    omega (arith, c.loop-p-test.true, (sited c.args.block.now c.requires.block_value.0).linked.few)

pub bounds-sizes-p : goal.bounds-sizes-p
bounds-sizes-p c =
    omega (arith, c.loop-p-test.true, c.loop-p.invariant.0.untried.len)

pub loop-p-preserved-then-s-eq0 : goal.loop-p-preserved-then-s-eq0
loop-p-preserved-then-s-eq0 c =
    (trying_none c.loop-p.invariant.0 c.loop-p-test.true refl c.if-s-eq0.true, c.loop-p.invariant.1, c.loop-p.invariant.2)

pub loop-p-preserved-then-left-s : goal.loop-p-preserved-then-left-s
loop-p-preserved-then-left-s c =
    (trying_large c.loop-p.invariant.0 c.loop-p-test.true refl c.if-left-s.true, c.loop-p.invariant.1, c.loop-p.invariant.2)

pub field-serial-requires : goal.field-serial-requires
field-serial-requires c =
    let block = c.args.block.now in
    (omega (arith, c.loop-p-test.true, (sited block c.requires.block_value.0).linked.size), omega arith)

pub may_leave-requires : goal.may_leave-requires
may_leave-requires c =
    record { block_value = (c.requires.block_value.0, c.loop-p-test.true); asking = c.loop-p.invariant.1 }

pub shape_of-sizes-then-may_leave : goal.shape_of-sizes-then-may_leave
shape_of-sizes-then-may_leave c =
    c.loop-p.invariant.2.sizes

pub shape_of-marks-then-may_leave : goal.shape_of-marks-then-may_leave
shape_of-marks-then-may_leave c =
    c.marks-1.given ∙ c.loop-p.invariant.2.marks

pub shape_of-order-then-may_leave : goal.shape_of-order-then-may_leave
shape_of-order-then-may_leave c =
    c.order-1.given ∙ c.loop-p.invariant.2.order

pub shape_of-starts-then-may_leave : goal.shape_of-starts-then-may_leave
shape_of-starts-then-may_leave c =
    c.starts-1.given ∙ c.loop-p.invariant.2.starts

pub shape_of-seen-then-may_leave : goal.shape_of-seen-then-may_leave
shape_of-seen-then-may_leave c =
    c.seen-1.given ∙ c.loop-p.invariant.2.seen

pub shape_of-numbers-then-may_leave : goal.shape_of-numbers-then-may_leave
shape_of-numbers-then-may_leave c =
    c.numbers-1.given ∙ c.loop-p.invariant.2.numbers

pub shape_of-firsts-then-may_leave : goal.shape_of-firsts-then-may_leave
shape_of-firsts-then-may_leave c =
    c.firsts-1.given ∙ c.loop-p.invariant.2.firsts

pub shape_of-colours-then-may_leave : goal.shape_of-colours-then-may_leave
shape_of-colours-then-may_leave c =
    c.colours-1.given ∙ c.loop-p.invariant.2.colours

pub returns-then-may_leave : goal.returns-then-may_leave
returns-then-may_leave c =
    record {
      candidate = ap (λ (x : ℕ). Some x) c.field-serial.ensures
          ∙ tried_found c.loop-p.invariant.0 c.loop-p-test.true refl c.if-s-eq0.false c.if-left-s.false
          (sym c.may_leave.ensures.answer ∙ c.if-may_leave.true);
      untried = c.loop-p.invariant.0.untried;
    }

pub offset_bounds-sizes-p-in-loop-p : goal.offset_bounds-sizes-p-in-loop-p
offset_bounds-sizes-p-in-loop-p c =
    omega (arith, c.loop-p-test.true, (sited c.args.block.now c.requires.block_value.0).linked.few)

pub bounds-sizes-p-in-loop-p : goal.bounds-sizes-p-in-loop-p
bounds-sizes-p-in-loop-p c =
    omega (arith, c.loop-p-test.true, c.loop-p.invariant.0.untried.len)

pub loop-p-preserved : goal.loop-p-preserved
loop-p-preserved c = (
  trying_strike c.loop-p.invariant.0 c.loop-p-test.true
      (sym c.may_leave.ensures.answer ∙ c.if-may_leave.false),
  c.may_leave.ensures.again c.if-may_leave.false,
  record {
    sizes = length-set c.loop-p.sizes _ _ ∙ c.loop-p.invariant.2.sizes;
    marks = omega (arith, c.may_leave.auto, c.loop-p.invariant.2.marks);
    order = omega (arith, c.may_leave.auto, c.loop-p.invariant.2.order);
    starts = omega (arith, c.may_leave.auto, c.loop-p.invariant.2.starts);
    seen = omega (arith, c.may_leave.auto, c.loop-p.invariant.2.seen);
    numbers = omega (arith, c.may_leave.auto, c.loop-p.invariant.2.numbers);
    firsts = omega (arith, c.may_leave.auto, c.loop-p.invariant.2.firsts);
    colours = omega (arith, c.may_leave.auto, c.loop-p.invariant.2.colours);
  },
)

pub returns : goal.returns
returns c =
    record { candidate = tried_all c.loop-p.invariant.0 c.loop-p-test.false; untried = c.loop-p.invariant.0.untried }
