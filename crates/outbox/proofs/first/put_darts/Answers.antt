use mathlib.Core.Path.{ap}
use Prim.Native.Nat.{◌+◌}
use lib.ListN.{length}
use Rattle.codec.proofs.EntryLaws.{stored_as}
use Rattle.outbox.proofs.Running.{running_start, running_size, running_end, running_space, running_step}
use Rattle.outbox.proofs.BytesLaws.{dart_is}
use native.Mathlib.Omega.{arith}
use Rattle.outbox.proofs.first.put_darts.Goals as goal

pub loop-k-init : goal.loop-k-init
loop-k-init c =
    running_start _ _ _ _ c.requires.size_bound

pub offset_bounds-numbers-p : goal.offset_bounds-numbers-p
offset_bounds-numbers-p c =
    omega (arith, c.requires.darts_listed.0.below (c.args.start.0 + c.loop-k.k) (omega (arith, c.loop-k-test.true)))

pub bounds-numbers-p : goal.bounds-numbers-p
bounds-numbers-p c =
    omega (arith, c.requires.darts_listed.1.numbers_size (c.args.start.0 + c.loop-k.k) (omega (arith, c.loop-k-test.true)))

pub field-requires : goal.field-requires
field-requires c =
    (c.requires.darts_listed.0.held (c.args.start.0 + c.loop-k.k) (omega (arith, c.loop-k-test.true)), omega arith)

pub put_dart-at-requires : goal.put_dart-at-requires
put_dart-at-requires c =
    let first = c.args.start.0 in
    let block = c.args.block.now in
    let numbers = c.args.numbers.now in
    let order = c.args.order.now in (
      omega (arith, c.requires.darts_listed.1.number_small (first + c.loop-k.k) (omega (arith, c.loop-k-test.true))),
      omega (arith, c.requires.darts_listed.0.serial_small (first + c.loop-k.k) (omega (arith, c.loop-k-test.true)), c.field.ensures),
      omega (
        arith,
        ap length (dart_is block numbers order first c.loop-k.k c.field.result c.field.ensures),
        running_space c.loop-k.invariant c.loop-k-test.true,
      ),
    )

pub loop-k-preserved : goal.loop-k-preserved
loop-k-preserved c =
    let block = c.args.block.now in
    let numbers = c.args.numbers.now in
    let order = c.args.order.now in
    let first = c.args.start.0 in
    running_step c.loop-k.invariant c.loop-k-test.true
    (stored_as (dart_is block numbers order first c.loop-k.k c.field.result c.field.ensures) c.put_dart-at.ensures)

pub shape_of-out : goal.shape_of-out
shape_of-out c =
    running_size c.loop-k.invariant

pub returns : goal.returns
returns c =
    running_end c.loop-k.invariant (omega (arith, c.loop-k-test.false))
