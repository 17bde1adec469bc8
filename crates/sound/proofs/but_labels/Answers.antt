-- `sound::but_labels` meets its contract: a no to any part is a no, and after a yes to all it is left whether labels differ.
-- Assumes nothing.
use Rattle.memory.specs.Header.{limits_of}
use Rattle.sound.proofs.Whole.{too_short, header_few, no_header, no_zeros, no_darts, far_last}
use native.Mathlib.Omega.{arith}
use Rattle.sound.proofs.but_labels.Goals as goal

pub returns-then-block-lt-SIZE : goal.returns-then-block-lt-SIZE
returns-then-block-lt-SIZE c =
    too_short (limits_of c.args.limits) _ (omega arith)

pub returns-then-not-header_right : goal.returns-then-not-header_right
returns-then-not-header_right c =
    no_header (limits_of c.args.limits) _ c.requires.0 c.header_right.ensures c.if-not-header_right.true

pub overflow_mul-n : goal.overflow_mul-n
overflow_mul-n c =
    let block = c.args.block.now in
    let few = header_few block c.args.limits.block c.header_right.ensures c.if-not-header_right.false in
    omega (arith, few, c.requires.0)

pub overflow_add-n : goal.overflow_add-n
overflow_add-n c =
    let block = c.args.block.now in
    let few = header_few block c.args.limits.block c.header_right.ensures c.if-not-header_right.false in
    omega (arith, few, c.requires.0)

pub returns-then-block-n : goal.returns-then-block-n
returns-then-block-n c =
    too_short (limits_of c.args.limits) _ (omega arith)

pub returns-then-not-zeros : goal.returns-then-not-zeros
returns-then-not-zeros c =
    no_zeros (limits_of c.args.limits) _ c.requires.0 c.zeros.ensures c.if-not-zeros.true

pub darts_right-requires : goal.darts_right-requires
darts_right-requires c =
    let block = c.args.block.now in
    let few = header_few block c.args.limits.block c.header_right.ensures c.if-not-header_right.false in
    (omega (arith, few, c.requires.0), omega (arith, c.if-block-n.false), omega (arith, few, c.requires.1), c.requires.2)

pub returns-then-not-darts_right : goal.returns-then-not-darts_right
returns-then-not-darts_right c =
    no_darts (limits_of c.args.limits) _ c.requires.0 c.darts_right.ensures c.if-not-darts_right.true

pub far_right-requires : goal.far_right-requires
far_right-requires c =
    let block = c.args.block.now in
    let few = header_few block c.args.limits.block c.header_right.ensures c.if-not-header_right.false in (
      omega (arith, few, c.requires.0),
      omega (arith, c.if-block-n.false),
      c.darts_right.ensures.0 c.if-not-darts_right.false,
      omega (arith, few, c.requires.3),
    )

pub returns : goal.returns
returns c =
    far_last (limits_of c.args.limits) c.args.block.now c.requires.0 (omega (arith, c.if-block-n.false)) c.header_right.ensures
    c.if-not-header_right.false
    c.zeros.ensures c.if-not-zeros.false c.darts_right.ensures c.if-not-darts_right.false _ c.far_right.result c.far_right.ensures
