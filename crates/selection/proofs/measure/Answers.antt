-- `selection::measure` meets its contract. Assumes nothing.
use Rattle.oracle.specs.Oracle.{oracle_of}
use Rattle.selection.proofs.Measuring.{measured_none, measured_first, measured_second, measured}
use native.Mathlib.Omega.{arith}
use Rattle.selection.proofs.measure.Goals as goal

pub bounds-marks-i : goal.bounds-marks-i
bounds-marks-i c =
    omega arith

pub returns-then-marks-i-ne0 : goal.returns-then-marks-i-ne0
returns-then-marks-i-ne0 c =
    measured_none (oracle_of c.args.o) c.requires.0 c.requires.1 c.requires.2 c.if-marks-i-ne0.true

pub bounds-block-2 : goal.bounds-block-2
bounds-block-2 c =
    omega arith

pub add_volume-end-requires : goal.add_volume-end-requires
add_volume-end-requires c =
    (c.requires.0.linked, c.requires.1, c.requires.2.marking, c.if-marks-i-ne0.false)

pub some-requires : goal.some-requires
some-requires c =
    let mk = c.add_volume-end.ensures.marking in
    (c.requires.0, omega (arith, mk.fits, c.requires.0.linked.few), omega (arith, mk.fits, mk.len_order), λ k l. (mk.queued k l).0)

pub shape_of-order-then-not-some : goal.shape_of-order-then-not-some
shape_of-order-then-not-some c =
    omega (arith, c.add_volume-end.auto)

pub shape_of-marks-then-not-some : goal.shape_of-marks-then-not-some
shape_of-marks-then-not-some c =
    omega (arith, c.add_volume-end.auto)

pub returns-then-not-some : goal.returns-then-not-some
returns-then-not-some c =
    let o = c.args.o in
    measured_first (oracle_of o) c.requires.0 c.requires.1 c.requires.2 c.if-marks-i-ne0.false c.add_volume-end.ensures.marking
    c.add_volume-end.ensures.added c.some.ensures c.if-not-some.true

pub some-requires-2 : goal.some-requires-2
some-requires-2 c =
    let mk = c.add_volume-end.ensures.marking in
    (c.requires.0, omega (arith, mk.fits, c.requires.0.linked.few), omega (arith, mk.fits, mk.len_order), λ k l. (mk.queued k l).0)

pub shape_of-order-then-not-some-2 : goal.shape_of-order-then-not-some-2
shape_of-order-then-not-some-2 c =
    omega (arith, c.add_volume-end.auto)

pub shape_of-marks-then-not-some-2 : goal.shape_of-marks-then-not-some-2
shape_of-marks-then-not-some-2 c =
    omega (arith, c.add_volume-end.auto)

pub returns-then-not-some-2 : goal.returns-then-not-some-2
returns-then-not-some-2 c =
    let o = c.args.o in
    measured_second (oracle_of o) c.requires.0 c.requires.1 c.requires.2 c.if-marks-i-ne0.false c.add_volume-end.ensures.marking
    c.add_volume-end.ensures.added c.some.ensures c.if-not-some.false c.some-2.ensures c.if-not-some-2.true

pub overflow_sub-result : goal.overflow_sub-result
overflow_sub-result c =
    omega arith

pub shape_of-order : goal.shape_of-order
shape_of-order c =
    omega (arith, c.add_volume-end.auto)

pub shape_of-marks : goal.shape_of-marks
shape_of-marks c =
    omega (arith, c.add_volume-end.auto)

pub returns : goal.returns
returns c =
    let o = c.args.o in
    measured (oracle_of o) c.requires.0 c.requires.1 c.requires.2 c.if-marks-i-ne0.false c.add_volume-end.ensures.marking
    c.add_volume-end.ensures.added c.some.ensures c.if-not-some.false c.some-2.ensures c.if-not-some-2.false
