use mathlib.Core.Path.{refl, sym, ◌∙◌}
use Rattle.oracle.specs.Oracle.{oracle_of}
use Rattle.balance.proofs.Searches.{searching_start, searching_skip, searching_none}
use Rattle.balance.proofs.MovesLaws.{least_small, donor_told, donor_found, donor_none, donor_end}
use native.Mathlib.Omega.{arith}
use Rattle.balance.proofs.first_move.Goals as goal

pub loop-from-init : goal.loop-from-init
loop-from-init c =
    (refl, searching_start _ _ _)

pub offset_bounds-counts-from : goal.offset_bounds-counts-from
offset_bounds-counts-from c =
    omega arith

pub bounds-counts-from : goal.bounds-counts-from
bounds-counts-from c =
    omega arith

pub gives-requires : goal.gives-requires
gives-requires c =
    least_small c.requires.0 c.requires.1 c.requires.2

pub loop-from-preserved-then-not-gives : goal.loop-from-preserved-then-not-gives
loop-from-preserved-then-not-gives c =
    let o = c.args.o in
    let mesh = c.args.mesh.now in (
      c.loop-from.invariant.0,
      searching_skip c.loop-from.invariant.1 c.loop-from-test.true
          (sym (donor_told c.args.viewers (oracle_of o) mesh c.requires.1 c.requires.2 c.loop-from.from c.loop-from-test.true c.gives.ensures) ∙ c.if-not-gives.true),
    )

pub from_donor-requires : goal.from_donor-requires
from_donor-requires c =
    record {
      sound_parts = (c.requires.0, c.loop-from-test.true, omega (arith, c.loop-from.invariant.0, c.requires.3 c.loop-from.from c.loop-from-test.true));
      cells_counted = c.requires.1;
    }

pub loop-from-preserved : goal.loop-from-preserved
loop-from-preserved c =
    let none = donor_none c.args.viewers (oracle_of c.args.o) c.args.mesh.now c.loop-from.from c.from_donor.ensures c.in_default.is in
    (omega (arith, c.from_donor.auto, c.loop-from.invariant.0), searching_none c.loop-from.invariant.1 c.loop-from-test.true none)

pub overflow_cast-result : goal.overflow_cast-result
overflow_cast-result c =
    omega arith

pub shape_of-sizes-in-loop-from : goal.shape_of-sizes-in-loop-from
shape_of-sizes-in-loop-from c =
    omega (arith, c.from_donor.auto, c.loop-from.invariant.0)

pub returns-in-loop-from : goal.returns-in-loop-from
returns-in-loop-from c =
    let o = c.args.o in
    let mesh = c.args.mesh.now in
    donor_found c.args.viewers (oracle_of o) mesh c.requires.1 c.requires.2 c.loop-from.invariant.1 c.loop-from-test.true
    (sym (donor_told c.args.viewers (oracle_of o) mesh c.requires.1 c.requires.2 c.loop-from.from c.loop-from-test.true c.gives.ensures) ∙ c.if-not-gives.false)
    c.from_donor.ensures c.in-Some.is

pub shape_of-sizes : goal.shape_of-sizes
shape_of-sizes c =
    c.loop-from.invariant.0

pub returns : goal.returns
returns c =
    donor_end c.args.viewers (oracle_of c.args.o) c.args.mesh.now c.requires.1 c.requires.2 c.loop-from.invariant.1 c.loop-from-test.false
