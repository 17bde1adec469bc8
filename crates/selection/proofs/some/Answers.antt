use mathlib.Core.Path.{sym, subst}
use Rattle.memory.specs.Point.{FiniteAt}
use Rattle.oracle.specs.Oracle.{oracle_of}
use Rattle.selection.proofs.Loops.{held_in, looking_start, looking_next, looked_found, looked_all}
use native.Mathlib.Omega.{arith}
use Rattle.selection.proofs.some.Goals as goal

pub loop-i-init : goal.loop-i-init
loop-i-init c =
    looking_start _ _ _

pub point_at-x-requires : goal.point_at-x-requires
point_at-x-requires c =
    let h = c.requires.3 _ c.loop-i-test.true in (
      omega (arith, h, c.place_at-p.ensures, c.requires.0.linked.size),
      subst (FiniteAt c.args.block.now) (sym c.place_at-p.ensures) (c.requires.0.finite_at _ h),
    )

pub returns-then-holds : goal.returns-then-holds
returns-then-holds c =
    let to = c.args.to in
    let o = c.args.o in
    let second = c.args.second in
    let block = c.args.block.now in
    looked_found c.loop-i.invariant to c.loop-i-test.true
    (held_in (oracle_of o) second block (c.requires.0.finite_at _ (c.requires.3 _ c.loop-i-test.true)) c.place_at-p.ensures c.point_at-x.ensures
    c.holds.ensures) c.if-holds.true

pub loop-i-preserved : goal.loop-i-preserved
loop-i-preserved c =
    let o = c.args.o in
    let second = c.args.second in
    let block = c.args.block.now in
    looking_next c.loop-i.invariant
    (held_in (oracle_of o) second block (c.requires.0.finite_at _ (c.requires.3 _ c.loop-i-test.true)) c.place_at-p.ensures c.point_at-x.ensures
    c.holds.ensures) c.if-holds.false

pub returns : goal.returns
returns c =
    looked_all c.loop-i.invariant c.args.to c.loop-i-test.false
