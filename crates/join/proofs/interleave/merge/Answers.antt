use Rattle.join.proofs.Interleaving.{interleaving_start, interleaving_end, old_left, new_left, old_fits, new_fits, old_turn, new_turn}
use native.Mathlib.Omega.{arith}
use Rattle.join.proofs.interleave.merge.Goals as goal

pub loop-i-init : goal.loop-i-init
loop-i-init c =
    interleaving_start _ _ _ _

pub overflow_add-i : goal.overflow_add-i
overflow_add-i c =
    omega arith

pub overflow_add-t : goal.overflow_add-t
overflow_add-t c =
    omega arith

pub last_is_old-requires : goal.last_is_old-requires
last_is_old-requires c = (
  omega (arith, c.loop-i.invariant.i_le, c.loop-i.invariant.size, c.requires.interleaves.0.block.size),
  omega (arith, c.loop-i.invariant.j_le, c.requires.interleaves.0.draft.size),
)

pub overflow_sub-p : goal.overflow_sub-p
overflow_sub-p c =
    omega (arith, old_left c.requires.interleaves.0 c.loop-i.invariant c.loop-i-test.true c.last_is_old.ensures c.if-last_is_old.true)

pub record_at-r-requires : goal.record_at-r-requires
record_at-r-requires c =
    let some = old_left c.requires.interleaves.0 c.loop-i.invariant c.loop-i-test.true c.last_is_old.ensures c.if-last_is_old.true in
    omega (arith, c.loop-i.invariant.i_le, c.loop-i.invariant.size, c.requires.interleaves.0.block.size, some)

pub put_moved-requires : goal.put_moved-requires
put_moved-requires c =
    let w = old_fits c.requires.interleaves.0 c.loop-i.invariant c.loop-i-test.true c.last_is_old.ensures c.if-last_is_old.true
    c.record_at-r.ensures _ c.requires.interleaves.1 in
    (omega (arith, c.loop-i-test.true, c.loop-i.invariant.i_le, c.loop-i.invariant.j_le, c.loop-i.invariant.size, c.requires.interleaves.0.holds), w)

pub loop-i-smaller-then-last_is_old : goal.loop-i-smaller-then-last_is_old
loop-i-smaller-then-last_is_old c =
    omega (arith, old_left c.requires.interleaves.0 c.loop-i.invariant c.loop-i-test.true c.last_is_old.ensures c.if-last_is_old.true)

pub loop-i-preserved-then-last_is_old : goal.loop-i-preserved-then-last_is_old
loop-i-preserved-then-last_is_old c =
    let old = c.args.old.now in
    old_turn c.requires.interleaves.0 c.loop-i.invariant c.loop-i-test.true c.last_is_old.ensures c.if-last_is_old.true c.record_at-r.ensures old
    c.requires.tabled.0 c.put_moved.ensures

pub overflow_sub-q : goal.overflow_sub-q
overflow_sub-q c =
    omega (arith, new_left c.requires.interleaves.0 c.loop-i.invariant c.loop-i-test.true c.last_is_old.ensures c.if-last_is_old.false)

pub draft_record-r-requires : goal.draft_record-r-requires
draft_record-r-requires c =
    let some = new_left c.requires.interleaves.0 c.loop-i.invariant c.loop-i-test.true c.last_is_old.ensures c.if-last_is_old.false in
    omega (arith, c.loop-i.invariant.j_le, c.requires.interleaves.0.draft.size, some)

pub put_moved-requires-else-last_is_old : goal.put_moved-requires-else-last_is_old
put_moved-requires-else-last_is_old c =
    let w = new_fits c.requires.interleaves.0 c.loop-i.invariant c.loop-i-test.true c.last_is_old.ensures c.if-last_is_old.false
    c.draft_record-r.ensures _ c.requires.interleaves.2 in
    (omega (arith, c.loop-i-test.true, c.loop-i.invariant.i_le, c.loop-i.invariant.j_le, c.loop-i.invariant.size, c.requires.interleaves.0.holds), w)

pub loop-i-smaller : goal.loop-i-smaller
loop-i-smaller c =
    omega (arith, new_left c.requires.interleaves.0 c.loop-i.invariant c.loop-i-test.true c.last_is_old.ensures c.if-last_is_old.false)

pub loop-i-preserved : goal.loop-i-preserved
loop-i-preserved c =
    let new = c.args.new.now in
    new_turn c.requires.interleaves.0 c.loop-i.invariant c.loop-i-test.true c.last_is_old.ensures c.if-last_is_old.false c.draft_record-r.ensures new
    c.requires.tabled.1 c.put_moved-else-last_is_old.ensures

pub shape_of-block : goal.shape_of-block
shape_of-block c =
    c.loop-i.invariant.size

pub returns : goal.returns
returns c =
    interleaving_end c.loop-i.invariant c.loop-i-test.false
