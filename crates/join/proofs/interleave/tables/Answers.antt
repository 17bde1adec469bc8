use mathlib.Core.Path.{refl, sym, ◌∙◌}
use lib.ListN.{length-set}
use Rattle.join.proofs.Interleaving.{placing_start, place_old, place_new, placing_end, last_yes, last_no}
use native.Mathlib.Omega.{arith}
use Rattle.join.proofs.interleave.tables.Goals as goal

pub loop-i-init : goal.loop-i-init
loop-i-init c =
    (placing_start c.requires.1 c.requires.2, refl, refl)

pub last_is_old-requires : goal.last_is_old-requires
last_is_old-requires c =
    (omega (arith, c.loop-i.invariant.0.i_le, c.requires.0.block.size), omega (arith, c.loop-i.invariant.0.j_le, c.requires.0.draft.size))

pub overflow_sub-p : goal.overflow_sub-p
overflow_sub-p c =
    omega
    (arith, (last_yes c.requires.0.keys c.loop-i.invariant.0.i_le c.loop-i.invariant.0.j_le c.loop-i-test.true (sym c.last_is_old.ensures ∙ c.if-last_is_old.true)).0)

pub bounds-old-p : goal.bounds-old-p
bounds-old-p c =
    omega
    (arith, c.loop-i.invariant.0.i_le, c.loop-i.invariant.0.old_size, (last_yes c.requires.0.keys c.loop-i.invariant.0.i_le c.loop-i.invariant.0.j_le c.loop-i-test.true (sym c.last_is_old.ensures ∙ c.if-last_is_old.true)).0)

pub loop-i-smaller-then-last_is_old : goal.loop-i-smaller-then-last_is_old
loop-i-smaller-then-last_is_old c =
    omega
    (arith, (last_yes c.requires.0.keys c.loop-i.invariant.0.i_le c.loop-i.invariant.0.j_le c.loop-i-test.true (sym c.last_is_old.ensures ∙ c.if-last_is_old.true)).0)

pub loop-i-preserved-then-last_is_old : goal.loop-i-preserved-then-last_is_old
loop-i-preserved-then-last_is_old c = (
  place_old c.requires.0.keys c.requires.0.fits c.loop-i.invariant.0 c.loop-i-test.true (sym c.last_is_old.ensures ∙ c.if-last_is_old.true),
  simp length-set c.loop-i.invariant.1,
  c.loop-i.invariant.2,
)

pub overflow_sub-q : goal.overflow_sub-q
overflow_sub-q c =
    omega
    (arith, (last_no c.requires.0.keys c.loop-i.invariant.0.i_le c.loop-i.invariant.0.j_le (sym c.last_is_old.ensures ∙ c.if-last_is_old.false)).0)

pub bounds-new-q : goal.bounds-new-q
bounds-new-q c =
    omega
    (arith, c.loop-i.invariant.0.j_le, c.loop-i.invariant.0.new_size, (last_no c.requires.0.keys c.loop-i.invariant.0.i_le c.loop-i.invariant.0.j_le (sym c.last_is_old.ensures ∙ c.if-last_is_old.false)).0)

pub loop-i-smaller : goal.loop-i-smaller
loop-i-smaller c =
    omega
    (arith, (last_no c.requires.0.keys c.loop-i.invariant.0.i_le c.loop-i.invariant.0.j_le (sym c.last_is_old.ensures ∙ c.if-last_is_old.false)).0)

pub loop-i-preserved : goal.loop-i-preserved
loop-i-preserved c = (
  place_new c.requires.0.keys c.requires.0.fits c.loop-i.invariant.0 c.loop-i-test.true (sym c.last_is_old.ensures ∙ c.if-last_is_old.false),
  c.loop-i.invariant.1,
  simp length-set c.loop-i.invariant.2,
)

pub shape_of-old : goal.shape_of-old
shape_of-old c =
    c.loop-i.invariant.1

pub shape_of-new : goal.shape_of-new
shape_of-new c =
    c.loop-i.invariant.2

pub returns : goal.returns
returns c =
    placing_end c.loop-i.invariant.0 c.loop-i-test.false
