use mathlib.Core.Path.{refl}
use lib.ListN.{length-set}
use Rattle.parts.proofs.Reading.{entry_missing, entry_there, reading4_start, reading4_more, reading4_bad, reading4_end}
use native.Mathlib.Omega.{arith}
use Rattle.parts.proofs.entries.read_part4.Goals as goal

pub loop-i-init : goal.loop-i-init
loop-i-init c =
    (refl, refl, refl, (λ fs z. reading4_start fs _ _ _ _ _ _ c.requires.0))

pub shape_of-indices-in_default : goal.shape_of-indices-in_default
shape_of-indices-in_default c =
    c.loop-i.invariant.0

pub shape_of-others-in_default : goal.shape_of-others-in_default
shape_of-others-in_default c =
    c.loop-i.invariant.1

pub shape_of-places-in_default : goal.shape_of-places-in_default
shape_of-places-in_default c =
    c.loop-i.invariant.2

pub returns-in_default : goal.returns-in_default
returns-in_default c =
    λ fs z. reading4_bad fs (c.loop-i.invariant.3 fs z) c.loop-i-test.true (entry_missing fs (c.read_entry.ensures fs z) c.in_default.is)

pub offset_bounds-indices-i : goal.offset_bounds-indices-i
offset_bounds-indices-i c =
    omega arith

pub bounds-indices-i : goal.bounds-indices-i
bounds-indices-i c =
    omega arith

pub offset_bounds-others-i : goal.offset_bounds-others-i
offset_bounds-others-i c =
    omega arith

pub bounds-others-i : goal.bounds-others-i
bounds-others-i c =
    omega arith

pub offset_bounds-places-i : goal.offset_bounds-places-i
offset_bounds-places-i c =
    omega arith

pub bounds-places-i : goal.bounds-places-i
bounds-places-i c =
    omega arith

pub loop-i-preserved : goal.loop-i-preserved
loop-i-preserved c = (
  simp length-set c.loop-i.invariant.0,
  simp length-set c.loop-i.invariant.1,
  simp length-set c.loop-i.invariant.2,
  (λ fs z. reading4_more fs (c.loop-i.invariant.3 fs z) c.loop-i-test.true (omega (arith, c.loop-i-test.true, c.requires.2, c.loop-i.invariant.0))
      (omega (arith, c.loop-i-test.true, c.requires.3, c.loop-i.invariant.1)) (omega (arith, c.loop-i-test.true, c.requires.4, c.loop-i.invariant.2))
      (entry_there fs (c.read_entry.ensures fs z) c.in-Some.is)),
)

pub shape_of-indices : goal.shape_of-indices
shape_of-indices c =
    c.loop-i.invariant.0

pub shape_of-others : goal.shape_of-others
shape_of-others c =
    c.loop-i.invariant.1

pub shape_of-places : goal.shape_of-places
shape_of-places c =
    c.loop-i.invariant.2

pub returns : goal.returns
returns c =
    λ fs z. reading4_end fs (c.loop-i.invariant.3 fs z) c.loop-i-test.false
