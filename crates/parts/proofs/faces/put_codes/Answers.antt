use mathlib.Core.Path.{sym, ◌∙◌}
use Rattle.parts.proofs.Writing.{coding_none, coding_bad, coding_more, coding_end}
use native.Mathlib.Omega.{arith}
use Rattle.parts.proofs.faces.put_codes.Goals as goal

pub loop-j-init : goal.loop-j-init
loop-j-init c =
    coding_none _ _ _ _ (let t = c.requires.1.took in let a = t.onward in let b = t.within in omega arith)

pub shape_of-array-in_default : goal.shape_of-array-in_default
shape_of-array-in_default c =
    c.loop-j.invariant.put.size

pub returns-in_default : goal.returns-in_default
returns-in_default c =
    absurd (coding_bad c.loop-j.invariant c.requires.1 c.loop-j-test.true (sym c.in_default.is ∙ c.read_label.ensures))

pub offset_bounds-array-first : goal.offset_bounds-array-first
offset_bounds-array-first c =
    omega arith

pub bounds-array-first : goal.bounds-array-first
bounds-array-first c =
    omega arith

pub loop-j-preserved : goal.loop-j-preserved
loop-j-preserved c =
    coding_more c.loop-j.invariant c.requires.0 c.loop-j-test.true (sym c.in-Some.is ∙ c.read_label.ensures)

pub shape_of-array : goal.shape_of-array
shape_of-array c =
    c.loop-j.invariant.put.size

pub returns : goal.returns
returns c =
    coding_end c.loop-j.invariant c.loop-j-test.false
