use mathlib.Core.Path.{refl, sym, ◌∙◌}
use lib.ListN.{length-set}
use Rattle.redirect.proofs.ReadCodes.{reading_start, reading_more, reading_bad, reading_end}
use native.Mathlib.Omega.{arith}
use Rattle.redirect.proofs.codes.read_codes.Goals as goal

pub loop-i-init : goal.loop-i-init
loop-i-init c =
    (reading_start _ _ _ c.requires.0 c.requires.2, refl)

pub shape_of-codes-in_default : goal.shape_of-codes-in_default
shape_of-codes-in_default c =
    c.loop-i.invariant.1

pub returns-in_default : goal.returns-in_default
returns-in_default c =
    reading_bad c.loop-i.invariant.0 c.loop-i-test.true (sym c.in_default.is ∙ c.read_label.ensures)

pub offset_bounds-codes-i : goal.offset_bounds-codes-i
offset_bounds-codes-i c =
    omega arith

pub bounds-codes-i : goal.bounds-codes-i
bounds-codes-i c =
    omega arith

pub loop-i-preserved : goal.loop-i-preserved
loop-i-preserved c =
    (reading_more c.loop-i.invariant.0 c.loop-i-test.true (sym c.in-Some.is ∙ c.read_label.ensures), simp length-set c.loop-i.invariant.1)

pub shape_of-codes : goal.shape_of-codes
shape_of-codes c =
    c.loop-i.invariant.1

pub returns : goal.returns
returns c =
    reading_end c.loop-i.invariant.0 c.loop-i-test.false
