use mathlib.Core.Path.{◌∙◌, sym}
use Rattle.pairing.proofs.ByNumber.{table_none, table_all}
use Rattle.pairing.proofs.before.fill.Goals as goal

pub loop-i-init : goal.loop-i-init
loop-i-init c =
    table_none c.requires.0 c.requires.1

pub fill_part-requires : goal.fill_part-requires
fill_part-requires c =
    (c.requires.0, c.loop-i-test.true, c.loop-i.invariant)

pub loop-i-preserved : goal.loop-i-preserved
loop-i-preserved c =
    c.fill_part.ensures

pub shape_of-table : goal.shape_of-table
shape_of-table c =
    c.loop-i.invariant.len ∙ sym c.requires.1

pub returns : goal.returns
returns c =
    table_all c.requires.0 c.loop-i.invariant c.loop-i-test.false
