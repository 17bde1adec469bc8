use mathlib.Core.Path.{sym}
use Rattle.saving.proofs.Entering.{enter_none, enter_fits, enter_more, enter_size, enter_stop, enter_end}
use Rattle.saving.proofs.prepare.put_entries.Goals as goal

pub loop-b-init : goal.loop-b-init
loop-b-init c =
    enter_none c.requires.1 c.put_coordinate-past.ensures

pub shape_of-out-in_default : goal.shape_of-out-in_default
shape_of-out-in_default c =
    enter_size c.loop-b.invariant c.put_coordinate-past.ensures

pub returns-in_default : goal.returns-in_default
returns-in_default c =
    enter_stop c.loop-b.invariant c.loop-b-test.true (sym c.in_default.is) c.entry_of_block.ensures c.put_coordinate-past.ensures

pub put_entry-past-requires : goal.put_entry-past-requires
put_entry-past-requires c =
    enter_fits c.loop-b.invariant c.loop-b-test.true

pub loop-b-preserved : goal.loop-b-preserved
loop-b-preserved c =
    enter_more c.loop-b.invariant c.loop-b-test.true (sym c.in-Some.is) c.entry_of_block.ensures c.put_entry-past.ensures

pub shape_of-out : goal.shape_of-out
shape_of-out c =
    enter_size c.loop-b.invariant c.put_coordinate-past.ensures

pub returns : goal.returns
returns c =
    enter_end c.loop-b.invariant c.loop-b-test.false c.requires.1 c.put_coordinate-past.ensures
