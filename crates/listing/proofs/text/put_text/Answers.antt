use Rattle.groups.proofs.Writing.{stored_length}
use Rattle.listing.proofs.Copies.{copy_none, copy_fits, copy_more, copy_all}
use Rattle.listing.proofs.text.put_text.Goals as goal

pub loop-i-init : goal.loop-i-init
loop-i-init c =
    copy_none _ _ _ c.requires

pub bounds-out-at : goal.bounds-out-at
bounds-out-at c =
    copy_fits c.loop-i.invariant c.loop-i-test.true

pub loop-i-preserved : goal.loop-i-preserved
loop-i-preserved c =
    copy_more c.loop-i.invariant c.loop-i-test.true

pub shape_of-out : goal.shape_of-out
shape_of-out c =
    stored_length c.loop-i.invariant.stored

pub returns : goal.returns
returns c =
    copy_all c.loop-i.invariant c.loop-i-test.false
