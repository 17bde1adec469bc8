-- One reader is opened at the first byte and moved on by four numbers; what each left is taken, and `head_of` joins the four.
use Rattle.reader.proofs.Moved.{four_read}
use Rattle.reader.proofs.read_head.Goals as goal

pub returns : goal.returns
returns c =
    four_read _ _ _ _ _ _ _ _ _ _ _ c.open.ensures c.number-length.ensures c.number-kind.ensures c.number-from.ensures
    c.number-to.ensures c.last.ensures c.last-2.ensures c.last-3.ensures c.last-4.ensures c.head_of.ensures
