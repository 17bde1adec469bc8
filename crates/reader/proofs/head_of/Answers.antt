-- `reader::head_of` meets its contract: the number that is missing, or all four.
-- Assumes nothing.
use Rattle.reader.proofs.Heads.{head_short, head_whole}
use Rattle.reader.proofs.head_of.Goals as goal

pub returns-in_err-t : goal.returns-in_err-t
returns-in_err-t c =
    rw c.from_residual-in_err-t.ensures (head_short c.in_ok-n.was c.in_ok-k.was c.in_ok-f.was c.in_err-t.was)

pub returns : goal.returns
returns c =
    head_whole c.in_ok-n.was c.in_ok-k.was c.in_ok-f.was c.in_ok-t.was
