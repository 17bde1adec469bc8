-- `join::interleave::last_is_old` meets its contract: the greater of two serials, or the one that is left. Assumes nothing.
use Rattle.join.proofs.Interleaving.{last_end, last_none, last_both}
use Rattle.join.proofs.interleave.last_is_old.Goals as goal

pub returns-then-j-eq0 : goal.returns-then-j-eq0
returns-then-j-eq0 c =
    last_end _ _ _ _ c.if-j-eq0.true

pub returns-then-i-eq0 : goal.returns-then-i-eq0
returns-then-i-eq0 c =
    last_none _ _ _ _ c.if-j-eq0.false c.if-i-eq0.true

pub returns : goal.returns
returns c =
    last_both _ _ _ _ c.if-j-eq0.false c.if-i-eq0.false c.draft_serial.ensures c.field.ensures
