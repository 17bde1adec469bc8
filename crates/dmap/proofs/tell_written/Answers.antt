-- `dmap::tell_written` meets its contract.
-- Assumes nothing.
use Rattle.dmap.proofs.Through.{told_served, told_refused}
use Rattle.dmap.proofs.tell_written.Goals as goal

pub returns-in-Ok : goal.returns-in-Ok
returns-in-Ok c =
    told_served c.in-Ok.is

pub returns-in-Err : goal.returns-in-Err
returns-in-Err c =
    told_refused c.in-Err.is c.refusal_number.ensures
