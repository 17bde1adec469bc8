-- `dmap::tell_balance` meets its contract. Assumes nothing.
use mathlib.Core.Path.{refl}
use Rattle.dmap.proofs.Through.{level_told, blocked_told, move_told, move_refused}
use Rattle.dmap.proofs.tell_balance.Goals as goal

pub returns-in-Level : goal.returns-in-Level
returns-in-Level c =
    level_told c.args.b.mean c.args.b.surplus c.in-Level.is c.put_balance.ensures

pub returns-in-Blocked : goal.returns-in-Blocked
returns-in-Blocked c =
    blocked_told c.args.b.mean c.args.b.surplus c.in-Blocked.is c.put_balance-in-Blocked.ensures

pub returns-in-Move : goal.returns-in-Move
returns-in-Move c =
    move_told c.args.b.mean c.args.b.surplus c.in-Move.is c.put_balance-in-Move.ensures

pub returns-in-Refused : goal.returns-in-Refused
returns-in-Refused c =
    move_refused c.args.b.mean c.args.b.surplus c.in-Refused.is c.refusal_number.ensures refl
