-- `saving::plan::says` meets its contract. Assumes nothing.
use mathlib.Core.Path.{sym}
use mathlib.Core.Bool.{false}
use lib.ListN.{get_or-eq_default}
use Rattle.saving.proofs.plan.says.Goals as goal

pub returns : goal.returns
returns c =
    sym (get_or-eq_default c.args.there.now false c.if-i-there.false)
