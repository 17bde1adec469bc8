-- `codec::entry::pass_part3` meets its contract: a number, then an index.
-- Assumes nothing.
use mathlib.Core.Path.{sym, ◌∙◌}
use Rattle.model.specs.Layouts.{group}
use Rattle.groups.proofs.Ends.{bad_at}
use Rattle.codec.proofs.Taking.{took_group}
use Rattle.codec.proofs.Passing.{group_pass, part3_none, part3_pass}
use Rattle.codec.proofs.entry.pass_part3.Goals as goal

pub returns-in_err-number : goal.returns-in_err-number
returns-in_err-number c =
    rw c.from_residual.ensures (
    part3_none c.args.s.now c.args.at (bad_at group _ _ (sym c.in_err-number.was ∙ c.read_group.ensures)))

pub returns : goal.returns
returns c =
    part3_pass (took_group (sym c.in_ok-number.was ∙ c.read_group.ensures)) (group_pass _ _ c.read_group-2.ensures)
