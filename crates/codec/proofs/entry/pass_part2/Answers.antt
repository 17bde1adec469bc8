-- `codec::entry::pass_part2` meets its contract: a label, then an index.
-- Assumes nothing.
use mathlib.Core.Path.{sym, ◌∙◌}
use Rattle.codec.proofs.Passing.{no_label, took_label, group_pass, part2_none, part2_pass}
use Rattle.codec.proofs.entry.pass_part2.Goals as goal

pub returns-in_err-code : goal.returns-in_err-code
returns-in_err-code c =
    rw c.from_residual.ensures (
    part2_none c.args.s.now c.args.at (no_label _ _ (sym c.in_err-code.was ∙ c.read_label.ensures)))

pub returns : goal.returns
returns c =
    part2_pass (took_label (sym c.in_ok-code.was ∙ c.read_label.ensures)) (group_pass _ _ c.read_group.ensures)
