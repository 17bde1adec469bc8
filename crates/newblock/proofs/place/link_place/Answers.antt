-- `newblock::place::link_place` meets its contract: only a sewn dart's link is a serial.
-- Assumes nothing.
use Rattle.std.proofs.Common.{sym, ◌∙◌}
use Rattle.newblock.proofs.Resolving.{sewn_place, other_link}
use Rattle.newblock.proofs.place.link_place.Goals as goal

pub returns-then-is_sewn : goal.returns-then-is_sewn
returns-then-is_sewn c =
    sewn_place _ c.args.kind c.args.link _ (sym c.is_sewn.ensures ∙ c.if-is_sewn.true) c.place_near.ensures

pub returns : goal.returns
returns c =
    other_link _ c.args.kind c.args.link (sym c.is_sewn.ensures ∙ c.if-is_sewn.false)
