-- `parts::meets::met` meets its contract.
-- Assumes nothing.
use mathlib.Core.Path.{◌∙◌}
use Rattle.parts.proofs.Trails.{met_first, met_later}
use Rattle.parts.proofs.meets.met.Goals as goal

pub returns-then-j-eq0 : goal.returns-then-j-eq0
returns-then-j-eq0 c =
    c.place_at.ensures ∙ met_first c.args.trail.now c.args.size c.args.j c.if-j-eq0.true

pub returns : goal.returns
returns c =
    c.place_at-2.ensures ∙ met_later c.args.trail.now c.args.size c.args.j c.if-j-eq0.false
