-- `newblock::place::stands_at` meets its contract. Assumes nothing.
use Rattle.std.proofs.Common.{sym, ◌∙◌, eqb-true}
use Rattle.newblock.proofs.place.stands_at.Goals as goal

pub returns-then-g-n : goal.returns-then-g-n
returns-then-g-n c =
    λ e. (c.if-g-n.true, sym c.field.ensures ∙ eqb-true c.field.result _ e)
