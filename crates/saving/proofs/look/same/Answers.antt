-- `saving::look::same` meets its contract. Assumes nothing.
use Rattle.saving.specs.Looks.{same_entry}
use Rattle.saving.proofs.look.same.Goals as goal

pub returns : goal.returns
unfolding same_entry
returns c =
    c.eq.ensures
