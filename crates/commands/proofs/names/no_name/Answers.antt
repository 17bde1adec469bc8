-- `commands::names::no_name` meets its contract. Assumes nothing.
use mathlib.Core.Path.{refl}
use Rattle.commands.specs.Names.{nameless}
use Rattle.commands.proofs.names.no_name.Goals as goal

pub returns : goal.returns
unfolding nameless
returns c =
    refl
