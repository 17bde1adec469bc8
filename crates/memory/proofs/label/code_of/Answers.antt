-- `memory::label::code_of` meets its contract: the code is computed as it is defined.
-- Assumes nothing.
use mathlib.Core.Path.{refl}
use Rattle.model.specs.Values.{code}
use Rattle.memory.proofs.label.code_of.Goals as goal

pub returns : goal.returns
unfolding code
returns c =
    refl
