-- `departure::questions::none_sewn_within` meets its contract. Assumes nothing.
use mathlib.Core.Bool.{not}
use mathlib.Core.Path.{ap}
use Rattle.departure.proofs.questions.none_sewn_within.Goals as goal

pub returns : goal.returns
returns c =
    ap not c.sewn_within.ensures
