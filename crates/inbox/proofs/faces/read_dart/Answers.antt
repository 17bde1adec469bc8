-- `inbox::faces::read_dart` meets its contract: a dart is read, and put into the arrays.
-- Assumes nothing.
use mathlib.Core.Path.{refl}
use Rattle.codec.proofs.Taking.{faced_took, faced_none}
use Rattle.inbox.proofs.faces.read_dart.Goals as goal

pub returns-in_err-v : goal.returns-in_err-v
returns-in_err-v c =
    rw c.from_residual.ensures (
    record { said = (faced_none c.in_err-v.was c.read_dart.ensures, refl, refl) })

pub returns : goal.returns
returns c =
    record { said = (_, faced_took c.in_ok-v.was c.read_dart.ensures, refl, refl) }
