-- `savefile::links::serial_along` meets its contract: a place is read, then the serial at it.
-- Assumes nothing.
use mathlib.Core.Path.{◌∙◌, ap}
use Prim.Native.Nat.{ℕ}
use Rattle.model.specs.Image.{column}
use Rattle.savefile.proofs.links.serial_along.Goals as goal

pub returns : goal.returns
returns c =
    c.field.ensures ∙ ap (λ (q : ℕ). column c.args.block.now 0 q) c.field-q.ensures
