-- `join::sewing::put_third` meets its contract.
-- Assumes nothing.
use mathlib.Core.Path.{refl}
use Rattle.join.proofs.sewing.put_third.Goals as goal

pub returns : goal.returns
returns c =
    rw (c.put_field-2.ensures, c.put_field.ensures) refl
