-- `outbox::labels::label_size` meets its contract: what is put from place 0 on ends where it is long. Assumes nothing.
use Rattle.model.specs.Image.{label_in}
use Rattle.theory.proofs.LayoutLengths.{label_short}
use native.Mathlib.Omega.{arith}
use Rattle.outbox.proofs.labels.label_size.Goals as goal

pub put_label-requires : goal.put_label-requires
put_label-requires c =
    omega (arith, label_short (label_in c.args.code))

pub returns : goal.returns
returns c =
    omega (arith, c.put_label.ensures.past)
