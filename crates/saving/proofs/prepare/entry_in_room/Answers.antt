-- `saving::prepare::entry_in_room` meets its contract. Assumes nothing.
use mathlib.Core.Path.{sym}
use Rattle.saving.proofs.Contents.{filed, not_filed}
use Rattle.saving.proofs.Entering.{filed_entry, known_none}
use Rattle.saving.proofs.prepare.entry_in_room.Goals as goal

pub returns : goal.returns
returns c =
    filed_entry (filed (sym c.in_ok-n.was) c.put_file.ensures) c.entry_of.ensures

pub returns-in_err-n : goal.returns-in_err-n
returns-in_err-n c =
    rw c.from_residual.ensures (known_none c.args.mesh.now c.args.b (not_filed c.args.mesh.now c.args.b (sym c.in_err-n.was) c.put_file.ensures c.requires))
