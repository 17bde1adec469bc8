-- `saving::prepare::put_file` meets its contract: what save file gives. Assumes nothing.
use Rattle.saving.proofs.Contents.{no_file, saved}
use Rattle.saving.proofs.prepare.put_file.Goals as goal

pub returns-then-mesh-b : goal.returns-then-mesh-b
returns-then-mesh-b c =
    no_file _ _ _ c.if-mesh-b.true

pub returns : goal.returns
returns c =
    let m = c.args.mesh.now in
    let b = c.args.b in
    rw c.ok.ensures.value (saved m b c.save_file.result (rw c.part_of.ensures at c.save_file.ensures))
