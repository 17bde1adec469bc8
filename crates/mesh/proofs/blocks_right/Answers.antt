-- `mesh::blocks_right` meets its contract.
-- Assumes nothing.
use mathlib.Core.Path.{refl}
use Rattle.mesh.proofs.Parts.{no_blocks, too_many, in_order}
use Rattle.mesh.proofs.blocks_right.Goals as goal

pub returns-then-k-lt1 : goal.returns-then-k-lt1
returns-then-k-lt1 c =
    no_blocks c.args.mesh.now refl c.if-k-lt1.true

pub returns-then-k-gt-BLOCKS : goal.returns-then-k-gt-BLOCKS
returns-then-k-gt-BLOCKS c =
    too_many c.args.mesh.now refl c.if-k-lt1.false c.if-k-gt-BLOCKS.true

pub returns : goal.returns
returns c =
    in_order c.args.mesh.now refl c.if-k-lt1.false c.if-k-gt-BLOCKS.false c.numbered.ensures
