-- `mesh::sound_among` meets its contract: the rack's question, then the block's own limit.
-- Assumes nothing.
use Rattle.mesh.proofs.Among.{not_sound, sound_few}
use Rattle.mesh.proofs.sound_among.Goals as goal

pub returns-then-not-is_sound : goal.returns-then-not-is_sound
returns-then-not-is_sound c =
    not_sound c.args.viewers c.args.block.now c.requires c.is_sound.ensures c.if-not-is_sound.true

pub returns : goal.returns
returns c =
    sound_few c.args.viewers c.args.block.now c.requires c.is_sound.ensures c.if-not-is_sound.false _ c.among-limits.ensures
