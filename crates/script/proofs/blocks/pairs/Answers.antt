use Rattle.std.proofs.Common.{refl}
use Rattle.script.proofs.blocks.pairs.Goals as goal

pub loop-p-init : goal.loop-p-init
loop-p-init c =
    refl
