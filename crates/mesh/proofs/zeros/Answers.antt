use mathlib.Core.Path.{◌∙◌}
use Rattle.mesh.proofs.Parts.{tested_none, tested_more, tested_end, zero_read, zeros_is}
use Rattle.mesh.proofs.zeros.Goals as goal

pub loop-word-init : goal.loop-word-init
loop-word-init c =
    tested_none

pub loop-word-preserved : goal.loop-word-preserved
loop-word-preserved c =
    tested_more c.loop-word.invariant c.loop-word-test.true (zero_read c.args.scratch.now c.loop-word.word-index)

pub returns : goal.returns
returns c =
    tested_end c.loop-word.invariant c.loop-word-test.false ∙ zeros_is c.args.scratch.now
