-- `sound::questions::links_right` meets its contract: what the pass says is the answer to question 5.
-- Assumes nothing.
use Rattle.sound.proofs.Whole.{links_are}
use Rattle.sound.proofs.questions.links_right.Goals as goal

pub links_pass-requires : goal.links_pass-requires
links_pass-requires c =
    (c.requires.block_in_bounds.1.few, c.requires.block_in_bounds.0, c.requires.block_in_bounds_2.0, c.requires.block_in_bounds_2.1)

pub returns : goal.returns
returns c =
    links_are _ c.requires.block_in_bounds.1 c.links_pass.ensures
