-- `join::join` meets its contract.
-- Assumes nothing.
use Rattle.join.proofs.Joining.{may_sew, joins, interleaved_size}
use native.Mathlib.Omega.{arith}
use Rattle.join.proofs.join.Goals as goal

pub sew-requires : goal.sew-requires
sew-requires c =
    let d = c.requires.draft_in_bounds in (
      interleaved_size d.3 c.insert.ensures.interleaved,
      d.0,
      d.1,
      d.2,
      omega (arith, c.insert.auto, c.requires.block_in_bounds.0),
      omega (arith, c.insert.auto, c.requires.block_in_bounds.1),
      may_sew d.3 _ _ c.insert.ensures.olds c.insert.ensures.news,
    )

pub returns : goal.returns
returns c =
    joins c.requires.draft_in_bounds.3 _ _ c.insert.ensures.olds c.insert.ensures.news c.insert.ensures.interleaved c.sew.ensures
