-- `release::remove::remove` meets its contract: ranks, records moved, the rest cleared, the header stored. Assumes nothing.
use lib.ListN.{get_or}
use Rattle.release.proofs.Removing.{all_removed}
use Rattle.release.proofs.Ranks.{rank_le}
use native.Mathlib.Omega.{arith}
use Rattle.release.proofs.remove.remove.Goals as goal

pub overflow_mul-kept : goal.overflow_mul-kept
overflow_mul-kept c =
    omega (arith, c.compact-kept.ensures.count, rank_le (get_or c.args.block.now 2 0) c.args.marks.now, c.requires.bounded.0.few)

pub overflow_add-kept : goal.overflow_add-kept
overflow_add-kept c =
    omega (arith, c.compact-kept.ensures.count, rank_le (get_or c.args.block.now 2 0) c.args.marks.now, c.requires.bounded.0.few)

pub clear_part-requires : goal.clear_part-requires
clear_part-requires c =
    let block = c.args.block.now in
    let marks = c.args.marks.now in (
      omega (arith, c.compact-kept.ensures.count, rank_le (get_or block 2 0) marks),
      omega (arith, c.compact-kept.ensures.len, c.requires.bounded.0.size, c.requires.bounded.0.few),
    )

pub returns : goal.returns
returns c =
    let block = c.args.block.now in
    let marks = c.args.marks.now in
    all_removed block marks c.requires.bounded.0.size c.requires.block_value c.compact-kept.ensures c.clear_part.ensures c.write.ensures
