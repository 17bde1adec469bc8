-- `join::interleave::insert` meets its contract: the tables, the records merged, the header stored. Assumes nothing.
use lib.ListN.{get_or}
use Rattle.join.proofs.Interleaving.{all_interleaved}
use native.Mathlib.Omega.{arith}
use Rattle.join.proofs.interleave.insert.Goals as goal

pub merge-requires : goal.merge-requires
merge-requires c =
    record {
      interleaves = (c.requires.0, omega (arith, c.tables.auto, c.requires.1), omega (arith, c.tables.auto, c.requires.2));
      tabled = c.tables.ensures;
    }

pub returns : goal.returns
returns c =
    let block = c.args.block.now in
    let draft = c.args.draft.now in
    record {
      interleaved = all_interleaved block draft (get_or block 2 0) (get_or draft 2 0) (omega (arith, c.requires.0.block.size)) c.merge.ensures
          c.write.ensures;
      olds = c.tables.ensures.0;
      news = c.tables.ensures.1;
    }
