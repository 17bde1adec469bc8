-- `redirect::each_named` meets its contract: an index is marked where a face has its code.
-- Assumes nothing.
use Rattle.redirect.proofs.Hits.{each_named}
use Rattle.redirect.proofs.each_named.Goals as goal

pub index_faces-requires : goal.index_faces-requires
index_faces-requires c =
    record { block_value = c.requires.block_value; n_in_bounds = c.requires.n_in_bounds }

pub returns : goal.returns
returns c =
    let block = c.args.block.now in
    let from = c.args.from in
    each_named block from c.requires.block_value.3 c.requires.block_value.1 c.index_faces.ensures.0 c.index_faces.ensures.1 c.all_hit.ensures
