-- `process::fact` meets its contract. Assumes nothing.
use Rattle.system.proofs.Cuts.{piece_whole, piece_of_piece, piece_chosen, piece_rsplit}
use Rattle.system.proofs.process.fact.Goals as goal

pub returns-clause-piece : goal.returns-clause-piece
returns-clause-piece c =
    piece_of_piece c.args.stat.now c.unwrap_or-behind.result.now c.word.result.now
    (piece_chosen c.args.stat.now c.next.result _ c.unwrap_or-behind.result
    (piece_rsplit _ c.args.stat.now c.rsplit.result c.next.new.self c.next.result c.rsplit.ensures.rest c.next.ensures.steps)
    (piece_whole c.args.stat.now) c.unwrap_or-behind.ensures)
    c.word.ensures.piece
