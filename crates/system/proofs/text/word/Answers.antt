-- `text::word` meets its contract. Assumes nothing.
use Rattle.system.proofs.Cuts.{piece_none, piece_chosen, piece_filter}
use Rattle.system.proofs.text.word.Goals as goal

pub returns-clause-piece : goal.returns-clause-piece
returns-clause-piece c =
    piece_chosen c.args.text.now c.nth.result _ c.unwrap_or.result
    (piece_filter _ _ c.args.text.now c.filter.result c.nth.new.self c.nth.ensures.ran.0 c.nth.result (cc) c.nth.ensures.ran.1)
    (piece_none c.args.text.now) c.unwrap_or.ensures
