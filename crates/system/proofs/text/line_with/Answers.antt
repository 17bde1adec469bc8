-- `text::line_with` meets its contract. Assumes nothing.
use Rattle.system.proofs.Cuts.{piece_none, piece_chosen, piece_split}
use Rattle.system.proofs.text.line_with.Goals as goal

pub returns-clause-piece : goal.returns-clause-piece
returns-clause-piece c =
    piece_chosen c.args.text.now c.find.result _ c.unwrap_or.result
    (piece_split _ c.args.text.now c.split.result c.find.new.self c.find.ensures.ran.0 c.find.result c.split.ensures.rest c.find.ensures.ran.2)
    (piece_none c.args.text.now) c.unwrap_or.ensures
