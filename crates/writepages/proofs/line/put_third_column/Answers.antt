-- `writepages::line::put_third_column` meets its contract: the text, then blanks up to the last column.
-- Assumes nothing.
use Rattle.model.specs.Image.{third_in}
use Rattle.listing.proofs.LineTexts.{third_short}
use Rattle.writepages.proofs.Columns.{third_padded}
use native.Mathlib.Omega.{arith}
use Rattle.writepages.proofs.line.put_third_column.Goals as goal

pub overflow_sub-at : goal.overflow_sub-at
overflow_sub-at c =
    omega (arith, c.put_third-past_text.ensures.past, third_short c.requires.0)

pub put_blanks-requires : goal.put_blanks-requires
put_blanks-requires c =
    omega (arith, c.put_third-past_text.ensures.past, third_short c.requires.0, c.requires.1)

pub returns : goal.returns
returns c =
    third_padded (third_in (λ x. x) c.args.kind c.args.named) c.put_third-past_text.ensures c.put_blanks.ensures
