-- `text::is_digit` meets its contract. Assumes nothing.
use Rattle.model.specs.Text.{is_digit}
use Rattle.text.proofs.is_digit.Goals as goal

pub returns : goal.returns
unfolding is_digit
returns c =
    c.is_ascii_digit.ensures.value
