-- `redirect::received` meets its contract: `inbox` says what the slice is.
-- Assumes nothing.
use Rattle.redirect.proofs.Answered.{kind_read}
use Rattle.redirect.proofs.received.Goals as goal

pub returns : goal.returns
returns c =
    kind_read c.message_in.ensures
