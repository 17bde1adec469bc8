-- `calls_run::list` meets its contract: what is listed passed question 2.
-- Assumes nothing.
use Rattle.answers.proofs.Questions.{said_yes}
use Rattle.calls_run.proofs.list.Goals as goal

pub put_listing-n-requires : goal.put_listing-n-requires
put_listing-n-requires c =
    (said_yes c.is_sound.ensures c.if-not-is_sound.false, c.if-out-lt-ROOM.false)
