-- `rounds::list::play_at` meets its contract: it is a round by three numbers of the list, and the number of its outcome. Assumes nothing.
use Rattle.rounds.proofs.Requests.{one_played}
use Rattle.rounds.proofs.list.play_at.Goals as goal

pub returns : goal.returns
returns c =
    one_played c.outcome_number.ensures c.play.ensures
