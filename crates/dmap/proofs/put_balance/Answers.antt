-- `dmap::put_balance` meets its contract. Assumes nothing.
use Rattle.dmap.proofs.Through.{words_then}
use Rattle.dmap.proofs.put_balance.Goals as goal

pub returns : goal.returns
returns c =
    words_then c.args.surplus c.put_words.ensures c.put_surpluses.ensures
