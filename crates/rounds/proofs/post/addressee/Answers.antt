-- `rounds::post::addressee` meets its contract: the fourth number of the head, 0 where there is no head.
-- Assumes nothing.
use Rattle.std.proofs.Common.{rules}
use Rattle.rounds.proofs.Cuts.{goes_by}
use Rattle.rounds.proofs.post.addressee.Goals as goal

pub returns : goal.returns
returns c =
    goes_by c.args.message.now c.read_head.result c.read_head.ensures c.map_or.ensures (λ h e. search rules)
