-- `place::renumber::renumbered` meets its contract: next, opposite and a sewn dart's link by the table. Assumes nothing.
use lib.ListN.{get_or}
use Rattle.place.proofs.Renumbering.{links_moved}
use Rattle.place.proofs.renumber.renumbered.Goals as goal

pub moved_link-link-requires : goal.moved_link-link-requires
moved_link-link-requires c =
    c.requires.sewn_lt

pub returns : goal.returns
returns c =
    links_moved (λ p. get_or c.args.table.now p 0) c.args.r c.moved_at-next.ensures c.moved_at-opposite.ensures c.moved_link-link.ensures
