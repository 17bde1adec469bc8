-- `outbox::updates::updates_size` meets its contract: the sizes that the counted labels give are those of the messages. Assumes nothing.
use mathlib.Core.Path.{◌∙◌}
use Rattle.outbox.proofs.SharesLaws.{shares_few}
use Rattle.outbox.proofs.UpdateLaws.{sizes_are}
use native.Mathlib.Omega.{arith}
use Rattle.outbox.proofs.updates.updates_size.Goals as goal

pub sum_sizes-requires : goal.sum_sizes-requires
sum_sizes-requires c =
    shares_few c.count_labels.ensures c.requires.darts_listed.1.few

pub returns : goal.returns
returns c =
    let to = c.args.to in (
      c.sum_sizes.ensures.0 ∙ sizes_are c.count_labels.ensures to c.requires.block_bound.0 c.requires.block_bound.1 16 (omega arith),
      c.sum_sizes.ensures.1,
      c.count_labels.ensures,
    )
