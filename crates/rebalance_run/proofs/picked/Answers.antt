-- `rebalance_run::picked` meets its contract. Assumes nothing.
use mathlib.Core.Path.{sym, ◌∙◌}
use Rattle.rebalance_run.proofs.picked.Goals as goal

pub count-requires : goal.count-requires
count-requires c =
    sym c.is_sound.ensures ∙ c.if-is_sound.true
