-- `balance::surplus::surplus_of` meets its contract. Assumes nothing.
use mathlib.Core.Path.{◌∙◌}
use lib.IntN.{pos, ◌-ℤ◌}
use mir.ValLaws.{to_z-of_z}
use mir.Syntax.{w32}
use Rattle.balance.proofs.SurplusLaws.{signed, in_width, difference_is}
use native.Mathlib.Omega.{arith}
use Rattle.balance.proofs.surplus.surplus_of.Goals as goal

pub overflow_sub-result : goal.overflow_sub-result
overflow_sub-result c =
    rw (signed c.args.count (omega arith), signed c.args.mean (omega arith)) (in_width c.args.count c.args.mean (omega arith) (omega arith))

pub returns : goal.returns
returns c =
    rw (signed c.args.count (omega arith), signed c.args.mean (omega arith))
    (to_z-of_z w32 (pos c.args.count -ℤ pos c.args.mean)
    (in_width c.args.count c.args.mean (omega arith) (omega arith)) ∙ difference_is c.args.count c.args.mean)
