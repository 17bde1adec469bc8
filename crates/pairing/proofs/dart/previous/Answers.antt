-- `pairing::dart::previous` meets its contract.
-- Assumes nothing.
use Rattle.pairing.proofs.ByNumber.{before_small, number_small}
use native.Mathlib.Omega.{arith}
use Rattle.pairing.proofs.dart.previous.Goals as goal

pub bounds-table-g : goal.bounds-table-g
bounds-table-g c =
    omega (arith, number_small c.requires.0 c.requires.2, c.requires.1.len)

pub overflow_add-result : goal.overflow_add-result
overflow_add-result c =
    omega (arith, before_small c.requires.0 c.requires.2 c.requires.1, number_small c.requires.0 c.requires.2)
