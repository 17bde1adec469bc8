-- `pairing::dart::next` meets its contract.
-- Assumes nothing.
use Prim.Native.Nat.{ℕ, ◌+◌, ◌*◌, ◌/◌}
use mathlib.Core.Path.{ap}
use Rattle.pairing.proofs.ByNumber.{next_small, number_small}
use native.Mathlib.Omega.{arith}
use Rattle.pairing.proofs.dart.next.Goals as goal

pub overflow_add-result : goal.overflow_add-result
overflow_add-result c =
    omega (arith, c.word.ensures, next_small c.requires.0 c.requires.1, number_small c.requires.0 c.requires.1)

pub returns : goal.returns
returns c =
    ap (λ (x : ℕ). c.args.g / 4096 * 4096 + x) c.word.ensures
