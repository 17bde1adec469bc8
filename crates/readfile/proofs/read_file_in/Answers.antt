-- `readfile::read_file_in` meets its contract: its arrays are clear, and as long as the limits ask.
-- Assumes nothing.
use Rattle.std.proofs.Common.{rules}
use mathlib.Core.Path.{ap}
use native.Mathlib.Omega.{arith}
use Prim.Native.Nat.{ℕ}
use lib.ListN.{replicate}
use Rattle.laws.proofs.Lists.{getD_zeros}
use Rattle.readfile.proofs.read_file_in.Goals as goal

pub read_file_by-requires-clause-block_le_room : goal.read_file_by-requires-clause-block_le_room
read_file_by-requires-clause-block_le_room g c =
    (omega (arith, c.requires), ap (λ (w : ℕ). replicate w 0) c.requires.2)

pub read_file_by-requires-clause-block_in_bounds : goal.read_file_by-requires-clause-block_in_bounds
read_file_by-requires-clause-block_in_bounds g c =
    (search rules, getD_zeros g.row.PLACES)
