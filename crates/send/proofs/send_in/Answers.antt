-- `send::send_in` meets its contract: its arrays are clear, and as long as the limits ask.
-- Assumes nothing.
use mathlib.Core.Path.{refl}
use native.Mathlib.Omega.{arith}
use Rattle.cells.proofs.Resets.{zeros_clear, zeros_long}
use Rattle.send.proofs.send_in.Goals as goal

pub send_by-requires : goal.send_by-requires
send_by-requires g c =
    let few = zeros_long _ g.row.PLACES refl c.requires.0 in
    let clear = zeros_clear g.row.PLACES refl in
    record {
      block_le_room = (omega (arith, c.requires), omega (arith, c.requires), zeros_long _ g.row.VOLUME refl c.requires.2);
      block_in_bounds = (few, few, few, clear, refl);
      block_in_bounds_2 = (few, clear, few, clear);
      block_in_bounds_3 = (few, few, few, few);
    }
