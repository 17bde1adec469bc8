-- `receive::receive_in` meets its contract: its arrays are clear, and as long as the limits ask.
-- Assumes nothing.
use mathlib.Core.Path.{refl}
use native.Mathlib.Omega.{arith}
use Rattle.cells.proofs.Resets.{zeros_clear, zeros_long}
use Rattle.receive.proofs.Arrays.{zeros_lent}
use Rattle.receive.proofs.receive_in.Goals as goal

pub receive_by-requires : goal.receive_by-requires
receive_by-requires g c =
    let few = c.requires.0 in
    record {
      block_le_room = (omega (arith, c.requires), record { vertex_size = refl; serial_size = refl; starts_size = refl; sizes_size = refl });
      lent_arrays = zeros_lent g.row.VOLUME g.row.PLACES g.row.WORDS c.requires.2 few c.requires.3 c.requires.4 c.requires.5;
      block_in_bounds = (zeros_long _ g.row.PLACES refl few, zeros_clear g.row.PLACES refl, refl);
    }

pub shape_of-block : goal.shape_of-block
shape_of-block g c =
    omega (arith, c.receive_by.auto)
