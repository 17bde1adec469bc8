-- `redirect::redirect_in` meets its contract: its arrays are clear, and as long as the limits ask.
-- Assumes nothing.
use mathlib.Core.Path.{refl}
use native.Mathlib.Omega.{arith}
use Rattle.cells.proofs.Resets.{zeros_clear, zeros_long}
use Rattle.redirect.proofs.Indices.{same_everywhere, values_long}
use Rattle.redirect.proofs.redirect_in.Goals as goal

pub redirect_by-requires : goal.redirect_by-requires
redirect_by-requires g c =
    let few = c.requires.0 in
    let size = g.row.PLACES in
    let long = zeros_long _ size refl few in
    record {
      block_le_room = omega (arith, c.requires);
      vertex_len = (refl, refl, refl, refl);
      block_in_bounds = (
        values_long _ size 4097 refl few,
        λ q h. same_everywhere size 4097 q (omega (arith, h, few)),
        zeros_long _ g.row.HITS refl c.requires.2,
        zeros_clear g.row.HITS refl,
      );
      block_in_bounds_2 = (long, long, long, zeros_clear size refl, refl);
    }
