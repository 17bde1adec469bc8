-- `cells::vertex::number_vertices` meets its contract: the numbers of its darts are taken away first. Assumes nothing.
use Rattle.cells.proofs.Resets.{assigned_in}
use native.Mathlib.Omega.{arith}
use Rattle.cells.proofs.vertex.number_vertices.Goals as goal

pub unnumber-requires : goal.unnumber-requires
unnumber-requires c =
    let below = c.requires.linked.3 in (
      c.requires.linked.1,
      c.requires.linked.2,
      λ k h. (omega (arith, below k h, c.requires.linked.0.few), omega (arith, below k h, c.requires.n_in_bounds.0)),
    )

pub number_all-requires : goal.number_all-requires
number_all-requires c =
    record {
      linked = c.requires.linked;
      n_in_bounds = (omega (arith, c.unnumber.ensures.size, c.requires.n_in_bounds.0), assigned_in c.unnumber.ensures, c.requires.n_in_bounds.1);
    }
