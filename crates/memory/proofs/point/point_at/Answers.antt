-- `memory::point::point_at` meets its contract, by those of `field` and `point_of`.
-- Assumes nothing.
use Rattle.memory.proofs.point.point_at.Goals as goal

pub point_of-requires : goal.point_of-requires
point_of-requires c =
    (rw c.field-x.ensures c.requires.1.on_x, rw c.field-y.ensures c.requires.1.on_y, rw c.field-z.ensures c.requires.1.on_z)

pub returns : goal.returns
returns c =
    rw (c.point_of.ensures, c.field-x.ensures, c.field-y.ensures, c.field-z.ensures)
