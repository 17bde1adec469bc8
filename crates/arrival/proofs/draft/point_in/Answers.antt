-- `arrival::draft::point_in` meets its contract, by those of `word_at` and `point_of`.
-- Assumes nothing.
use Rattle.arrival.proofs.draft.point_in.Goals as goal

pub point_of-requires : goal.point_of-requires
point_of-requires c =
    (rw c.word_at-x.ensures c.requires.1.on_x, rw c.word_at-y.ensures c.requires.1.on_y, rw c.word_at-z.ensures c.requires.1.on_z)

pub returns : goal.returns
returns c =
    rw (c.point_of.ensures, c.word_at-x.ensures, c.word_at-y.ensures, c.word_at-z.ensures)
