-- `groups::word_at` meets its contract. The eight bytes, one after the other. Assumes nothing.
use Rattle.groups.proofs.Coordinates.{coordinate_word}
use Rattle.groups.proofs.word_at.Goals as goal

pub returns : goal.returns
returns c =
    coordinate_word _ _ _ _ _ _ _ _ _ _ c.requires c.from-a.ensures c.from-b.ensures c.from-c.ensures c.from-d.ensures
    c.from-e.ensures c.from-f.ensures c.from-g.ensures c.from-h.ensures
