-- `saving::commit::put_entry` meets its contract: two words, one stored after the other. Assumes nothing.
use Rattle.groups.proofs.Coordinates.{coordinate_length}
use Rattle.groups.proofs.Writing.{stored_length}
use Rattle.saving.proofs.Commits.{entry_put}
use native.Mathlib.Omega.{arith}
use Rattle.saving.proofs.commit.put_entry.Goals as goal

pub put_coordinate-requires : goal.put_coordinate-requires
put_coordinate-requires c =
    omega (arith, c.requires, stored_length c.put_coordinate-past.ensures, c.put_coordinate-past.ensures.past, coordinate_length c.args.e.size)

pub returns : goal.returns
returns c =
    entry_put c.args.e c.put_coordinate-past.ensures c.put_coordinate.ensures
