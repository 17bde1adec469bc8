-- `codec::entry::put_point` meets its contract: the patterns of the point, one stored after the other. Assumes nothing.
use Rattle.groups.proofs.Writing.{stored_then}
use Rattle.codec.proofs.EntryLaws.{point_words, stored_as, room_after}
use Rattle.groups.proofs.Coordinates.{coordinate_length}
use Rattle.memory.specs.Point.{patterns}
use native.Mathlib.Omega.{arith}
use Rattle.codec.proofs.entry.put_point.Goals as goal

pub put_coordinate-past_y-requires : goal.put_coordinate-past_y-requires
put_coordinate-past_y-requires c =
    room_after c.put_coordinate-past_x.ensures 8 (omega (arith, c.requires.1, coordinate_length c.pattern-x.result))

pub put_coordinate-requires : goal.put_coordinate-requires
put_coordinate-requires c =
    room_after c.put_coordinate-past_y.ensures 8
    (omega (
      arith,
      c.requires.1,
      c.put_coordinate-past_x.ensures.past,
      coordinate_length c.pattern-x.result,
      coordinate_length c.pattern-y.result,
    ))

pub returns : goal.returns
returns c =
    let p' = c.args.p in
    stored_as (point_words (patterns p') c.pattern-x.ensures c.pattern-y.ensures c.pattern-z.ensures)
    (stored_then c.put_coordinate-past_x.ensures (stored_then c.put_coordinate-past_y.ensures c.put_coordinate.ensures))
