-- `codec::entry::put_part2` meets its contract: the label and the index, one stored after the other. Assumes nothing.
use Rattle.model.specs.Image.{label_in}
use Rattle.groups.proofs.Writing.{stored_then}
use Rattle.codec.proofs.EntryLaws.{part2_bytes, part2_length, stored_as, room_after}
use native.Mathlib.Omega.{arith}
use Rattle.codec.proofs.entry.put_part2.Goals as goal

pub put_label-past-requires : goal.put_label-past-requires
put_label-past-requires c =
    omega (arith, c.requires.1, part2_length (label_in c.args.code) c.args.index.0)

pub put_group-requires : goal.put_group-requires
put_group-requires c =
    room_after c.put_label-past.ensures _ (omega (arith, c.requires.1, part2_length (label_in c.args.code) c.args.index.0))

pub returns : goal.returns
returns c =
    stored_as (part2_bytes (record { label = label_in c.args.code; index = c.args.index.0 }))
    (stored_then c.put_label-past.ensures c.put_group.ensures)
