-- `codec::entry::put_part3` meets its contract: the entry's two numbers, one stored after the other. Assumes nothing.
use Rattle.groups.proofs.Writing.{stored_then}
use Rattle.codec.proofs.EntryLaws.{part3_bytes, part3_length, stored_as, room_after}
use native.Mathlib.Omega.{arith}
use Rattle.codec.proofs.entry.put_part3.Goals as goal

pub put_group-past-requires : goal.put_group-past-requires
put_group-past-requires c =
    omega (arith, c.requires.2, part3_length c.args.number c.args.index.0)

pub put_group-requires : goal.put_group-requires
put_group-requires c =
    room_after c.put_group-past.ensures _ (omega (arith, c.requires.2, part3_length c.args.number c.args.index.0))

pub returns : goal.returns
returns c =
    stored_as (part3_bytes (record { number = c.args.number; index = c.args.index.0 })) (stored_then c.put_group-past.ensures c.put_group.ensures)
