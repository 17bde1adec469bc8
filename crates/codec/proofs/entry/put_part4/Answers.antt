-- `codec::entry::put_part4` meets its contract: the entry's two numbers, one stored after the other. Assumes nothing.
use Rattle.groups.proofs.Writing.{stored_then}
use Rattle.codec.proofs.EntryLaws.{pair_length, room_after}
use native.Mathlib.Omega.{arith}
use Rattle.codec.proofs.entry.put_part4.Goals as goal

pub put_group-past-requires : goal.put_group-past-requires
put_group-past-requires c =
    omega (arith, c.requires.2, pair_length c.args.index.0 c.args.other)

pub put_group-requires : goal.put_group-requires
put_group-requires c =
    room_after c.put_group-past.ensures _ (omega (arith, c.requires.2, pair_length c.args.index.0 c.args.other))

pub returns : goal.returns
returns c =
    stored_then c.put_group-past.ensures c.put_group.ensures
