-- `codec::entry::put_dart` meets its contract: the entry's two numbers, one stored after the other. Assumes nothing.
use Rattle.groups.proofs.Writing.{stored_then}
use Rattle.codec.proofs.EntryLaws.{dart_bytes, dart_length, stored_as, room_after}
use native.Mathlib.Omega.{arith}
use Rattle.codec.proofs.entry.put_dart.Goals as goal

pub put_group-past-requires : goal.put_group-past-requires
put_group-past-requires c =
    omega (arith, c.requires.2, dart_length c.args.vertex c.args.serial)

pub put_serial-requires : goal.put_serial-requires
put_serial-requires c =
    record {
      v_lt_serial_bound = c.requires.1;
      v_bound = room_after c.put_group-past.ensures _ (omega (arith, c.requires.2, dart_length c.args.vertex c.args.serial));
    }

pub returns : goal.returns
returns c =
    stored_as (dart_bytes (record { vertex = c.args.vertex; serial = c.args.serial })) (stored_then c.put_group-past.ensures c.put_serial.ensures)
