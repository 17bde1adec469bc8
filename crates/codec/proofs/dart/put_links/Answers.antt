-- `codec::dart::put_links` meets its contract: three serials, one stored after the other. Assumes nothing.
use Rattle.groups.proofs.Writing.{stored_then}
use Rattle.codec.specs.Darts.{link_bytes}
use Rattle.codec.proofs.DartLaws.{link_length}
use native.Mathlib.Omega.{arith}
use Rattle.codec.proofs.dart.put_links.Goals as goal

pub put_serial-past_serial-requires : goal.put_serial-past_serial-requires
put_serial-past_serial-requires c =
    record { v_lt_serial_bound = c.requires.0; v_bound = omega (arith, c.requires.3, link_length c.args.serial c.args.next c.args.opposite) }

pub put_serial-past_next-requires : goal.put_serial-past_next-requires
put_serial-past_next-requires c =
    record {
      v_lt_serial_bound = c.requires.1;
      v_bound = omega (arith, c.requires.3, link_length c.args.serial c.args.next c.args.opposite, c.put_serial-past_serial.ensures.past);
    }

pub put_serial-requires : goal.put_serial-requires
put_serial-requires c =
    record {
      v_lt_serial_bound = c.requires.2;
      v_bound = omega
          (arith, c.requires.3, link_length c.args.serial c.args.next c.args.opposite, c.put_serial-past_serial.ensures.past, c.put_serial-past_next.ensures.past);
    }

pub returns : goal.returns
unfolding link_bytes
returns c =
    stored_then c.put_serial-past_serial.ensures (stored_then c.put_serial-past_next.ensures c.put_serial.ensures)
