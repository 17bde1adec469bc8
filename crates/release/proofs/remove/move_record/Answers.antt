-- `release::remove::move_record` meets its contract: the record with its places moved is stored. Assumes nothing.
use mathlib.Core.Path.{sym, subst}
use lib.ListN.{length, get_or}
use Rattle.memory.specs.declared.record.Record.{Record}
use Rattle.place.specs.Renumber.{LinksBelow}
use Rattle.release.proofs.Removing.{record_moved}
use native.Mathlib.Omega.{arith}
use Rattle.release.proofs.remove.move_record.Goals as goal

pub record_at-r-requires : goal.record_at-r-requires
record_at-r-requires c =
    c.requires.0

pub renumbered-requires : goal.renumbered-requires
renumbered-requires c =
    subst (λ (r : Record). LinksBelow (length c.args.table.now) r) (sym c.record_at-r.ensures) c.requires.2

pub put_record-requires : goal.put_record-requires
put_record-requires c =
    omega (arith, c.requires.0, c.requires.1)

pub returns : goal.returns
returns c =
    record_moved c.args.block.now c.args.from.0 c.args.at.0 (λ p. get_or c.args.table.now p 0)
    c.record_at-r.ensures c.renumbered.ensures c.put_record.ensures
