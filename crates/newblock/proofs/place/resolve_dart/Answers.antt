-- `newblock::place::resolve_dart` meets its contract: the record with places is stored at its place.
-- Assumes nothing.
use Rattle.newblock.proofs.Resolving.{record_placed}
use Rattle.newblock.proofs.place.resolve_dart.Goals as goal

pub returns : goal.returns
returns c =
    record_placed _ c.args.block.now c.args.p.0 c.record_at-r.ensures c.place_near-next.ensures c.place_near-opposite.ensures
    c.link_place-link.ensures c.put_record.ensures
