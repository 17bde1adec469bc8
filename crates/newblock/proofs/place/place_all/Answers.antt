use Rattle.std.proofs.Common.{◌∙◌, arith}
use Rattle.newblock.proofs.Imaged.{serials_ascend, resolved_is}
use Rattle.newblock.proofs.Resolving.{placing_start, placing_length, placing_ascends, placing_more, placing_ends}
use Rattle.newblock.proofs.place.place_all.Goals as goal

pub loop-i-init : goal.loop-i-init
loop-i-init c =
    placing_start _

pub resolve_dart-requires : goal.resolve_dart-requires
resolve_dart-requires c =
    let fits = c.requires.fits in (
      c.loop-i-test.true,
      omega (arith, placing_length c.loop-i.invariant (omega (arith, fits)), fits),
      placing_ascends c.loop-i.invariant (omega (arith, fits)) (serials_ascend c.requires),
    )

pub loop-i-preserved : goal.loop-i-preserved
loop-i-preserved c =
    placing_more c.loop-i.invariant (omega (arith, c.requires.fits)) c.loop-i-test.true c.resolve_dart.ensures

pub returns : goal.returns
returns c =
    placing_ends c.loop-i.invariant (omega (arith, c.requires.fits)) c.loop-i-test.false ∙ resolved_is c.requires
