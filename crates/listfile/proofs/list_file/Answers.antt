use Rattle.model.specs.Values.{rack}
use Rattle.listing.proofs.Listed.{listed_long, listed_short}
use Rattle.listfile.proofs.Texts.{printed_as}
use native.Mathlib.Omega.{arith}
use Rattle.listfile.proofs.list_file.Goals as goal

pub returns-then-file-gt65536 : goal.returns-then-file-gt65536
returns-then-file-gt65536 c =
    printed_as (listed_long rack _ (omega (arith, c.if-file-gt65536.true))) c.put_too_long.ensures

pub returns : goal.returns
returns c =
    printed_as (listed_short rack _ (omega (arith, c.if-file-gt65536.false))) c.list_whole.ensures
