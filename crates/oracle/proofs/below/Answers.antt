-- `oracle::below` meets its contract. Assumes nothing.
use Rattle.oracle.proofs.Floats.{lt_test}
use Rattle.oracle.proofs.below.Goals as goal

pub returns : goal.returns
returns c =
    lt_test c.args.a c.args.b c.well_formed.0.1 c.well_formed.1.0.1
