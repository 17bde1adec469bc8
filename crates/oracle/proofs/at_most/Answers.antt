-- `oracle::at_most` meets its contract. Assumes nothing.
use Rattle.oracle.proofs.Floats.{le_test}
use Rattle.oracle.proofs.at_most.Goals as goal

pub returns : goal.returns
returns c =
    le_test c.args.a c.args.b c.well_formed.0.1 c.well_formed.1.0.1
