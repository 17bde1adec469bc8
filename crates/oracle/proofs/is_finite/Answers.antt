-- `oracle::is_finite` meets its contract. Assumes nothing.
use Rattle.oracle.proofs.Floats.{finite_test}
use lib.Ieee.{nan_bits}
use Rattle.oracle.proofs.is_finite.Goals as goal

pub float_from_bits-top : goal.float_from_bits-top
unfolding nan_bits
float_from_bits-top c =
    tt

pub returns : goal.returns
returns c =
    finite_test c.args.x c.well_formed.0.1
