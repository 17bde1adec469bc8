-- `memory::point::point_of` meets its contract: a finite pattern is no NaN's.
-- Assumes nothing.
use Rattle.memory.proofs.Points.{no_nan_pattern}
use Rattle.memory.proofs.point.point_of.Goals as goal

pub float_from_bits-result : goal.float_from_bits-result
float_from_bits-result c =
    no_nan_pattern c.args.x c.requires.0

pub float_from_bits-result-2 : goal.float_from_bits-result-2
float_from_bits-result-2 c =
    no_nan_pattern c.args.y c.requires.1

pub float_from_bits-result-3 : goal.float_from_bits-result-3
float_from_bits-result-3 c =
    no_nan_pattern c.args.z c.requires.2
