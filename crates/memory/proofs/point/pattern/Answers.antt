-- `memory::point::pattern` meets its contract: a float whose pattern is finite is no NaN.
-- Assumes nothing.
use Rattle.memory.proofs.Points.{no_nan_float}
use Rattle.memory.proofs.point.pattern.Goals as goal

pub float_to_bits-result : goal.float_to_bits-result
float_to_bits-result c =
    no_nan_float c.args.x c.requires
