-- `vectors::finite_float` meets its contract. Assumes nothing.
use Rattle.memory.proofs.Points.{no_nan_pattern}
use Rattle.vectors.proofs.finite_float.Goals as goal

pub float_from_bits-result : goal.float_from_bits-result
float_from_bits-result c =
    no_nan_pattern c.args.w c.requires
