-- `decimal::times` meets its contract: one rounding of the exact product. Assumes nothing.
use Rattle.std.proofs.Common.{ap, ◌∙◌}
use lib.Ieee.{Float, binary64, mul}
use Rattle.decimal.proofs.Floats.{times_once}
use Rattle.decimal.proofs.times.Goals as goal

pub returns : goal.returns
returns c =
    ap (λ (x : Float). mul binary64 x c.ten_to.result) c.nearest_u64_to_f64.ensures ∙ times_once _ _ c.args.k c.requires.0 c.ten_to.ensures
