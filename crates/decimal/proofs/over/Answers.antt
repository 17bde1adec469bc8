-- `decimal::over` meets its contract: one rounding of the exact quotient. Assumes nothing.
use Rattle.std.proofs.Common.{ap, ◌∙◌}
use lib.Ieee.{Float, binary64, div}
use Rattle.decimal.proofs.Floats.{over_once}
use Rattle.decimal.proofs.over.Goals as goal

pub returns : goal.returns
returns c =
    ap (λ (x : Float). div binary64 x c.ten_to.result) c.nearest_u64_to_f64.ensures ∙ over_once _ _ c.args.k c.requires.0 c.ten_to.ensures
