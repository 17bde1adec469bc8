-- `corners::over` meets its contract. Assumes nothing.
use lib.Ieee.{Float, binary64, div}
use Rattle.std.proofs.Common.{ap}
use Rattle.corners.proofs.over.Goals as goal

pub returns : goal.returns
returns c =
    let a = c.args.a in
    ap (λ (d : Float). record { x = div binary64 a.x d; y = div binary64 a.y d; z = div binary64 a.z d }) c.nearest_u64_to_f64-d.ensures
