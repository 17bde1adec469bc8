-- `rebalance_run::balance_first` meets its contract. Assumes nothing.
use Prim.Native.Nat.{◌*◌}
use mathlib.Core.Path.{sym}
use lib.Seq.{length-take-le}
use native.Mathlib.Omega.{arith}
use Rattle.rebalance_run.proofs.balance_first.Goals as goal

pub slice_bounds-balance_blocks-end-then-k-mesh : goal.slice_bounds-balance_blocks-end-then-k-mesh
slice_bounds-balance_blocks-end-then-k-mesh c =
    sym (length-take-le (c.args.k * 32776) c.args.mesh.now (omega (arith, c.if-k-mesh.true)))
