-- What the viewer's limits are, and so how long its arrays. Assumes nothing.
use mathlib.Core.Path.{◌≡◌, ap}
use Prim.Native.Nat.{◌≤◌}
use native.Mathlib.Omega.{arith}
use Rattle.model.specs.Values.{Limits, viewer}
use Rattle.memory.specs.Header.{limits_of}
use Rattle.memory.specs.declared.header.Limits as header

module _ (l : header.Limits) (e : limits_of l ≡ viewer) where
  pub block_fits : l.block ≤ 256
  block_fits = omega (arith, ap (λ (x : Limits). x.block_darts) e)

  pub volume_fits : l.volume ≤ 64
  volume_fits = omega (arith, ap (λ (x : Limits). x.volume_darts) e)
