use Rattle.std.proofs.Common.{◌≡◌, ℕ, ◌^◌, false, refl, subst, arith}
use lib.Ieee.{of_bits}
use lib.Ieee.Exact.{HasValue}
use Rattle.decimal.proofs.Floats.{ten_more}
use Rattle.decimal.proofs.ten_to.Goals as goal

pub loop-i-init : goal.loop-i-init
unfolding of_bits
loop-i-init c =
    (omega arith, (refl, refl))

pub loop-i-preserved : goal.loop-i-preserved
unfolding of_bits
loop-i-preserved c =
    (omega arith, ten_more _ _ c.loop-i.i (omega arith) c.loop-i.invariant.1 (refl, refl))

pub returns : goal.returns
returns c =
    let same : c.loop-i.i ≡ c.args.k = omega arith in
    subst (λ (z : ℕ). HasValue c.loop-i.power false (10 ^ z) 1) same c.loop-i.invariant.1
