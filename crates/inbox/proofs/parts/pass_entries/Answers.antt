use Prim.Native.Nat.{◌+◌, ◌-◌}
use mathlib.Core.Path.{◌≡◌, subst}
use Rattle.inbox.specs.Parts.{entry}
use Rattle.codec.proofs.Passing.{Passing, passing_start, passing_more, passing_stop, passing_end}
use native.Mathlib.Omega.{arith}
use Rattle.inbox.proofs.parts.pass_entries.Goals as goal

pub loop-k-init : goal.loop-k-init
loop-k-init c =
    let all : c.args.count ≡ c.args.count - 0 = omega arith in
    λ fs z. subst (λ n. Passing (entry c.args.part fs) c.args.s.now c.args.at c.args.count n c.args.at) all (passing_start (entry c.args.part fs) c.requires.0)

pub returns-in_err-index : goal.returns-in_err-index
returns-in_err-index c =
    rw c.from_residual.ensures (λ fs z. passing_stop (entry c.args.part fs) (c.loop-k.invariant fs z) c.in_err-index.was (omega (arith, c.loop-k-test.true))
    (c.pass_entry.ensures fs z))

pub loop-k-preserved : goal.loop-k-preserved
loop-k-preserved c =
    let left : c.args.count - c.loop-k.k - 1 ≡ c.args.count - (c.loop-k.k + 1) = omega arith in
    λ fs z. subst (λ n. Passing (entry c.args.part fs) c.args.s.now c.args.at c.args.count n c.in_ok-index.next) left
    (passing_more (entry c.args.part fs) (c.loop-k.invariant fs z) c.in_ok-index.was (omega (arith, c.loop-k-test.true)) (c.pass_entry.ensures fs z))

pub returns : goal.returns
returns c =
    λ fs z. passing_end (entry c.args.part fs) (c.loop-k.invariant fs z) (omega (arith, c.loop-k-test.false))
