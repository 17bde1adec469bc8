use Prim.Native.Nat.{ℕ}
use mathlib.Core.Path.{◌∙◌, ap}
use lib.ListN.{get_or}
use Rattle.join.proofs.SewLaws.{sewn_none, sewn_more, sewn_all}
use native.Mathlib.Omega.{arith}
use Rattle.join.proofs.sewing.sew.Goals as goal

pub loop-i-init : goal.loop-i-init
loop-i-init c =
    (sewn_none _ _ _ _ _ _, omega arith)

pub new_at-p-requires : goal.new_at-p-requires
new_at-p-requires c =
    let r = c.requires.6.rank_below c.loop-i.i (omega arith) in
    omega (arith, r, c.rank_at-r.ensures, c.requires.5)

pub sew_at-requires : goal.sew_at-requires
sew_at-requires c =
    let there = c.new_at-p.ensures ∙ ap (λ (r : ℕ). get_or c.args.new.now r 0) c.rank_at-r.ensures in (
      (let a = c.requires.6.new_below c.loop-i.i (omega arith) in omega (arith, a, there, c.loop-i.invariant.0.size, c.requires.0)),
      (λ e. let a = c.requires.6.link_below c.loop-i.i (omega arith) e in omega (arith, a, c.requires.4)),
      (λ e. let a = c.requires.6.old_below _ (c.requires.6.link_below c.loop-i.i (omega arith) e) in
          omega (arith, a, c.loop-i.invariant.0.size, c.requires.0)),
    )

pub loop-i-preserved : goal.loop-i-preserved
loop-i-preserved c = (
  sewn_more c.requires.6 (omega (arith, c.loop-i.invariant.0.size, c.requires.0)) c.loop-i.invariant.0 (omega arith) c.rank_at-r.ensures
      c.new_at-p.ensures c.sew_at.ensures,
  omega arith,
)

pub returns : goal.returns
returns c =
    sewn_all c.loop-i.invariant.0 (omega (arith, c.loop-i.invariant.1))
