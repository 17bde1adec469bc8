-- `join::sewing::sew_at` meets its contract.
-- Assumes nothing.
use mathlib.Core.Path.{ap, ◌∙◌}
use lib.ListN.{length}
use Rattle.join.proofs.SewLaws.{third_length, at_free, at_critical, at_sewn}
use native.Mathlib.Omega.{arith}
use Rattle.join.proofs.sewing.sew_at.Goals as goal

pub returns-then-kind-eq0 : goal.returns-then-kind-eq0
returns-then-kind-eq0 c =
    at_free _ _ _ _ _ c.if-kind-eq0.true

pub returns-then-kind-ne1 : goal.returns-then-kind-ne1
returns-then-kind-ne1 c =
    c.put_third.ensures ∙ at_critical _ _ _ _ _ c.if-kind-eq0.false c.if-kind-ne1.true

pub moved_at-q-requires : goal.moved_at-q-requires
moved_at-q-requires c =
    c.requires.1 c.if-kind-ne1.false

pub put_third-requires-2 : goal.put_third-requires-2
put_third-requires-2 c =
    c.requires.0

pub put_third-requires-3 : goal.put_third-requires-3
put_third-requires-3 c =
    let block = c.args.block.now in
    let p' = c.args.p.0 in
    omega
    (arith, c.moved_at-q.ensures, c.requires.2 c.if-kind-ne1.false, ap length c.put_third-2.ensures, third_length block p' 1 c.moved_at-q.result.0)

pub returns : goal.returns
returns c =
    c.put_third-3.ensures ∙ rw (c.put_third-2.ensures, c.moved_at-q.ensures) (at_sewn _ _ _ _ _ c.if-kind-ne1.false)
