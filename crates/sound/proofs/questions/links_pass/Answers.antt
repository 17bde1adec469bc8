use mathlib.Core.Path.{refl, ◌∙◌}
use lib.ListN.{length-set}
use Rattle.sound.proofs.Passes.{passing_none, passing_more, passing_end, as_links, link_below}
use native.Mathlib.Omega.{arith}
use Rattle.sound.proofs.questions.links_pass.Goals as goal

pub loop-i-init : goal.loop-i-init
loop-i-init c =
    (passing_none _ _ _ _ c.requires.2 c.requires.3, refl)

pub bounds-seen-a : goal.bounds-seen-a
bounds-seen-a c =
    let lt = link_below _ _ _ c.link_at.ensures c.if-not-link_at.false in
    omega (arith, lt, c.field-a.ensures, c.loop-i.invariant.0.marks.len)

pub bounds-seen-a-in-loop-i : goal.bounds-seen-a-in-loop-i
bounds-seen-a-in-loop-i c =
    let lt = link_below _ _ _ c.link_at.ensures c.if-not-link_at.false in
    omega (arith, lt, c.field-a.ensures, c.loop-i.invariant.0.marks.len)

pub loop-i-preserved : goal.loop-i-preserved
loop-i-preserved c =
    let lt = link_below _ _ _ c.link_at.ensures c.if-not-link_at.false in (
      passing_more c.loop-i.invariant.0 c.loop-i-test.true c.link_at.ensures c.if-not-link_at.false lt c.field-a.ensures c.if-seen-a-ne0.false,
      length-set c.loop-i.seen _ _ ∙ c.loop-i.invariant.1,
    )

pub returns : goal.returns
returns c =
    as_links (passing_end c.loop-i.invariant.0 c.loop-i-test.false)
