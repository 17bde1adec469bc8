use mathlib.Core.Path.{sym, ◌∙◌}
use Rattle.commands.specs.Words.{belongs}
use Rattle.commands.proofs.Scans.{leading_on, leading_stop, leading_end, leading_start}
use native.Mathlib.Omega.{arith}
use Rattle.commands.proofs.words.leading.Goals as goal

pub loop-i-init : goal.loop-i-init
loop-i-init c =
    (omega arith, leading_start (belongs c.args.kind) _)

pub returns-then-not-belongs : goal.returns-then-not-belongs
returns-then-not-belongs c =
    let kind = c.args.kind in
    let text = c.args.text.now in
    record {
      count = sym (leading_stop (belongs kind) text c.loop-i.i (omega arith) (sym c.belongs.ensures ∙ c.if-not-belongs.true)) ∙ c.loop-i.invariant.1;
      within = omega arith;
    }

pub loop-i-preserved : goal.loop-i-preserved
loop-i-preserved c =
    let kind = c.args.kind in
    let text = c.args.text.now in (
      omega arith,
      sym (leading_on (belongs kind) text c.loop-i.i (omega arith) (sym c.belongs.ensures ∙ c.if-not-belongs.false)) ∙ c.loop-i.invariant.1,
    )

pub returns : goal.returns
returns c =
    record { count = omega (arith, leading_end (belongs c.args.kind) c.args.text.now c.loop-i.i (omega arith), c.loop-i.invariant.1); within = omega arith }
