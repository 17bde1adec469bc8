use mathlib.Core.Path.{sym, ◌∙◌}
use Rattle.cells.specs.Places.{sewn_in}
use Rattle.cells.proofs.SewnLaws.{some_first, none_first}
use native.Mathlib.Omega.{arith}
use Rattle.cells.proofs.sewn.sewn_within.Goals as goal

pub returns-then-sewn_at : goal.returns-then-sewn_at
returns-then-sewn_at c =
    let block = c.args.block.now in
    let marks = c.args.marks.now in
    let order = c.args.order.now in
    let darts = c.args.darts in
    some_first (sewn_in block marks) order darts c.loop-i.i c.loop-i-test.true c.requires.darts_le_room.1 (sym c.sewn_at.ensures ∙ c.if-sewn_at.true)

pub returns : goal.returns
returns c =
    let block = c.args.block.now in
    let marks = c.args.marks.now in
    let order = c.args.order.now in
    let darts = c.args.darts in
    none_first (sewn_in block marks) order darts (λ k h. c.loop-i.invariant.1 k (omega (arith, c.loop-i-test.false))) c.requires.darts_le_room.1
