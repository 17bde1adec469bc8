-- `departure::questions::counter_fits` meets its contract: the faces are few, so that the sum is no more than a word. Assumes nothing.
use Prim.Native.Nat.{◌+◌, ◌^◌}
use native.Mathlib.Omega.{arith}
use lib.ListN.{get_or}
use borrow.Author.Tests.{le-ltb}
use Rattle.departure.specs.Questions.{sewn_away}
use Rattle.departure.proofs.FirstNo.{sewn_few}
use Rattle.departure.proofs.questions.counter_fits.Goals as goal

pub overflow_add-block : goal.overflow_add-block
overflow_add-block c =
    omega (arith, c.requires.linked.2, sewn_few c.args.marks.now _ c.requires.linked.0 c.requires.in_order c.count_sewn-sewn.ensures)

pub returns-then-block-sewn-ge-NUMBERS : goal.returns-then-block-sewn-ge-NUMBERS
returns-then-block-sewn-ge-NUMBERS c =
    let m = c.args.block.now in
    le-ltb (get_or m 1 0 + sewn_away m c.args.marks.now) (2 ^ 32) (omega (arith, c.count_sewn-sewn.ensures, c.if-block-sewn-ge-NUMBERS.true))
