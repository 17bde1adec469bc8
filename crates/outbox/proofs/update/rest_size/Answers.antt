-- `outbox::update::rest_size` meets its contract: a count takes at most five bytes. Assumes nothing.
use Rattle.theory.proofs.GroupLaws.{group_length, count_most}
use Rattle.outbox.specs.ByBlocks.{rest_for}
use native.Mathlib.Omega.{arith}
use Rattle.outbox.proofs.update.rest_size.Goals as goal

pub overflow_add-result : goal.overflow_add-result
overflow_add-result c =
    omega (arith, c.group_count.ensures, count_most c.args.n (omega (arith, c.requires.0)))

pub overflow_add-result-2 : goal.overflow_add-result-2
overflow_add-result-2 c =
    omega (arith, c.group_count.ensures, count_most c.args.n (omega (arith, c.requires.0)), c.requires.1)

pub returns : goal.returns
unfolding rest_for
returns c =
    let n = c.args.n in (
      omega (arith, c.group_count.ensures, group_length n (omega (arith, c.requires.0))),
      omega (arith, c.group_count.ensures, count_most n (omega (arith, c.requires.0)), c.requires.1),
    )
