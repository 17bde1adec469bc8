-- `outbox::update::update_size` meets its contract: the rest and the count of its length, if the block is told. Assumes nothing.
use Rattle.answers.proofs.Questions.{said_no, said_yes}
use Rattle.theory.proofs.GroupLaws.{group_length, count_most}
use Rattle.outbox.proofs.UpdateLaws.{size_none, size_some}
use native.Mathlib.Omega.{arith}
use Rattle.outbox.proofs.update.update_size.Goals as goal

pub returns-then-not-relative : goal.returns-then-not-relative
returns-then-not-relative c =
    (size_none c.args.to c.args.k c.args.n c.args.bytes (said_no c.relative.ensures c.if-not-relative.true), omega arith)

pub overflow_add-result : goal.overflow_add-result
overflow_add-result c =
    omega (arith, c.group_count.ensures, count_most c.rest_size-rest.result (omega (arith, c.rest_size-rest.ensures.1)), c.rest_size-rest.ensures.1)

pub returns : goal.returns
returns c =
    let to = c.args.to in
    let k = c.args.k in
    let n = c.args.n in
    let bytes = c.args.bytes in (
      size_some to k n bytes (said_yes c.relative.ensures c.if-not-relative.false) c.rest_size-rest.ensures.0
          (omega (arith, c.group_count.ensures, group_length c.rest_size-rest.result (omega (arith, c.rest_size-rest.ensures.1)))),
      omega
          (arith, c.group_count.ensures, count_most c.rest_size-rest.result (omega (arith, c.rest_size-rest.ensures.1)), c.rest_size-rest.ensures.1),
    )
