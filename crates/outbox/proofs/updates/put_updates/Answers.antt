use mathlib.Core.Path.{ap}
use lib.ListN.{length}
use Rattle.answers.proofs.Questions.{said_no, said_yes}
use Rattle.departure.proofs.FirstNo.{ranges_in}
use Rattle.codec.proofs.EntryLaws.{stored_as}
use Rattle.outbox.proofs.Running.{run_fits, running_start, running_size, running_end, running_within, running_space, running_step, running_skip}
use Rattle.outbox.specs.ByBlocks.{told_put}
use Rattle.outbox.proofs.SharesLaws.{shares_few}
use Rattle.outbox.proofs.UpdateLaws.{told_none, told_small, told_some}
use Rattle.outbox.proofs.Rest.{stored_rest}
use Rattle.outbox.proofs.Relatives.{updates_bytes}
use native.Mathlib.Omega.{arith}
use Rattle.outbox.proofs.updates.put_updates.Goals as goal

pub loop-k-init : goal.loop-k-init
loop-k-init c =
    let a = c.args in
    running_start _ _ _ _
    (omega (
      arith,
      told_small c.requires.shares c.requires.darts_listed.1.few a.to
          (ranges_in a.block.now c.requires.block_value.0).number_small c.requires.block_value.1,
    ))

pub loop-k-preserved-then-not-relative : goal.loop-k-preserved-then-not-relative
loop-k-preserved-then-not-relative c =
    let a = c.args in
    running_skip c.loop-k.invariant c.loop-k-test.true
    (told_none a.block.now a.to a.order.now a.starts.now a.counts.darts a.counts.faces c.loop-k.k
    (c.requires.shares.labels_are c.loop-k.k c.loop-k-test.true) (said_no c.relative.ensures c.if-not-relative.true))

pub slice_bounds-rest-count : goal.slice_bounds-rest-count
slice_bounds-rest-count c =
    omega (arith, running_within c.loop-k.invariant c.loop-k-test.true, running_size c.loop-k.invariant, c.requires.faces_in_bounds)

pub slice_bounds-rest-start : goal.slice_bounds-rest-start
slice_bounds-rest-start c =
    omega (arith, running_within c.loop-k.invariant c.loop-k-test.true, running_size c.loop-k.invariant, c.requires.faces_in_bounds)

pub overflow_add-at : goal.overflow_add-at
overflow_add-at c =
    let a = c.args in
    let some =
    told_some a.block.now a.to a.order.now a.starts.now a.counts.darts a.counts.faces c.loop-k.k
    (c.requires.shares.labels_are c.loop-k.k c.loop-k-test.true) (said_yes c.relative.ensures c.if-not-relative.false) in
    omega (
      arith,
      told_small c.requires.shares c.requires.darts_listed.1.few a.to
          (ranges_in a.block.now c.requires.block_value.0).number_small c.requires.block_value.1,
      run_fits (told_put a.block.now a.to a.order.now a.starts.now a.counts.darts a.counts.faces) c.loop-k.k 16 c.loop-k-test.true,
      c.loop-k.invariant.so_far.past,
      ap length some,
      c.put_update-at.ensures.past,
    )

pub loop-k-preserved : goal.loop-k-preserved
loop-k-preserved c =
    let a = c.args in
    let some =
    told_some a.block.now a.to a.order.now a.starts.now a.counts.darts a.counts.faces c.loop-k.k
    (c.requires.shares.labels_are c.loop-k.k c.loop-k-test.true) (said_yes c.relative.ensures c.if-not-relative.false) in
    running_step c.loop-k.invariant c.loop-k-test.true
    (stored_as some
    (stored_rest c.loop-k.out _ c.loop-k.at (omega (arith, running_within c.loop-k.invariant c.loop-k-test.true, running_size c.loop-k.invariant, c.requires.faces_in_bounds))
    c.put_update-at.ensures))

pub returns : goal.returns
returns c =
    let block = c.args.block.now in
    let to = c.args.to in
    λ marks numbers firsts s. stored_as (updates_bytes block c.requires.block_value.0 to c.requires.block_value.1 s)
    (running_end c.loop-k.invariant (omega (arith, c.loop-k-test.false)))

pub put_update-at-requires : goal.put_update-at-requires
put_update-at-requires c =
    let a = c.args in
    let sh = c.requires.shares in
    let few = shares_few sh c.requires.darts_listed.1.few in
    let some =
    told_some a.block.now a.to a.order.now a.starts.now a.counts.darts a.counts.faces c.loop-k.k
    (sh.labels_are c.loop-k.k c.loop-k-test.true) (said_yes c.relative.ensures c.if-not-relative.false) in
    record {
      darts_listed = c.requires.darts_listed;
      block_bound = (
        (ranges_in a.block.now c.requires.block_value.0).number_small,
        c.requires.block_value.1,
        omega (arith, c.loop-k-test.true),
        few.labels_few c.loop-k.k c.loop-k-test.true,
        few.bytes_few c.loop-k.k c.loop-k-test.true,
      );
      n_value = (sh.labels_are c.loop-k.k c.loop-k-test.true, sh.bytes_are c.loop-k.k c.loop-k-test.true);
      k_bound = omega (arith, running_space c.loop-k.invariant c.loop-k-test.true, ap length some);
    }
