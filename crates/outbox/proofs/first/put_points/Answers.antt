use Rattle.codec.proofs.EntryLaws.{stored_as}
use Rattle.outbox.proofs.Running.{running_start, running_size, running_end, running_space, running_step}
use Rattle.outbox.proofs.BytesLaws.{point_fine, point_is, point_put_length}
use native.Mathlib.Omega.{arith}
use Rattle.outbox.proofs.first.put_points.Goals as goal

pub loop-k-init : goal.loop-k-init
loop-k-init c =
    running_start _ _ _ _ c.requires.count_bound

pub point_at-requires : goal.point_at-requires
point_at-requires c =
    (c.requires.pointed.held c.loop-k.k c.loop-k-test.true, c.requires.pointed.finite c.loop-k.k c.loop-k-test.true)

pub put_point-at-requires : goal.put_point-at-requires
put_point-at-requires c =
    let block = c.args.block.now in
    let firsts = c.args.firsts.now in (
      point_fine block firsts c.loop-k.k c.point_at.result c.point_at.ensures (c.requires.pointed.finite c.loop-k.k c.loop-k-test.true),
      omega (arith, running_space c.loop-k.invariant c.loop-k-test.true, point_put_length block firsts c.loop-k.k),
    )

pub loop-k-preserved : goal.loop-k-preserved
loop-k-preserved c =
    let block = c.args.block.now in
    let firsts = c.args.firsts.now in
    running_step c.loop-k.invariant c.loop-k-test.true
    (stored_as (point_is block firsts c.loop-k.k c.point_at.result c.point_at.ensures (c.requires.pointed.finite c.loop-k.k c.loop-k-test.true))
    c.put_point-at.ensures)

pub shape_of-out : goal.shape_of-out
shape_of-out c =
    running_size c.loop-k.invariant

pub returns : goal.returns
returns c =
    running_end c.loop-k.invariant (omega (arith, c.loop-k-test.false))
