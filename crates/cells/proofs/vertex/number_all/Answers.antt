use mathlib.Core.Path.{refl, ◌∙◌}
use lib.ListN.{length-set}
use Rattle.model.specs.Image.{column}
use Rattle.cells.proofs.RingLaws.{passing_start, passing_skip, passing_new, passing_end, ring_test}
use Rattle.cells.proofs.vertex.number_all.Goals as goal

pub loop-i-init : goal.loop-i-init
loop-i-init c =
    let block = c.args.block.now in
    (passing_start _ (column block 1) (column block 2) _ _ _ _ c.requires.n_in_bounds.0 c.requires.n_in_bounds.1 c.requires.n_in_bounds.2, refl, refl)

pub loop-i-preserved-then-numbers-p-ne4096 : goal.loop-i-preserved-then-numbers-p-ne4096
loop-i-preserved-then-numbers-p-ne4096 c = (
  passing_skip c.loop-i.invariant.0 c.loop-i-test.true c.requires.linked.1 c.requires.linked.2 c.requires.linked.3 refl c.if-numbers-p-ne4096.true,
  c.loop-i.invariant.1,
  c.loop-i.invariant.2,
)

pub loop-i-preserved : goal.loop-i-preserved
loop-i-preserved c =
    let l = c.requires.linked.0 in (
      passing_new c.loop-i.invariant.0 c.loop-i-test.true c.requires.linked.1 c.requires.linked.2 c.requires.linked.3 refl c.if-numbers-p-ne4096.false
          (ring_test _ _ _ l.few l.next_within l.next_apart l.opposite_within l.opposite_apart) c.assign_ring.ensures,
      c.assign_ring.ensures.size ∙ c.loop-i.invariant.1,
      simp length-set c.loop-i.invariant.2,
    )

pub returns : goal.returns
returns c =
    passing_end c.loop-i.invariant.0 c.loop-i-test.false c.requires.linked.2 c.requires.linked.3
