use mathlib.Core.Path.{refl, ◌∙◌}
use lib.ListN.{length-set}
use Rattle.arrival.proofs.SegmentLaws.{next_below}
use Rattle.arrival.proofs.Steps.{pairing_none, pairing_more, pairing_all}
use native.Mathlib.Omega.{arith}
use Rattle.arrival.proofs.pairs.put_pairs.Goals as goal

pub loop-i-init : goal.loop-i-init
loop-i-init c =
    (pairing_none _ _ _ _ c.requires.k_in_bounds.3, refl)

pub next_index-next-requires : goal.next_index-next-requires
next_index-next-requires c = (
  omega arith,
  omega arith,
  (let r = c.requires.segments.0.start_le c.loop-i.i (omega arith) in omega arith),
  (let r = c.requires.segments.0.end_within c.loop-i.i (omega arith) in omega arith),
)

pub offset_bounds-vertex-j : goal.offset_bounds-vertex-j
offset_bounds-vertex-j c =
    let n = next_below c.requires.segments.0 c.loop-i.i (omega arith) in
    omega (arith, n, c.next_index-next.ensures)

pub bounds-vertex-j : goal.bounds-vertex-j
bounds-vertex-j c =
    let n = next_below c.requires.segments.0 c.loop-i.i (omega arith) in
    omega (arith, n, c.next_index-next.ensures)

pub offset_bounds-vertex-j-in-loop-i : goal.offset_bounds-vertex-j-in-loop-i
offset_bounds-vertex-j-in-loop-i c =
    let n = next_below c.requires.segments.0 c.loop-i.i (omega arith) in
    omega (arith, n, c.next_index-next.ensures)

pub bounds-vertex-j-in-loop-i : goal.bounds-vertex-j-in-loop-i
bounds-vertex-j-in-loop-i c =
    let n = next_below c.requires.segments.0 c.loop-i.i (omega arith) in
    omega (arith, n, c.next_index-next.ensures)

pub edge-requires : goal.edge-requires
edge-requires c = (
  c.requires.segments.1 c.loop-i.i c.loop-i-test.true,
  c.requires.segments.1 c.next_index-next.result.0
      (let n = next_below c.requires.segments.0 c.loop-i.i (omega arith) in omega (arith, n, c.next_index-next.ensures)),
)

pub loop-i-preserved : goal.loop-i-preserved
loop-i-preserved c = (
  pairing_more c.loop-i.invariant.0 (omega arith) (c.edge.ensures ∙ rw c.next_index-next.ensures refl) (rw c.next_index-next.ensures refl),
  length-set c.loop-i.pairs _ _ ∙ c.loop-i.invariant.1,
)

pub shape_of-pairs : goal.shape_of-pairs
shape_of-pairs c =
    c.loop-i.invariant.1

pub returns : goal.returns
returns c =
    pairing_all c.loop-i.invariant.0 (omega arith)
