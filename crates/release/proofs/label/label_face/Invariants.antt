-- `release::label::label_face` meets its contract. The loop's invariant: the darts sewn to those before p have labels.
-- The measure is what is left of the face. Assumes nothing.
use Prim.Native.Nat.{◌-◌}
use lib.ListN.{length}
use Rattle.model.specs.Cells.{cycle}
use Rattle.model.specs.Image.{column}
use Rattle.release.proofs.Labelling.{Walking}
use Rattle.release.proofs.label.label_face.Given as goal

abbrev pub invariant-loop-p : goal.invariant-loop-p
invariant-loop-p l =
    Walking l.initial.block l.marks l.n l.to l.number l.first (length (cycle (column l.initial.block 1) l.first)) l.block l.i l.p

abbrev pub decreases-loop-p : goal.decreases-loop-p
decreases-loop-p l =
    length (cycle (column l.initial.block 1) l.first) - l.i
