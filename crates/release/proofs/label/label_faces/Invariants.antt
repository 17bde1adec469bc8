-- `release::label::label_faces` meets its contract. The loop's invariant: the faces before f have labels.
-- The measure is what is left of the faces. Assumes nothing.
use Rattle.release.proofs.Labelling.{Facing}
use Rattle.release.proofs.label.label_faces.Given as goal

abbrev pub invariant-loop-f : goal.invariant-loop-f
invariant-loop-f l =
    Facing l.initial.block l.marks l.to l.block l.number l.f
