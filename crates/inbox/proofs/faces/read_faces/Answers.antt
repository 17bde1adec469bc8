use Rattle.inbox.proofs.FaceArrays.{reading_start, reading_more, reading_stop, reading_none, reading_end, face_fits}
use native.Mathlib.Omega.{arith}
use Rattle.inbox.proofs.faces.read_faces.Goals as goal

pub loop-k-init : goal.loop-k-init
loop-k-init c =
    reading_start _ _ _ c.requires.0 c.requires.1

pub read_face-requires : goal.read_face-requires
read_face-requires c =
    (c.loop-k.invariant.few, c.loop-k.invariant.sides)

pub returns-in_err-n : goal.returns-in_err-n
returns-in_err-n c =
    rw c.from_residual.ensures (reading_stop _ _ _ c.loop-k.invariant c.in_err-n.was c.loop-k-test.true c.read_face.ensures)

pub overflow_add-darts : goal.overflow_add-darts
overflow_add-darts c =
    omega (arith, face_fits c.in_ok-n.was c.read_face.ensures)

pub loop-k-preserved : goal.loop-k-preserved
loop-k-preserved c =
    reading_more _ _ _ c.loop-k.invariant c.in_ok-n.was c.loop-k-test.true c.read_face.ensures

pub returns-then-darts-eq0 : goal.returns-then-darts-eq0
returns-then-darts-eq0 c =
    reading_none _ _ _ c.loop-k.invariant c.loop-k-test.false c.if-darts-eq0.true

pub returns : goal.returns
returns c =
    reading_end _ _ _ c.loop-k.invariant c.loop-k-test.false c.if-darts-eq0.false
