use mathlib.Core.Path.{refl}
use native.Mathlib.Omega.{arith}
use borrow.Author.Rules.{rules}
use Rattle.vectors.proofs.meshes.read_mesh.Goals as goal

pub loop-b-init : goal.loop-b-init
loop-b-init c =
    (refl, omega arith)

pub loop-b-preserved : goal.loop-b-preserved
loop-b-preserved c =
    (search rules, omega arith)
