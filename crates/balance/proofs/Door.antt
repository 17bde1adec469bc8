-- What the questions of the mesh check say, and the questions of the next move after them. Assumes nothing.
use mathlib.Core.Path.{◌≡◌, sym}
use mathlib.Core.Bool.{true}
use mathlib.Core.List.{List, map}
use Prim.Native.Nat.{ℕ}
use native.Mathlib.Omega.{arith}
use borrow.Author.Tests.{eqb-true}
use Rattle.model.specs.Lists.{all}
use Rattle.model.specs.Values.{limits_in}
use Rattle.model.specs.Sound.{blocks_right, mesh_checks}
use Rattle.model.specs.Image.{block_in, holds_block}
use Rattle.model.specs.Calls.{served, memories, whole_mesh_checks}
use Rattle.answers.specs.Answers.{answered}
use Rattle.laws.proofs.Tests.{yes_first}
use Rattle.mesh.proofs.Among.{parts_hold}
use Rattle.balance.proofs.Strikes.{none_refused}

-- a mesh that passes the check has what `next_of` asks
pub parts_passed : (viewers : ℕ) (m scratch : List ℕ) → served (tt {0}) ≡ answered (whole_mesh_checks (limits_in viewers) m scratch)
    → (all (λ b. holds_block b) (memories m) ≡ true) × (blocks_right (map block_in (memories m)) ≡ true)
unfolding whole_mesh_checks mesh_checks
parts_passed viewers m scratch h =
    let one = yes_first 1 _ _ (λ z. omega arith) (eqb-true _ _ (sym (none_refused (whole_mesh_checks (limits_in viewers) m scratch) h))) in
    let two = yes_first 2 _ _ (λ z. omega arith) one.1 in
    let three = yes_first 23 _ _ (λ z. omega arith) two.1 in
    (parts_hold viewers m two.0, three.0)
