-- `parts::meets::is_new` meets its contract.
-- Assumes nothing.
use lib.Dec.{eqb}
use lib.ListN.{get_or}
use Rattle.parts.proofs.SewnFaces.{not_place, a_place}
use native.Mathlib.Omega.{arith}
use Rattle.parts.proofs.meets.is_new.Goals as goal

pub returns-then-p-n : goal.returns-then-p-n
returns-then-p-n c =
    not_place c.args.y.0 c.args.n (eqb (get_or c.args.seen.now c.args.y.0 0) 0) c.if-p-n.true

pub returns : goal.returns
returns c =
    a_place c.args.y.0 c.args.n (eqb (get_or c.args.seen.now c.args.y.0 0) 0) (omega arith)
