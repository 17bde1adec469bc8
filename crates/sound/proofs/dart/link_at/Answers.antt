-- `sound::dart::link_at` meets its contract: opposite is read where it is held.
-- Assumes nothing.
use Rattle.sound.proofs.OneDart.{both_lt, link_stop, link_go}
use native.Mathlib.Omega.{arith}
use Rattle.sound.proofs.dart.link_at.Goals as goal

pub returns-then-not-a-n : goal.returns-then-not-a-n
returns-then-not-a-n c =
    link_stop _ _ _ c.field-a.ensures c.field-b.ensures c.if-not-a-n.true

pub field-c-requires : goal.field-c-requires
field-c-requires c =
    let within = both_lt c.args.n c.field-a.ensures c.field-b.ensures c.if-not-a-n.false in
    (omega (arith, within.1), omega arith)

pub returns : goal.returns
returns c =
    link_go _ _ _ c.field-a.ensures c.field-b.ensures c.if-not-a-n.false c.field-c.ensures
