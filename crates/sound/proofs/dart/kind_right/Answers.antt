-- `sound::dart::kind_right` meets its contract: by the kind word.
-- Assumes nothing.
use Rattle.sound.proofs.OneDart.{near_go, critical_go}
use Rattle.sound.proofs.dart.kind_right.Goals as goal

pub returns-then-is_critical : goal.returns-then-is_critical
returns-then-is_critical c =
    critical_go _ _ _ _ _ c.is_critical.ensures c.if-is_critical.true c.critical_right.ensures

pub returns : goal.returns
returns c =
    near_go _ _ _ _ _ c.is_critical.ensures c.if-is_critical.false
