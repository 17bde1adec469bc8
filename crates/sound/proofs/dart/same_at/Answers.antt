-- `sound::dart::same_at` meets its contract: the points of finite words have these words as patterns.
-- Assumes nothing.
use Rattle.memory.proofs.Points.{point_finite}
use Rattle.sound.proofs.OneDart.{same_go}
use Rattle.sound.proofs.dart.same_at.Goals as goal

pub same_point-requires : goal.same_point-requires
same_point-requires c =
    let here = c.requires.3 in
    let there = c.requires.4 in (
      rw c.point_at-here.ensures (point_finite _ _ _ here.on_x here.on_y here.on_z),
      rw c.point_at-there.ensures (point_finite _ _ _ there.on_x there.on_y there.on_z),
    )

pub returns : goal.returns
returns c =
    same_go _ _ _ c.requires.3 c.requires.4 c.point_at-here.ensures c.point_at-there.ensures c.same_point.ensures
