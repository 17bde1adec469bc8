-- `savefile::put::put_dart` meets its contract: links, third link and point, one stored after the other.
-- Assumes nothing.
use Rattle.model.specs.Image.{column}
use Rattle.groups.proofs.Writing.{stored_then}
use Rattle.codec.proofs.DartLaws.{link_length}
use Rattle.savefile.proofs.FileBytes.{dart_put, dart_length, point_fine, point_is}
use native.Mathlib.Omega.{arith}
use Rattle.savefile.proofs.put.put_dart.Goals as goal

pub put_links-past_links-requires : goal.put_links-past_links-requires
put_links-past_links-requires c =
    let block = c.args.block.now in
    let p' = c.args.p.0 in
    rw (c.field-serial.ensures, c.serial_along-next.ensures, c.serial_along-opposite.ensures) (
      c.requires.0.serial_small,
      c.requires.0.next_small,
      c.requires.0.opposite_small,
      omega
          (arith, c.requires.1, dart_length block p', link_length (column block 0 p') (column block 0 (column block 1 p')) (column block 0 (column block 2 p'))),
    )

pub put_third-past_third-requires : goal.put_third-past_third-requires
put_third-past_third-requires c =
    let block = c.args.block.now in
    let p' = c.args.p.0 in
    let s = rw (c.field-serial.ensures, c.serial_along-next.ensures, c.serial_along-opposite.ensures) at c.put_links-past_links.ensures in (
      rw (c.field-kind.ensures, c.third_along.ensures) c.requires.0.third_small,
      rw (c.field-kind.ensures, c.third_along.ensures)
          (omega (arith, c.requires.1, dart_length block p', link_length (column block 0 p') (column block 0 (column block 1 p')) (column block 0 (column block 2 p')), s.past)),
    )

pub put_point-requires : goal.put_point-requires
put_point-requires c =
    let block = c.args.block.now in
    let p' = c.args.p.0 in
    let s = rw (c.field-serial.ensures, c.serial_along-next.ensures, c.serial_along-opposite.ensures) at c.put_links-past_links.ensures in
    let t = rw (c.field-kind.ensures, c.third_along.ensures) at c.put_third-past_third.ensures in (
      point_fine block p' c.requires.0.finite_here c.point_at.ensures,
      omega
          (arith, c.requires.1, dart_length block p', link_length (column block 0 p') (column block 0 (column block 1 p')) (column block 0 (column block 2 p')), s.past, t.past),
    )

pub returns : goal.returns
returns c =
    let s = rw (c.field-serial.ensures, c.serial_along-next.ensures, c.serial_along-opposite.ensures) at c.put_links-past_links.ensures in
    let t = rw (c.field-kind.ensures, c.third_along.ensures) at c.put_third-past_third.ensures in
    let u = rw (point_is _ _ c.requires.0.finite_here c.point_at.ensures) at c.put_point.ensures in
    rw (dart_put _ _) (stored_then s (stored_then t u))
