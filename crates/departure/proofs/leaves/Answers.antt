-- `departure::leaves` meets its contract: 9 and 10, then what `volume_leaves` answers. Assumes nothing.
use Rattle.answers.proofs.Questions.{said_no, said_yes}
use Rattle.cells.proofs.Sited.{sited}
use Rattle.departure.proofs.Answers.{held_no, held_yes}
use Rattle.departure.proofs.FirstNo.{first_9, first_10, leaves_told}
use native.Mathlib.Omega.{arith}
use Rattle.departure.proofs.leaves.Goals as goal

pub destination_right-requires : goal.destination_right-requires
destination_right-requires c =
    omega (arith, (sited c.args.block.now c.requires.block_value.0).linked.size)

pub returns-then-not-destination_right : goal.returns-then-not-destination_right
returns-then-not-destination_right c =
    let clear = c.requires.block_in_bounds in
    record {
      answer = first_9 c.args.limits.volume c.args.block.now c.args.to c.args.serial
          (said_no c.destination_right.ensures c.if-not-destination_right.true);
      clear = (clear.1, clear.3);
    }

pub place_held-requires : goal.place_held-requires
place_held-requires c =
    let m = c.args.block.now in
    let site = sited m c.requires.block_value.0 in
    (site.linked.size, site.ascends)

pub returns-in_default : goal.returns-in_default
returns-in_default c =
    let m = c.args.block.now in
    let serial = c.args.serial in
    let clear = c.requires.block_in_bounds in
    record {
      answer = first_10 c.args.limits.volume m c.args.to serial (said_yes c.destination_right.ensures c.if-not-destination_right.false)
          (held_no m serial c.place_held.ensures c.in_default.is);
      clear = (clear.1, clear.3);
    }

pub volume_leaves-requires : goal.volume_leaves-requires
volume_leaves-requires c =
    let m = c.args.block.now in
    let held = held_yes m c.args.serial c.place_held.ensures (sited m c.requires.block_value.0) c.in-Some.is in
    record {
      block_value = (c.requires.block_value.0, c.requires.block_value.1, held.below);
      block_in_bounds = c.requires.block_in_bounds;
      block_in_bounds_2 = c.requires.block_in_bounds_2;
      block_in_bounds_3 = c.requires.block_in_bounds_3;
    }

pub returns : goal.returns
returns c =
    let m = c.args.block.now in
    let serial = c.args.serial in
    let held = held_yes m serial c.place_held.ensures (sited m c.requires.block_value.0) c.in-Some.is in
    record {
      answer = leaves_told _ m c.args.to serial (said_yes c.destination_right.ensures c.if-not-destination_right.false) held _ _ _ _ _ _
          c.volume_leaves.ensures.answer;
      clear = c.volume_leaves.ensures.clear;
    }
