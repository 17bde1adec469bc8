-- `release::release_asked` meets its contract: the answer of questions 9 to 14, or the memory afterwards. Assumes nothing.
use Rattle.memory.specs.Header.{limits_of}
use Rattle.departure.proofs.Told.{departs_told, refused_told}
use Rattle.release.proofs.LettingGo.{volume_refused, volume_released}
use native.Mathlib.Omega.{arith}
use Rattle.release.proofs.release_asked.Goals as goal

pub leaves-requires : goal.leaves-requires
leaves-requires c =
    record {
      block_value = (c.requires.block_len.2, c.requires.block_len.3);
      block_in_bounds = c.requires.block_in_bounds;
      block_in_bounds_2 = c.requires.block_in_bounds_2;
      block_in_bounds_3 = c.requires.block_in_bounds_3;
    }

pub let_go-requires : goal.let_go-requires
let_go-requires c =
    let serial' = c.args.serial in
    let block = c.args.block.now in
    let most = c.args.limits.volume in
    let to = c.args.to in
    record {
      block_value = c.requires.block_len.2;
      may_go = record {
        most = most;
        serial = serial';
        numbers = _;
        firsts = _;
        departs = departs_told most block to serial' _ _ _ _ _ c.leaves.ensures.answer c.in-Ok.is;
      };
      block_in_bounds = omega (arith, c.leaves.auto, c.requires.block_in_bounds_2.2);
    }

pub returns-in-Err : goal.returns-in-Err
returns-in-Err c =
    let block = c.args.block.now in
    let most = c.args.limits.volume in
    let to = c.args.to in
    let serial = c.args.serial in
    volume_refused block to serial (limits_of c.args.limits) c.requires.block_len.0 c.requires.block_len.1
    (refused_told most block to serial _ _ _ _ _ c.leaves.ensures.answer c.in-Err.is)

pub returns-in-Ok : goal.returns-in-Ok
returns-in-Ok c =
    let block = c.args.block.now in
    let most = c.args.limits.volume in
    let to = c.args.to in
    let serial = c.args.serial in
    volume_released block to serial (limits_of c.args.limits) c.requires.block_len.0 c.requires.block_len.1 c.requires.block_len.2
    (departs_told most block to serial _ _ _ _ _ c.leaves.ensures.answer c.in-Ok.is) c.let_go.ensures
