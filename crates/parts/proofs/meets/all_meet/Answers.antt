use Rattle.parts.specs.Meets.{meets_at}
use Rattle.parts.proofs.NumberLaws.{every_none, every_more, every_all}
use native.Mathlib.Omega.{arith}
use Rattle.parts.proofs.meets.all_meet.Goals as goal

pub loop-j-init : goal.loop-j-init
loop-j-init c =
    let block = c.args.block.now in
    let draft = c.args.draft.now in
    let ranks = c.args.ranks.now in
    let at = c.args.at.0 in
    let size = c.args.size in
    let trail = c.args.trail.now in
    (every_none (meets_at block draft ranks at size trail), omega arith)

pub meets-ok-requires : goal.meets-ok-requires
meets-ok-requires c =
    (c.requires.0, c.requires.1, omega arith, c.requires.2)

pub loop-j-preserved : goal.loop-j-preserved
loop-j-preserved c =
    let block = c.args.block.now in
    let draft = c.args.draft.now in
    let ranks = c.args.ranks.now in
    let at = c.args.at.0 in
    let size = c.args.size in
    let trail = c.args.trail.now in
    (every_more (meets_at block draft ranks at size trail) c.loop-j.j c.loop-j.invariant.0 c.meets-ok.ensures, omega arith)

pub returns : goal.returns
returns c =
    let block = c.args.block.now in
    let draft = c.args.draft.now in
    let ranks = c.args.ranks.now in
    let at = c.args.at.0 in
    let size = c.args.size in
    let trail = c.args.trail.now in
    every_all (meets_at block draft ranks at size trail) c.loop-j.invariant.0 c.loop-j.invariant.1 (omega arith)
