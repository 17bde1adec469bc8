-- `dmap::dmap_next_move` meets its contract. Assumes nothing.
use Rattle.model.specs.Values.{limits_in}
use Rattle.model.specs.Calls.{next_move_by_number}
use Rattle.dmap.specs.CInterface.{point_words}
use Rattle.dmap.proofs.Through.{not_sized, moved}
use Rattle.dmap.proofs.dmap_next_move.Goals as goal

pub returns-then-answer-ne-ANSWER : goal.returns-then-answer-ne-ANSWER
returns-then-answer-ne-ANSWER c =
    let answer = c.args.answer.now in
    let scratch = c.args.scratch.now in
    let mesh = c.args.mesh.now in
    let oracle = c.args.oracle in
    let axis = c.args.axis in
    let x0 = c.args.x0 in
    let y0 = c.args.y0 in
    let z0 = c.args.z0 in
    let x1 = c.args.x1 in
    let y1 = c.args.y1 in
    let z1 = c.args.z1 in
    not_sized answer scratch (next_move_by_number (limits_in c.args.viewers) mesh oracle axis (point_words x0 y0 z0) (point_words x1 y1 z1) scratch)
    c.if-answer-ne-ANSWER.true

pub tell_balance-requires : goal.tell_balance-requires
tell_balance-requires c =
    c.if-answer-ne-ANSWER.false

pub returns : goal.returns
returns c =
    moved c.args.answer.now c.args.scratch.now c.if-answer-ne-ANSWER.false c.tell_balance.ensures c.next_move_by_number.ensures
