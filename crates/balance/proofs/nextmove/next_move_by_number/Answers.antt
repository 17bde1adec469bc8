-- `balance::nextmove::next_move_by_number` meets its contract. Assumes nothing.
use Rattle.memory.specs.Point.{patterns}
use Rattle.balance.proofs.Turns.{by_zero, by_one, by_two, by_other}
use Rattle.balance.proofs.nextmove.next_move_by_number.Goals as goal

pub returns-then-number-eq0 : goal.returns-then-number-eq0
returns-then-number-eq0 c =
    let viewers = c.args.viewers in
    let mesh = c.args.mesh.now in
    let scratch = c.args.scratch.now in
    let number = c.args.number in
    let axis = c.args.axis in
    let low = c.args.low in
    let high = c.args.high in
    by_zero viewers mesh scratch number axis (patterns low) (patterns high) c.if-number-eq0.true c.next_move.ensures

pub returns-then-number-eq1 : goal.returns-then-number-eq1
returns-then-number-eq1 c =
    let viewers = c.args.viewers in
    let mesh = c.args.mesh.now in
    let scratch = c.args.scratch.now in
    let number = c.args.number in
    let axis = c.args.axis in
    let low = c.args.low in
    let high = c.args.high in
    by_one viewers mesh scratch number axis (patterns low) (patterns high) c.if-number-eq1.true c.next_move-then-number-eq1.ensures

pub returns-then-number-eq2 : goal.returns-then-number-eq2
returns-then-number-eq2 c =
    let viewers = c.args.viewers in
    let mesh = c.args.mesh.now in
    let scratch = c.args.scratch.now in
    let number = c.args.number in
    let axis = c.args.axis in
    let low = c.args.low in
    let high = c.args.high in
    by_two viewers mesh scratch number axis (patterns low) (patterns high) c.if-number-eq2.true c.next_move-then-number-eq2.ensures

pub returns : goal.returns
returns c =
    let viewers = c.args.viewers in
    let mesh = c.args.mesh.now in
    let scratch = c.args.scratch.now in
    let number = c.args.number in
    let axis = c.args.axis in
    let low = c.args.low in
    let high = c.args.high in
    by_other viewers mesh scratch number axis (patterns low) (patterns high) c.if-number-eq0.false c.if-number-eq1.false c.if-number-eq2.false
    c.without_oracle.ensures
