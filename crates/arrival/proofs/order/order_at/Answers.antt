-- `arrival::order::order_at` meets its contract.
-- Assumes nothing.
use Rattle.arrival.proofs.Steps.{order_low, order_inner, order_first, order_start}
use native.Mathlib.Omega.{arith}
use Rattle.arrival.proofs.order.order_at.Goals as goal

pub offset_bounds-serial-first : goal.offset_bounds-serial-first
offset_bounds-serial-first c =
    omega (arith, c.index_at-start.ensures, c.requires.2)

pub bounds-serial-first : goal.bounds-serial-first
bounds-serial-first c =
    omega (arith, c.index_at-start.ensures, c.requires.2)

pub returns-then-serial-here : goal.returns-then-serial-here
returns-then-serial-here c =
    order_low c.args.serial.now c.args.starts.now c.args.i.0 c.index_at-start.ensures (omega (arith, c.if-serial-here.true))

pub returns-then-first-here : goal.returns-then-first-here
returns-then-first-here c =
    order_inner c.args.serial.now c.args.starts.now c.args.i.0 c.index_at-start.ensures (omega (arith, c.if-serial-here.false)) c.if-first-here.true

pub returns-then-here-eq0 : goal.returns-then-here-eq0
returns-then-here-eq0 c =
    order_first c.args.serial.now c.args.starts.now c.args.i.0 c.index_at-start.ensures (omega (arith, c.if-serial-here.false)) c.if-here-eq0.true

pub offset_bounds-serial-past : goal.offset_bounds-serial-past
offset_bounds-serial-past c =
    let r = c.requires.3 (omega arith) in
    omega (arith, r, c.index_at-before.ensures)

pub bounds-serial-past : goal.bounds-serial-past
bounds-serial-past c =
    let r = c.requires.3 (omega arith) in
    omega (arith, r, c.index_at-before.ensures)

pub returns : goal.returns
returns c =
    order_start c.args.serial.now c.args.starts.now c.args.i.0 c.index_at-start.ensures (omega (arith, c.if-serial-here.false)) c.if-first-here.false
    c.if-here-eq0.false c.index_at-before.ensures
