-- `stats::rows::first_word` meets its contract. Assumes nothing.
use Rattle.stats.proofs.CountLaws.{head_zero, head_serial}
use native.Mathlib.Omega.{arith}
use Rattle.stats.proofs.rows.first_word.Goals as goal

pub returns-then-i-ne0 : goal.returns-then-i-ne0
returns-then-i-ne0 c =
    head_zero c.args.block.now c.args.firsts.now c.args.i c.if-i-ne0.true

pub offset_bounds-firsts-c : goal.offset_bounds-firsts-c
offset_bounds-firsts-c c =
    omega arith

pub bounds-firsts-c : goal.bounds-firsts-c
bounds-firsts-c c =
    omega arith

pub returns : goal.returns
returns c =
    head_serial c.args.block.now c.args.firsts.now c.args.i c.if-i-ne0.false c.field.ensures
