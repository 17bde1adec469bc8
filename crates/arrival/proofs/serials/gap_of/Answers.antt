-- `arrival::serials::gap_of` meets its contract.
-- Assumes nothing.
use mathlib.Core.Path.{sym, ap, ◌∙◌}
use Rattle.model.specs.Image.{column}
use Rattle.arrival.proofs.Eighteen.{gap_zero, gap_held, gap_new}
use native.Mathlib.Omega.{arith}
use Rattle.arrival.proofs.serials.gap_of.Goals as goal

pub returns-then-serial-eq0 : goal.returns-then-serial-eq0
returns-then-serial-eq0 c =
    gap_zero c.args.block.now {n = c.args.n} c.if-serial-eq0.true

pub returns-then-in_gap : goal.returns-then-in_gap
returns-then-in_gap c =
    gap_new c.args.block.now c.if-serial-eq0.false c.requires.0 (c.in_gap.ensures.0 c.if-in_gap.true) c.requires.6

pub last_of-last-requires : goal.last_of-last-requires
last_of-last-requires c =
    (c.in_gap.ensures.1 c.if-in_gap.false, c.requires.1, c.requires.2, c.requires.3, c.requires.4, c.requires.5)

pub returns-then-there-serial : goal.returns-then-there-serial
returns-then-there-serial c =
    gap_held c.args.block.now c.if-serial-eq0.false c.requires.0 c.requires.3 c.last_of-last.ensures.0
    (sym c.field-there.ensures ∙ c.if-there-serial.true)

pub returns-then-there-serial-2 : goal.returns-then-there-serial-2
returns-then-there-serial-2 c =
    let block = c.args.block.now in
    gap_new block c.if-serial-eq0.false c.requires.0
    (λ p h e. c.if-there-serial.false (c.field-there.ensures ∙ sym (ap (column block 0) (c.last_of-last.ensures.1 p h e)) ∙ e))
    (omega (arith, c.last_of-last.ensures.0))

pub returns : goal.returns
returns c =
    let block = c.args.block.now in
    gap_new block c.if-serial-eq0.false c.requires.0
    (λ p h e. c.if-there-serial.false (c.field-there.ensures ∙ sym (ap (column block 0) (c.last_of-last.ensures.1 p h e)) ∙ e))
    (omega (arith, c.last_of-last.ensures.0))
