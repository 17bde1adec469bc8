-- `memory::header::Limits::among` meets its contract: the bit of the block's number, where a block may have it.
-- Assumes nothing.
use mathlib.Core.Path.{sym, ◌∙◌}
use Rattle.memory.proofs.Headers.{none_from_16, bit_set, bit_clear}
use native.Mathlib.Omega.{arith}
use Rattle.memory.proofs.header.Limits.among.Goals as goal

pub returns-then-number-ge-BLOCKS : goal.returns-then-number-ge-BLOCKS
returns-then-number-ge-BLOCKS c =
    c.rack.ensures ∙ sym (none_from_16 c.args.viewers c.args.number c.if-number-ge-BLOCKS.true)

pub returns-then-viewers-number-eq1 : goal.returns-then-viewers-number-eq1
returns-then-viewers-number-eq1 c =
    c.viewer.ensures ∙ sym (bit_set c.args.viewers c.args.number (omega (arith, c.if-number-ge-BLOCKS.false)) c.if-viewers-number-eq1.true)

pub returns : goal.returns
returns c =
    c.rack-2.ensures ∙ sym (bit_clear c.args.viewers c.args.number (omega (arith, c.if-number-ge-BLOCKS.false)) c.if-viewers-number-eq1.false)
