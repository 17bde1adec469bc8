-- `inbox::message::framed_head` meets its contract: what is missing or wrong, or the head.
-- Assumes nothing.
use mathlib.Core.Path.{sym, ◌∙◌}
use Rattle.reader.proofs.Heads.{head_says}
use Rattle.inbox.proofs.Outlining.{head_missing, body_within, head_wrong, from_none, to_none, head_framed}
use native.Mathlib.Omega.{arith}
use Rattle.inbox.proofs.message.framed_head.Goals as goal

pub returns-in_err-head : goal.returns-in_err-head
returns-in_err-head c =
    rw c.from_residual.ensures (
    let s = c.args.s.now in
    head_missing (head_says s (sym c.in_err-head.was ∙ c.read_head.ensures)))

pub overflow_sub-rest : goal.overflow_sub-rest
overflow_sub-rest c =
    let s = c.args.s.now in
    let four = head_says s (sym c.in_ok-head.was ∙ c.read_head.ensures) in
    body_within four

pub returns-then-rest-head : goal.returns-then-rest-head
returns-then-rest-head c =
    let s = c.args.s.now in
    let four = head_says s (sym c.in_ok-head.was ∙ c.read_head.ensures) in
    head_wrong four c.if-rest-head.true

pub returns-then-head-ge-BLOCKS : goal.returns-then-head-ge-BLOCKS
returns-then-head-ge-BLOCKS c =
    let s = c.args.s.now in
    let four = head_says s (sym c.in_ok-head.was ∙ c.read_head.ensures) in
    from_none four (omega (arith, c.if-head-ge-BLOCKS.true))

pub returns-then-head-ge-BLOCKS-2 : goal.returns-then-head-ge-BLOCKS-2
returns-then-head-ge-BLOCKS-2 c =
    let s = c.args.s.now in
    let four = head_says s (sym c.in_ok-head.was ∙ c.read_head.ensures) in
    to_none four (omega (arith, c.if-head-ge-BLOCKS.false)) (omega (arith, c.if-head-ge-BLOCKS-2.true))

pub returns : goal.returns
returns c =
    let s = c.args.s.now in
    let four = head_says s (sym c.in_ok-head.was ∙ c.read_head.ensures) in
    head_framed four c.if-rest-head.false (omega (arith, c.if-head-ge-BLOCKS.false)) (omega (arith, c.if-head-ge-BLOCKS-2.false))
