-- `inbox::message::read_tail` meets its contract: the part that is missing, or the outline of all three.
-- Assumes nothing.
use Rattle.model.specs.Messages.{part2, part3, part4}
use Rattle.inbox.proofs.Outlining.{counted_missing, counted_there, tail_bad, no_second, no_third, no_fourth, tail_more, tail_read}
use Rattle.inbox.proofs.message.read_tail.Goals as goal

pub counted_part-requires : goal.counted_part-requires
counted_part-requires c =
    c.requires

pub returns-in_err-second : goal.returns-in_err-second
returns-in_err-second c =
    rw c.from_residual.ensures (
    let s = c.args.s.now in
    let at = c.args.at in
    λ fs z. tail_bad fs (no_second fs s at (counted_missing part2 c.in_err-second.was (c.counted_part.ensures fs z))))

pub counted_part-requires-2 : goal.counted_part-requires-2
counted_part-requires-2 c =
    c.requires

pub returns-in_err-third : goal.returns-in_err-third
returns-in_err-third c =
    rw c.from_residual-in_err-third.ensures (
    λ fs z. tail_bad fs
    (no_third fs _ (counted_there part2 c.in_ok-second.was (c.counted_part.ensures fs z))
    (counted_missing part3 c.in_err-third.was (c.counted_part-2.ensures fs z))))

pub counted_part-requires-3 : goal.counted_part-requires-3
counted_part-requires-3 c =
    c.requires

pub returns-in_err-fourth : goal.returns-in_err-fourth
returns-in_err-fourth c =
    rw c.from_residual-in_err-fourth.ensures (
    λ fs z. tail_bad fs
    (no_fourth fs _ (counted_there part2 c.in_ok-second.was (c.counted_part.ensures fs z)) _ (counted_there part3 c.in_ok-third.was (c.counted_part-2.ensures fs z))
    (counted_missing (part4 fs) c.in_err-fourth.was (c.counted_part-3.ensures fs z))))

pub returns-then-last-s : goal.returns-then-last-s
returns-then-last-s c =
    λ fs z. tail_more fs _ (counted_there part2 c.in_ok-second.was (c.counted_part.ensures fs z)) _
    (counted_there part3 c.in_ok-third.was (c.counted_part-2.ensures fs z))
    _ (counted_there (part4 fs) c.in_ok-fourth.was (c.counted_part-3.ensures fs z)) c.if-last-s.true

pub returns : goal.returns
returns c =
    λ fs z. tail_read fs _ (counted_there part2 c.in_ok-second.was (c.counted_part.ensures fs z)) _
    (counted_there part3 c.in_ok-third.was (c.counted_part-2.ensures fs z))
    _ (counted_there (part4 fs) c.in_ok-fourth.was (c.counted_part-3.ensures fs z)) c.if-last-s.false
