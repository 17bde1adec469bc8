-- `inbox::received::message_in` meets its contract: each answer is what the head and the layout of its kind say.
-- Assumes nothing.
use Rattle.inbox.proofs.Arriving.{no_head, head_there, front_missing, front_there, front_sized, front_fits, tail_missing, tail_there, update_missing, headed_as}
use Rattle.inbox.proofs.Arriving.{other_than_transfer, not_both, nothing_read, neither_read, update_read, transfer_read}
use Rattle.inbox.proofs.received.message_in.Goals as goal

pub returns-in_default : goal.returns-in_default
returns-in_default c =
    no_head c.requires c.in_default.is c.framed_head.ensures

pub read_front-requires : goal.read_front-requires
read_front-requires c =
    let framed = head_there c.in-Some.is c.framed_head.ensures in
    (headed_as framed c.if-head-eq1.true, c.requires)

pub returns-in_default-read_front : goal.returns-in_default-read_front
returns-in_default-read_front c =
    let framed = head_there c.in-Some.is c.framed_head.ensures in
    nothing_read framed c.read_front.ensures.sides (front_missing c.read_front.ensures c.in_default-read_front.is)
    (not_both framed c.if-head-eq1.true)

pub read_tail-requires : goal.read_tail-requires
read_tail-requires c =
    front_fits (front_there c.read_front.ensures c.in-Some-read_front.is) c.read_front.ensures.sides

pub returns-in_default-read_tail : goal.returns-in_default-read_tail
returns-in_default-read_tail c =
    let framed = head_there c.in-Some.is c.framed_head.ensures in
    let there = front_there c.read_front.ensures c.in-Some-read_front.is in
    nothing_read framed c.read_front.ensures.sides (tail_missing there (c.read_tail.ensures there.fs (front_sized there)) c.in_default-read_tail.is)
    (not_both framed c.if-head-eq1.true)

pub returns-then-head-eq1 : goal.returns-then-head-eq1
returns-then-head-eq1 c =
    let framed = head_there c.in-Some.is c.framed_head.ensures in
    let there = front_there c.read_front.ensures c.in-Some-read_front.is in
    transfer_read framed c.read_front.ensures.sides there (tail_there there (c.read_tail.ensures there.fs (front_sized there)) c.in-Some-read_tail.is)

pub read_update-requires : goal.read_update-requires
read_update-requires c =
    let framed = head_there c.in-Some.is c.framed_head.ensures in
    headed_as framed c.if-head-eq2.true

pub returns-in_default-read_update : goal.returns-in_default-read_update
returns-in_default-read_update c =
    let framed = head_there c.in-Some.is c.framed_head.ensures in
    nothing_read framed c.requires (other_than_transfer framed c.if-head-eq1.false) (update_missing c.read_update.ensures c.in_default-read_update.is)

pub returns-then-head-eq2 : goal.returns-then-head-eq2
returns-then-head-eq2 c =
    let framed = head_there c.in-Some.is c.framed_head.ensures in
    update_read framed c.requires c.if-head-eq2.true c.in-Some-read_update.is c.read_update.ensures

pub returns : goal.returns
returns c =
    let framed = head_there c.in-Some.is c.framed_head.ensures in
    neither_read framed c.requires c.if-head-eq1.false c.if-head-eq2.false
