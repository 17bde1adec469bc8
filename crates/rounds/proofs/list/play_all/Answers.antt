use Rattle.rounds.proofs.Requests.{none_played, one_more, no_room, no_request_left}
use Rattle.rounds.proofs.list.play_all.Goals as goal

pub loop-i-init : goal.loop-i-init
loop-i-init c =
    none_played _ _ _ _ _

pub returns-then-requests-i : goal.returns-then-requests-i
returns-then-requests-i c =
    no_request_left c.loop-i.invariant c.if-requests-i.true

pub loop-i-preserved : goal.loop-i-preserved
loop-i-preserved c =
    one_more c.loop-i.invariant c.if-requests-i.false c.loop-i-test.true _ c.play_at.ensures

pub returns : goal.returns
returns c =
    no_room c.loop-i.invariant c.loop-i-test.false
