-- `rounds::either::redirect` meets its contract: the viewer's call on memory of its size, the rack's on any other. Assumes nothing.
use Rattle.model.specs.Values.{Limits}
use Rattle.model.specs.Calls as calls
use Rattle.answers.proofs.Questions.{by_limits}
use Rattle.rounds.proofs.Stepping.{viewers_own, racks_own}
use Rattle.rounds.proofs.either.redirect.Goals as goal

pub returns-then-block-eq-VIEWER_WORDS : goal.returns-then-block-eq-VIEWER_WORDS
returns-then-block-eq-VIEWER_WORDS c =
    let block = c.args.block.now in
    let message = c.args.message.now in
    by_limits (λ (l : Limits). calls.redirect l block message) (viewers_own c.if-block-eq-VIEWER_WORDS.true) c.redirect.ensures

pub returns : goal.returns
returns c =
    let block = c.args.block.now in
    let message = c.args.message.now in
    by_limits (λ (l : Limits). calls.redirect l block message) (racks_own c.if-block-eq-VIEWER_WORDS.false) c.redirect-2.ensures
