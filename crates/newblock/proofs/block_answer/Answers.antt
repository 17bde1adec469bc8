-- `newblock::block_answer` meets its contract: 4, what a callee asked of the links, then 8.
-- Assumes nothing.
use Rattle.std.proofs.lemmas.Result.{err_from_is_err_and}
use Rattle.std.proofs.Common.{sym, ap, ◌∙◌}
use Rattle.model.specs.Image.{block_in}
use Rattle.answers.specs.Answers.{answer_of}
use Rattle.answers.proofs.Questions.{said_no, said_yes}
use Rattle.newblock.proofs.Answered.{links_told, coordinates_no, links_no, points_no, all_yes}
use Rattle.newblock.proofs.block_answer.Goals as goal

pub returns-then-not-coordinates_finite : goal.returns-then-not-coordinates_finite
returns-then-not-coordinates_finite c =
    coordinates_no (block_in c.args.block.now) (said_no c.coordinates_finite.ensures c.if-not-coordinates_finite.true)

pub points_agree-requires : goal.points_agree-requires
points_agree-requires c =
    let linked = links_told (block_in c.args.block.now) (ap answer_of (sym c.in_ok-link_answer.was) ∙ c.link_answer.ensures) in (
      c.requires.block_in_bounds.0,
      c.requires.block_in_bounds.1,
      said_yes c.coordinates_finite.ensures c.if-not-coordinates_finite.false,
      linked.0,
      linked.1,
    )

pub returns-then-not-points_agree : goal.returns-then-not-points_agree
returns-then-not-points_agree c =
    points_no (block_in c.args.block.now) (said_yes c.coordinates_finite.ensures c.if-not-coordinates_finite.false)
    (ap answer_of (sym c.in_ok-link_answer.was) ∙ c.link_answer.ensures) (said_no c.points_agree.ensures c.if-not-points_agree.true)

pub returns : goal.returns
returns c =
    all_yes (block_in c.args.block.now) (said_yes c.coordinates_finite.ensures c.if-not-coordinates_finite.false)
    (ap answer_of (sym c.in_ok-link_answer.was) ∙ c.link_answer.ensures) (said_yes c.points_agree.ensures c.if-not-points_agree.false)

pub returns-in_err-link_answer : goal.returns-in_err-link_answer
returns-in_err-link_answer c =
    let p = err_from_is_err_and c.from_residual.result c.from_residual.ensures.1 in
    rw (p.1, p.2) (links_no (block_in c.args.block.now) (said_yes c.coordinates_finite.ensures c.if-not-coordinates_finite.false)
    (ap answer_of (sym c.in_err-link_answer.was) ∙ c.link_answer.ensures))
