-- `newblock::link_answer` meets its contract: the questions in a row, each under what was answered before.
-- Assumes nothing.
use Rattle.std.proofs.Common.{refl}
use Rattle.answers.proofs.Questions.{alone, ask_no, ask_yes, ask_end, said_no, said_yes}
use Rattle.newblock.specs.Checks.{link_checks}
use Rattle.newblock.proofs.link_answer.Goals as goal

pub returns-then-not-links_right : goal.returns-then-not-links_right
unfolding link_checks
returns-then-not-links_right c =
    alone _ (ask_no refl (said_no c.links_right.ensures c.if-not-links_right.true) refl)

pub thirds_right-requires : goal.thirds_right-requires
thirds_right-requires c =
    (c.requires.block_in_bounds.0, c.requires.block_in_bounds.1, said_yes c.links_right.ensures c.if-not-links_right.false)

pub returns-then-not-thirds_right : goal.returns-then-not-thirds_right
unfolding link_checks
returns-then-not-thirds_right c =
    alone _ (ask_yes (said_yes c.links_right.ensures c.if-not-links_right.false)
    (ask_no refl (said_no c.thirds_right.ensures c.if-not-thirds_right.true) refl))

pub returns-then-not-labels_right : goal.returns-then-not-labels_right
unfolding link_checks
returns-then-not-labels_right c =
    alone _ (ask_yes (said_yes c.links_right.ensures c.if-not-links_right.false)
    (ask_yes (said_yes c.thirds_right.ensures c.if-not-thirds_right.false)
    (ask_no refl (said_no c.labels_right.ensures c.if-not-labels_right.true) refl)))

pub returns : goal.returns
unfolding link_checks
returns c =
    alone _ (ask_yes (said_yes c.links_right.ensures c.if-not-links_right.false)
    (ask_yes (said_yes c.thirds_right.ensures c.if-not-thirds_right.false)
    (ask_yes (said_yes c.labels_right.ensures c.if-not-labels_right.false)
    (ask_end refl))))
