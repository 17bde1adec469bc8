-- `newblock::put_links` meets its contract: the questions are put to the image, and answered as of the block in serials.
-- Assumes nothing.
use Rattle.std.proofs.lemmas.Result.{err_from_is_err_and}
use Rattle.std.proofs.Common.{sym, ap, ◌∙◌, arith}
use Rattle.answers.specs.Answers.{answer_of}
use Rattle.newblock.proofs.Imaged.{image_ranged, image_count, image_fits}
use Rattle.newblock.proofs.Answered.{links_refused, links_served}
use Rattle.newblock.proofs.put_links.Goals as goal

pub link_answer-requires : goal.link_answer-requires
link_answer-requires c =
    let few = image_count c.requires.block_len.1 c.resolve_by.ensures in
    let keys_long = c.requires.made_in_bounds_2 in
    record {
      block_in_bounds = (image_fits c.requires.block_len.1 c.resolve_by.ensures, image_ranged c.requires.block_len.1 c.resolve_by.ensures);
      block_in_bounds_2 = (omega (arith, few, c.requires.made_in_bounds.0), c.requires.made_in_bounds.1);
      block_in_bounds_3 = (omega (arith, few, keys_long.0), omega (arith, few, keys_long.1), keys_long.2);
    }

pub returns : goal.returns
returns c =
    links_served c.requires.block_len.1 c.resolve_by.ensures c.args.block.now (ap answer_of (sym c.in_ok-link_answer.was) ∙ c.link_answer.ensures) c.copy.ensures

pub returns-in_err-link_answer : goal.returns-in_err-link_answer
returns-in_err-link_answer c =
    let p = err_from_is_err_and c.from_residual.result c.from_residual.ensures.1 in
    rw (p.1, p.2) (links_refused c.requires.block_len.1 c.resolve_by.ensures c.args.block.now (ap answer_of (sym c.in_err-link_answer.was) ∙ c.link_answer.ensures))
