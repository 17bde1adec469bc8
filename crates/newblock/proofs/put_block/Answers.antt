-- `newblock::put_block` meets its contract: the questions are put to the image, and answered as of the block in serials.
-- Assumes nothing.
use Rattle.std.proofs.lemmas.Result.{err_from_is_err_and}
use Rattle.std.proofs.Common.{sym, ap, ◌∙◌, arith}
use Rattle.answers.specs.Answers.{answer_of}
use Rattle.newblock.proofs.Imaged.{image_ranged, image_count, image_fits}
use Rattle.newblock.proofs.Answered.{put_refused, put_served}
use Rattle.newblock.proofs.put_block.Goals as goal

pub block_answer-requires : goal.block_answer-requires
block_answer-requires c =
    let few = image_count c.requires.block_len.1 c.resolve_by.ensures in
    let keys_long = c.requires.made_in_bounds_2 in
    record {
      block_in_bounds = (image_fits c.requires.block_len.1 c.resolve_by.ensures, image_ranged c.requires.block_len.1 c.resolve_by.ensures);
      block_in_bounds_2 = (omega (arith, few, c.requires.made_in_bounds.0), c.requires.made_in_bounds.1);
      block_in_bounds_3 = (omega (arith, few, keys_long.0), omega (arith, few, keys_long.1), keys_long.2);
    }

pub returns : goal.returns
returns c =
    put_served c.requires.block_len.1 c.resolve_by.ensures c.args.block.now (ap answer_of (sym c.in_ok-block_answer.was) ∙ c.block_answer.ensures) c.copy.ensures

pub returns-in_err-block_answer : goal.returns-in_err-block_answer
returns-in_err-block_answer c =
    let p = err_from_is_err_and c.from_residual.result c.from_residual.ensures.1 in
    rw (p.1, p.2) (put_refused c.requires.block_len.1 c.resolve_by.ensures c.args.block.now (ap answer_of (sym c.in_err-block_answer.was) ∙ c.block_answer.ensures))
