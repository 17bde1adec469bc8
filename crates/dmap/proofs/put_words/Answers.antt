-- `dmap::put_words` meets its contract: five stores. Assumes nothing.
use lib.ListN.{length-set}
use Rattle.dmap.proofs.Through.{five_words}
use native.Mathlib.Omega.{arith}
use Rattle.dmap.proofs.put_words.Goals as goal

pub bounds-answer-4 : goal.bounds-answer-4
bounds-answer-4 c =
    simp length-set (omega arith)

pub shape_of-answer : goal.shape_of-answer
shape_of-answer c =
    simp length-set (omega arith)

pub returns : goal.returns
returns c =
    five_words c.args.answer.now c.args.kind c.args.donor c.args.recipient c.args.serial c.args.mean c.requires
