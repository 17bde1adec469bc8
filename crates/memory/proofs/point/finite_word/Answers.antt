-- `memory::point::finite_word` meets its contract: a word of memory is below 2^64.
-- Assumes nothing.
use Rattle.memory.proofs.Points.{finite_is}
use native.Mathlib.Omega.{arith}
use Rattle.memory.proofs.point.finite_word.Goals as goal

pub returns : goal.returns
returns c =
    finite_is c.args.w (omega arith)
