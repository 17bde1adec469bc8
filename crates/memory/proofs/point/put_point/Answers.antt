-- `memory::point::put_point` meets its contract, by those of `pattern` and `put_field`.
-- Assumes nothing.
use Rattle.memory.proofs.point.put_point.Goals as goal

pub returns : goal.returns
returns c =
    cc
