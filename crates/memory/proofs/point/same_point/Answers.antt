-- `memory::point::same_point` meets its contract: the patterns are compared one by one.
-- Assumes nothing.
use mathlib.Core.Path.{refl}
use Rattle.model.specs.Values.{same_point}
use Rattle.memory.proofs.point.same_point.Goals as goal

pub returns : goal.returns
unfolding same_point
returns c =
    rw (c.pattern.ensures, c.pattern-2.ensures, c.pattern-3.ensures, c.pattern-4.ensures, c.pattern-5.ensures, c.pattern-6.ensures) refl
