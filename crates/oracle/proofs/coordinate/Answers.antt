-- `oracle::coordinate` meets its contract. Assumes nothing.
use Rattle.memory.specs.Point.{patterns}
use Rattle.oracle.proofs.Floats.{axis_first, axis_second, axis_last}
use Rattle.oracle.proofs.coordinate.Goals as goal

pub returns-then-axis-eq0 : goal.returns-then-axis-eq0
returns-then-axis-eq0 c =
    axis_first c.args.axis (patterns c.args.p) c.if-axis-eq0.true

pub returns-then-axis-eq1 : goal.returns-then-axis-eq1
returns-then-axis-eq1 c =
    axis_second c.args.axis (patterns c.args.p) c.if-axis-eq1.true

pub returns : goal.returns
returns c =
    axis_last c.args.axis (patterns c.args.p) c.if-axis-eq0.false c.if-axis-eq1.false
