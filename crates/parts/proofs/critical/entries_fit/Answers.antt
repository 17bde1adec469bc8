-- `parts::critical::entries_fit` meets its contract.
-- Assumes nothing.
use Rattle.parts.proofs.Assembled.{three_tests}
use native.Mathlib.Omega.{arith}
use Rattle.parts.proofs.critical.entries_fit.Goals as goal

pub indices_fit-first-requires : goal.indices_fit-first-requires
indices_fit-first-requires c =
    (c.requires.0, c.requires.1, c.requires.3, c.requires.5, c.requires.7, c.requires.8)

pub consecutive-next-requires : goal.consecutive-next-requires
consecutive-next-requires c =
    (c.requires.2, c.requires.6)

pub neither-last-requires : goal.neither-last-requires
neither-last-requires c =
    c.requires.4

pub shape_of-marks : goal.shape_of-marks
shape_of-marks c =
    omega (arith, c.indices_fit-first.auto)

pub returns : goal.returns
returns c =
    three_tests c.indices_fit-first.ensures c.consecutive-next.ensures c.neither-last.ensures
