-- The oracle by value, and what it tests of one point. Assumes nothing.
use Rattle.std.specs.Prelude.{Bool, true, false, ◌&&◌}
use Rattle.std.specs.Float.{binary64}
use Rattle.std.specs.Float.Ieee.{to_bits}
use Rattle.model.specs.Values.{Point}
use Rattle.model.specs.Balance as balance
use Rattle.model.specs.Balance.{lt_bits, le_point, coordinate_of}
use Rattle.memory.specs.Point.{patterns}
use Rattle.oracle.specs.declared.Oracle.{Oracle}
use Rattle.oracle.specs.declared.Oracle.TheVariants.{Every, Box, Plane}

-- the model's oracle of each case
abbrev pub oracle_of : Oracle → balance.Oracle
oracle_of Every = balance.every
oracle_of (Box low high) = balance.box (patterns low) (patterns high)
oracle_of (Plane axis value) = balance.plane axis (to_bits binary64 value)

-- a volume is picked where some point passes the first test (false) and some the second (true): below a plane and above it
abbrev pub holds : balance.Oracle → Bool → Point → Bool
holds balance.every side p = true
holds (balance.box low high) false p = le_point low p && le_point p high
holds (balance.box low high) true p = true
holds (balance.plane axis value) false p = lt_bits (coordinate_of axis p) value
holds (balance.plane axis value) true p = lt_bits value (coordinate_of axis p)
