-- The first of the messages that stand one after the other. Assumes nothing.
use Rattle.std.specs.Prelude.{List, ℕ, take, drop}
use Rattle.model.specs.Layouts.{group}
use Rattle.model.specs.DividedRun.{message_length}

abbrev pub first_in : List ℕ → List ℕ
first_in bytes = take (message_length bytes (group.get bytes)) bytes

-- what stands behind it
abbrev pub rest_in : List ℕ → List ℕ
rest_in bytes = drop (message_length bytes (group.get bytes)) bytes
