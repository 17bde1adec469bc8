-- `text::digits` meets its contract. The loop's invariant: the first i bytes are digits, and v is their value.
-- Assumes nothing.
use Prim.Native.Nat.{◌≤◌}
use Rattle.text.specs.Reading.{Digits}
use Rattle.text.proofs.digits.Given as goal

abbrev pub invariant-loop-i : goal.invariant-loop-i
invariant-loop-i l =
    (l.i ≤ l.n) × Digits l.s l.from l.i l.v
