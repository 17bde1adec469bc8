-- Lines of requests. Assumes nothing.
use Rattle.std.specs.Prelude.{Bool, cond, List, ℕ, ◌+◌, ◌-◌, eqb, length, take, drop, None, Option, Some}
use Rattle.commands.specs.declared.words.Kind.TheVariants as kind
use Rattle.commands.specs.declared.lines.Line.{Line}
use Rattle.commands.specs.declared.lines.Line.TheVariants as line
use Rattle.commands.specs.Words.{number_in, belongs, leading}

-- no word stands in a line from a place on
unfoldable pub rest_blank : List ℕ → ℕ → Bool
rest_blank s at = eqb (leading (belongs kind.Blanks) (drop at s)) (length s - at)

-- a word as a number, with the place past it
abbrev pub valued : Option ℕ → ℕ → Option (ℕ × ℕ)
valued (Some n) end = Some (n, end)
valued None end = None

-- the word of so many bytes from a place on, as a number
unfoldable pub word_at : List ℕ → ℕ → ℕ → Option (ℕ × ℕ)
word_at s from size = valued (number_in (take size (drop from s))) (from + size)

-- the word that stands behind blanks from a place on
unfoldable pub field_from : List ℕ → ℕ → Option (ℕ × ℕ)
field_from s from = word_at s from (leading (belongs kind.Word) (drop from s))

unfoldable pub field_in : List ℕ → ℕ → Option (ℕ × ℕ)
field_in s at = field_from s (at + leading (belongs kind.Blanks) (drop at s))

-- a number, and what follows it
abbrev pub then_line : Option (ℕ × ℕ) → (ℕ → ℕ → Line) → Line
then_line (Some (n, past)) more = more n past
then_line None more = line.Other

-- 'from to serial'
unfoldable pub line_in : List ℕ → Line
line_in s =
    cond (rest_blank s 0) line.Blank
    (then_line (field_in s 0) (λ from p. then_line (field_in s p) (λ to q. then_line (field_in s q) (λ serial r. cond (rest_blank s r) (line.Request from to serial) line.Other))))
