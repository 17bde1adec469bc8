-- Layouts at a place of a slice: what a reader answers, and what a writer leaves. Assumes nothing.
use Rattle.std.specs.Prelude.{◌≡◌, not, List, ℕ, ◌+◌, ◌*◌, ◌-◌, ltb, eqb, length, drop, None, Some, Option as Optional}
use Rattle.std.proofs.Math.Option.{Option, none, some}
use Rattle.std.proofs.lemmas.List.Edits.{sets}
use Rattle.model.specs.Values.{code}
use Rattle.model.specs.Layouts.{Layout, then, when, as_type, read_groups}
use Rattle.model.specs.Image.{label_in}
use Rattle.model.specs.Messages.{label}

-- a value that was read and the place past it, or that none stands there
abbrev pub MaybeRead : Type 0
MaybeRead = Optional (ℕ × ℕ)

-- what was read of a slice of n bytes: the value, and the place past it, which the bytes that are left tell
abbrev pub as_read : ℕ → Option (ℕ × List ℕ) → MaybeRead
as_read n none = None
as_read n (some r) = Some (r.0, (n - length r.1))

-- what a layout reads at a place of a slice
unfoldable pub read_at : Layout ℕ → List ℕ → ℕ → MaybeRead
read_at l s at = as_read (length s) (l.get (drop at s))

-- bytes written into a slice at a place: the slice afterwards, and the place past them
pub record Stored (before : List ℕ) (at : ℕ) (bytes after : List ℕ) (next : ℕ) : Type 0 where
  pub slice : after ≡ sets before at bytes
  pub past : next ≡ at + length bytes

-- a label as one number, its code
unfoldable pub label_code : Layout ℕ
label_code = as_type code label_in label

-- INSIDE A NUMBER
-- a number whose low part is known, and whose high part was read: shortest form, so it is not 0
abbrev pub over : ℕ → ℕ → Option (ℕ × List ℕ) → Option (ℕ × List ℕ)
over low scale r = then r (λ h rest. when (not (eqb h 0)) (some (low + scale * h, rest)))

-- a number that was read, where it lies below a bound
abbrev pub kept : ℕ → Option (ℕ × List ℕ) → Option (ℕ × List ℕ)
kept bound r = then r (λ v rest. when (ltb v bound) (some (v, rest)))

-- a number below a bound whose first group gave a low part, and whose other groups stand at a place: one and at most so many more
abbrev pub number_from : List ℕ → ℕ → ℕ → ℕ → ℕ → MaybeRead
number_from s at first more bound = as_read (length s) (kept bound (over first 128 (read_groups more (drop at s))))
