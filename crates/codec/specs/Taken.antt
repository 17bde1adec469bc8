-- What a layout takes of a slice from a place on: a value, or something that is passed over. Assumes nothing.
use Rattle.groups.specs.Slices.{MaybeRead}
use Rattle.std.specs.Prelude.{◌≡◌, List, ℕ, ◌≤◌, length, drop, None, Some}
use Rattle.std.proofs.Math.Option.{none, some}
use Rattle.model.specs.Layouts.{Layout}

-- a layout takes a value from a place on, up to another
pub record Took {A : Type 0} (l : Layout A) (s : List ℕ) (at : ℕ) (v : A) (next : ℕ) : Type 0 where
  pub value : l.get (drop at s) ≡ some (v, drop next s)
  pub onward : at ≤ next
  pub within : next ≤ length s

-- something is passed over; what the answer tells of it is not said
abbrev pub PassSaid : {A : Type 0} → Layout A → List ℕ → ℕ → MaybeRead → Type 0
PassSaid l s at None = l.get (drop at s) ≡ none
PassSaid {A} l s at (Some (w, next)) = (a : A) × Took l s at a next

pub record Passes {A : Type 0} (l : Layout A) (s : List ℕ) (at : ℕ) (r : MaybeRead) : Type 0 where
  pub said : PassSaid l s at r
