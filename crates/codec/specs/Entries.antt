-- What is read of a dart of a face, and of an entry of part 2 or 3, which is two numbers. Assumes nothing.
use Rattle.std.specs.Prelude.{◌≡◌, List, ℕ, drop, None, Option, Some}
use Rattle.std.proofs.Math.Option.{none}
use Rattle.model.specs.Layouts.{Layout, group}
use Rattle.model.specs.Messages.{face_dart}
use Rattle.groups.specs.Slices.{label_code}
use Rattle.codec.specs.Taken.{Took}
use Rattle.codec.specs.declared.entry.Paired.{Paired}
use Rattle.codec.specs.declared.entry.Paired.TheVariants as paired

abbrev pub FacedSaid : List ℕ → ℕ → Option (ℕ × ℕ × ℕ) → Type 0
FacedSaid s at None = face_dart.get (drop at s) ≡ none
FacedSaid s at (Some (v, x, next)) = Took face_dart s at (record { vertex = v; serial = x }) next

pub record FacedRead (s : List ℕ) (at : ℕ) (r : Option (ℕ × ℕ × ℕ)) : Type 0 where
  pub said : FacedSaid s at r

-- how the first number of an entry stands
abbrev pub first_layout : Paired → Layout ℕ
first_layout paired.Second = label_code
first_layout paired.Third = group
