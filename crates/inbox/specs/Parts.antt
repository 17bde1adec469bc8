-- The parts of a message whose entries stand one after the other: what an entry of each is, and its layout. Assumes nothing.
use Rattle.std.specs.Prelude.{List}
use Rattle.model.specs.Values.{Label}
use Rattle.model.specs.Layouts.{Layout}
use Rattle.model.specs.Messages.{FaceDart, Part2, Part3, Part4, label, part2, part3, part4}
use Rattle.inbox.specs.declared.parts.Part.{Part}
use Rattle.inbox.specs.declared.parts.Part.TheVariants as part

abbrev pub Entry : Part → Type 0
Entry part.Second = Part2
Entry part.Third = Part3
Entry part.Fourth = Part4
Entry part.Labels = Label

-- how long an entry of part 4 is depends on the faces
abbrev pub entry : (p : Part) → List (List FaceDart) → Layout (Entry p)
entry part.Second fs = part2
entry part.Third fs = part3
entry part.Fourth fs = part4 fs
entry part.Labels fs = label
