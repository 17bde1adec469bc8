-- The record of a dart by value, and a record stored. Assumes nothing.
use Rattle.std.specs.Prelude.{List, [], ◌∷◌, ◌++◌, ℕ, ◌+◌, ◌*◌, take, drop}
use Rattle.model.specs.Image.{column}
use Rattle.memory.specs.declared.record.Record.{Record}

-- the words at place p
abbrev pub record_in : List ℕ → ℕ → Record
record_in m p = record {
  serial = column m 0 p;
  next = column m 1 p;
  opposite = column m 2 p;
  kind = column m 3 p;
  link = column m 4 p;
  x = column m 5 p;
  y = column m 6 p;
  z = column m 7 p;
}

-- in their order
abbrev pub record_words : Record → List ℕ
record_words r = r.serial ∷ r.next ∷ r.opposite ∷ r.kind ∷ r.link ∷ r.x ∷ r.y ∷ r.z ∷ []

-- 8 words stored at place p
abbrev pub put : List ℕ → ℕ → List ℕ → List ℕ
put m p ws = take (8 + p * 8) m ++ (ws ++ drop (16 + p * 8) m)
