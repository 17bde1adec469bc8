-- The entries of the parts in arrays. Assumes nothing.
use Rattle.std.specs.Prelude.{◌≡◌, List, [], map, ℕ, ◌≤◌, ◌<◌, get_or, take, drop, None, Option, Some}
use Rattle.std.proofs.Math.Option.{none, some}
use Rattle.model.specs.Lists.{tab}
use Rattle.model.specs.Values.{Label, code, last_block}
use Rattle.model.specs.Layouts.{Layout, Read, get_all, times}
use Rattle.model.specs.Messages.{FaceDart, Part2, Part3, Part4, label, part2, part3, part4}
use Rattle.codec.specs.Taken.{Took}
use Rattle.codec.specs.declared.entry.Paired.{Paired}
use Rattle.codec.specs.declared.entry.Paired.TheVariants as paired
use Rattle.parts.specs.declared.entries.Entry.{Entry}

-- what an entry has
abbrev pub code2 : Part2 → ℕ
code2 m = code m.label

abbrev pub index2 : Part2 → ℕ
index2 m = m.index

abbrev pub number3 : Part3 → ℕ
number3 m = m.number

abbrev pub index3 : Part3 → ℕ
index3 m = m.index

abbrev pub index4 : Part4 → ℕ
index4 m = m.index

abbrev pub other4 : Part4 → ℕ
other4 m = m.other

-- a part whose entries are two numbers, by the part
abbrev pub Pair : Paired → Type 0
Pair paired.Second = Part2
Pair paired.Third = Part3

abbrev pub pair : (p : Paired) → Layout (Pair p)
pair paired.Second = part2
pair paired.Third = part3

abbrev pub first_number : (p : Paired) → Pair p → ℕ
first_number paired.Second = code2
first_number paired.Third = number3

abbrev pub index : (p : Paired) → Pair p → ℕ
index paired.Second = index2
index paired.Third = index3

-- two numbers of each of the entries that stand from a place on
pub record EntriesRead {A : Type 0} (l : Layout A) (f g : A → ℕ) (s : List ℕ) (at count : ℕ) (a b : List ℕ) : Type 0 where
  pub firsts_are : (ms : List A) (past : ℕ) → Took (times count l) s at ms past → take count a ≡ map f ms
  pub seconds_are : (ms : List A) (past : ℕ) → Took (times count l) s at ms past → take count b ≡ map g ms

-- the labels that stand from a place on
abbrev pub labels_or : Read (List Label) → List Label
labels_or none = []
labels_or (some r) = r.0

unfoldable pub labels_at : List ℕ → ℕ → ℕ → List Label
labels_at s at n = labels_or (get_all label n (drop at s))

-- there are n
pub record LabelsThere (s : List ℕ) (at n : ℕ) : Type 0 where
  pub past : ℕ
  pub took : Took (times n label) s at (labels_at s at n) past

-- the entry of part 4 at a place, whose labels are as many as its face has darts
pub record EntryThere (fs : List (List FaceDart)) (z s : List ℕ) (at index other labels next : ℕ) : Type 0 where
  pub small : other ≤ last_block
  pub there : LabelsThere s labels (get_or z index 0)
  pub took : Took (part4 fs) s at (record { index = index; other = other; labels = labels_at s labels (get_or z index 0) }) next

abbrev pub EntrySaid : List (List FaceDart) → List ℕ → List ℕ → ℕ → Option Entry → Type 0
EntrySaid fs z s at None = (part4 fs).get (drop at s) ≡ none
EntrySaid fs z s at (Some e) = EntryThere fs z s at e.index.0 e.other e.labels e.next

pub record EntryRead (fs : List (List FaceDart)) (z s : List ℕ) (at : ℕ) (r : Option Entry) : Type 0 where
  pub said : EntrySaid fs z s at r

-- an entry by the arrays
abbrev pub entry_at : List ℕ → List ℕ → List ℕ → List ℕ → List ℕ → ℕ → Part4
entry_at z s indices others places e = record {
  index = get_or indices e 0;
  other = get_or others e 0;
  labels = labels_at s (get_or places e 0) (get_or z (get_or indices e 0) 0);
}

-- the entries of part 4 that stand from a place on
pub record Part4Read (fs : List (List FaceDart)) (z s : List ℕ) (at count : ℕ) (indices others places : List ℕ) : Type 0 where
  pub entries_are : (ms : List Part4) (past : ℕ) → Took (times count (part4 fs)) s at ms past → ms ≡ tab (entry_at z s indices others places) count
  pub small : (ms : List Part4) (past : ℕ) → Took (times count (part4 fs)) s at ms past → (e : ℕ) → e < count → get_or others e 0 ≤ last_block
  pub there : (ms : List Part4) (past : ℕ) → Took (times count (part4 fs)) s at ms past → (e : ℕ) → e < count → LabelsThere s (get_or places e 0) (get_or z (get_or indices e 0) 0)
