-- What is read of a third link in its 48 columns: the one that stands there, or none. Assumes nothing.
use Rattle.groups.specs.Slices.{MaybeRead}
use Rattle.std.specs.Prelude.{◌≡◌, true, List, [], ◌∷◌, ◌++◌, ℕ, ◌+◌, ◌^◌, ◌<◌, length, None, Option, Some}
use Rattle.laws.specs.Standing.{Stands}
use Rattle.model.specs.Values.{Label, Third, sewn, critical, code}
use Rattle.model.specs.Text.{decimal}
use Rattle.model.specs.Image.{kind_word}
use Rattle.model.specs.Messages.{third_ok}
use Rattle.model.specs.Pages.{third_column}
use Rattle.codec.specs.Thirds.{named_by}

-- a third link stands in the columns, and these are its words
pub record ThirdAt (s : List ℕ) (at : ℕ) (t : Third) : Type 0 where
  pub ok : third_ok t ≡ true
  pub stands : Stands s at (third_column t)

pub record LinkAt (s : List ℕ) (at k a past : ℕ) : Type 0 where
  pub third : Third
  pub there : ThirdAt s at third
  pub kind_is : k ≡ kind_word third
  pub link_is : a ≡ named_by third
  pub past_is : past ≡ at + 48

abbrev pub ThirdRead : List ℕ → ℕ → Option (ℕ × ℕ × ℕ) → Type 0
ThirdRead s at (Some (k, a, past)) = LinkAt s at k a past
ThirdRead s at None = (t : Third) → ThirdAt s at t → ⊥

-- a sewn one alone, a critical one alone
pub record SewnAt (s : List ℕ) (at v past : ℕ) : Type 0 where
  pub there : ThirdAt s at (sewn v)
  pub past_is : past ≡ at + 48

abbrev pub SewnRead : List ℕ → ℕ → MaybeRead → Type 0
SewnRead s at (Some (v, past)) = SewnAt s at v past
SewnRead s at None = (v : ℕ) → ThirdAt s at (sewn v) → ⊥

abbrev pub CriticalRead : List ℕ → ℕ → Option (ℕ × ℕ × ℕ) → Type 0
CriticalRead s at (Some (k, a, past)) = LinkAt s at k a past
CriticalRead s at None = (o : ℕ) (l : Label) → ThirdAt s at (critical o l) → ⊥

-- a label: a number, and the byte behind it, three times
abbrev pub ended : ℕ → ℕ → List ℕ
ended v e = decimal v ++ e ∷ []

abbrev pub label_text : Label → List ℕ
label_text l = ended l.maker 46 ++ ended l.number 46 ++ ended l.position 32

pub record LabelAt (s : List ℕ) (from : ℕ) (l : Label) : Type 0 where
  pub maker : l.maker < 16
  pub number : l.number < 2 ^ 32
  pub position : l.position < 4096
  pub stands : Stands s from (label_text l)

pub record CodeAt (s : List ℕ) (from v past : ℕ) : Type 0 where
  pub label : Label
  pub there : LabelAt s from label
  pub code_is : v ≡ code label
  pub past_is : past ≡ from + length (label_text label)

abbrev pub LabelRead : List ℕ → ℕ → MaybeRead → Type 0
LabelRead s from (Some (v, past)) = CodeAt s from v past
LabelRead s from None = (l : Label) → LabelAt s from l → ⊥
