-- What a step hands to the disk: the names, and the bytes of the file that is written. Assumes nothing.
use Rattle.std.specs.Prelude.{◌≡◌, Bool, true, false, cond, ◌&&◌, List, ◌++◌, ℕ, ◌+◌, ◌*◌, leb, ltb, eqb, length, take, drop, None, Option as Optional, Some}
use Rattle.std.proofs.Math.Option.{Option, none, some}
use Rattle.model.specs.Lists.{tab, first_no}
use Rattle.model.specs.Values.{rack}
use Rattle.model.specs.Image.{block_in, memory_checks}
use Rattle.model.specs.Messages.{file}
use Rattle.columns.specs.Columns.{all_below}
use Rattle.mesh.specs.Parts.{block_count, part}
use Rattle.commands.specs.declared.names.File.{File}
use Rattle.commands.specs.declared.names.File.TheVariants as files
use Rattle.commands.specs.Names.{file_named, nameless}
use Rattle.saving.specs.declared.plan.Step.{Step}
use Rattle.saving.specs.declared.plan.Step.TheVariants as step
use Rattle.saving.specs.declared.prepare.Act.TheVariants as act
use Rattle.saving.specs.declared.prepare.Deed.{Deed}
use Rattle.saving.specs.Commit.{entry_of, commit_of}
use Rattle.saving.specs.declared.commit.Entry.{Entry}

abbrev pub act_when : {A : Type 0} → Bool → A → Option A
act_when true a = some a
act_when false a = none

-- WHAT IS WRITTEN
-- block b of a mesh has a file: questions 1 and 2 of save file are answered yes
unfoldable pub savable : List ℕ → ℕ → Bool
savable m b = eqb (first_no (memory_checks rack (part m b))) 0

-- the bytes that save file gives
unfoldable pub file_of : List ℕ → ℕ → List ℕ
file_of m b = (file rack).put (block_in (part m b))

-- one block to sixteen, each with a file
unfoldable pub all_savable : List ℕ → Bool
all_savable m = ltb 0 (block_count m) && leb (block_count m) 16 && all_below (savable m) (block_count m)

-- under each name: the new file of a block, and the commit of all of them; a file in its place and the commit are never written
unfoldable pub contents : List ℕ → File → Option (List ℕ)
contents m (files.NewBlock b) = act_when (savable m b) (file_of m b)
contents m files.NewCommit = act_when (all_savable m) (commit_of (tab (λ b. entry_of (file_of m b)) (block_count m)))
contents m (files.Block b) = none
contents m files.Commit = none

-- INTO A ROOM, where the bytes fit
abbrev pub fitting : List ℕ → Option (List ℕ) → Option (List ℕ)
fitting room none = none
fitting room (some bytes) = act_when (leb (length bytes) (length room)) bytes

-- what the room has then: the bytes first, and behind them what it had
abbrev pub left_by : Option (List ℕ) → List ℕ → List ℕ
left_by none room = room
left_by (some bytes) room = bytes ++ drop (length bytes) room

-- WHAT IS HANDED TO THE DISK
abbrev pub handed : List ℕ → List ℕ → Step → Option (List ℕ)
handed m room (step.Write f) = fitting room (contents m f)
handed m room (step.Rename f g) = none
handed m room (step.Remove f) = none
handed m room step.Keep = none
handed m room step.Nothing = none

-- the step's own names, and how many bytes of the room are the file
abbrev pub deed_of : Step → Option (List ℕ) → Deed
deed_of (step.Write f) (some bytes) = record { act = act.Write (length bytes); name = file_named f; other = nameless }
deed_of (step.Write f) none = record { act = act.Cannot; name = nameless; other = nameless }
deed_of (step.Rename f g) x = record { act = act.Rename; name = file_named f; other = file_named g }
deed_of (step.Remove f) x = record { act = act.Remove; name = file_named f; other = nameless }
deed_of step.Keep x = record { act = act.Keep; name = nameless; other = nameless }
deed_of step.Nothing x = record { act = act.Nothing; name = nameless; other = nameless }

pub record Prepared (m : List ℕ) (s : Step) (before : List ℕ) (d : Deed) (after : List ℕ) : Type 0 where
  pub deed : d ≡ deed_of s (handed m before s)
  pub left : after ≡ left_by (handed m before s) before

-- IN CODE
abbrev pub made_of : Option (List ℕ) → Optional ℕ
made_of none = None
made_of (some bytes) = Some (length bytes)

-- bytes put into a room
pub record StepPut (x : Option (List ℕ)) (before after : List ℕ) (r : Optional ℕ) : Type 0 where
  pub answer : r ≡ made_of (fitting before x)
  pub left : after ≡ left_by (fitting before x) before

-- the entry of a block's file, where it has one
unfoldable pub known : List ℕ → ℕ → Optional Entry
known m b = cond (savable m b) (Some (entry_of (file_of m b))) None

-- the commit of k blocks at the start of an array; or that one of them has no file
pub record BlockEntered (m : List ℕ) (k : ℕ) (before after : List ℕ) (r : Bool) : Type 0 where
  pub all : r ≡ all_below (savable m) k
  pub size : length after ≡ length before
  pub bytes : r ≡ true → take (8 + 16 * k) after ≡ commit_of (tab (λ b. entry_of (file_of m b)) k)
