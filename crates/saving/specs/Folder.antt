-- What the steps of a plan do to a folder, what a cut leaves of them, and what a reader sees; and the claim that nothing is lost.
-- Assumes nothing.
--   does, all_of    a step, several steps
--   Cut             what a loss of power, or of the program alone, may leave of a plan
--   seen            the files of a basin, as a reader has them
--   SaveKeeps, RecoverKeeps, Reading    the claims; the proof is Kept (proofs)
use Rattle.std.specs.Prelude.{◌≡◌, Bool, true, false, cond, ◌||◌, List, [], ◌∷◌, ◌++◌, ◌⊎◌, ℕ, zero, suc, ◌+◌, ◌^◌, ◌≤◌, ◌<◌, ltb, length, get_or, None, Option as Optional, Some}
use Rattle.std.proofs.Math.Option.{Option, none, some}
use Rattle.model.specs.Lists.{tab, is_some}
use Rattle.commands.specs.declared.names.File.{File}
use Rattle.commands.specs.declared.names.File.TheVariants as file
use Rattle.commands.specs.Names.{same_name}
use Rattle.saving.specs.declared.plan.Step.{Step}
use Rattle.saving.specs.declared.plan.Step.TheVariants as step
use Rattle.saving.specs.declared.look.Look.{Look}
use Rattle.saving.specs.declared.look.Look.TheVariants as look
use Rattle.saving.specs.Plan.{plan_steps, placing, ending, save_stages, recover_stages}
use Rattle.saving.specs.Commit.{entry_of, commit_of, committed, entry_in}
use Rattle.saving.specs.Looks.{same_entry, look_of}
use Rattle.saving.specs.declared.commit.Entry.{Entry}

-- A FOLDER: the bytes under each name, where a file has it
abbrev pub Folder : Type 0
Folder = File → Option (List ℕ)

-- a file put under a name, or taken from it; two files are one if their names are
unfoldable pub put_file : File → Option (List ℕ) → Folder → Folder
put_file f x d g = cond (same_name f g) x (d g)

-- a file that is there gets another name
abbrev pub moved : Option (List ℕ) → File → File → Folder → Folder
moved none f g d = d
moved (some bytes) f g d = put_file f none (put_file g (some bytes) d)

-- STEPS; `c` has the bytes that are written under each name
unfoldable pub does : (File → List ℕ) → Step → Folder → Folder
does c (step.Write f) d = put_file f (some (c f)) d
does c (step.Rename f g) d = moved (d f) f g d
does c (step.Remove f) d = put_file f none d
does c step.Keep d = d
does c step.Nothing d = d

abbrev pub all_of : (File → List ℕ) → List Step → Folder → Folder
all_of c [] d = d
all_of c (s ∷ ss) d = all_of c ss (does c s d)

-- the folder after n steps
abbrev pub folder_at : (File → List ℕ) → List Step → Folder → ℕ → Folder
folder_at c ss d zero = d
folder_at c [] d (suc n) = d
folder_at c (s ∷ ss) d (suc n) = folder_at c ss (does c s d) n

-- A CUT, of power or of the program. Of the stage under way the disk has each step or has it not; of a writing it may have any bytes, or
-- no file
pub data SomeDone (c : File → List ℕ) : List Step → Folder → Folder → Type 0 where
  no_more : {d : Folder} → SomeDone c [] d d
  not_done : {s : Step} {ss : List Step} {d e : Folder} → SomeDone c ss d e → SomeDone c (s ∷ ss) d e
  done : {s : Step} {ss : List Step} {d e : Folder} → SomeDone c ss (does c s d) e → SomeDone c (s ∷ ss) d e
  in_part : {f : File} {ss : List Step} {d e : Folder} (x : Option (List ℕ)) → SomeDone c ss (put_file f x d) e → SomeDone c (step.Write f ∷ ss) d e

-- of the stages before it all, since a Keep ended them; of later ones nothing
pub data Cut (c : File → List ℕ) : List (List Step) → Folder → Folder → Type 0 where
  at_end : {d : Folder} → Cut c [] d d
  within : {stage : List Step} {stages : List (List Step)} {d e : Folder} → SomeDone c stage d e → Cut c (stage ∷ stages) d e
  past : {stage : List Step} {stages : List (List Step)} {d e : Folder} → Cut c stages (all_of c stage d) e → Cut c (stage ∷ stages) d e

-- WHAT IS SEEN: where there is a commit of k blocks, a block below k by its new file, if that is there; else by its own. The program asks
-- besides whether these bytes are the committed ones, and does nothing where they are not, so it never reads anything else
abbrev pub blocks_of : Option (List ℕ) → ℕ
blocks_of none = 0
blocks_of (some bytes) = committed bytes

abbrev pub first_of : Option (List ℕ) → Option (List ℕ) → Option (List ℕ)
first_of none o = o
first_of (some bytes) o = some bytes

unfoldable pub seen : Folder → ℕ → Option (List ℕ)
seen d b = cond (ltb b (blocks_of (d file.Commit))) (first_of (d (file.NewBlock b)) (d (file.Block b))) (d (file.Block b))

-- sixteen blocks, file by file
abbrev pub Alike : (ℕ → Option (List ℕ)) → (ℕ → Option (List ℕ)) → Type 0
Alike u v = (b : ℕ) → b < 16 → u b ≡ v b

-- WHAT A RECOVERY LOOKS AT: each block's files and its entry in the commit
abbrev pub found_in : Option (List ℕ) → Optional Entry
found_in none = None
found_in (some bytes) = Some (entry_of bytes)

abbrev pub bytes_of : Option (List ℕ) → List ℕ
bytes_of none = []
bytes_of (some bytes) = bytes

abbrev pub looked : Folder → ℕ → Look
looked d b = look_of (entry_in (bytes_of (d file.Commit)) b) (found_in (d (file.NewBlock b))) (found_in (d (file.Block b)))

-- no block of the commit looks wrong
abbrev pub LooksRight : Folder → Type 0
LooksRight d = (b : ℕ) → b < blocks_of (d file.Commit) → looked d b ≡ look.Wrong → ⊥

-- block b is seen, with the length and the digest that the commit has
pub record AsCommitted (d : Folder) (b : ℕ) : Type 0 where
  pub bytes : List ℕ
  pub is_seen : seen d b ≡ some bytes
  pub same : same_entry (entry_of bytes) (entry_in (bytes_of (d file.Commit)) b) ≡ true

-- A SAVE of k blocks writes c b for block b, and the commit of these
abbrev pub saves : ℕ → (ℕ → List ℕ) → File → List ℕ
saves k c (file.NewBlock b) = c b
saves k c file.NewCommit = commit_of (tab (λ b. entry_of (c b)) k)
saves k c (file.Block b) = []
saves k c file.Commit = []

-- the basin that it makes: blocks that are not written stay
abbrev pub renewed : ℕ → (ℕ → List ℕ) → Folder → ℕ → Option (List ℕ)
renewed k c d b = cond (ltb b k) (some (c b)) (d (file.Block b))

abbrev pub saving : ℕ → (ℕ → List ℕ) → Folder → ℕ → Folder
saving k c d n = folder_at (saves k c) (plan_steps (save_stages k)) d n

abbrev pub saved : ℕ → (ℕ → List ℕ) → Folder → Folder
saved k c d = all_of (saves k c) (plan_steps (save_stages k)) d

-- from a folder without a commit, of one block to sixteen: step by step the old basin is seen until step k + 4 has given the commit its
-- name, and the new one from then on; wherever the save is cut, one of the two, and the new one once a Keep has followed that step; what
-- is left looks right to a recovery; a save that ends has the new basin under the blocks' own names, and leaves no other file of its own
pub record SaveKeeps (k : ℕ) (c : ℕ → List ℕ) (d : Folder) : Type 0 where
  pub old : (n : ℕ) → n ≤ k + 3 → Alike (seen (saving k c d n)) (seen d)
  pub new : (n : ℕ) → k + 4 ≤ n → Alike (seen (saving k c d n)) (renewed k c d)
  pub cut : (e : Folder) → Cut (saves k c) (save_stages k) d e → Alike (seen e) (seen d) ⊎ Alike (seen e) (renewed k c d)
  pub kept : (e : Folder) → Cut (saves k c) (placing k ∷ ending ∷ []) (saving k c d (k + 5)) e → Alike (seen e) (renewed k c d)
  pub looks : ((b : ℕ) → b < k → length (c b) < 2 ^ 64) → (e : Folder) → Cut (saves k c) (save_stages k) d e → LooksRight e
  pub named : Alike (λ b. saved k c d (file.Block b)) (renewed k c d)
  pub no_new : (b : ℕ) → b < 16 → b < k → saved k c d (file.NewBlock b) ≡ none
  pub no_new_commit : saved k c d file.NewCommit ≡ none
  pub no_commit : saved k c d file.Commit ≡ none

-- A RECOVERY, by what it finds
abbrev pub there : Folder → List Bool
there d = tab (λ b. is_some (d (file.NewBlock b))) 16 ++ is_some (d file.NewCommit) ∷ []

abbrev pub recovery : Folder → List (List Step)
recovery d = recover_stages (blocks_of (d file.Commit)) (there d)

abbrev pub no_bytes : File → List ℕ
no_bytes f = []

-- recoveries one after the other, each cut anywhere or not at all
pub data Recoveries : Folder → Folder → Type 0 where
  no_recovery : {d : Folder} → Recoveries d d
  again : {d e g : Folder} → Cut no_bytes (recovery d) d e → Recoveries e g → Recoveries d g

-- a commit that is there can be read
abbrev pub Readable : Folder → Type 0
Readable d = (d file.Commit ≡ none) ⊎ (0 < blocks_of (d file.Commit))

abbrev pub recovered : Folder → Folder
recovered d = all_of no_bytes (plan_steps (recovery d)) d

-- in any folder recoveries keep what is seen, however often they are cut; one that ends leaves it under the blocks' own names, and no
-- other file
pub record RecoverKeeps (d : Folder) : Type 0 where
  pub cut : (e : Folder) → Recoveries d e → Alike (seen e) (seen d)
  pub looks : LooksRight d → (e : Folder) → Recoveries d e → LooksRight e
  pub named : Alike (λ b. recovered d (file.Block b)) (seen d)
  pub no_new : (b : ℕ) → b < 16 → recovered d (file.NewBlock b) ≡ none
  pub no_new_commit : recovered d file.NewCommit ≡ none
  pub no_commit : Readable d → recovered d file.Commit ≡ none

-- A READER BESIDE A SAVE. It opens the blocks one after the other, at the times `opened`; at a later instant it finds no commit; later, at
-- the times `again`, each name still has the file that was opened: no step between has put another there or taken it away
abbrev pub touches : Step → File → Bool
touches (step.Write f) g = same_name f g
touches (step.Rename f h) g = same_name f g || same_name h g
touches (step.Remove f) g = same_name f g
touches step.Keep g = false
touches step.Nothing g = false

pub record Reading (k : ℕ) (c : ℕ → List ℕ) (d : Folder) : Type 0 where
  pub opened : ℕ → ℕ
  pub instant : ℕ
  pub again : ℕ → ℕ
  pub before : (b : ℕ) → b < 16 → opened b ≤ instant
  pub after : (b : ℕ) → b < 16 → instant ≤ again b
  pub no_commit : saving k c d instant file.Commit ≡ none
  pub same_file : (b t : ℕ) → b < 16 → opened b ≤ t → t < again b → touches (get_or (plan_steps (save_stages k)) t step.Nothing) (file.Block b) ≡ false

-- what it has read is one basin, the old or the new
abbrev pub read : {k : ℕ} {c : ℕ → List ℕ} {d : Folder} → Reading k c d → ℕ → Option (List ℕ)
read {k} {c} {d} r b = saving k c d (r.opened b) (file.Block b)

abbrev pub ReadsOne : (k : ℕ) (c : ℕ → List ℕ) (d : Folder) → Reading k c d → Type 0
ReadsOne k c d r = Alike (read r) (seen d) ⊎ Alike (read r) (renewed k c d)
