-- The names of a basin's files. Assumes nothing.
use Rattle.std.specs.Prelude.{Bool, true, List, [], ◌∷◌, ◌++◌, ℕ, ◌+◌, ◌-◌, ◌/◌, ◌%◌, ltb, length, replicate}
use Rattle.model.specs.Lists.{same_list}
use Rattle.model.specs.Text.{bytes}
use Rattle.commands.specs.declared.names.File.{File}
use Rattle.commands.specs.declared.names.File.TheVariants as file
use Rattle.commands.specs.declared.names.Name.{Name}

-- block-00.dmap
unfoldable pub block_name : ℕ → List ℕ
block_name b = bytes "block-" ++ (48 + b / 10 % 10) ∷ (48 + b % 10) ∷ bytes ".dmap"

-- a new file has its own name until it is put in place
unfoldable pub name_of : File → List ℕ
name_of (file.Block b) = block_name b
name_of (file.NewBlock b) = block_name b ++ bytes ".new"
name_of file.Commit = bytes "basin.commit"
name_of file.NewCommit = bytes "basin.commit.new"

-- two files are one if their names are
unfoldable pub same_name : File → File → Bool
same_name f g = same_list (name_of f) (name_of g)

-- a basin has sixteen blocks at the most
abbrev pub is_basins : File → Bool
is_basins (file.Block b) = ltb b 16
is_basins (file.NewBlock b) = ltb b 16
is_basins file.Commit = true
is_basins file.NewCommit = true

-- IN CODE a name is 17 bytes, of which so many count
abbrev pub padded : List ℕ → List ℕ
padded n = n ++ replicate (17 - length n) 0

unfoldable pub file_named : File → Name
file_named f = record { bytes = padded (name_of f); size = length (name_of f) }

unfoldable pub nameless : Name
nameless = record { bytes = padded []; size = 0 }
