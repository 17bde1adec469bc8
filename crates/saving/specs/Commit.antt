-- The commit of a save: how many blocks, then the length and the digest of each one's file, in words of 8 bytes. Assumes nothing.
use Rattle.groups.specs.Slices.{MaybeRead}
use Rattle.std.specs.Prelude.{cond, ◌&&◌, List, [], ◌∷◌, ◌++◌, ℕ, ◌+◌, ◌*◌, ◌%◌, leb, ltb, eqb, length, None, Some}
use Rattle.model.specs.Lists.{concat_map}
use Rattle.model.specs.Layouts.{coordinate}
use Rattle.groups.specs.Slices.{read_at}
use Rattle.saving.specs.declared.commit.Entry.{Entry}

-- THE DIGEST of bytes, a number below the prime 2^55 - 55, which 257^6 is below: its products fit a word, and it tells bytes of one length
-- apart that differ within six in a row
abbrev pub modulus : ℕ
modulus = 36028797018963913

unfoldable pub digest_from : ℕ → List ℕ → ℕ
digest_from h [] = h
digest_from h (b ∷ bs) = digest_from ((h * 257 + b + 1) % modulus) bs

unfoldable pub digest : List ℕ → ℕ
digest bytes = digest_from 0 bytes

-- WHAT IS PUT
unfoldable pub entry_of : List ℕ → Entry
entry_of bytes = record { size = length bytes; digest = digest bytes }

unfoldable pub entry_bytes : Entry → List ℕ
entry_bytes e = coordinate.put e.size ++ coordinate.put e.digest

unfoldable pub commit_of : List Entry → List ℕ
commit_of es = coordinate.put (length es) ++ concat_map entry_bytes es

-- WHAT IS READ
abbrev pub value_in : MaybeRead → ℕ
value_in (Some (v, past)) = v
value_in None = 0

-- word i; 0 past the end
unfoldable pub commit_word : List ℕ → ℕ → ℕ
commit_word s i = value_in (read_at coordinate s (8 * i))

-- how many blocks, 1 to 16; 0 where the bytes are no commit: their number is not that of their blocks
unfoldable pub committed : List ℕ → ℕ
committed s = let k = commit_word s 0 in cond (ltb 0 k && leb k 16 && eqb (length s) (8 + 16 * k)) k 0

-- of block b
unfoldable pub entry_in : List ℕ → ℕ → Entry
entry_in s b = record { size = commit_word s (1 + 2 * b); digest = commit_word s (2 + 2 * b) }
