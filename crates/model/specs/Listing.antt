-- The listing of a block, as text. Assumes nothing.
use Rattle.std.specs.Prelude.{cond, List, ◌++◌, ℕ, ltb, length, replicate}
use Rattle.model.specs.Lists.{concat_map}
use Rattle.model.specs.Values.{Dart, Block, Limits}
use Rattle.model.specs.Text.{bytes, decimal, third_text}
use Rattle.model.specs.Image.{words_of, block_in}
use Rattle.model.specs.Calls.{served, refused, Result, read_file}

-- "serial, next, opposite, third link"
unfoldable pub dart_line : Dart → List ℕ
dart_line d = decimal d.serial ++ bytes " " ++ decimal d.next ++ bytes " " ++ decimal d.opposite ++ bytes " " ++ third_text d.third ++ bytes "\n"

unfoldable pub header_line : Block → List ℕ
header_line b = bytes "block " ++ decimal b.number ++ bytes " darts " ++ decimal (length b.darts) ++ bytes " counter " ++ decimal b.counter ++ bytes "\n"

unfoldable pub listing : Block → List ℕ
listing b = header_line b ++ concat_map dart_line b.darts

-- what the listing program prints for a file: "more prints `too long`", "a refusal prints `refused N`"
abbrev pub listing_of : Result (Unit {0}) → List ℕ
listing_of r = elim r.answer [ served u ↦ listing (block_in r.lent) | refused n ↦ bytes "refused " ++ decimal n ++ bytes "\n" ]

unfoldable pub listed : Limits → List ℕ → List ℕ
listed lim file = let read = read_file lim file (replicate (words_of lim) 0) in cond (ltb 65536 (length file)) (bytes "too long\n") (listing_of read)
