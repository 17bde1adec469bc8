-- Questions 5 to 7 of a block, without those of its points; and what a call gives that stores the block of memory in serials.
-- Assumes nothing.
use Rattle.std.specs.Prelude.{ℕ, List, [], ◌∷◌, length}
use Rattle.model.specs.Lists.{Check}
use Rattle.model.specs.Values.{Block}
use Rattle.model.specs.Sound.{links_right, thirds_right, labels_right, block_checks}
use Rattle.model.specs.Image.{image}
use Rattle.model.specs.Calls.{Result, asked}
use Rattle.newblock.specs.Serials.{raw_block}

unfoldable pub link_checks : Block → List Check
link_checks b = (5, links_right b.darts) ∷ (6, thirds_right b.darts) ∷ (7, labels_right b) ∷ []

-- 4 to 8, then its image in the place of what was there
abbrev pub storing_block : List ℕ → List ℕ → Result (Unit {0})
storing_block m before = asked (block_checks (raw_block m)) before tt (image (length m) (raw_block m))

-- 5 to 7, then the same
abbrev pub storing_links : List ℕ → List ℕ → Result (Unit {0})
storing_links m before = asked (link_checks (raw_block m)) before tt (image (length m) (raw_block m))
