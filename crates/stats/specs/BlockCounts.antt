-- The counts of a block, in the model's terms: darts, volumes, pieces, critical faces, counter. Assumes nothing.
use Rattle.std.specs.Prelude.{Bool, true, false, cond, List, ℕ, length}
use Rattle.model.specs.Lists.{keep}
use Rattle.model.specs.Values.{Third, free, sewn, critical, Dart, Block}
use Rattle.model.specs.Cells.{faces, start_of, serials, next_in, third_at}
use Rattle.model.specs.Image.{column, is_critical_word, block_in, holds_block}
use Rattle.model.specs.Balance.{every, picked}
use Rattle.stats.specs.declared.counts.BlockCounts.{BlockCounts}
use Rattle.stats.specs.Pieces.{piece_starts}

abbrev pub is_critical : Third → Bool
is_critical free = false
is_critical (sewn y) = false
is_critical (critical o l) = true

-- the faces of a block's darts that are critical, in message order; all darts of a face of a sound block are, or none is
unfoldable pub critical_faces : List Dart → List (List ℕ)
critical_faces ds = keep (λ f. is_critical (third_at ds (start_of f))) (faces (next_in ds) (serials ds))

-- the oracle `every` picks every volume
abbrev pub counts_in : Block → BlockCounts
counts_in b = record {
  darts = length b.darts;
  volumes = length (picked every b.darts);
  pieces = length (piece_starts b.darts);
  critical = length (critical_faces b.darts);
  counter = b.counter;
}

abbrev pub no_counts : BlockCounts
no_counts = record { darts = 0; volumes = 0; pieces = 0; critical = 0; counter = 0 }

-- of a block's memory; of any other memory all zero
unfoldable pub block_counts : List ℕ → BlockCounts
block_counts m = cond (holds_block m) (counts_in (block_in m)) no_counts

-- BY PLACE: the dart at place p is critical
abbrev pub critical_at : List ℕ → ℕ → Bool
critical_at m p = is_critical_word (column m 3 p)
