-- `redirect::named::index_faces` meets its contract. The loop's invariant: faces with a dart below p have their index, which is marked.
-- Assumes nothing.
use mathlib.Core.Path.{◌≡◌}
use lib.ListN.{length}
use Rattle.redirect.specs.ByPlaces.{code_index}
use Rattle.redirect.proofs.Indices.{Indexing}
use Rattle.redirect.proofs.Hits.{Hitting}
use Rattle.redirect.proofs.named.index_faces.Given as goal

abbrev pub invariant-loop-p : goal.invariant-loop-p
invariant-loop-p l =
    Indexing (code_index l.block l.from l.codes l.c) l.n l.p l.table × Hitting (code_index l.block l.from l.codes l.c) l.n l.table l.hits
    × (length l.table ≡ length l.initial.table) × (length l.hits ≡ length l.initial.hits)
