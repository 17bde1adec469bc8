-- What is sent, by places. Assumes nothing.
use Rattle.std.specs.Prelude.{List, ◌++◌, map, ℕ}
use Rattle.model.specs.Lists.{concat}
use Rattle.model.specs.Layouts.{framed}
use Rattle.model.specs.Messages.{transfer, update}
use Rattle.departure.specs.ByPlaces.{updates_at}
use Rattle.departure.specs.Asked.{faces_at}
use Rattle.departure.specs.declared.Counts.{Counts}
use Rattle.outbox.specs.Whole.{transfer_for}

-- the transfer of a surveyed volume that goes to block j, then its updates
unfoldable pub messages_at : List ℕ → ℕ → Counts → List ℕ → List ℕ → List ℕ → List ℕ
messages_at m j c marks numbers firsts = framed transfer (transfer_for m j c marks numbers firsts) ++ concat (map (framed update) (updates_at m j (faces_at m marks)))
