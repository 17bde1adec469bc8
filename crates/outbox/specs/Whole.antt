-- The whole transfer of a surveyed volume: its sizes, and its bytes by the arrays. Assumes nothing.
use Rattle.std.specs.Prelude.{◌≡◌, List, ◌++◌, ℕ, ◌<◌, ◌^◌, length, get_or}
use Rattle.model.specs.Layouts.{group, framed}
use Rattle.model.specs.Messages.{Transfer, transfer}
use Rattle.departure.specs.ByPlaces.{transfer_at}
use Rattle.departure.specs.Asked.{faces_at}
use Rattle.departure.specs.declared.Counts.{Counts}
use Rattle.outbox.specs.Runs.{run, tally}
use Rattle.outbox.specs.Bytes.{faces_put, in_part2, in_part3, in_part4, part2_put, part3_put, part4_put, point_put}
use Rattle.outbox.specs.declared.transfer.Sizes.{Sizes}

-- to block j
abbrev pub transfer_for : List ℕ → ℕ → Counts → List ℕ → List ℕ → List ℕ → Transfer
transfer_for m j c marks numbers firsts = transfer_at m j marks (faces_at m marks) numbers firsts c.vertices

-- what is counted of a transfer before it is put
pub record TransferSized (t : Transfer) (s : Sizes) : Type 0 where
  pub part2_is : s.part2 ≡ length t.part2
  pub part4_is : s.part4 ≡ length t.part4
  pub rest_is : s.rest ≡ length (transfer.put t)
  pub whole_is : s.whole ≡ length (framed transfer t)
  pub small : s.whole < 2 ^ 32

-- BY THE ARRAYS: kind, blocks, points and faces; then the parts
unfoldable pub first_bytes : List ℕ → ℕ → Counts → List ℕ → List ℕ → List ℕ → List ℕ → List ℕ
first_bytes m j c order starts numbers firsts = group.put 1 ++ (group.put (get_or m 0 0) ++ (group.put j
    ++ ((group.put c.vertices ++ run (point_put m firsts) c.vertices)
    ++ (group.put c.faces ++ run (faces_put m numbers order starts c.darts c.faces) c.faces))))

unfoldable pub parts_bytes : List ℕ → ℕ → Counts → List ℕ → List ℕ → List ℕ → List ℕ
parts_bytes m j c marks order starts =
    (group.put (tally (in_part2 m j order starts) c.faces) ++ run (part2_put m j order starts) c.faces)
    ++ ((group.put (tally (in_part3 m marks order starts) c.faces) ++ run (part3_put m marks (get_or m 1 0) order starts) c.faces)
    ++ (group.put (tally (in_part4 m j order starts) c.faces) ++ run (part4_put m j order starts c.darts c.faces) c.faces))
