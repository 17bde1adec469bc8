-- Answers: the paper's number and values for each case of an answer, and what a call gives. Assumes nothing.
use Rattle.std.specs.Prelude.{◌≡◌, List, [], ℕ, Err, Ok, Result}
use Rattle.model.specs.Lists.{Check}
use Rattle.model.specs.Balance as balance
use Rattle.model.specs.Calls as calls
use Rattle.answers.specs.declared.Refusal.{Refusal}
use Rattle.answers.specs.declared.Refusal.TheVariants as refusal
use Rattle.answers.specs.declared.NextMove.{NextMove}
use Rattle.answers.specs.declared.NextMove.TheVariants as move

-- the number of the question that a refusal says no to
abbrev pub question : Refusal → ℕ
question refusal.MemorySize = 1
question refusal.NotAnImage = 2
question refusal.FileLayout = 3
question refusal.CoordinateNotFinite = 4
question refusal.LinksWrong = 5
question refusal.ThirdLinksWrong = 6
question refusal.LabelsWrong = 7
question refusal.PointsDisagree = 8
question refusal.Destination = 9
question refusal.SerialNotHeld = 10
question refusal.VolumeTooLarge = 11
question refusal.SewnWithin = 12
question refusal.VertexPairs = 13
question refusal.CounterFull = 14
question refusal.OutputTooShort = 15
question refusal.MessageLayout = 16
question refusal.NotForHere = 17
question refusal.SerialsNotNew = 18
question refusal.VolumeWrong = 19
question refusal.PartsWrong = 20
question refusal.BlockFull = 21
question refusal.UpdateWrong = 22
question refusal.BlockNumbers = 23
question refusal.SerialsRepeated = 24
question refusal.LabelsUnpaired = 25
question refusal.PointsAcross = 26
question refusal.MakersWrong = 27
question refusal.OracleWrong = 28
question refusal.VolumeForViewer = 29
question refusal.PagesTooLong = 30

-- what a call answers: a value, or the question that it was refused by
abbrev pub OrRefused : Type 0 → Type 0
OrRefused A = Result A Refusal

-- THE MODEL'S ANSWER of each case
-- of a call that adds nothing
abbrev pub answer_of : OrRefused (Unit {0}) → calls.Answer (Unit {0})
answer_of (Ok tt) = calls.served tt
answer_of (Err r) = calls.refused (question r)

-- of a call that adds the bytes written
abbrev pub written_of : OrRefused ℕ → calls.Answer ℕ
written_of (Ok n) = calls.served n
written_of (Err r) = calls.refused (question r)

-- of next move: a donor, a recipient and a serial
abbrev pub move_of : NextMove → calls.Answer balance.NextMove
move_of move.Level = calls.served balance.level
move_of move.Blocked = calls.served balance.blocked
move_of (move.Move d r s) = calls.served (balance.move (record { donor = d; recipient = r; serial = s }))
move_of (move.Refused r) = calls.refused (question r)

-- WHAT A CALL GIVES
-- a result: the answer, and afterwards what was lent to be written
pub record Gives {A : Type 0} (result : calls.Result A) (given : calls.Answer A) (lent : List ℕ) : Type 0 where
  pub answer : given ≡ result.answer
  pub left : lent ≡ result.lent

-- questions alone: the first no, or served
unfoldable pub answered : List Check → calls.Answer (Unit {0})
answered qs = (calls.asked qs [] tt []).answer
