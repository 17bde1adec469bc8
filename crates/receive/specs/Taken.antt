-- What the parts of the call answer: the questions of a transfer, and what it does to the memory. Assumes nothing.
use Rattle.std.specs.Prelude.{◌≡◌, List, ◌++◌, Bool, true, false, ℕ, ◌+◌, ◌≤◌, leb, length, get_or, Err, Ok}
use Rattle.model.specs.Values.{Limits}
use Rattle.model.specs.Image.{block_in, memory_checks}
use Rattle.model.specs.Messages.{Transfer, Message, a_transfer, message_in, size_all}
use Rattle.model.specs.Arrival.{addressed, transfer_links, serials_new, volume_right, parts_right, receive_checks, received_from}
use Rattle.model.specs.Calls.{Answer, Result, refused, storing}
use Rattle.answers.specs.Answers.{Gives, answered, question, OrRefused}
use Rattle.inbox.specs.declared.message.Front.{Front}
use Rattle.inbox.specs.declared.message.Tail.{Tail}
use Rattle.inbox.specs.Arrived.{TransferOutlined}
use Rattle.join.specs.Join.{Linking}
use Rattle.arrival.specs.Draft.{Draft}
use Rattle.answers.specs.declared.Refusal.TheVariants as refusal

-- the call on a message that was read, by the block's limits
unfoldable pub receive_by : Limits → List ℕ → Message → Result (Unit {0})
receive_by lim m r = storing lim (memory_checks lim m ++ receive_checks lim (block_in m) r) m (received_from (block_in m) r)

-- the call on the transfer that an outline tells
pub record Takes (lim : Limits) (m s v x b z : List ℕ) (f : Front) (l : Tail) (given : Answer (Unit {0})) (lent : List ℕ) : Type 0 where
  pub gives : (t : Transfer) → message_in s ≡ a_transfer t → TransferOutlined t s v x b z f l → Gives (receive_by lim m (a_transfer t)) given lent

-- each answer is yes
pub record AllYes (lim : Limits) (m : List ℕ) (t : Transfer) : Type 0 where
  pub for_here : addressed t.from t.to (block_in m) ≡ true
  pub small : leb (size_all t.faces) lim.volume_darts ≡ true
  pub serials : serials_new (block_in m).darts t ≡ true
  pub volume : volume_right t ≡ true
  pub parts : parts_right (block_in m) t ≡ true
  pub fits : leb (length (block_in m).darts + size_all t.faces) lim.block_darts ≡ true

-- QUESTIONS 17, 29 AND 18 TO 21 of the transfer that an outline tells: the first no, or what a yes to all leads to
abbrev pub AskedSaid : Limits → List ℕ → List ℕ → List ℕ → List ℕ → List ℕ → List ℕ → Front → Tail → List ℕ → List ℕ → List ℕ → List ℕ → List ℕ → List ℕ → OrRefused (Unit {0}) → Type 0
AskedSaid lim m s v x b z f l keys ranks q c kinds links (Err r) =
    (t : Transfer) → message_in s ≡ a_transfer t → TransferOutlined t s v x b z f l → refused (question r) ≡ answered (receive_checks lim (block_in m) (a_transfer t))
AskedSaid lim m s v x b z f l keys ranks q c kinds links (Ok tt) =
    ((t : Transfer) → message_in s ≡ a_transfer t → TransferOutlined t s v x b z f l → AllYes lim m t × Linking m (get_or m 2 0) f.darts x kinds links (transfer_links (block_in m).darts t))
    × Draft v x b z keys ranks q s f.points f.darts c × (get_or m 2 0 + f.darts ≤ lim.block_darts) × (f.darts ≤ lim.volume_darts)

pub record AskedAll (lim : Limits) (m s v x b z : List ℕ) (f : Front) (l : Tail) (keys ranks q c kinds links : List ℕ) (r : OrRefused (Unit {0})) : Type 0 where
  pub said : AskedSaid lim m s v x b z f l keys ranks q c kinds links r

-- 20 and 21 alone: are the parts right, and is there room?
abbrev pub last_two : Bool → Bool → OrRefused (Unit {0})
last_two false fits = Err refusal.PartsWrong
last_two true false = Err refusal.BlockFull
last_two true true = (Ok tt)
