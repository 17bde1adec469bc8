-- What a slice is as a message: the kind that it has, with its outline, or none. Assumes nothing.
use Rattle.std.specs.Prelude.{◌≡◌, List, true, ℕ, ◌+◌, ◌*◌, ◌≤◌, length}
use Rattle.model.specs.Layouts.{times}
use Rattle.model.specs.Messages.{Transfer, Update, part2, part3, part4, size_all, a_transfer, an_update, no_message, message_in}
use Rattle.inbox.specs.declared.message.Front.{Front}
use Rattle.inbox.specs.declared.message.Tail.{Tail}
use Rattle.inbox.specs.declared.received.Received.{Received}
use Rattle.inbox.specs.declared.received.Received.TheVariants as received
use Rattle.codec.specs.Taken.{Took}
use Rattle.inbox.specs.Inbox.{Sides, FacesIn, points_in, some_darts, is_hollow}
use Rattle.inbox.specs.Outlines.{UpdateOutlined}

-- A TRANSFER by its two halves and the arrays of its darts
pub record TransferOutlined (t : Transfer) (s v x b z : List ℕ) (f : Front) (l : Tail) : Type 0 where
  pub from_is : f.from ≡ t.from
  pub to_is : f.to ≡ t.to
  pub points_are : points_in s f.points f.vertices ≡ t.points
  pub points_fit : f.points + 24 * f.vertices ≤ length s
  pub some_there : some_darts t.faces ≡ true
  pub darts_are : f.darts ≡ size_all t.faces
  pub hollow_is : f.hollow ≡ is_hollow t.faces
  pub inside : FacesIn t.faces v x b z
  pub past2 : ℕ
  pub past3 : ℕ
  pub past4 : ℕ
  pub part2_in : Took (times l.count2 part2) s l.part2 t.part2 past2
  pub part3_in : Took (times l.count3 part3) s l.part3 t.part3 past3
  pub part4_in : Took (times l.count4 (part4 t.faces)) s l.part4 t.part4 past4

-- 16: THE MESSAGE
abbrev pub MessageSaid : List ℕ → List ℕ → List ℕ → List ℕ → List ℕ → Received → Type 0
MessageSaid s v x b z (received.Transfer f l) = (t : Transfer) × (message_in s ≡ a_transfer t) × TransferOutlined t s v x b z f l
MessageSaid s v x b z (received.Update o) = (u : Update) × (message_in s ≡ an_update u) × UpdateOutlined u s o
MessageSaid s v x b z received.Nothing = message_in s ≡ no_message

pub record MessageRead (s v x b z : List ℕ) (r : Received) : Type 0 where
  pub sides : Sides v x b z
  pub said : MessageSaid s v x b z r
