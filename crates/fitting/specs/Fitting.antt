-- Question 20 as a whole, by arrays. Assumes nothing.
use Rattle.std.specs.Prelude.{◌≡◌, Bool, true, false, List, ℕ, ◌≤◌, ◌<◌, ◌^◌, length, get_or, take}
use Rattle.model.specs.Lists.{distinct}
use Rattle.model.specs.Image.{block_in}
use Rattle.model.specs.Messages.{Transfer}
use Rattle.model.specs.Arrival.{volume_right, parts_right, transfer_links}
use Rattle.inbox.specs.declared.message.Front.{Front}
use Rattle.inbox.specs.declared.message.Tail.{Tail}
use Rattle.inbox.specs.Arrived.{TransferOutlined}
use Rattle.ranking.specs.Ranks.{Ranked}
use Rattle.arrival.specs.Draft.{Draft, NewSerials}
use Rattle.parts.specs.Locate.{Located}
use Rattle.parts.specs.Sewing.{Sewable, Part2Told}
use Rattle.join.specs.Join.{Linking}

-- whether the first c codes differ; then they are ranked
pub record CodesRanked (codes : List ℕ) (c : ℕ) (keys ranks : List ℕ) (r : Bool) : Type 0 where
  pub is : r ≡ distinct (take c codes)
  pub ranked : r ≡ true → Ranked codes c keys ranks

-- the c entries of part 2 in arrays, beside a block m and a draft d of k darts
pub record Part2Ready (m d ranks z codes indices : List ℕ) (k from c : ℕ) : Type 0 where
  pub codes_size : c ≤ length codes
  pub codes_small : (e : ℕ) → e < c → get_or codes e 0 < 2 ^ 54
  pub sewable : (places : List ℕ) → c ≤ length places → Sewable m d ranks z places indices (get_or m 2 0) k from c

-- two codes are one, or it is told of the places where the labels stand
pub record Part2Done (m d ranks z codes indices : List ℕ) (from c : ℕ) (kinds kinds' links links' : List ℕ) (r : Bool) : Type 0 where
  pub same_code : distinct (take c codes) ≡ false → r ≡ false
  pub places : List ℕ
  pub located : distinct (take c codes) ≡ true → Located m codes c (get_or m 2 0) places
  pub told : distinct (take c codes) ≡ true → Part2Told m d ranks z places indices (get_or m 2 0) from c kinds kinds' links links' r

-- a transfer with a yes to 18 and 19: its darts are new, one volume, and drafted
pub record NewVolume (m s v x b z : List ℕ) (f : Front) (l : Tail) (ranks d : List ℕ) : Type 0 where
  pub keys : List ℕ
  pub opposite : List ℕ
  pub draft : Draft v x b z keys ranks opposite s f.points f.darts d
  pub fresh : NewSerials (block_in m).darts s f.points f.vertices x f.darts keys ranks true
  pub brought : Transfer
  pub outlined : TransferOutlined brought s v x b z f l
  pub right : (t : Transfer) → TransferOutlined t s v x b z f l → volume_right t ≡ true

-- 20 of the transfer that an outline tells; on a yes the words are the links that it brings
pub record Parted (m s v x b z : List ℕ) (f : Front) (l : Tail) (kinds links : List ℕ) (r : Bool) : Type 0 where
  pub is : (t : Transfer) → TransferOutlined t s v x b z f l → r ≡ parts_right (block_in m) t
  pub linking : r ≡ true → (t : Transfer) → TransferOutlined t s v x b z f l → Linking m (get_or m 2 0) f.darts x kinds links (transfer_links (block_in m).darts t)
