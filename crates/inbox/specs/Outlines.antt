-- What the readers of whole messages answer: an outline of the message that the layout takes, or that it takes none. Assumes nothing.
use Rattle.std.specs.Prelude.{◌≡◌, true, List, ℕ, ◌+◌, ◌*◌, ◌≤◌, length, drop, None, Option, Some}
use Rattle.std.proofs.Math.Option.{none, some}
use Rattle.model.specs.Values.{last_block}
use Rattle.model.specs.Layouts.{Layout, group, ◌⊕◌, at_most, exactly, times, counted, whole, unframed}
use Rattle.model.specs.Messages.{FaceDart, Part2, Part3, Part4, Update, transfer, update, label, part1, part2, part3, part4, size_all}
use Rattle.reader.specs.declared.Head.{Head}
use Rattle.inbox.specs.declared.message.Front.{Front}
use Rattle.inbox.specs.declared.message.Tail.{Tail}
use Rattle.inbox.specs.declared.message.Update.{Update as UpdateOutline}
use Rattle.codec.specs.Taken.{Took}
use Rattle.inbox.specs.Inbox.{Sides, FacesIn, points_in, some_darts, is_hollow}
use Rattle.inbox.specs.declared.message.Counted.{Counted}

-- THE HEAD: kind, sender, receiver
pub record Headed (k : ℕ) (s : List ℕ) (at from to next : ℕ) : Type 0 where
  pub past : ℕ
  pub after : ℕ
  pub kind_read : Took (exactly k) s at k past
  pub from_read : Took (at_most last_block) s past from after
  pub to_read : Took (at_most last_block) s after to next

-- in its frame, "Its first number is the length of the rest": both kinds of message are read behind that number
pub record Framed (s : List ℕ) (h : Head) : Type 0 where
  pub transfer_as : unframed transfer s ≡ whole transfer (drop h.body s)
  pub update_as : unframed update s ≡ whole update (drop h.body s)
  pub past : ℕ
  pub after : ℕ
  pub kind_read : Took group s h.body h.kind past
  pub from_read : Took (at_most last_block) s past h.from after
  pub to_read : Took (at_most last_block) s after h.to h.next

abbrev pub HeadSaid : List ℕ → Option Head → Type 0
HeadSaid s None = (unframed transfer s ≡ none) × (unframed update s ≡ none)
HeadSaid s (Some h) = Framed s h

pub record HeadRead (s : List ℕ) (r : Option Head) : Type 0 where
  pub said : HeadSaid s r

-- A COUNT and so many entries
pub record Entries {A : Type 0} (l : Layout A) (s : List ℕ) (at count first next : ℕ) : Type 0 where
  pub items : List A
  pub count_read : Took group s at count first
  pub items_read : Took (times count l) s first items next

abbrev pub CountedSaid : {A : Type 0} → Layout A → List ℕ → ℕ → Option Counted → Type 0
CountedSaid l s at None = (counted l).get (drop at s) ≡ none
CountedSaid l s at (Some c) = Entries l s at c.count c.first c.next

pub record CountedRead {A : Type 0} (l : Layout A) (s : List ℕ) (at : ℕ) (r : Option Counted) : Type 0 where
  pub said : CountedSaid l s at r

-- A TRANSFER in two halves: part 1, and parts 2 to 4
pub record Fronted (s : List ℕ) (at : ℕ) (v x b z : List ℕ) (r : Front) : Type 0 where
  pub fs : List (List FaceDart)
  pub took : Took part1 s at (1, (r.from, (r.to, (points_in s r.points r.vertices, fs)))) r.next
  pub points_fit : r.points + 24 * r.vertices ≤ length s
  pub some_there : some_darts fs ≡ true
  pub darts_are : r.darts ≡ size_all fs
  pub hollow_is : r.hollow ≡ is_hollow fs
  pub inside : FacesIn fs v x b z

abbrev pub FrontSaid : List ℕ → ℕ → List ℕ → List ℕ → List ℕ → List ℕ → Option Front → Type 0
FrontSaid s at v x b z None = part1.get (drop at s) ≡ none
FrontSaid s at v x b z (Some r) = Fronted s at v x b z r

pub record FrontRead (s : List ℕ) (at : ℕ) (v x b z : List ℕ) (r : Option Front) : Type 0 where
  pub sides : Sides v x b z
  pub said : FrontSaid s at v x b z r

abbrev pub tail_layout : List (List FaceDart) → Layout (List Part2 × (List Part3 × List Part4))
tail_layout fs = counted part2 ⊕ counted part3 ⊕ counted (part4 fs)

pub record Tailed (fs : List (List FaceDart)) (s : List ℕ) (at : ℕ) (r : Tail) : Type 0 where
  pub second : List Part2
  pub third : List Part3
  pub fourth : List Part4
  pub took : Took (tail_layout fs) s at (second, (third, fourth)) (length s)
  pub past2 : ℕ
  pub past3 : ℕ
  pub past4 : ℕ
  pub part2_in : Took (times r.count2 part2) s r.part2 second past2
  pub part3_in : Took (times r.count3 part3) s r.part3 third past3
  pub part4_in : Took (times r.count4 (part4 fs)) s r.part4 fourth past4

abbrev pub TailSaid : List (List FaceDart) → List ℕ → ℕ → Option Tail → Type 0
TailSaid fs s at None = whole (tail_layout fs) (drop at s) ≡ none
TailSaid fs s at (Some r) = Tailed fs s at r

pub record TailRead (fs : List (List FaceDart)) (s : List ℕ) (at : ℕ) (r : Option Tail) : Type 0 where
  pub said : TailSaid fs s at r

-- AN UPDATE
pub record UpdateOutlined (u : Update) (s : List ℕ) (r : UpdateOutline) : Type 0 where
  pub from_is : r.from ≡ u.from
  pub to_is : r.to ≡ u.to
  pub block_is : r.block ≡ u.block
  pub from_small : r.from ≤ last_block
  pub block_small : r.block ≤ last_block
  pub past : ℕ
  pub labels_in : Took (times r.count label) s r.labels u.labels past

abbrev pub OutlineSaid : List ℕ → ℕ → Option UpdateOutline → Type 0
OutlineSaid s at None = whole update (drop at s) ≡ none
OutlineSaid s at (Some r) = (u : Update) × (whole update (drop at s) ≡ some u) × UpdateOutlined u s r

pub record UpdateRead (s : List ℕ) (at : ℕ) (r : Option UpdateOutline) : Type 0 where
  pub said : OutlineSaid s at r
