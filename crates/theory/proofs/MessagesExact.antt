-- Demand 2 of messages: what send writes is cut and read back to the transfer and the updates, and what reads as a message has its bytes.
-- Then demand 2 as a whole. Assumes nothing.
use mathlib.Core.Path.{◌≡◌, refl, sym, ◌∙◌, ap}
use mathlib.Core.Bool.{true}
use mathlib.Core.List.{List, [], ◌∷◌, ◌++◌, map}
use mathlib.Core.Option.{Option, none, some}
use Prim.Native.Nat.{ℕ, ◌≤◌, ◌^◌, ◌<◌}
use native.Mathlib.Omega.{arith}
use lib.Dec.{leb}
use lib.ListN.{length, take, drop}
use lib.Seq.{take-append_seam}
use Rattle.model.specs.Lists.{concat, Check, first_no}
use Rattle.model.specs.Values.{Block, Limits, room, message_darts}
use Rattle.model.specs.Layouts.{framed, unframed}
use Rattle.model.specs.Sound.{sound_block}
use Rattle.model.specs.Image.{block_in, memory_checks}
use Rattle.model.specs.Messages.{Transfer, Update, transfer, update, a_transfer, an_update, one_of, message_in}
use Rattle.model.specs.Departure.{departure_checks, transfer_of, updates_of, messages}
use Rattle.model.specs.Calls.{served, Result, writing, send}
use Rattle.model.specs.DividedRun.{messages_in}
use Rattle.model.specs.Demands.{Bytes, MessagesExact, Demand2}
use Rattle.laws.proofs.Members.{Each}
use Rattle.laws.proofs.Tests.{first_no_left}
use Rattle.theory.proofs.CallLaws.{served_gives, served_value, after_memory}
use Rattle.theory.proofs.CutLaws.{Framed, framed_is, messages_back}
use Rattle.theory.proofs.PagesExact.{pages_exact}
use Rattle.theory.proofs.DemandTwo.{files_exact}
use Rattle.theory.proofs.LayoutLaws.{framed_only}
use Rattle.theory.proofs.LayoutLengths.{update_short}
use Rattle.theory.proofs.MessageLaws.{transfer_lawful, update_lawful}
use Rattle.theory.proofs.SentLengths.{transfer_fits}
use Rattle.theory.proofs.SentMessages.{transfer_ok, Fine, updates_ok}
use Rattle.theory.proofs.Written.{group_ok, transfer_back, update_back}

-- WHAT READS AS A MESSAGE
transfer_is : (o : Option Transfer) (p : Option Update) (t : Transfer) → one_of o p ≡ a_transfer t → o ≡ some t
transfer_is none none t e = let z : ◌≡◌ {A = ℕ} 0 1 = cc in absurd (omega arith)
transfer_is none (some u) t e = let z : ◌≡◌ {A = ℕ} 0 1 = cc in absurd (omega arith)
transfer_is (some s) p t e = let z : s ≡ t = cc in ap (λ (x : Transfer). some x) z

update_is : (o : Option Transfer) (p : Option Update) (u : Update) → one_of o p ≡ an_update u → p ≡ some u
update_is none none u e = let z : ◌≡◌ {A = ℕ} 0 1 = cc in absurd (omega arith)
update_is none (some w) u e = let z : w ≡ u = cc in ap (λ (x : Update). some x) z
update_is (some s) p u e = let z : ◌≡◌ {A = ℕ} 0 1 = cc in absurd (omega arith)

-- "Layout of its kind to the last byte": the slice is that message's bytes, and the message has a layout
pub transfer_read : (bytes : List ℕ) (t : Transfer) → Bytes bytes → message_in bytes ≡ a_transfer t → (bytes ≡ framed transfer t) × (transfer.ok t ≡ true)
unfolding message_in
transfer_read bytes t h e = framed_only transfer transfer_lawful bytes t h (transfer_is (unframed transfer bytes) (unframed update bytes) t e)

pub update_read : (bytes : List ℕ) (u : Update) → Bytes bytes → message_in bytes ≡ an_update u → (bytes ≡ framed update u) × (update.ok u ≡ true)
unfolding message_in
update_read bytes u h e = framed_only update update_lawful bytes u h (update_is (unframed transfer bytes) (unframed update bytes) u e)

-- THE MESSAGES OF A VOLUME THAT MAY LEAVE
module _ (lim : Limits) (fits : lim.block_darts ≤ room) (few_sent : lim.volume_darts ≤ message_darts) where
  module _ (b : Block) (sound : sound_block lim b ≡ true) (j s : ℕ) (asks : first_no (departure_checks lim.volume_darts b j s) ≡ 0) where
    pub transfer_small : length (transfer.put (transfer_of b j s)) < 2 ^ 32
    transfer_small = let a = transfer_fits lim b fits few_sent sound j s asks in omega arith

    update_small : (w : Update) → Fine lim b fits sound few_sent j s asks w → length (update.put w) < 2 ^ 32
    update_small w f = let a = update_short w in let c = f.few_labels in omega arith

    updates_framed : (ws : List Update) → Each (Fine lim b fits sound few_sent j s asks) ws → Each Framed (map (framed update) ws)
    updates_framed [] e = tt
    updates_framed (w ∷ ws) e = (framed_is update w (group_ok _ (update_small w e.0)), updates_framed ws e.1)

    updates_back : (ws : List Update) → Each (Fine lim b fits sound few_sent j s asks) ws → map message_in (map (framed update) ws) ≡ map an_update ws
    updates_back [] e = refl
    updates_back (w ∷ ws) e =
        let few = e.0.few_labels in
        rw (update_back w e.0.has_layout (omega arith), updates_back ws e.1)

    -- they are cut apart
    pub cut_messages : messages_in (concat (messages b j s)) ≡ messages b j s
    unfolding messages
    cut_messages = messages_back _ (framed_is transfer (transfer_of b j s) (group_ok _ transfer_small), updates_framed (updates_of b j s) (updates_ok lim b fits sound few_sent j s asks))

    -- and read back
    read_messages : map message_in (messages b j s) ≡ a_transfer (transfer_of b j s) ∷ map an_update (updates_of b j s)
    unfolding messages
    read_messages = rw (
      transfer_back (transfer_of b j s) (transfer_ok lim b fits sound few_sent j s asks) transfer_small,
      updates_back (updates_of b j s) (updates_ok lim b fits sound few_sent j s asks),
    )

  -- WHAT SEND WROTE
  record Wrote (m : List ℕ) (j s : ℕ) (outbox : List ℕ) (n : ℕ) : Type 0 where
    block_sound : sound_block lim (block_in m) ≡ true
    asks : first_no (departure_checks lim.volume_darts (block_in m) j s) ≡ 0
    bytes : (send lim m j s outbox).lent ≡ concat (messages (block_in m) j s) ++ drop n outbox
    count : n ≡ length (concat (messages (block_in m) j s))

  wrote : (m : List ℕ) (j s : ℕ) (outbox : List ℕ) (n : ℕ) → (send lim m j s outbox).answer ≡ served n → Wrote m j s outbox n
  unfolding send writing
  wrote m j s outbox n e =
      let qs = memory_checks lim m ++ departure_checks lim.volume_darts (block_in m) j s in
      let sent = concat (messages (block_in m) j s) in
      let last : List Check = (15, leb (length sent) (length outbox)) ∷ [] in
      let v = served_value (qs ++ last) outbox (length sent) (sent ++ drop (length sent) outbox) n e in
      let a = after_memory lim m (departure_checks lim.volume_darts (block_in m) j s) (first_no_left qs last v.0) in
      record {
        block_sound = a.0;
        asks = a.1;
        bytes = ap (λ (r : Result ℕ). r.lent) (served_gives (qs ++ last) outbox (length sent) (sent ++ drop (length sent) outbox) v.0) ∙ ap (λ (k : ℕ). sent ++ drop k outbox) v.1;
        count = sym v.1;
      }

  written_only : (m : List ℕ) (j s : ℕ) (outbox : List ℕ) (n : ℕ) → Wrote m j s outbox n → take n (send lim m j s outbox).lent ≡ concat (messages (block_in m) j s)
  written_only m j s outbox n w =
      let sent = concat (messages (block_in m) j s) in
      ap (take n) w.bytes ∙ ap (λ (k : ℕ). take k (sent ++ drop n outbox)) w.count ∙ take-append_seam sent (drop n outbox)

  pub messages_exact : MessagesExact lim
  messages_exact = record {
    sent_bytes = λ m j s outbox n e. (wrote m j s outbox n e).bytes;
    sent_messages_are = cut_again;
    sent_reads_back = λ m j s outbox n e.
        let w = wrote m j s outbox n e in
        ap (map message_in) (cut_again m j s outbox n e) ∙ read_messages (block_in m) w.block_sound j s w.asks;
    transfer_only = λ bytes t h e. (transfer_read bytes t h e).0;
    update_only = λ bytes u h e. (update_read bytes u h e).0;
  }
    where
      cut_again : (m : List ℕ) (j s : ℕ) (outbox : List ℕ) (n : ℕ) → (send lim m j s outbox).answer ≡ served n
          → messages_in (take n (send lim m j s outbox).lent) ≡ messages (block_in m) j s
      cut_again m j s outbox n e =
          let w = wrote m j s outbox n e in
          ap messages_in (written_only m j s outbox n w) ∙ cut_messages (block_in m) w.block_sound j s w.asks

  -- DEMAND 2
  pub demand2 : Demand2 lim
  demand2 = record { of_files = files_exact lim fits; of_messages = messages_exact; of_pages = pages_exact lim fits }
