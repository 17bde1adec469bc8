-- A transfer taken: the draft may join, and the memory that is left is the model's. Assumes nothing.
use Rattle.std.specs.Prelude.{Ok}
use mathlib.Core.Path.{◌≡◌, sym, ◌∙◌, ap, subst}
use mathlib.Core.Bool.{Bool, true, false, true≢false, not, ◌&&◌}
use mathlib.Core.List.{List}
use Prim.Native.Nat.{ℕ, ◌+◌, ◌≤◌, ◌<◌}
use lib.Dec.{leb}
use lib.ListN.{length, get_or}
use borrow.Author.Tests.{not-true}
use Rattle.model.specs.Lists.{all, mem, tab}
use Rattle.model.specs.Values.{Limits, finite, room}
use Rattle.model.specs.Cells.{held}
use Rattle.model.specs.Image.{words_of, column, block_in, holds_block}
use Rattle.model.specs.Messages.{Transfer, a_transfer, message_in}
use Rattle.model.specs.Demands.{Bytes}
use Rattle.model.specs.Arrival.{transfer_links}
use Rattle.model.specs.Calls.{served}
use Rattle.laws.proofs.Tests.{and_left, and_right}
use Rattle.laws.proofs.Tables.{all_tab, mem_place}
use Rattle.theory.proofs.ImageLaws.{image_by_size}
use Rattle.memory.proofs.Lookups.{serials_tab}
use Rattle.answers.specs.Answers.{Gives}
use Rattle.inbox.specs.declared.message.Front.{Front}
use Rattle.inbox.specs.declared.message.Tail.{Tail}
use Rattle.inbox.specs.Inbox.{points_in}
use Rattle.inbox.specs.Arrived.{TransferOutlined}
use Rattle.arrival.specs.Draft.{Draft}
use Rattle.arrival.proofs.Eighteen.{eighteen_is}
use Rattle.join.specs.Join.{JoinIndexed, Linking}
use Rattle.soundness.proofs.Served.{transfer_read}
use Rattle.join.specs.Interleaved.{Drafted}
use Rattle.fitting.proofs.Outlined.{told_of}
use Rattle.join.specs.Join.{MayJoin, Joins}
use Rattle.receive.specs.Taken.{AskedSaid, receive_by}
use Rattle.receive.proofs.TakenImage.{indexed, interleaves, taken_image}
use Rattle.receive.proofs.Answered.{transfer_served, none_no}

module _ (lim : Limits) (bound : lim.block_darts ≤ room) {m s v x b z : List ℕ} {f : Front} {l : Tail} {keys ranks q c kinds links : List ℕ} (size : length m ≡ words_of lim)
    (ok : holds_block m ≡ true) (fit : f.darts ≤ length x) (h : AskedSaid lim m s v x b z f l keys ranks q c kinds links (Ok tt))
    (t : Transfer) (e : message_in s ≡ a_transfer t) (w : TransferOutlined t s v x b z f l) where
  d : Draft v x b z keys ranks q s f.points f.darts c
  d = h.1

  -- none of the new serials is the block's
  absent : (p i : ℕ) → p < get_or m 2 0 → i < f.darts → column m 0 p ≡ get_or x i 0 → ⊥
  absent p i hp hi g =
      let new-test : ℕ → Bool = λ j. leb 1 (get_or x j 0) && not (held (block_in m).darts (get_or x j 0)) in
      let points_test = all finite (points_in s f.points f.vertices) in
      let all_new = sym (eighteen_is (block_in m).darts (told_of w) fit) ∙ (h.0 t e w).0.serials in
      let one = all_tab new-test (λ j. j) f.darts (and_right points_test _ (and_left (points_test && all new-test (tab (λ j. j) f.darts)) _ all_new)) i hi in
      let gone : held (block_in m).darts (get_or x i 0) ≡ false = not-true (held (block_in m).darts (get_or x i 0)) (and_right (leb 1 (get_or x i 0)) _ one) in
      let here : held (block_in m).darts (get_or x i 0) ≡ true = ap (mem (get_or x i 0)) (serials_tab m) ∙ mem_place (column m 0) (get_or m 2 0) p (get_or x i 0) hp g in
      true≢false (sym here ∙ gone)

  small : get_or m 2 0 + f.darts ≤ lim.block_darts
  small = h.2

  abbrev interleaving : Drafted m c (get_or m 2 0) (get_or c 2 0)
  interleaving = interleaves d lim bound m size ok absent small

  linked : Linking m (get_or m 2 0) (get_or c 2 0) x kinds links (transfer_links (block_in m).darts t)
  linked = subst (λ (k : ℕ). Linking m (get_or m 2 0) k x kinds links (transfer_links (block_in m).darts t)) (sym d.drafted.count_is) (h.0 t e w).1

  pub may_join : MayJoin m c (get_or m 2 0) (get_or c 2 0) kinds links ranks
  may_join = record {
    drafted = interleaving;
    serials = x;
    brings = transfer_links (block_in m).darts t;
    indexed = subst (JoinIndexed c x ranks) (sym d.drafted.count_is) (indexed d);
    linking = linked;
  }

  pub new_count : get_or c 2 0 ≡ f.darts
  new_count = d.drafted.count_is

  pub served_image : Bytes s → {y : List ℕ} → Joins m c (get_or m 2 0) (get_or c 2 0) kinds links ranks y → Gives (receive_by lim m (a_transfer t)) (served tt) y
  served_image bytes j = transfer_served lim m size (sym (image_by_size lim m bound size) ∙ ok) t (h.0 t e w).0
      (taken_image d lim bound m size ok absent small (told_of w) (transfer_read s bytes t e) (none_no lim m t (h.0 t e w).0) (h.0 t e w).0.volume linked j)
