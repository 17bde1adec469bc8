-- A served call leaves the image of a sound block. Assumes nothing.
use mathlib.Core.Path.{◌≡◌, refl, sym, subst}
use mathlib.Core.Bool.{true}
use mathlib.Core.List.{List, []}
use Prim.Native.Nat.{ℕ, ◌≤◌}
use native.Mathlib.Omega.{arith}
use lib.Dec.{leb, eqb}
use lib.ListN.{length}
use borrow.Author.Tests.{le-leb, leb-true, eqb-true}
use Rattle.model.specs.Lists.{ascending, Check, first_no}
use Rattle.model.specs.Values.{Block, Limits, rack, viewer, room}
use Rattle.model.specs.Cells.{labels}
use Rattle.model.specs.Sound.{ranges_right, coordinates_finite, links_right, thirds_right, labels_right, points_agree, block_checks, sound_block}
use Rattle.model.specs.Image.{words_of, image, block_in, is_image, new_block}
use Rattle.model.specs.Layouts.{Layout, ◌⊗◌, ◌⊕◌, as_type, at_most, exactly, counted}
use Rattle.model.specs.Messages.{Transfer, Update, label, transfer, update, Message, a_transfer, an_update, no_message, message_in}
use Rattle.model.specs.Departure.{released}
use Rattle.model.specs.Arrival.{addressed, update_right, receive_checks, received_from, redirect_checks, redirected, redirected_from}
use Rattle.model.specs.Calls.{Result, storing, empty, read_file, read_pages, receive, release, redirect}
use Rattle.model.specs.Demands.{Bytes, LeavesImage, LeavesSound}
use Rattle.soundness.proofs.Fits.{ok_most}
use Rattle.laws.proofs.Tests.{and_left, and_right, yes_first}
use Rattle.theory.proofs.CallLaws.{served_value, storing_serves, after_memory}
use Rattle.theory.proofs.DemandTwo.{read_as}
use Rattle.theory.proofs.PagesExact as pages
use Rattle.theory.proofs.ImageLaws.{is_image_of}
use Rattle.theory.proofs.MessagesExact as exact
use Rattle.soundness.proofs.ReceiveSound.{received_sound}
use Rattle.soundness.proofs.RedirectSound.{redirected_sound}
use Rattle.soundness.proofs.ReleaseSound.{released_sound}

-- WHAT IS READ IS IN RANGE
second_ok : {A B : Type 0} (l : Layout A) (m : Layout B) (a : A) (b : B) → (l ⊕ m).ok (a, b) ≡ true → m.ok b ≡ true
unfolding ◌⊗◌ ◌⊕◌
second_ok l m a b h = and_right (l.ok a) _ h

first_ok : {A B : Type 0} (l : Layout A) (m : Layout B) (a : A) (b : B) → (l ⊕ m).ok (a, b) ≡ true → l.ok a ≡ true
unfolding ◌⊗◌ ◌⊕◌
first_ok l m a b h = and_left (l.ok a) _ h

update_small : (u : Update) → update.ok u ≡ true → u.block ≤ 15
unfolding update as_type
update_small u h = ok_most 15 u.block (first_ok (at_most 15) (counted label) _ _
    (second_ok (at_most 15) (at_most 15 ⊕ counted label) _ _ (second_ok (at_most 15) (at_most 15 ⊕ at_most 15 ⊕ counted label) _ _ (second_ok (exactly 2) (at_most 15 ⊕ at_most 15 ⊕ at_most 15 ⊕ counted label) _ _ h))))

-- a message that was read
pub transfer_read : (message : List ℕ) → Bytes message → (t : Transfer) → message_in message ≡ a_transfer t → transfer.ok t ≡ true
transfer_read message h t e = (exact.transfer_read message t h e).1

update_read : (message : List ℕ) → Bytes message → (u : Update) → message_in message ≡ an_update u → update.ok u ≡ true
update_read message h u e = (exact.update_read message u h e).1

module _ (lim : Limits) (fits : lim.block_darts ≤ room) where
  told_update : (b : Block) (u : Update) → sound_block lim b ≡ true → update.ok u ≡ true → first_no (redirect_checks b (an_update u)) ≡ 0 → sound_block lim (redirected b u) ≡ true
  unfolding redirect_checks
  told_update b u sound ok e =
      let q17 = yes_first 17 (addressed u.from u.to b) _ (λ z. omega arith) e in
      let q22 = yes_first 22 (update_right b u) [] (λ z. omega arith) q17.1 in
      redirected_sound lim b fits sound u (update_small u ok) (eqb-true u.to b.number (and_left (eqb u.to b.number) _ q17.0)) q22.0

  -- a call that stores a block which is sound if each answer is yes
  storing_leaves : (qs : List Check) (m : List ℕ) (b : Block) → (first_no qs ≡ 0 → sound_block lim b ≡ true) → LeavesImage lim (storing lim qs m b)
  unfolding storing
  storing_leaves qs m b sound e =
      let yes = (served_value qs m tt (image (words_of lim) b) tt e).0 in
      subst (λ (r : Result (Unit {0})). is_image lim r.lent ≡ true) (sym (storing_serves lim qs m b yes)) (is_image_of lim (words_of lim) b (omega arith) (sound yes))

  empty_sound : (n : ℕ) → n ≤ 15 → sound_block lim (new_block n []) ≡ true
  unfolding ascending sound_block block_checks ranges_right coordinates_finite links_right thirds_right labels_right points_agree new_block labels
  empty_sound n h = rw (le-leb n 15 h, le-leb 0 lim.block_darts (omega arith)) refl

  pub empty_leaves : (n : ℕ) (m : List ℕ) → LeavesImage lim (empty lim n m)
  unfolding empty
  empty_leaves n m = storing_leaves _ m (new_block n []) (λ e.
      let q1 = yes_first 1 (eqb (length m) (words_of lim)) _ (λ z. omega arith) e in
      let q9 = yes_first 9 (leb n 15) [] (λ z. omega arith) q1.1 in
      empty_sound n (leb-true n 15 q9.0))

  pub read_file_leaves : (file m : List ℕ) → Bytes file → LeavesImage lim (read_file lim file m)
  read_file_leaves file m h e = let r = read_as lim fits file m h e in subst (λ (l : List ℕ). is_image lim l ≡ true) (sym r.stored) (is_image_of lim (words_of lim) r.block (omega arith) r.sound)

  pub read_pages_leaves : (pages m : List ℕ) → Bytes pages → LeavesImage lim (read_pages lim pages m)
  read_pages_leaves bytes m h e =
      let r = pages.read_as lim fits bytes m h e in
      subst (λ (l : List ℕ). is_image lim l ≡ true) (sym r.stored) (is_image_of lim (words_of lim) r.block (omega arith) r.sound)

  pub release_leaves : (m : List ℕ) (j s : ℕ) → LeavesImage lim (release lim m j s)
  unfolding release
  release_leaves m j s = storing_leaves _ m (released (block_in m) j s) (λ e. let a = after_memory lim m _ e in released_sound lim (block_in m) fits a.0 j s a.1)

  pub redirect_leaves : (m message : List ℕ) → Bytes message → LeavesImage lim (redirect lim m message)
  unfolding redirect
  redirect_leaves m message h = storing_leaves _ m _ (λ e. let a = after_memory lim m _ e in told_sound (message_in message) (update_read message h) a.0 a.1)
    where
      told_sound : (g : Message) → ((u : Update) → g ≡ an_update u → update.ok u ≡ true) → sound_block lim (block_in m) ≡ true → first_no (redirect_checks (block_in m) g) ≡ 0
          → sound_block lim (redirected_from (block_in m) g) ≡ true
      told_sound no_message r sound e = sound
      told_sound (a_transfer t) r sound e = sound
      told_sound (an_update u) r sound e = told_update (block_in m) u sound (r u refl) e

  pub receive_leaves : (m message : List ℕ) → Bytes message → LeavesImage lim (receive lim m message)
  unfolding receive
  receive_leaves m message h = storing_leaves _ m _ (λ e. let a = after_memory lim m _ e in taken_sound (message_in message) (transfer_read message h) a.0 a.1)
    where
      taken_sound : (g : Message) → ((t : Transfer) → g ≡ a_transfer t → transfer.ok t ≡ true) → sound_block lim (block_in m) ≡ true → first_no (receive_checks lim (block_in m) g) ≡ 0
          → sound_block lim (received_from (block_in m) g) ≡ true
      taken_sound no_message r sound e = sound
      taken_sound (an_update u) r sound e = sound
      taken_sound (a_transfer t) r sound e = received_sound lim (block_in m) t fits sound (r t refl) e

  -- EVERY CALL THAT STORES A BLOCK
  pub leaves_sound : LeavesSound lim
  leaves_sound = record { empty_leaves = empty_leaves; read_file_leaves = read_file_leaves; read_pages_leaves = read_pages_leaves; receive_leaves = receive_leaves; release_leaves = release_leaves; redirect_leaves = redirect_leaves }

-- at both callers
pub rack_leaves_sound : LeavesSound rack
rack_leaves_sound = leaves_sound rack (omega arith)

pub viewer_leaves_sound : LeavesSound viewer
viewer_leaves_sound = leaves_sound viewer (omega arith)
