-- What is sent: the bytes by places are those of the model's messages; and what the call gives, question by question. Assumes nothing.
use mathlib.Core.Path.{◌≡◌, refl, sym, ◌∙◌, ap, subst}
use mathlib.Core.Bool.{true, false}
use mathlib.Core.List.{List, [], ◌∷◌, ◌++◌, map}
use Prim.Native.Nat.{ℕ, ◌+◌, ◌-◌, ◌≤◌, ◌<◌}
use native.Mathlib.Nat.{zero-add}
use native.Mathlib.Omega.{arith}
use lib.ListN.{length, take, drop, length-append}
use lib.Seq.{sets-eq}
use borrow.Author.Tests.{eq-eqb, ne_eqb, le-leb, lt-leb}
use borrow.Rule.Slice.PartMut.{put_mid}
use Rattle.model.specs.Values.{Limits}
use Rattle.model.specs.Lists.{concat}
use Rattle.model.specs.Layouts.{framed}
use Rattle.model.specs.Messages.{Transfer, Update, transfer, update}
use Rattle.model.specs.Image.{words_of, is_image, block_in, holds_block, memory_checks}
use Rattle.model.specs.Departure.{departure_checks, messages, transfer_of, updates_of}
use Rattle.model.specs.Calls.{Answer, served, refused, writing, send}
use Rattle.answers.specs.Answers.{Gives, answered}
use Rattle.answers.proofs.Questions.{gives, ask_no, ask_yes, ask_end, ask_all, ask_first}
use Rattle.groups.specs.Slices.{Stored}
use Rattle.groups.proofs.Writing.{stored_then, stored_length}
use Rattle.cells.proofs.Sited.{sited}
use Rattle.columns.proofs.Question.{image_passed}
use Rattle.departure.specs.ByPlaces.{updates_at}
use Rattle.departure.specs.Asked.{Departs, Surveyed, faces_at}
use Rattle.departure.specs.declared.Counts.{Counts}
use Rattle.departure.proofs.LeavesWith.{transfer_law, updates_law}
use Rattle.outbox.specs.Runs.{run}
use Rattle.outbox.specs.Whole.{TransferSized, transfer_for}
use Rattle.outbox.specs.declared.transfer.Sizes.{Sizes}
use Rattle.outbox.specs.ByBlocks.{told_put}
use Rattle.outbox.proofs.Rest.{rest_length, stored_rest}
use Rattle.outbox.proofs.Relatives.{updates_bytes}
use Rattle.send.specs.Sent.{messages_at}

-- INTO WHAT IS LEFT after a first part
module _ {l m a : List ℕ} {at mid : ℕ} (first : Stored l at a m mid) where
  pub rest_room : (k : ℕ) → at + (length a + k) ≤ length l → k ≤ length (take (length m - mid) (drop mid m))
  rest_room k h = omega (arith, rest_length m mid, stored_length first, first.past)

  pub stored_both : {ys b : List ℕ} {n : ℕ} → mid ≤ length m → Stored (take (length m - mid) (drop mid m)) 0 b ys n → Stored l at (a ++ b) (put_mid mid (length m - mid) m ys) (mid + n)
  stored_both {ys} h s = stored_then first (stored_rest m ys mid h s)

-- THE BYTES
pub messages_of : (m : List ℕ) (j : ℕ) (c : Counts) (marks numbers firsts : List ℕ)
    → messages_at m j c marks numbers firsts ≡ framed transfer (transfer_for m j c marks numbers firsts) ++ concat (map (framed update) (updates_at m j (faces_at m marks)))
unfolding messages_at
messages_of m j c marks numbers firsts = refl

pub messages_length : (m : List ℕ) → holds_block m ≡ true → (j : ℕ) → j ≤ 15 → {c : Counts} {marks order starts numbers firsts : List ℕ} → Surveyed m c marks order starts numbers firsts
    → {z : Sizes} → TransferSized (transfer_for m j c marks numbers firsts) z → {n : ℕ} → n ≡ length (run (told_put m j order starts c.darts c.faces) 16)
    → z.whole + n ≡ length (messages_at m j c marks numbers firsts)
messages_length m ok j h {c} {marks} {order} {starts} {numbers} {firsts} s {z} w {n} e = omega (
  arith,
  w.whole_is,
  e,
  ap length (updates_bytes m ok j h s),
  ap length (messages_of m j c marks numbers firsts),
  length-append (framed transfer (transfer_for m j c marks numbers firsts)) (concat (map (framed update) (updates_at m j (faces_at m marks)))),
)

all_messages : (t : Transfer) (us : List Update) → concat (framed transfer t ∷ map (framed update) us) ≡ framed transfer t ++ concat (map (framed update) us)
unfolding concat
all_messages t us = refl

pub sent_bytes : (m : List ℕ) → holds_block m ≡ true → (j s : ℕ) {most : ℕ} {c : Counts} {marks order starts numbers firsts : List ℕ} → Departs most m j s c marks order starts numbers firsts
    → concat (messages (block_in m) j s) ≡ messages_at m j c marks numbers firsts
unfolding messages messages_at
sent_bytes m ok j s {c} {marks} {order} {starts} {numbers} {firsts} d =
    let v = d.survey in
    let site = sited m ok in
    let passed = image_passed m ok in
    let t : transfer_of (block_in m) j s ≡ transfer_for m j c marks numbers firsts =
    ap (transfer_of (block_in m) j) (sym d.serial_is) ∙ transfer_law site passed v.place v.place_below v.volume_marked v.order v.numbering j in
    let u : updates_of (block_in m) j s ≡ updates_at m j (faces_at m marks) =
    ap (updates_of (block_in m) j) (sym d.serial_is) ∙ updates_law site passed v.place v.place_below v.volume_marked j in
    all_messages (transfer_of (block_in m) j s) (updates_of (block_in m) j s)
    ∙ ap (λ (x : Transfer). framed transfer x ++ concat (map (framed update) (updates_of (block_in m) j s))) t
    ∙ ap (λ (x : List Update). framed transfer (transfer_for m j c marks numbers firsts) ++ concat (map (framed update) x)) u

-- QUESTION 15 ALONE
module _ (out bytes : List ℕ) where
  pub too_short : {n : ℕ} → n ≡ length bytes → length out < n → Gives (writing [] out bytes) (refused 15) out
  unfolding writing
  too_short e h = gives _ _ _ _ (ask_no refl (lt-leb (length bytes) (length out) (omega arith)) refl)

  pub long_enough : {n : ℕ} → n ≡ length bytes → n ≤ length out → {after : List ℕ} {past : ℕ} → Stored out 0 bytes after past → Gives (writing [] out bytes) (served past) after
  unfolding writing
  long_enough e h {after} {past} s =
      let z : 0 + length bytes ≡ length bytes = zero-add (length bytes) in
      let same : after ≡ bytes ++ drop (length bytes) out = s.slice ∙ sets-eq bytes out 0 (omega arith) ∙ ap (λ (k : ℕ). bytes ++ drop k out) z in
      let all : past ≡ length bytes = s.past ∙ z in
      rw all (gives _ _ _ _ (ask_yes (le-leb (length bytes) (length out) (omega arith)) (ask_end same)))

-- THE CALL, by any limits
module _ (m out : List ℕ) (j s : ℕ) (lim : Limits) where
  pub refused_size : (length m ≡ words_of lim → ⊥) → Gives (send lim m j s out) (refused 1) out
  unfolding send writing memory_checks
  refused_size h = gives _ _ _ _ (ask_no refl (ne_eqb (length m) (words_of lim) h) refl)

  pub refused_image : length m ≡ words_of lim → is_image lim m ≡ false → Gives (send lim m j s out) (refused 2) out
  unfolding send writing memory_checks
  refused_image h e = gives _ _ _ _ (ask_yes (eq-eqb (length m) (words_of lim) h) (ask_no refl e refl))

  module _ (size : length m ≡ words_of lim) (ok : is_image lim m ≡ true) where
    pub refused_leaving : {n : ℕ} → refused n ≡ answered (departure_checks lim.volume_darts (block_in m) j s) → Gives (send lim m j s out) (refused n) out
    unfolding send writing memory_checks
    refused_leaving h = gives _ _ _ _ (ask_yes (eq-eqb (length m) (words_of lim) size) (ask_yes ok (ask_first (departure_checks lim.volume_darts (block_in m) j s) _ h refl)))

    -- what question 15 gives, the call gives
    pub sent : holds_block m ≡ true → {c : Counts} {marks order starts numbers firsts : List ℕ} → Departs lim.volume_darts m j s c marks order starts numbers firsts
        → {given : Answer ℕ} {after : List ℕ} → Gives (writing [] out (messages_at m j c marks numbers firsts)) given after → Gives (send lim m j s out) given after
    unfolding send writing memory_checks departure_checks
    sent sound d {given} {after} g =
        let w = subst (λ (b : List ℕ). Gives (writing [] out b) given after) (sym (sent_bytes m sound j s d)) g in
        gives _ _ _ _ (ask_yes (eq-eqb (length m) (words_of lim) size) (ask_yes ok (ask_all (departure_checks lim.volume_darts (block_in m) j s) _ refl d.asked (record { result = w }))))
