-- The call's answers: questions 17, 29 and 18 to 21 in their order. Assumes nothing.
use Rattle.std.specs.Prelude.{Err, Ok}
use mathlib.Core.Path.{◌≡◌, refl, sym, ◌∙◌, ap, subst}
use mathlib.Core.Bool.{Bool, true, false}
use mathlib.Core.List.{List, [], append-nil}
use mathlib.Core.Logic.{inl, inr}
use Prim.Native.Nat.{ℕ, zero, suc, ◌+◌, ◌≤◌, ◌<◌}
use native.Mathlib.Omega.{arith}
use lib.Dec.{leb}
use lib.ListN.{length, get_or}
use borrow.Author.Tests.{le-leb, lt-leb, leb-true, leb-false, eq-eqb, ne_eqb}
use Rattle.model.specs.Lists.{tab, Check, first_no}
use Rattle.model.specs.Values.{Limits, serial_bound}
use Rattle.model.specs.Image.{words_of, image, dart_in, block_in, is_image, memory_checks}
use Rattle.model.specs.Messages.{Transfer, Message, a_transfer, an_update, no_message, message_in, size_all}
use Rattle.model.specs.Arrival.{addressed, serials_new, volume_right, receive_checks, received, received_from}
use Rattle.model.specs.Calls.{Answer, served, refused, storing, receive}
use Rattle.laws.proofs.Tests.{yes_then, no_more}
use Rattle.laws.proofs.Tables.{length_tab}
use Rattle.answers.specs.Answers.{Gives, answered, OrRefused}
use Rattle.answers.specs.declared.Refusal.{Refusal}
use Rattle.answers.specs.declared.Refusal.TheVariants as refusal
use Rattle.answers.proofs.Questions.{Asks, gives, alone, ask_no, ask_yes, ask_end, ask_first, said_no, said_yes}
use Rattle.inbox.specs.declared.message.Front.{Front}
use Rattle.inbox.specs.declared.message.Tail.{Tail}
use Rattle.inbox.specs.declared.message.Update.{Update as UpdateOutline}
use Rattle.inbox.specs.declared.received.Received.{Received}
use Rattle.inbox.specs.declared.received.Received.TheVariants as received
use Rattle.inbox.specs.Arrived.{TransferOutlined, MessageSaid, MessageRead}
use Rattle.model.specs.Demands.{Bytes}
use Rattle.soundness.proofs.Rows.{Elem}
use Rattle.soundness.proofs.Fits.{fits}
use Rattle.soundness.proofs.Passed.{high}
use Rattle.soundness.proofs.Served.{transfer_read}
use Rattle.arrival.specs.Sides.{side_at}
use Rattle.arrival.proofs.SideLaws.{sides_are}
use Rattle.arrival.specs.Draft.{NewSerials, TransferTold, Draft}
use Rattle.arrival.proofs.Eighteen.{eighteen_is}
use Rattle.fitting.specs.Fitting.{NewVolume, Parted}
use Rattle.fitting.proofs.Outlined.{told_of}
use Rattle.receive.specs.Taken.{AllYes, AskedSaid, AskedAll, Takes, receive_by, last_two}

module _ (lim : Limits) (m : List ℕ) {s v x b z : List ℕ} {f : Front} {l : Tail} where
  count_is : (t : Transfer) → TransferOutlined t s v x b z f l → length (block_in m).darts + size_all t.faces ≡ get_or m 2 0 + f.darts
  count_is t w = let e = length_tab (dart_in m) (get_or m 2 0) in omega (arith, e, w.darts_are)

  -- 17
  module _ {here : Bool} (seventeen : here ≡ addressed f.from f.to (block_in m)) where
    here_is : (t : Transfer) → TransferOutlined t s v x b z f l → here ≡ addressed t.from t.to (block_in m)
    here_is t w = seventeen ∙ ap (λ (a : ℕ). addressed a f.to (block_in m)) w.from_is ∙ ap (λ (a : ℕ). addressed t.from a (block_in m)) w.to_is

    pub no_17 : {keys ranks q c kinds links : List ℕ} → here ≡ false → AskedAll lim m s v x b z f l keys ranks q c kinds links (Err refusal.NotForHere)
    unfolding receive_checks
    no_17 h = record { said = λ t e w. alone _ (ask_no refl (said_no (here_is t w) h) refl) }

    -- 29
    pub no_29 : {keys ranks q c kinds links : List ℕ} → here ≡ true → lim.volume_darts < f.darts → AskedAll lim m s v x b z f l keys ranks q c kinds links (Err refusal.VolumeForViewer)
    unfolding receive_checks
    no_29 yes-17 h = record {
      said = λ t e w. alone _ (ask_yes (said_yes (here_is t w) yes-17) (ask_no refl (lt-leb (size_all t.faces) lim.volume_darts (omega (arith, h, w.darts_are))) refl));
    }

    small_is : (t : Transfer) → TransferOutlined t s v x b z f l → f.darts ≤ lim.volume_darts → leb (size_all t.faces) lim.volume_darts ≡ true
    small_is t w h = le-leb (size_all t.faces) lim.volume_darts (omega (arith, h, w.darts_are))

    -- 18
    module _ (yes-17 : here ≡ true) (yes-29 : f.darts ≤ lim.volume_darts) {keys ranks : List ℕ} {fresh : Bool} (fit : f.darts ≤ length x)
        (eighteen : NewSerials (block_in m).darts s f.points f.vertices x f.darts keys ranks fresh) where
      new_is : (t : Transfer) → TransferOutlined t s v x b z f l → fresh ≡ serials_new (block_in m).darts t
      new_is t w = eighteen.is ∙ sym (eighteen_is (block_in m).darts (told_of w) fit)

      pub no_18 : {q c kinds links : List ℕ} → fresh ≡ false → AskedAll lim m s v x b z f l keys ranks q c kinds links (Err refusal.SerialsNotNew)
      unfolding receive_checks
      no_18 h = record { said = λ t e w. alone _ (ask_yes (said_yes (here_is t w) yes-17) (ask_yes (small_is t w yes-29) (ask_no refl (said_no (new_is t w) h) refl))) }

      -- 19
      module _ (yes-18 : fresh ≡ true) {right : Bool} (nineteen : (t : Transfer) → TransferTold t v x b z s f.points f.vertices f.darts f.hollow → right ≡ volume_right t) where
        pub no_19 : {q c kinds links : List ℕ} → right ≡ false → AskedAll lim m s v x b z f l keys ranks q c kinds links (Err refusal.VolumeWrong)
        unfolding receive_checks
        no_19 h = record { said = λ t e w. alone _ (ask_yes (said_yes (here_is t w) yes-17) (ask_yes (small_is t w yes-29) (ask_yes (said_yes (new_is t w) yes-18) (ask_no refl (said_no (nineteen t (told_of w)) h) refl)))) }

        -- 20
        module _ (yes-19 : right ≡ true) {kinds links : List ℕ} {parted : Bool} (twenty : Parted m s v x b z f l kinds links parted) where
          pub no_20 : {q c : List ℕ} → parted ≡ false → AskedAll lim m s v x b z f l keys ranks q c kinds links (Err refusal.PartsWrong)
          unfolding receive_checks
          no_20 h = record {
            said = λ t e w. alone _ (ask_yes (said_yes (here_is t w) yes-17) (ask_yes (small_is t w yes-29) (ask_yes (said_yes (new_is t w) yes-18) (ask_yes (said_yes (nineteen t (told_of w)) yes-19)
                (ask_no refl (said_no (twenty.is t w) h) refl)))));
          }

          -- 21
          module _ (yes-20 : parted ≡ true) where
            pub no_21 : {q c : List ℕ} → lim.block_darts < get_or m 2 0 + f.darts → AskedAll lim m s v x b z f l keys ranks q c kinds links (Err refusal.BlockFull)
            unfolding receive_checks
            no_21 h = record {
              said = λ t e w. alone _ (ask_yes (said_yes (here_is t w) yes-17) (ask_yes (small_is t w yes-29) (ask_yes (said_yes (new_is t w) yes-18) (ask_yes (said_yes (nineteen t (told_of w)) yes-19)
                  (ask_yes (said_yes (twenty.is t w) yes-20) (ask_no refl (lt-leb (length (block_in m).darts + size_all t.faces) lim.block_darts (omega (arith, h, count_is t w))) refl))))));
            }

            pub yes_all : {q c : List ℕ} → get_or m 2 0 + f.darts ≤ lim.block_darts → Draft v x b z keys ranks q s f.points f.darts c
                → AskedAll lim m s v x b z f l keys ranks q c kinds links (Ok tt)
            unfolding receive_checks
            yes_all h d = record {
              said = (
                (λ t e w. (
                  record {
                    for_here = said_yes (here_is t w) yes-17;
                    small = small_is t w yes-29;
                    serials = said_yes (new_is t w) yes-18;
                    volume = said_yes (nineteen t (told_of w)) yes-19;
                    parts = said_yes (twenty.is t w) yes-20;
                    fits = le-leb (length (block_in m).darts + size_all t.faces) lim.block_darts (omega (arith, h, count_is t w));
                  },
                  twenty.linking (said_yes refl yes-20) t w,
                )),
                d,
                h,
                yes-29,
              );
            }

          -- 20 and 21 together
          pub last_asked : {q c : List ℕ} → Draft v x b z keys ranks q s f.points f.darts c → {r : OrRefused (Unit {0})} → r ≡ last_two parted (leb (get_or m 2 0 + f.darts) lim.block_darts)
              → AskedAll lim m s v x b z f l keys ranks q c kinds links r
          last_asked {q} {c} d {r} e = subst (AskedAll lim m s v x b z f l keys ranks q c kinds links) (sym e) (go parted (leb (get_or m 2 0 + f.darts) lim.block_darts) refl refl)
            where
              go : (p o : Bool) → parted ≡ p → leb (get_or m 2 0 + f.darts) lim.block_darts ≡ o → AskedAll lim m s v x b z f l keys ranks q c kinds links (last_two p o)
              go false o i j = no_20 i
              go true false i j = no_21 i (leb-false (get_or m 2 0 + f.darts) lim.block_darts j)
              go true true i j = yes_all i (leb-true (get_or m 2 0 + f.darts) lim.block_darts j) d

-- serials of a message are small
elem_tab : {A : Type 0} (g : ℕ → A) (n i : ℕ) → i < n → Elem (g i) (tab g n)
elem_tab g zero i h = absurd (omega (arith, h))
elem_tab g (suc n) zero h = inl refl
elem_tab g (suc n) (suc i) h = inr (elem_tab (λ k. g (suc k)) n i (omega (arith, h)))

pub serials_small : {s v x b z : List ℕ} {f : Front} {l : Tail} {t : Transfer} → Bytes s → message_in s ≡ a_transfer t
    → TransferOutlined t s v x b z f l → (i : ℕ) → i < f.darts → get_or x i 0 < serial_bound
serials_small {s} {v} {x} {b} {z} {f} {l} {t} bytes e w i h =
    high t (fits t (transfer_read s bytes t e)) (side_at v x b z i)
    (subst (Elem (side_at v x b z i)) (sym (sides_are v x b z t w.inside)) (elem_tab (side_at v x b z) (size_all t.faces) i (omega (arith, h, w.darts_are))))

-- and so is the sender
pub sender_small : {s v x b z : List ℕ} {f : Front} {l : Tail} {t : Transfer} → Bytes s → message_in s ≡ a_transfer t → TransferOutlined t s v x b z f l → f.from ≤ 15
sender_small {s} {t = t} bytes e w = let a = (fits t (transfer_read s bytes t e)).from_small in let b = w.from_is in omega (arith, a, b)

-- what question 20 asks of a transfer
pub new_volume : {m s v x b z : List ℕ} {f : Front} {l : Tail} {keys ranks q c : List ℕ} {fresh right : Bool}
    → NewSerials (block_in m).darts s f.points f.vertices x f.darts keys ranks fresh → fresh ≡ true
    → ((t : Transfer) → TransferTold t v x b z s f.points f.vertices f.darts f.hollow → right ≡ volume_right t) → right ≡ true → Draft v x b z keys ranks q s f.points f.darts c
    → {t : Transfer} → TransferOutlined t s v x b z f l → NewVolume m s v x b z f l ranks c
new_volume {m} {s} {v} {x} {b} {z} {f} {l} {keys} {ranks} {q} {c} eighteen yes-18 nineteen yes-19 d {t} w = record {
  keys = keys;
  opposite = q;
  draft = d;
  fresh = subst (NewSerials (block_in m).darts s f.points f.vertices x f.darts keys ranks) (said_yes refl yes-18) eighteen;
  brought = t;
  outlined = w;
  right = λ t w. said_yes (nineteen t (told_of w)) yes-19;
}

-- THE CALL
module _ (lim : Limits) (m s : List ℕ) where
  pub size_refused : (length m ≡ words_of lim → ⊥) → Gives (receive lim m s) (refused 1) m
  unfolding receive storing memory_checks
  size_refused h = gives _ _ _ _ (ask_no refl (ne_eqb (length m) (words_of lim) h) refl)

  pub image_refused : length m ≡ words_of lim → is_image lim m ≡ false → Gives (receive lim m s) (refused 2) m
  unfolding receive storing memory_checks
  image_refused len h = gives _ _ _ _ (ask_yes (eq-eqb (length m) (words_of lim) len) (ask_no refl h refl))

  pub by_message : (r : Message) {given : Answer (Unit {0})} {lent : List ℕ} → message_in s ≡ r → Gives (receive_by lim m r) given lent → Gives (receive lim m s) given lent
  unfolding receive receive_by
  by_message r e g = rw e g

module _ (lim : Limits) (m : List ℕ) (size : length m ≡ words_of lim) (ok : is_image lim m ≡ true) where
  asked_by : (r : Message) {given : Answer (Unit {0})} {lent : List ℕ}
      → Asks (receive_checks lim (block_in m) r) m tt (image (words_of lim) (received_from (block_in m) r)) given lent
      → Gives (receive_by lim m r) given lent
  unfolding receive_by storing memory_checks
  asked_by r a = gives _ _ _ _ (ask_yes (eq-eqb (length m) (words_of lim) size) (ask_yes ok a))

  -- 16, and 17 of an update
  pub layout_refused : {s v x b z : List ℕ} {r : Received} → r ≡ received.Nothing → MessageRead s v x b z r → Gives (receive lim m s) (refused 16) m
  unfolding receive_checks
  layout_refused {s} {v} {x} {b} {z} e k = by_message lim m s no_message (subst (MessageSaid s v x b z) e k.said) (asked_by no_message (ask_no refl refl refl))

  pub update_refused : {s v x b z : List ℕ} {r : Received} {o : UpdateOutline} → r ≡ received.Update o → MessageRead s v x b z r → Gives (receive lim m s) (refused 17) m
  unfolding receive_checks
  update_refused {s} {v} {x} {b} {z} {r} {o} e k = go (subst (MessageSaid s v x b z) e k.said)
    where
      go : MessageSaid s v x b z (received.Update o) → Gives (receive lim m s) (refused 17) m
      go u = by_message lim m s (an_update u.0) u.1 (asked_by (an_update u.0) (ask_no refl refl refl))

  -- a transfer: the first no, or the memory that is left
  pub transfer_refused : (t : Transfer) {n : ℕ} → refused n ≡ answered (receive_checks lim (block_in m) (a_transfer t)) → Gives (receive_by lim m (a_transfer t)) (refused n) m
  transfer_refused t {n} e =
      asked_by (a_transfer t)
      (subst (λ (qs : List Check). Asks qs m tt (image (words_of lim) (received_from (block_in m) (a_transfer t))) (refused n) m)
      (append-nil (receive_checks lim (block_in m) (a_transfer t)))
      (ask_first (receive_checks lim (block_in m) (a_transfer t)) [] e refl))

  pub transfer_served : (t : Transfer) {y : List ℕ} → AllYes lim m t → y ≡ image (words_of lim) (received (block_in m) t) → Gives (receive_by lim m (a_transfer t)) (served tt) y
  unfolding receive_checks
  transfer_served t a q = asked_by (a_transfer t) (ask_yes a.for_here (ask_yes a.small (ask_yes a.serials (ask_yes a.volume (ask_yes a.parts (ask_yes a.fits (ask_end q)))))))

pub none_no : (lim : Limits) (m : List ℕ) (t : Transfer) → AllYes lim m t → first_no (receive_checks lim (block_in m) (a_transfer t)) ≡ 0
unfolding receive_checks
none_no lim m t a = yes_then 17 _ _ a.for_here ∙ yes_then 29 _ _ a.small ∙ yes_then 18 _ _ a.serials ∙ yes_then 19 _ _ a.volume ∙ yes_then 20 _ _ a.parts ∙ yes_then 21 _ _ a.fits ∙ no_more

-- WHAT `questions` TELLS, where a caller has looked which it is
module _ {lim : Limits} {m s v x b z : List ℕ} {f : Front} {l : Tail} {keys ranks q c kinds links : List ℕ} {r : OrRefused (Unit {0})} (h : AskedAll lim m s v x b z f l keys ranks q c kinds links r) where
  pub asked_no : {n : Refusal} → r ≡ Err n → AskedSaid lim m s v x b z f l keys ranks q c kinds links (Err n)
  asked_no e = subst (AskedSaid lim m s v x b z f l keys ranks q c kinds links) e h.said

  pub asked_yes : r ≡ (Ok tt) → AskedSaid lim m s v x b z f l keys ranks q c kinds links (Ok tt)
  asked_yes e = subst (AskedSaid lim m s v x b z f l keys ranks q c kinds links) e h.said

-- the transfer that was read
module _ {s v x b z : List ℕ} {r : Received} {f : Front} {l : Tail} (e : r ≡ received.Transfer f l) (k : MessageRead s v x b z r) where
  pub outline_of : (t : Transfer) × (message_in s ≡ a_transfer t) × TransferOutlined t s v x b z f l
  outline_of = subst (MessageSaid s v x b z) e k.said

pub taken : (lim : Limits) (m s : List ℕ) {v x b z : List ℕ} {r : Received} {f : Front} {l : Tail} → r ≡ received.Transfer f l → MessageRead s v x b z r
    → {given : Answer (Unit {0})} {lent : List ℕ} → Takes lim m s v x b z f l given lent → Gives (receive lim m s) given lent
taken lim m s e k w = let o = outline_of e k in by_message lim m s (a_transfer o.0) o.1 (w.gives o.0 o.1 o.2)
