-- The call's answers: questions 1, 2, 16, 17 and 22 in their order, and the memory of a served call. Assumes nothing.
use mathlib.Core.Path.{◌≡◌, refl, sym, ◌∙◌, ap, subst}
use mathlib.Core.Bool.{Bool, true, false, not, ◌&&◌}
use mathlib.Core.List.{List, map}
use Prim.Native.Nat.{ℕ, ◌+◌, ◌*◌, ◌<◌}
use native.Mathlib.Omega.{arith}
use lib.Dec.{ltb, eqb}
use lib.ListN.{length, get_or}
use borrow.Author.Tests.{eq-eqb, ne_eqb}
use Rattle.model.specs.Lists.{all, distinct}
use Rattle.model.specs.Values.{Limits, code}
use Rattle.model.specs.Image.{words_of, image, block_in, is_image, holds_block, memory_checks}
use Rattle.model.specs.Messages.{Update, Message, a_transfer, an_update, no_message, message_in}
use Rattle.model.specs.Arrival.{addressed, names_face, update_right, redirect_checks, redirected, redirected_from}
use Rattle.model.specs.Calls.{Answer, served, refused, storing, redirect}
use Rattle.laws.proofs.Tests.{and_intro, and_left}
use Rattle.answers.specs.Answers.{Gives}
use Rattle.answers.proofs.Questions.{Asks, gives, ask_no, ask_yes, ask_end, said_no, said_yes}
use Rattle.columns.proofs.Below.{and_no}
use Rattle.columns.proofs.Question.{image_passed}
use Rattle.cells.proofs.Sited.{sited, darts_in}
use Rattle.inbox.specs.declared.message.Update.{Update as UpdateOutline}
use Rattle.inbox.specs.declared.received.Received.{Received}
use Rattle.inbox.specs.declared.received.Received.TheVariants as received
use Rattle.inbox.specs.Outlines.{UpdateOutlined}
use Rattle.inbox.specs.Arrived.{MessageSaid, MessageRead}
use Rattle.redirect.specs.ByPlaces.{names_at, named_at, AllNamed, Rewritten}
use Rattle.redirect.specs.Told.{KindSaid, KindRead, Follows, redirect_by, Redirects}
use Rattle.redirect.proofs.AllLabels.{names_all, too_many, rewritten_by}
use Rattle.redirect.proofs.NewOwner.{memory_now}

-- THE MESSAGE
kind_said : (s v x b z : List ℕ) (r : Received) → MessageSaid s v x b z r → KindSaid s r
kind_said s v x b z (received.Transfer f l) k = (k.0, k.1)
kind_said s v x b z (received.Update o) k = k
kind_said s v x b z received.Nothing k = k

pub kind_read : {s v x b z : List ℕ} {r : Received} → MessageRead s v x b z r → KindRead s r
kind_read {s} {v} {x} {b} {z} {r} w = record { said = kind_said s v x b z r w.said }

-- QUESTIONS 1 AND 2, by any limits
module _ (lim : Limits) (m s : List ℕ) where
  pub size_refused : (length m ≡ words_of lim → ⊥) → Gives (redirect lim m s) (refused 1) m
  unfolding redirect storing memory_checks
  size_refused h = gives _ _ _ _ (ask_no refl (ne_eqb (length m) (words_of lim) h) refl)

  pub image_refused : length m ≡ words_of lim → is_image lim m ≡ false → Gives (redirect lim m s) (refused 2) m
  unfolding redirect storing memory_checks
  image_refused len h = gives _ _ _ _ (ask_yes (eq-eqb (length m) (words_of lim) len) (ask_no refl h refl))

  by_message : (r : Message) {given : Answer (Unit {0})} {lent : List ℕ} → message_in s ≡ r → Gives (redirect_by lim m r) given lent → Gives (redirect lim m s) given lent
  unfolding redirect redirect_by
  by_message r e g = rw e g

module _ (lim : Limits) (m : List ℕ) (size : length m ≡ words_of lim) (ok : is_image lim m ≡ true) where
  asked_by : (r : Message) {given : Answer (Unit {0})} {lent : List ℕ}
      → Asks (redirect_checks (block_in m) r) m tt (image (words_of lim) (redirected_from (block_in m) r)) given lent
      → Gives (redirect_by lim m r) given lent
  unfolding redirect_by storing memory_checks
  asked_by r a = gives _ _ _ _ (ask_yes (eq-eqb (length m) (words_of lim) size) (ask_yes ok a))

  -- QUESTION 16, and 17 of a transfer
  pub layout_refused : (s : List ℕ) {r : Received} → r ≡ received.Nothing → KindRead s r → Gives (redirect lim m s) (refused 16) m
  unfolding redirect_checks
  layout_refused s e k = by_message lim m s no_message (subst (KindSaid s) e k.said) (asked_by no_message (ask_no refl refl refl))

  pub transfer_refused : (s : List ℕ) {r : Received} {f : _} {l : _} → r ≡ received.Transfer f l → KindRead s r → Gives (redirect lim m s) (refused 17) m
  unfolding redirect_checks
  transfer_refused s {r} {f} {l} e k = go (subst (KindSaid s) e k.said)
    where
      go : KindSaid s (received.Transfer f l) → Gives (redirect lim m s) (refused 17) m
      go t = by_message lim m s (a_transfer t.0) t.1 (asked_by (a_transfer t.0) (ask_no refl refl refl))

  -- AN UPDATE
  module _ (u : Update) where
    here_no : addressed u.from u.to (block_in m) ≡ false → Gives (redirect_by lim m (an_update u)) (refused 17) m
    unfolding redirect_checks
    here_no e = asked_by (an_update u) (ask_no refl e refl)

    right_no : addressed u.from u.to (block_in m) ≡ true → update_right (block_in m) u ≡ false → Gives (redirect_by lim m (an_update u)) (refused 22) m
    unfolding redirect_checks
    right_no h e = asked_by (an_update u) (ask_yes h (ask_no refl e refl))

    all_yes : addressed u.from u.to (block_in m) ≡ true → update_right (block_in m) u ≡ true → {m' : List ℕ}
        → m' ≡ image (words_of lim) (redirected (block_in m) u) → Gives (redirect_by lim m (an_update u)) (served tt) m'
    unfolding redirect_checks
    all_yes h e q = asked_by (an_update u) (ask_yes h (ask_yes e (ask_end q)))

module _ (m : List ℕ) (ok : holds_block m ≡ true) where
  right_is : (u : Update) → update_right (block_in m) u
      ≡ ((not (eqb u.block u.from) && not (eqb u.block u.to))
      && (all (names_at m u.from) (map code u.labels) && distinct (map code u.labels)))
  unfolding update_right
  right_is u =
      ap
      (λ (b : Bool). (not (eqb u.block u.from) && not (eqb u.block u.to)) && b && distinct (map code u.labels))
      (names_all (sited m ok) (image_passed m ok) u.from u.labels)
      ∙ together (not (eqb u.block u.from) && not (eqb u.block u.to)) (all (names_at m u.from) (map code u.labels)) (distinct (map code u.labels))
    where
      together : (a b c : Bool) → ((a && b) && c) ≡ (a && (b && c))
      together true b c = refl
      together false b c = refl

  -- from its outline
  module _ {s : List ℕ} {o : UpdateOutline} {here : Bool} (asks-here : here ≡ addressed o.from o.to (block_in m)) where
    here_is : (u : Update) → UpdateOutlined u s o → here ≡ addressed u.from u.to (block_in m)
    here_is u w = asks-here ∙ ap (λ (a : ℕ). addressed a o.to (block_in m)) w.from_is ∙ ap (λ (a : ℕ). addressed u.from a (block_in m)) w.to_is

    pub redirects_elsewhere : here ≡ false → Redirects m s o (refused 17) m
    redirects_elsewhere e = record { gives = λ lim size is u w. here_no lim m size is u (said_no (here_is u w) e) }

    module _ (yes-here : here ≡ true) {ends : Bool} (asks-ends : ends ≡ (not (eqb o.block o.from) && not (eqb o.block o.to))) where
      ends_are : (u : Update) → UpdateOutlined u s o → ends ≡ (not (eqb u.block u.from) && not (eqb u.block u.to))
      ends_are u w = asks-ends ∙ ap (λ (a : ℕ). not (eqb a o.from) && not (eqb a o.to)) w.block_is ∙ ap (λ (a : ℕ). not (eqb u.block a) && not (eqb u.block o.to)) w.from_is
          ∙ ap (λ (a : ℕ). not (eqb u.block u.from) && not (eqb u.block a)) w.to_is

      right_by : (u : Update) → UpdateOutlined u s o → update_right (block_in m) u ≡ (ends && (all (names_at m o.from) (map code u.labels) && distinct (map code u.labels)))
      right_by u w = right_is u ∙ ap (λ (b : Bool). b && (all (names_at m u.from) (map code u.labels) && distinct (map code u.labels))) (sym (ends_are u w))
          ∙ ap (λ (a : ℕ). ends && (all (names_at m a) (map code u.labels) && distinct (map code u.labels))) (sym w.from_is)

      pub redirects_to_an_end : ends ≡ false → Redirects m s o (refused 22) m
      redirects_to_an_end e = record { gives = λ lim size is u w. right_no lim m size is u (said_yes (here_is u w) yes-here) (right_by u w ∙ rw e) }

      labels_no : ((u : Update) → UpdateOutlined u s o → (all (names_at m o.from) (map code u.labels) && distinct (map code u.labels)) ≡ false) → Redirects m s o (refused 22) m
      labels_no k = record { gives = λ lim size is u w. right_no lim m size is u (said_yes (here_is u w) yes-here) (right_by u w ∙ and_no ends _ (k u w)) }

      pub redirects_too_many : get_or m 2 0 < o.count → Redirects m s o (refused 22) m
      redirects_too_many h = labels_no (λ u w. too_many (sited m ok).linked refl o.from u.labels w.labels_in h)

      module _ {table : List ℕ} {named : Bool} (n : AllNamed m s o.from o.labels o.count table named) where
        pub redirects_unnamed : named ≡ false → Redirects m s o (refused 22) m
        redirects_unnamed e = labels_no (λ u w. sym (n.said u.labels w.past w.labels_in) ∙ e)

        pub redirects_served : ends ≡ true → named ≡ true → Follows s o → {m' : List ℕ}
            → Rewritten m m' (λ p. ltb (get_or table p 0) o.count) (2 + 4 * o.block) (get_or m 2 0)
            → Redirects m s o (served tt) m'
        redirects_served e k small {m'} r = record { gives = go }
          where
            go : (lim : Limits) → length m ≡ words_of lim → is_image lim m ≡ true → (u : Update) → UpdateOutlined u s o → Gives (redirect_by lim m (an_update u)) (served tt) m'
            go lim size is u w =
                let site = sited m ok in
                let said = sym (n.said u.labels w.past w.labels_in) ∙ k in
                let names : all (names_face (darts_in m) u.from) u.labels ≡ true = names_all site (image_passed m ok) u.from u.labels
                ∙ ap (λ (a : ℕ). all (names_at m a) (map code u.labels)) (sym w.from_is) ∙ and_left (all (names_at m o.from) (map code u.labels)) (distinct (map code u.labels)) said in
                let by-labels = rewritten_by (λ p h. n.tells k u.labels w.past w.labels_in p h) r in
                all_yes lim m size is u (said_yes (here_is u w) yes-here) (right_by u w ∙ and_intro e said)
                (memory_now site (image_passed m ok) u names (let a = w.block_is in let b = w.block_small in omega arith) (by_outline u w by-labels) site.linked.size
                ∙ ap (λ (k : ℕ). image k (redirected (block_in m) u)) size)
              where
                by_outline : (u : Update) → UpdateOutlined u s o → Rewritten m m' (named_at m o.from (map code u.labels)) (2 + 4 * o.block) (get_or m 2 0)
                    → Rewritten m m' (named_at m u.from (map code u.labels)) (2 + 4 * u.block) (get_or m 2 0)
                by_outline u w x = subst (λ (a : ℕ). Rewritten m m' (named_at m a (map code u.labels)) (2 + 4 * u.block) (get_or m 2 0)) w.from_is
                    (subst (λ (a : ℕ). Rewritten m m' (named_at m o.from (map code u.labels)) (2 + 4 * a) (get_or m 2 0)) w.block_is x)

-- the new word, as the code has it
pub rewritten_word : {m m' : List ℕ} {test : ℕ → Bool} {word new n : ℕ} → word ≡ new → Rewritten m m' test word n → Rewritten m m' test new n
rewritten_word {m} {m'} {test} {n = n} e = subst (λ (w : ℕ). Rewritten m m' test w n) e

-- what is told of an update can be followed
pub follows : {s : List ℕ} {r : Received} {o : UpdateOutline} → r ≡ received.Update o → KindRead s r → Follows s o
follows {s} {r} {o} e k = go (subst (KindSaid s) e k.said)
  where
    go : KindSaid s (received.Update o) → Follows s o
    go t = let w = t.2 in record { from_small = w.from_small; block_small = w.block_small; labels_within = (let a = w.labels_in.onward in let b = w.labels_in.within in omega arith) }

-- and the call on it is the call on the message
pub update_told : (lim : Limits) (m s : List ℕ) → length m ≡ words_of lim → is_image lim m ≡ true → {r : Received} {o : UpdateOutline} {given : Answer (Unit {0})} {lent : List ℕ}
    → r ≡ received.Update o → KindRead s r → Redirects m s o given lent → Gives (redirect lim m s) given lent
update_told lim m s size is {r} {o} {given} {lent} e k d = go (subst (KindSaid s) e k.said)
  where
    go : KindSaid s (received.Update o) → Gives (redirect lim m s) given lent
    go t = by_message lim m s (an_update t.0) t.1 (d.gives lim size is t.0 t.2)
