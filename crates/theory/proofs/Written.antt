-- A message that has a layout is read back to the last byte, and it is known whom it is for. Assumes nothing.
use mathlib.Core.Path.{◌≡◌, refl, ◌∙◌, ap}
use mathlib.Core.Bool.{true}
use mathlib.Core.List.{List, ◌++◌}
use mathlib.Core.Option.{none}
use Prim.Native.Nat.{ℕ, ◌^◌, ◌<◌, ◌≤◌}
use native.Mathlib.Omega.{arith}
use lib.ListN.{length}
use borrow.Author.Tests.{eq-eqb, lt-ltb}
use Rattle.model.specs.Lists.{all}
use Rattle.model.specs.Values.{serial_bound}
use Rattle.model.specs.Layouts.{Layout, group_below, group, serial, ◌⊗◌, ◌⊕◌, as_type, such_that, at_most, exactly, times, counted, at_end, whole, framed, unframed}
use Rattle.model.specs.Messages.{Transfer, label, part1, transfer, Update, update, a_transfer, an_update, message_in}
use Rattle.model.specs.DividedRun.{addressee}
use Rattle.laws.proofs.Tests.{and_intro}
use Rattle.theory.proofs.LayoutLaws.{group_lawful, framed_back}
use Rattle.theory.proofs.LayoutLengths.{update_short}
use Rattle.theory.proofs.MessageLaws.{transfer_lawful, update_lawful}

-- WHAT HAS A LAYOUT
pub counted_ok : {A : Type 0} (l : Layout A) (as' : List A) → length as' < 2 ^ 32 → all l.ok as' ≡ true → (counted l).ok as' ≡ true
unfolding counted as_type ◌⊗◌ times group group_below
counted_ok l as' h a = and_intro (lt-ltb (length as') (2 ^ 32) h) (and_intro (eq-eqb (length as') (length as') refl) a)

pub group_ok : (v : ℕ) → v < 2 ^ 32 → group.ok v ≡ true
unfolding group group_below
group_ok v h = lt-ltb v (2 ^ 32) h

pub serial_ok : (v : ℕ) → v < serial_bound → serial.ok v ≡ true
unfolding serial group_below
serial_ok v h = lt-ltb v serial_bound h

-- A MESSAGE IS READ BACK
pub transfer_back : (t : Transfer) → transfer.ok t ≡ true → length (transfer.put t) < 2 ^ 32 → message_in (framed transfer t) ≡ a_transfer t
unfolding message_in
transfer_back t o short = rw (framed_back transfer transfer_lawful t o (group_ok _ short))

-- of kind 2, it is no transfer
not_kind_one : (rest : List ℕ) → transfer.get (group.put 2 ++ rest) ≡ none
unfolding transfer as_type ◌⊗◌ ◌⊕◌ part1 exactly such_that
not_kind_one rest = rw (group_lawful.back 2 rest (group_ok 2 (omega arith)))

update_begins : (w : Update) → update.put w ≡ group.put 2 ++ (at_most 15 ⊕ at_most 15 ⊕ at_most 15 ⊕ counted label).put (w.from, (w.to, (w.block, w.labels)))
unfolding update as_type ◌⊗◌ ◌⊕◌ exactly such_that
update_begins w = refl

no_transfer : (w : Update) → group.ok (length (update.put w)) ≡ true → unframed transfer (framed update w) ≡ none
unfolding unframed framed whole
no_transfer w o = rw (group_lawful.back (length (update.put w)) (update.put w) o, eq-eqb (length (update.put w)) (length (update.put w)) refl)
    (ap at_end (ap transfer.get (update_begins w) ∙ not_kind_one _))

pub update_back : (w : Update) → update.ok w ≡ true → length w.labels ≤ 4096 → message_in (framed update w) ≡ an_update w
unfolding message_in
update_back w o few =
    let short : group.ok (length (update.put w)) ≡ true = group_ok _ (let s = update_short w in omega arith) in
    rw (no_transfer w short, framed_back update update_lawful w o short)

-- whom it is for
pub addressee_is : (l : List ℕ) (a b c d : ℕ) (rest : List ℕ) → l ≡ group.put a ++ (group.put b ++ (group.put c ++ (group.put d ++ rest)))
    → a < 2 ^ 32 → b < 2 ^ 32 → c < 2 ^ 32 → d < 2 ^ 32 → addressee l ≡ d
unfolding addressee ◌⊕◌ ◌⊗◌
addressee_is l a b c d rest e ha hb hc hd =
    rw (
      e,
      group_lawful.back a (group.put b ++ (group.put c ++ (group.put d ++ rest))) (group_ok a ha),
      group_lawful.back b (group.put c ++ (group.put d ++ rest)) (group_ok b hb),
      group_lawful.back c (group.put d ++ rest) (group_ok c hc),
      group_lawful.back d rest (group_ok d hd),
    )

update_head : (w : Update) → update.put w ≡ group.put 2 ++ (group.put w.from ++ (group.put w.to ++ (group.put w.block ++ (counted label).put w.labels)))
unfolding update as_type ◌⊗◌ ◌⊕◌ exactly at_most such_that
update_head w = refl

pub update_addressee : (w : Update) → w.from < 2 ^ 32 → w.to < 2 ^ 32 → length w.labels ≤ 4096 → addressee (framed update w) ≡ w.to
unfolding framed
update_addressee w a b few =
    let s = update_short w in
    addressee_is (group.put (length (update.put w)) ++ update.put w) (length (update.put w)) 2 w.from w.to (group.put w.block ++ (counted label).put w.labels)
    (ap (λ (t : List ℕ). group.put (length (update.put w)) ++ t) (update_head w)) (omega arith) (omega arith) a b
