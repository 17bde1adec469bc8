-- What a slice is as a message, from what its readers say. Assumes nothing.
use Rattle.std.specs.Prelude.{None, Option, Some}
use mathlib.Core.Path.{◌≡◌, refl, sym, ◌∙◌, subst}
use mathlib.Core.Logic.{◌≢◌}
use mathlib.Core.List.{List}
use mathlib.Core.Option.{none, some}
use Prim.Native.Nat.{ℕ, ◌≤◌}
use native.Mathlib.Omega.{arith}
use lib.Dec.{leb}
use lib.ListN.{length, drop}
use borrow.Author.Tests.{leb-true}
use Rattle.model.specs.Layouts.{whole, unframed}
use Rattle.model.specs.Messages.{Transfer, transfer, Update, update, a_transfer, an_update, no_message, message_in, size_all}
use Rattle.laws.proofs.Tests.{and_right}
use Rattle.reader.specs.declared.Head.{Head}
use Rattle.inbox.specs.declared.message.Front.{Front}
use Rattle.inbox.specs.declared.message.Tail.{Tail}
use Rattle.inbox.specs.declared.message.Update.{Update as UpdateOutline}
use Rattle.inbox.specs.declared.received.Received.TheVariants as received
use Rattle.inbox.specs.Inbox.{Sides, Sized, points_in}
use Rattle.inbox.specs.Outlines.{Headed, Framed, HeadSaid, HeadRead, Fronted, FrontSaid, FrontRead, Tailed, TailSaid, TailRead, OutlineSaid, UpdateRead}
use Rattle.inbox.specs.Arrived.{MessageRead}
use Rattle.inbox.proofs.Outlining.{took_kind, no_front, no_tail, transfer_took, not_transfer, not_update}

-- THE KIND, from both layouts
module _ (s : List ℕ) where
  is_transfer : {t : Transfer} → unframed transfer s ≡ some t → message_in s ≡ a_transfer t
  unfolding message_in
  is_transfer e = rw e

  is_update : {u : Update} → unframed transfer s ≡ none → unframed update s ≡ some u → message_in s ≡ an_update u
  unfolding message_in
  is_update e f = rw (e, f)

  is_none : unframed transfer s ≡ none → unframed update s ≡ none → message_in s ≡ no_message
  unfolding message_in
  is_none e f = rw (e, f)

-- no head, no message
pub no_head : {s v x b z : List ℕ} {r : Option Head} → Sides v x b z → r ≡ None → HeadRead s r → MessageRead s v x b z received.Nothing
no_head {s} w e d = let f = subst (HeadSaid s) e d.said in record { sides = w; said = is_none s f.0 f.1 }

pub head_there : {s : List ℕ} {r : Option Head} {h : Head} → r ≡ Some h → HeadRead s r → Framed s h
head_there {s} e d = subst (HeadSaid s) e d.said

-- BOTH HALVES OF A TRANSFER
module _ {s : List ℕ} {p : ℕ} {v x b z : List ℕ} {r : Option Front} (w : FrontRead s p v x b z r) where
  pub front_missing : r ≡ None → whole transfer (drop p s) ≡ none
  front_missing e = no_front s p (subst (FrontSaid s p v x b z) e w.said)

  pub front_there : {f : Front} → r ≡ Some f → Fronted s p v x b z f
  front_there e = subst (FrontSaid s p v x b z) e w.said

module _ {s : List ℕ} {p : ℕ} {v x b z : List ℕ} {f : Front} (w : Fronted s p v x b z f) where
  pub front_sized : Sized w.fs f.darts z
  front_sized = record { count = w.darts_are; front = w.inside.sizes }

  pub front_fits : Sides v x b z → f.darts ≤ length z
  front_fits sides =
      omega (arith, w.darts_are, leb-true (size_all w.fs) 512 (and_right (leb 1 (size_all w.fs)) _ w.some_there), sides.sizes_size)

  module _ {r : Option Tail} (l : TailRead w.fs s f.next r) where
    pub tail_missing : r ≡ None → whole transfer (drop p s) ≡ none
    tail_missing e = no_tail w.took (subst (TailSaid w.fs s f.next) e l.said)

    pub tail_there : {t : Tail} → r ≡ Some t → Tailed w.fs s f.next t
    tail_there e = subst (TailSaid w.fs s f.next) e l.said

-- AN UPDATE
module _ {s : List ℕ} {p : ℕ} {r : Option UpdateOutline} (w : UpdateRead s p r) where
  pub update_missing : r ≡ None → whole update (drop p s) ≡ none
  update_missing e = subst (OutlineSaid s p) e w.said

  update_there : {o : UpdateOutline} → r ≡ Some o → OutlineSaid s p (Some o)
  update_there e = subst (OutlineSaid s p) e w.said

-- BY THE KIND
one_two : ◌≢◌ {A = ℕ} 1 2
one_two e = absurd (omega arith)

module _ {s : List ℕ} {h : Head} (f : Framed s h) where
  pub headed_as : {k : ℕ} → h.kind ≡ k → Headed k s h.body h.from h.to h.next
  headed_as e = record { past = f.past; after = f.after; kind_read = took_kind f.kind_read e; from_read = f.from_read; to_read = f.to_read }

  pub other_than_transfer : h.kind ≢ 1 → whole transfer (drop h.body s) ≡ none
  other_than_transfer e = not_transfer f.kind_read (λ k. e (sym k))

  other_than_update : h.kind ≢ 2 → whole update (drop h.body s) ≡ none
  other_than_update e = not_update f.kind_read (λ k. e (sym k))

  -- a transfer is no update
  pub not_both : h.kind ≡ 1 → whole update (drop h.body s) ≡ none
  not_both e = other_than_update (λ k. one_two (sym e ∙ k))

  pub nothing_read : {v x b z : List ℕ} → Sides v x b z → whole transfer (drop h.body s) ≡ none → whole update (drop h.body s) ≡ none → MessageRead s v x b z received.Nothing
  nothing_read w t u = record { sides = w; said = is_none s (f.transfer_as ∙ t) (f.update_as ∙ u) }

  pub update_read : {v x b z : List ℕ} {r : Option UpdateOutline} {o : UpdateOutline} → Sides v x b z → h.kind ≡ 2 → r ≡ Some o → UpdateRead s h.body r
      → MessageRead s v x b z (received.Update o)
  update_read w k e d =
      let u = update_there d e in
      record { sides = w; said = (u.0, is_update s (f.transfer_as ∙ other_than_transfer (λ j. one_two (sym j ∙ k))) (f.update_as ∙ u.1), u.2) }

  pub neither_read : {v x b z : List ℕ} → Sides v x b z → h.kind ≢ 1 → h.kind ≢ 2 → MessageRead s v x b z received.Nothing
  neither_read w d e = nothing_read w (other_than_transfer d) (other_than_update e)

  pub transfer_read : {v x b z : List ℕ} {g : Front} {l : Tail} → Sides v x b z → (w : Fronted s h.body v x b z g) → Tailed w.fs s g.next l
      → MessageRead s v x b z (received.Transfer g l)
  transfer_read {v} {x} {b} {z} {g} {l} sides w y = record {
    sides = sides;
    said = (
      record { from = g.from; to = g.to; points = points_in s g.points g.vertices; faces = w.fs; part2 = y.second; part3 = y.third; part4 = y.fourth },
      is_transfer s (f.transfer_as ∙ transfer_took w y),
      record {
        from_is = refl;
        to_is = refl;
        points_are = refl;
        points_fit = w.points_fit;
        some_there = w.some_there;
        darts_are = w.darts_are;
        hollow_is = w.hollow_is;
        inside = w.inside;
        past2 = y.past2;
        past3 = y.past3;
        past4 = y.past4;
        part2_in = y.part2_in;
        part3_in = y.part3_in;
        part4_in = y.part4_in;
      },
    );
  }
