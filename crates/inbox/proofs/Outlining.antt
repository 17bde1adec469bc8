-- Whole messages by their parts: what is missing, and what is told when nothing is. Assumes nothing.
use Rattle.std.specs.Prelude.{None, Option, Some}
use mathlib.Core.Path.{◌≡◌, refl, sym, ◌∙◌, ap, subst}
use mathlib.Core.Logic.{◌≢◌}
use mathlib.Core.Bool.{false, cond}
use mathlib.Core.List.{List, [], ◌∷◌}
use mathlib.Core.Option.{none, some, none-ne-some}
use Prim.Native.Nat.{ℕ, ◌+◌, ◌*◌, ◌-◌, ◌≤◌, ◌<◌}
use native.Mathlib.Omega.{arith}
use lib.Dec.{eqb, leb}
use lib.ListN.{length, drop, length-drop}
use borrow.Author.Tests.{eq-eqb, ne_eqb, le-leb, lt-leb, leb-true, leb-false}
use Rattle.model.specs.Layouts.{Layout, Read, then, when, group, at_most, exactly, such_that, as_type, ◌⊗◌, ◌⊕◌, times, get_all, counted, at_end, ended, whole, unframed}
use Rattle.model.specs.Messages.{FaceDart, face_dart, point, label, Part1, part1, Part2, part2, Part3, part3, Part4, part4, Transfer, transfer, update}
use Rattle.laws.proofs.Lists.{drop_end}
use Rattle.theory.proofs.LayoutLaws.{same_value, then_some}
use Rattle.groups.specs.Slices.{MaybeRead}
use Rattle.laws.proofs.Tests.{by_cases}
use Rattle.groups.proofs.Labels.{at_most_bound}
use Rattle.inbox.specs.declared.faces.Faces.{Faces}
use Rattle.reader.specs.declared.Head.{Head}
use Rattle.reader.proofs.Heads.{Missing, no_length, no_kind, no_from, no_to, Four}
use Rattle.inbox.specs.declared.message.Counted.{Counted}
use Rattle.inbox.specs.declared.message.Front.{Front}
use Rattle.inbox.specs.declared.message.Tail.{Tail}
use Rattle.codec.specs.Taken.{Took, PassSaid, Passes}
use Rattle.inbox.specs.Inbox.{Sides, FacesSaid, FacesRead, PointsSaid, PointsRead, points_in, some_darts}
use Rattle.inbox.specs.Outlines.{Headed, HeadRead, Entries, CountedSaid, CountedRead, Fronted, FrontRead, tail_layout, Tailed, TailRead, UpdateRead}
use Rattle.codec.proofs.Taking.{took_reads, pair_none, pair_took, both_none, both_half, both_took, as_none}
use Rattle.codec.proofs.Taking.{as_took, such_none, such_refused, such_took, counted_none, counted_half, counted_took}

-- TO THE LAST BYTE
module _ {A : Type 0} (l : Layout A) where
  pub whole_none : (bs : List ℕ) → l.get bs ≡ none → whole l bs ≡ none
  unfolding whole
  whole_none bs e = rw e

  pub whole_took : {s : List ℕ} {at p : ℕ} {a : A} → Took l s at a p → p ≡ length s → whole l (drop at s) ≡ some a
  unfolding whole
  whole_took {s} {at} {p} w e = rw (w.value, e, drop_end s (length s) (omega arith))

  pub whole_more : {s : List ℕ} {at p : ℕ} {a : A} → Took l s at a p → p ≢ length s → whole l (drop at s) ≡ none
  unfolding whole
  whole_more {s} {at} {p} {a} w e = rw w.value (go (drop p s) (length-drop p s))
    where
      go : (bs : List ℕ) → length bs ≡ length s - p → ended a bs ≡ none
      go [] k = absurd (e (let h = w.within in omega arith))
      go (b ∷ bs) k = refl

-- THE HEAD
pub took_kind : {k n : ℕ} {s : List ℕ} {at p : ℕ} → Took group s at n p → n ≡ k → Took (exactly k) s at k p
unfolding exactly
took_kind {k} {n} w e = such_took group (eqb k) (rw e at w) (eq-eqb k k refl)

pub took_block : {s : List ℕ} {at v p : ℕ} → Took group s at v p → v ≤ 15 → Took (at_most 15) s at v p
unfolding at_most
took_block {s} {at} {v} w h = such_took group (λ v. leb v 15) w (le-leb v 15 h)

pub no_block_read : (s : List ℕ) (at : ℕ) → group.get (drop at s) ≡ none → (at_most 15).get (drop at s) ≡ none
unfolding at_most
no_block_read s at e = such_none group (λ v. leb v 15) (drop at s) e

pub no_such_block : {s : List ℕ} {at v p : ℕ} → Took group s at v p → 15 < v → (at_most 15).get (drop at s) ≡ none
unfolding at_most
no_such_block {s} {at} {v} w h = such_refused group (λ v. leb v 15) w (lt-leb v 15 h)

module _ {B : Type 0} (k : ℕ) (m : Layout B) where
  abbrev headed_by : Layout (ℕ × (ℕ × (ℕ × B)))
  headed_by = exactly k ⊕ at_most 15 ⊕ at_most 15 ⊕ m

  lacks_kind : (s : List ℕ) (at : ℕ) → group.get (drop at s) ≡ none → headed_by.get (drop at s) ≡ none
  unfolding exactly
  lacks_kind s at e = both_none (exactly k) (at_most 15 ⊕ at_most 15 ⊕ m) (drop at s) (such_none group (eqb k) (drop at s) e)

  module _ {s : List ℕ} {at n p : ℕ} (w : Took group s at n p) where
    other_kind : k ≢ n → headed_by.get (drop at s) ≡ none
    unfolding exactly
    other_kind h = both_none (exactly k) (at_most 15 ⊕ at_most 15 ⊕ m) (drop at s) (such_refused group (eqb k) w (ne_eqb k n h))

    lacks_rest : (at_most 15 ⊕ at_most 15 ⊕ m).get (drop p s) ≡ none → headed_by.get (drop at s) ≡ none
    unfolding exactly
    lacks_rest e = by_cases (eqb k n)
        (λ t. both_half (exactly k) (at_most 15 ⊕ at_most 15 ⊕ m) (such_took group (eqb k) w t) e)
        (λ t. both_none (exactly k) (at_most 15 ⊕ at_most 15 ⊕ m) (drop at s) (such_refused group (eqb k) w t))

    lacks_from : (at_most 15).get (drop p s) ≡ none → headed_by.get (drop at s) ≡ none
    lacks_from e = lacks_rest (both_none (at_most 15) (at_most 15 ⊕ m) (drop p s) e)

    lacks_to : {f q : ℕ} → Took (at_most 15) s p f q → (at_most 15).get (drop q s) ≡ none → headed_by.get (drop at s) ≡ none
    lacks_to {f} {q} x e = lacks_rest (both_half (at_most 15) (at_most 15 ⊕ m) x (both_none (at_most 15) m (drop q s) e))

  module _ {s : List ℕ} {at from to p : ℕ} (h : Headed k s at from to p) where
    pub head_half : m.get (drop p s) ≡ none → headed_by.get (drop at s) ≡ none
    head_half e = both_half (exactly k) (at_most 15 ⊕ at_most 15 ⊕ m) h.kind_read (both_half (at_most 15) (at_most 15 ⊕ m) h.from_read (both_half (at_most 15) m h.to_read e))

    pub head_took : {b : B} {q : ℕ} → Took m s p b q → Took headed_by s at (k, (from, (to, b))) q
    head_took w = both_took (exactly k) (at_most 15 ⊕ at_most 15 ⊕ m) h.kind_read (both_took (at_most 15) (at_most 15 ⊕ m) h.from_read (both_took (at_most 15) m h.to_read w))

-- COUNTED ENTRIES
module _ {A : Type 0} (l : Layout A) where
  pub counted_bad : (s : List ℕ) (at : ℕ) → group.get (drop at s) ≡ none → CountedRead l s at None
  counted_bad s at e = record { said = counted_none l (drop at s) e }

  pub counted_short : {s : List ℕ} {at n p : ℕ} {t : MaybeRead} → Took group s at n p → t ≡ None → Passes (times n l) s p t → CountedRead l s at None
  unfolding times
  counted_short {s} {at} {n} {p} {t} w e d = record { said = counted_half l w (subst (PassSaid (times n l) s p) e d.said) }

  pub counted_missing : {s : List ℕ} {at : ℕ} {r : Option Counted} → r ≡ None → CountedRead l s at r → (counted l).get (drop at s) ≡ none
  counted_missing {s} {at} e w = subst (CountedSaid l s at) e w.said

  pub counted_there : {s : List ℕ} {at : ℕ} {r : Option Counted} {c : Counted} → r ≡ Some c → CountedRead l s at r → Entries l s at c.count c.first c.next
  counted_there {s} {at} e w = subst (CountedSaid l s at) e w.said

  pub counted_good : {s : List ℕ} {at n p m q : ℕ} {t : MaybeRead} → Took group s at n p → t ≡ Some (m, q) → Passes (times n l) s p t
      → CountedRead l s at (Some (record { count = n; first = p; next = q }))
  counted_good {s} {at} {n} {p} {m} {q} {t} w e d = record { said = go (subst (PassSaid (times n l) s p) e d.said) }
    where
      go : PassSaid (times n l) s p (Some (m, q)) → Entries l s at n p q
      go d = record { items = d.0; count_read = w; items_read = d.1 }

  pub entries_took : {s : List ℕ} {at n p q : ℕ} (e : Entries l s at n p q) → Took (counted l) s at e.items q
  entries_took e = counted_took l e.count_read e.items_read

-- FACES
abbrev faces_layout : Layout (List (List FaceDart))
faces_layout = such_that (counted (counted face_dart)) some_darts

counted_items : {A : Type 0} (l : Layout A) {s : List ℕ} {at n p : ℕ} (xs : List A) (rest : List ℕ) → Took group s at n p
    → (counted l).get (drop at s) ≡ some (xs, rest) → (t : List ℕ) × (get_all l n (drop p s) ≡ some (xs, t))
unfolding counted times as_type ◌⊗◌
counted_items {A} l {s} {at} {n} {p} xs rest w e =
    let e' = rw w.value at e in
    let r = then_some (then (get_all l n (drop p s)) _) _ _ e' in
    let t = then_some (get_all l n (drop p s)) _ _ r.2 in
    let same : t.0 ≡ xs = ap (λ (q : ℕ × List A). q.1) (same_value t.3) ∙ same_value r.3 in
    (t.1, t.2 ∙ ap (λ (ys : List A). some (ys, t.1)) same)

faces_no : {s : List ℕ} {at n p : ℕ} → Took group s at n p
    → ((fs : List (List FaceDart)) (rest : List ℕ) → get_all (counted face_dart) n (drop p s) ≡ some (fs, rest) → some_darts fs ≡ false) → faces_layout.get (drop at s) ≡ none
unfolding such_that
faces_no {s} {at} {n} {p} w h = go ((counted (counted face_dart)).get (drop at s)) refl
  where
    go : (r : Read (List (List FaceDart))) → (counted (counted face_dart)).get (drop at s) ≡ r → then r (λ v rest. when (some_darts v) (some (v, rest))) ≡ none
    go none e = refl
    go (some r) e = let t = counted_items (counted face_dart) r.0 r.1 w e in rw (h r.0 t.0 t.1)

-- PART 1 OF A TRANSFER
pub front_bad : {s : List ℕ} {at : ℕ} {v x b z : List ℕ} → Sides v x b z → part1.get (drop at s) ≡ none → FrontRead s at v x b z None
front_bad w n = record { sides = w; said = n }

pub no_points : {s : List ℕ} {at from to p : ℕ} {r : MaybeRead} → Headed 1 s at from to p → r ≡ None → PointsRead s p r → part1.get (drop at s) ≡ none
unfolding part1
no_points {s} {at} {from} {to} {p} h e w = head_half 1 (counted point ⊕ faces_layout) h (both_none (counted point) faces_layout (drop p s) (subst (PointsSaid s p) e w.said))

-- the points, and where they end
pub took_points : {s : List ℕ} {p n from : ℕ} {r : MaybeRead} → r ≡ Some (n, from) → PointsRead s p r → Took (counted point) s p (points_in s from n) (from + 24 * n)
took_points {s} {p} {n} {from} e w = go (subst (PointsSaid s p) e w.said)
  where
    go : PointsSaid s p (Some (n, from)) → Took (counted point) s p (points_in s from n) (from + 24 * n)
    go d = record { value = d.0; onward = (let a = d.1 in omega arith); within = d.2 }

module _ (m start : ℕ) {s : List ℕ} {at from to p : ℕ} (h : Headed 1 s at from to p) (points : Took (counted point) s p (points_in s start m) (start + 24 * m)) where
  pub no_count : group.get (drop (start + 24 * m) s) ≡ none → part1.get (drop at s) ≡ none
  unfolding part1
  no_count e = head_half 1 (counted point ⊕ faces_layout) h (both_half (counted point) faces_layout points
      (such_none (counted (counted face_dart)) some_darts (drop (start + 24 * m) s) (counted_none (counted face_dart) (drop (start + 24 * m) s) e)))

  module _ {n first : ℕ} {v x b z : List ℕ} {r : Option Faces} (count : Took group s (start + 24 * m) n first) (w : FacesRead s first n v x b z r) where
    pub no_faces : r ≡ None → FrontRead s at v x b z None
    unfolding part1
    no_faces e = record {
      sides = w.sides;
      said = head_half 1 (counted point ⊕ faces_layout) h (both_half (counted point) faces_layout points (faces_no count (subst (FacesSaid s first n v x b z) e w.said)));
    }

    pub front_read : {f : Faces} → r ≡ Some f
        → FrontRead s at v x b z (Some (record { hollow = f.hollow; from = from; to = to; vertices = m; points = start; darts = f.darts; next = f.next }))
    unfolding part1
    front_read {f} e = record { sides = w.sides; said = go (subst (FacesSaid s first n v x b z) e w.said) }
      where
        go : FacesSaid s first n v x b z (Some f)
            → Fronted s at v x b z (record { hollow = f.hollow; from = from; to = to; vertices = m; points = start; darts = f.darts; next = f.next })
        go y = record {
          fs = y.0;
          took =
              head_took 1 (counted point ⊕ faces_layout) h
              (both_took (counted point) faces_layout points (such_took (counted (counted face_dart)) some_darts (counted_took (counted face_dart) count y.1) y.2));
          points_fit = points.within;
          some_there = y.2;
          darts_are = y.3;
          hollow_is = y.4;
          inside = y.5;
        }

-- PARTS 2 TO 4
module _ (fs : List (List FaceDart)) where
  pub tail_bad : {s : List ℕ} {at : ℕ} → (tail_layout fs).get (drop at s) ≡ none → TailRead fs s at None
  tail_bad {s} {at} n = record { said = whole_none (tail_layout fs) (drop at s) n }

  pub no_second : (s : List ℕ) (at : ℕ) → (counted part2).get (drop at s) ≡ none → (tail_layout fs).get (drop at s) ≡ none
  no_second s at e = both_none (counted part2) (counted part3 ⊕ counted (part4 fs)) (drop at s) e

  module _ {s : List ℕ} {at : ℕ} (c2 : Counted) (e2 : Entries part2 s at c2.count c2.first c2.next) where
    pub no_third : (counted part3).get (drop c2.next s) ≡ none → (tail_layout fs).get (drop at s) ≡ none
    no_third e = both_half (counted part2) (counted part3 ⊕ counted (part4 fs)) (entries_took part2 e2) (both_none (counted part3) (counted (part4 fs)) (drop c2.next s) e)

    module _ (c3 : Counted) (e3 : Entries part3 s c2.next c3.count c3.first c3.next) where
      pub no_fourth : (counted (part4 fs)).get (drop c3.next s) ≡ none → (tail_layout fs).get (drop at s) ≡ none
      no_fourth e =
          both_half (counted part2) (counted part3 ⊕ counted (part4 fs)) (entries_took part2 e2)
          (both_half (counted part3) (counted (part4 fs)) (entries_took part3 e3) e)

      module _ (c4 : Counted) (e4 : Entries (part4 fs) s c3.next c4.count c4.first c4.next) where
        taken : Took (tail_layout fs) s at (e2.items, (e3.items, e4.items)) c4.next
        taken = both_took (counted part2) (counted part3 ⊕ counted (part4 fs)) (entries_took part2 e2)
            (both_took (counted part3) (counted (part4 fs)) (entries_took part3 e3) (entries_took (part4 fs) e4))

        pub tail_more : c4.next ≢ length s → TailRead fs s at None
        tail_more e = record { said = whole_more (tail_layout fs) taken e }

        pub tail_read : c4.next ≡ length s
            → TailRead fs s at (Some (record { count2 = c2.count; part2 = c2.first; count3 = c3.count; part3 = c3.first; count4 = c4.count; part4 = c4.first }))
        tail_read e = record {
          said = record {
            second = e2.items;
            third = e3.items;
            fourth = e4.items;
            took = subst (Took (tail_layout fs) s at (e2.items, (e3.items, e4.items))) e taken;
            past2 = c2.next;
            past3 = c3.next;
            past4 = c4.next;
            part2_in = e2.items_read;
            part3_in = e3.items_read;
            part4_in = e4.items_read;
          };
        }

-- A TRANSFER of both halves
pub no_front : (s : List ℕ) (at : ℕ) → part1.get (drop at s) ≡ none → whole transfer (drop at s) ≡ none
unfolding transfer
no_front s at e = whole_none transfer (drop at s) (as_none _ _ _ (drop at s) (pair_none part1 (λ h. tail_layout h.1.1.1.1) (drop at s) e))

-- whether something is left does not depend on what was read
ended_alike : {A B : Type 0} (a : A) (b : B) (bs : List ℕ) → ended a bs ≡ none → ended b bs ≡ none
ended_alike a b [] e = absurd (none-ne-some _ (sym e))
ended_alike a b (c ∷ bs) e = refl

pub no_tail : {s : List ℕ} {at p : ℕ} {h : Part1} → Took part1 s at h p → whole (tail_layout h.1.1.1.1) (drop p s) ≡ none → whole transfer (drop at s) ≡ none
unfolding transfer whole as_type ◌⊗◌
no_tail {s} {at} {p} {h} w e = rw w.value (go ((tail_layout h.1.1.1.1).get (drop p s)) e)
  where
    go : (r : Read (List Part2 × (List Part3 × List Part4))) → at_end r ≡ none
        → at_end {A = Transfer}
        (then {A = Part1 × (List Part2 × (List Part3 × List Part4))}
        (then {B = Part1 × (List Part2 × (List Part3 × List Part4))} r (λ b rest. some ((h, b), rest)))
        (λ q rest. some (
          record {
            from = q.0.1.0;
            to = q.0.1.1.0;
            points = q.0.1.1.1.0;
            faces = q.0.1.1.1.1;
            part2 = q.1.0;
            part3 = q.1.1.0;
            part4 = q.1.1.1;
          },
          rest,
        ))) ≡ none
    go none e = refl
    go (some r) e = ended_alike r.0 (record { from = h.1.0; to = h.1.1.0; points = h.1.1.1.0; faces = h.1.1.1.1; part2 = r.0.0; part3 = r.0.1.0; part4 = r.0.1.1 }) r.1 e

-- what both halves tell
pub transfer_took : {s : List ℕ} {at : ℕ} {v x b z : List ℕ} {f : Front} {t : Tail} (w : Fronted s at v x b z f) (y : Tailed w.fs s f.next t)
    → whole transfer (drop at s) ≡ some (record { from = f.from; to = f.to; points = points_in s f.points f.vertices; faces = w.fs; part2 = y.second; part3 = y.third; part4 = y.fourth })
unfolding transfer
transfer_took w y = whole_took transfer (as_took _ _ _ (pair_took part1 (λ h. tail_layout h.1.1.1.1) w.took y.took)) refl

-- AN UPDATE
pub update_bad : {s : List ℕ} {at : ℕ} → whole update (drop at s) ≡ none → UpdateRead s at None
update_bad n = record { said = n }

no_update : (s : List ℕ) (at : ℕ) → (headed_by 2 (at_most 15 ⊕ counted label)).get (drop at s) ≡ none → whole update (drop at s) ≡ none
unfolding update
no_update s at e = whole_none update (drop at s) (as_none _ _ _ (drop at s) e)

module _ {s : List ℕ} {at from to p : ℕ} (h : Headed 2 s at from to p) where
  pub no_block : (at_most 15).get (drop p s) ≡ none → whole update (drop at s) ≡ none
  no_block e = no_update s at (head_half 2 (at_most 15 ⊕ counted label) h (both_none (at_most 15) (counted label) (drop p s) e))

  module _ {block q : ℕ} (b : Took (at_most 15) s p block q) where
    pub no_labels : (counted label).get (drop q s) ≡ none → whole update (drop at s) ≡ none
    no_labels e = no_update s at (head_half 2 (at_most 15 ⊕ counted label) h (both_half (at_most 15) (counted label) b e))

    module _ (c : Counted) (w : Entries label s q c.count c.first c.next) where
      told : Took update s at (record { from = from; to = to; block = block; labels = w.items }) c.next
      unfolding update
      told = as_took _ _ _ (head_took 2 (at_most 15 ⊕ counted label) h (both_took (at_most 15) (counted label) b (entries_took label w)))

      pub update_more : c.next ≢ length s → whole update (drop at s) ≡ none
      update_more e = whole_more update told e

      pub update_good : c.next ≡ length s → UpdateRead s at (Some (record { from = from; to = to; block = block; count = c.count; labels = c.first }))
      update_good e = record {
        said = (
          record { from = from; to = to; block = block; labels = w.items },
          whole_took update told e,
          record {
            from_is = refl;
            to_is = refl;
            block_is = refl;
            from_small = at_most_bound 15 _ from _ h.from_read.value;
            block_small = at_most_bound 15 _ block _ b.value;
            past = c.next;
            labels_in = w.items_read;
          },
        );
      }

-- NEITHER KIND of message
pub record Neither (s : List ℕ) (at : ℕ) : Type 0 where
  pub no_transfer : whole transfer (drop at s) ≡ none
  pub no_update_there : whole update (drop at s) ≡ none

transfer_lacks : (s : List ℕ) (at : ℕ) → (headed_by 1 (counted point ⊕ faces_layout)).get (drop at s) ≡ none → whole transfer (drop at s) ≡ none
unfolding part1
transfer_lacks s at e = no_front s at e

pub neither_kind : {s : List ℕ} {at : ℕ} → group.get (drop at s) ≡ none → Neither s at
neither_kind {s} {at} e = record {
  no_transfer = transfer_lacks s at (lacks_kind 1 (counted point ⊕ faces_layout) s at e);
  no_update_there = no_update s at (lacks_kind 2 (at_most 15 ⊕ counted label) s at e);
}

module _ {s : List ℕ} {at n p : ℕ} (w : Took group s at n p) where
  pub neither_from : (at_most 15).get (drop p s) ≡ none → Neither s at
  neither_from e = record {
    no_transfer = transfer_lacks s at (lacks_from 1 (counted point ⊕ faces_layout) w e);
    no_update_there = no_update s at (lacks_from 2 (at_most 15 ⊕ counted label) w e);
  }

  pub neither_to : {f q : ℕ} → Took (at_most 15) s p f q → (at_most 15).get (drop q s) ≡ none → Neither s at
  neither_to x e = record {
    no_transfer = transfer_lacks s at (lacks_to 1 (counted point ⊕ faces_layout) w x e);
    no_update_there = no_update s at (lacks_to 2 (at_most 15 ⊕ counted label) w x e);
  }

  -- by the kind
  pub not_transfer : 1 ≢ n → whole transfer (drop at s) ≡ none
  not_transfer h = transfer_lacks s at (other_kind 1 (counted point ⊕ faces_layout) w h)

  pub not_update : 2 ≢ n → whole update (drop at s) ≡ none
  not_update h = no_update s at (other_kind 2 (at_most 15 ⊕ counted label) w h)

-- THE FRAME
frame_as : {A : Type 0} (l : Layout A) {s : List ℕ} {n p : ℕ} → Took group s 0 n p → unframed l s ≡ cond (eqb (length s - p) n) (whole l (drop p s)) none
unfolding unframed
frame_as l {s} {n} {p} w = rw (w.value, length-drop p s)

frame_lacks : {A : Type 0} (l : Layout A) {s : List ℕ} {n p : ℕ} → Took group s 0 n p → whole l (drop p s) ≡ none → unframed l s ≡ none
frame_lacks l {s} {n} {p} w e = frame_as l w ∙ by_cases (eqb (length s - p) n) (λ t. rw t e) (λ t. rw t refl)

pub head_unread : (s : List ℕ) → group.get (drop 0 s) ≡ none → HeadRead s None
unfolding unframed
head_unread s e = record { said = (rw e, rw e) }

module _ {s : List ℕ} {n p : ℕ} (w : Took group s 0 n p) where
  pub head_neither : Neither s p → HeadRead s None
  head_neither d = record { said = (frame_lacks transfer w d.no_transfer, frame_lacks update w d.no_update_there) }

  pub frame_wrong : length s - p ≢ n → HeadRead s None
  frame_wrong h = let e = ne_eqb (length s - p) n h in record { said = (frame_as transfer w ∙ rw e, frame_as update w ∙ rw e) }

-- one of the four numbers is missing
pub head_missing : {s : List ℕ} → Missing s → HeadRead s None
head_missing {s} (no_length e) = head_unread s e
head_missing {s} (no_kind n p a e) = head_neither (took_reads a) (neither_kind e)
head_missing {s} (no_from n p k q a b e) = head_neither (took_reads a) (neither_from (took_reads b) (no_block_read s q e))
head_missing {s} (no_to n p k q f r a b c e) = by_cases (leb f 15)
    (λ t. head_neither (took_reads a) (neither_to (took_reads b) (took_block (took_reads c) (leb-true f 15 t)) (no_block_read s r e)))
    (λ t. head_neither (took_reads a) (neither_from (took_reads b) (no_such_block (took_reads c) (leb-false f 15 t))))

-- all four are there
module _ {s : List ℕ} {h : Head} (w : Four s h) where
  pub body_within : h.body ≤ length s
  body_within = w.length_read.within

  pub head_wrong : length s - h.body ≢ h.length → HeadRead s None
  head_wrong e = frame_wrong (took_reads w.length_read) e

  pub from_none : 16 ≤ h.from → HeadRead s None
  from_none e = head_neither (took_reads w.length_read) (neither_from (took_reads w.kind_read) (no_such_block (took_reads w.from_read) (omega arith)))

  pub to_none : h.from < 16 → 16 ≤ h.to → HeadRead s None
  to_none f e =
      head_neither (took_reads w.length_read)
      (neither_to (took_reads w.kind_read) (took_block (took_reads w.from_read) (omega arith)) (no_such_block (took_reads w.to_read) (omega arith)))

  pub head_framed : length s - h.body ≡ h.length → h.from < 16 → h.to < 16 → HeadRead s (Some h)
  head_framed e f t =
      let k = eq-eqb (length s - h.body) h.length e in
      record {
        said = record {
          transfer_as = frame_as transfer (took_reads w.length_read) ∙ rw k;
          update_as = frame_as update (took_reads w.length_read) ∙ rw k;
          past = w.past;
          after = w.after;
          kind_read = took_reads w.kind_read;
          from_read = took_block (took_reads w.from_read) (omega arith);
          to_read = took_block (took_reads w.to_read) (omega arith);
        };
      }
