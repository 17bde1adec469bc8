-- The answer to question 20 but for part 2, step by step. Assumes nothing.
use mathlib.Core.Path.{◌≡◌, refl, sym, ◌∙◌, ap}
use mathlib.Core.Bool.{Bool, true, false, true≢false, not, ◌&&◌}
use mathlib.Core.List.{List, ◌++◌}
use Prim.Native.Nat.{ℕ, ◌+◌, ◌*◌, ◌-◌, ◌≤◌, ◌<◌, ◌^◌}
use native.Mathlib.Omega.{arith}
use lib.Dec.{eqb, leb}
use lib.ListN.{length, get_or, take}
use borrow.Author.Tests.{leb-true}
use Rattle.model.specs.Values.{message_darts}
use Rattle.model.specs.Lists.{all, tab, concat_map}
use Rattle.model.specs.Image.{column, block_in, holds_block}
use Rattle.model.specs.Messages.{FaceDart, Transfer, part2, part3}
use Rattle.model.specs.Arrival.{indices_right, consecutive, labels_new, critical_links}
use Rattle.laws.proofs.Tests.{and_left, and_right}
use Rattle.columns.proofs.Question.{image_passed}
use Rattle.inbox.specs.Inbox.{Sized}
use Rattle.inbox.specs.declared.message.Tail.{Tail}
use Rattle.parts.specs.Entries.{EntriesRead, Part4Read, LabelsThere, code2, index2, number3, index3}
use Rattle.parts.specs.Indices.{indices_fit}
use Rattle.parts.specs.Numbers.{follows_at}
use Rattle.parts.specs.Faces.{Spans, Faced, numbered_code, code_at}
use Rattle.parts.specs.Segments.{face_links}
use Rattle.parts.specs.Fresh.{labels_fit}
use Rattle.parts.specs.Critical.{few_entries, entries_fit, Arrives, CriticalRight}
use Rattle.parts.proofs.IndexLaws.{front_tab}
use Rattle.parts.proofs.FreshLabels.{Words, labels_are}
use Rattle.parts.proofs.Assembled.{too_many, entries_told, indices4, spans3, spans4, numbers_small, others_small, labels_there, links_small, words, links_told, off_faces, words_right}

pub sized : {t : Transfer} {v x b z s : List ℕ} {k from to : ℕ} {l : Tail} → Arrives t v x b z s k from to l → Sized t.faces k z
sized w = record { count = w.darts; front = w.inside.sizes }

module _ (l : Tail) {k : ℕ} (e : few_entries l k ≡ true) where
  pub few2 : l.count2 ≤ k
  few2 = leb-true l.count2 k (and_left (leb l.count2 k) _ (and_left (leb l.count2 k && leb l.count3 k) _ e))

  pub few3 : l.count3 ≤ k
  few3 = leb-true l.count3 k (and_right (leb l.count2 k) _ (and_left (leb l.count2 k && leb l.count3 k) _ e))

  pub few4 : l.count4 ≤ k
  few4 = leb-true l.count4 k (and_right (leb l.count2 k && leb l.count3 k) _ e)

pub many_no : (m s b z : List ℕ) (k from to : ℕ) (l : Tail) {codes indices kinds links : List ℕ} → few_entries l k ≡ false → CriticalRight m s b z k from to l codes indices kinds links false
many_no m s b z k from to l e = record { answer = λ t v x w. too_many w e (block_in m); told = λ q. absurd (true≢false (sym q)) }

module _ (m b : List ℕ) (from to : ℕ) (l : Tail) {s z : List ℕ} {k : ℕ} (small : few_entries l k ≡ true) {codes i2 numbers i3 i4 others places : List ℕ}
    (read2 : EntriesRead part2 code2 index2 s l.part2 l.count2 codes i2) (read3 : EntriesRead part3 number3 index3 s l.part3 l.count3 numbers i3)
    (read4 : ((fs : List (List FaceDart)) → Sized fs k z → Part4Read fs z s l.part4 l.count4 i4 others places) × (k ≤ length i3) × (k ≤ length i4) × (k ≤ length others)) where
  long3 : l.count3 ≤ length i3
  long3 = omega (arith, few3 l small, read4.1)

  long4 : l.count4 ≤ length i4
  long4 = omega (arith, few4 l small, read4.2)

  long_others : l.count4 ≤ length others
  long_others = omega (arith, few4 l small, read4.3)

  abbrev fit : Bool
  fit = entries_fit b k from to i2 l.count2 i3 numbers l.count3 i4 others l.count4

  told_by : {t : Transfer} {v x : List ℕ} (w : Arrives t v x b z s k from to l)
      → (indices_right t && consecutive t.part3
      && all (λ k. not (eqb k.other t.from) && not (eqb k.other t.to)) t.part4) ≡ fit
  told_by {t} w = entries_told w read2 read3 (read4.0 t.faces (sized w)) long3 long4 long_others

  pub entries_no : {kinds links : List ℕ} → fit ≡ false → CriticalRight m s b z k from to l codes i2 kinds links false
  entries_no e = record { answer = λ t v x w. sym (ap (λ (c : Bool). c && labels_new (block_in m) t) (told_by w ∙ e)); told = λ q. absurd (true≢false (sym q)) }

  module _ (few : k ≤ message_darts) (ok : fit ≡ true) where
    ok_indices : indices_fit b k (take l.count2 i2) (take l.count3 i3) (take l.count4 i4) ≡ true
    ok_indices =
        and_left (indices_fit b k (take l.count2 i2) (take l.count3 i3) (take l.count4 i4)) _
        (and_left
        (indices_fit b k (take l.count2 i2) (take l.count3 i3) (take l.count4 i4)
        && all (follows_at numbers) (tab (λ e. e) (l.count3 - 1))) _ ok)

    module _ {t : Transfer} {v x : List ℕ} (w : Arrives t v x b z s k from to l) where
      pub put_spans3 : Spans z i3 k l.count3
      put_spans3 = spans3 w read2 read3 (read4.0 t.faces (sized w)) long3 long4 long_others few ok_indices

      pub put_spans4 : Spans z i4 k l.count4
      put_spans4 = spans4 w read2 read3 (read4.0 t.faces (sized w)) long3 long4 long_others few ok_indices

      pub put_numbers : (e : ℕ) → e < l.count3 → get_or numbers e 0 < 2 ^ 32
      put_numbers = numbers_small w read2 read3 (read4.0 t.faces (sized w)) long3 long4 long_others few ok_indices

      pub put_others : (e : ℕ) → e < l.count4 → get_or others e 0 ≤ 15
      put_others = others_small w read2 read3 (read4.0 t.faces (sized w)) long3 long4 long_others few ok_indices

      pub put_labels : (e : ℕ) → e < l.count4 → LabelsThere s (get_or places e 0) (get_or z (get_or i4 e 0) 0)
      put_labels = labels_there w read2 read3 (read4.0 t.faces (sized w)) long3 long4 long_others few ok_indices

    module _ {kinds kinds' kinds'' links links' links'' : List ℕ} (from_small : from ≤ 15) (zero-kinds : (q : ℕ) → get_or kinds q 0 ≡ 0) (zero-links : (q : ℕ) → get_or links q 0 ≡ 0)
        (k3 : Faced z i3 l.count3 (λ e j. 2 + 4 * from) kinds kinds') (k4 : Faced z i4 l.count4 (λ e j. 2 + 4 * get_or others e 0) kinds' kinds'')
        (l3 : Faced z i3 l.count3 (numbered_code from numbers) links links') (l4 : Faced z i4 l.count4 (λ e. code_at s (get_or places e 0) (get_or z (get_or i4 e 0) 0)) links' links'') where
      pub put_small : {t : Transfer} {v x : List ℕ} → Arrives t v x b z s k from to l → (q : ℕ) → q < k → get_or links'' q 0 < 2 ^ 48
      put_small {t} w = links_small w read2 read3 (read4.0 t.faces (sized w)) long3 long4 long_others few ok_indices from_small zero-kinds zero-links k3 k4 l3 l4

      pub labels_tell : holds_block m ≡ true → {r : Bool} → r ≡ labels_fit m (get_or m 2 0) kinds'' links'' k → CriticalRight m s b z k from to l codes i2 kinds'' links'' r
      labels_tell image {r} e = record {
        answer =
            λ t v x w. e ∙ sym
            (labels_are (column m 0) x (the_words w) (image_passed m image).range t (the_links w (column m 0))) ∙ sym
            (ap (λ (c : Bool). c && labels_new (block_in m) t) (told_by w ∙ ok));
        told = λ q t v x w. record {
          codes_are = read2.firsts_are t.part2 w.past2 w.part2_in;
          indices_are = read2.seconds_are t.part2 w.past2 w.part2_in;
          starts = tab (λ e. get_or i3 e 0) l.count3 ++ tab (λ e. get_or i4 e 0) l.count4;
          starts_are = two (sym (front_tab i3 l.count3 long3) ∙ read3.seconds_are t.part3 w.past3 w.part3_in)
              (sym (front_tab i4 l.count4 long4) ∙ sym (indices4 w read2 read3 (read4.0 t.faces (sized w)) long3 long4 long_others));
          links_are = the_links w;
          kind_in = (the_words w).kind_in;
          kind_out =
              λ p h u. off_faces w read2 read3 (read4.0 t.faces (sized w)) long3 long4 long_others few ok_indices k3 k4 p h u ∙ zero-kinds p;
          words_right = words_right w read2 read3 (read4.0 t.faces (sized w)) long3 long4 long_others few ok_indices from_small zero-kinds zero-links k3 k4 l3 l4;
        };
      }
        where
          the_words : {t : Transfer} {v x : List ℕ} → Arrives t v x b z s k from to l → Words b z kinds'' links'' k (tab (λ e. get_or i3 e 0) l.count3 ++ tab (λ e. get_or i4 e 0) l.count4)
          the_words {t} w = words w read2 read3 (read4.0 t.faces (sized w)) long3 long4 long_others few ok_indices from_small zero-kinds zero-links k3 k4 l3 l4

          the_links : {t : Transfer} {v x : List ℕ} (w : Arrives t v x b z s k from to l) (serials : ℕ → ℕ)
              → critical_links t
              ≡ concat_map (face_links serials x z kinds'' links'')
              (tab (λ e. get_or i3 e 0) l.count3 ++ tab (λ e. get_or i4 e 0) l.count4)
          the_links {t} w = links_told w read2 read3 (read4.0 t.faces (sized w)) long3 long4 long_others few ok_indices from_small zero-kinds zero-links k3 k4 l3 l4

          two : {p q r u : List ℕ} → p ≡ q → r ≡ u → p ++ r ≡ q ++ u
          two p q = rw (p, q) refl
