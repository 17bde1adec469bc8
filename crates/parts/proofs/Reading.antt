-- Entries of a part read into two arrays, one after the other. Assumes nothing.
use Rattle.std.specs.Prelude.{None, Option, Some}
use Rattle.parts.specs.Entries.{EntryThere, EntrySaid, EntryRead, Part4Read, entry_at, labels_at, LabelsThere}
use Rattle.parts.specs.declared.entries.Entry.{Entry}
use Rattle.laws.proofs.Maps.{tab_more}
use Rattle.laws.proofs.Tables.{tab_cong}
use Rattle.laws.proofs.Tests.{last_or_below}
use Rattle.model.specs.Messages.{FaceDart, Part4, part4, size_all, size_at}
use Rattle.model.specs.Layouts.{at_most, such_that, ◌⊕◌}
use Rattle.model.specs.Values.{Label}
use Rattle.model.specs.Lists.{tab}
use mathlib.Core.Path.{◌≡◌, refl, sym, ◌∙◌, ap, subst}
use mathlib.Core.Logic.{⊎_elim}
use lib.Dec.{ltb}
use borrow.Author.Tests.{lt-ltb}
use mathlib.Core.List.{List, [], ◌∷◌, ◌++◌, map}
use mathlib.Core.Option.{none, none-ne-some}
use Prim.Native.Nat.{ℕ, ◌+◌, ◌≤◌, ◌<◌}
use native.Mathlib.Omega.{arith}
use native.Mathlib.Numerals.{add-one}
use lib.ListN.{get_or, length, set, take, drop, length-set, length-append}
use lib.Seq.{take-suc-set, get_or-set_same, get_or-set_other}
use Rattle.model.specs.Image.{label_in}
use Rattle.model.specs.Layouts.{Layout, group, times}
use Rattle.model.specs.Messages.{label, part2, part3}
use Rattle.laws.proofs.Members.{map_append}
use Rattle.theory.proofs.LayoutLaws.{same_value}
use Rattle.groups.specs.Slices.{read_at}
use Rattle.groups.proofs.Ends.{bad_at}
use Rattle.groups.proofs.Labels.{at_most_bound}
use Rattle.groups.specs.Slices.{MaybeRead}
use Rattle.codec.specs.Taken.{Took, PassSaid, Passes}
use Rattle.inbox.specs.Inbox.{Sized}
use Rattle.codec.proofs.Taking.{took_group, such_took, pair_took, both_none, both_half, both_took, as_none, as_took, SoFar, so_far_start, so_far_more, so_far_stop, so_far_end}
use Rattle.codec.proofs.Passing.{no_label, took_label}
use Rattle.inbox.proofs.Passing.{size_there, part4_pass}
use Rattle.laws.proofs.Labels.{code_in}
use Rattle.codec.specs.Entries.{first_layout}
use Rattle.codec.specs.declared.entry.Paired.{Paired}
use Rattle.codec.specs.declared.entry.Paired.TheVariants as paired
use Rattle.parts.specs.Entries.{EntriesRead, Pair, pair, first_number, index}

-- an array has the numbers f of the entries so far
front_more : {A : Type 0} (f : A → ℕ) (items : List A) (m : A) (a : List ℕ) (i y : ℕ) → i < length a → take i a ≡ map f items
    → y ≡ f m → take (i + 1) (set a i y) ≡ map f (items ++ m ∷ [])
front_more f items m a i y h e q = ap (λ (k : ℕ). take k (set a i y)) (add-one i) ∙ take-suc-set a i y (omega arith) ∙ ap (λ (l : List ℕ). l ++ y ∷ []) e
    ∙ ap (λ (c : ℕ). map f items ++ c ∷ []) q ∙ sym (map_append f items (m ∷ []))

module _ {A : Type 0} (l : Layout A) (f g : A → ℕ) where
  pub record Reading (s : List ℕ) (at count : ℕ) (a b : List ℕ) (i p : ℕ) : Type 0 where
    pub first_room : count ≤ length a
    pub second_room : count ≤ length b
    pub i_le : i ≤ count
    pub items : List A
    pub so_far : SoFar l s at p items
    pub read : length items ≡ i
    pub firsts_are : take i a ≡ map f items
    pub seconds_are : take i b ≡ map g items

  pub reading_start : {s : List ℕ} (at count : ℕ) (a b : List ℕ) → at ≤ length s → count ≤ length a → count ≤ length b → Reading s at count a b 0 at
  reading_start at count a b h n k = record { first_room = n; second_room = k; i_le = omega arith; items = []; so_far = so_far_start l at h; read = refl; firsts_are = refl; seconds_are = refl }

  module _ {s : List ℕ} {at count : ℕ} {a b : List ℕ} {i p : ℕ} (w : Reading s at count a b i p) where
    pub reading_more : {m : A} {y u q : ℕ} → i < count → Took l s p m q → y ≡ f m → u ≡ g m → Reading s at count (set a i y) (set b i u) (i + 1) q
    reading_more {m} {y} {u} {q} h t e d = record {
      first_room = omega (arith, length-set a i y, w.first_room);
      second_room = omega (arith, length-set b i u, w.second_room);
      i_le = omega arith;
      items = w.items ++ m ∷ [];
      so_far = so_far_more l w.so_far t;
      read = let n = w.read in omega (arith, length-append w.items (m ∷ []));
      firsts_are = front_more f w.items m a i y (omega (arith, h, w.first_room)) w.firsts_are e;
      seconds_are = front_more g w.items m b i u (omega (arith, h, w.second_room)) w.seconds_are d;
    }

    -- where entries stand, none is missing
    pub reading_bad : i < count → l.get (drop p s) ≡ none → EntriesRead l f g s at count a b
    unfolding times
    reading_bad h e = record {
      firsts_are = λ ms past t. absurd (none-ne-some _ (sym (so_far_stop l count w.so_far (let n = w.read in omega arith) e) ∙ t.value));
      seconds_are = λ ms past t. absurd (none-ne-some _ (sym (so_far_stop l count w.so_far (let n = w.read in omega arith) e) ∙ t.value));
    }

    pub reading_end : count ≤ i → EntriesRead l f g s at count a b
    unfolding times
    reading_end h =
        let all_read : i ≡ count = (let n = w.i_le in omega arith) in
        let t = so_far_end l count w.so_far (w.read ∙ all_read) in
        record {
          firsts_are = λ ms past u. ap (λ (k : ℕ). take k a) (sym all_read) ∙ w.firsts_are ∙ ap (map f) (same_value (sym t.value ∙ u.value));
          seconds_are = λ ms past u. ap (λ (k : ℕ). take k b) (sym all_read) ∙ w.seconds_are ∙ ap (map g) (same_value (sym t.value ∙ u.value));
        }

-- AN ENTRY of two numbers, by its part
pub no_first : (p : Paired) (s : List ℕ) (at : ℕ) → None ≡ read_at (first_layout p) s at → (pair p).get (drop at s) ≡ none
unfolding part2 part3
no_first paired.Second s at e = as_none _ _ _ (drop at s) (both_none label group (drop at s) (no_label s at e))
no_first paired.Third s at e = as_none _ _ _ (drop at s) (both_none group group (drop at s) (bad_at group s at e))

pub no_index : (p : Paired) (s : List ℕ) (at a q : ℕ) → Some (a, q) ≡ read_at (first_layout p) s at → None ≡ read_at group s q → (pair p).get (drop at s) ≡ none
unfolding part2 part3
no_index paired.Second s at a q e d = as_none _ _ _ (drop at s) (both_half label group (took_label e) (bad_at group s q d))
no_index paired.Third s at a q e d = as_none _ _ _ (drop at s) (both_half group group (took_group e) (bad_at group s q d))

-- the entry, with its two numbers
pub record PairTook (p : Paired) (s : List ℕ) (at a i next : ℕ) : Type 0 where
  pub pair_there : Pair p
  pub took : Took (pair p) s at pair_there next
  pub first_is : a ≡ first_number p pair_there
  pub index_is : i ≡ index p pair_there

pub took_pair : (p : Paired) {s : List ℕ} {at a q i r : ℕ} → Some (a, q) ≡ read_at (first_layout p) s at → Some (i, r) ≡ read_at group s q → PairTook p s at a i r
unfolding part2 part3
took_pair paired.Second {a = a} {i = i} e d = record {
  pair_there = record { label = label_in a; index = i };
  took = as_took _ _ _ (both_took label group (took_label e) (took_group d));
  first_is = sym (code_in a);
  index_is = refl;
}
took_pair paired.Third {a = a} {i = i} e d = record {
  pair_there = record { number = a; index = i };
  took = as_took _ _ _ (both_took group group (took_group e) (took_group d));
  first_is = refl;
  index_is = refl;
}

-- AN ENTRY of part 4
pub labels_are : (n : ℕ) {s : List ℕ} {at past : ℕ} {ls : List Label} → Took (times n label) s at ls past → labels_at s at n ≡ ls
unfolding times labels_at
labels_are n t = rw t.value refl

part4_took : (fs : List (List FaceDart)) {s : List ℕ} {at p index other q next : ℕ} {ls : List Label} → Took (such_that group (λ i. ltb i (size_all fs))) s at index p → Took (at_most 15) s p other q
    → Took (times (size_at index fs) label) s q ls next → Took (part4 fs) s at (record { index = index; other = other; labels = ls }) next
unfolding part4
part4_took fs {index =
    index} a b c = as_took _ _ _ (pair_took (such_that group (λ i. ltb i (size_all fs)))
    (λ i. at_most 15 ⊕ times (size_at i fs) label) a (both_took (at_most 15) (times (size_at index fs) label) b c))

pub entry_no : (fs : List (List FaceDart)) {z s : List ℕ} {at : ℕ} → Passes (part4 fs) s at None → EntryRead fs z s at None
entry_no fs d = record { said = d.said }

module _ (fs : List (List FaceDart)) {z s : List ℕ} {at : ℕ} {r : Option Entry} (w : EntryRead fs z s at r) where
  pub entry_missing : r ≡ None → (part4 fs).get (drop at s) ≡ none
  entry_missing e = subst (EntrySaid fs z s at) e w.said

  pub entry_there : {o : Entry} → r ≡ Some o → EntryThere fs z s at o.index.0 o.other o.labels o.next
  entry_there e = subst (EntrySaid fs z s at) e w.said

module _ (fs : List (List FaceDart)) {s z : List ℕ} {at p index other labels darts n : ℕ} (sized : Sized fs darts z)
    (first_number : Took group s at index p) (h : index < darts) (second : Took (at_most 15) s p other labels)
    (same : n ≡ get_or z index 0) where
  pub entry_half : {a : MaybeRead} → a ≡ None → Passes (times n label) s labels a → EntryRead fs z s at None
  entry_half q d = entry_no fs (part4_pass fs first_number sized h second same (subst (λ (b : MaybeRead). Passes (times n label) s labels b) q d))

  pub entry_yes : {a : MaybeRead} {u next : ℕ} → a ≡ Some (u, next) → Passes (times n label) s labels a
      → EntryRead fs z s at (Some (record { index = record { 0 = index }; other = other; labels = labels; next = next }))
  entry_yes {a} {u} {next} q d = record { said = go (subst (PassSaid (times n label) s labels) q d.said) }
    where
      go : PassSaid (times n label) s labels (Some (u, next)) → EntryThere fs z s at index other labels next
      go d =
          let t : Took (times (get_or z index 0) label) s labels d.0 next = subst (λ (k : ℕ). Took (times k label) s labels d.0 next) same d.1 in
          let l = labels_are (get_or z index 0) t in
          let t' : Took (times (get_or z index 0) label) s labels (labels_at s labels (get_or z index 0)) next =
          subst (λ (ls : List Label). Took (times (get_or z index 0) label) s labels ls next) (sym l) t
          in
          let t'' : Took (times (size_at index fs) label) s labels (labels_at s labels (get_or z index 0)) next =
          subst (λ (k : ℕ). Took (times k label) s labels (labels_at s labels (get_or z index 0)) next) (size_there sized h) t'
          in
          record {
            small = at_most_bound 15 _ other _ second.value;
            there = record { past = next; took = t' };
            took = part4_took fs (such_took group (λ i. ltb i (size_all fs)) first_number (lt-ltb index (size_all fs) (let a = sized.count in omega arith))) second t'';
          }

-- ALL ENTRIES of part 4
pub record Reading4 (fs : List (List FaceDart)) (z s : List ℕ) (at count : ℕ) (indices others places : List ℕ) (i p : ℕ) : Type 0 where
  pub i_le : i ≤ count
  pub items : List Part4
  pub so_far : SoFar (part4 fs) s at p items
  pub read : length items ≡ i
  pub items_are : items ≡ tab (entry_at z s indices others places) i
  pub small : (e : ℕ) → e < i → get_or others e 0 ≤ 15
  pub there : (e : ℕ) → e < i → LabelsThere s (get_or places e 0) (get_or z (get_or indices e 0) 0)

pub reading4_start : (fs : List (List FaceDart)) (z : List ℕ) {s : List ℕ} (at count : ℕ) (indices others places : List ℕ) → at ≤ length s → Reading4 fs z s at count indices others places 0 at
reading4_start fs z at count indices others places h =
    record {
      i_le = omega arith;
      items = [];
      so_far = so_far_start (part4 fs) at h;
      read = refl;
      items_are = refl;
      small = λ e l. absurd (omega arith);
      there = λ e l. absurd (omega arith);
    }

module _ (fs : List (List FaceDart)) {z s : List ℕ} {at count : ℕ} {indices others places : List ℕ} {i p : ℕ} (w : Reading4 fs z s at count indices others places i p) where
  pub reading4_more : {index other labels next : ℕ} → i < count → i < length indices → i < length others → i < length places → EntryThere fs z s p index other labels next
      → Reading4 fs z s at count (set indices i index) (set others i other) (set places i labels) (i + 1) next
  reading4_more {index} {other} {labels} {next} h a b c t = record {
    i_le = omega arith;
    items = w.items ++ entry ∷ [];
    so_far = so_far_more (part4 fs) w.so_far t.took;
    read = let n = w.read in omega (arith, length-append w.items (entry ∷ []));
    items_are =
        ap (λ (l : List Part4). l ++ entry ∷ []) (w.items_are ∙ tab_cong _ _ i (λ e l. sym (entry_same e l)))
        ∙ ap (λ (m : Part4). tab now i ++ m ∷ []) (sym entry_new) ∙ tab_more now i ∙ ap (tab now) (sym (add-one i));
    small = λ e l. ⊎_elim (λ (q : e ≡ i). rw (ap (λ (d : ℕ). get_or (set others i other) d 0) q ∙ other_new) t.small) (λ (q : e < i). rw (kept others other e q) (w.small e q)) (last_or_below l);
    there = λ e l. ⊎_elim
        (λ (q : e ≡ i). rw (q, place_new, index_new) t.there)
        (λ (q : e < i). rw (kept places labels e q, kept indices index e q) (w.there e q))
        (last_or_below l);
  }
    where
      entry : Part4
      entry = record { index = index; other = other; labels = labels_at s labels (get_or z index 0) }

      now : ℕ → Part4
      now = entry_at z s (set indices i index) (set others i other) (set places i labels)

      kept : (l : List ℕ) (y e : ℕ) → e < i → get_or (set l i y) e 0 ≡ get_or l e 0
      kept l y e q = get_or-set_other l i e y 0 (λ d. omega arith)

      index_new : get_or (set indices i index) i 0 ≡ index
      index_new = get_or-set_same indices i index 0 a

      other_new : get_or (set others i other) i 0 ≡ other
      other_new = get_or-set_same others i other 0 b

      place_new : get_or (set places i labels) i 0 ≡ labels
      place_new = get_or-set_same places i labels 0 c

      entry_new : now i ≡ entry
      entry_new = rw (index_new, other_new, place_new) refl

      entry_same : (e : ℕ) → e < i → now e ≡ entry_at z s indices others places e
      entry_same e q = rw (kept indices index e q, kept others other e q, kept places labels e q) refl

  pub reading4_bad : i < count → (part4 fs).get (drop p s) ≡ none → Part4Read fs z s at count indices others places
  unfolding times
  reading4_bad h e = record {
    entries_are = λ ms past t. absurd (none ms past t);
    small = λ ms past t. absurd (none ms past t);
    there = λ ms past t. absurd (none ms past t);
  }
    where
      none : (ms : List Part4) (past : ℕ) → Took (times count (part4 fs)) s at ms past → ⊥
      none ms past t = none-ne-some _ (sym (so_far_stop (part4 fs) count w.so_far (let n = w.read in omega arith) e) ∙ t.value)

  pub reading4_end : count ≤ i → Part4Read fs z s at count indices others places
  unfolding times
  reading4_end h =
      let all_read : i ≡ count = (let n = w.i_le in omega arith) in
      let t = so_far_end (part4 fs) count w.so_far (w.read ∙ all_read) in
      record {
        entries_are = λ ms past u. same_value (sym u.value ∙ t.value) ∙ w.items_are ∙ ap (tab (entry_at z s indices others places)) all_read;
        small = λ ms past u e l. w.small e (omega arith);
        there = λ ms past u e l. w.there e (omega arith);
      }
