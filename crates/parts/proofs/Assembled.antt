-- Question 20 but for part 2: the entries by their arrays, and the words that their faces get. Assumes nothing.
use mathlib.Core.Path.{◌≡◌, refl, sym, ◌∙◌, ap, subst}
use mathlib.Core.Bool.{Bool, true, false, true≢false, not, ◌&&◌}
use mathlib.Core.List.{List, [], ◌++◌, map}
use mathlib.Core.Logic.{◌⊎◌, ⊎_elim, inl, inr}
use Prim.Native.Nat.{ℕ, ◌/◌, ◌+◌, ◌*◌, ◌-◌, ◌≤◌, ◌<◌, ◌^◌}
use native.Mathlib.Omega.{arith}
use lib.Dec.{eqb, ltb}
use lib.ListN.{length, get_or, take, drop, length-map}
use lib.Seq.{get_or-take}
use borrow.Author.Tests.{eqb-true, ltb-true, le-leb, not-true}
use Rattle.model.specs.Lists.{all, mem, ascending, tab, concat_map}
use Rattle.model.specs.Values.{Block, message_darts}
use Rattle.model.specs.Layouts.{Layout, times}
use Rattle.model.specs.Messages.{Part3, Transfer, size_all, part2, part3, part4}
use Rattle.model.specs.Image.{is_critical_word}
use Rattle.model.specs.Arrival.{face_from, indices_right, consecutive, critical_links}
use Rattle.laws.proofs.Tests.{by_cases, and_left, and_right, and_intro, lt_or_ge}
use Rattle.laws.proofs.Maps.{map_at}
use Rattle.laws.proofs.Members.{In, all_in, all_from, append_in, in_append_right, distinct_append, ascending_distinct}
use Rattle.laws.proofs.Tables.{map_tab, mem_place, place_mem, ascending_tab, all_tab}
use Rattle.theory.proofs.LayoutLaws.{get_all_length}
use Rattle.theory.proofs.ImageLaws.{tab_list}
use Rattle.codec.specs.Taken.{Took}
use Rattle.inbox.specs.declared.message.Tail.{Tail}
use Rattle.cells.proofs.Paths.{mem_append}
use Rattle.columns.specs.Columns.{Kind, kind_free, kind_critical}
use Rattle.columns.proofs.Thirds.{with_critical}
use Rattle.arrival.specs.Sides.{Segments}
use Rattle.arrival.proofs.SegmentLaws.{segments}
use Rattle.parts.specs.Entries.{EntriesRead, Part4Read, entry_at, labels_at, LabelsThere, code2, index2, number3, index3, index4, other4}
use Rattle.parts.specs.Indices.{starts_at, part_fits, indices_fit}
use Rattle.parts.specs.Numbers.{follows_at, neither_at}
use Rattle.parts.specs.Faces.{Spans, Faced, numbered_code, code_at}
use Rattle.parts.specs.Segments.{face_links}
use Rattle.parts.specs.Critical.{few_entries, entries_fit, Arrives, rest_right}
use Rattle.parts.proofs.FaceStarts.{or_first, or_second, face_is}
use Rattle.parts.proofs.IndexLaws.{front_tab, indices_are, indices_few}
use Rattle.parts.proofs.NumberLaws.{consecutive_is, neither_is}
use Rattle.parts.proofs.Ranges.{took_back, took_small, took_count, took_numbers}
use Rattle.parts.proofs.FaceLinks.{part3_is, part4_is, critical_are}
use Rattle.parts.proofs.FreshLabels.{Words}

took_length : {A : Type 0} (l : Layout A) (n : ℕ) {s : List ℕ} {at past : ℕ} {xs : List A} → Took (times n l) s at xs past → length xs ≡ n
unfolding times
took_length l n {s} {at} {past} {xs} t = get_all_length l n (drop at s) xs (drop past s) t.value

-- the indices of a part that fits
module _ {b z : List ℕ} {k : ℕ} (segs : Segments b z k) (few : k ≤ message_darts) (others idx : List ℕ) (c : ℕ) (n : c ≤ length idx) (t : part_fits b k others (take c idx) ≡ true) where
  abbrev at : ℕ → ℕ
  at e = get_or idx e 0

  t' : part_fits b k others (tab at c) ≡ true
  t' = ap (part_fits b k others) (sym (front_tab idx c n)) ∙ t

  pub all_start : all (starts_at b k) (tab at c) ≡ true
  all_start = and_left (all (starts_at b k) (tab at c)) _ (and_left (all (starts_at b k) (tab at c) && ascending (tab at c)) _ t')

  pub up : ascending (tab at c) ≡ true
  up = and_right (all (starts_at b k) (tab at c)) _ (and_left (all (starts_at b k) (tab at c) && ascending (tab at c)) _ t')

  pub not_others : all (λ i. not (mem i others)) (tab at c) ≡ true
  not_others = and_right (all (starts_at b k) (tab at c) && ascending (tab at c)) _ t'

  pub below : (e : ℕ) → e < c → at e < k
  below e h = ltb-true (at e) k (and_left (ltb (at e) k) _ (all_tab (starts_at b k) at c all_start e h))

  pub start : (e : ℕ) → e < c → get_or b (at e) 0 ≡ at e
  start e h = eqb-true (get_or b (at e) 0) (at e) (and_right (ltb (at e) k) _ (all_tab (starts_at b k) at c all_start e h))

  pub spans : Spans z idx k c
  spans = record {
    within = λ e h. let w = segs.end_within (at e) (below e h) in let s = start e h in omega arith;
    below = λ e h. let w = below e h in omega arith;
    apart = λ d e l h. apart d e l h;
  }
    where
      apart : (d e : ℕ) → d < e → e < c → at d + get_or z (at d) 0 ≤ at e
      apart d e l h = ⊎_elim
          (λ (u : at e < at d + get_or z (at d) 0).
          let s = start d (omega arith) in
          let a = ascending_tab at c up d e l h in
          let r = segs.same_start (at d) (below d (omega arith)) (at e) (omega arith) (omega arith) in
          let q = start e h in
          absurd (omega (arith, r, q, s, a)))
          (λ (u : at d + get_or z (at d) 0 ≤ at e). u)
          (lt_or_ge (at e) (at d + get_or z (at d) 0))

  -- a dart of a face that starts elsewhere lies outside
  pub outside : (q : ℕ) → q < k → mem (get_or b q 0) (tab at c) ≡ false → (e : ℕ) → e < c → (q < at e) ⊎ (at e + get_or z (at e) 0 ≤ q)
  outside q h m e l = ⊎_elim
      (λ (u : q < at e). inl u)
      (λ (u : at e ≤ q). ⊎_elim
      (λ (v : q < at e + get_or z (at e) 0).
      let s = start e l in
      let r = segs.same_start (at e) (below e l) q (omega (arith, s, u)) (omega (arith, s, v)) in
      absurd (true≢false (sym (mem_place at c e (get_or b q 0) l (sym (r ∙ s))) ∙ m)))
      (λ (v : at e + get_or z (at e) 0 ≤ q). inr v)
      (lt_or_ge q (at e + get_or z (at e) 0)))
      (lt_or_ge q (at e))

  -- and a dart of one of them inside
  pub inside : (q : ℕ) → q < k → mem (get_or b q 0) (tab at c) ≡ true → (e : ℕ) × (e < c) × (j : ℕ) × (j < get_or z (at e) 0) × (q ≡ at e + j)
  inside q h m =
      let w = place_mem at c (get_or b q 0) m in
      let low = segs.start_le q h in
      let high = segs.end_above q h in
      let same = w.2 in
      let size : get_or z (at w.0) 0 ≡ get_or z q 0 = segs.same_size q h (at w.0) (omega arith) (omega arith) in
      (w.0, w.1, q - at w.0, omega arith, omega arith)

  -- the start of a dart inside
  pub start_of : (e : ℕ) → e < c → (j : ℕ) → j < get_or z (at e) 0 → (at e + j < k) × (get_or b (at e + j) 0 ≡ at e)
  start_of e l j h =
      let s = start e l in let w = segs.end_within (at e) (below e l) in
      (omega (arith, s, w, h), segs.same_start (at e) (below e l) (at e + j) (omega (arith, s)) (omega (arith, s, h)) ∙ s)

module _ {t : Transfer} {v x b z s : List ℕ} {k from to : ℕ} {l : Tail} (w : Arrives t v x b z s k from to l) where
  -- TOO MANY ENTRIES
  pub too_many : few_entries l k ≡ false → (block : Block) → false ≡ rest_right block t
  too_many e block = by_cases (indices_right t)
      (λ u. absurd (true≢false (sym (fits u) ∙ e)))
      (λ u. rw u refl)
    where
      fits : indices_right t ≡ true → few_entries l k ≡ true
      fits u =
          let r =
          indices_few b (size_all t.faces) (map (λ m. m.index) t.part2) (map (λ m. m.index) t.part3)
          (map (λ m. m.index) t.part4) (sym (indices_are t w.inside w.full) ∙ u)
          in
          let d = w.darts in
          let a = r.0 in
          let c = r.1 in
          let f = r.2 in
          and_intro (and_intro (le-leb l.count2 k (omega (arith, d, a, length-map t.part2 index2, took_length part2 l.count2 w.part2_in)))
          (le-leb l.count3 k (omega (arith, d, c, length-map t.part3 index3, took_length part3 l.count3 w.part3_in))))
          (le-leb l.count4 k (omega (arith, d, f, length-map t.part4 index4, took_length (part4 t.faces) l.count4 w.part4_in)))

  -- THE ENTRIES
  module _ {codes i2 numbers i3 i4 others places : List ℕ}
      (read2 : EntriesRead part2 code2 index2 s l.part2 l.count2 codes i2)
      (read3 : EntriesRead part3 number3 index3 s l.part3 l.count3 numbers i3)
      (read4 : Part4Read t.faces z s l.part4 l.count4 i4 others places) (n3 : l.count3 ≤ length i3) (n4 : l.count4 ≤ length i4) (o4 : l.count4 ≤ length others) where
    fourth : t.part4 ≡ tab (entry_at z s i4 others places) l.count4
    fourth = read4.entries_are t.part4 w.past4 w.part4_in

    pub indices4 : map (λ m. m.index) t.part4 ≡ take l.count4 i4
    indices4 = ap (map (λ m. m.index)) fourth ∙ map_tab index4 (entry_at z s i4 others places) l.count4 ∙ sym (front_tab i4 l.count4 (omega arith))

    others4 : take l.count4 others ≡ map other4 t.part4
    others4 = front_tab others l.count4 (omega arith) ∙ sym (ap (map other4) fourth ∙ map_tab other4 (entry_at z s i4 others places) l.count4)

    pub indices_told : indices_right t ≡ indices_fit b k (take l.count2 i2) (take l.count3 i3) (take l.count4 i4)
    indices_told = indices_are t w.inside w.full
        ∙ ap (λ (d : ℕ). indices_fit b d (map (λ m. m.index) t.part2) (map (λ m. m.index) t.part3) (map (λ m. m.index) t.part4)) (sym w.darts)
        ∙ three (sym (read2.seconds_are t.part2 w.past2 w.part2_in)) (sym (read3.seconds_are t.part3 w.past3 w.part3_in)) indices4
      where
        three : {a c d e f g : List ℕ} → a ≡ c → d ≡ e → f ≡ g → indices_fit b k a d f ≡ indices_fit b k c e g
        three {a} {c} {d} {e} {f} {g} p q r = ap (λ (y : List ℕ). indices_fit b k y d f) p ∙ ap (λ (y : List ℕ). indices_fit b k c y f) q ∙ ap (λ (y : List ℕ). indices_fit b k c e y) r

    numbers_told : consecutive t.part3 ≡ all (follows_at numbers) (tab (λ e. e) (l.count3 - 1))
    numbers_told =
        let n = took_length part3 l.count3 w.part3_in in
        consecutive_is numbers t.part3 (ap (λ (c : ℕ). take c numbers) n ∙ read3.firsts_are t.part3 w.past3 w.part3_in) ∙ ap (λ (c : ℕ). all (follows_at numbers) (tab (λ e. e) (c - 1))) n

    others_told : all (λ k. not (eqb k.other t.from) && not (eqb k.other t.to)) t.part4 ≡ all (neither_at others from to) (tab (λ e. e) l.count4)
    others_told =
        let n = took_length (part4 t.faces) l.count4 w.part4_in in
        neither_is others t.from t.to t.part4 (omega arith) (ap (λ (c : ℕ). take c others) n ∙ others4) ∙ ap (λ (c : ℕ). all (neither_at others t.from t.to) (tab (λ e. e) c)) n
        ∙ ap (λ (o : ℕ). all (neither_at others o t.to) (tab (λ e. e) l.count4)) (sym w.from_is) ∙ ap (λ (o : ℕ). all (neither_at others from o) (tab (λ e. e) l.count4)) (sym w.to_is)

    pub entries_told : (indices_right t && consecutive t.part3
        && all (λ k. not (eqb k.other t.from) && not (eqb k.other t.to)) t.part4)
        ≡ entries_fit b k from to i2 l.count2 i3 numbers l.count3 i4 others l.count4
    entries_told = three indices_told numbers_told others_told
      where
        three : {a c d e f g : Bool} → a ≡ c → d ≡ e → f ≡ g → (a && d && f) ≡ (c && e && g)
        three p q r = rw (p, q, r)

    -- where the indices fit
    module _ (few : k ≤ message_darts) (ok : indices_fit b k (take l.count2 i2) (take l.count3 i3) (take l.count4 i4) ≡ true) where
      segs : Segments b z k
      segs = subst (Segments b z) (sym w.darts) (segments v x b z t.faces w.inside)

      fits3 : part_fits b k (take l.count2 i2) (take l.count3 i3) ≡ true
      fits3 = and_right (part_fits b k [] (take l.count2 i2)) _ (and_left (part_fits b k [] (take l.count2 i2) && part_fits b k (take l.count2 i2) (take l.count3 i3)) _ ok)

      fits4 : part_fits b k (take l.count2 i2 ++ take l.count3 i3) (take l.count4 i4) ≡ true
      fits4 = and_right (part_fits b k [] (take l.count2 i2) && part_fits b k (take l.count2 i2) (take l.count3 i3)) _ ok

      room3 : l.count3 ≤ length i3
      room3 = n3

      room4 : l.count4 ≤ length i4
      room4 = n4

      pub spans3 : Spans z i3 k l.count3
      spans3 = spans segs few (take l.count2 i2) i3 l.count3 room3 fits3

      pub spans4 : Spans z i4 k l.count4
      spans4 = spans segs few (take l.count2 i2 ++ take l.count3 i3) i4 l.count4 room4 fits4

      pub numbers_small : (e : ℕ) → e < l.count3 → get_or numbers e 0 < 2 ^ 32
      numbers_small e h =
          subst (λ (y : ℕ). y < 2 ^ 32)
          (ap (λ (m : List ℕ). get_or m e 0) (sym (read3.firsts_are t.part3 w.past3 w.part3_in))
          ∙ get_or-take l.count3 numbers e 0 h) (took_numbers l.count3 w.part3_in e)

      pub others_small : (e : ℕ) → e < l.count4 → get_or others e 0 ≤ 15
      others_small = read4.small t.part4 w.past4 w.part4_in

      pub labels_there : (e : ℕ) → e < l.count4 → LabelsThere s (get_or places e 0) (get_or z (get_or i4 e 0) 0)
      labels_there = read4.there t.part4 w.past4 w.part4_in

      abbrev starts3 : List ℕ
      starts3 = tab (λ e. get_or i3 e 0) l.count3

      abbrev starts4 : List ℕ
      starts4 = tab (λ e. get_or i4 e 0) l.count4

      -- a face of part 3 is none of part 4
      apart3 : (y : ℕ) → In y starts3 → mem y starts4 ≡ false
      apart3 y h = by_cases (mem y starts4)
          (λ u. absurd (true≢false (sym (in_append_right y (take l.count2 i2) (take l.count3 i3) (subst (λ (m : List ℕ). In y m) (sym (front_tab i3 l.count3 room3)) h))
          ∙ not-true _
          (all_in (λ i. not (mem i (take l.count2 i2 ++ take l.count3 i3))) starts4 (not_others segs few (take l.count2 i2 ++ take l.count3 i3) i4 l.count4 room4 fits4) y u))))
          (λ u. u)

      -- words written for part 3, then for part 4
      module _ {f g : ℕ → ℕ → ℕ} {a a' a'' : List ℕ} (w3 : Faced z i3 l.count3 f a a') (w4 : Faced z i4 l.count4 g a' a'') where
        word_else : (q : ℕ) → q < k → mem (get_or b q 0) starts3 ≡ false → mem (get_or b q 0) starts4 ≡ false → get_or a'' q 0 ≡ get_or a q 0
        word_else q h m3 m4 =
            w4.outside q (outside segs few (take l.count2 i2 ++ take l.count3 i3) i4 l.count4 room4 fits4 q h m4)
            ∙ w3.outside q (outside segs few (take l.count2 i2) i3 l.count3 room3 fits3 q h m3)

        word3 : (e : ℕ) → e < l.count3 → (j : ℕ) → j < get_or z (get_or i3 e 0) 0 → get_or a'' (get_or i3 e 0 + j) 0 ≡ f e j
        word3 e h j u =
            let r = start_of segs few (take l.count2 i2) i3 l.count3 room3 fits3 e h j u in
            let m : mem (get_or b (get_or i3 e 0 + j) 0) starts4 ≡ false = ap (λ (y : ℕ). mem y starts4) r.1 ∙ apart3 (get_or i3 e 0) (mem_place (λ e. get_or i3 e 0) l.count3 e (get_or i3 e 0) h refl) in
            w4.outside (get_or i3 e 0 + j) (outside segs few (take l.count2 i2 ++ take l.count3 i3) i4 l.count4 room4 fits4 (get_or i3 e 0 + j) r.0 m) ∙ w3.inside e h j u

        word4 : (e : ℕ) → e < l.count4 → (j : ℕ) → j < get_or z (get_or i4 e 0) 0 → get_or a'' (get_or i4 e 0 + j) 0 ≡ g e j
        word4 = w4.inside

        -- what holds of the words of both parts holds of a dart on one of their faces
        on_faces : (P : ℕ → Type 0) → ((e j : ℕ) → e < l.count3 → j < get_or z (get_or i3 e 0) 0 → P (f e j))
            → ((e j : ℕ) → e < l.count4 → j < get_or z (get_or i4 e 0) 0 → P (g e j)) → (q : ℕ) → q < k
            → In (get_or b q 0) (starts3 ++ starts4) → P (get_or a'' q 0)
        on_faces P p3 p4 q h i = ⊎_elim
            (λ (u : In (get_or b q 0) starts3). let r = inside segs few (take l.count2 i2) i3 l.count3 room3 fits3 q h u in
            subst P (sym (ap (λ (y : ℕ). get_or a'' y 0) r.4 ∙ word3 r.0 r.1 r.2 r.3))
            (p3 r.0 r.2 r.1 r.3))
            (λ (u : In (get_or b q 0) starts4). let r = inside segs few (take l.count2 i2 ++ take l.count3 i3) i4 l.count4
            room4 fits4 q h u in subst P (sym (ap (λ (y : ℕ). get_or a'' y 0) r.4 ∙ word4 r.0 r.1 r.2 r.3))
            (p4 r.0 r.2 r.1 r.3))
            (append_in (get_or b q 0) starts3 starts4 i)

        pub off_faces : (q : ℕ) → q < k → mem (get_or b q 0) (starts3 ++ starts4) ≡ false → get_or a'' q 0 ≡ get_or a q 0
        off_faces q h m = word_else q h (or_first _ _ (sym (mem_append (get_or b q 0) starts3 starts4) ∙ m)) (or_second (mem (get_or b q 0) starts3) _ (sym (mem_append (get_or b q 0) starts3 starts4) ∙ m))

      module _ {kinds kinds' kinds'' links links' links'' : List ℕ} (from_small : from ≤ 15) (zero-kinds : (q : ℕ) → get_or kinds q 0 ≡ 0) (zero-links : (q : ℕ) → get_or links q 0 ≡ 0)
          (k3 : Faced z i3 l.count3 (λ e j. 2 + 4 * from) kinds kinds') (k4 : Faced z i4 l.count4 (λ e j. 2 + 4 * get_or others e 0) kinds' kinds'')
          (l3 : Faced z i3 l.count3 (numbered_code from numbers) links links') (l4 : Faced z i4 l.count4 (λ e. code_at s (get_or places e 0) (get_or z (get_or i4 e 0) 0)) links' links'') where
        z_few : (i : ℕ) → i < k → get_or b i 0 ≡ i → get_or z i 0 ≤ message_darts
        z_few i h e = let r = segs.end_within i h in omega arith

        pub links_small : (q : ℕ) → q < k → get_or links'' q 0 < 2 ^ 48
        links_small q h = by_cases (mem (get_or b q 0) (starts3 ++ starts4))
            (λ u. on_faces l3 l4 (λ y. y < 2 ^ 48)
            (λ e j c d. let r = numbers_small e c in let y = z_few (get_or i3 e 0)
            (below segs few (take l.count2 i2) i3 l.count3 room3 fits3 e c)
            (start segs few (take l.count2 i2) i3 l.count3 room3 fits3 e c) in omega arith)
            (λ e j c d. took_small (get_or z (get_or i4 e 0) 0) (labels_there e c).took j) q h u)
            (λ u. rw (off_faces l3 l4 q h u ∙ zero-links q) (omega arith))

        pub words : Words b z kinds'' links'' k (starts3 ++ starts4)
        words = record {
          segs = segs;
          starts = all_from (starts_at b k) (starts3 ++ starts4) (λ i h. ⊎_elim
              (λ (u : In i starts3). all_in (starts_at b k) starts3 (all_start segs few (take l.count2 i2) i3 l.count3 room3 fits3) i u)
              (λ (u : In i starts4). all_in (starts_at b k) starts4 (all_start segs few (take l.count2 i2 ++ take l.count3 i3) i4 l.count4 room4 fits4) i u)
              (append_in i starts3 starts4 h));
          once =
              distinct_append starts3 starts4
              (ascending_distinct starts3 (up segs few (take l.count2 i2) i3 l.count3 room3 fits3))
              (ascending_distinct starts4 (up segs few (take l.count2 i2 ++ take l.count3 i3) i4 l.count4 room4 fits4))
              apart3;
          kind_in = λ q h m. on_faces k3 k4 (λ y. is_critical_word y ≡ true) (λ e j c d. with_critical _ from refl) (λ e j c d. with_critical _ (get_or others e 0) refl) q h m;
          kind_out = λ q h m. ap is_critical_word (off_faces k3 k4 q h m ∙ zero-kinds q);
          small = links_small;
        }

        kinds_small : (q : ℕ) → q < k → In (get_or b q 0) (starts3 ++ starts4) → get_or kinds'' q 0 / 4 < 16
        kinds_small = on_faces k3 k4 (λ y. y / 4 < 16) (λ e j c d. omega (arith, from_small)) (λ e j c d. let r = others_small e c in omega (arith, r))

        -- every dart has words that it may have
        pub words_right : (q : ℕ) → q < k → Kind (get_or kinds'' q 0) (get_or links'' q 0)
        words_right q h = by_cases (mem (get_or b q 0) (starts3 ++ starts4))
            (λ u. kind_critical (words.kind_in q h u) (kinds_small q h u) (links_small q h))
            (λ u. kind_free (off_faces k3 k4 q h u ∙ zero-kinds q)
            (off_faces l3 l4 q h u ∙ zero-links q))

        third_tab : t.part3 ≡ tab (λ e. record { number = get_or numbers e 0; index = get_or i3 e 0 }) l.count3
        third_tab =
            let n = took_length part3 l.count3 w.part3_in in
            sym (ap (tab (λ e. record { number = get_or numbers e 0; index = get_or i3 e 0 })) (sym n) ∙ tab_list none t.part3 (λ e. record { number = get_or numbers e 0; index = get_or i3 e 0 })
            (λ e h. let a : get_or numbers e 0 ≡ (get_or t.part3 e none).number = sym (get_or-take l.count3 numbers e 0 (omega (arith, h, n))) ∙ ap (λ (m : List ℕ). get_or m e 0) (read3.firsts_are t.part3 w.past3 w.part3_in) ∙ map_at number3 none 0 t.part3 e h in
            let c : get_or i3 e 0 ≡ (get_or t.part3 e none).index =
            sym (get_or-take l.count3 i3 e 0 (omega (arith, h, n)))
            ∙ ap (λ (m : List ℕ). get_or m e 0) (read3.seconds_are t.part3 w.past3 w.part3_in)
            ∙ map_at index3 none 0 t.part3 e h
            in
            λ i. record { number = a i; index = c i }))
          where
            none : Part3
            none = record { number = 0; index = 0 }

        -- the links of parts 3 and 4, whatever the block's serials are
        pub links_told : (serials : ℕ → ℕ) → critical_links t ≡ concat_map (face_links serials x z kinds'' links'') (starts3 ++ starts4)
        links_told serials = critical_are t (face_links serials x z kinds'' links'') (λ e. record { number = get_or numbers e 0; index = get_or i3 e 0 }) (λ e. get_or i3 e 0) l.count3
            (entry_at z s i4 others places) (λ e. get_or i4 e 0) l.count4 third_tab fourth
            (λ e h. part3_is t serials x z kinds'' links'' (get_or i3 e 0) (face3 e h) (get_or numbers e 0) (numbers_small e h)
            (let r = z_few (get_or i3 e 0) (below segs few (take l.count2 i2) i3 l.count3 room3 fits3 e h) (start segs few (take l.count2 i2) i3 l.count3 room3 fits3 e h) in omega arith)
            (λ j u. word3 k3 k4 e h j u ∙ ap (λ (o : ℕ). 2 + 4 * o) w.from_is) (λ j u. word3 l3 l4 e h j u ∙ ap (λ (o : ℕ). (o * 2 ^ 32 + get_or numbers e 0) * 4096 + j) w.from_is))
            (λ e h. part4_is t serials x z kinds'' links'' (get_or i4 e 0) (face4 e h) (get_or others e 0)
            (labels_at s (get_or places e 0) (get_or z (get_or i4 e 0) 0))
            (took_count (get_or z (get_or i4 e 0) 0) (labels_there e h).took)
            (took_back (get_or z (get_or i4 e 0) 0) (labels_there e h).took)
            (λ j u. word4 k3 k4 e h j u) (λ j u. word4 l3 l4 e h j u))
          where
            face3 : (e : ℕ) → e < l.count3 → face_from t (get_or i3 e 0) ≡ tab (λ j. get_or x (get_or i3 e 0 + j) 0) (get_or z (get_or i3 e 0) 0)
            face3 e h =
                face_is v x b z t w.inside w.full (get_or i3 e 0)
                (let r = below segs few (take l.count2 i2) i3 l.count3 room3 fits3 e h in let d = w.darts in omega arith)
                (start segs few (take l.count2 i2) i3 l.count3 room3 fits3 e h)

            face4 : (e : ℕ) → e < l.count4 → face_from t (get_or i4 e 0) ≡ tab (λ j. get_or x (get_or i4 e 0 + j) 0) (get_or z (get_or i4 e 0) 0)
            face4 e h =
                face_is v x b z t w.inside w.full (get_or i4 e 0)
                (let r = below segs few (take l.count2 i2 ++ take l.count3 i3) i4 l.count4 room4 fits4 e h in let d = w.darts in omega arith)
                (start segs few (take l.count2 i2 ++ take l.count3 i3) i4 l.count4 room4 fits4 e h)

pub three_tests : {a c d e f g : Bool} → a ≡ c → d ≡ e → f ≡ g → (a && d && f) ≡ (c && e && g)
three_tests p q r = rw (p, q, r)
