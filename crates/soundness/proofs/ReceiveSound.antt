-- Any transfer that passes the questions leaves a sound block. Assumes nothing.
use mathlib.Core.Path.{◌≡◌, refl, sym, ◌∙◌, ap, subst}
use mathlib.Core.Logic.{inl, inr, ◌≢◌}
use mathlib.Core.Bool.{true, false, not}
use mathlib.Core.List.{List, [], ◌∷◌, ◌++◌, map, append_assoc, append-nil}
use Prim.Native.Nat.{ℕ, suc, ◌+◌, ◌<◌, ◌≤◌, ◌^◌}
use native.Mathlib.Omega.{arith}
use lib.ListN.{length}
use borrow.Author.Tests.{le-leb, lt-ltb, not-true}
use Rattle.model.specs.Lists.{all, collect, zip, concat_map, mem, distinct, first_no}
use Rattle.model.specs.Values.{Label, Third, critical, Dart, Block, Limits, code, label_of}
use Rattle.model.specs.Cells.{next_in, third_at, serials, labels}
use Rattle.model.specs.Sound.{third_in_range, label_right, labels_right, sound_block}
use Rattle.model.specs.Messages.{Part2, Part3, Part4, Transfer, transfer, a_transfer}
use Rattle.model.specs.Links.{Link, relink, label_links}
use Rattle.model.specs.Arrival.{new_darts, face_from, part2_links, part3_links, part4_links, critical_links, transfer_links, insert_all, received, part2_apart, label_new, labels_new, receive_checks}
use Rattle.laws.proofs.Members.{In, in_append_left, in_append_right, distinct_append, distinct_right}
use Rattle.laws.proofs.Tests.{and_intro, and_left, and_right, not_equal}
use Rattle.theory.proofs.ImageLaws.{parts_of}
use Rattle.soundness.proofs.ByDarts.{point_of, Good}
use Rattle.soundness.proofs.Fits.{LabelFits, Fits, fits}
use Rattle.soundness.proofs.Joined.{insert_all_map}
use Rattle.soundness.proofs.Linking.{unlinked_sound, Stage, LabelPart, label_parts, sew_parts, first_stage}
use Rattle.soundness.proofs.Passed.{Passed, passed, indices2, indices3, indices4}
use Rattle.soundness.proofs.Rows.{Elem, elem_left, elem_right, elem_concat, map_elem, in_elem, elem_key, all_elem, elem_collect, codes, codes_append}
use Rattle.soundness.proofs.Relinked.{after, after_append, same_serial, relinked_sound}
use Rattle.soundness.proofs.Starts.{starts, start_size, start_few}

-- LINKS OF PARTS 3 AND 4
label_keys : (o mk nb pos : ℕ) (f : List ℕ) → map (λ k. k.dart) (label_links (λ x. x) o mk nb pos f) ≡ f
unfolding label_links
label_keys o mk nb pos [] = refl
label_keys o mk nb pos (x ∷ f) = ap (λ (l : List ℕ). x ∷ l) (label_keys o mk nb (suc pos) f)

label_elem : (o mk nb pos : ℕ) (f : List ℕ) (k : Link) → Elem k (label_links (λ x. x) o mk nb pos f)
    → (q : ℕ) × (q < pos + length f) × (k.third ≡ critical o (record { maker = mk; number = nb; position = q }))
unfolding label_links
label_elem o mk nb pos [] k h = absurd h
label_elem o mk nb pos (x ∷ f) k (inl e) = (pos, omega arith, ap (λ (k : Link). k.third) e)
label_elem o mk nb pos (x ∷ f) k (inr h) = let r = label_elem o mk nb (suc pos) f k h in (r.0, omega (arith, r.1), r.2)

abbrev part4_link : ℕ → ℕ × Label → Link
part4_link o p = record { dart = p.0; third = critical o p.1 }

zip_keys : (o : ℕ) (f : List ℕ) (ls : List Label) → length f ≡ length ls → map (λ k. k.dart) (map (part4_link o) (zip f ls)) ≡ f
zip_keys o [] ls e = refl
zip_keys o (x ∷ f) [] e = absurd (omega arith)
zip_keys o (x ∷ f) (l ∷ ls) e = ap (λ (r : List ℕ). x ∷ r) (zip_keys o f ls (omega arith))

zip_elem : (f : List ℕ) (ls : List Label) (p : ℕ × Label) → Elem p (zip f ls) → Elem p.1 ls
zip_elem [] ls p h = absurd h
zip_elem (x ∷ f) [] p h = absurd h
zip_elem (x ∷ f) (l ∷ ls) p (inl e) = inl (ap (λ (q : ℕ × Label). q.1) e)
zip_elem (x ∷ f) (l ∷ ls) p (inr h) = inr (zip_elem f ls p h)

critical_range : (o : ℕ) (l : Label) → o ≤ 15 → LabelFits l → third_in_range (critical o l) ≡ true
critical_range o l h F =
    and_intro
    (and_intro (and_intro (le-leb o 15 h) (le-leb l.maker 15 F.maker_small)) (lt-ltb l.number (2 ^ 32) F.number_small))
    (le-leb l.position 4095 F.position_small)

module _ (lim : Limits) (b : Block) (t : Transfer) (small : lim.block_darts ≤ 4096) (s : sound_block lim b ≡ true) (F : Fits t) (P : Passed lim b t) where
  abbrev ds : List Dart
  ds = b.darts

  abbrev new_labels : List Label
  new_labels = collect (λ k. label_of k.third) (critical_links t)

  new_label : (l : Label) → Elem l new_labels → label_new b l ≡ true
  unfolding labels_new
  new_label = all_elem (label_new b) new_labels (and_left (all (label_new b) new_labels) _ P.labels_fresh)

  own_third : (k : Link) → Elem k (critical_links t) → (o : ℕ) (l : Label) → k.third ≡ critical o l → o ≢ b.number → label_right b.number b.counter k.third ≡ true
  unfolding label_new
  own_third k h o l e ne = rw e (and_intro (not_equal o b.number ne)
      (and_right (not (mem (code l) (map code (labels ds)))) _ (new_label l (elem_collect (λ k. label_of k.third) k l (critical_links t) h (ap label_of e)))))

  third_part : (m : Part3) → Elem m t.part3 → LabelPart lim b t small s F P m.index (part3_links t m)
  unfolding part3_links critical_links
  third_part m h = record {
    a_start = a_start;
    keys = label_keys t.from t.from m.number 0 face;
    other = t.from;
    is_critical = λ k e. let r = label_elem t.from t.from m.number 0 face k e in (_, r.2);
    range = λ k e.
        let r = label_elem t.from t.from m.number 0 face k e in
        let few = start_few t P.ordered P.once m.index a_start in
        let total = F.few_darts in
        let low : r.0 ≤ 4095 = omega (arith, r.1) in
        subst (λ (u : Third). third_in_range u ≡ true) (sym r.2)
        (critical_range t.from _ F.from_small (record { maker_small = F.from_small; number_small = F.part3_small m h; position_small = low }));
    own_right = λ k e. let r = label_elem t.from t.from m.number 0 face k e in
        own_third k (elem_left k (concat_map (part3_links t) t.part3) (concat_map (part4_links t) t.part4) (elem_concat (part3_links t) k m t.part3 h e)) t.from _ r.2 P.from_other;
  }
    where
      face : List ℕ
      face = face_from t m.index

      a_start : In m.index (starts t)
      a_start = P.index_starts m.index (in_append_right m.index (indices2 t) _ (in_append_left m.index (indices3 t) (indices4 t) (elem_key (λ (m : Part3). m.index) m t.part3 h)))

  fourth_part : (m : Part4) → Elem m t.part4 → LabelPart lim b t small s F P m.index (part4_links t m)
  unfolding part4_links critical_links
  fourth_part m h = record {
    a_start = a_start;
    keys = zip_keys m.other (face_from t m.index) m.labels (sym (start_size t P.ordered P.once m.index a_start) ∙ sym (F.part4_fits m h).as_many);
    other = m.other;
    is_critical = λ k e. let r = of k e in (r.0.1, ap (λ (k : Link). k.third) r.2);
    range = λ k e. let r = of k e in
        subst (λ (u : Third). third_in_range u ≡ true) (sym (ap (λ (k : Link). k.third) r.2))
        (critical_range m.other r.0.1 (F.part4_fits m h).other_small ((F.part4_fits m h).labels_fit r.0.1 (zip_elem (face_from t m.index) m.labels r.0 r.1)));
    own_right = λ k e. let r = of k e in
        own_third k (elem_right k (concat_map (part3_links t) t.part3) (concat_map (part4_links t) t.part4) (elem_concat (part4_links t) k m t.part4 h e)) m.other r.0.1
        (ap (λ (k : Link). k.third) r.2) (λ q. P.others m h (q ∙ sym P.to_here));
  }
    where
      a_start : In m.index (starts t)
      a_start = P.index_starts m.index (in_append_right m.index (indices2 t) _ (in_append_right m.index (indices3 t) (indices4 t) (elem_key (λ (m : Part4). m.index) m t.part4 h)))

      of : (k : Link) → Elem k (map (part4_link m.other) (zip (face_from t m.index) m.labels))
          → (p : ℕ × Label) × Elem p (zip (face_from t m.index) m.labels) × (k ≡ part4_link m.other p)
      of k e = map_elem (part4_link m.other) k (zip (face_from t m.index) m.labels) e

  -- ALL STAGES
  abbrev links3 : List Link
  links3 = concat_map (part3_links t) t.part3

  abbrev links4 : List Link
  links4 = concat_map (part4_links t) t.part4

  abbrev old_codes : List ℕ
  old_codes = codes (λ d. d.third) ds

  codes_once : distinct (codes (λ k. k.third) links3 ++ (codes (λ k. k.third) links4 ++ old_codes)) ≡ true
  unfolding labels_new critical_links
  codes_once =
      subst (λ (l : List ℕ). distinct l ≡ true)
      (ap (λ (l : List ℕ). l ++ old_codes) (codes_append (λ k. k.third) links3 links4)
      ∙ append_assoc (codes (λ k. k.third) links3) (codes (λ k. k.third) links4) old_codes)
      (distinct_append (codes (λ k. k.third) (links3 ++ links4)) old_codes (and_right (all (label_new b) new_labels) _ P.labels_fresh) old_once not_old)
    where
      old_once : distinct old_codes ≡ true
      old_once = unfold labels_right labels in (and_right (all (λ d. label_right b.number b.counter d.third) ds) _ (parts_of lim b s).labels)

      not_old : (v : ℕ) → In v (map code new_labels) → mem v old_codes ≡ false
      not_old v h = unfold label_new labels in (
          let r = map_elem code v new_labels (in_elem v (map code new_labels) h) in
          rw r.2 (not-true (mem (code r.0) old_codes) (and_left (not (mem (code r.0) old_codes)) _ (new_label r.0 r.1))))

  abbrev start_third : ℕ → Third
  start_third = third_at (insert_all (new_darts t) b.darts)

  indices34 : distinct (indices3 t ++ indices4 t) ≡ true
  indices34 = distinct_right (indices2 t) (indices3 t ++ indices4 t) P.indices_once

  stage4 : Stage lim b t small s F P (after links4 start_third) (indices4 t) [] (codes (λ k. k.third) links4 ++ old_codes)
  stage4 = subst (λ (l : List ℕ). Stage lim b t small s F P (after links4 start_third) l [] (codes (λ k. k.third) links4 ++ old_codes)) (append-nil (indices4 t))
      (label_parts lim b t small s F P (λ m. m.index) (part4_links t) t.part4 fourth_part start_third [] old_codes (first_stage lim b t small s F P)
      (rw (append-nil (indices4 t)) (distinct_right (indices3 t) (indices4 t) indices34))
      (distinct_right (codes (λ k. k.third) links3) (codes (λ k. k.third) links4 ++ old_codes) codes_once))

  stage3 : Stage lim b t small s F P (after links3 (after links4 start_third)) (indices3 t ++ indices4 t) [] (codes (λ k. k.third) links3 ++ (codes (λ k. k.third) links4 ++ old_codes))
  stage3 =
      label_parts lim b t small s F P (λ m. m.index) (part3_links t) t.part3 third_part (after links4 start_third)
      (indices4 t) (codes (λ k. k.third) links4 ++ old_codes) stage4 indices34 codes_once

  linked : Good (serials (insert_all (new_darts t) b.darts)) (next_in (insert_all (new_darts t) b.darts)) (point_of (insert_all (new_darts t) b.darts)) b.number b.counter
      (after (transfer_links ds t) start_third)
  unfolding transfer_links critical_links part2_apart
  linked =
      subst (Good _ _ _ b.number b.counter)
      (ap (after (concat_map (part2_links ds t) t.part2)) (after_append links3 links4 start_third)
      ∙ after_append (concat_map (part2_links ds t) t.part2) (links3 ++ links4) start_third)
      (sew_parts lim b t small s F P t.part2 (λ m h. P.index_starts m.index (in_append_left m.index (indices2 t) _ (elem_key (λ (m : Part2). m.index) m t.part2 h))) P.meets
      (after links3 (after links4 start_third)) (indices3 t ++ indices4 t) [] (codes (λ k. k.third) links3 ++ (codes (λ k. k.third) links4 ++ old_codes)) stage3 P.indices_once
      (rw (append-nil _) P.meets_apart)).good

-- new darts may be linked before or after they are inserted
pub received_is : (b : Block) (t : Transfer)
    → received b t ≡ record { number = b.number; counter = b.counter; darts = map (relink (transfer_links b.darts t)) (insert_all (new_darts t) b.darts) }
unfolding received
received_is b t =
    ap (λ (l : List Dart). record { number = b.number; counter = b.counter; darts = l })
    (sym
    (insert_all_map (relink (transfer_links b.darts t)) (same_serial (transfer_links b.darts t) b.darts) (new_darts t)
    b.darts))

-- THE THEOREM
pub received_sound : (lim : Limits) (b : Block) (t : Transfer) → lim.block_darts ≤ 4096 → sound_block lim b ≡ true → transfer.ok t ≡ true → first_no (receive_checks lim b (a_transfer t)) ≡ 0
    → sound_block lim (received b t) ≡ true
received_sound lim b t small s o q =
    let F = fits t o in
    let P = passed lim b t q in
    subst (λ (c : Block). sound_block lim c ≡ true) (sym (received_is b t))
    (relinked_sound lim (record { number = b.number; counter = b.counter; darts = insert_all (new_darts t) b.darts })
    (transfer_links b.darts t) (unlinked_sound lim b t small s F P) (linked lim b t small s F P))
