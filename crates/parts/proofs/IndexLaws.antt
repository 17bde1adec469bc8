-- The indices of the parts: loops over them, and the model's test. Assumes nothing.
use mathlib.Core.Path.{◌≡◌, refl, sym, ◌∙◌, ap}
use mathlib.Core.Bool.{Bool, true, false, true≢false, cond, not, ◌&&◌, ◌||◌}
use mathlib.Core.List.{List, [], ◌∷◌, ◌++◌, map}
use mathlib.Core.Logic.{⊎_elim}
use Prim.Native.Nat.{ℕ, zero, suc, ◌+◌, ◌-◌, ◌≤◌, ◌<◌}
use native.Mathlib.Omega.{arith}
use lib.Dec.{ltb, eqb}
use lib.ListN.{length, get_or, take, set, length-set}
use lib.Seq.{get_or-set_same, get_or-set_other, get_or-take}
use borrow.Author.Tests.{eq-eqb, ne_eqb, lt-ltb, le-ltb, ltb-true, not-true}
use Rattle.model.specs.Lists.{all, mem, distinct, ascending, tab}
use Rattle.model.specs.Messages.{Transfer, size_all}
use Rattle.model.specs.Arrival.{placed_faces, indices_right}
use Rattle.laws.specs.Order.{Ascending}
use Rattle.laws.proofs.Tests.{by_cases, and_left, and_right, and_intro, lt_or_ge, eq_or_ne, last_or_below, same_truth}
use Rattle.laws.proofs.Members.{In, all_in, all_from, all_cong, append_in, in_append_left, in_append_right, distinct_append, distinct_left, distinct_apart, ascending_distinct}
use Rattle.laws.proofs.Tables.{tab_all, all_tab, mem_place, place_mem, tab_ascending, ascending_tab}
use Rattle.cells.proofs.Paths.{mem_append}
use Rattle.cells.proofs.FaceLaws.{distinct_few}
use Rattle.theory.proofs.ImageLaws.{tab_list}
use Rattle.inbox.specs.Inbox.{FacesIn, is_hollow}
use Rattle.parts.specs.Indices.{above_at, fits_at, FitTold, MarkedBy, starts_at, part_fits, indices_fit}
use Rattle.parts.proofs.FaceStarts.{starts_are}

-- ONE ENTRY
module _ (idx b marks : List ℕ) (k e : ℕ) where
  pub fits_past : k ≤ get_or idx e 0 → false ≡ fits_at idx b marks k e
  fits_past h = rw (le-ltb (get_or idx e 0) k h) refl

  pub fits_low : above_at idx e ≡ false → false ≡ fits_at idx b marks k e
  fits_low g = by_cases (ltb (get_or idx e 0) k) (λ h. rw (h, g) refl) (λ h. rw h refl)

  pub fits_rest : get_or idx e 0 < k → above_at idx e ≡ true → {i s : ℕ} → i ≡ get_or idx e 0 → s ≡ get_or b i 0 → (eqb s i && eqb (get_or marks i 0) 0) ≡ fits_at idx b marks k e
  fits_rest h g {i} {s} at start = rw (lt-ltb (get_or idx e 0) k h, g, start, at) refl

pub above_first : (idx : List ℕ) (e : ℕ) → e ≡ 0 → true ≡ above_at idx e
above_first idx e h = rw (eq-eqb e 0 h) refl

pub above_later : (idx : List ℕ) (e : ℕ) → (e ≡ 0 → ⊥) → {i j : ℕ} → i ≡ get_or idx (e - 1) 0 → j ≡ get_or idx e 0 → ltb i j ≡ above_at idx e
above_later idx e h p q = rw (ne_eqb e 0 h, p, q) refl

-- the first c as a table
pub front_tab : (l : List ℕ) (c : ℕ) → c ≤ length l → take c l ≡ tab (λ k. get_or l k 0) c
front_tab l c h = sym (ap (tab (λ k. get_or l k 0)) (sym (length_take l c h)) ∙ tab_list 0 (take c l) (λ k. get_or l k 0) (λ p q. sym (get_or-take c l p 0 (let n = length_take l c h in omega arith))))
  where
    length_take : (l : List ℕ) (c : ℕ) → c ≤ length l → length (take c l) ≡ c
    length_take l zero h = refl
    length_take [] (suc c) h = absurd (omega (arith, h))
    length_take (y ∷ l) (suc c) h = ap suc (length_take l c (omega (arith, h)))

-- MARKING
pub record Marking (idx marks marks' : List ℕ) (e : ℕ) : Type 0 where
  pub size : length marks' ≡ length marks
  pub each : (q : ℕ) → get_or marks' q 0 ≡ cond (mem q (tab (λ j. get_or idx j 0) e)) 1 (get_or marks q 0)

pub marking_none : (idx marks : List ℕ) → Marking idx marks marks 0
marking_none idx marks = record { size = refl; each = λ q. refl }

pub marking_more : {idx marks marks' : List ℕ} {e y : ℕ} → Marking idx marks marks' e → y ≡ get_or idx e 0 → y < length marks → Marking idx marks (set marks' y 1) (e + 1)
marking_more {idx} {marks} {marks'} {e} {y} w s h = record {
  size = simp length-set w.size;
  each = λ q. ⊎_elim
      (λ (d : q ≡ y). ap (λ (c : ℕ). get_or (set marks' y 1) c 0) d ∙ get_or-set_same marks' y 1 0 (let n = w.size in omega arith)
      ∙ sym (rw (mem_place (λ j. get_or idx j 0) (e + 1) e q (omega arith) (sym s ∙ sym d)) refl))
      (λ (d : q ≡ y → ⊥). get_or-set_other marks' y q 1 0 d ∙ w.each q ∙ ap (λ (c : Bool). cond c 1 (get_or marks q 0)) (same q d))
      (eq_or_ne q y);
}
  where
    same : (q : ℕ) → (q ≡ y → ⊥) → mem q (tab (λ j. get_or idx j 0) e) ≡ mem q (tab (λ j. get_or idx j 0) (e + 1))
    same q d = same_truth _ _
        (λ t. let r = place_mem (λ j. get_or idx j 0) e q t in mem_place (λ j. get_or idx j 0) (e + 1) r.0 q (let u = r.1 in omega arith) r.2)
        (λ t. let r = place_mem (λ j. get_or idx j 0) (e + 1) q t in ⊎_elim
        (λ (u : r.0 ≡ e). absurd (d (sym r.2 ∙ ap (λ (j : ℕ). get_or idx j 0) u ∙ sym s)))
        (λ (u : r.0 < e). mem_place (λ j. get_or idx j 0) e r.0 q u r.2)
        (last_or_below r.1))

pub marking_end : {idx marks marks' : List ℕ} {e c : ℕ} → Marking idx marks marks' e → e ≤ c → c ≤ e → c ≤ length idx → MarkedBy (take c idx) marks marks'
marking_end {idx} {marks} {marks'} {e} {c} w a b n =
    record {
      size = w.size;
      each = λ q. w.each q
          ∙ ap (λ (l : List ℕ). cond (mem q l) 1 (get_or marks q 0)) (ap (tab (λ j. get_or idx j 0)) same ∙ sym (front_tab idx c n));
    }
  where
    same : e ≡ c
    same = omega arith

-- the marks are of a list
pub record Marks (marks l : List ℕ) : Type 0 where
  pub tells : (q : ℕ) → eqb (get_or marks q 0) 0 ≡ not (mem q l)

pub marks_none : (marks : List ℕ) → ((q : ℕ) → get_or marks q 0 ≡ 0) → Marks marks []
marks_none marks clear = record { tells = λ q. eq-eqb (get_or marks q 0) 0 (clear q) }

pub marks_more : {marks marks' l m : List ℕ} → Marks marks l → MarkedBy m marks marks' → Marks marks' (l ++ m)
marks_more {marks} {marks'} {l} {m} w d = record { tells = λ q. ap (λ (c : ℕ). eqb c 0) (d.each q) ∙ go (mem q m) (mem q l) (get_or marks q 0) (w.tells q) ∙ ap not (sym (mem_append q l m)) }
  where
    go : (a b : Bool) (c : ℕ) → eqb c 0 ≡ not b → eqb (cond a 1 c) 0 ≡ not (b || a)
    go true true c e = refl
    go true false c e = refl
    go false true c e = e
    go false false c e = e

-- A PART
steps_ascend : (s : ℕ → ℕ) (n : ℕ) → ((e : ℕ) → suc e < n → s e < s (suc e)) → Ascending n s
steps_ascend s n h i zero l u = absurd (omega arith)
steps_ascend s n h i (suc j) l u = ⊎_elim
    (λ (q : i < j). let a = steps_ascend s n h i j q (omega arith) in let c = h j u in omega arith)
    (λ (q : j ≤ i). let e : i ≡ j = omega arith in rw e (h j u))
    (lt_or_ge i j)

module _ (idx b marks l : List ℕ) (k c : ℕ) (n : c ≤ length idx) (w : Marks marks l) where
  abbrev at : ℕ → ℕ
  at e = get_or idx e 0

  fits_there : all (fits_at idx b marks k) (tab (λ e. e) c) ≡ true → part_fits b k l (tab at c) ≡ true
  fits_there t = and_intro (and_intro (tab_all (starts_at b k) at c (λ e h. and_intro (first e h) (start e h)))
      (tab_ascending at c (steps_ascend at c up)))
      (tab_all (λ i. not (mem i l)) at c (λ e h. sym (w.tells (at e)) ∙ and_right (eqb (get_or b (at e) 0) (at e)) _ (last e h)))
    where
      each : (e : ℕ) → e < c → fits_at idx b marks k e ≡ true
      each e h = all_tab (fits_at idx b marks k) (λ e. e) c t e h

      front : (e : ℕ) → e < c → (ltb (at e) k && (eqb e 0 || ltb (at (e - 1)) (at e))) ≡ true
      front e h = and_left (ltb (at e) k && (eqb e 0 || ltb (at (e - 1)) (at e))) _ (each e h)

      last : (e : ℕ) → e < c → (eqb (get_or b (at e) 0) (at e) && eqb (get_or marks (at e) 0) 0) ≡ true
      last e h = and_right (ltb (at e) k && (eqb e 0 || ltb (at (e - 1)) (at e))) _ (each e h)

      first : (e : ℕ) → e < c → ltb (at e) k ≡ true
      first e h = and_left (ltb (at e) k) _ (front e h)

      start : (e : ℕ) → e < c → eqb (get_or b (at e) 0) (at e) ≡ true
      start e h = and_left (eqb (get_or b (at e) 0) (at e)) _ (last e h)

      up : (e : ℕ) → suc e < c → at e < at (suc e)
      up e h =
          let q : suc e - 1 ≡ e = omega arith in ltb-true (at e) (at (suc e))
          (sym (ap (λ (d : ℕ). ltb (at d) (at (suc e))) q)
          ∙ ap (λ (d : Bool). d || ltb (at (suc e - 1)) (at (suc e))) (sym (ne_eqb (suc e) 0 (λ z. omega (arith, z))))
          ∙ and_right (ltb (at (suc e)) k) _ (front (suc e) h))

  there_fits : part_fits b k l (tab at c) ≡ true → all (fits_at idx b marks k) (tab (λ e. e) c) ≡ true
  there_fits t =
      tab_all (fits_at idx b marks k) (λ e. e) c
      (λ e h. and_intro (and_intro (and_left (ltb (at e) k) _ (starts e h)) (before e h))
      (and_intro (and_right (ltb (at e) k) _ (starts e h)) (w.tells (at e) ∙ free e h)))
    where
      two : (all (starts_at b k) (tab at c) && ascending (tab at c)) ≡ true
      two = and_left (all (starts_at b k) (tab at c) && ascending (tab at c)) _ t

      starts : (e : ℕ) → e < c → starts_at b k (at e) ≡ true
      starts e h = all_tab (starts_at b k) at c (and_left (all (starts_at b k) (tab at c)) _ two) e h

      free : (e : ℕ) → e < c → not (mem (at e) l) ≡ true
      free e h = all_tab (λ i. not (mem i l)) at c (and_right (all (starts_at b k) (tab at c) && ascending (tab at c)) _ t) e h

      before : (e : ℕ) → e < c → (eqb e 0 || ltb (at (e - 1)) (at e)) ≡ true
      before e h = ⊎_elim
          (λ (q : e ≡ 0). rw (eq-eqb e 0 q) refl)
          (λ (q : e ≡ 0 → ⊥). rw (ne_eqb e 0 q) (lt-ltb (at (e - 1)) (at e) (ascending_tab at c (and_right (all (starts_at b k) (tab at c)) _ two) (e - 1) e (omega arith) h)))
          (eq_or_ne e 0)

  part_is : all (fits_at idx b marks k) (tab (λ e. e) c) ≡ part_fits b k l (take c idx)
  part_is = same_truth _ _ fits_there there_fits ∙ ap (part_fits b k l) (sym (front_tab idx c n))

  -- each names a dart
  part_below : all (fits_at idx b marks k) (tab (λ e. e) c) ≡ true → (e : ℕ) → e < c → get_or idx e 0 < k
  part_below t e h = ltb-true (at e) k (and_left (ltb (at e) k) _ (and_left (ltb (at e) k && (eqb e 0 || ltb (at (e - 1)) (at e))) _ (all_tab (fits_at idx b marks k) (λ e. e) c t e h)))

module _ {idx b marks l : List ℕ} {k c : ℕ} {r : Bool} (told : FitTold idx b marks k c r) (n : c ≤ length idx) (w : Marks marks l) where
  pub part_told : r ≡ part_fits b k l (take c idx)
  part_told = told.said ∙ part_is idx b marks l k c n w

  pub told_below : r ≡ true → (e : ℕ) → e < c → get_or idx e 0 < k
  told_below e = part_below idx b marks l k c n w (sym told.said ∙ e)

-- THE MODEL'S TEST
apart_back : (l r : List ℕ) → all (λ i. not (mem i l)) r ≡ true → (x : ℕ) → In x l → mem x r ≡ false
apart_back l r e x h = by_cases (mem x r) (λ t. absurd (true≢false (sym h ∙ not-true _ (all_in (λ i. not (mem i l)) r e x t)))) (λ t. t)

module _ (p : ℕ → Bool) (a b c : List ℕ) where
  abbrev fits : List ℕ → List ℕ → Bool
  fits others l = all p l && ascending l && all (λ i. not (mem i others)) l

  abbrev whole : Bool
  whole = all p (a ++ b ++ c) && ascending a && ascending b && ascending c && distinct (a ++ b ++ c)

  to_parts : whole ≡ true → (fits [] a && fits a b && fits (a ++ b) c) ≡ true
  to_parts t = and_intro (and_intro (and_intro (and_intro (sub a (λ x h. in_append_left x (a ++ b) c (in_append_left x a b h))) up_a) (all_from _ a (λ x h. refl)))
      (and_intro (and_intro (sub b (λ x h. in_append_left x (a ++ b) c (in_append_right x a b h))) up_b) (all_from _ b (λ x h. ap not (distinct_apart a b (distinct_left (a ++ b) c once) x h)))))
      (and_intro (and_intro (sub c (λ x h. in_append_right x (a ++ b) c h)) up_c) (all_from _ c (λ x h. ap not (distinct_apart (a ++ b) c once x h))))
    where
      one : (all p (a ++ b ++ c) && ascending a && ascending b && ascending c) ≡ true
      one = and_left (all p (a ++ b ++ c) && ascending a && ascending b && ascending c) _ t

      once : distinct (a ++ b ++ c) ≡ true
      once = and_right (all p (a ++ b ++ c) && ascending a && ascending b && ascending c) _ t

      two : (all p (a ++ b ++ c) && ascending a && ascending b) ≡ true
      two = and_left (all p (a ++ b ++ c) && ascending a && ascending b) _ one

      up_c : ascending c ≡ true
      up_c = and_right (all p (a ++ b ++ c) && ascending a && ascending b) _ one

      up_b : ascending b ≡ true
      up_b = and_right (all p (a ++ b ++ c) && ascending a) _ two

      three : (all p (a ++ b ++ c) && ascending a) ≡ true
      three = and_left (all p (a ++ b ++ c) && ascending a) _ two

      up_a : ascending a ≡ true
      up_a = and_right (all p (a ++ b ++ c)) _ three

      sub : (l : List ℕ) → ((x : ℕ) → In x l → In x (a ++ b ++ c)) → all p l ≡ true
      sub l i = all_from p l (λ x h. all_in p (a ++ b ++ c) (and_left (all p (a ++ b ++ c)) _ three) x (i x h))

  of_parts : (fits [] a && fits a b && fits (a ++ b) c) ≡ true → whole ≡ true
  of_parts t = and_intro (and_intro (and_intro (and_intro (all_from p (a ++ b ++ c) (λ x h. ⊎_elim
      (λ (i : In x (a ++ b)). ⊎_elim (λ (j : In x a). all_in p a (first a [] ta) x j) (λ (j : In x b). all_in p b (first b a tb) x j) (append_in x a b i))
      (λ (i : In x c). all_in p c (first c (a ++ b) tc) x i)
      (append_in x (a ++ b) c h))) (up a [] ta)) (up b a tb)) (up c (a ++ b) tc))
      (distinct_append (a ++ b) c
      (distinct_append a b (ascending_distinct a (up a [] ta)) (ascending_distinct b (up b a tb))
      (apart_back a b (and_right (all p b && ascending b) _ tb))) (ascending_distinct c (up c (a ++ b) tc))
      (apart_back (a ++ b) c (and_right (all p c && ascending c) _ tc)))
    where
      ta : fits [] a ≡ true
      ta = and_left (fits [] a) _ (and_left (fits [] a && fits a b) _ t)

      tb : fits a b ≡ true
      tb = and_right (fits [] a) _ (and_left (fits [] a && fits a b) _ t)

      tc : fits (a ++ b) c ≡ true
      tc = and_right (fits [] a && fits a b) _ t

      first : (l m : List ℕ) → fits m l ≡ true → all p l ≡ true
      first l m e = and_left (all p l) _ (and_left (all p l && ascending l) _ e)

      up : (l m : List ℕ) → fits m l ≡ true → ascending l ≡ true
      up l m e = and_right (all p l) _ (and_left (all p l && ascending l) _ e)

  whole_is : whole ≡ (fits [] a && fits a b && fits (a ++ b) c)
  whole_is = same_truth _ _ to_parts of_parts

module _ {v x b z : List ℕ} (t : Transfer) (inside : FacesIn t.faces v x b z) (full : is_hollow t.faces ≡ false) where
  pub indices_are : indices_right t ≡ indices_fit b (size_all t.faces) (map (λ m. m.index) t.part2) (map (λ m. m.index) t.part3) (map (λ m. m.index) t.part4)
  unfolding indices_right
  indices_are = whole_is (λ i. mem i (map (λ p. p.at) (placed_faces t))) (map (λ m. m.index) t.part2) (map (λ m. m.index) t.part3) (map (λ m. m.index) t.part4)
      ∙ three (same [] (map (λ m. m.index) t.part2)) (same (map (λ m. m.index) t.part2) (map (λ m. m.index) t.part3))
      (same (map (λ m. m.index) t.part2 ++ map (λ m. m.index) t.part3) (map (λ m. m.index) t.part4))
    where
      same : (others l : List ℕ) → (all (λ i. mem i (map (λ p. p.at) (placed_faces t))) l && ascending l && all (λ i. not (mem i others)) l) ≡ part_fits b (size_all t.faces) others l
      same others l = ap (λ (q : Bool). q && ascending l && all (λ i. not (mem i others)) l) (all_cong _ _ l (λ i h. starts_are v x b z t inside full i))

      three : {a b c d e f : Bool} → a ≡ d → b ≡ e → c ≡ f → (a && b && c) ≡ (d && e && f)
      three p q r = rw (p, q, r)

-- no more indices than darts
part_few : (b : List ℕ) (k : ℕ) (others l : List ℕ) → part_fits b k others l ≡ true → length l ≤ k
part_few b k others l t =
    let two = and_left (all (starts_at b k) l && ascending l) _ t in
    distinct_few l k (ascending_distinct l (and_right (all (starts_at b k) l) _ two))
    (λ i h. ltb-true i k (and_left (ltb i k) _ (all_in (starts_at b k) l (and_left (all (starts_at b k) l) _ two) i h)))

pub indices_few : (b : List ℕ) (k : ℕ) (l2 l3 l4 : List ℕ) → indices_fit b k l2 l3 l4 ≡ true → (length l2 ≤ k) × (length l3 ≤ k) × (length l4 ≤ k)
indices_few b k l2 l3 l4 t =
    let two = and_left (part_fits b k [] l2 && part_fits b k l2 l3) _ t in (
      part_few b k [] l2 (and_left (part_fits b k [] l2) _ two),
      part_few b k l2 l3 (and_right (part_fits b k [] l2) _ two),
      part_few b k (l2 ++ l3) l4 (and_right (part_fits b k [] l2 && part_fits b k l2 l3) _ t),
    )

-- THE FUNCTION
module _ (b i2 i3 i4 : List ℕ) (k c2 c3 c4 : ℕ) where
  abbrev answer : Bool
  answer = indices_fit b k (take c2 i2) (take c3 i3) (take c4 i4)

  pub second_no : part_fits b k [] (take c2 i2) ≡ false → false ≡ answer
  second_no e = rw e refl

  pub third_no : part_fits b k (take c2 i2) (take c3 i3) ≡ false → false ≡ answer
  third_no e = by_cases (part_fits b k [] (take c2 i2)) (λ t. rw (t, e) refl) (λ t. rw t refl)

  pub fourth_is : part_fits b k [] (take c2 i2) ≡ true → part_fits b k (take c2 i2) (take c3 i3) ≡ true → {r : Bool} → r ≡ part_fits b k (take c2 i2 ++ take c3 i3) (take c4 i4) → r ≡ answer
  fourth_is e f {r} q = rw (e, f) q
