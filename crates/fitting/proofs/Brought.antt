-- The words of question 20 are the links of the transfer. Assumes nothing.
use mathlib.Core.Path.{◌≡◌, refl, sym, ◌∙◌, ap, subst}
use mathlib.Core.Bool.{Bool, true, cond, true≢false}
use mathlib.Core.List.{List, [], ◌∷◌, ◌++◌}
use mathlib.Core.Logic.{◌⊎◌, inl, inr, ⊎_elim}
use mathlib.Core.Option.{Option, none, some}
use Prim.Native.Nat.{ℕ, ◌+◌, ◌-◌, ◌≤◌, ◌<◌}
use native.Mathlib.Omega.{arith}
use lib.Dec.{ltb}
use lib.ListN.{get_or}
use borrow.Author.Tests.{eqb-true, ltb-true}
use Rattle.model.specs.Lists.{all, mem, tab, find, concat_map}
use Rattle.model.specs.Values.{Third, sewn}
use Rattle.model.specs.Image.{column, is_critical_word, third_in}
use Rattle.model.specs.Links.{Link}
use Rattle.laws.proofs.Tests.{by_cases, lt_or_ge, and_left, and_right}
use Rattle.laws.proofs.Tables.{find_none, mem_place, place_mem}
use Rattle.columns.specs.Columns.{Kind, kind_sewn}
use Rattle.columns.proofs.Thirds.{critical_two, third_sewn}
use Rattle.arrival.specs.Sides.{Segments}
use Rattle.parts.specs.Indices.{starts_at}
use Rattle.parts.specs.Segments.{link_of, face_links}
use Rattle.parts.proofs.FaceLinks.{link_found}
use Rattle.join.specs.Join.{Linking}
use Rattle.fitting.specs.Bringing.{met_links, LabelsApart, Meets, Sewing2}
use Rattle.fitting.proofs.Found.{found_left, found_right, never_found, found_at, sewn_none, sewn_new, sewn_old}

-- the index of a dart on the face of entry e of part 2
record On (b z indices : List ℕ) (c q : ℕ) : Type 0 where
  entry : ℕ
  below : entry < c
  at : ℕ
  inside : at < get_or z (get_or indices entry 0) 0
  index : q ≡ get_or indices entry 0 + at

module _ {b z indices : List ℕ} {n k c : ℕ} {w : ℕ → ℕ → ℕ} (o : Meets b z indices n k c w) where
  -- darts of entry e
  start_of_dart : (e j : ℕ) → e < c → j < get_or z (get_or indices e 0) 0 → get_or b (get_or indices e 0 + j) 0 ≡ get_or indices e 0
  start_of_dart e j he hj = let s = o.starts_face e he in o.segs.same_start (get_or indices e 0) (o.index_below e he) (get_or indices e 0 + j) (omega (arith, s)) (omega (arith, s, hj)) ∙ s

  dart_below : (e j : ℕ) → e < c → j < get_or z (get_or indices e 0) 0 → get_or indices e 0 + j < k
  dart_below e j he hj = let s = o.starts_face e he in let v = o.segs.end_within (get_or indices e 0) (o.index_below e he) in omega (arith, s, v, hj)

  on_one : (d i e j : ℕ) → d < c → i < get_or z (get_or indices d 0) 0 → e < c → j < get_or z (get_or indices e 0) 0 → get_or indices d 0 + i ≡ get_or indices e 0 + j → (d ≡ e) × (i ≡ j)
  on_one d i e j hd hi he hj q =
      let same : get_or indices d 0 ≡ get_or indices e 0 = sym (start_of_dart d i hd hi) ∙ ap (λ (p : ℕ). get_or b p 0) q ∙ start_of_dart e j he hj in
      (o.faces_differ d e hd he same, omega (arith, same, q))

  -- whether a dart is on one of those faces
  on_or_not : (q : ℕ) → q < k → On b z indices c q ⊎ ((e : ℕ) → e < c → get_or b q 0 ≡ get_or indices e 0 → ⊥)
  on_or_not q h = by_cases (mem (get_or b q 0) (tab (λ e. get_or indices e 0) c))
      (λ t. let p = place_mem (λ e. get_or indices e 0) c (get_or b q 0) t in inl (here p.0 p.1 p.2))
      (λ t. inr (λ e l s. true≢false (sym (mem_place (λ e. get_or indices e 0) c e (get_or b q 0) l (sym s)) ∙ t)))
    where
      here : (e : ℕ) → e < c → get_or indices e 0 ≡ get_or b q 0 → On b z indices c q
      here e l s =
          let low = o.segs.start_le q h in
          let high = o.segs.end_above q h in
          let size : get_or z (get_or indices e 0) 0 ≡ get_or z q 0 = o.segs.same_size q h (get_or indices e 0) (omega (arith, s)) (omega (arith, s, low, high)) in
          record { entry = e; below = l; at = q - get_or indices e 0; inside = omega (arith, low, high, size, s); index = omega (arith, low, s) }

  -- a dart on none of them is before or after each
  off : (q : ℕ) → ((e : ℕ) → e < c → get_or b q 0 ≡ get_or indices e 0 → ⊥) → (e : ℕ) → e < c → (q < get_or indices e 0) ⊎ (get_or indices e 0 + get_or z (get_or indices e 0) 0 ≤ q)
  off q u e l = ⊎_elim
      (λ (y : q < get_or indices e 0). inl y)
      (λ (y : get_or indices e 0 ≤ q). ⊎_elim
      (λ (v : q < get_or indices e 0 + get_or z (get_or indices e 0) 0). absurd
      (u e l
      (let i : get_or indices e 0 + (q - get_or indices e 0) ≡ q = omega (arith, y) in ap (λ (p : ℕ). get_or b p 0) (sym i) ∙
      start_of_dart e (q - get_or indices e 0) l (omega (arith, y, v)))))
      (λ (v : get_or indices e 0 + get_or z (get_or indices e 0) 0 ≤ q). inr v)
      (lt_or_ge q (get_or indices e 0 + get_or z (get_or indices e 0) 0)))
      (lt_or_ge q (get_or indices e 0))

-- AMONG PART 2'S LINKS
module _ {A : Type 0} (part : A → List Link) (entry : ℕ → A) (s : ℕ → ℕ) (x : List ℕ) {b z indices : List ℕ} {n k c : ℕ} {w : ℕ → ℕ → ℕ} (r : LabelsApart s x n k) (o : Meets b z indices n k c w)
    (part_is : (e : ℕ) → e < c → part (entry e) ≡ met_links s x (get_or indices e 0) (get_or z (get_or indices e 0) 0) (w e)) where
  abbrev size : ℕ → ℕ
  size e = get_or z (get_or indices e 0) 0

  abbrev new : ℕ → ℕ → ℕ
  new e j = get_or x (get_or indices e 0 + j) 0

  new_one : (d i e j : ℕ) → d < c → i < size d → e < c → j < size e → new d i ≡ new e j → (d ≡ e) × (i ≡ j)
  new_one d i e j hd hi he hj q = on_one o d i e j hd hi he hj (r.new_differ (get_or indices d 0 + i) (get_or indices e 0 + j) (dart_below o d i hd hi) (dart_below o e j he hj) q)

  old_one : (d i e j : ℕ) → d < c → i < size d → e < c → j < size e → s (w d i) ≡ s (w e j) → (d ≡ e) × (i ≡ j)
  old_one d i e j hd hi he hj q = o.met_differ d i e j hd hi he hj (r.old_differ (w d i) (w e j) (o.met_below d i hd hi) (o.met_below e j he hj) q)

  new_old : (d i e j : ℕ) → d < c → i < size d → e < c → j < size e → new d i ≡ s (w e j) → ⊥
  new_old d i e j hd hi he hj q = r.not_held (get_or indices d 0 + i) (w e j) (dart_below o d i hd hi) (o.met_below e j he hj) q

  none_in : (y e : ℕ) → e < c → ((j : ℕ) → j < size e → y ≡ new e j → ⊥) → ((j : ℕ) → j < size e → y ≡ s (w e j) → ⊥) → find (λ l. l.dart) y (part (entry e)) ≡ none
  none_in y e l u v = ap (find (λ l. l.dart) y) (part_is e l) ∙ sewn_none (λ j. new e j) (λ j. s (w e j)) (size e) y u v

  pub part2_none : (y : ℕ) → ((e j : ℕ) → e < c → j < size e → y ≡ new e j → ⊥) → ((e j : ℕ) → e < c → j < size e → y ≡ s (w e j) → ⊥) → find (λ l. l.dart) y (concat_map part (tab entry c)) ≡ none
  part2_none y u v = never_found (λ l. l.dart) part y entry c (λ e l. none_in y e l (λ j. u e j l) (λ j. v e j l))

  pub part2_new : (e j : ℕ) → e < c → j < size e → find (λ l. l.dart) (new e j) (concat_map part (tab entry c)) ≡ some (record { dart = new e j; third = sewn (s (w e j)) })
  part2_new e j he hj = found_at (λ l. l.dart) part (new e j) entry c e he
      (ap (find (λ l. l.dart) (new e j)) (part_is e he)
      ∙ sewn_new (λ j. new e j) (λ j. s (w e j)) (size e) j hj
      (λ i l q. let one = new_one e j e i he hj he (omega (arith, hj, l)) q in omega (arith, one.1, l))
      (λ i l q. new_old e j e i he hj he (omega (arith, hj, l)) q))
      (λ d l. let hd : d < c = omega (arith, l, he) in none_in (new e j) d hd (λ i hi q. let one = new_one e j d i he hj hd hi q in omega (arith, one.0, l)) (λ i hi q. new_old e j d i he hj hd hi q))

  pub part2_old : (e j : ℕ) → e < c → j < size e → find (λ l. l.dart) (s (w e j)) (concat_map part (tab entry c)) ≡ some (record { dart = s (w e j); third = sewn (new e j) })
  part2_old e j he hj = found_at (λ l. l.dart) part (s (w e j)) entry c e he
      (ap (find (λ l. l.dart) (s (w e j))) (part_is e he)
      ∙ sewn_old (λ j. new e j) (λ j. s (w e j)) (size e) j hj (λ q. new_old e j e j he hj he hj (sym q))
      (λ i l q. new_old e i e j he (omega (arith, hj, l)) he hj (sym q))
      (λ i l q. let one = old_one e j e i he hj he (omega (arith, hj, l)) q in omega (arith, one.1, l)))
      (λ d l. let hd : d < c = omega (arith, l, he) in none_in (s (w e j)) d hd (λ i hi q. new_old d i e j hd hi he hj (sym q))
      (λ i hi q. let one = old_one e j d i he hj hd hi q in omega (arith, one.0, l)))

-- ALL LINKS
module _ (s : ℕ → ℕ) (x : List ℕ) {b z : List ℕ} (kinds links : List ℕ) {n k : ℕ} (segs : Segments b z k) (r : LabelsApart s x n k) where
  -- no dart of the block is among those of parts 3 and 4
  pub critical_none : (p : ℕ) → p < n → (l : List ℕ) → all (starts_at b k) l ≡ true → find (λ m. m.dart) (s p) (concat_map (face_links s x z kinds links) l) ≡ none
  critical_none p h [] t = refl
  critical_none p h (i ∷ l) t =
      let small : i < k = ltb-true i k (and_left (ltb i k) _ (and_left (starts_at b k i) _ t)) in
      let start : get_or b i 0 ≡ i = eqb-true (get_or b i 0) i (and_right (ltb i k) _ (and_left (starts_at b k i) _ t)) in
      let within = segs.end_within i small in
      found_right (λ m. m.dart) (s p) (face_links s x z kinds links i) (concat_map (face_links s x z kinds links) l)
      (find_none (λ m. m.dart) (λ j. link_of s x kinds links (i + j)) (get_or z i 0) (s p) (λ j hj q. r.not_held (i + j) p (omega (arith, within, start, hj)) h q))
      (critical_none p h l (and_right (starts_at b k i) _ t))

module _ {A : Type 0} (part : A → List Link) (entry : ℕ → A) (s : ℕ → ℕ) {x b z indices starts kinds links kinds' links' : List ℕ} {n k c : ℕ} {w : ℕ → ℕ → ℕ}
    (g : Sewing2 s x b z indices starts kinds links kinds' links' n k c w)
    (part_is : (e : ℕ) → e < c → part (entry e) ≡ met_links s x (get_or indices e 0) (get_or z (get_or indices e 0) 0) (w e)) where
  o : Meets b z indices n k c w
  o = g.meets

  abbrev all_links : List Link
  all_links = concat_map part (tab entry c) ++ concat_map (face_links s x z kinds links) starts

  kind_on : {q : ℕ} (v : On b z indices c q) → get_or kinds' q 0 ≡ 1
  kind_on v = ap (λ (p : ℕ). get_or kinds' p 0) v.index ∙ g.kinds_put.inside v.entry v.below v.at v.inside

  link_on : {q : ℕ} (v : On b z indices c q) → get_or links' q 0 ≡ w v.entry v.at
  link_on v = ap (λ (p : ℕ). get_or links' p 0) v.index ∙ g.links_put.inside v.entry v.below v.at v.inside

  kind_off : (q : ℕ) → ((e : ℕ) → e < c → get_or b q 0 ≡ get_or indices e 0 → ⊥) → get_or kinds' q 0 ≡ get_or kinds q 0
  kind_off q u = g.kinds_put.outside q (off o q u)

  link_off : (q : ℕ) → ((e : ℕ) → e < c → get_or b q 0 ≡ get_or indices e 0 → ⊥) → get_or links' q 0 ≡ get_or links q 0
  link_off q u = g.links_put.outside q (off o q u)

  not_one : (q : ℕ) → q < k → get_or kinds q 0 ≡ 1 → ⊥
  not_one q h e = by_cases (mem (get_or b q 0) starts) (λ t. let m = g.before.kind_in q h t in one_two (get_or kinds q 0) e m) (λ t. let m = g.before.kind_out q h t in omega (arith, m, e))
    where
      one_two : (a : ℕ) → a ≡ 1 → is_critical_word a ≡ true → ⊥
      one_two a e m = omega (arith, critical_two a m)

  sewn_on : (q : ℕ) → q < k → get_or kinds' q 0 ≡ 1 → On b z indices c q
  sewn_on q h e = ⊎_elim (λ (v : On b z indices c q). v) (λ (u : (e : ℕ) → e < c → get_or b q 0 ≡ get_or indices e 0 → ⊥). absurd (not_one q h (sym (kind_off q u) ∙ e))) (on_or_not o q h)

  -- a new dart on a face of part 2, and the one that it meets
  found_new : {q : ℕ} (v : On b z indices c q) → find (λ l. l.dart) (get_or x q 0) all_links ≡ some (record { dart = get_or x q 0; third = sewn (s (w v.entry v.at)) })
  found_new {q} v = found_left (λ l. l.dart) (get_or x q 0) (concat_map part (tab entry c)) (concat_map (face_links s x z kinds links) starts)
      (subst (λ (p : ℕ). find (λ l. l.dart) (get_or x p 0) (concat_map part (tab entry c)) ≡ some (record { dart = get_or x p 0; third = sewn (s (w v.entry v.at)) })) (sym v.index)
      (part2_new part entry s x g.serials o part_is v.entry v.at v.below v.inside))

  found_met : {q : ℕ} (v : On b z indices c q) → find (λ l. l.dart) (s (w v.entry v.at)) all_links ≡ some (record { dart = s (w v.entry v.at); third = sewn (get_or x q 0) })
  found_met {q} v = found_left (λ l. l.dart) (s (w v.entry v.at)) (concat_map part (tab entry c)) (concat_map (face_links s x z kinds links) starts)
      (subst (λ (p : ℕ). find (λ l. l.dart) (s (w v.entry v.at)) (concat_map part (tab entry c)) ≡ some (record { dart = s (w v.entry v.at); third = sewn (get_or x p 0) })) (sym v.index)
      (part2_old part entry s x g.serials o part_is v.entry v.at v.below v.inside))

  -- a new dart on no face of part 2
  found_off : (q : ℕ) → q < k → ((e : ℕ) → e < c → get_or b q 0 ≡ get_or indices e 0 → ⊥)
      → find (λ l. l.dart) (get_or x q 0) all_links ≡ cond (mem (get_or b q 0) starts) (some (link_of s x kinds links q)) none
  found_off q h u = found_right (λ l. l.dart) (get_or x q 0) (concat_map part (tab entry c)) (concat_map (face_links s x z kinds links) starts)
      (part2_none part entry s x g.serials o part_is (get_or x q 0)
      (λ e j he hj f. let same = g.serials.new_differ q (get_or indices e 0 + j) h (dart_below o e j he hj) f in u e he (ap (λ (p : ℕ). get_or b p 0) same ∙ start_of_dart o e j he hj))
      (λ e j he hj f. g.serials.not_held q (w e j) h (o.met_below e j he hj) f))
      (link_found s x kinds links o.segs g.serials.new_differ starts g.before.all_start q h)

  found_unmet : (p : ℕ) → p < n → ((e j : ℕ) → e < c → j < get_or z (get_or indices e 0) 0 → w e j ≡ p → ⊥) → find (λ l. l.dart) (s p) all_links ≡ none
  found_unmet p h u = found_right (λ l. l.dart) (s p) (concat_map part (tab entry c)) (concat_map (face_links s x z kinds links) starts)
      (part2_none part entry s x g.serials o part_is (s p)
      (λ e j he hj f. g.serials.not_held (get_or indices e 0 + j) p (dart_below o e j he hj) h (sym f))
      (λ e j he hj f. u e j he hj (sym (g.serials.old_differ p (w e j) h (o.met_below e j he hj) f))))
      (critical_none s x kinds links o.segs g.serials p h starts g.before.all_start)

  new_linked_off : (q : ℕ) → q < k → ((e : ℕ) → e < c → get_or b q 0 ≡ get_or indices e 0 → ⊥) → (get_or kinds' q 0 ≡ 0 → ⊥)
      → find (λ l. l.dart) (get_or x q 0) all_links
      ≡ some (record { dart = get_or x q 0; third = third_in s (get_or kinds' q 0) (get_or links' q 0) })
  new_linked_off q h u v = by_cases (mem (get_or b q 0) starts)
      (λ t. found_off q h u ∙ ap (λ (d : Bool). cond d (some (link_of s x kinds links q)) none) t ∙ words (sym (kind_off q u)) (sym (link_off q u)))
      (λ t. absurd (v (kind_off q u ∙ g.before.kind_out q h t)))
    where
      words : {a a' f f' : ℕ} → a ≡ a' → f ≡ f' → ◌≡◌ {A = Option Link} (some (record { dart = get_or x q 0; third = third_in s a f })) (some (record { dart = get_or x q 0; third = third_in s a' f' }))
      words e f = rw (e, f) refl

  new_free_off : (q : ℕ) → q < k → ((e : ℕ) → e < c → get_or b q 0 ≡ get_or indices e 0 → ⊥) → get_or kinds' q 0 ≡ 0 → find (λ l. l.dart) (get_or x q 0) all_links ≡ none
  new_free_off q h u v = by_cases (mem (get_or b q 0) starts)
      (λ t. absurd (zero_two (get_or kinds q 0) (sym (kind_off q u) ∙ v) (g.before.kind_in q h t)))
      (λ t. found_off q h u ∙ ap (λ (d : Bool). cond d (some (link_of s x kinds links q)) none) t)
    where
      zero_two : (a : ℕ) → a ≡ 0 → is_critical_word a ≡ true → ⊥
      zero_two a e m = omega (arith, critical_two a m)

  new_linked_on : {q : ℕ} (v : On b z indices c q) → find (λ l. l.dart) (get_or x q 0) all_links ≡ some (record { dart = get_or x q 0; third = third_in s (get_or kinds' q 0) (get_or links' q 0) })
  new_linked_on {q} v =
      found_new v
      ∙ ap (λ (d : Third). some (record { dart = get_or x q 0; third = d }))
      (ap (λ (a : ℕ). sewn (s a)) (sym (link_on v)) ∙ sym (third_sewn s (get_or kinds' q 0) (get_or links' q 0) (kind_on v)))

-- the words are the links
pub linking : {A : Type 0} (part : A → List Link) (entry : ℕ → A) (m : List ℕ) {x b z indices starts kinds links kinds' links' : List ℕ} {n k c : ℕ} {w : ℕ → ℕ → ℕ}
    (g : Sewing2 (column m 0) x b z indices starts kinds links kinds' links' n k c w)
    → ((e : ℕ) → e < c → part (entry e) ≡ met_links (column m 0) x (get_or indices e 0) (get_or z (get_or indices e 0) 0) (w e))
    → Linking m n k x kinds' links' (concat_map part (tab entry c) ++ concat_map (face_links (column m 0) x z kinds links) starts)
linking part entry m {x} {b} {z} {indices} {starts} {kinds} {links} {kinds'} {links'} {n} {k} {c} {w} g part_is = record {
  kind_right = λ i h. ⊎_elim
      (λ (v : On b z indices c i). kind_sewn (kind_on part entry s g part_is v))
      (λ (u : (e : ℕ) → e < c → get_or b i 0 ≡ get_or indices e 0 → ⊥). both_words (sym (kind_off part entry s g part_is i u)) (sym (link_off part entry s g part_is i u)) (g.before.kind_right i h))
      (on_or_not g.meets i h);
  link_below =
      λ i h e. let v = sewn_on part entry s g part_is i h e in subst (λ (a : ℕ). a < n) (sym (link_on part entry s g part_is v))
      (g.meets.met_below v.entry v.at v.below v.inside);
  link_apart = λ i j hi hj ei ej f. let u = sewn_on part entry s g part_is i hi ei in let v = sewn_on part entry s g part_is j hj ej in
      let one =
      g.meets.met_differ u.entry u.at v.entry v.at u.below u.inside v.below v.inside
      (sym (link_on part entry s g part_is u) ∙ f ∙ link_on part entry s g part_is v)
      in
      u.index ∙ same_index one.0 one.1 ∙ sym v.index;
  new_free = λ i h e. ⊎_elim
      (λ (v : On b z indices c i). absurd (let f = sym e ∙ kind_on part entry s g part_is v in omega (arith, f)))
      (λ (u : (e : ℕ) → e < c → get_or b i 0 ≡ get_or indices e 0 → ⊥). new_free_off part entry s g part_is i h u e)
      (on_or_not g.meets i h);
  new_linked = λ i h e. ⊎_elim
      (λ (v : On b z indices c i). new_linked_on part entry s g part_is v)
      (λ (u : (e : ℕ) → e < c → get_or b i 0 ≡ get_or indices e 0 → ⊥). new_linked_off part entry s g part_is i h u e)
      (on_or_not g.meets i h);
  met = λ i h e. let v = sewn_on part entry s g part_is i h e in
      subst (λ (a : ℕ). find (λ l. l.dart) (s a) ls ≡ some (record { dart = s a; third = sewn (get_or x i 0) })) (sym (link_on part entry s g part_is v)) (found_met part entry s g part_is v);
  unmet = λ p h u. found_unmet part entry s g part_is p h (λ e j he hj f.
      u (get_or indices e 0 + j) (dart_below g.meets e j he hj) (g.kinds_put.inside e he j hj) (g.links_put.inside e he j hj ∙ f));
}
  where
    s : ℕ → ℕ
    s = column m 0

    ls : List Link
    ls = concat_map part (tab entry c) ++ concat_map (face_links (column m 0) x z kinds links) starts

    both_words : {a a' f f' : ℕ} → a ≡ a' → f ≡ f' → Kind a f → Kind a' f'
    both_words {a} {a'} {f} {f'} p q h = subst (λ (y : ℕ). Kind y f') p (subst (λ (y : ℕ). Kind a y) q h)

    same_index : {d e i j : ℕ} → d ≡ e → i ≡ j → get_or indices d 0 + i ≡ get_or indices e 0 + j
    same_index p q = rw (p, q) refl
