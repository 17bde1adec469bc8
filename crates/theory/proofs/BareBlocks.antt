-- A block without its points, under the least counter: its links are as they were, and it is sound. Assumes nothing.
use mathlib.Core.Path.{◌≡◌, refl, sym, ◌∙◌, ap}
use mathlib.Core.Bool.{Bool, true, cond, not, ◌&&◌, ◌||◌}
use mathlib.Core.List.{List, [], ◌∷◌, map}
use mathlib.Core.Option
use mathlib.Core.Option.{Option, none, some}
use Prim.Native.Nat.{ℕ, suc, ◌<◌, ◌≤◌, ◌^◌}
use native.Mathlib.Omega.{arith}
use lib.Dec.{leb, ltb, eqb}
use lib.ListN.{length, length-map}
use borrow.Author.Tests.{leb-true, leb-false, le-leb, ltb-true, lt-ltb}
use Rattle.laws.proofs.Tests.{by_cases, and_left, and_right, and_intro, find_map, yes_first}
use Rattle.laws.proofs.Members.{all_map, any_map, map_map, collect_map}
use Rattle.laws.proofs.Maps.{all_weaken}
use Rattle.model.specs.Lists.{all, ascending, collect, find, first_no}
use Rattle.model.specs.Values.{Label, Third, free, sewn, critical, Dart, no_point, no_dart, or_no_dart, Limits, serial_bound, number_bound, label_of, same_point, finite, finite_bits}
use Rattle.model.specs.Cells.{serials, dart_at, next_in, opposite_in, third_at, labels}
use Rattle.model.specs.Sound.{dart_in_range, ranges_right, coordinates_finite, link_right, links_right, sewn_along, third_right, thirds_right, label_right, labels_right, sewn_points, points_agree, sound_block}
use Rattle.model.specs.Image.{counter_above, new_block}
use Rattle.model.specs.Pages.{Row, Paged, row_of, dart_of, block_of, row_ok, paged_ok, paged_checks}
use Rattle.theory.proofs.ImageLaws.{parts_sound}
use Rattle.theory.proofs.DemandTwo.{ok_third}
use Rattle.theory.proofs.PageLaws.{PagedRight, paged_right, row_small, row_positive}

-- ONE DART
abbrev pub bare : Dart → Dart
bare d = dart_of (row_of d)

pub bare_at : (ds : List Dart) (x : ℕ) → dart_at (map bare ds) x ≡ bare (dart_at ds x)
unfolding dart_at
bare_at ds x = ap or_no_dart (find_map (λ d. d.serial) bare (λ d. refl) x ds) ∙ through (find (λ d. d.serial) x ds)
  where
    through : (o : Option Dart) → or_no_dart (Option.map bare o) ≡ bare (or_no_dart o)
    through none = unfold no_dart in refl
    through (some d) = refl

pub bare_serials : (ds : List Dart) → serials (map bare ds) ≡ serials ds
bare_serials ds = map_map bare (λ (d : Dart). d.serial) ds

next_bare : (ds : List Dart) (x : ℕ) → next_in (map bare ds) x ≡ next_in ds x
next_bare ds x = ap (λ (d : Dart). d.next) (bare_at ds x)

opposite_bare : (ds : List Dart) (x : ℕ) → opposite_in (map bare ds) x ≡ opposite_in ds x
opposite_bare ds x = ap (λ (d : Dart). d.opposite) (bare_at ds x)

third_bare : (ds : List Dart) (x : ℕ) → third_at (map bare ds) x ≡ third_at ds x
third_bare ds x = ap (λ (d : Dart). d.third) (bare_at ds x)

-- LINKS
link_same : (ds : List Dart) (d : Dart) → link_right (map bare ds) (bare d) ≡ link_right ds d
unfolding link_right
link_same ds d = rw (bare_serials ds, any_map (λ e. eqb e.next d.serial) bare ds, opposite_bare ds d.opposite) refl

pub links_bare : (ds : List Dart) → links_right (map bare ds) ≡ links_right ds
unfolding links_right
links_bare ds = all_map (link_right (map bare ds)) bare ds ∙ ap (λ (p : Dart → Bool). all p ds) (λ i d. link_same ds d i)

along_same : (ds : List Dart) (y : ℕ) (t : Third) → sewn_along (map bare ds) y t ≡ sewn_along ds y t
along_same ds y free = refl
along_same ds y (sewn z) = rw (next_bare ds z) refl
along_same ds y (critical o l) = refl

third_same : (ds : List Dart) (d : Dart) (t : Third) → third_right (map bare ds) (bare d) t ≡ third_right ds d t
unfolding third_right
third_same ds d free = rw (third_bare ds d.next) refl
third_same ds d (sewn y) = rw (bare_serials ds, third_bare ds y, third_bare ds d.next, along_same ds y (third_at ds d.next)) refl
third_same ds d (critical o l) = rw (third_bare ds d.next) refl

pub thirds_bare : (ds : List Dart) → thirds_right (map bare ds) ≡ thirds_right ds
unfolding thirds_right
thirds_bare ds = all_map (λ d. third_right (map bare ds) d d.third) bare ds ∙ ap (λ (p : Dart → Bool). all p ds) (λ i d. third_same ds d d.third i)

pub labels_bare : (ds : List Dart) → labels (map bare ds) ≡ labels ds
unfolding labels
labels_bare ds = collect_map bare (λ d. label_of d.third) ds

-- THE LEAST COUNTER
-- it is above each own number
pub least_enough : (me old c : ℕ) (ds : List Dart) → all (λ d. label_right me old d.third) ds ≡ true → counter_above me (labels ds) ≤ c
    → all (λ d. label_right me c d.third) ds ≡ true
unfolding labels
least_enough me old c [] a h = refl
least_enough me old c (d ∷ ds) a h =
    let here = and_left (label_right me old d.third) _ a in
    let later = and_right (label_right me old d.third) _ a in
    one d.third here h (least_enough me old c ds later)
  where
    own : (l : Label) (k : ℕ) → cond (eqb l.maker me && leb k l.number) (suc l.number) k ≤ c → (k ≤ c) × ((not (eqb l.maker me) || ltb l.number c) ≡ true)
    own l k h = by_cases (eqb l.maker me)
        (λ e. by_cases (leb k l.number)
        (λ f. let g : suc l.number ≤ c = rw (e, f) at h in (omega (arith, leb-true k l.number f), rw e (lt-ltb l.number c g)))
        (λ f. let g : k ≤ c = rw (e, f) at h in (g, rw e (lt-ltb l.number c (omega (arith, leb-false k l.number f))))))
        (λ e. let g : k ≤ c = rw e at h in (g, rw e refl))

    one : (t : Third) → label_right me old t ≡ true → counter_above me (collect (λ d. label_of d.third) (record { serial = 0; next = 0; opposite = 0; third = t; point = no_point } ∷ ds)) ≤ c
        → (counter_above me (collect (λ d. label_of d.third) ds) ≤ c → all (λ d. label_right me c d.third) ds ≡ true)
        → (label_right me c t && all (λ d. label_right me c d.third) ds) ≡ true
    one free r h ih = ih h
    one (sewn y) r h ih = ih h
    one (critical o l) r h ih =
        let q = own l (counter_above me (collect (λ d. label_of d.third) ds)) h in
        and_intro (and_intro (and_left (not (eqb o me)) _ r) q.1) (ih q.0)

-- and no greater than any counter that is
pub least_most : (me c : ℕ) (ds : List Dart) → all (λ d. label_right me c d.third) ds ≡ true → counter_above me (labels ds) ≤ c
unfolding labels
least_most me c [] a = omega arith
least_most me c (d ∷ ds) a = one d.third (and_left (label_right me c d.third) _ a) (least_most me c ds (and_right (label_right me c d.third) _ a))
  where
    one : (t : Third) → label_right me c t ≡ true → counter_above me (collect (λ d. label_of d.third) ds) ≤ c
        → counter_above me (collect (λ d. label_of d.third) (record { serial = 0; next = 0; opposite = 0; third = t; point = no_point } ∷ ds)) ≤ c
    one free r h = h
    one (sewn y) r h = h
    one (critical o l) r h = by_cases (eqb l.maker me)
        (λ e. let q : ltb l.number c ≡ true = rw e at (and_right (not (eqb o me)) _ r) in
        by_cases (leb (counter_above me (collect (λ d. label_of d.third) ds)) l.number)
        (λ f. rw (e, f) (omega (arith, ltb-true l.number c q)))
        (λ f. rw (e, f) h))
        (λ e. rw e h)

-- A BLOCK FROM PAGES
each_yes : {A : Type 0} (p : A → Bool) (l : List A) → ((x : A) → p x ≡ true) → all p l ≡ true
each_yes p [] h = refl
each_yes p (x ∷ l) h = and_intro (h x) (each_yes p l h)

module _ (rows : List Row) where
  abbrev ds : List Dart
  ds = map dart_of rows

  point_at : (x : ℕ) → (dart_at ds x).point ≡ no_point
  point_at x = ap (λ (l : List Dart). (dart_at l x).point) (sym (map_map dart_of bare rows)) ∙ ap (λ (d : Dart). d.point) (bare_at ds x)

  zero_finite : finite no_point ≡ true
  unfolding finite finite_bits no_point
  zero_finite = refl

  zero_same : same_point no_point no_point ≡ true
  unfolding same_point no_point
  zero_same = refl

  finite_all : coordinates_finite ds ≡ true
  unfolding coordinates_finite
  finite_all = all_map (λ d. finite d.point) dart_of rows ∙ each_yes (λ r. finite (dart_of r).point) rows (λ r. zero_finite)

  same_at : (x : ℕ) → same_point no_point (dart_at ds x).point ≡ true
  same_at x = ap (same_point no_point) (point_at x) ∙ zero_same

  sewn_same : (r : Row) (t : Third) → sewn_points ds (dart_of r) t ≡ true
  sewn_same r free = refl
  sewn_same r (sewn y) = same_at (next_in ds y)
  sewn_same r (critical o l) = refl

  points_all : points_agree ds ≡ true
  unfolding points_agree
  points_all =
      all_map (λ d. same_point d.point (dart_at ds (next_in ds d.opposite)).point && sewn_points ds d d.third) dart_of rows
      ∙ each_yes (λ r. same_point no_point (dart_at ds (next_in ds r.opposite)).point && sewn_points ds (dart_of r) r.third) rows
      (λ r. and_intro (same_at (next_in ds r.opposite)) (sewn_same r r.third))

row_in_range : (r : Row) → row_ok r ≡ true → dart_in_range (dart_of r) ≡ true
unfolding dart_in_range
row_in_range r e =
    let s = row_small r e in
    and_intro (and_intro (le-leb 1 r.serial (row_positive r e)) (lt-ltb r.serial serial_bound s.serial)) (ok_third r.third s.third)

module _ (lim : Limits) (w : Paged) (ok : paged_ok lim w ≡ true) where
  right : PagedRight lim w
  right = paged_right lim w ok

  -- under any counter
  pub counted_ranges : (c : ℕ) → c < 2 ^ 32 → ranges_right lim (record { number = w.number; counter = c; darts = map dart_of w.rows }) ≡ true
  unfolding ranges_right
  counted_ranges c h = and_intro (and_intro (and_intro (and_intro (le-leb w.number 15 right.number) (lt-ltb c (2 ^ 32) h))
      (ap (λ (n : ℕ). leb n lim.block_darts) (length-map w.rows dart_of) ∙ le-leb (length w.rows) lim.block_darts right.few))
      (all_map dart_in_range dart_of w.rows ∙ all_weaken row_ok (λ r. dart_in_range (dart_of r)) w.rows row_in_range right.each))
      (ap ascending (map_map dart_of (λ (d : Dart). d.serial) w.rows) ∙ right.in_order)

  paged_ranges : (block_of w).counter < 2 ^ 32 → ranges_right lim (block_of w) ≡ true
  unfolding block_of new_block
  paged_ranges c = counted_ranges (counter_above w.number (labels (map dart_of w.rows))) c

  -- 5 to 7 answered yes
  pub paged_sound : first_no (paged_checks (block_of w)) ≡ 0 → sound_block lim (block_of w) ≡ true
  unfolding paged_checks block_of new_block
  paged_sound e =
      let b = block_of w in
      let q5 = yes_first 5 (links_right b.darts) _ (λ z. omega arith) e in
      let q6 = yes_first 6 (thirds_right b.darts) _ (λ z. omega arith) q5.1 in
      let q7 = yes_first 7 (labels_right b && ltb b.counter number_bound) _ (λ z. omega arith) q6.1 in
      parts_sound lim b (record {
        ranges = paged_ranges (ltb-true b.counter number_bound (and_right (labels_right b) _ q7.0));
        finite = finite_all w.rows;
        links = q5.0;
        thirds = q6.0;
        labels = and_left (labels_right b) _ q7.0;
        points = points_all w.rows;
      })
