-- A block is sound exactly if its darts, looked up by serial, are right one by one. Assumes nothing.
use mathlib.Core.Path.{◌≡◌, refl, sym, ◌∙◌, ap, subst}
use mathlib.Core.Logic.{◌≢◌}
use mathlib.Core.Bool.{Bool, true, false, true≢false, not, ◌&&◌, ◌||◌}
use mathlib.Core.List.{List, [], ◌∷◌, map}
use Prim.Native.Nat.{ℕ, ◌^◌, ◌<◌, ◌≤◌}
use lib.Dec.{ltb, eqb}
use lib.ListN.{length}
use borrow.Author.Tests.{eqb-false, eq-eqb, ne_eqb, lt-ltb, le-leb, not-true}
use Rattle.model.specs.Lists.{all, any, mem, distinct, ascending}
use Rattle.model.specs.Values.{Label, Third, free, sewn, critical, Dart, Block, Limits, code, finite, same_point, is_free, is_sewn_to, is_critical_with}
use Rattle.model.specs.Cells.{serials, dart_at, next_in, opposite_in, previous_in, third_at, labels}
use Rattle.model.specs.Sound.{sewn_along, dart_in_range, ranges_right, coordinates_finite, link_right, links_right, third_right, thirds_right, label_right, labels_right, sewn_points, points_agree, sound_block}
use Rattle.laws.proofs.Members.{In, in_here, in_there, in_cons, ascending_distinct, distinct_not}
use Rattle.laws.proofs.Tests.{by_cases, and_intro, and_left, and_right, not_equal}
use Rattle.theory.proofs.BlockLaws.{at_held, Links, links_from, same_point_self, same_point_is}
use Rattle.theory.proofs.ImageLaws.{Parts, parts_of, parts_sound, Ranges, ranges_of}
use Rattle.agreement.proofs.Begins.{sewn_to_is, free_is, along_is, critical_is}

-- A SEWN DART: x to y
pub record SewnRight (ds : List Dart) (x y : ℕ) : Type 0 where
  pub here : In y (serials ds)
  pub back : third_at ds y ≡ sewn x
  pub other : y ≢ x
  pub on : ℕ
  pub goes_on : third_at ds (next_in ds x) ≡ sewn on
  pub meets : next_in ds on ≡ y
  pub one_point : (dart_at ds x).point ≡ (dart_at ds (next_in ds y)).point

-- A CRITICAL DART of block n, counter c: x with block o, label l
pub record CriticalRight (n c : ℕ) (ds : List Dart) (x o : ℕ) (l : Label) : Type 0 where
  pub next_label : Label
  pub goes_on : third_at ds (next_in ds x) ≡ critical o next_label
  pub elsewhere : o ≢ n
  pub own_below : (not (eqb l.maker n) || ltb l.number c) ≡ true

pub record Right (lim : Limits) (n c : ℕ) (ds : List Dart) : Type 0 where
  pub number_small : n ≤ 15
  pub counter_small : c < 2 ^ 32
  pub few_darts : length ds ≤ lim.block_darts
  pub in_order : ascending (serials ds) ≡ true
  pub in_range : (x : ℕ) → In x (serials ds) → dart_in_range (dart_at ds x) ≡ true
  pub finite_point : (x : ℕ) → In x (serials ds) → finite (dart_at ds x).point ≡ true
  pub next_held : (x : ℕ) → In x (serials ds) → In (next_in ds x) (serials ds)
  pub next_onto : (x : ℕ) → In x (serials ds) → (y : ℕ) × In y (serials ds) × (next_in ds y ≡ x)
  pub opposite_held : (x : ℕ) → In x (serials ds) → In (opposite_in ds x) (serials ds)
  pub opposite_twice : (x : ℕ) → In x (serials ds) → opposite_in ds (opposite_in ds x) ≡ x
  pub opposite_other : (x : ℕ) → In x (serials ds) → opposite_in ds x ≢ x
  pub ring_point : (x : ℕ) → In x (serials ds) → (dart_at ds x).point ≡ (dart_at ds (next_in ds (opposite_in ds x))).point
  pub free_on : (x : ℕ) → In x (serials ds) → third_at ds x ≡ free → third_at ds (next_in ds x) ≡ free
  pub sewn_right : (x y : ℕ) → In x (serials ds) → third_at ds x ≡ sewn y → SewnRight ds x y
  pub critical_right : (x o : ℕ) (l : Label) → In x (serials ds) → third_at ds x ≡ critical o l → CriticalRight n c ds x o l
  pub apart : (x y o p : ℕ) (l k : Label) → In x (serials ds) → In y (serials ds) → third_at ds x ≡ critical o l → third_at ds y ≡ critical p k → code l ≡ code k → x ≡ y

and4 : (a b c d : Bool) → (a && b && c && d) ≡ true → (a ≡ true) × (b ≡ true) × (c ≡ true) × (d ≡ true)
and4 a b c d p = let q = and_left (a && b && c) d p in let r = and_left (a && b) c q in (and_left a b r, and_right a b r, and_right (a && b) c q, and_right (a && b && c) d p)

-- the three kinds
pub by_third {ℓ} : {C : Type ℓ} (t : Third) → (t ≡ free → C) → ((y : ℕ) → t ≡ sewn y → C) → ((o : ℕ) (l : Label) → t ≡ critical o l → C) → C
by_third free f g h = f refl
by_third (sewn y) f g h = g y refl
by_third (critical o l) f g h = h o l refl

-- A TABLE OF DARTS
pub serial_held : (ds : List Dart) (x : ℕ) → In x (serials ds) → (dart_at ds x).serial ≡ x
serial_held ds x h = (at_held (λ d. true) ds (all_true ds) x h).1
  where
    all_true : (l : List Dart) → all (λ d. true) l ≡ true
    all_true [] = refl
    all_true (d ∷ l) = all_true l

first_at : (d : Dart) (ds : List Dart) → dart_at (d ∷ ds) d.serial ≡ d
unfolding dart_at
first_at d ds = rw (eq-eqb d.serial d.serial refl)

later_at : (d : Dart) (ds : List Dart) (x : ℕ) → distinct (serials (d ∷ ds)) ≡ true → In x (serials ds) → dart_at (d ∷ ds) x ≡ dart_at ds x
unfolding dart_at
later_at d ds x u h = rw (ne_eqb x d.serial (distinct_not d.serial (serials ds) u x h))

pub all_held : (p : Dart → Bool) (ds : List Dart) → distinct (serials ds) ≡ true → ((x : ℕ) → In x (serials ds) → p (dart_at ds x) ≡ true) → all p ds ≡ true
all_held p [] u h = refl
all_held p (d ∷ ds) u h = and_intro (ap p (sym (first_at d ds)) ∙ h d.serial (in_here d.serial (serials ds)))
    (all_held p ds (and_right (not (mem d.serial (serials ds))) _ u) (λ x k. ap p (sym (later_at d ds x u k)) ∙ h x (in_there x d.serial (serials ds) k)))

any_held : (p : Dart → Bool) (ds : List Dart) (x : ℕ) → distinct (serials ds) ≡ true → In x (serials ds) → p (dart_at ds x) ≡ true → any p ds ≡ true
any_held p [] x u h e = absurd (true≢false (sym h))
any_held p (d ∷ ds) x u h e = by_cases (p d) (λ q. rw q) (λ q. rw q (in_cons x d.serial (serials ds) h
    (λ s. absurd (true≢false (sym e ∙ ap (λ (y : ℕ). p (dart_at (d ∷ ds) y)) s ∙ ap p (first_at d ds) ∙ q)))
    (λ k. any_held p ds x (and_right (not (mem d.serial (serials ds))) _ u) k (ap p (sym (later_at d ds x u k)) ∙ e))))

-- ITS LABELS
abbrev codes : List Dart → List ℕ
codes ds = map code (labels ds)

codes_none : (d : Dart) (ds : List Dart) → d.third ≡ free → codes (d ∷ ds) ≡ codes ds
unfolding labels
codes_none d ds e = rw e

codes_sewn : (d : Dart) (ds : List Dart) (y : ℕ) → d.third ≡ sewn y → codes (d ∷ ds) ≡ codes ds
unfolding labels
codes_sewn d ds y e = rw e

codes_more : (d : Dart) (ds : List Dart) (o : ℕ) (l : Label) → d.third ≡ critical o l → codes (d ∷ ds) ≡ code l ∷ codes ds
unfolding labels
codes_more d ds o l e = rw e

code_there : (ds : List Dart) (x o : ℕ) (l : Label) → distinct (serials ds) ≡ true → In x (serials ds) → third_at ds x ≡ critical o l → In (code l) (codes ds)
code_there [] x o l u h e = absurd (true≢false (sym h))
code_there (d ∷ ds) x o l u h e = in_cons x d.serial (serials ds) h
    (λ s. let t : d.third ≡ critical o l = ap (λ (c : Dart). c.third) (sym (first_at d ds)) ∙ ap (third_at (d ∷ ds)) (sym s) ∙ e in
    subst (In (code l)) (sym (codes_more d ds o l t)) (in_here (code l) (codes ds)))
    (λ k. let later = code_there ds x o l (and_right (not (mem d.serial (serials ds))) _ u) k (ap (λ (c : Dart). c.third) (sym (later_at d ds x u k)) ∙ e) in
    by_third d.third
    (λ t. subst (In (code l)) (sym (codes_none d ds t)) later)
    (λ y t. subst (In (code l)) (sym (codes_sewn d ds y t)) later)
    (λ p m t. subst (In (code l)) (sym (codes_more d ds p m t)) (in_there (code l) (code m) (codes ds) later)))

-- a code that stands somewhere
pub record Stands (ds : List Dart) (v : ℕ) : Type 0 where
  pub dart : ℕ
  pub here : In dart (serials ds)
  pub other : ℕ
  pub label : Label
  pub third : third_at ds dart ≡ critical other label
  pub same : v ≡ code label

stands_later : (d : Dart) (ds : List Dart) (v : ℕ) → distinct (serials (d ∷ ds)) ≡ true → Stands ds v → Stands (d ∷ ds) v
stands_later d ds v u s = record {
  dart = s.dart;
  here = in_there s.dart d.serial (serials ds) s.here;
  other = s.other;
  label = s.label;
  third = ap (λ (c : Dart). c.third) (later_at d ds s.dart u s.here) ∙ s.third;
  same = s.same;
}

code_stands : (ds : List Dart) (v : ℕ) → distinct (serials ds) ≡ true → In v (codes ds) → Stands ds v
unfolding labels
code_stands [] v u h = absurd (true≢false (sym h))
code_stands (d ∷ ds) v u h =
    let later : In v (codes ds) → Stands (d ∷ ds) v = λ k. stands_later d ds v u (code_stands ds v (and_right (not (mem d.serial (serials ds))) _ u) k) in
    by_third d.third
    (λ t. later (subst (In v) (codes_none d ds t) h))
    (λ y t. later (subst (In v) (codes_sewn d ds y t) h))
    (λ o l t. in_cons v (code l) (codes ds) (subst (In v) (codes_more d ds o l t) h)
    (λ s. record { dart = d.serial; here = in_here d.serial (serials ds); other = o; label = l; third = ap (λ (c : Dart). c.third) (first_at d ds) ∙ t; same = s })
    later)

Apart : List Dart → Type 0
Apart ds = (x y o p : ℕ) (l k : Label) → In x (serials ds) → In y (serials ds) → third_at ds x ≡ critical o l → third_at ds y ≡ critical p k → code l ≡ code k → x ≡ y

codes_apart : (ds : List Dart) → distinct (serials ds) ≡ true → distinct (codes ds) ≡ true → Apart ds
unfolding Apart
codes_apart [] u q x y o p l k hx hy ex ey e = absurd (true≢false (sym hx))
codes_apart (d ∷ ds) u q x y o p l k hx hy ex ey e =
    in_cons x d.serial (serials ds) hx
    (λ sx. in_cons y d.serial (serials ds) hy (λ sy. sx ∙ sym sy)
    (λ ky. absurd (clash x y o p l k sx ky ex ey e)))
    (λ kx. in_cons y d.serial (serials ds) hy
    (λ sy. absurd (clash y x p o k l sy kx ey ex (sym e)))
    (λ ky. codes_apart ds u' rest x y o p l k kx ky (ap (λ (c : Dart). c.third) (sym (later_at d ds x u kx)) ∙ ex) (ap (λ (c : Dart). c.third) (sym (later_at d ds y u ky)) ∙ ey) e))
  where
    u' : distinct (serials ds) ≡ true
    u' = and_right (not (mem d.serial (serials ds))) _ u

    rest : distinct (codes ds) ≡ true
    rest = by_third d.third
        (λ t. subst (λ (l : List ℕ). distinct l ≡ true) (codes_none d ds t) q)
        (λ y t. subst (λ (l : List ℕ). distinct l ≡ true) (codes_sewn d ds y t) q)
        (λ o l t. and_right (not (mem (code l) (codes ds))) _ (subst (λ (l : List ℕ). distinct l ≡ true) (codes_more d ds o l t) q))

    clash : (x y o p : ℕ) (l k : Label) → x ≡ d.serial → In y (serials ds) → third_at (d ∷ ds) x ≡ critical o l → third_at (d ∷ ds) y ≡ critical p k → code l ≡ code k → ⊥
    clash x y o p l k sx ky ex ey e =
        let t : d.third ≡ critical o l = ap (λ (c : Dart). c.third) (sym (first_at d ds)) ∙ ap (third_at (d ∷ ds)) (sym sx) ∙ ex in
        let there = code_there ds y p k u' ky (ap (λ (c : Dart). c.third) (sym (later_at d ds y u ky)) ∙ ey) in
        distinct_not (code l) (codes ds) (subst (λ (l : List ℕ). distinct l ≡ true) (codes_more d ds o l t) q) (code k) there (sym e)

codes_distinct : (ds : List Dart) → distinct (serials ds) ≡ true → Apart ds → distinct (codes ds) ≡ true
unfolding Apart labels
codes_distinct [] u a = refl
codes_distinct (d ∷ ds) u a =
    let rest = codes_distinct ds u' (λ x y o p l k hx hy ex ey e.
    a x y o p l k (in_there x d.serial (serials ds) hx) (in_there y d.serial (serials ds) hy)
    (ap (λ (c : Dart). c.third) (later_at d ds x u hx) ∙ ex) (ap (λ (c : Dart). c.third) (later_at d ds y u hy) ∙ ey) e) in
    by_third d.third
    (λ t. subst (λ (l : List ℕ). distinct l ≡ true) (sym (codes_none d ds t)) rest)
    (λ y t. subst (λ (l : List ℕ). distinct l ≡ true) (sym (codes_sewn d ds y t)) rest)
    (λ o l t. subst (λ (l : List ℕ). distinct l ≡ true) (sym (codes_more d ds o l t)) (and_intro (new o l t (mem (code l) (codes ds)) refl) rest))
  where
    u' : distinct (serials ds) ≡ true
    u' = and_right (not (mem d.serial (serials ds))) _ u

    new : (o : ℕ) (l : Label) → d.third ≡ critical o l → (m : Bool) → mem (code l) (codes ds) ≡ m → not (mem (code l) (codes ds)) ≡ true
    new o l t false e = rw e
    new o l t true e =
        let s = code_stands ds (code l) u' e in
        let same = a d.serial s.dart o s.other l s.label (in_here d.serial (serials ds)) (in_there s.dart d.serial (serials ds) s.here)
        (ap (λ (c : Dart). c.third) (first_at d ds) ∙ t) (ap (λ (c : Dart). c.third) (later_at d ds s.dart u s.here) ∙ s.third) s.same in
        absurd (distinct_not d.serial (serials ds) u s.dart s.here (sym same))

-- A SOUND BLOCK IS RIGHT
module _ (lim : Limits) (b : Block) (sound : sound_block lim b ≡ true) where
  abbrev ds : List Dart
  ds = b.darts

  abbrev P : Parts lim b
  P = parts_of lim b sound

  abbrev R : Ranges lim b
  R = ranges_of lim b P.ranges

  apart_serials : distinct (serials ds) ≡ true
  apart_serials = ascending_distinct (serials ds) R.in_order

  pub links_of : Links ds
  links_of = links_from ds apart_serials P.links

  third_test : (x : ℕ) → In x (serials ds) → third_right ds (dart_at ds x) (third_at ds x) ≡ true
  unfolding thirds_right
  third_test x h = (at_held (λ d. third_right ds d d.third) ds P.thirds x h).0

  free_test : (x : ℕ) → In x (serials ds) → third_at ds x ≡ free → third_at ds (next_in ds x) ≡ free
  unfolding third_right
  free_test x h e = free_is (third_at ds (next_in ds x)) (subst (λ (t : Third). third_right ds (dart_at ds x) t ≡ true) e (third_test x h))

  points_test : (x : ℕ) → In x (serials ds)
      → (same_point (dart_at ds x).point (dart_at ds (next_in ds (opposite_in ds x))).point ≡ true) × (sewn_points ds (dart_at ds x) (third_at ds x) ≡ true)
  unfolding points_agree
  points_test x h =
      let p = (at_held (λ d. same_point d.point (dart_at ds (next_in ds d.opposite)).point && sewn_points ds d d.third) ds P.points x h).0 in
      let a = same_point (dart_at ds x).point (dart_at ds (next_in ds (opposite_in ds x))).point in
      (and_left a _ p, and_right a _ p)

  sewn_test : (x y : ℕ) → In x (serials ds) → third_at ds x ≡ sewn y → SewnRight ds x y
  unfolding third_right
  sewn_test x y h e =
      let s = serial_held ds x h in
      let t = and4 _ _ _ _ (subst (λ (t : Third). third_right ds (dart_at ds x) t ≡ true) e (third_test x h)) in
      let z = along_is ds y (third_at ds (next_in ds x)) t.3 in
      record {
        here = t.0;
        back = sewn_to_is (dart_at ds x).serial (third_at ds y) t.1 ∙ ap sewn s;
        other = λ q. eqb-false y (dart_at ds x).serial (not-true (eqb y (dart_at ds x).serial) t.2) (q ∙ sym s);
        on = z.0;
        goes_on = z.1;
        meets = z.2;
        one_point = same_point_is (dart_at ds x).point (dart_at ds (next_in ds y)).point (subst (λ (t : Third). sewn_points ds (dart_at ds x) t ≡ true) e (points_test x h).1);
      }

  labels_test : (all (λ d. label_right b.number b.counter d.third) ds ≡ true) × (distinct (codes ds) ≡ true)
  unfolding labels_right
  labels_test = let a = all (λ d. label_right b.number b.counter d.third) ds in (and_left a _ P.labels, and_right a _ P.labels)

  critical_test : (x o : ℕ) (l : Label) → In x (serials ds) → third_at ds x ≡ critical o l → CriticalRight b.number b.counter ds x o l
  unfolding third_right
  critical_test x o l h e =
      let c = critical_is o (third_at ds (next_in ds x)) (subst (λ (t : Third). third_right ds (dart_at ds x) t ≡ true) e (third_test x h)) in
      let t = subst (λ (t : Third). label_right b.number b.counter t ≡ true) e (at_held (λ d. label_right b.number b.counter d.third) ds labels_test.0 x h).0 in
      record {
        next_label = c.0;
        goes_on = c.1;
        elsewhere = eqb-false o b.number (not-true _ (and_left _ _ t));
        own_below = and_right (not (eqb o b.number)) _ t;
      }

  pub right_of : Right lim b.number b.counter ds
  unfolding coordinates_finite Apart
  right_of = record {
    number_small = R.number_small;
    counter_small = R.counter_small;
    few_darts = R.few_darts;
    in_order = R.in_order;
    in_range = λ x h. (at_held dart_in_range ds R.each_dart x h).0;
    finite_point = λ x h. (at_held (λ d. finite d.point) ds P.finite x h).0;
    next_held = links_of.next_in_block;
    next_onto = λ x h. (previous_in ds x, links_of.previous_in_block x h, links_of.next_previous x h);
    opposite_held = links_of.opposite_in_block;
    opposite_twice = links_of.opposite_opposite;
    opposite_other = links_of.opposite_other;
    ring_point = λ x h. same_point_is _ _ (points_test x h).0;
    free_on = free_test;
    sewn_right = sewn_test;
    critical_right = critical_test;
    apart = codes_apart ds apart_serials labels_test.1;
  }

-- A RIGHT BLOCK IS SOUND
module _ (lim : Limits) (n c : ℕ) (ds : List Dart) (R : Right lim n c ds) where
  u : distinct (serials ds) ≡ true
  u = ascending_distinct (serials ds) R.in_order

  abbrev b : Block
  b = record { number = n; counter = c; darts = ds }

  ranges_back : ranges_right lim b ≡ true
  unfolding ranges_right
  ranges_back = and_intro (and_intro (and_intro (and_intro (le-leb n 15 R.number_small) (lt-ltb c (2 ^ 32) R.counter_small)) (le-leb (length ds) lim.block_darts R.few_darts))
      (all_held dart_in_range ds u R.in_range)) R.in_order

  link_back : (x : ℕ) → In x (serials ds) → link_right ds (dart_at ds x) ≡ true
  unfolding link_right
  link_back x h =
      let s = serial_held ds x h in
      let y = R.next_onto x h in
      and_intro
      (and_intro
      (and_intro
      (and_intro (R.next_held x h)
      (any_held (λ e. eqb e.next (dart_at ds x).serial) ds y.0 u y.1
      (eq-eqb (next_in ds y.0) (dart_at ds x).serial (y.2 ∙ sym s))))
      (R.opposite_held x h)) (eq-eqb (opposite_in ds (opposite_in ds x)) (dart_at ds x).serial (R.opposite_twice x h ∙ sym s)))
      (not_equal (opposite_in ds x) (dart_at ds x).serial (λ q. R.opposite_other x h (q ∙ s)))

  third_back : (x : ℕ) → In x (serials ds) → third_right ds (dart_at ds x) (third_at ds x) ≡ true
  unfolding third_right
  third_back x h = by_third (third_at ds x)
      (λ e. subst (λ (t : Third). third_right ds (dart_at ds x) t ≡ true) (sym e) (ap is_free (R.free_on x h e)))
      (λ y e. let w = R.sewn_right x y h e in
      let s = serial_held ds x h in
      subst (λ (t : Third). third_right ds (dart_at ds x) t ≡ true) (sym e)
      (and_intro (and_intro (and_intro w.here (ap (is_sewn_to (dart_at ds x).serial) w.back ∙ eq-eqb (dart_at ds x).serial x s)) (not_equal y (dart_at ds x).serial (λ q. w.other (q ∙ s))))
      (ap (sewn_along ds y) w.goes_on ∙ eq-eqb (next_in ds w.on) y w.meets)))
      (λ o l e. let w = R.critical_right x o l h e in
      subst (λ (t : Third). third_right ds (dart_at ds x) t ≡ true) (sym e) (ap (is_critical_with o) w.goes_on ∙ eq-eqb o o refl))

  label_back : (x : ℕ) → In x (serials ds) → label_right n c (third_at ds x) ≡ true
  label_back x h = by_third (third_at ds x)
      (λ e. ap (label_right n c) e)
      (λ y e. ap (label_right n c) e)
      (λ o l e. let w = R.critical_right x o l h e in ap (label_right n c) e ∙ and_intro (not_equal o n w.elsewhere) w.own_below)

  point_back : (x : ℕ) → In x (serials ds) → (same_point (dart_at ds x).point (dart_at ds (next_in ds (opposite_in ds x))).point && sewn_points ds (dart_at ds x) (third_at ds x)) ≡ true
  point_back x h = and_intro (same_point_self _ _ (R.ring_point x h)) (by_third (third_at ds x)
      (λ e. ap (sewn_points ds (dart_at ds x)) e)
      (λ y e. ap (sewn_points ds (dart_at ds x)) e ∙ same_point_self _ _ (R.sewn_right x y h e).one_point)
      (λ o l e. ap (sewn_points ds (dart_at ds x)) e))

  pub right_sound : sound_block lim b ≡ true
  unfolding coordinates_finite links_right thirds_right labels_right points_agree Apart
  right_sound = parts_sound lim b (record {
    ranges = ranges_back;
    finite = all_held (λ d. finite d.point) ds u R.finite_point;
    links = all_held (link_right ds) ds u link_back;
    thirds = all_held (λ d. third_right ds d d.third) ds u third_back;
    labels = and_intro (all_held (λ d. label_right n c d.third) ds u label_back) (codes_distinct ds u R.apart);
    points = all_held (λ d. same_point d.point (dart_at ds (next_in ds d.opposite)).point && sewn_points ds d d.third) ds u point_back;
  })
