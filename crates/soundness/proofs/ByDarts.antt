-- A sound block in two halves: its links and points as functions of serials, and its third links as another function, both ways.
-- Assumes nothing.
use mathlib.Core.Path.{◌≡◌, refl, sym, ◌∙◌, ap, subst}
use mathlib.Core.Logic.{◌≢◌}
use mathlib.Core.Bool.{true, not, ◌&&◌}
use mathlib.Core.List.{List}
use Prim.Native.Nat.{ℕ, suc, ◌<◌, ◌≤◌, ◌^◌}
use native.Mathlib.Omega.{arith}
use lib.Dec.{leb, ltb, eqb}
use lib.ListN.{length}
use borrow.Author.Tests.{eqb-false, leb-true, le-leb, ltb-true, lt-ltb, not-true}
use Rattle.model.specs.Lists.{distinct, ascending}
use Rattle.model.specs.Values.{Point, Label, Third, free, sewn, critical, Dart, Block, Limits, serial_bound, code, label_key, finite}
use Rattle.model.specs.Cells.{dart_at, next_in, opposite_in, third_at, serials}
use Rattle.model.specs.Sound.{third_in_range, dart_in_range, label_right, sound_block}
use Rattle.laws.proofs.Members.{In, ascending_distinct}
use Rattle.laws.proofs.Tests.{and_intro, and_left, and_right, not_equal}
use Rattle.soundness.proofs.Pointwise.{by_third, serial_held, right_of, right_sound}
use Rattle.soundness.proofs.Rows.{Elem, elem_find, key_row, zero_not_suc}

-- LOOKUPS OF DARTS
pub dart_there : (ds : List Dart) → distinct (serials ds) ≡ true → (d : Dart) → Elem d ds → dart_at ds d.serial ≡ d
unfolding dart_at
dart_there ds u d h = rw (elem_find (λ d. d.serial) ds u d h)

-- the row of a serial that is held
pub dart_held : (ds : List Dart) → distinct (serials ds) ≡ true → (x : ℕ) → In x (serials ds) → Elem (dart_at ds x) ds
dart_held ds u x h =
    let r = key_row (λ d. d.serial) x ds h in
    subst (λ (e : Dart). Elem e ds) (sym (ap (dart_at ds) r.2 ∙ dart_there ds u r.0 r.1)) r.1

-- LINKS AND POINTS
pub record Frame (S : List ℕ) (nx op : ℕ → ℕ) (pt : ℕ → Point) : Type 0 where
  pub next_stays : (x : ℕ) → In x S → In (nx x) S
  pub next_onto : (x : ℕ) → In x S → (y : ℕ) × In y S × (nx y ≡ x)
  pub opposite_stays : (x : ℕ) → In x S → In (op x) S
  pub opposite_twice : (x : ℕ) → In x S → op (op x) ≡ x
  pub opposite_other : (x : ℕ) → In x S → op x ≢ x
  pub ring_point : (x : ℕ) → In x S → pt x ≡ pt (nx (op x))
  pub point_finite : (x : ℕ) → In x S → finite (pt x) ≡ true
  pub serial_low : (x : ℕ) → In x S → 1 ≤ x
  pub serial_high : (x : ℕ) → In x S → x < serial_bound

abbrev pub point_of : List Dart → ℕ → Point
point_of ds x = (dart_at ds x).point

-- THIRD LINKS: what a dart's third link says of those it leads to
abbrev pub ThirdRight : List ℕ → (ℕ → ℕ) → (ℕ → Point) → (ℕ → Third) → ℕ → Third → Type 0
ThirdRight S nx pt T x free = T (nx x) ≡ free
ThirdRight S nx pt T x (sewn y) = In y S × (T y ≡ sewn x) × (y ≢ x) × ((z : ℕ) × (T (nx x) ≡ sewn z) × (nx z ≡ y)) × (pt x ≡ pt (nx y))
ThirdRight S nx pt T x (critical o l) = (m : Label) × (T (nx x) ≡ critical o m)

pub record Good (S : List ℕ) (nx : ℕ → ℕ) (pt : ℕ → Point) (me counter : ℕ) (T : ℕ → Third) : Type 0 where
  pub in_range : (x : ℕ) → In x S → third_in_range (T x) ≡ true
  pub own : (x : ℕ) → In x S → label_right me counter (T x) ≡ true
  pub right : (x : ℕ) → In x S → (t : Third) → T x ≡ t → ThirdRight S nx pt T x t
  pub apart : (x y v : ℕ) → In x S → In y S → label_key (T x) ≡ suc v → label_key (T y) ≡ suc v → x ≡ y

-- a third link with a key is critical
pub record Keyed (t : Third) (v : ℕ) : Type 0 where
  pub other : ℕ
  pub label : Label
  pub is : t ≡ critical other label
  pub code_is : code label ≡ v

keyed : (t : Third) (v : ℕ) → label_key t ≡ suc v → Keyed t v
keyed free v e = absurd (zero_not_suc v e)
keyed (sewn y) v e = absurd (zero_not_suc v e)
keyed (critical o l) v e = record { other = o; label = l; is = refl; code_is = omega arith }

-- A BLOCK
module _ (lim : Limits) (b : Block) where
  abbrev ds : List Dart
  ds = b.darts

  abbrev S : List ℕ
  S = serials b.darts

  abbrev GoodIn : (ℕ → Third) → Type 0
  GoodIn T = Good (serials b.darts) (next_in b.darts) (point_of b.darts) b.number b.counter T

  module _ (s : sound_block lim b ≡ true) where
    pub serials_once : distinct S ≡ true
    serials_once = ascending_distinct S (right_of lim b s).in_order

    low_high : (x : ℕ) → In x S → ((leb 1 (dart_at ds x).serial && ltb (dart_at ds x).serial serial_bound) ≡ true) × (third_in_range (third_at ds x) ≡ true)
    unfolding dart_in_range
    low_high x h = let two = leb 1 (dart_at ds x).serial && ltb (dart_at ds x).serial serial_bound in let e = (right_of lim b s).in_range x h in (and_left two _ e, and_right two _ e)

    pub frame_of : Frame S (next_in ds) (opposite_in ds) (point_of ds)
    frame_of = record {
      next_stays = (right_of lim b s).next_held;
      next_onto = (right_of lim b s).next_onto;
      opposite_stays = (right_of lim b s).opposite_held;
      opposite_twice = (right_of lim b s).opposite_twice;
      opposite_other = (right_of lim b s).opposite_other;
      ring_point = (right_of lim b s).ring_point;
      point_finite = (right_of lim b s).finite_point;
      serial_low = λ x h. subst (λ (y : ℕ). 1 ≤ y) (serial_held ds x h) (leb-true 1 _ (and_left (leb 1 (dart_at ds x).serial) _ (low_high x h).0));
      serial_high = λ x h. subst (λ (y : ℕ). y < serial_bound) (serial_held ds x h) (ltb-true _ serial_bound (and_right (leb 1 (dart_at ds x).serial) _ (low_high x h).0));
    }

    right_at : (x : ℕ) → In x S → (t : Third) → third_at ds x ≡ t → ThirdRight S (next_in ds) (point_of ds) (third_at ds) x t
    right_at x h free e = (right_of lim b s).free_on x h e
    right_at x h (critical o l) e = let r = (right_of lim b s).critical_right x o l h e in (r.next_label, r.goes_on)
    right_at x h (sewn y) e = let r = (right_of lim b s).sewn_right x y h e in (r.here, r.back, r.other, (r.on, r.goes_on, r.meets), r.one_point)

    own_at : (x : ℕ) → In x S → label_right b.number b.counter (third_at ds x) ≡ true
    own_at x h = by_third (third_at ds x)
        (λ e. ap (label_right b.number b.counter) e)
        (λ y e. ap (label_right b.number b.counter) e)
        (λ o l e. let r = (right_of lim b s).critical_right x o l h e in ap (label_right b.number b.counter) e ∙ and_intro (not_equal o b.number r.elsewhere) r.own_below)

    pub good_of : GoodIn (third_at ds)
    good_of = record {
      in_range = λ x h. (low_high x h).1;
      own = own_at;
      right = right_at;
      apart = λ x y v h k e f.
          let p = keyed (third_at ds x) v e in
          let q = keyed (third_at ds y) v f in
          (right_of lim b s).apart x y p.other q.other p.label q.label h k p.is q.is (p.code_is ∙ sym q.code_is);
    }

  -- and back
  module _ (low : b.number ≤ 15) (small : b.counter < 2 ^ 32) (few : length ds ≤ lim.block_darts) (order : ascending S ≡ true)
      (F : Frame S (next_in ds) (opposite_in ds) (point_of ds)) (T : ℕ → Third) (agree : (x : ℕ) → In x S → third_at ds x ≡ T x) (G : GoodIn T) where
    dart_range : (x : ℕ) → In x S → dart_in_range (dart_at ds x) ≡ true
    unfolding dart_in_range
    dart_range x h = rw (agree x h, serial_held ds x h) (and_intro (and_intro (le-leb 1 x (F.serial_low x h)) (lt-ltb x serial_bound (F.serial_high x h))) (G.in_range x h))

    right_there : (x : ℕ) → In x S → (t : Third) → third_at ds x ≡ t → ThirdRight S (next_in ds) (point_of ds) T x t
    right_there x h t e = G.right x h t (sym (agree x h) ∙ e)

    next_agree : (x : ℕ) → In x S → third_at ds (next_in ds x) ≡ T (next_in ds x)
    next_agree x h = agree (next_in ds x) (F.next_stays x h)

    own_there : (x o : ℕ) (l : Label) → In x S → third_at ds x ≡ critical o l → label_right b.number b.counter (critical o l) ≡ true
    own_there x o l h e = subst (λ (t : Third). label_right b.number b.counter t ≡ true) (sym (agree x h) ∙ e) (G.own x h)

    key_there : (x o : ℕ) (l : Label) → In x S → third_at ds x ≡ critical o l → label_key (T x) ≡ suc (code l)
    key_there x o l h e = ap label_key (sym (agree x h) ∙ e)

    pub sound_back : sound_block lim b ≡ true
    sound_back = right_sound lim b.number b.counter ds (record {
      number_small = low;
      counter_small = small;
      few_darts = few;
      in_order = order;
      in_range = dart_range;
      finite_point = F.point_finite;
      next_held = F.next_stays;
      next_onto = F.next_onto;
      opposite_held = F.opposite_stays;
      opposite_twice = F.opposite_twice;
      opposite_other = F.opposite_other;
      ring_point = F.ring_point;
      free_on = λ x h e. next_agree x h ∙ right_there x h free e;
      sewn_right = λ x y h e. let r = right_there x h (sewn y) e in
          record { here = r.0; back = agree y r.0 ∙ r.1; other = r.2; on = r.3.0; goes_on = next_agree x h ∙ r.3.1; meets = r.3.2; one_point = r.4 };
      critical_right = λ x o l h e.
          let r = right_there x h (critical o l) e in
          let w = own_there x o l h e in
          record {
            next_label = r.0;
            goes_on = next_agree x h ∙ r.1;
            elsewhere = eqb-false o b.number (not-true _ (and_left (not (eqb o b.number)) _ w));
            own_below = and_right (not (eqb o b.number)) _ w;
          };
      apart = λ x y o p l k h j e f q. G.apart x y (code l) h j (key_there x o l h e) (key_there y p k j f ∙ ap suc (sym q));
    })
