-- A sound block whose darts get other third links: sound where those are good. Assumes nothing.
use mathlib.Core.Path.{◌≡◌, refl, sym, ◌∙◌, ap, subst}
use mathlib.Core.Logic.{inl}
use mathlib.Core.Bool.{true}
use mathlib.Core.List.{List, [], ◌∷◌, ◌++◌, map}
use Prim.Native.Nat.{ℕ}
use native.Mathlib.Omega.{arith}
use lib.Dec.{eqb}
use lib.ListN.{length-map}
use Rattle.model.specs.Lists.{find}
use Rattle.model.specs.Values.{Third, Dart, Block, Limits, or_no_dart}
use Rattle.model.specs.Cells.{dart_at, next_in, opposite_in, third_at, serials}
use Rattle.model.specs.Sound.{sound_block}
use Rattle.model.specs.Links.{Link, third_or, relink}
use Rattle.laws.proofs.Members.{In, map_map}
use Rattle.laws.proofs.Tests.{by_cases, find_map}
use Rattle.theory.proofs.BlockLaws.{held_found}
use Rattle.theory.proofs.ImageLaws.{parts_of, ranges_of}
use Rattle.soundness.proofs.Beside.{frame_cong, good_join}
use Rattle.soundness.proofs.ByDarts.{Frame, point_of, Good, frame_of, sound_back}
use Rattle.soundness.proofs.Pointwise.{serial_held}
use Rattle.soundness.proofs.Rows.{in_elem}

-- LINKS AFTER LINKS
abbrev pub after : List Link → (ℕ → Third) → ℕ → Third
after ks T x = third_or (T x) (find (λ k. k.dart) x ks)

pub after_append : (ks js : List Link) (T : ℕ → Third) → after ks (after js T) ≡ after (ks ++ js) T
after_append ks js T = λ i x. go ks x i
  where
    go : (ks : List Link) (x : ℕ) → after ks (after js T) x ≡ after (ks ++ js) T x
    go [] x = refl
    go (k ∷ ks) x = by_cases (eqb x k.dart) (λ e. rw e) (λ e. rw e (go ks x))

-- THE DARTS WITH THEIR NEW THIRD LINKS
module _ (ks : List Link) (ds : List Dart) where
  abbrev linked_darts : List Dart
  linked_darts = map (relink ks) ds

  pub same_serial : (d : Dart) → (relink ks d).serial ≡ d.serial
  unfolding relink
  same_serial d = refl

  linked_serials : serials linked_darts ≡ serials ds
  unfolding relink
  linked_serials = map_map (relink ks) (λ d. d.serial) ds

  linked_at : (x : ℕ) → In x (serials ds) → dart_at linked_darts x ≡ relink ks (dart_at ds x)
  unfolding dart_at
  linked_at x h = let r = held_found x ds h in ap or_no_dart (find_map (λ d. d.serial) (relink ks) same_serial x ds) ∙ rw r.1

  linked_next : (x : ℕ) → In x (serials ds) → next_in linked_darts x ≡ next_in ds x
  unfolding relink
  linked_next x h = ap (λ (d : Dart). d.next) (linked_at x h)

  linked_opposite : (x : ℕ) → In x (serials ds) → opposite_in linked_darts x ≡ opposite_in ds x
  unfolding relink
  linked_opposite x h = ap (λ (d : Dart). d.opposite) (linked_at x h)

  linked_point : (x : ℕ) → In x (serials ds) → point_of linked_darts x ≡ point_of ds x
  unfolding relink
  linked_point x h = ap (λ (d : Dart). d.point) (linked_at x h)

  linked_third : (x : ℕ) → In x (serials ds) → third_at linked_darts x ≡ after ks (third_at ds) x
  unfolding relink
  linked_third x h = ap (λ (d : Dart). d.third) (linked_at x h) ∙ ap (λ (y : ℕ). third_or (third_at ds x) (find (λ k. k.dart) y ks)) (serial_held ds x h)

-- a sound block whose third links are replaced by good ones is sound
pub relinked_sound : (lim : Limits) (b : Block) (ks : List Link) → sound_block lim b ≡ true
    → Good (serials b.darts) (next_in b.darts) (point_of b.darts) b.number b.counter (after ks (third_at b.darts))
    → sound_block lim (record { number = b.number; counter = b.counter; darts = map (relink ks) b.darts }) ≡ true
relinked_sound lim b ks s G =
    let r = ranges_of lim b (parts_of lim b s).ranges in
    let ds = b.darts in
    let e = linked_serials ks ds in
    let T = after ks (third_at ds) in
    sound_back lim (record { number = b.number; counter = b.counter; darts = map (relink ks) ds }) r.number_small
    r.counter_small (omega (arith, length-map ds (relink ks), r.few_darts)) (rw e r.in_order)
    (subst (λ (S : List ℕ). Frame S (next_in (map (relink ks) ds)) (opposite_in (map (relink ks) ds)) (point_of (map (relink ks) ds))) (sym e)
    (frame_cong (serials ds) _ _ _ _ _ _ (linked_next ks ds) (linked_opposite ks ds) (linked_point ks ds) (frame_of lim b s)))
    T (λ x h. linked_third ks ds x (rw e at h))
    (subst (λ (S : List ℕ). Good S (next_in (map (relink ks) ds)) (point_of (map (relink ks) ds)) b.number b.counter T) (sym e)
    (good_join (serials ds) [] (serials ds) (λ x h. inl h) (λ x h. h) (λ x h. absurd (in_elem x [] h)) _ _ _ _ T T b.number b.counter (linked_next ks ds) (linked_point ks ds) (λ x h. refl)
    (frame_of lim b s).next_stays (λ x h. absurd (in_elem x [] h)) (λ x h. absurd (in_elem x [] h)) G))
