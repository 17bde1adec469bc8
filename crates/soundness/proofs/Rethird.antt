-- Darts left out, and third links replaced: what such a block must have to be right again. Assumes nothing.
use mathlib.Core.Path.{◌≡◌, refl, sym, ◌∙◌, ap, subst}
use mathlib.Core.Bool.{Bool, true, cond, ◌&&◌}
use mathlib.Core.List.{List, map}
use mathlib.Core.Option
use mathlib.Core.Option.{Option, none}
use Prim.Native.Nat.{ℕ, ◌^◌, ◌<◌}
use native.Mathlib.Omega.{arith}
use lib.Dec.{leb, ltb}
use lib.ListN.{length, length-map}
use Rattle.model.specs.Lists.{keep, find, ascending}
use Rattle.model.specs.Values.{Label, Third, free, sewn, critical, Dart, Limits, serial_bound, code, finite, or_no_dart, with_third}
use Rattle.model.specs.Cells.{serials, dart_at, next_in, opposite_in, third_at}
use Rattle.model.specs.Sound.{third_in_range, dart_in_range}
use Rattle.model.specs.Links.{Link, third_or, relink}
use Rattle.laws.proofs.Members.{In, in_keep, keep_in, keep_le, keep_map, keep_ascending, map_map}
use Rattle.laws.proofs.Tests.{and_intro, and_left, find_map, find_keep}
use Rattle.theory.proofs.BlockLaws.{held_found}
use Rattle.soundness.proofs.Pointwise.{SewnRight, CriticalRight, Right}

module _ (lim : Limits) (n c : ℕ) (ds : List Dart) (R : Right lim n c ds) (ks : List Link) (q : ℕ → Bool) where
  -- the darts that stay, with their third links
  abbrev pub left : List Dart
  left = map (relink ks) (keep (λ d. q d.serial) ds)

  abbrev pub T : ℕ → Third
  T x = third_or (third_at ds x) (find (λ k. k.dart) x ks)

  pub record Stays (x : ℕ) : Type 0 where
    pub here : In x (serials ds)
    pub kept : q x ≡ true

  serials_left : serials left ≡ keep q (serials ds)
  unfolding relink
  serials_left = map_map (relink ks) (λ d. d.serial) (keep (λ d. q d.serial) ds) ∙ sym (keep_map q (λ d. d.serial) ds)

  pub stays_in : (x : ℕ) → Stays x → In x (serials left)
  stays_in x s = subst (In x) (sym serials_left) (in_keep q x (serials ds) s.here s.kept)

  pub in_stays : (x : ℕ) → In x (serials left) → Stays x
  in_stays x h = let w = keep_in q (serials ds) x (subst (In x) serials_left h) in record { here = w.0; kept = w.1 }

  pub dart_left : (x : ℕ) → Stays x → dart_at left x ≡ with_third (T x) (dart_at ds x)
  unfolding dart_at relink
  dart_left x s =
      let f = held_found x ds s.here in
      ap or_no_dart
      (find_map (λ d. d.serial) (relink ks) (λ d. refl) x (keep (λ d. q d.serial) ds)
      ∙ ap (Option.map (relink ks))
      (find_keep (λ d. d.serial) q x ds ∙ ap (λ (b : Bool). cond b (find (λ d. d.serial) x ds) none) s.kept ∙ f.1))
      ∙ ap (λ (y : ℕ). with_third (third_or f.0.third (find (λ k. k.dart) y ks)) f.0) f.2
      ∙ ap (λ (o : Option Dart). with_third (third_or (or_no_dart o).third (find (λ k. k.dart) x ks)) (or_no_dart o)) (sym f.1)

  -- WHAT IT MUST HAVE, c' being the counter afterwards
  pub record Fits (c' : ℕ) : Type 0 where
    pub counter_fits : c' < 2 ^ 32
    pub next_stays : (x : ℕ) → Stays x → q (next_in ds x) ≡ true
    pub before_stays : (x : ℕ) → In x (serials ds) → q (next_in ds x) ≡ true → q x ≡ true
    pub opposite_stays : (x : ℕ) → Stays x → q (opposite_in ds x) ≡ true
    pub range_fits : (x : ℕ) → Stays x → third_in_range (T x) ≡ true
    pub free_fits : (x : ℕ) → Stays x → T x ≡ free → T (next_in ds x) ≡ free
    -- a sewn dart was sewn so before, and so are its partner and the next dart still
    pub sewn_before : (x y : ℕ) → Stays x → T x ≡ sewn y → third_at ds x ≡ sewn y
    pub sewn_stays : (x y : ℕ) → Stays x → T x ≡ sewn y → q y ≡ true
    pub partner_same : (x y : ℕ) → Stays x → T x ≡ sewn y → T y ≡ third_at ds y
    pub next_same : (x y : ℕ) → Stays x → T x ≡ sewn y → T (next_in ds x) ≡ third_at ds (next_in ds x)
    pub critical_fits : (x o : ℕ) (l : Label) → Stays x → T x ≡ critical o l → CriticalRight n c' left x o l
    pub apart_fits : (x y o p : ℕ) (l k : Label) → Stays x → Stays y → T x ≡ critical o l → T y ≡ critical p k → code l ≡ code k → x ≡ y

  pub third_left : (x : ℕ) → Stays x → third_at left x ≡ T x
  third_left x s = ap (λ (d : Dart). d.third) (dart_left x s)

  pub next_left : (x : ℕ) → Stays x → next_in left x ≡ next_in ds x
  next_left x s = ap (λ (d : Dart). d.next) (dart_left x s)

  opposite_left : (x : ℕ) → Stays x → opposite_in left x ≡ opposite_in ds x
  opposite_left x s = ap (λ (d : Dart). d.opposite) (dart_left x s)

  module _ (c' : ℕ) (F : Fits c') where
    pub nexts : (x : ℕ) → Stays x → Stays (next_in ds x)
    nexts x s = record { here = R.next_held x s.here; kept = F.next_stays x s }

    opposites : (x : ℕ) → Stays x → Stays (opposite_in ds x)
    opposites x s = record { here = R.opposite_held x s.here; kept = F.opposite_stays x s }

    partners : (x y : ℕ) → Stays x → T x ≡ sewn y → Stays y
    partners x y s e = record { here = (R.sewn_right x y s.here (F.sewn_before x y s e)).here; kept = F.sewn_stays x y s e }

    range_left : (x : ℕ) → Stays x → dart_in_range (dart_at left x) ≡ true
    unfolding dart_in_range
    range_left x s =
        subst (λ (d : Dart). dart_in_range d ≡ true) (sym (dart_left x s))
        (and_intro (and_left (leb 1 (dart_at ds x).serial && ltb (dart_at ds x).serial serial_bound) _ (R.in_range x s.here))
        (F.range_fits x s))

    sewn_left : (x y : ℕ) → Stays x → T x ≡ sewn y → SewnRight left x y
    sewn_left x y s e =
        let w = R.sewn_right x y s.here (F.sewn_before x y s e) in
        let sy = partners x y s e in
        let sn = nexts x s in
        let en : T (next_in ds x) ≡ sewn w.on = F.next_same x y s e ∙ w.goes_on in
        let so = partners (next_in ds x) w.on sn en in
        record {
          here = stays_in y sy;
          back = third_left y sy ∙ F.partner_same x y s e ∙ w.back;
          other = w.other;
          on = w.on;
          goes_on = ap (third_at left) (next_left x s) ∙ third_left (next_in ds x) sn ∙ en;
          meets = next_left w.on so ∙ w.meets;
          one_point =
              ap (λ (d : Dart). d.point) (dart_left x s) ∙ w.one_point
              ∙ sym
              (ap (λ (z : ℕ). (dart_at left z).point) (next_left y sy) ∙ ap (λ (d : Dart). d.point) (dart_left (next_in ds y) (nexts y sy)));
        }

    onto_left : (x : ℕ) → Stays x → (y : ℕ) × In y (serials left) × (next_in left y ≡ x)
    onto_left x s =
        let w = R.next_onto x s.here in
        let sy : Stays w.0 = record { here = w.1; kept = F.before_stays w.0 w.1 (ap q w.2 ∙ s.kept) } in
        (w.0, stays_in w.0 sy, next_left w.0 sy ∙ w.2)

    pub right_left : Right lim n c' left
    right_left = record {
      number_small = R.number_small;
      counter_small = F.counter_fits;
      few_darts = omega (arith, length-map left (λ d. d.serial), ap length serials_left, keep_le q (serials ds), length-map ds (λ d. d.serial), R.few_darts);
      in_order = subst (λ (l : List ℕ). ascending l ≡ true) (sym serials_left) (keep_ascending q (serials ds) R.in_order);
      in_range = λ x h. range_left x (in_stays x h);
      finite_point = λ x h. let s = in_stays x h in ap (λ (d : Dart). finite d.point) (dart_left x s) ∙ R.finite_point x s.here;
      next_held = λ x h. let s = in_stays x h in subst (λ (z : ℕ). In z (serials left)) (sym (next_left x s)) (stays_in (next_in ds x) (nexts x s));
      next_onto = λ x h. onto_left x (in_stays x h);
      opposite_held = λ x h. let s = in_stays x h in subst (λ (z : ℕ). In z (serials left)) (sym (opposite_left x s)) (stays_in (opposite_in ds x) (opposites x s));
      opposite_twice = λ x h. let s = in_stays x h in ap (opposite_in left) (opposite_left x s) ∙ opposite_left (opposite_in ds x) (opposites x s) ∙ R.opposite_twice x s.here;
      opposite_other = λ x h e. let s = in_stays x h in R.opposite_other x s.here (sym (opposite_left x s) ∙ e);
      ring_point = λ x h. let s = in_stays x h in let o = opposites x s in
          ap (λ (d : Dart). d.point) (dart_left x s) ∙ R.ring_point x s.here
          ∙ sym (ap (λ (z : ℕ). (dart_at left (next_in left z)).point) (opposite_left x s) ∙ ap (λ (z : ℕ). (dart_at left z).point) (next_left (opposite_in ds x) o)
          ∙ ap (λ (d : Dart). d.point) (dart_left (next_in ds (opposite_in ds x)) (nexts (opposite_in ds x) o)));
      free_on = λ x h e. let s = in_stays x h in ap (third_at left) (next_left x s) ∙ third_left (next_in ds x) (nexts x s) ∙ F.free_fits x s (sym (third_left x s) ∙ e);
      sewn_right = λ x y h e. let s = in_stays x h in sewn_left x y s (sym (third_left x s) ∙ e);
      critical_right = λ x o l h e. let s = in_stays x h in F.critical_fits x o l s (sym (third_left x s) ∙ e);
      apart = λ x y o p l k hx hy ex ey e. let sx = in_stays x hx in let sy = in_stays y hy in
          F.apart_fits x y o p l k sx sy (sym (third_left x sx) ∙ ex) (sym (third_left y sy) ∙ ey) e;
    }
