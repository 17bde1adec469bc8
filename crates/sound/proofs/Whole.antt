-- Question 2: what the header, the zeros, the darts and the labels say together. Assumes nothing.
use mathlib.Core.Path.{◌≡◌, refl, sym, ap, ◌∙◌}
use mathlib.Core.Bool.{Bool, true, false, false≢true, ◌&&◌}
use mathlib.Core.List.{List, [], ◌∷◌}
use mathlib.Core.Logic.{⊎_elim, ◌↔◌}
use Prim.Native.Nat.{ℕ, zero, suc, ◌+◌, ◌*◌, ◌≤◌, ◌<◌, ◌^◌}
use native.Mathlib.Omega.{arith}
use lib.Dec.{leb, ltb, eqb}
use lib.ListN.{length, get_or}
use borrow.Author.Tests.{eqb-true, leb-true, le-leb, ltb-true, lt-ltb}
use Rattle.model.specs.Lists.{distinct}
use Rattle.model.specs.Values.{Limits, widest, room}
use Rattle.model.specs.Sound.{coordinates_finite, links_right, thirds_right, points_agree}
use Rattle.model.specs.Image.{words_for, dart_in, block_in, is_image}
use Rattle.laws.proofs.Tests.{by_cases, lt_or_ge, and_intro, and_left, and_right, and_false, and_yes, same_truth}
use Rattle.laws.proofs.Tables.{length_tab}
use Rattle.theory.proofs.ImageLaws.{image_is, parts_of, ranges_of, count_fits, image_fits}
use Rattle.columns.specs.Columns.{all_below, count, header_test, third_test, point_test, far_test, codes, Ranged, Places, SewnPlaces, Finite, Links, Darts}
use Rattle.columns.proofs.Below.{below_at, at_below}
use Rattle.columns.proofs.Held.{darts}
use Rattle.columns.proofs.Links.{places, links_yes, links_says, links_apart}
use Rattle.columns.proofs.ThirdLinks.{sewn_places, thirds_yes, thirds_says}
use Rattle.columns.proofs.Points.{finite_test, finite_is, points_are}
use Rattle.columns.proofs.Question.{Passed, passed_image, image_passed}
use Rattle.columns.proofs.OneDart.{DartRight, dart_says, dart_yes, FarRight, far_says, far_yes, link_here, third_here, points_here, far_from, dart_from}
use Rattle.sound.specs.Kept.{FarSaid, ButLabels}
use Rattle.sound.specs.declared.Far.{Far}
use Rattle.sound.specs.declared.Far.TheVariants.{Right, Wrong}

-- 3, of the header
pub record Header (m : List ℕ) : Type 0 where
  pub number_small : get_or m 0 0 < 16
  pub counter_small : get_or m 1 0 < 2 ^ 32
  pub few : count m ≤ room
  pub head : (get_or m 3 0 ≡ 0) × (get_or m 4 0 ≡ 0) × (get_or m 5 0 ≡ 0) × (get_or m 6 0 ≡ 0) × (get_or m 7 0 ≡ 0)

pub header_says : (m : List ℕ) → header_test m ≡ true → Header m
unfolding header_test
header_says m e =
    let a = ltb (get_or m 0 0) 16 in
    let b = a && ltb (get_or m 1 0) (2 ^ 32) in
    let c = b && leb (get_or m 2 0) room in
    let d = c && eqb (get_or m 3 0) 0 in
    let f = d && eqb (get_or m 4 0) 0 in
    let g = f && eqb (get_or m 5 0) 0 in
    let h = g && eqb (get_or m 6 0) 0 in
    let eh = and_left h _ e in
    let eg = and_left g _ eh in
    let ef = and_left f _ eg in
    let ed = and_left d _ ef in
    let ec = and_left c _ ed in
    let eb = and_left b _ ec in
    record {
      number_small = ltb-true _ _ (and_left a _ eb);
      counter_small = ltb-true _ _ (and_right a _ eb);
      few = leb-true _ _ (and_right b _ ec);
      head = (eqb-true _ _ (and_right c _ ed), eqb-true _ _ (and_right d _ ef), eqb-true _ _ (and_right f _ eg), eqb-true _ _ (and_right g _ eh), eqb-true _ _ (and_right h _ e));
    }

header_yes : (m : List ℕ) → Ranged m → header_test m ≡ true
unfolding header_test
header_yes m w = rw (
  lt-ltb (get_or m 0 0) 16 w.number_small,
  lt-ltb (get_or m 1 0) (2 ^ 32) w.counter_small,
  le-leb (get_or m 2 0) room w.few,
  w.head.0,
  w.head.1,
  w.head.2,
  w.head.3,
  w.head.4,
) refl

-- THE HEADER BY LIMITS: the code compares the darts with these alone
fewer : (a b c d e f g h : Bool) → (b ≡ true → c ≡ true) → (a && b && d && e && f && g && h) ≡ (a && c && d && e && f && g && h && b)
fewer false b c d e f g h i = refl
fewer true true c d e f g h i = rw (i refl) (sym (and_yes (d && e && f && g && h)))
fewer true false c d e f g h i = sym (and_false (c && d && e && f && g && h))

pub header_by : (m : List ℕ) (most : ℕ) → most ≤ room
    → (ltb (get_or m 0 0) 16 && ltb (get_or m 1 0) (2 ^ 32) && leb (get_or m 2 0) most && eqb (get_or m 3 0) 0 && eqb (get_or m 4 0) 0 && eqb (get_or m 5 0) 0 && eqb (get_or m 6 0) 0 && eqb (get_or m 7 0) 0)
    ≡ (header_test m && leb (count m) most)
unfolding header_test
header_by m most small = fewer (ltb (get_or m 0 0) 16 && ltb (get_or m 1 0) (2 ^ 32)) (leb (get_or m 2 0) most) (leb (get_or m 2 0) room) _ _ _ _ _
    (λ e. le-leb (get_or m 2 0) room (omega (arith, leb-true (get_or m 2 0) most e)))

pub header_few : (m : List ℕ) (most : ℕ) {r : Bool} → r ≡ (header_test m && leb (count m) most) → r ≡ true → count m ≤ most
header_few m most er e = leb-true _ _ (and_right (header_test m) _ (sym er ∙ e))

-- zeros from a on, as far as the memory goes
abbrev pub ZerosFrom : List ℕ → ℕ → Type 0
ZerosFrom m a = (i : ℕ) → a ≤ i → i < length m → get_or m i 0 ≡ 0

past_end : (l : List ℕ) (i : ℕ) → length l ≤ i → get_or l i 0 ≡ 0
past_end [] i h = refl
past_end (x ∷ l) zero h = absurd (omega arith)
past_end (x ∷ l) (suc i) h = past_end l i (omega arith)

ranged : (m : List ℕ) → Header m → ZerosFrom m (8 + count m * 8) → Darts m (count m) → Ranged m
ranged m h z d =
    let r : (p : ℕ) → p < count m → DartRight m (count m) p = λ p l. dart_says m (count m) p (d.each p l) in
    record {
      number_small = h.number_small;
      counter_small = h.counter_small;
      few = h.few;
      head = h.head;
      above = λ p l. (r p l).above;
      serial_small = λ p l. (r p l).serial_small;
      kinds = λ p l. (r p l).words_right.kind;
      rest = λ i l. ⊎_elim (λ u. z i l u) (λ u. past_end m i u) (lt_or_ge i (length m));
    }

-- ALL TOGETHER
all_passed : (m : List ℕ) → Header m → ZerosFrom m (8 + count m * 8) → Darts m (count m) → all_below (far_test m) (count m) ≡ true → distinct (codes m (count m)) ≡ true → Passed m
all_passed m h z d f differ =
    let n = count m in
    let r : (p : ℕ) → p < count m → DartRight m (count m) p = λ p l. dart_says m (count m) p (d.each p l) in
    let far : (p : ℕ) → p < count m → FarRight m p = λ p l. far_says m p (below_at (far_test m) (count m) f p l) in
    record {
      range = ranged m h z d;
      finite_points = λ p l. (r p l).finite_point;
      links = λ p l. link_here m n r p l (far p l);
      apart = d.apart;
      thirds = λ p l. third_here m n r p l (far p l);
      labels = λ p l. (r p l).words_right.label;
      differ = differ;
      points = λ p l. points_here m n r p l (far p l);
    }

-- A NO, by limits no wider than the widest
module _ (lim : Limits) (m : List ℕ) where
  -- an image by limits has no more darts than they say
  within : is_image lim m ≡ true → count m ≤ lim.block_darts
  within e = omega (arith, (ranges_of lim (block_in m) (parts_of lim (block_in m) (image_is lim m e).1).ranges).few_darts, length_tab (dart_in m) (count m))

  pub too_short : length m < words_for (count m) → is_image lim m ≡ false
  too_short h = by_cases (is_image lim m) (λ e. absurd (omega (arith, count_fits lim m e))) (λ e. e)

  module _ (small : lim.block_darts ≤ room) where
    passes : is_image lim m ≡ true → Passed m
    passes e = image_passed m (image_fits lim widest m (omega (arith, within e)) e)

    no_image : (Passed m → ⊥) → is_image lim m ≡ false
    no_image h = by_cases (is_image lim m) (λ e. absurd (h (passes e))) (λ e. e)

    pub no_header : {r : Bool} → r ≡ (header_test m && leb (count m) lim.block_darts) → r ≡ false → is_image lim m ≡ false
    no_header er no-r = by_cases (is_image lim m)
        (λ e. absurd (false≢true (sym no-r ∙ er ∙ and_intro (header_yes m (passes e).range) (le-leb (count m) lim.block_darts (within e)))))
        (λ e. e)

    pub no_zeros : {r : Bool} → (r ≡ true) ↔ ZerosFrom m (8 + count m * 8) → r ≡ false → is_image lim m ≡ false
    no_zeros z e = no_image (λ a. false≢true (sym e ∙ z.1 (λ i l u. a.range.rest i l)))

    pub no_darts : {r : Bool} → (r ≡ true) ↔ Darts m (count m) → r ≡ false → is_image lim m ≡ false
    no_darts d e = no_image (λ a. false≢true (sym e ∙ d.1 (record { each = λ p h. dart_yes m (count m) p (dart_from m a p h); apart = a.apart })))

    no_far : all_below (far_test m) (count m) ≡ false → is_image lim m ≡ false
    no_far e = no_image (λ a. false≢true (sym e ∙ at_below (far_test m) (count m) (λ p h. far_yes m p (far_from m (count m) p (a.links p h) (a.thirds p h) (a.points p h)))))

    -- THE LAST: darts with those that they link to, then the labels
    pub far_last : words_for (count m) ≤ length m → {h z d : Bool} → h ≡ (header_test m && leb (count m) lim.block_darts) → h ≡ true
        → (z ≡ true) ↔ ZerosFrom m (8 + count m * 8) → z ≡ true → (d ≡ true) ↔ Darts m (count m) → d ≡ true
        → (keys : List ℕ) (r : Far) → FarSaid m (count m) keys r → ButLabels lim m keys r
    far_last len eh yh ez yz ed yd keys (Right c) said = (
      omega (arith, said.1, few),
      same_truth (is_image lim m) (distinct (codes m (count m)))
          (λ e. (passes e).differ)
          (λ e. image_fits widest lim m few (passed_image m len (all_passed m head (ez.0 yz) (ed.0 yd) said.0 e)))
          ∙ ap distinct (sym said.2),
    )
      where
        few : count m ≤ lim.block_darts
        few = header_few m lim.block_darts eh yh

        head : Header m
        head = header_says m (and_left (header_test m) _ (sym eh ∙ yh))
    far_last len eh yh ez yz ed yd keys Wrong said = no_far said

-- QUESTIONS 5 TO 8, where all before have been answered yes
module _ (m : List ℕ) (w : Ranged m) where
  pub links_are : {r : Bool} → (r ≡ true) ↔ Links m (count m) → r ≡ links_right (darts m)
  links_are {r} e = same_truth r (links_right (darts m)) (λ y. let l = e.0 y in links_yes m w l.each l.apart) (λ y. e.1 (record { each = links_says m w y; apart = links_apart m w y }))

  module _ (l : links_right (darts m) ≡ true) where
    pub link_places : Places m (count m)
    link_places = places m (count m) (links_says m w l)

    pub thirds_are : all_below (third_test m (count m)) (count m) ≡ thirds_right (darts m)
    thirds_are = same_truth _ _ (λ y. thirds_yes m w link_places (below_at _ (count m) y)) (λ y. at_below _ (count m) (thirds_says m w link_places y))

    module _ (t : thirds_right (darts m) ≡ true) where
      pub third_places : SewnPlaces m (count m)
      third_places = sewn_places m (count m) (thirds_says m w link_places t)

      pub points_agreeing : all_below (point_test m) (count m) ≡ points_agree (darts m)
      points_agreeing = points_are m w link_places third_places

pub finite_all : (m : List ℕ) → coordinates_finite (darts m) ≡ true → Finite m (count m)
finite_all m e = below_at (finite_test m) (count m) (finite_is m ∙ e)
