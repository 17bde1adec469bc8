-- Links that are not held: the block read back from an image has 0 for them, and is asked questions 4 to 8 with the same answers,
-- each under the yes of those before that it rests on: 4 and 5 of none, 6 of 5, 7 and 8 of 5 and 6.
-- Assumes nothing.
use Rattle.std.proofs.Common.{◌≡◌, ℕ, ◌+◌, ◌*◌, ◌<◌, Bool, true, false, cond, ◌&&◌, eqb, ltb, leb, List, [], ◌∷◌, map, length, get_or, sym, refl, ap, ◌∙◌, true≢false, arith}
use mathlib.Core.Path.{fun_ext}
use mathlib.Core.Option
use mathlib.Core.Option.{Option, none, some}
use lib.ListN.{length-map}
use Rattle.laws.proofs.Tests.{by_cases, and_intro, and_left, and_right, find_map, same_truth}
use Rattle.laws.proofs.Members.{all_in, all_map, any_map}
use Rattle.laws.proofs.Maps.{all_weaken, map_where, map_at, map_self, index_absent}
use Rattle.model.specs.Lists.{all, any, mem, tab, find, index_of}
use Rattle.model.specs.Values.{Third, free, sewn, critical, Dart, no_dart, or_no_dart, Block, widest, serial_bound, finite, with_third}
use Rattle.model.specs.Cells.{serials, held, dart_at, opposite_in}
use Rattle.model.specs.Sound.{third_in_range, dart_in_range, ranges_right, coordinates_finite, link_right, links_right, third_right, thirds_right}
use Rattle.model.specs.Image.{kind_word, link_word, dart_words, image, column, third_in, dart_in, block_in}
use Rattle.theory.proofs.ImageLaws.{tab_list, column_is, ranges_of, links_held, serial_back, third_back}
use Rattle.columns.proofs.Images.{image_rest}
use Rattle.newblock.proofs.Imaged.{third_ranged}

-- WHAT IS READ BACK: a link that is held, or 0
clip : List Dart → ℕ → ℕ
clip ds x = cond (held ds x) x 0

abbrev clip_third : List Dart → Third → Third
clip_third ds free = free
clip_third ds (sewn y) = sewn (clip ds y)
clip_third ds (critical o l) = critical o l

abbrev clip_dart : List Dart → Dart → Dart
clip_dart ds d = record { serial = d.serial; next = clip ds d.next; opposite = clip ds d.opposite; third = clip_third ds d.third; point = d.point }

clip_held : (ds : List Dart) (x : ℕ) → held ds x ≡ true → clip ds x ≡ x
unfolding clip
clip_held ds x h = rw h refl

module _ (size : ℕ) (b : Block) where
  abbrev ds : List Dart
  ds = b.darts

  clipped_serial : (x : ℕ) → column (image size b) 0 (index_of x (serials b.darts)) ≡ clip b.darts x
  unfolding clip
  clipped_serial x = by_cases (held ds x)
      (λ h. rw h (serial_back size b x h))
      (λ h. let past : index_of x (serials ds) ≡ length ds = index_absent x (serials ds) h ∙ length-map ds (λ (d : Dart). d.serial) in
      rw (h, past) (image_rest size b (8 + length ds * 8 + 0) (omega arith)))

  clipped_third : (t : Third) → third_in_range t ≡ true → third_in (column (image size b) 0) (kind_word t) (link_word (serials b.darts) t) ≡ clip_third b.darts t
  unfolding third_in
  clipped_third free r = refl
  clipped_third (sewn y) r = ap sewn (clipped_serial y)
  clipped_third (critical o l) r = third_back size b (critical o l) refl r

  clipped_dart : (p : ℕ) → p < length b.darts → third_in_range (get_or b.darts p no_dart).third ≡ true → dart_in (image size b) p ≡ clip_dart b.darts (get_or b.darts p no_dart)
  unfolding dart_words
  clipped_dart p h r = rw (
    column_is size b p 0 h (omega arith),
    column_is size b p 1 h (omega arith),
    column_is size b p 2 h (omega arith),
    column_is size b p 3 h (omega arith),
    column_is size b p 4 h (omega arith),
    column_is size b p 5 h (omega arith),
    column_is size b p 6 h (omega arith),
    column_is size b p 7 h (omega arith),
    clipped_serial (get_or b.darts p no_dart).next,
    clipped_serial (get_or b.darts p no_dart).opposite,
    clipped_third (get_or b.darts p no_dart).third r,
  ) refl

  abbrev clipped : List Dart
  clipped = map (clip_dart b.darts) b.darts

  read_clipped : ranges_right widest b ≡ true → block_in (image size b) ≡ record { number = b.number; counter = b.counter; darts = clipped }
  unfolding image
  read_clipped r =
      let darts : tab (dart_in (image size b)) (length ds) ≡ clipped = ap (tab (dart_in (image size b))) (sym (length-map ds (clip_dart ds)))
      ∙ tab_list no_dart clipped (dart_in (image size b)) (λ p h. let k : p < length ds = omega (arith, length-map ds (clip_dart ds)) in
      clipped_dart p k (third_ranged b r p k) ∙ sym (map_at (clip_dart ds) no_dart no_dart ds p k)) in
      ap (λ (l : List Dart). record { number = b.number; counter = b.counter; darts = l }) darts

-- QUESTION 4
clipped_finite : (ds : List Dart) → coordinates_finite (map (clip_dart ds) ds) ≡ coordinates_finite ds
unfolding coordinates_finite
clipped_finite ds = all_map (λ d. finite d.point) (clip_dart ds) ds

-- QUESTION 5
same_serials : (f : Dart → Dart) → ((d : Dart) → (f d).serial ≡ d.serial) → (ds : List Dart) → serials (map f ds) ≡ serials ds
same_serials f e [] = refl
same_serials f e (d ∷ ds) = rw (e d, same_serials f e ds)

-- the third links do not matter
module _ (g : Dart → Third) (ds : List Dart) where
  abbrev rethird : Dart → Dart
  rethird d = with_third (g d) d

  same_opposite : (x : ℕ) → opposite_in (map rethird ds) x ≡ opposite_in ds x
  unfolding dart_at
  same_opposite x = ap (λ (o : Option Dart). (or_no_dart o).opposite) (find_map (λ d. d.serial) rethird (λ d. refl) x ds) ∙ go (find (λ d. d.serial) x ds)
    where
      go : (o : Option Dart) → (or_no_dart (Option.map rethird o)).opposite ≡ (or_no_dart o).opposite
      go none = refl
      go (some d) = refl

  same_link : (d : Dart) → link_right (map rethird ds) (rethird d) ≡ link_right ds d
  unfolding link_right
  same_link d = rw (same_serials rethird (λ e. refl) ds, any_map (λ e. eqb e.next d.serial) rethird ds, same_opposite d.opposite) refl

  same_links : links_right (map rethird ds) ≡ links_right ds
  unfolding links_right
  same_links = all_map (link_right (map rethird ds)) rethird ds ∙ ap (λ (p : Dart → Bool). all p ds) (fun_ext same_link)

-- next and opposite are held
abbrev ends_held : List Dart → Dart → Bool
ends_held ds d = held ds d.next && held ds d.opposite

link_held : (ds : List Dart) (d : Dart) → link_right ds d ≡ true → ends_held ds d ≡ true
unfolding link_right
link_held ds d e =
    let two = held ds d.next && any (λ (c : Dart). eqb c.next d.serial) ds in
    let three = two && held ds d.opposite in
    let e3 = and_left three _ (and_left (three && eqb (opposite_in ds d.opposite) d.serial) _ e) in
    and_intro (and_left (held ds d.next) _ (and_left two _ e3)) (and_right two _ e3)

-- a sewn dart's partner is held
third_held : (ds : List Dart) (d : Dart) (t : Third) → third_right ds d t ≡ true → links_held ds t ≡ true
unfolding third_right
third_held ds d free h = refl
third_held ds d (sewn y) h = and_left (held ds y) _ (and_left _ _ (and_left _ _ h))
third_held ds d (critical o l) h = refl

module _ (ds : List Dart) (positive : held ds 0 ≡ false) where
  abbrev es : List Dart
  es = map (clip_dart ds) ds

  es_serials : serials (map (clip_dart ds) ds) ≡ serials ds
  es_serials = same_serials (clip_dart ds) (λ d. refl) ds

  -- what is held after 0 was put for the others was held before
  clip_back : (x : ℕ) → held (map (clip_dart ds) ds) (clip ds x) ≡ true → held ds x ≡ true
  unfolding clip
  clip_back x h = by_cases (held ds x) (λ t. t) (λ t. let h0 : held ds 0 ≡ true = ap (mem 0) (sym es_serials) ∙ (rw t at h) in absurd (true≢false (sym h0 ∙ positive)))

  linked_clipped : links_right (map (clip_dart ds) ds) ≡ true → all (ends_held ds) ds ≡ true
  unfolding links_right
  linked_clipped e = all_weaken (λ d. link_right es (clip_dart ds d)) (ends_held ds) ds
      (λ d q. let w = link_held es (clip_dart ds d) q in
      and_intro (clip_back d.next (and_left (held es (clip ds d.next)) _ w)) (clip_back d.opposite (and_right (held es (clip ds d.next)) _ w)))
      (sym (all_map (link_right es) (clip_dart ds) ds) ∙ e)

  linked_before : links_right ds ≡ true → all (ends_held ds) ds ≡ true
  unfolding links_right
  linked_before e = all_weaken (link_right ds) (ends_held ds) ds (link_held ds) e

  only_third : (d : Dart) → ends_held ds d ≡ true → clip_dart ds d ≡ with_third (clip_third ds d.third) d
  only_third d h = rw (clip_held ds d.next (and_left (held ds d.next) _ h), clip_held ds d.opposite (and_right (held ds d.next) _ h)) refl

  only_thirds : all (ends_held ds) ds ≡ true → map (clip_dart ds) ds ≡ map (λ d. with_third (clip_third ds d.third) d) ds
  only_thirds e = map_where (ends_held ds) (clip_dart ds) (λ d. with_third (clip_third ds d.third) d) ds only_third e

  clipped_links_held : all (ends_held ds) ds ≡ true → links_right (map (clip_dart ds) ds) ≡ links_right ds
  clipped_links_held e = ap links_right (only_thirds e) ∙ same_links (λ d. clip_third ds d.third) ds

  clipped_links : links_right (map (clip_dart ds) ds) ≡ links_right ds
  clipped_links = same_truth (links_right es) (links_right ds) (λ e. sym (clipped_links_held (linked_clipped e)) ∙ e) (λ e. clipped_links_held (linked_before e) ∙ e)

  -- QUESTION 6
  module _ (linked : links_right ds ≡ true) where
    clipped_same : all (λ d. links_held ds d.third) ds ≡ true → map (clip_dart ds) ds ≡ ds
    clipped_same e = only_thirds (linked_before linked)
        ∙ map_where (λ d. links_held ds d.third) (λ d. with_third (clip_third ds d.third) d) (λ d. d) ds (λ d h. ap (λ (t : Third). with_third t d) (third_same d.third h)) e ∙ map_self ds
      where
        third_same : (t : Third) → links_held ds t ≡ true → clip_third ds t ≡ t
        third_same free h = refl
        third_same (sewn y) h = ap sewn (clip_held ds y h)
        third_same (critical o l) h = refl

    sewn_before : thirds_right ds ≡ true → all (λ d. links_held ds d.third) ds ≡ true
    unfolding thirds_right
    sewn_before e = all_weaken (λ d. third_right ds d d.third) (λ d. links_held ds d.third) ds (λ d q. third_held ds d d.third q) e

    sewn_clipped : thirds_right (map (clip_dart ds) ds) ≡ true → all (λ d. links_held ds d.third) ds ≡ true
    unfolding thirds_right
    sewn_clipped e = all_weaken (λ d. third_right es (clip_dart ds d) (clip_third ds d.third)) (λ d. links_held ds d.third) ds
        (λ d q. back d.third (third_held es (clip_dart ds d) (clip_third ds d.third) q))
        (sym (all_map (λ d. third_right es d d.third) (clip_dart ds) ds) ∙ e)
      where
        back : (t : Third) → links_held (map (clip_dart ds) ds) (clip_third ds t) ≡ true → links_held ds t ≡ true
        back free h = refl
        back (sewn y) h = clip_back y h
        back (critical o l) h = refl

    clipped_thirds : thirds_right (map (clip_dart ds) ds) ≡ thirds_right ds
    clipped_thirds = same_truth (thirds_right es) (thirds_right ds)
        (λ e. ap thirds_right (sym (clipped_same (sewn_clipped e))) ∙ e)
        (λ e. ap thirds_right (clipped_same (sewn_before e)) ∙ e)

-- THE IMAGE of a block in range, question by question
none_zero : (ds : List Dart) → all dart_in_range ds ≡ true → held ds 0 ≡ false
unfolding dart_in_range
none_zero ds r = by_cases (held ds 0)
    (λ h. absurd (true≢false (sym (all_in (leb 1) (serials ds) (all_map (leb 1) (λ (d : Dart). d.serial) ds ∙ positive) 0 h))))
    (λ h. h)
  where
    positive : all (λ d. leb 1 d.serial) ds ≡ true
    positive = all_weaken dart_in_range (λ d. leb 1 d.serial) ds (λ d q. and_left (leb 1 d.serial) _ (and_left (leb 1 d.serial && ltb d.serial serial_bound) _ q)) r

module _ (size : ℕ) (b : Block) (r : ranges_right widest b ≡ true) where
  zero_free : held b.darts 0 ≡ false
  zero_free = none_zero b.darts (ranges_of widest b r).each_dart

  read_darts : (block_in (image size b)).darts ≡ map (clip_dart b.darts) b.darts
  read_darts = ap (λ (c : Block). c.darts) (read_clipped size b r)

  pub finite_same : coordinates_finite (block_in (image size b)).darts ≡ coordinates_finite b.darts
  finite_same = ap coordinates_finite read_darts ∙ clipped_finite b.darts

  pub links_same : links_right (block_in (image size b)).darts ≡ links_right b.darts
  links_same = ap links_right read_darts ∙ clipped_links b.darts zero_free

  pub thirds_same : links_right b.darts ≡ true → thirds_right (block_in (image size b)).darts ≡ thirds_right b.darts
  thirds_same l = ap thirds_right read_darts ∙ clipped_thirds b.darts zero_free l

  -- 7 and 8 are asked of the block itself
  pub block_same : links_right b.darts ≡ true → thirds_right b.darts ≡ true → block_in (image size b) ≡ b
  block_same l t = read_clipped size b r
      ∙ ap (λ (ds : List Dart). record { number = b.number; counter = b.counter; darts = ds }) (clipped_same b.darts zero_free l (sewn_before b.darts zero_free l t))
