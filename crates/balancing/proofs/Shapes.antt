-- What is picked in a block depends on serials, next, opposite and points alone, and these can be told from the block's image,
-- also where the block is not sound but has the image of a sound one. Assumes nothing.
use mathlib.Core.Path.{◌≡◌, refl, sym, ◌∙◌, ap}
use mathlib.Core.Bool.{true}
use mathlib.Core.List.{List, [], ◌∷◌, map}
use mathlib.Core.Option
use mathlib.Core.Option.{Option, none, some}
use Prim.Native.Nat.{ℕ, zero, suc, ◌<◌}
use native.Mathlib.Omega.{arith}
use lib.Dec.{leb, eqb}
use lib.ListN.{length, get_or, length-map}
use lib.Seq.{ext_get_or}
use borrow.Author.Tests.{eqb-true}
use Rattle.model.specs.Lists.{all, keep, mem, index_of, find}
use Rattle.model.specs.Values.{Point, free, Dart, Block, Limits, no_dart, no_point, or_no_dart}
use Rattle.model.specs.Cells.{volume, serials, dart_at, next_in, opposite_in, volume_in, volume_starts}
use Rattle.model.specs.Sound.{dart_in_range, link_right, links_right, third_right, thirds_right, sound_block}
use Rattle.model.specs.Image.{dart_words, words_of, count_in, image, memory_of, column}
use Rattle.model.specs.Balance.{Oracle, picks, picked, counts}
use Rattle.laws.proofs.Tests.{by_cases, and_left, and_right, all_at, find_map}
use Rattle.theory.proofs.ImageLaws.{place_back, getD_serial, column_is, Readable, readable_dart, parts_of, ranges_of, image_count}

-- WHAT IS PICKED, from what it depends on
abbrev volume_of : List ℕ → (ℕ → ℕ) → (ℕ → ℕ) → ℕ → List ℕ
volume_of ss nx op s = let v = volume nx op s in keep (λ x. mem x v) ss

abbrev picked_of : Oracle → List ℕ → (ℕ → ℕ) → (ℕ → ℕ) → (ℕ → Point) → List ℕ
picked_of o ss nx op pt = keep (λ s. picks o (map pt (volume_of ss nx op s))) (keep (λ x. all (leb x) (volume_of ss nx op x)) ss)

picked_is : (o : Oracle) (ds : List Dart) → picked o ds ≡ picked_of o (serials ds) (next_in ds) (opposite_in ds) (λ x. (dart_at ds x).point)
unfolding picked volume_starts volume_in
picked_is o ds = refl

-- a dart without its third link
abbrev pub bare : Dart → Dart
bare d = record { serial = d.serial; next = d.next; opposite = d.opposite; third = free; point = d.point }

bare_serials : (ds : List Dart) → serials (map bare ds) ≡ serials ds
bare_serials [] = refl
bare_serials (d ∷ ds) = ap (λ (l : List ℕ). d.serial ∷ l) (bare_serials ds)

or_bare : (f : Option Dart) → or_no_dart (Option.map bare f) ≡ bare (or_no_dart f)
unfolding no_dart no_point
or_bare none = refl
or_bare (some d) = refl

bare_at : (ds : List Dart) (x : ℕ) → dart_at (map bare ds) x ≡ bare (dart_at ds x)
unfolding dart_at
bare_at ds x = ap or_no_dart (find_map (λ d. d.serial) bare (λ d. refl) x ds) ∙ or_bare (find (λ d. d.serial) x ds)

pub picked_bare : (o : Oracle) (ds : List Dart) → picked o (map bare ds) ≡ picked o ds
picked_bare o ds = picked_is o (map bare ds) ∙ (λ n. picked_of o (bare_serials ds n) (λ x. (bare_at ds x n).next) (λ x. (bare_at ds x n).opposite) (λ x. (bare_at ds x n).point)) ∙ sym (picked_is o ds)

-- FROM THE IMAGE
-- an index below the length is the place of the element
index_back : (x : ℕ) (ss : List ℕ) → index_of x ss < length ss → get_or ss (index_of x ss) 0 ≡ x
unfolding index_of
index_back x [] h = absurd (omega arith)
index_back x (y ∷ ss) h = by_cases (eqb x y)
    (λ e. rw e (sym (eqb-true x y e)))
    (λ e. rw e (index_back x ss (let k : suc (index_of x ss) < suc (length ss) = rw e at h in omega arith)))

getD_bare : (ds : List Dart) (p : ℕ) → get_or (map bare ds) p no_dart ≡ bare (get_or ds p no_dart)
unfolding no_dart
getD_bare [] p = refl
getD_bare (d ∷ ds) zero = refl
getD_bare (d ∷ ds) (suc p) = getD_bare ds p

-- two blocks with one image, of which one is sound
module _ (lim : Limits) (size other : ℕ) (b c : Block) (sound : sound_block lim c ≡ true) (same : image size b ≡ image other c) where
  length_same : length b.darts ≡ length c.darts
  length_same = sym (image_count size b) ∙ ap count_in same ∙ image_count other c

  abbrev db : ℕ → Dart
  db p = get_or b.darts p no_dart

  abbrev dc : ℕ → Dart
  dc p = get_or c.darts p no_dart

  abbrev sb : List ℕ
  sb = serials b.darts

  abbrev sc : List ℕ
  sc = serials c.darts

  words_same : (p f : ℕ) → p < length c.darts → f < 8 → get_or (dart_words sb (db p)) f 0 ≡ get_or (dart_words sc (dc p)) f 0
  words_same p f h k = sym (column_is size b p f (rw length_same h) k) ∙ ap (λ (l : List ℕ). column l f p) same ∙ column_is other c p f h k

  serial_same : (p : ℕ) → p < length c.darts → (db p).serial ≡ (dc p).serial
  unfolding dart_words
  serial_same p h = words_same p 0 h (omega arith)

  serials_length : length sc ≡ length c.darts
  serials_length = length-map c.darts (λ d. d.serial)

  serials_same : sb ≡ sc
  serials_same = ext_get_or 0 sb sc (length-map b.darts (λ d. d.serial) ∙ length_same ∙ sym serials_length)
      (λ p h. getD_serial b.darts p ∙ serial_same p (let l = length-map b.darts (λ d. d.serial) in omega (arith, length_same)) ∙ sym (getD_serial c.darts p))

  -- the links of a dart of c are held
  readable : (p : ℕ) → p < length c.darts → Readable c.darts (dc p)
  unfolding links_right thirds_right
  readable p h =
      let q = parts_of lim c sound in
      readable_dart c.darts (dc p) (all_at (link_right c.darts) no_dart c.darts p q.links h)
      (all_at (λ d. third_right c.darts d d.third) no_dart c.darts p q.thirds h) (all_at dart_in_range no_dart c.darts p (ranges_of lim c q.ranges).each_dart h)

  -- the same index of something that is held
  index_same : (x y : ℕ) → mem y sc ≡ true → index_of x sb ≡ index_of y sc → x ≡ y
  index_same x y h e =
      let q = place_back y sc h in
      let at : index_of x sc ≡ index_of y sc = ap (index_of x) (sym serials_same) ∙ e in
      sym (index_back x sc (rw at q.1)) ∙ ap (λ (p : ℕ). get_or sc p 0) at ∙ q.0

  next_same : (p : ℕ) → p < length c.darts → (db p).next ≡ (dc p).next
  unfolding dart_words
  next_same p h = index_same (db p).next (dc p).next (readable p h).next_held (words_same p 1 h (omega arith))

  opposite_same : (p : ℕ) → p < length c.darts → (db p).opposite ≡ (dc p).opposite
  unfolding dart_words
  opposite_same p h = index_same (db p).opposite (dc p).opposite (readable p h).opposite_held (words_same p 2 h (omega arith))

  point_same : (p : ℕ) → p < length c.darts → (db p).point ≡ (dc p).point
  unfolding dart_words
  point_same p h = λ n. record { x = words_same p 5 h (omega arith) n; y = words_same p 6 h (omega arith) n; z = words_same p 7 h (omega arith) n }

  bare_dart_same : (p : ℕ) → p < length c.darts → bare (db p) ≡ bare (dc p)
  bare_dart_same p h = λ n. record { serial = serial_same p h n; next = next_same p h n; opposite = opposite_same p h n; third = free; point = point_same p h n }

  bare_same : map bare b.darts ≡ map bare c.darts
  bare_same = ext_get_or no_dart (map bare b.darts) (map bare c.darts) (length-map b.darts bare ∙ length_same ∙ sym (length-map c.darts bare))
      (λ p h. getD_bare b.darts p ∙ bare_dart_same p (let l = length-map b.darts bare in omega (arith, length_same)) ∙ sym (getD_bare c.darts p))

  pub picked_same : (o : Oracle) → picked o b.darts ≡ picked o c.darts
  picked_same o = sym (picked_bare o b.darts) ∙ ap (picked o) bare_same ∙ picked_bare o c.darts

-- MESHES WITH THE SAME IMAGES, of which one has sound blocks
pub counts_same : (lims : ℕ → Limits) (o : Oracle) (m l : List Block) → all (λ b. sound_block (lims b.number) b) l ≡ true → map (memory_of lims) m ≡ map (memory_of lims) l → counts o m ≡ counts o l
unfolding counts
counts_same lims o [] [] s e = refl
counts_same lims o [] (c ∷ l) s e = let z : ◌≡◌ {A = ℕ} 0 1 = cc in absurd (omega arith)
counts_same lims o (b ∷ m) [] s e = let z : ◌≡◌ {A = ℕ} 0 1 = cc in absurd (omega arith)
counts_same lims o (b ∷ m) (c ∷ l) s e =
    let first : memory_of lims b ≡ memory_of lims c = cc in
    let rest : map (memory_of lims) m ≡ map (memory_of lims) l = cc in
    let one = picked_same (lims c.number) (words_of (lims b.number)) (words_of (lims c.number)) b c (and_left (sound_block (lims c.number) c) _ s) first o in
    let others = counts_same lims o m l (and_right (sound_block (lims c.number) c) _ s) rest in
    both _ _ _ _ (ap length one) others
  where
    both : (x y : ℕ) (s t : List ℕ) → x ≡ y → s ≡ t → x ∷ s ≡ y ∷ t
    both x y s t p q = rw (p, q)
