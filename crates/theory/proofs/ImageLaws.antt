-- A sound block is read back from its image, so an image determines its block; memory that passes question 2 is the image of what is
-- read from it. Assumes nothing.
use mathlib.Core.Path.{◌≡◌, refl, sym, ◌∙◌, ap}
use mathlib.Core.Bool.{Bool, true, true≢false, ◌&&◌}
use mathlib.Core.List.{List, [], ◌∷◌, ◌++◌, map, append_assoc}
use Prim.Native.Nat.{ℕ, zero, suc, ◌+◌, ◌*◌, ◌-◌, ◌<◌, ◌≤◌, ◌^◌, ◌/◌, ◌%◌}
use native.Mathlib.Omega.{arith}
use native.Mathlib.Nat.{not-suc-le-zero, zero-mul, zero-add, add_assoc}
use lib.Dec.{leb, ltb, eqb}
use lib.ListN.{length, get_or, replicate, length-append, length-replicate, length-map, get_or-append}
use lib.Seq.{get_or-append-add}
use borrow.Author.Tests.{eqb-true, ne_eqb, leb-true, ltb-true, le-leb, lt-ltb}
use Rattle.model.specs.Lists.{all, any, mem, tab, ascending, concat, index_of, same_list}
use Rattle.model.specs.Values.{room, Label, Third, free, sewn, critical, Dart, no_dart, Block, Limits, widest, serial_bound, code}
use Rattle.model.specs.Cells.{serials, held}
use Rattle.model.specs.Sound.{third_in_range, dart_in_range, ranges_right, links_right, link_right, thirds_right, third_right, coordinates_finite, labels_right, points_agree, block_checks, sound_block}
use Rattle.model.specs.Image.{words_for, words_of, count_in, kind_word, link_word, dart_words, image, column, label_in, third_in, dart_in, block_in, is_image, holds_block}
use Rattle.laws.proofs.Tests.{by_cases, and_left, and_right, and_intro, same_truth, all_at, same_list_is, same_list_self}
use Rattle.laws.proofs.Tables.{length_tab}

-- LABELS AND PLACES
pub label_back : (l : Label) → l.number < 2 ^ 32 → l.position ≤ 4095 → label_in (code l) ≡ l
unfolding code
label_back l a b =
    let high : ((l.maker * 2 ^ 32 + l.number) * 4096 + l.position) / 4096 ≡ l.maker * 2 ^ 32 + l.number = omega arith in
    let maker : (l.maker * 2 ^ 32 + l.number) / 2 ^ 32 ≡ l.maker = omega arith in
    let number : (l.maker * 2 ^ 32 + l.number) % 2 ^ 32 ≡ l.number = omega arith in
    let position : ((l.maker * 2 ^ 32 + l.number) * 4096 + l.position) % 4096 ≡ l.position = omega arith in
    rw (high, maker, number, position)

pub place_back : (x : ℕ) (ss : List ℕ) → mem x ss ≡ true → (get_or ss (index_of x ss) 0 ≡ x) × (index_of x ss < length ss)
unfolding index_of
place_back x [] h = absurd (true≢false (sym h))
place_back x (y ∷ ss) h = by_cases (eqb x y)
    (λ e. rw e (sym (eqb-true x y e), omega arith))
    (λ e. let r = place_back x ss (rw e at h) in rw e (r.0, omega (arith, r.1)))

-- A list by places
pub tab_list : {A : Type 0} (d : A) (l : List A) (f : ℕ → A) → ((p : ℕ) → p < length l → f p ≡ get_or l p d) → tab f (length l) ≡ l
tab_list d [] f h = refl
tab_list d (a ∷ l) f h = rw (h 0 (omega arith), tab_list d l (λ p. f (suc p)) (λ p k. h (suc p) (omega arith)))

pub getD_serial : (ds : List Dart) (p : ℕ) → get_or (serials ds) p 0 ≡ (get_or ds p no_dart).serial
unfolding no_dart
getD_serial [] p = refl
getD_serial (d ∷ ds) zero = refl
getD_serial (d ∷ ds) (suc p) = getD_serial ds p

-- THE WORDS OF AN IMAGE
words_8 : (ss : List ℕ) (d : Dart) → length (dart_words ss d) ≡ 8
unfolding dart_words
words_8 ss d = refl

first_word : (ss : List ℕ) (d : Dart) → get_or (dart_words ss d) 0 0 ≡ d.serial
unfolding dart_words
first_word ss d = refl

in_rows : (ss : List ℕ) (es : List Dart) (rest : List ℕ) (p f : ℕ) → p < length es → f < 8
    → get_or (concat (map (dart_words ss) es) ++ rest) (p * 8 + f) 0 ≡ get_or (dart_words ss (get_or es p no_dart)) f 0
unfolding concat
in_rows ss [] rest p f h k = absurd (not-suc-le-zero h)
in_rows ss (d ∷ es) rest zero f h k =
    rw (zero-mul, zero-add, append_assoc (dart_words ss d) (concat (map (dart_words ss) es)) rest)
    (get_or-append (dart_words ss d) (concat (map (dart_words ss) es) ++ rest) 0 f (rw (words_8 ss d) k))
in_rows ss (d ∷ es) rest (suc p) f h k =
    let at : suc p * 8 + f ≡ length (dart_words ss d) + (p * 8 + f) = rw (words_8 ss d) (omega arith) in
    rw (at, append_assoc (dart_words ss d) (concat (map (dart_words ss) es)) rest, get_or-append-add (dart_words ss d) (concat (map (dart_words ss) es) ++ rest) (p * 8 + f) 0)
    (in_rows ss es rest p f (omega arith) k)

-- field f of the dart at place p
pub column_is : (size : ℕ) (b : Block) (p f : ℕ) → p < length b.darts → f < 8 → column (image size b) f p ≡ get_or (dart_words (serials b.darts) (get_or b.darts p no_dart)) f 0
unfolding image
column_is size b p f h k =
    let head : List ℕ = b.number ∷ b.counter ∷ length b.darts ∷ 0 ∷ 0 ∷ 0 ∷ 0 ∷ 0 ∷ [] in
    let rows : List ℕ = concat (map (dart_words (serials b.darts)) b.darts) ++ replicate (size - words_for (length b.darts)) 0 in
    ap (λ (i : ℕ). get_or (head ++ rows) i 0) (add_assoc 8 (p * 8) f) ∙ get_or-append-add head rows (p * 8 + f) 0
    ∙ in_rows (serials b.darts) b.darts (replicate (size - words_for (length b.darts)) 0) p f h k

-- READING BACK
-- what has to be held
abbrev pub links_held : List Dart → Third → Bool
links_held ds free = true
links_held ds (sewn y) = held ds y
links_held ds (critical o l) = true

pub record Readable (ds : List Dart) (d : Dart) : Type 0 where
  pub next_held : held ds d.next ≡ true
  pub opposite_held : held ds d.opposite ≡ true
  pub third_held : links_held ds d.third ≡ true
  pub in_range : third_in_range d.third ≡ true

module _ (size : ℕ) (b : Block) where
  pub serial_back : (x : ℕ) → held b.darts x ≡ true → column (image size b) 0 (index_of x (serials b.darts)) ≡ x
  serial_back x h =
      let r = place_back x (serials b.darts) h in
      let small : index_of x (serials b.darts) < length b.darts = omega (arith, r.1, length-map b.darts (λ (d : Dart). d.serial)) in
      column_is size b (index_of x (serials b.darts)) 0 small (omega arith)
      ∙ first_word (serials b.darts) (get_or b.darts (index_of x (serials b.darts)) no_dart)
      ∙ sym (getD_serial b.darts (index_of x (serials b.darts))) ∙ r.0

  pub third_back : (t : Third) → links_held b.darts t ≡ true → third_in_range t ≡ true
      → third_in (column (image size b) 0) (kind_word t) (link_word (serials b.darts) t) ≡ t
  unfolding third_in
  third_back free h r = refl
  third_back (sewn y) h r = rw (serial_back y h)
  third_back (critical o l) h r =
      let low = leb o 15 && leb l.maker 15 in
      let position = and_right (low && ltb l.number (2 ^ 32)) _ r in
      let number = and_right low _ (and_left (low && ltb l.number (2 ^ 32)) _ r) in
      let other : (2 + 4 * o) / 4 ≡ o = omega arith in
      rw (
        ne_eqb ((2 + 4 * o) % 4) 0 (λ e. omega arith),
        ne_eqb ((2 + 4 * o) % 4) 1 (λ e. omega arith),
        other,
        label_back l (ltb-true l.number (2 ^ 32) number) (leb-true l.position 4095 position),
      )

  dart_back : (p : ℕ) → p < length b.darts → Readable b.darts (get_or b.darts p no_dart) → dart_in (image size b) p ≡ get_or b.darts p no_dart
  unfolding dart_words
  dart_back p h r = rw (
    column_is size b p 0 h (omega arith),
    column_is size b p 1 h (omega arith),
    column_is size b p 2 h (omega arith),
    column_is size b p 3 h (omega arith),
    column_is size b p 4 h (omega arith),
    column_is size b p 5 h (omega arith),
    column_is size b p 6 h (omega arith),
    column_is size b p 7 h (omega arith),
    serial_back (get_or b.darts p no_dart).next r.next_held,
    serial_back (get_or b.darts p no_dart).opposite r.opposite_held,
    third_back (get_or b.darts p no_dart).third r.third_held r.in_range,
  )

  pub read_back : ((p : ℕ) → p < length b.darts → Readable b.darts (get_or b.darts p no_dart)) → block_in (image size b) ≡ b
  unfolding image
  read_back r = rw (tab_list no_dart b.darts (dart_in (image size b)) (λ p h. dart_back p h (r p h)))

-- A SOUND BLOCK is read back
pub readable_dart : (ds : List Dart) (d : Dart) → link_right ds d ≡ true → third_right ds d d.third ≡ true → dart_in_range d ≡ true → Readable ds d
unfolding link_right third_right dart_in_range
readable_dart ds d l t r = record {
  next_held = and_left (held ds d.next) _ (and_left two _ three);
  opposite_held = and_right two _ three;
  third_held = go d.third t;
  in_range = and_right (leb 1 d.serial && ltb d.serial serial_bound) _ r;
}
  where
    two : Bool
    two = held ds d.next && any (λ e. eqb e.next d.serial) ds

    three : (held ds d.next && any (λ e. eqb e.next d.serial) ds && held ds d.opposite) ≡ true
    three = and_left (held ds d.next && any (λ e. eqb e.next d.serial) ds && held ds d.opposite) _ (and_left _ _ l)

    go : (x : Third) → third_right ds d x ≡ true → links_held ds x ≡ true
    go free h = refl
    go (sewn y) h = and_left (held ds y) _ (and_left _ _ (and_left _ _ h))
    go (critical o m) h = refl

-- questions 3 to 8, one by one
pub record Parts (lim : Limits) (b : Block) : Type 0 where
  pub ranges : ranges_right lim b ≡ true
  pub finite : coordinates_finite b.darts ≡ true
  pub links : links_right b.darts ≡ true
  pub thirds : thirds_right b.darts ≡ true
  pub labels : labels_right b ≡ true
  pub points : points_agree b.darts ≡ true

pub parts_of : (lim : Limits) (b : Block) → sound_block lim b ≡ true → Parts lim b
unfolding sound_block block_checks
parts_of lim b s =
    let s4 = and_right (ranges_right lim b) _ s in
    let s5 = and_right (coordinates_finite b.darts) _ s4 in
    let s6 = and_right (links_right b.darts) _ s5 in
    let s7 = and_right (thirds_right b.darts) _ s6 in
    let s8 = and_right (labels_right b) _ s7 in
    record {
      ranges = and_left (ranges_right lim b) _ s;
      finite = and_left (coordinates_finite b.darts) _ s4;
      links = and_left (links_right b.darts) _ s5;
      thirds = and_left (thirds_right b.darts) _ s6;
      labels = and_left (labels_right b) _ s7;
      points = and_left (points_agree b.darts) _ s8;
    }

pub parts_sound : (lim : Limits) (b : Block) → Parts lim b → sound_block lim b ≡ true
unfolding sound_block block_checks
parts_sound lim b p = rw (p.ranges, p.finite, p.links, p.thirds, p.labels, p.points)

-- what is in range, one by one
pub record Ranges (lim : Limits) (b : Block) : Type 0 where
  pub number_small : b.number ≤ 15
  pub counter_small : b.counter < 2 ^ 32
  pub few_darts : length b.darts ≤ lim.block_darts
  pub each_dart : all dart_in_range b.darts ≡ true
  pub in_order : ascending (serials b.darts) ≡ true

pub ranges_of : (lim : Limits) (b : Block) → ranges_right lim b ≡ true → Ranges lim b
unfolding ranges_right
ranges_of lim b r =
    let q1 = leb b.number 15 in
    let q2 = q1 && ltb b.counter (2 ^ 32) in
    let q3 = q2 && leb (length b.darts) lim.block_darts in
    let q4 = q3 && all dart_in_range b.darts in
    let r4 = and_left q4 _ r in
    let r3 = and_left q3 _ r4 in
    let r2 = and_left q2 _ r3 in
    record {
      number_small = leb-true b.number 15 (and_left q1 _ r2);
      counter_small = ltb-true b.counter (2 ^ 32) (and_right q1 _ r2);
      few_darts = leb-true (length b.darts) lim.block_darts (and_right q2 _ r3);
      each_dart = and_right q3 _ r4;
      in_order = and_right q4 _ r;
    }

pub block_back : (lim : Limits) (size : ℕ) (b : Block) → sound_block lim b ≡ true → block_in (image size b) ≡ b
unfolding links_right thirds_right
block_back lim size b s =
    let q = parts_of lim b s in
    let each = (ranges_of lim b q.ranges).each_dart in
    read_back size b (λ p h. readable_dart b.darts (get_or b.darts p no_dart) (all_at (link_right b.darts) no_dart b.darts p q.links h)
    (all_at (λ d. third_right b.darts d d.third) no_dart b.darts p q.thirds h) (all_at dart_in_range no_dart b.darts p each h))

-- an image determines its block
pub image_injective : (lim : Limits) (size : ℕ) (b c : Block) → sound_block lim b ≡ true → sound_block lim c ≡ true → image size b ≡ image size c → b ≡ c
image_injective lim size b c s t e = sym (block_back lim size b s) ∙ ap block_in e ∙ block_back lim size c t

-- MEMORY THAT PASSES QUESTION 2
pub image_is : (lim : Limits) (m : List ℕ) → is_image lim m ≡ true → (image (length m) (block_in m) ≡ m) × (sound_block lim (block_in m) ≡ true)
unfolding is_image
image_is lim m e =
    let fits = leb (words_for (count_in m)) (length m) in
    let two = fits && same_list (image (length m) (block_in m)) m in
    (same_list_is (image (length m) (block_in m)) m (and_right fits _ (and_left two _ e)), and_right two _ e)

-- its darts fit
pub count_fits : (lim : Limits) (m : List ℕ) → is_image lim m ≡ true → words_for (count_in m) ≤ length m
unfolding is_image
count_fits lim m e =
    let fits = leb (words_for (count_in m)) (length m) in
    leb-true (words_for (count_in m)) (length m) (and_left fits _ (and_left (fits && same_list (image (length m) (block_in m)) m) _ e))

-- THE LENGTH OF AN IMAGE
pub rows_length : (ss : List ℕ) (es : List Dart) → length (concat (map (dart_words ss) es)) ≡ length es * 8
unfolding concat dart_words
rows_length ss [] = refl
rows_length ss (d ∷ es) = let ih = rows_length ss es in omega arith

pub image_length : (size : ℕ) (b : Block) → words_for (length b.darts) ≤ size → length (image size b) ≡ size
unfolding image
image_length size b h = simp (length-append, length-replicate, rows_length) (omega arith)

pub image_count : (size : ℕ) (b : Block) → count_in (image size b) ≡ length b.darts
unfolding image
image_count size b = refl

-- memory is an image where it is that of the block that is read from it
pub is_image_by : (lim : Limits) (m : List ℕ) → words_for (count_in m) ≤ length m → image (length m) (block_in m) ≡ m → sound_block lim (block_in m) ≡ true → is_image lim m ≡ true
unfolding is_image
is_image_by lim m fits same s =
    and_intro (and_intro (le-leb (words_for (count_in m)) (length m) fits) (ap (λ (l : List ℕ). same_list l m) same ∙ same_list_self m)) s

pub is_image_of : (lim : Limits) (size : ℕ) (b : Block) → words_of lim ≤ size → sound_block lim b ≡ true → is_image lim (image size b) ≡ true
is_image_of lim size b fits s =
    let few = (ranges_of lim b (parts_of lim b s).ranges).few_darts in
    let long = image_length size b (omega arith) in
    let back = block_back lim size b s in
    is_image_by lim (image size b) (omega (arith, image_count size b, long, few)) (ap (λ (n : ℕ). image n (block_in (image size b))) long ∙ ap (image size) back)
    (ap (sound_block lim) back ∙ s)

-- other limits, where its darts fit
pub ranges_fit : (lim other : Limits) (b : Block) → length b.darts ≤ other.block_darts → ranges_right lim b ≡ true → ranges_right other b ≡ true
unfolding ranges_right
ranges_fit lim other b few e =
    let r = ranges_of lim b e in
    rw (
      le-leb b.number 15 r.number_small,
      lt-ltb b.counter (2 ^ 32) r.counter_small,
      le-leb (length b.darts) other.block_darts few,
      r.each_dart,
      r.in_order,
    )

pub sound_fits : (lim other : Limits) (b : Block) → length b.darts ≤ other.block_darts → sound_block lim b ≡ true → sound_block other b ≡ true
sound_fits lim other b few s =
    let q = parts_of lim b s in
    parts_sound other b (record {
      ranges = ranges_fit lim other b few q.ranges;
      finite = q.finite;
      links = q.links;
      thirds = q.thirds;
      labels = q.labels;
      points = q.points;
    })

-- QUESTION 2 BY OTHER LIMITS
pub image_fits : (lim other : Limits) (m : List ℕ) → count_in m ≤ other.block_darts → is_image lim m ≡ true → is_image other m ≡ true
image_fits lim other m few e =
    let t = image_is lim m e in
    is_image_by other m (count_fits lim m e) t.0 (sound_fits lim other (block_in m) (omega (arith, length_tab (dart_in m) (count_in m))) t.1)

-- in memory of the size that the limits say it asks for a sound block alone
pub image_by_size : (lim : Limits) (m : List ℕ) → lim.block_darts ≤ room → length m ≡ words_of lim → holds_block m ≡ is_image lim m
image_by_size lim m small size = same_truth (holds_block m) (is_image lim m)
    (λ e. image_fits widest lim m (omega (arith, count_fits widest m e)) e)
    (λ e. image_fits lim widest m (omega (arith, count_fits lim m e)) e)
