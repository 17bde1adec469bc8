-- Demand 2 of files: what is written reads back to the same block, and every file that is read is written back byte for byte.
-- Assumes nothing.
use mathlib.Core.Path.{◌≡◌, refl, sym, ◌∙◌, ap}
use mathlib.Core.Bool.{true, true≢false, ◌&&◌}
use mathlib.Core.List.{List, [], ◌∷◌, ◌++◌}
use mathlib.Core.Option.{Option, none, some}
use Prim.Native.Nat.{ℕ, ◌<◌, ◌≤◌, ◌^◌}
use native.Mathlib.Omega.{arith}
use lib.Dec.{leb, ltb, eqb}
use lib.ListN.{length, take, drop}
use lib.Seq.{take-append_seam}
use borrow.Author.Tests.{eqb-true, eq-eqb, leb-true, le-leb, lt-ltb}
use Rattle.model.specs.Lists.{all, is_some, first_no}
use Rattle.model.specs.Values.{Point, Label, Third, free, sewn, critical, Dart, Block, Limits, serial_bound, finite, finite_bits, room}
use Rattle.model.specs.Cells.{dart_at, held}
use Rattle.model.specs.Sound.{third_in_range, dart_in_range, ranges_right, coordinates_finite, link_right, links_right, third_right, thirds_right, labels_right, points_agree, sound_block, block_checks}
use Rattle.model.specs.Image.{words_of, image, block_in, is_image, memory_checks}
use Rattle.model.specs.Layouts.{group, group_below, serial, coordinate, ◌⊗◌, ◌⊕◌, as_type, such_that, at_most, times, counted, whole}
use Rattle.model.specs.Messages.{kind_of, critical_link, label, point, third_ok, third, a_dart, file}
use Rattle.model.specs.Calls.{served, Result, storing, writing, or_no_block, read_file, save_file}
use Rattle.model.specs.Demands.{Bytes, FilesExact}
use Rattle.laws.proofs.Tests.{and_left, and_right, and_intro, yes_then, yes_first, no_more}
use Rattle.theory.proofs.LayoutLaws.{whole_back, whole_only}
use Rattle.theory.proofs.FileLaws.{file_lawful}
use Rattle.theory.proofs.BlockLaws.{at_held}
use Rattle.theory.proofs.ImageLaws.{Parts, parts_of, parts_sound, ranges_of, image_is, Readable, links_held, readable_dart}
use Rattle.theory.proofs.CallLaws.{served_gives, served_value, save_file_is}

-- EVERY SOUND BLOCK HAS A FILE
held_small : (ds : List Dart) → all dart_in_range ds ≡ true → (x : ℕ) → held ds x ≡ true → serial.ok x ≡ true
unfolding serial group_below dart_in_range
held_small ds a x h =
    let r = at_held dart_in_range ds a x h in
    let d = dart_at ds x in
    rw (← r.1) (and_right (leb 1 d.serial) _ (and_left (leb 1 d.serial && ltb d.serial serial_bound) _ r.0))

pub small_ok : (n most : ℕ) → most < 2 ^ 32 → leb n most ≡ true → (at_most most).ok n ≡ true
unfolding at_most such_that group group_below
small_ok n most h e = let k = leb-true n most e in and_intro (lt-ltb n (2 ^ 32) (omega arith)) e

-- a third link as the file has it
pub critical_ok : (o : ℕ) (l : Label) → third_in_range (critical o l) ≡ true → critical_link.ok (o, l) ≡ true
unfolding critical_link label as_type ◌⊕◌ ◌⊗◌ group group_below
critical_ok o l k =
    let two = leb o 15 && leb l.maker 15 in
    let three = two && ltb l.number (2 ^ 32) in
    let k3 = and_left three _ k in
    let k2 = and_left two _ k3 in
    and_intro (small_ok o 15 (omega arith) (and_left (leb o 15) _ k2))
    (and_intro (small_ok l.maker 15 (omega arith) (and_right (leb o 15) _ k2))
    (and_intro (and_right two _ k3) (small_ok l.position 4095 (omega arith) (and_right three _ k))))

link_ok : (ds : List Dart) → all dart_in_range ds ≡ true → (t : Third) → links_held ds t ≡ true → third_in_range t ≡ true → third_ok t ≡ true
link_ok ds a free h k = refl
link_ok ds a (sewn y) h k = held_small ds a y h
link_ok ds a (critical o l) h k = critical_ok o l k

kind_small : (t : Third) → leb (kind_of t) 2 ≡ true
kind_small free = refl
kind_small (sewn y) = refl
kind_small (critical o l) = refl

finite_small : (n : ℕ) → finite_bits n ≡ true → coordinate.ok n ≡ true
unfolding coordinate finite_bits
finite_small n f = and_left (ltb n (2 ^ 64)) _ f

pub point_ok : (p : Point) → finite p ≡ true → point.ok p ≡ true
unfolding point as_type ◌⊕◌ ◌⊗◌ finite
point_ok p f =
    let two = and_left (finite_bits p.x && finite_bits p.y) _ f in
    and_intro (finite_small p.x (and_left (finite_bits p.x) _ two)) (and_intro (finite_small p.y (and_right (finite_bits p.x) _ two))
    (finite_small p.z (and_right (finite_bits p.x && finite_bits p.y) _ f)))

own_small : (d : Dart) → dart_in_range d ≡ true → (leb 1 d.serial ≡ true) × (serial.ok d.serial ≡ true)
unfolding serial group_below dart_in_range
own_small d r =
    let two = and_left (leb 1 d.serial && ltb d.serial serial_bound) _ r in
    (and_left (leb 1 d.serial) _ two, and_right (leb 1 d.serial) _ two)

dart_ok : (ds : List Dart) → all dart_in_range ds ≡ true → (d : Dart) → Readable ds d → dart_in_range d ≡ true → finite d.point ≡ true → a_dart.ok d ≡ true
unfolding a_dart as_type ◌⊕◌ ◌⊗◌ third
dart_ok ds a d r own f =
    and_intro (own_small d own).1 (and_intro (held_small ds a d.next r.next_held) (and_intro (held_small ds a d.opposite r.opposite_held)
    (and_intro (and_intro (small_ok (kind_of d.third) 2 (omega arith) (kind_small d.third))
    (and_intro (eq-eqb (kind_of d.third) (kind_of d.third) refl) (link_ok ds a d.third r.third_held r.in_range)))
    (point_ok d.point f))))

pub darts_ok : (ds : List Dart) → all dart_in_range ds ≡ true → (es : List Dart) → all (link_right ds) es ≡ true → all (λ d. third_right ds d d.third) es ≡ true
    → all dart_in_range es ≡ true → all (λ d. finite d.point) es ≡ true → all a_dart.ok es ≡ true
darts_ok ds a [] l t r f = refl
darts_ok ds a (d ∷ es) l t r f =
    let own = and_left (dart_in_range d) _ r in
    and_intro (dart_ok ds a d (readable_dart ds d (and_left (link_right ds d) _ l) (and_left (third_right ds d d.third) _ t) own) own (and_left (finite d.point) _ f))
    (darts_ok ds a es (and_right (link_right ds d) _ l) (and_right (third_right ds d d.third) _ t) (and_right (dart_in_range d) _ r) (and_right (finite d.point) _ f))

pub positive_all : (es : List Dart) → all dart_in_range es ≡ true → all (λ d. leb 1 d.serial) es ≡ true
positive_all [] r = refl
positive_all (d ∷ es) r = and_intro (own_small d (and_left (dart_in_range d) _ r)).0 (positive_all es (and_right (dart_in_range d) _ r))

pub file_ok : (lim : Limits) (b : Block) → lim.block_darts ≤ room → sound_block lim b ≡ true → (file lim).ok b ≡ true
unfolding file such_that as_type ◌⊕◌ ◌⊗◌ counted times group group_below links_right thirds_right coordinates_finite
file_ok lim b fits s =
    let p = parts_of lim b s in
    let r = ranges_of lim b p.ranges in
    let n = length b.darts in
    let few = r.few_darts in
    and_intro (and_intro (small_ok b.number 15 (omega arith) (le-leb b.number 15 r.number_small)) (and_intro (lt-ltb b.counter (2 ^ 32) r.counter_small)
    (and_intro (lt-ltb n (2 ^ 32) (omega arith)) (and_intro (eq-eqb n n refl) (darts_ok b.darts r.each_dart b.darts p.links p.thirds r.each_dart p.finite)))))
    (and_intro (and_intro (le-leb n lim.block_darts few) (positive_all b.darts r.each_dart)) r.in_order)

-- WHAT IS READ IS IN RANGE
ok_small : (n most : ℕ) → (at_most most).ok n ≡ true → leb n most ≡ true
unfolding at_most such_that
ok_small n most e = and_right (group.ok n) _ e

pub ok_third : (t : Third) → third_ok t ≡ true → third_in_range t ≡ true
unfolding critical_link label as_type ◌⊕◌ ◌⊗◌ group group_below
ok_third free o = refl
ok_third (sewn y) o = refl
ok_third (critical c l) o =
    let rest = and_right ((at_most 15).ok c) _ o in
    let last = and_right ((at_most 15).ok l.maker) _ rest in
    and_intro (and_intro (and_intro (ok_small c 15 (and_left ((at_most 15).ok c) _ o)) (ok_small l.maker 15 (and_left ((at_most 15).ok l.maker) _ rest)))
    (and_left (ltb l.number (2 ^ 32)) _ last)) (ok_small l.position 4095 (and_right (ltb l.number (2 ^ 32)) _ last))

ok_dart : (d : Dart) → leb 1 d.serial ≡ true → a_dart.ok d ≡ true → dart_in_range d ≡ true
unfolding a_dart as_type ◌⊕◌ ◌⊗◌ third serial group_below dart_in_range
ok_dart d one o =
    let o1 = and_right (ltb d.serial serial_bound) _ o in
    let o2 = and_right (ltb d.next serial_bound) _ o1 in
    let o3 = and_right (ltb d.opposite serial_bound) _ o2 in
    let kind = and_left ((at_most 2).ok (kind_of d.third) && (eqb (kind_of d.third) (kind_of d.third) && third_ok d.third)) _ o3 in
    and_intro (and_intro one (and_left (ltb d.serial serial_bound) _ o))
    (ok_third d.third (and_right (eqb (kind_of d.third) (kind_of d.third)) _ (and_right ((at_most 2).ok (kind_of d.third)) _ kind)))

ok_darts : (es : List Dart) → all (λ d. leb 1 d.serial) es ≡ true → all a_dart.ok es ≡ true → all dart_in_range es ≡ true
ok_darts [] l o = refl
ok_darts (d ∷ es) l o = and_intro (ok_dart d (and_left (leb 1 d.serial) _ l) (and_left (a_dart.ok d) _ o)) (ok_darts es (and_right (leb 1 d.serial) _ l) (and_right (a_dart.ok d) _ o))

pub ok_ranges : (lim : Limits) (b : Block) → (file lim).ok b ≡ true → ranges_right lim b ≡ true
unfolding file such_that as_type ◌⊕◌ ◌⊗◌ counted times group group_below ranges_right
ok_ranges lim b o =
    let few = leb (length b.darts) lim.block_darts in
    let positive = all (λ d. leb 1 d.serial) b.darts in
    let test =
    and_right
    ((at_most 15).ok b.number
    && (ltb b.counter (2 ^ 32)
    && (ltb (length b.darts) (2 ^ 32) && (eqb (length b.darts) (length b.darts) && all a_dart.ok b.darts)))) _
    o
    in
    let body =
    and_left
    ((at_most 15).ok b.number
    && (ltb b.counter (2 ^ 32)
    && (ltb (length b.darts) (2 ^ 32) && (eqb (length b.darts) (length b.darts) && all a_dart.ok b.darts)))) _
    o
    in
    let rest = and_right ((at_most 15).ok b.number) _ body in
    let darts = and_right (eqb (length b.darts) (length b.darts)) _ (and_right (ltb (length b.darts) (2 ^ 32)) _ (and_right (ltb b.counter (2 ^ 32)) _ rest)) in
    let sizes = and_left (few && positive) _ test in
    and_intro (and_intro (and_intro (and_intro (ok_small b.number 15 (and_left ((at_most 15).ok b.number) _ body)) (and_left (ltb b.counter (2 ^ 32)) _ rest))
    (and_left few _ sizes)) (ok_darts b.darts (and_right few _ sizes) darts)) (and_right (few && positive) _ test)

-- 4 to 8 answered yes, one by one
pub checked_parts : (lim : Limits) (b : Block) → ranges_right lim b ≡ true → first_no (block_checks b) ≡ 0 → Parts lim b
unfolding block_checks
checked_parts lim b r e =
    let q4 = yes_first 4 (coordinates_finite b.darts) _ (λ z. omega arith) e in
    let q5 = yes_first 5 (links_right b.darts) _ (λ z. omega arith) q4.1 in
    let q6 = yes_first 6 (thirds_right b.darts) _ (λ z. omega arith) q5.1 in
    let q7 = yes_first 7 (labels_right b) _ (λ z. omega arith) q6.1 in
    let q8 = yes_first 8 (points_agree b.darts) _ (λ z. omega arith) q7.1 in
    record { ranges = r; finite = q4.0; links = q5.0; thirds = q6.0; labels = q7.0; points = q8.0 }

pub parts_checked : (lim : Limits) (b : Block) → Parts lim b → first_no (block_checks b) ≡ 0
unfolding block_checks
parts_checked lim b p = yes_then 4 _ _ p.finite ∙ yes_then 5 _ _ p.links ∙ yes_then 6 _ _ p.thirds ∙ yes_then 7 _ _ p.labels ∙ yes_then 8 _ _ p.points ∙ no_more

-- BOTH WAYS
module _ (lim : Limits) (fits : lim.block_darts ≤ room) where
  -- a file of a sound block is read into any memory of the right size
  pub reads : (b : Block) (into : List ℕ) → sound_block lim b ≡ true → length into ≡ words_of lim → read_file lim ((file lim).put b) into ≡ record { answer = served tt; lent = image (words_of lim) b }
  unfolding read_file storing
  reads b into s l =
      rw (whole_back (file lim) (file_lawful lim) b (file_ok lim b fits s))
      (served_gives _ into tt (image (words_of lim) b) (yes_then 1 _ _ (eq-eqb (length into) (words_of lim) l) ∙ yes_then 3 _ _ refl ∙ parts_checked lim b (parts_of lim b s)))

  -- "what is written reads back to the same block"
  back : (m out into : List ℕ) (n : ℕ) → length into ≡ words_of lim → (save_file lim m out).answer ≡ served n
      → read_file lim (take n (save_file lim m out).lent) into ≡ record { answer = served tt; lent = m }
  unfolding save_file writing memory_checks
  back m out into n l e =
      let bytes = (file lim).put (block_in m) in
      let v = served_value _ out (length bytes) (bytes ++ drop (length bytes) out) n e in
      let q1 = yes_first 1 (eqb (length m) (words_of lim)) _ (λ z. omega arith) v.0 in
      let q2 = yes_first 2 (is_image lim m) _ (λ z. omega arith) q1.1 in
      let i = image_is lim m q2.0 in
      let long = eqb-true (length m) (words_of lim) q1.0 in
      rw (← v.1, served_gives _ out (length bytes) (bytes ++ drop (length bytes) out) v.0, take-append_seam bytes (drop (length bytes) out))
      (reads (block_in m) into i.1 l ∙ ap (λ (w : List ℕ). record { answer = served tt; lent = w }) (ap (λ (n : ℕ). image n (block_in m)) (sym long) ∙ i.0))

  -- what is read is a sound block, and the file is its own
  pub record ReadAs (bytes into : List ℕ) : Type 0 where
    pub block : Block
    pub sound : sound_block lim block ≡ true
    pub put : bytes ≡ (file lim).put block
    pub stored : (read_file lim bytes into).lent ≡ image (words_of lim) block

  some_block : (o : Option Block) → is_some o ≡ true → o ≡ some (or_no_block o)
  some_block none e = absurd (true≢false (sym e))
  some_block (some b) e = refl

  pub read_as : (bytes into : List ℕ) → Bytes bytes → (read_file lim bytes into).answer ≡ served tt → ReadAs bytes into
  unfolding read_file storing
  read_as bytes into h e =
      let o = whole (file lim) bytes in
      let b = or_no_block o in
      let v = served_value _ into tt (image (words_of lim) b) tt e in
      let q1 = yes_first 1 (eqb (length into) (words_of lim)) _ (λ z. omega arith) v.0 in
      let q3 = yes_first 3 (is_some o) _ (λ z. omega arith) q1.1 in
      let w = whole_only (file lim) (file_lawful lim) bytes b h (some_block o q3.0) in
      record {
        block = b;
        sound = parts_sound lim b (checked_parts lim b (ok_ranges lim b w.1) q3.1);
        put = w.0;
        stored = ap (λ (r : Result (Unit {0})). r.lent) (served_gives _ into tt (image (words_of lim) b) v.0);
      }

  saved_whole : (bytes out : List ℕ) → length bytes ≤ length out → writing [] out bytes ≡ record { answer = served (length bytes); lent = bytes ++ drop (length bytes) out }
  unfolding writing
  saved_whole bytes out l = served_gives _ out (length bytes) (bytes ++ drop (length bytes) out) (yes_then 15 _ _ (le-leb (length bytes) (length out) l) ∙ no_more)

  -- "every file that is read is written back byte for byte"
  forth : (bytes into out : List ℕ) → Bytes bytes → length bytes ≤ length out → (read_file lim bytes into).answer ≡ served tt
      → save_file lim (read_file lim bytes into).lent out ≡ record { answer = served (length bytes); lent = bytes ++ drop (length bytes) out }
  forth bytes into out h l e =
      let r = read_as bytes into h e in
      ap (λ (m : List ℕ). save_file lim m out) r.stored ∙ save_file_is lim r.block r.sound out
      ∙ ap (writing [] out) (sym r.put) ∙ saved_whole bytes out l

  pub files_exact : FilesExact lim
  files_exact = record { reads_back = back; writes_back = forth }
