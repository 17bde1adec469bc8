-- The layout of pages is lawful: how long lines and pages are, where each row stands, and what is read back. Assumes nothing.
use mathlib.Core.Path.{◌≡◌, refl, sym, ◌∙◌, ap}
use mathlib.Core.Bool.{Bool, true, false, ◌&&◌}
use mathlib.Core.List.{List, [], ◌∷◌, ◌++◌, map, append_assoc}
use mathlib.Core.Logic.{◌⊎◌, ⊎_elim}
use Prim.Native.Nat.{ℕ, zero, suc, ◌+◌, ◌*◌, ◌-◌, ◌/◌, ◌%◌, ◌^◌, ◌<◌, ◌≤◌}
use native.Mathlib.Omega.{arith}
use lib.Dec.{leb, ltb}
use lib.ListN.{length, get_or, take, drop, length-append, length-replicate, take-append-drop}
use lib.Seq.{take-append_seam, drop-append_seam, drop-drop, get_or_at}
use borrow.Author.Tests.{leb-true, le-leb, ltb-true, lt-ltb, le-ltb}
use Rattle.laws.specs.Standing.{Stands}
use Rattle.laws.proofs.Tests.{by_cases, and_left, and_right, and_intro, all_at, same_list_is, same_list_self, not_equal}
use Rattle.laws.proofs.Standings.{stands_left, stands_right, stands_at, stands_is, stands_take, stands_first, many_stand, length_pieces, piece_stands}
use Rattle.model.specs.Lists.{all, ascending, concat, tab, same_list}
use Rattle.model.specs.Values.{Label, Third, free, sewn, critical, Limits, room, serial_bound, last_block}
use Rattle.model.specs.Text.{bytes, is_digit, decimal, third_text}
use Rattle.model.specs.Layouts.{group, group_below, serial, ◌⊗◌, ◌⊕◌, as_type, such_that, at_most}
use Rattle.model.specs.Messages.{label, critical_link, third_ok}
use Rattle.model.specs.Pages.{Row, Paged, no_row, blanks, line_feed, number_column, third_column, first_line, row_line, blank_line, line_of, page_count, page, pages_text, number_from, number_at, numbers_from, third_from, row_from, row_place, has_row, run, paged_from, row_ok, paged_ok, pages}
use Rattle.theory.proofs.LayoutLaws.{Lawful, when_some, read_eq}
use Rattle.theory.proofs.ImageLaws.{tab_list}
use Rattle.theory.proofs.TextLaws.{decimal_most, decimal_ten, decimal_back, numbers_back, number_append, last_digit_of}

-- RANGES
-- the numbers of a label
pub record LabelSmall (o : ℕ) (l : Label) : Type 0 where
  pub other : o < 16
  pub maker : l.maker < 16
  pub number : l.number < 2 ^ 32
  pub position : l.position < 4096

pub label_small : (o : ℕ) (l : Label) → third_ok (critical o l) ≡ true → LabelSmall o l
unfolding critical_link label as_type ◌⊕◌ ◌⊗◌ at_most such_that group group_below
label_small o l e =
    let rest = and_right (ltb o (2 ^ 32) && leb o 15) _ e in
    let last = and_right (ltb l.maker (2 ^ 32) && leb l.maker 15) _ rest in
    record {
      other = omega (arith, leb-true o 15 (and_right (ltb o (2 ^ 32)) _ (and_left (ltb o (2 ^ 32) && leb o 15) _ e)));
      maker = omega (arith, leb-true l.maker 15 (and_right (ltb l.maker (2 ^ 32)) _ (and_left (ltb l.maker (2 ^ 32) && leb l.maker 15) _ rest)));
      number = ltb-true l.number (2 ^ 32) (and_left (ltb l.number (2 ^ 32)) _ last);
      position = omega (arith, leb-true l.position 4095 (and_right (ltb l.position (2 ^ 32)) _ (and_right (ltb l.number (2 ^ 32)) _ last)));
    }

pub sewn_small : (s : ℕ) → third_ok (sewn s) ≡ true → s < 2 ^ 32
unfolding serial group_below
sewn_small s e = ltb-true s serial_bound e

pub record RowSmall (r : Row) : Type 0 where
  pub serial : r.serial < 2 ^ 32
  pub next : r.next < 2 ^ 32
  pub opposite : r.opposite < 2 ^ 32
  pub third : third_ok r.third ≡ true

pub row_small : (r : Row) → row_ok r ≡ true → RowSmall r
row_small r e =
    let a = leb 1 r.serial in
    let b = a && ltb r.serial serial_bound in
    let c = b && ltb r.next serial_bound in
    let d = c && ltb r.opposite serial_bound in
    let ed = and_left d _ e in
    let ec = and_left c _ ed in
    let eb = and_left b _ ec in
    record {
      serial = ltb-true r.serial serial_bound (and_right a _ eb);
      next = ltb-true r.next serial_bound (and_right b _ ec);
      opposite = ltb-true r.opposite serial_bound (and_right c _ ed);
      third = and_right d _ e;
    }

pub row_positive : (r : Row) → row_ok r ≡ true → 1 ≤ r.serial
row_positive r e =
    let a = leb 1 r.serial in
    let b = a && ltb r.serial serial_bound in
    let c = b && ltb r.next serial_bound in
    leb-true 1 r.serial (and_left a _ (and_left b _ (and_left c _ (and_left (c && ltb r.opposite serial_bound) _ e))))

-- LENGTHS
pub column_length : (v : ℕ) → v < 2 ^ 32 → length (number_column v) ≡ 10
unfolding number_column
column_length v h = omega (arith, length-append (blanks (10 - length (decimal v))) (decimal v), length-replicate {A = ℕ} (10 - length (decimal v)) 32, decimal_ten v h)

-- "crit O M.N.P", in parts
abbrev pub crit_text : ℕ → Label → List ℕ
crit_text o l = bytes "crit " ++ decimal o ++ bytes " " ++ decimal l.maker ++ bytes "." ++ decimal l.number ++ bytes "." ++ decimal l.position

crit_length : (o : ℕ) (l : Label) → LabelSmall o l → length (crit_text o l) ≤ 26
unfolding bytes
crit_length o l s =
    let a = bytes "crit " in
    let b = a ++ decimal o in
    let c = b ++ bytes " " in
    let d = c ++ decimal l.maker in
    let e = d ++ bytes "." in
    let f = e ++ decimal l.number in
    let g = f ++ bytes "." in
    omega (
      arith,
      length-append g (decimal l.position),
      length-append f (bytes "."),
      length-append e (decimal l.number),
      length-append d (bytes "."),
      length-append c (decimal l.maker),
      length-append b (bytes " "),
      length-append a (decimal o),
      decimal_most 1 o (omega (arith, s.other)),
      decimal_most 1 l.maker (omega (arith, s.maker)),
      decimal_ten l.number s.number,
      decimal_most 3 l.position (omega (arith, s.position)),
    )

pub third_short : (t : Third) → third_ok t ≡ true → length (third_text t) ≤ 26
unfolding third_text
third_short free e = unfold bytes in omega arith
third_short (sewn s) e = unfold bytes in (omega (arith, length-append (bytes "sewn ") (decimal s), decimal_ten s (sewn_small s e)))
third_short (critical o l) e = crit_length o l (label_small o l e)

pub third_length : (t : Third) → third_ok t ≡ true → length (third_column t) ≡ 48
unfolding third_column
third_length t e = omega (arith, length-append (third_text t) (blanks (48 - length (third_text t))), length-replicate {A = ℕ} (48 - length (third_text t)) 32, third_short t e)

pub blank_length : length blank_line ≡ 81
unfolding blank_line
blank_length = refl

pub first_length : (number k n : ℕ) → number < 2 ^ 32 → k < 2 ^ 32 → n < 2 ^ 32 → length (first_line number k n) ≡ 81
unfolding first_line
first_length number k n a b c =
    let x = number_column number in
    let y = number_column k in
    let z = number_column n in
    omega (
      arith,
      length-append (x ++ y ++ z ++ blanks 50) line_feed,
      length-append (x ++ y ++ z) (blanks 50),
      length-append (x ++ y) z,
      length-append x y,
      column_length number a,
      column_length k b,
      column_length n c,
    )

pub row_length : (r : Row) → row_ok r ≡ true → length (row_line r) ≡ 81
unfolding row_line
row_length r e =
    let s = row_small r e in
    let x = number_column r.serial in
    let y = number_column r.next in
    let z = number_column r.opposite in
    let t = third_column r.third in
    omega (
      arith,
      length-append (x ++ y ++ z ++ blanks 2 ++ t) line_feed,
      length-append (x ++ y ++ z ++ blanks 2) t,
      length-append (x ++ y ++ z) (blanks 2),
      length-append (x ++ y) z,
      length-append x y,
      column_length r.serial s.serial,
      column_length r.next s.next,
      column_length r.opposite s.opposite,
      third_length r.third s.third,
    )

pub line_length : (rows : List Row) → all row_ok rows ≡ true → (i : ℕ) → length (line_of rows i) ≡ 81
unfolding line_of
line_length rows a i = by_cases (ltb i (length rows))
    (λ e. rw e (row_length (get_or rows i no_row) (all_at row_ok no_row rows i a (ltb-true i (length rows) e))))
    (λ e. rw e blank_length)

-- how many pages
pub count_positive : (n : ℕ) → 1 ≤ page_count n
unfolding page_count
count_positive n = omega arith

pub count_covers : (n : ℕ) → n ≤ 59 * page_count n
unfolding page_count
count_covers n = omega arith

-- the last page has a row, or it is the only one
pub count_least : (n : ℕ) → 59 * (page_count n - 1) ≤ n
unfolding page_count
count_least n = omega arith

pub count_is : (n k : ℕ) → 1 ≤ k → n ≤ 59 * k → (59 * (k - 1) < n) ⊎ (k ≡ 1) → page_count n ≡ k
unfolding page_count
count_is n k a b c = ⊎_elim (λ h. omega arith) (λ h. omega arith) c

-- WHOLE PAGES, of a block in range
pub record PagedSmall (w : Paged) : Type 0 where
  pub number : w.number < 16
  pub few : length w.rows ≤ room
  pub each : all row_ok w.rows ≡ true

module _ {w : Paged} (s : PagedSmall w) where
  abbrev total : ℕ
  total = page_count (length w.rows)

  pub total_small : total ≤ 70
  unfolding page_count
  total_small = omega (arith, s.few)

  pub page_first : (k : ℕ) → k < total → length (first_line w.number (suc k) total) ≡ 81
  page_first k h = first_length w.number (suc k) total (omega (arith, s.number)) (omega (arith, total_small)) (omega (arith, total_small))

  pub page_length : (k : ℕ) → k < total → length (page w k) ≡ 4860
  unfolding page
  page_length k h = omega (
    arith,
    length-append (first_line w.number (suc k) total) (concat (tab (λ r. line_of w.rows (59 * k + r)) 59)),
    page_first k h,
    length_pieces (λ r. line_of w.rows (59 * k + r)) 81 59 (λ i l. line_length w.rows s.each (59 * k + i)),
  )

  pub text_length : length (pages_text w) ≡ 4860 * total
  unfolding pages_text
  text_length = length_pieces (page w) 4860 total page_length

-- WHERE EACH LINE STANDS
module _ {w : Paged} (s : PagedSmall w) {bs : List ℕ} (t : Stands bs 0 (pages_text w)) where
  abbrev lines : ℕ → ℕ → List ℕ
  lines k r = line_of w.rows (59 * k + r)

  page_stands : (k : ℕ) → k < page_count (length w.rows) → Stands bs (0 + 4860 * k) (page w k)
  unfolding pages_text
  page_stands k h = piece_stands (page w) 4860 (page_count (length w.rows)) 0 (page_length s) t k h

  pub first_stands : (k : ℕ) → k < page_count (length w.rows) → Stands bs (4860 * k) (first_line w.number (suc k) (page_count (length w.rows)))
  unfolding page
  first_stands k h =
      let z : 0 + 4860 * k ≡ 4860 * k = omega arith in
      stands_at z (stands_left (first_line w.number (suc k) (page_count (length w.rows))) (concat (tab (lines k) 59)) (page_stands k h))

  line_stands : (k r : ℕ) → k < page_count (length w.rows) → r < 59 → Stands bs (0 + 4860 * k + 81 + 81 * r) (lines k r)
  unfolding page
  line_stands k r h l =
      let first = first_line w.number (suc k) (page_count (length w.rows)) in
      let at : 0 + 4860 * k + length first ≡ 0 + 4860 * k + 81 = omega (arith, page_first s k h) in
      piece_stands (lines k) 81 59 (0 + 4860 * k + 81) (λ i g. line_length w.rows s.each (59 * k + i))
      (stands_at at (stands_right first (concat (tab (lines k) 59)) (page_stands k h))) r l

  pub row_stands : (i : ℕ) → i < 59 * page_count (length w.rows) → Stands bs (row_place i) (line_of w.rows i)
  row_stands i h =
      let at : 0 + 4860 * (i / 59) + 81 + 81 * (i % 59) ≡ row_place i = omega arith in
      let e : 59 * (i / 59) + i % 59 ≡ i = omega arith in
      stands_is (ap (line_of w.rows) e) (stands_at at (line_stands (i / 59) (i % 59) (omega arith) (omega arith)))

-- READ BACK
number_blanks : (n : ℕ) → number_from 0 (blanks n) ≡ 0
number_blanks zero = refl
number_blanks (suc n) = number_blanks n

pub column_back : (v : ℕ) → v < 2 ^ 32 → number_from 0 (number_column v) ≡ v
unfolding number_column
column_back v h =
    let n = 10 - length (decimal v) in
    number_append 0 (blanks n) (decimal v) ∙ ap (λ (x : ℕ). number_from x (decimal v)) (number_blanks n) ∙ decimal_back v h

module _ {bs : List ℕ} {at : ℕ} where
  pub number_back : (v : ℕ) → v < 2 ^ 32 → Stands bs at (number_column v) → number_at bs at ≡ v
  number_back v h s =
      ap (λ (n : ℕ). number_from 0 (take n (drop at bs))) (sym (column_length v h)) ∙ ap (number_from 0) (stands_take s) ∙ column_back v h

-- the texts of third links, each number with the byte behind it
nested : (a b c d e : List ℕ) (x y z : ℕ) → a ++ (x ∷ []) ++ b ++ (y ∷ []) ++ c ++ (z ∷ []) ++ d ++ e ≡ a ++ x ∷ (b ++ y ∷ (c ++ z ∷ (d ++ e)))
nested a b c d e x y z = rw (append_assoc, append_assoc, append_assoc, append_assoc, append_assoc, append_assoc)

sewn_back : (s k : ℕ) → s < 2 ^ 32 → third_from (bytes "sewn " ++ decimal s ++ blanks (suc k)) ≡ sewn s
unfolding bytes third_from is_digit
sewn_back s k h = ap (λ (ns : List ℕ). sewn (get_or ns 0 0)) (numbers_back s 32 (blanks k) h refl)

crit_back : (o : ℕ) (l : Label) (k : ℕ) → LabelSmall o l → third_from (crit_text o l ++ blanks (suc k)) ≡ critical o l
unfolding bytes third_from is_digit
crit_back o l k s =
    ap (λ (ns : List ℕ). critical (get_or ns 0 0) (record { maker = get_or ns 1 0; number = get_or ns 2 0; position = get_or ns 3 0 }))
    (ap (numbers_from 0) (nested (decimal o) (decimal l.maker) (decimal l.number) (decimal l.position) (blanks (suc k)) 32 46 46)
    ∙ numbers_back o 32 _ (omega (arith, s.other)) refl
    ∙ ap (λ (ns : List ℕ). o ∷ ns) (numbers_back l.maker 46 _ (omega (arith, s.maker)) refl
    ∙ ap (λ (ns : List ℕ). l.maker ∷ ns) (numbers_back l.number 46 _ s.number refl
    ∙ ap (λ (ns : List ℕ). l.number ∷ ns) (numbers_back l.position 32 (blanks k) (omega (arith, s.position)) refl))))

pub third_back : (t : Third) → third_ok t ≡ true → third_from (third_column t) ≡ t
third_back t e =
    let k = 47 - length (third_text t) in
    let one : 48 - length (third_text t) ≡ suc k = omega (arith, third_short t e) in
    by_kind t e k one
  where
    by_kind : (t : Third) → third_ok t ≡ true → (k : ℕ) → 48 - length (third_text t) ≡ suc k → third_from (third_column t) ≡ t
    by_kind free e k one = unfold third_column third_text bytes third_from in refl
    by_kind (sewn s) e k one = unfold third_column third_text in (ap (λ (n : ℕ). third_from (bytes "sewn " ++ decimal s ++ blanks n)) one ∙ sewn_back s k (sewn_small s e))
    by_kind (critical o l) e k one = unfold third_column third_text in (ap (λ (n : ℕ). third_from (crit_text o l ++ blanks n)) one ∙ crit_back o l k (label_small o l e))

-- a row
module _ (r : Row) (small : RowSmall r) {bs : List ℕ} {at : ℕ} (t : Stands bs at (row_line r)) where
  abbrev x : List ℕ
  x = number_column r.serial

  abbrev y : List ℕ
  y = number_column r.next

  abbrev z : List ℕ
  z = number_column r.opposite

  to_third : Stands bs at (x ++ y ++ z ++ blanks 2 ++ third_column r.third)
  unfolding row_line
  to_third = stands_left (x ++ y ++ z ++ blanks 2 ++ third_column r.third) line_feed t

  to_blanks : Stands bs at (x ++ y ++ z ++ blanks 2)
  to_blanks = stands_left (x ++ y ++ z ++ blanks 2) (third_column r.third) to_third

  to_opposite : Stands bs at (x ++ y ++ z)
  to_opposite = stands_left (x ++ y ++ z) (blanks 2) to_blanks

  to_next : Stands bs at (x ++ y)
  to_next = stands_left (x ++ y) z to_opposite

  pub serial_stands : Stands bs at (number_column r.serial)
  serial_stands = stands_left x y to_next

  pub next_stands : Stands bs (at + 10) (number_column r.next)
  next_stands = stands_at (let q : at + length x ≡ at + 10 = omega (arith, column_length r.serial small.serial) in q) (stands_right x y to_next)

  two_columns : length (x ++ y) ≡ 20
  two_columns = omega (arith, length-append x y, column_length r.serial small.serial, column_length r.next small.next)

  three_columns : length (x ++ y ++ z) ≡ 30
  three_columns = omega (arith, length-append (x ++ y) z, two_columns, column_length r.opposite small.opposite)

  pub opposite_stands : Stands bs (at + 20) (number_column r.opposite)
  opposite_stands = stands_at (let q : at + length (x ++ y) ≡ at + 20 = omega (arith, two_columns) in q) (stands_right (x ++ y) z to_opposite)

  pub gap_stands : Stands bs (at + 30) (blanks 2)
  gap_stands = stands_at (let q : at + length (x ++ y ++ z) ≡ at + 30 = omega (arith, three_columns) in q) (stands_right (x ++ y ++ z) (blanks 2) to_blanks)

  pub third_stands : Stands bs (at + 32) (third_column r.third)
  third_stands = stands_at (let q : at + length (x ++ y ++ z ++ blanks 2) ≡ at + 32 = omega (arith, length-append (x ++ y ++ z) (blanks 2), three_columns) in q)
      (stands_right (x ++ y ++ z ++ blanks 2) (third_column r.third) to_third)

  pub feed_stands : Stands bs (at + 80) line_feed
  unfolding row_line
  feed_stands = stands_at
      (let q : at + length (x ++ y ++ z ++ blanks 2 ++ third_column r.third) ≡ at + 80 =
      omega (arith, length-append (x ++ y ++ z ++ blanks 2) (third_column r.third), length-append (x ++ y ++ z) (blanks 2), three_columns, third_length r.third small.third) in q)
      (stands_right (x ++ y ++ z ++ blanks 2 ++ third_column r.third) line_feed t)

  -- a number further on
  on : (b v : ℕ) → v < 2 ^ 32 → Stands bs (at + b) (number_column v) → number_at (drop at bs) b ≡ v
  on b v h s = ap (λ (l : List ℕ). number_from 0 (take 10 l)) (drop-drop b at bs) ∙ number_back v h s

  third_on : third_from (take 48 (drop 32 (drop at bs))) ≡ r.third
  third_on = ap (λ (l : List ℕ). third_from (take 48 l)) (drop-drop 32 at bs)
      ∙ ap (λ (n : ℕ). third_from (take n (drop (at + 32) bs))) (sym (third_length r.third small.third))
      ∙ ap third_from (stands_take third_stands) ∙ third_back r.third small.third

  pub row_back : row_from (drop at bs) ≡ r
  unfolding row_from
  row_back =
      let z : at ≡ at + 0 = omega arith in
      rw (on 0 r.serial small.serial (stands_at z serial_stands), on 10 r.next small.next next_stands, on 20 r.opposite small.opposite opposite_stands, third_on) refl

-- the last of ten columns is no blank
pub column_ends : (v : ℕ) → v < 2 ^ 32 → {bs : List ℕ} {at : ℕ} → Stands bs at (number_column v) → 48 ≤ get_or bs (at + 9) 0
unfolding number_column
column_ends v h {bs} {at} s =
    let d = last_digit_of v h in
    let front = blanks (10 - length (decimal v)) ++ d.before in
    let same : number_column v ≡ front ++ (48 + d.digit) ∷ [] =
    unfold number_column in (ap (λ (l : List ℕ). blanks (10 - length (decimal v)) ++ l) d.ends ∙ sym (append_assoc (blanks (10 - length (decimal v))) d.before ((48 + d.digit) ∷ []))) in
    let nine : length front ≡ 9 = omega (arith, column_length v h, ap length same, length-append front ((48 + d.digit) ∷ [])) in
    let value : get_or (number_column v) 9 0 ≡ 48 + d.digit = ap (λ (l : List ℕ). get_or l 9 0) same ∙ get_or_at front (48 + d.digit) [] 0 9 nine in
    omega (arith, s.same 9 (omega (arith, column_length v h)), value)

pub getD_other : (l : List ℕ) (i a b : ℕ) → i < length l → get_or l i a ≡ get_or l i b
getD_other [] i a b h = absurd (omega arith)
getD_other (x ∷ l) zero a b h = refl
getD_other (x ∷ l) (suc i) a b h = getD_other l i a b (omega arith)

-- how many pass
pub run_is : (p : ℕ → Bool) (n m : ℕ) → m ≤ n → ((i : ℕ) → i < m → p i ≡ true) → (m < n → p m ≡ false) → run p n ≡ m
run_is p zero m h y e = omega arith
run_is p (suc n) zero h y e = rw (e (omega arith)) refl
run_is p (suc n) (suc m) h y e = rw (y 0 (omega arith)) (ap suc (run_is (λ i. p (suc i)) n m (omega arith) (λ i l. y (suc i) (omega arith)) (λ l. e (omega arith))))

-- all of it
module _ {w : Paged} (s : PagedSmall w) {bs : List ℕ} (t : Stands bs 0 (pages_text w)) where
  abbrev n : ℕ
  n = length w.rows

  pub a_row : (i : ℕ) → i < n → Stands bs (row_place i) (row_line (get_or w.rows i no_row))
  unfolding line_of
  a_row i h = stands_is (rw (lt-ltb i n h) refl) (row_stands s t i (omega (arith, count_covers n)))

  pub row_right : (i : ℕ) → i < n → row_ok (get_or w.rows i no_row) ≡ true
  row_right i h = all_at row_ok no_row w.rows i s.each h

  no_row_there : n < 59 * page_count n → Stands bs (row_place n) (blanks 80)
  unfolding line_of blank_line
  no_row_there h = stands_left (blanks 80) line_feed (stands_is (rw (le-ltb n n (omega arith)) refl) (row_stands s t n h))

  pub rows_counted : run (has_row bs) (59 * page_count n) ≡ n
  rows_counted = run_is (has_row bs) (59 * page_count n) n (count_covers n)
      (λ i h. let r = get_or w.rows i no_row in
      let k = serial_stands r (row_small r (row_right i h)) (a_row i h) in
      let small = (row_small r (row_right i h)).serial in
      let big = column_ends r.serial small k in
      let in-bs : row_place i + 9 < length bs = omega (arith, k.within, column_length r.serial small) in
      not_equal (get_or bs (row_place i + 9) 32) 32 (λ e. let f = sym (getD_other bs (row_place i + 9) 32 0 in-bs) ∙ e in omega (arith, f, big)))
      (λ h. let k = no_row_there h in
      let in-bs : row_place n + 9 < length bs = omega (arith, k.within) in
      let e : get_or bs (row_place n + 9) 32 ≡ 32 = getD_other bs (row_place n + 9) 32 0 in-bs ∙ many_stand 80 k 9 (omega arith) in
      rw e refl)

  first_there : Stands bs 0 (first_line w.number 1 (page_count n))
  first_there =
      let z : 4860 * 0 ≡ 0 = omega arith in
      stands_at z (first_stands s t 0 (omega (arith, count_positive n)))

  abbrev c1 : List ℕ
  c1 = number_column w.number

  abbrev c2 : List ℕ
  c2 = number_column 1

  abbrev c3 : List ℕ
  c3 = number_column (page_count n)

  columns_there : Stands bs 0 (c1 ++ c2 ++ c3)
  unfolding first_line
  columns_there = stands_left (c1 ++ c2 ++ c3) (blanks 50) (stands_left (c1 ++ c2 ++ c3 ++ blanks 50) line_feed first_there)

  number_there : number_at bs 0 ≡ w.number
  number_there = number_back w.number (omega (arith, s.number)) (stands_left c1 c2 (stands_left (c1 ++ c2) c3 columns_there))

  count_there : number_at bs 20 ≡ page_count n
  count_there = number_back (page_count n) (omega (arith, total_small s))
      (stands_at (let q : 0 + length (c1 ++ c2) ≡ 20 = omega (arith, length-append c1 c2, column_length w.number (omega (arith, s.number)), column_length 1 (omega arith)) in q)
      (stands_right (c1 ++ c2) c3 columns_there))

  pub paged_back : paged_from bs ≡ w
  unfolding paged_from
  paged_back =
      let rows : tab (λ i. row_from (drop (row_place i) bs)) n ≡ w.rows =
      tab_list no_row w.rows (λ i. row_from (drop (row_place i) bs)) (λ i h. row_back (get_or w.rows i no_row) (row_small (get_or w.rows i no_row) (row_right i h)) (a_row i h)) in
      rw (number_there, count_there, rows_counted, rows) refl

-- THE LAYOUT
pub record PagedRight (lim : Limits) (w : Paged) : Type 0 where
  pub number : w.number ≤ 15
  pub few : length w.rows ≤ lim.block_darts
  pub each : all row_ok w.rows ≡ true
  pub in_order : ascending (map (λ r. r.serial) w.rows) ≡ true

pub paged_right : (lim : Limits) (w : Paged) → paged_ok lim w ≡ true → PagedRight lim w
unfolding paged_ok
paged_right lim w e =
    let a = leb w.number last_block in
    let b = a && leb (length w.rows) lim.block_darts in
    let c = b && all row_ok w.rows in
    let ec = and_left c _ e in
    let eb = and_left b _ ec in
    record { number = leb-true w.number 15 (and_left a _ eb); few = leb-true (length w.rows) lim.block_darts (and_right a _ eb); each = and_right b _ ec; in_order = and_right c _ e }

pub right_paged : (lim : Limits) (w : Paged) → PagedRight lim w → paged_ok lim w ≡ true
unfolding paged_ok
right_paged lim w r = and_intro (and_intro (and_intro (le-leb w.number 15 r.number) (le-leb (length w.rows) lim.block_darts r.few)) r.each) r.in_order

module _ (lim : Limits) (fits : lim.block_darts ≤ room) where
  pub paged_small : (w : Paged) → paged_ok lim w ≡ true → PagedSmall w
  paged_small w e = let r = paged_right lim w e in record { number = omega (arith, r.number); few = omega (arith, r.few, fits); each = r.each }

  pub pages_lawful : Lawful (pages lim)
  unfolding pages
  pages_lawful = record {
    back = λ w rest o.
        let e = paged_back (paged_small w o) (stands_first (pages_text w) rest) in
        rw (e, o, take-append_seam (pages_text w) rest, same_list_self (pages_text w), drop-append_seam (pages_text w) rest) refl;
    only = λ bs w rest h p.
        let g = when_some (paged_ok lim (paged_from bs) && same_list (take (length (pages_text (paged_from bs))) bs) (pages_text (paged_from bs))) _ _ p in
        let q = read_eq g.1 in
        let text = pages_text (paged_from bs) in
        let front = same_list_is (take (length text) bs) text (and_right (paged_ok lim (paged_from bs)) _ g.0) in
        (sym (take-append-drop (length text) bs) ∙ rw (front, q.1) (ap (λ (v : Paged). pages_text v ++ rest) q.0), rw (← q.0) (and_left (paged_ok lim (paged_from bs)) _ g.0));
  }
