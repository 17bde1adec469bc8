-- A dart's line in its columns: what stands in each, and the row that they make. Assumes nothing.
use mathlib.Core.Path.{◌≡◌, refl, sym, ◌∙◌, ap}
use mathlib.Core.Bool.{true}
use mathlib.Core.List.{List, ◌++◌}
use Prim.Native.Nat.{ℕ, ◌+◌, ◌≤◌, ◌<◌}
use native.Mathlib.Omega.{arith}
use lib.ListN.{length, get_or, length-append}
use borrow.Author.Tests.{le-leb, lt-ltb}
use Rattle.laws.specs.Standing.{Stands}
use Rattle.laws.proofs.Tests.{and_intro}
use Rattle.laws.proofs.Standings.{stands_both, stands_at, stands_byte, byte_stands}
use Rattle.model.specs.Values.{Third, serial_bound, no_point}
use Rattle.model.specs.Pages.{Row, blanks, line_feed, number_column, third_column, row_line, row_ok, dart_of}
use Rattle.memory.specs.Record.{record_words, put}
use Rattle.theory.proofs.PageLaws.{RowSmall, row_small, column_length, third_length, serial_stands, next_stands, opposite_stands, gap_stands, third_stands, feed_stands}
use Rattle.text.specs.Reading.{Column}
use Rattle.text.proofs.Readings.{one_column}
use Rattle.newblock.specs.Serials.{raw_words}
use Rattle.readpages.specs.Thirds.{ThirdAt, LinkAt}
use Rattle.readpages.specs.Rows.{RowAt, WordsAt, StoredAt, NoneAbove}
use Rattle.readpages.specs.declared.row.Row.{Row as WordRow}

-- WHAT A ROW HAS IN ITS COLUMNS
module _ {s : List ℕ} {at : ℕ} {r : Row} (w : RowAt s at r) where
  small : RowSmall r
  small = record { serial = w.serial; next = w.next; opposite = w.opposite; third = w.third }

  pub serial_column : Column s at r.serial (at + 10)
  serial_column = record { small = w.serial; stands = serial_stands r small w.stands; past_is = refl }

  next_column : {p : ℕ} → p ≡ at + 10 → Column s p r.next (p + 10)
  next_column e = record { small = w.next; stands = stands_at (sym e) (next_stands r small w.stands); past_is = refl }

  opposite_column : {p : ℕ} → p ≡ at + 20 → Column s p r.opposite (p + 10)
  opposite_column e = record { small = w.opposite; stands = stands_at (sym e) (opposite_stands r small w.stands); past_is = refl }

  third_there : ThirdAt s (at + 32) r.third
  third_there = record { ok = w.third; stands = third_stands r small w.stands }

  gap_there : Stands s (at + 30) (blanks 2)
  gap_there = gap_stands r small w.stands

  feed_there : get_or s (at + 80) 0 ≡ 10
  feed_there = (byte_stands (feed_stands r small w.stands)).1

-- NONE, where a column has none; the places are those that reading went through
pub no_serial : {s : List ℕ} {at : ℕ} → ((v p : ℕ) → Column s at v p → ⊥) → (r : Row) → RowAt s at r → ⊥
no_serial none r w = none _ _ (serial_column w)

module _ {s : List ℕ} {at a p : ℕ} (c1 : Column s at a p) where
  pub no_next : ((v q : ℕ) → Column s p v q → ⊥) → (r : Row) → RowAt s at r → ⊥
  no_next none r w = none _ _ (next_column w c1.past_is)

  module _ {b q : ℕ} (c2 : Column s p b q) where
    second : q ≡ at + 20
    second = omega (arith, c1.past_is, c2.past_is)

    pub no_opposite : ((v t : ℕ) → Column s q v t → ⊥) → (r : Row) → RowAt s at r → ⊥
    no_opposite none r w = none _ _ (opposite_column w second)

    module _ {c t : ℕ} (c3 : Column s q c t) where
      pub third_place : t ≡ at + 30
      third_place = omega (arith, second, c3.past_is)

      pub no_gap : (Stands s t (blanks 2) → ⊥) → (r : Row) → RowAt s at r → ⊥
      no_gap none r w = none (stands_at (sym third_place) (gap_there w))

      link_place : at + 32 ≡ t + 2
      link_place = omega (arith, third_place)

      pub no_link : ((x : Third) → ThirdAt s (t + 2) x → ⊥) → (r : Row) → RowAt s at r → ⊥
      no_link none r w = none r.third (rw (← link_place) (third_there w))

      module _ {k l u : ℕ} (c4 : LinkAt s (t + 2) k l u) where
        pub feed_place : u ≡ at + 80
        feed_place = omega (arith, c4.past_is, third_place)

        pub no_feed : (get_or s u 0 ≡ 10 → ⊥) → (r : Row) → RowAt s at r → ⊥
        no_feed none r w = none (ap (λ (i : ℕ). get_or s i 0) feed_place ∙ feed_there w)

        the_row : Row
        the_row = record { serial = a; next = b; opposite = c; third = c4.third }

        line_stands : at + 81 ≤ length s → Stands s t (blanks 2) → get_or s u 0 ≡ 10 → Stands s at (row_line the_row)
        unfolding row_line the_row
        line_stands h gap e =
            let x = number_column a in
            let y = number_column b in
            let z = number_column c in
            let v = third_column c4.third in
            let l1 = column_length a c1.small in
            let l2 = column_length b c2.small in
            let l3 = column_length c c3.small in
            let l4 = third_length c4.third c4.there.ok in
            let two : length (x ++ y) ≡ 20 = omega (arith, length-append x y) in
            let three : length (x ++ y ++ z) ≡ 30 = omega (arith, length-append (x ++ y) z) in
            let four : length (x ++ y ++ z ++ blanks 2) ≡ 32 = omega (arith, length-append (x ++ y ++ z) (blanks 2)) in
            let five : length (x ++ y ++ z ++ blanks 2 ++ v) ≡ 80 = omega (arith, length-append (x ++ y ++ z ++ blanks 2) v) in
            stands_both (x ++ y ++ z ++ blanks 2 ++ v) line_feed
            (stands_both (x ++ y ++ z ++ blanks 2) v
            (stands_both (x ++ y ++ z) (blanks 2)
            (stands_both (x ++ y) z
            (stands_both x y c1.stands (stands_at (let f : p ≡ at + length x = omega (arith, c1.past_is) in f) c2.stands))
            (stands_at (let f : q ≡ at + length (x ++ y) = omega (arith, second) in f) c3.stands))
            (stands_at (let f : t ≡ at + length (x ++ y ++ z) = omega (arith, third_place) in f) gap))
            (stands_at (let f : t + 2 ≡ at + length (x ++ y ++ z ++ blanks 2) = omega (arith, third_place) in f) c4.there.stands))
            (stands_at (let f : u ≡ at + length (x ++ y ++ z ++ blanks 2 ++ v) = omega (arith, feed_place) in f) (stands_byte (omega (arith, feed_place)) e))

        pub row_found : at + 81 ≤ length s → Stands s t (blanks 2) → get_or s u 0 ≡ 10
            → WordsAt s at (record { serial = a; next = b; opposite = c; kind = k; link = l })
        row_found h gap e = record {
          row = record { serial = a; next = b; opposite = c; third = c4.third };
          there = record {
            serial = c1.small;
            next = c2.small;
            opposite = c3.small;
            third = c4.there.ok;
            stands = unfold the_row in (line_stands h gap e);
          };
          serial_is = refl;
          next_is = refl;
          opposite_is = refl;
          kind_is = c4.kind_is;
          link_is = c4.link_is;
        }

-- A ROW ABOVE THE LAST ONE
ok_row_at : {s : List ℕ} {at : ℕ} (r : Row) → row_ok r ≡ true → Stands s at (row_line r) → RowAt s at r
ok_row_at r e t = let small = row_small r e in record { serial = small.serial; next = small.next; opposite = small.opposite; third = small.third; stands = t }

pub none_there : {s : List ℕ} {at last : ℕ} → ((r : Row) → RowAt s at r → ⊥) → NoneAbove s at last
none_there none r e t h = none r (ok_row_at r e t)

-- two rows at one place have one serial
same_serial : {s : List ℕ} {at : ℕ} {w : WordRow} → WordsAt s at w → (r : Row) → row_ok r ≡ true → Stands s at (row_line r) → w.serial ≡ r.serial
same_serial k r e t = k.serial_is ∙ one_column (serial_column k.there) (serial_column (ok_row_at r e t))

module _ {s : List ℕ} {at last : ℕ} {w : WordRow} (k : WordsAt s at w) where
  pub none_above : w.serial ≤ last → NoneAbove s at last
  none_above h r e t l = omega (arith, h, l, same_serial k r e t)

  ok : last < w.serial → row_ok k.row ≡ true
  ok h =
      let r = k.row in
      let there = k.there in
      and_intro (and_intro (and_intro (and_intro (le-leb 1 r.serial (omega (arith, h, k.serial_is))) (lt-ltb r.serial serial_bound there.serial))
      (lt-ltb r.next serial_bound there.next)) (lt-ltb r.opposite serial_bound there.opposite)) there.third

  pub row_stored : last < w.serial → {m after : List ℕ} {p past : ℕ}
      → after ≡ put m p (record_words (record { serial = w.serial; next = w.next; opposite = w.opposite; kind = w.kind; link = w.link; x = 0; y = 0; z = 0 }))
      → StoredAt s at last m p after w.serial past
  row_stored h {m} {after} {p} e = record {
    row = k.row;
    ok = ok h;
    stands = k.there.stands;
    serial_is = k.serial_is;
    above = omega (arith, h, k.serial_is);
    memory = e ∙ words;
  }
    where
      words : put m p (record_words (record { serial = w.serial; next = w.next; opposite = w.opposite; kind = w.kind; link = w.link; x = 0; y = 0; z = 0 })) ≡ put m p (raw_words (dart_of k.row))
      words = unfold raw_words no_point in (rw (k.serial_is, k.next_is, k.opposite_is, k.kind_is, k.link_is) refl)
