-- Whole pages: what was found of their lines makes the whole, and the memory is filled with it; what is missing of any line leaves none.
-- Assumes nothing.
use mathlib.Core.Path.{◌≡◌, refl, sym, ◌∙◌, ap}
use mathlib.Core.Bool.{true, false}
use mathlib.Core.List.{List, [], ◌++◌, map, append-nil}
use mathlib.Core.Option.{Option, none, some, none-ne-some, some-injective}
use mathlib.Core.Logic.{◌⊎◌, ⊎_elim}
use Prim.Native.Nat.{ℕ, suc, ◌+◌, ◌*◌, ◌/◌, ◌≤◌, ◌<◌}
use native.Mathlib.Omega.{arith}
use lib.ListN.{length, get_or, drop, replicate}
use borrow.Author.Tests.{lt-ltb, le-ltb}
use Rattle.laws.specs.Standing.{Stands}
use Rattle.laws.proofs.Tests.{lt_or_ge}
use Rattle.laws.proofs.Tables.{length_tab, getD_tab, map_tab, tab_all, tab_ascending, ascending_tab}
use Rattle.laws.proofs.Standings.{stands_both, stands_at, stands_is, stands_first, stands_whole, stands_pieces}
use Rattle.model.specs.Lists.{all, ascending, concat, tab}
use Rattle.model.specs.Values.{room, Limits, Dart}
use Rattle.model.specs.Image.{words_of}
use Rattle.model.specs.Layouts.{whole}
use Rattle.model.specs.Pages.{Row, Paged, no_row, dart_of, first_line, row_line, blank_line, line_of, page_count, page, pages_text, row_place, has_row, run, row_ok, paged_ok, pages}
use Rattle.model.specs.Demands.{Bytes}
use Rattle.theory.proofs.LayoutLaws.{whole_back, whole_only}
use Rattle.theory.proofs.ImageLaws.{tab_list}
use Rattle.theory.proofs.PageLaws.{PagedSmall, paged_small, paged_right, right_paged, pages_lawful, total_small, page_first, page_length, text_length, line_length, count_positive, first_stands, row_stands, rows_counted, a_row, row_right}
use Rattle.memory.specs.Header.{header_words}
use Rattle.text.specs.Reading.{Column}
use Rattle.text.proofs.Readings.{one_column}
use Rattle.newblock.specs.Serials.{raw, stored_all}
use Rattle.newblock.proofs.Stored.{stored_raw}
use Rattle.readpages.specs.Raw.{FirstsStand, RestBlank, row_at, RowsAt, uncounted, RawRead}
use Rattle.readpages.proofs.PageTexts.{first_block}

module _ (lim : Limits) (fits : lim.block_darts ≤ room) (s : List ℕ) (bytes : Bytes s) where
  -- PAGES THAT ARE READ
  record Shown (w : Paged) : Type 0 where
    is : s ≡ pages_text w
    ok : paged_ok lim w ≡ true

  shown : (w : Paged) → whole (pages lim) s ≡ some w → Shown w
  unfolding pages
  shown w e = let k = whole_only (pages lim) (pages_lawful lim fits) s w bytes e in record { is = k.0; ok = k.1 }

  unread : {after : List ℕ} → ((w : Paged) → Shown w → ⊥) → RawRead lim s after false
  unread {after} none-shown = go (whole (pages lim) s) refl
    where
      go : (o : Option Paged) → whole (pages lim) s ≡ o → RawRead lim s after false
      go none e = record { answer = rw e refl; memory = λ w q. absurd (none-ne-some w (sym e ∙ q)) }
      go (some w) e = absurd (none-shown w (shown w e))

  module _ {w : Paged} (k : Shown w) where
    small : PagedSmall w
    small = paged_small lim fits w k.ok

    abbrev n : ℕ
    n = length w.rows

    stand : Stands s 0 (pages_text w)
    stand = rw (k.is ∙ sym (append-nil (pages_text w))) (stands_first (pages_text w) [])

    long : length s ≡ 4860 * page_count n
    long = ap length k.is ∙ text_length small

    number_column_there : Column s 0 w.number 10
    number_column_there = record {
      small = omega (arith, small.number);
      stands = first_block (omega (arith, small.number)) (omega arith) (omega (arith, total_small small))
          (stands_at (let z : 4860 * 0 ≡ 0 = omega arith in z) (first_stands small stand 0 (omega (arith, count_positive n))));
      past_is = omega arith;
    }

    count_is_page : {total : ℕ} → total ≡ length s / 4860 → total ≡ page_count n
    count_is_page e = omega (arith, e, long)

    rows_there : RowsAt s n (λ i. get_or w.rows i no_row)
    rows_there = record {
      ok = λ i h. row_right small stand i h;
      stands = λ i h. a_row small stand i h;
      ascends = ascending_tab (λ i. (get_or w.rows i no_row).serial) n
          (ap ascending (sym (map_tab (λ (r : Row). r.serial) (λ i. get_or w.rows i no_row) n)) ∙ ap (λ (l : List Row). ascending (map (λ r. r.serial) l)) (tab_list no_row w.rows (λ i. get_or w.rows i no_row) (λ p h. refl))
          ∙ (paged_right lim w k.ok).in_order);
    }

    rest_there : RestBlank s n (59 * page_count n)
    rest_there i a b = unfold line_of in (stands_is (rw (le-ltb i n a) refl) (row_stands small stand i b))

  -- WHAT IS MISSING, question by question
  module _ {total : ℕ} (e : total ≡ length s / 4860) where
    pub other_size : (total * 4860 ≡ length s → ⊥) → {after : List ℕ} → RawRead lim s after false
    other_size ne = unread (λ w k. ne (omega (arith, e, long k)))

    pub other_count : (total ≡ 0) ⊎ (70 < total) → {after : List ℕ} → RawRead lim s after false
    other_count c = unread (λ w k. ⊎_elim
        (λ z. omega (arith, z, count_is_page k e, count_positive (length w.rows)))
        (λ g. omega (arith, g, count_is_page k e, total_small (small k)))
        c)

    pub no_number : ((v p : ℕ) → Column s 0 v p → ⊥) → {after : List ℕ} → RawRead lim s after false
    no_number none_there = unread (λ w k. none_there _ _ (number_column_there k))

    module _ {number p : ℕ} (c : Column s 0 number p) where
      number_is : {w : Paged} → Shown w → number ≡ w.number
      number_is k = one_column c (number_column_there k)

      pub number_large : 16 ≤ number → {after : List ℕ} → RawRead lim s after false
      number_large h = unread (λ w k. omega (arith, h, number_is k, (small k).number))

      module _ {n : ℕ} (f : n ≡ run (has_row s) (59 * total)) where
        rows_are : {w : Paged} → Shown w → n ≡ length w.rows
        rows_are {w} k = f ∙ ap (λ (t : ℕ). run (has_row s) (59 * t)) (count_is_page k e) ∙ rows_counted (small k) (stand k)

        pub too_many : lim.block_darts < n → {after : List ℕ} → RawRead lim s after false
        too_many h = unread (λ w k. omega (arith, h, rows_are k, (paged_right lim w k.ok).few))

        pub not_filled : (page_count n ≡ total → ⊥) → {after : List ℕ} → RawRead lim s after false
        not_filled ne = unread (λ w k. ne (ap page_count (rows_are k) ∙ sym (count_is_page k e)))

        pub no_firsts : (FirstsStand s number total → ⊥) → {after : List ℕ} → RawRead lim s after false
        no_firsts ne = unread (λ w k. ne (λ j h.
            let t = first_stands (small k) (stand k) j (omega (arith, h, count_is_page k e)) in
            stands_is (ap (λ (v : ℕ). first_line v (suc j) (page_count (length w.rows))) (sym (number_is k)) ∙ ap (first_line number (suc j)) (sym (count_is_page k e))) t))

        pub no_rest : (RestBlank s n (59 * total) → ⊥) → {after : List ℕ} → RawRead lim s after false
        no_rest ne = unread (λ w k. ne (λ i a b. rest_there k i (omega (arith, a, rows_are k)) (omega (arith, b, count_is_page k e))))

        pub no_rows : ((g : ℕ → Row) → RowsAt s n g → ⊥) → {after : List ℕ} → RawRead lim s after false
        no_rows ne = unread (λ w k. ne (λ i. get_or w.rows i no_row) (rw (rows_are k) (rows_there k)))

        -- ALL IS THERE
        module _ (long-is : total * 4860 ≡ length s) (small-number : number < 16) (few : n ≤ lim.block_darts) (filled : page_count n ≡ total)
            (firsts : FirstsStand s number total) (rest : RestBlank s n (59 * total)) (rows : RowsAt s n (row_at s)) where
          abbrev w₀ : Paged
          w₀ = record { number = number; rows = tab (row_at s) n }

          count₀ : length w₀.rows ≡ n
          count₀ = length_tab (row_at s) n

          pages₀ : page_count (length w₀.rows) ≡ total
          pages₀ = ap page_count count₀ ∙ filled

          each₀ : all row_ok w₀.rows ≡ true
          each₀ = tab_all row_ok (row_at s) n rows.ok

          ok₀ : paged_ok lim w₀ ≡ true
          ok₀ = right_paged lim w₀ (record {
            number = omega (arith, small-number);
            few = omega (arith, count₀, few);
            each = each₀;
            in_order = ap ascending (map_tab (λ (r : Row). r.serial) (row_at s) n) ∙ tab_ascending (λ i. (row_at s i).serial) n rows.ascends;
          })

          small₀ : PagedSmall w₀
          small₀ = paged_small lim fits w₀ ok₀

          line_there : (i : ℕ) → i < 59 * total → Stands s (row_place i) (line_of w₀.rows i)
          unfolding line_of
          line_there i h = ⊎_elim
              (λ l. let e : row_line (row_at s i) ≡ line_of w₀.rows i = rw (count₀, lt-ltb i n l) (ap row_line (sym (getD_tab (row_at s) n i no_row l))) in stands_is e (rows.stands i l))
              (λ g. let e : blank_line ≡ line_of w₀.rows i = rw (count₀, le-ltb i n g) refl in stands_is e (rest i g h))
              (lt_or_ge i n)

          page_there : (k : ℕ) → k < total → Stands s (0 + 4860 * k) (page w₀ k)
          unfolding page
          page_there k h =
              let first = first_line number (suc k) (page_count (length w₀.rows)) in
              let first_is : first_line number (suc k) total ≡ first = ap (first_line number (suc k)) (sym pages₀) in
              let z : 4860 * k ≡ 0 + 4860 * k = omega arith in
              let head : Stands s (0 + 4860 * k) first = stands_at z (stands_is first_is (firsts k h)) in
              let nine = page_first small₀ k (omega (arith, pages₀)) in
              stands_both first (concat (tab (λ r. line_of w₀.rows (59 * k + r)) 59)) head
              (stands_pieces (λ r. line_of w₀.rows (59 * k + r)) 81 59 (0 + 4860 * k + length first) (λ i l. line_length w₀.rows each₀ (59 * k + i)) head.within
              (λ i l. let q : row_place (59 * k + i) ≡ 0 + 4860 * k + length first + 81 * i = omega (arith, nine) in stands_at q (line_there (59 * k + i) (omega arith))))

          all_there : Stands s 0 (pages_text w₀)
          unfolding pages_text
          all_there = stands_is (ap (λ (t : ℕ). concat (tab (page w₀) t)) (sym pages₀))
              (stands_pieces (page w₀) 4860 total 0 (λ k h. page_length small₀ k (omega (arith, pages₀))) (omega arith) page_there)

          is_text : s ≡ pages_text w₀
          is_text = stands_whole all_there (omega (arith, long-is, text_length small₀, pages₀))

          is_read : whole (pages lim) s ≡ some w₀
          unfolding pages
          is_read = ap (whole (pages lim)) is_text ∙ whole_back (pages lim) (pages_lawful lim fits) w₀ ok₀

          pub pages_read : {m x after : List ℕ} → m ≡ replicate (words_of lim) 0 → x ≡ stored_all m (tab (λ i. dart_of (row_at s i)) n)
              → after ≡ header_words (record { number = number; counter = 0; darts = n }) ++ drop 8 x → RawRead lim s after true
          pages_read {m} {x} {after} em ex q = record {
            answer = rw is_read refl;
            memory = λ w h. q ∙ ap (λ (y : List ℕ). header_words (record { number = number; counter = 0; darts = n }) ++ drop 8 y) ex ∙ whole_memory ∙ ap (λ (v : Paged). raw (words_of lim) (uncounted v)) (some-injective w₀ w (sym is_read ∙ h));
          }
            where
              darts_are : map dart_of w₀.rows ≡ tab (λ i. dart_of (row_at s i)) n
              darts_are = map_tab dart_of (row_at s) n

              darts_count : length (map dart_of w₀.rows) ≡ n
              darts_count = ap length darts_are ∙ length_tab (λ i. dart_of (row_at s i)) n

              whole_memory : header_words (record { number = number; counter = 0; darts = n }) ++ drop 8 (stored_all m (tab (λ i. dart_of (row_at s i)) n)) ≡ raw (words_of lim) (uncounted w₀)
              whole_memory =
                  ap (λ (l : List Dart). header_words (record { number = number; counter = 0; darts = n }) ++ drop 8 (stored_all m l)) (sym darts_are)
                  ∙ ap (λ (d : ℕ). header_words (record { number = number; counter = 0; darts = d }) ++ drop 8 (stored_all m (map dart_of w₀.rows))) (sym darts_count)
                  ∙ stored_raw (words_of lim) m (uncounted w₀) em (omega (arith, darts_count, few))
