-- What is counted into the rows of a block's cells are their figures. Assumes nothing.
use Rattle.std.specs.Prelude.{Err, Ok}
use mathlib.Core.Path.{◌≡◌, refl, sym, ap, ◌∙◌}
use mathlib.Core.Bool.{Bool, true, false, cond, ◌&&◌}
use mathlib.Core.List.{List, [], ◌∷◌, ◌++◌, map, append_assoc}
use Prim.Native.Nat.{ℕ, zero, suc, ◌+◌, ◌*◌, ◌-◌, ◌/◌, ◌%◌, ◌≤◌, ◌<◌, ◌^◌}
use native.Mathlib.Omega.{arith}
use lib.Dec.{leb, eqb}
use lib.ListN.{length, get_or, take, drop, length-drop, length-map, take-append-drop}
use lib.Seq.{ext_get_or, get_or-take, get_or-drop, length-take-le, drop-drop}
use Rattle.model.specs.Lists.{all, keep, mem, tab, concat_map}
use Rattle.model.specs.Values.{Dart, is_critical_with, room}
use Rattle.model.specs.Cells.{cycle, faces, start_of, next_in, third_at, volume_in, faces_in, volume_starts}
use Rattle.model.specs.Image.{count_in, column, other_in, third_in, holds_block}
use borrow.Author.Tests.{eqb-true, eq-eqb, ne_eqb, le-leb, lt-leb}
use Rattle.laws.proofs.Tests.{by_cases, same_truth, and_intro, and_left, and_right, and_false, eqb_swap, and_yes}
use Rattle.laws.proofs.Members.{In, in_here, in_there, getD_in, keep_in, keep_le, keep_cong, keep_twice, keep_map, map_map}
use Rattle.laws.proofs.Maps.{map_at}
use Rattle.laws.proofs.Tables.{length_tab, getD_tab}
use Rattle.laws.proofs.Faces.{start_map}
use Rattle.columns.specs.Columns.{Kind, kind_free, kind_sewn, kind_critical}
use Rattle.columns.proofs.Thirds.{third_free, third_sewn, third_critical}
use Rattle.columns.proofs.Question.{image_passed}
use Rattle.cells.specs.Places.{InOrder, places_in, volume_of}
use Rattle.cells.proofs.Reached.{places, places_below, places_in_in}
use Rattle.cells.proofs.Paths.{round}
use Rattle.cells.proofs.Sited.{Sited, sited, darts_in}
use Rattle.cells.proofs.Serials.{volume_serials, volume_size}
use Rattle.cells.proofs.FaceSerials.{faces_carried}
use Rattle.cells.proofs.StartLaws.{cycle_start}
use Rattle.stats.specs.declared.rows.Untold.TheVariants as untold
use Rattle.stats.specs.BlockCounts.{critical_at}
use Rattle.stats.specs.Groups.{is_first, firsts_below, Grouped}
use Rattle.stats.specs.Rows.{border_with, figure, rows_of, row_words, told_rows, cells_told, rows_after}
use Rattle.stats.specs.Counting.{head_word, CountHeaded, cell_word, critical_word, Countable, CountTold, face_starts, CountStarted, FacesCounted, Bordering}
use Rattle.stats.proofs.CriticalFaces.{order_few, first_dart}
use Rattle.stats.proofs.CountLaws.{counted_le}
use Rattle.stats.proofs.GroupLaws.{cell_mem, firsts_serials, group_count}

-- ROWS OF 19 WORDS, one after the other, then what was there
pub rows_are : (g : ℕ → ℕ → ℕ) (ss T T₀ : List ℕ) → length T ≡ length T₀ → 19 * length ss ≤ length T₀
    → ((c j : ℕ) → c < length ss → j < 19 → get_or T (19 * c + j) 0 ≡ g (get_or ss c 0) j)
    → ((i : ℕ) → 19 * length ss ≤ i → get_or T i 0 ≡ get_or T₀ i 0)
    → T ≡ concat_map (λ s. tab (g s) 19) ss ++ drop (19 * length ss) T₀
rows_are g [] T T₀ len long entry rest = ext_get_or 0 T T₀ len (λ i h. rest i (omega arith))
rows_are g (s ∷ ss) T T₀ len long entry rest =
    sym (take-append-drop 19 T)
    ∙ ap (λ (l : List ℕ). l ++ drop 19 T) first
    ∙ ap (λ (l : List ℕ). tab (g s) 19 ++ l) (later (rows_are g ss (drop 19 T) (drop 19 T₀)
    (length-drop 19 T ∙ ap (λ (k : ℕ). k - 19) len ∙ sym (length-drop 19 T₀))
    (omega (arith, length-drop 19 T₀))
    (λ c j h k. get_or-drop 19 T (19 * c + j) 0 ∙ ap (λ (i : ℕ). get_or T i 0) (omega arith) ∙ entry (suc c) j (omega arith) k)
    (λ i h. get_or-drop 19 T i 0 ∙ rest (19 + i) (omega arith) ∙ sym (get_or-drop 19 T₀ i 0))))
    ∙ sym (append_assoc (tab (g s) 19) (concat_map (λ x. tab (g x) 19) ss) (drop (19 * length (s ∷ ss)) T₀))
  where
    first : take 19 T ≡ tab (g s) 19
    first = ext_get_or 0 (take 19 T) (tab (g s) 19) (length-take-le 19 T (omega (arith, len)) ∙ sym (length_tab (g s) 19))
        (λ i h. let less : i < 19 = omega (arith, length-take-le 19 T (omega (arith, len))) in
        get_or-take 19 T i 0 less ∙ ap (λ (k : ℕ). get_or T k 0) (omega arith) ∙ entry 0 i (omega arith) less ∙ sym (getD_tab (g s) 19 i 0 less))

    later : drop 19 T ≡ concat_map (λ x. tab (g x) 19) ss ++ drop (19 * length ss) (drop 19 T₀) → drop 19 T ≡ concat_map (λ x. tab (g x) 19) ss ++ drop (19 * length (s ∷ ss)) T₀
    later e =
        let sum : 19 + 19 * length ss ≡ 19 * length (s ∷ ss) = omega arith in
        e ∙ ap (λ (l : List ℕ). concat_map (λ x. tab (g x) 19) ss ++ l) (drop-drop (19 * length ss) 19 T₀ ∙ ap (λ (k : ℕ). drop k T₀) sum)

-- ONE ROW'S WORD: the word that p counts in is word j of row c
hit : (G : List ℕ) (p j k c : ℕ) → 0 < get_or G p 0 → k < 19 → j < 19 → eqb (cell_word G k p) (19 * c + j) ≡ (eqb (get_or G p 0) (suc c) && eqb k j)
hit G p j k c h a b = same_truth (eqb (cell_word G k p) (19 * c + j)) (eqb (get_or G p 0) (suc c) && eqb k j)
    (λ e. let f = eqb-true (cell_word G k p) (19 * c + j) e in and_intro (eq-eqb (get_or G p 0) (suc c) (omega arith)) (eq-eqb k j (omega arith)))
    (λ e. let f = eqb-true (get_or G p 0) (suc c) (and_left (eqb (get_or G p 0) (suc c)) (eqb k j) e) in
    let g = eqb-true k j (and_right (eqb (get_or G p 0) (suc c)) (eqb k j) e) in
    eq-eqb (cell_word G k p) (19 * c + j) (omega arith))

none_kept : (t : ℕ → Bool) (l : List ℕ) → ((x : ℕ) → In x l → t x ≡ false) → length (keep t l) ≡ 0
none_kept t [] h = refl
none_kept t (x ∷ l) h = rw (h x (in_here x l)) (none_kept t l (λ y k. h y (in_there y x l k)))

-- in a list of places that have their numbers
module _ (G l : List ℕ) (named : (x : ℕ) → In x l → 0 < get_or G x 0) (c : ℕ) where
  pub other_word : (k j : ℕ) → k < 19 → j < 19 → (k ≡ j → ⊥) → length (keep (λ x. eqb (cell_word G k x) (19 * c + j)) l) ≡ 0
  other_word k j a b differ = none_kept (λ x. eqb (cell_word G k x) (19 * c + j)) l
      (λ x i. hit G x j k c (named x i) a b ∙ rw (ne_eqb k j differ) (and_false (eqb (get_or G x 0) (suc c))))

  pub own_word : (j : ℕ) → j < 19 → length (keep (λ x. eqb (cell_word G j x) (19 * c + j)) l) ≡ length (keep (λ x. eqb (get_or G x 0) (suc c)) l)
  own_word j a = ap length (keep_cong (λ x. eqb (cell_word G j x) (19 * c + j)) (λ x. eqb (get_or G x 0) (suc c)) l
      (λ x i. hit G x j j c (named x i) a a ∙ rw (eq-eqb j j refl) (and_yes (eqb (get_or G x 0) (suc c)))))

-- LISTS KEPT TWICE
keep_swap : (p q : ℕ → Bool) (l : List ℕ) → keep p (keep q l) ≡ keep q (keep p l)
keep_swap p q l = keep_twice p q l ∙ keep_cong (λ x. q x && p x) (λ x. p x && q x) l (λ x k. swap (q x) (p x)) ∙ sym (keep_twice q p l)
  where
    swap : (a b : Bool) → (a && b) ≡ (b && a)
    swap true true = refl
    swap true false = refl
    swap false true = refl
    swap false false = refl

map_same : (f : ℕ → ℕ) (l : List ℕ) → ((x : ℕ) → In x l → f x ≡ x) → map f l ≡ l
map_same f [] h = refl
map_same f (x ∷ l) h = rw (h x (in_here x l)) (ap (λ (t : List ℕ). x ∷ t) (map_same f l (λ y k. h y (in_there y x l k))))

module _ (m : List ℕ) (ok : holds_block m ≡ true) where
  abbrev site : Sited m
  site = sited m ok

  abbrev n : ℕ
  n = count_in m

  abbrev nx : ℕ → ℕ
  nx = column m 1

  abbrev s : ℕ → ℕ
  s = column m 0

  abbrev ds : List Dart
  ds = darts_in m

  -- x is the least place of its face
  abbrev starts_face : ℕ → Bool
  starts_face x = all (leb x) (cycle nx x)

  cycle_from : (x : ℕ) → x < n → start_of (cycle nx x) ≡ x
  cycle_from x h = cycle_start (round site.linked.few site.linked.next_within site.linked.next_apart x h)

  -- THE STARTS of all faces
  pub starts_are : face_starts m ≡ keep starts_face (places n)
  unfolding faces
  starts_are =
      map_map (cycle nx) start_of (keep starts_face (places n))
      ∙ map_same (λ x. start_of (cycle nx x)) (keep starts_face (places n)) (λ x k. cycle_from x (places_below n x (keep_in starts_face (places n) x k).0))

  pub starts_below : (x : ℕ) → In x (face_starts m) → x < n
  starts_below x k = places_below n x (keep_in starts_face (places n) x (rw starts_are at k)).0

  -- a critical dart names a block from 0 to 15
  pub bordering : Bordering m
  bordering x h e = go ((image_passed m ok).range.kinds x h)
    where
      two : column m 3 x % 4 ≡ 2
      two = eqb-true (column m 3 x % 4) 2 e

      go : Kind (column m 3 x) (column m 4 x) → other_in (column m 3 x) < 16
      go (kind_free a b) = absurd (omega (arith, two))
      go (kind_sewn a) = absurd (omega (arith, two))
      go (kind_critical a b c) = b

  module _ (p : ℕ) (h : p < n) where
    abbrev vol : List ℕ
    vol = volume_of m p

    -- the faces of a cell, by place and by serial
    faces_are : faces_in ds (s p) ≡ map (λ x. map s (cycle nx x)) (keep starts_face (places_in n vol))
    unfolding faces_in faces
    faces_are =
        ap (faces (next_in ds)) (sym (volume_serials site p h))
        ∙ faces_carried site (places_in n vol) (λ x k. (places_in_in n vol x k).0)
        ∙ map_map (cycle nx) (map s) (keep starts_face (places_in n vol))

    -- the starts in a cell are the starts of its faces
    starts_in_cell : keep (λ x. mem x vol) (face_starts m) ≡ keep starts_face (places_in n vol)
    unfolding places_in
    starts_in_cell = ap (keep (λ x. mem x vol)) starts_are ∙ keep_swap (λ x. mem x vol) starts_face (places n)

    pub darts_figure : length (keep (λ x. mem x vol) (places n)) ≡ length (volume_in ds (s p))
    unfolding places_in
    darts_figure = sym (volume_size site p h)

    pub faces_figure : length (keep (λ x. mem x vol) (face_starts m)) ≡ length (faces_in ds (s p))
    faces_figure = ap length starts_in_cell ∙ sym (ap length faces_are ∙ length-map (keep starts_face (places_in n vol)) (λ x. map s (cycle nx x)))

    -- CRITICAL FACES of the cell, with block o
    -- the test of one start
    with_block : (o x : ℕ) → x < n → is_critical_with o (third_at ds (s x)) ≡ (critical_at m x && eqb (other_in (column m 3 x)) o)
    with_block o x l = ap (is_critical_with o) (site.third_is x l) ∙ go ((image_passed m ok).range.kinds x l)
      where
        go : Kind (column m 3 x) (column m 4 x) → is_critical_with o (third_in s (column m 3 x) (column m 4 x)) ≡ (critical_at m x && eqb (other_in (column m 3 x)) o)
        go (kind_free e f) = rw (third_free s (column m 3 x) (column m 4 x) e, ne_eqb (column m 3 x % 4) 2 (λ y. omega arith))
        go (kind_sewn e) = rw (third_sewn s (column m 3 x) (column m 4 x) e, ne_eqb (column m 3 x % 4) 2 (λ y. omega arith))
        go (kind_critical e f g) = rw (third_critical s (column m 3 x) (column m 4 x) e, e) (eqb_swap o (other_in (column m 3 x)))

    serial_start : (x : ℕ) → x < n → start_of (map s (cycle nx x)) ≡ s x
    serial_start x l = start_map s (cycle nx x) (round site.linked.few site.linked.next_within site.linked.next_apart x l).some ∙ ap s (cycle_from x l)

    critical_are : (o : ℕ) → length (border_with ds (s p) o) ≡ length (keep (λ x. critical_at m x && eqb (other_in (column m 3 x)) o) (keep starts_face (places_in n vol)))
    critical_are o =
        let test : List ℕ → Bool = λ f. is_critical_with o (third_at ds (start_of f)) in
        let l = keep starts_face (places_in n vol) in
        ap (λ (fs : List (List ℕ)). length (keep test fs)) faces_are
        ∙ ap length (keep_map test (λ x. map s (cycle nx x)) l)
        ∙ length-map (keep (λ x. test (map s (cycle nx x))) l) (λ x. map s (cycle nx x))
        ∙ ap length (keep_cong (λ x. test (map s (cycle nx x))) (λ x. critical_at m x && eqb (other_in (column m 3 x)) o) l
        (λ x k. let below = (places_in_in n vol x (keep_in starts_face (places_in n vol) x k).0).0 in
        ap (λ (y : ℕ). is_critical_with o (third_at ds y)) (serial_start x below) ∙ with_block o x below))

    pub critical_figure : (o : ℕ) → length (keep (λ x. mem x vol && eqb (other_in (column m 3 x)) o) (keep (critical_at m) (face_starts m))) ≡ length (border_with ds (s p) o)
    critical_figure o =
        ap length
        (keep_twice (λ x. mem x vol && eqb (other_in (column m 3 x)) o) (critical_at m) (face_starts m)
        ∙ keep_cong (λ x. critical_at m x && (mem x vol && eqb (other_in (column m 3 x)) o)) (λ x. mem x vol && (critical_at m x && eqb (other_in (column m 3 x)) o)) (face_starts m)
        (λ x k. turn (critical_at m x) (mem x vol) (eqb (other_in (column m 3 x)) o))
        ∙ sym (keep_twice (λ x. critical_at m x && eqb (other_in (column m 3 x)) o) (λ x. mem x vol) (face_starts m))
        ∙ ap (keep (λ x. critical_at m x && eqb (other_in (column m 3 x)) o)) starts_in_cell)
        ∙ sym (critical_are o)
      where
        turn : (a b c : Bool) → (a && (b && c)) ≡ (b && (a && c))
        turn true true c = refl
        turn true false c = refl
        turn false true c = refl
        turn false false c = refl

  -- CELLS THAT HAVE THEIR NUMBERS
  module _ {G firsts : List ℕ} {count : ℕ} (g : Grouped false m G firsts count) where
    named : (x : ℕ) → x < n → 0 < get_or G x 0
    named x h = (g.within x h).0

    pub count_few : count ≤ n
    count_few = omega (arith, g.count_is, keep_le (is_first false m) (places n), length_tab (λ (q : ℕ). q) n)

    first_in : (c : ℕ) → c < count → get_or firsts c 0 ≡ get_or (firsts_below false m n) c 0
    first_in c h = sym (get_or-take count firsts c 0 h) ∙ ap (λ (l : List ℕ). get_or l c 0) g.firsts_are

    pub first_below : (c : ℕ) → c < count → get_or firsts c 0 < n
    first_below c h = rw (first_in c h) (places_below n (get_or (firsts_below false m n) c 0)
        (keep_in (is_first false m) (places n) (get_or (firsts_below false m n) c 0) (getD_in (firsts_below false m n) c (omega (arith, g.count_is)))).0)

    -- the least serial of cell c
    pub least_serial : (c : ℕ) → c < count → get_or (volume_starts ds) c 0 ≡ s (get_or firsts c 0)
    least_serial c h =
        ap (λ (l : List ℕ). get_or l c 0) (firsts_serials m ok false)
        ∙ map_at s 0 0 (firsts_below false m n) c (omega (arith, g.count_is))
        ∙ ap s (sym (first_in c h))

    -- x has number c + 1 where it is in cell c
    in_cell : (c : ℕ) → c < count → (x : ℕ) → x < n → eqb (get_or G x 0) (suc c) ≡ mem x (volume_of m (get_or firsts c 0))
    in_cell c h x l = g.number c x h l ∙ cell_mem m ok (get_or firsts c 0) (first_below c h) x

    module _ (c : ℕ) (h : c < count) where
      abbrev p : ℕ
      p = get_or firsts c 0

      by_cell : (l : List ℕ) → ((x : ℕ) → In x l → x < n) → length (keep (λ x. eqb (get_or G x 0) (suc c)) l) ≡ length (keep (λ x. mem x (volume_of m p)) l)
      by_cell l below = ap length (keep_cong (λ x. eqb (get_or G x 0) (suc c)) (λ x. mem x (volume_of m p)) l (λ x k. in_cell c h x (below x k)))

      -- WHAT COUNTS in word j of the cell's row: darts, faces, critical faces
      darts_none : (j : ℕ) → j < 19 → (1 ≡ j → ⊥) → length (keep (λ x. eqb (cell_word G 1 x) (19 * c + j)) (places n)) ≡ 0
      darts_none j l other = other_word G (places n) (λ x k. named x (places_below n x k)) c 1 j (omega arith) l other

      darts_here : length (keep (λ x. eqb (cell_word G 1 x) (19 * c + 1)) (places n)) ≡ length (volume_in ds (s p))
      darts_here = own_word G (places n) (λ x k. named x (places_below n x k)) c 1 (omega arith) ∙ by_cell (places n) (places_below n) ∙ darts_figure p (first_below c h)

      faces_none : (j : ℕ) → j < 19 → (2 ≡ j → ⊥) → length (keep (λ x. eqb (cell_word G 2 x) (19 * c + j)) (face_starts m)) ≡ 0
      faces_none j l other = other_word G (face_starts m) (λ x k. named x (starts_below x k)) c 2 j (omega arith) l other

      faces_here : length (keep (λ x. eqb (cell_word G 2 x) (19 * c + 2)) (face_starts m)) ≡ length (faces_in ds (s p))
      faces_here = own_word G (face_starts m) (λ x k. named x (starts_below x k)) c 2 (omega arith) ∙ by_cell (face_starts m) starts_below ∙ faces_figure p (first_below c h)

      abbrev critical_starts : List ℕ
      critical_starts = keep (critical_at m) (face_starts m)

      -- a critical start: it is below n, and names a block
      critical_below : (x : ℕ) → In x critical_starts → x < n
      critical_below x k = starts_below x (keep_in (critical_at m) (face_starts m) x k).0

      named_block : (x : ℕ) → In x critical_starts → other_in (column m 3 x) < 16
      named_block x k = bordering x (critical_below x k) (keep_in (critical_at m) (face_starts m) x k).1

      critical_hit : (j x : ℕ) → j < 19 → In x critical_starts → eqb (critical_word m G x) (19 * c + j) ≡ (eqb (get_or G x 0) (suc c) && eqb (3 + other_in (column m 3 x)) j)
      critical_hit j x l k = hit G x j (3 + other_in (column m 3 x)) c (named x (critical_below x k)) (omega (arith, named_block x k)) l

      critical_none : (j : ℕ) → j < 3 → length (keep (λ x. eqb (critical_word m G x) (19 * c + j)) critical_starts) ≡ 0
      critical_none j l = none_kept (λ x. eqb (critical_word m G x) (19 * c + j)) critical_starts
          (λ x k. critical_hit j x (omega arith) k ∙ rw (ne_eqb (3 + other_in (column m 3 x)) j (λ e. omega arith)) (and_false (eqb (get_or G x 0) (suc c))))

      critical_here : (o : ℕ) → o < 16 → length (keep (λ x. eqb (critical_word m G x) (19 * c + (3 + o))) critical_starts) ≡ length (border_with ds (s p) o)
      critical_here o l =
          ap length (keep_cong (λ x. eqb (critical_word m G x) (19 * c + (3 + o))) (λ x. mem x (volume_of m p) && eqb (other_in (column m 3 x)) o) critical_starts
          (λ x k. critical_hit (3 + o) x (omega arith) k ∙ both (in_cell c h x (critical_below x k)) (three_more (other_in (column m 3 x)) o)))
          ∙ critical_figure p (first_below c h) o
        where
          both : {a b c d : Bool} → a ≡ b → c ≡ d → (a && c) ≡ (b && d)
          both e f = rw (e, f)

          three_more : (a b : ℕ) → eqb (3 + a) (3 + b) ≡ eqb a b
          three_more a b = same_truth (eqb (3 + a) (3 + b)) (eqb a b)
              (λ e. let f = eqb-true (3 + a) (3 + b) e in eq-eqb a b (omega arith))
              (λ e. let f = eqb-true a b e in eq-eqb (3 + a) (3 + b) (omega arith))

      -- THE WORDS of the cell's row, once all is counted
      module _ {T₀ T₁ T₂ T₃ : List ℕ} (started : CountHeaded m firsts (19 * count) T₀ T₁) (darts : CountTold (cell_word G 1) (places n) T₁ T₂) (borders : FacesCounted m G T₂ T₃) where
        -- what stands there at first, and what is counted
        abbrev first_of : ℕ → ℕ
        first_of j = cond (eqb j 0) (s p) 0

        first_word : (j : ℕ) → j < 19 → get_or T₁ (19 * c + j) 0 ≡ first_of j
        first_word j l =
            let rest : (19 * c + j) % 19 ≡ j = omega arith in
            let row : (19 * c + j) / 19 ≡ c = omega arith in
            started.head (19 * c + j) (omega arith) ∙ rw (rest, row) refl

        all_counted : (j : ℕ) → j < 19 → get_or T₃ (19 * c + j) 0
            ≡ first_of j + length (keep (λ x. eqb (cell_word G 1 x) (19 * c + j)) (places n))
            + length (keep (λ x. eqb (cell_word G 2 x) (19 * c + j)) (face_starts m))
            + length (keep (λ x. eqb (critical_word m G x) (19 * c + j)) critical_starts)
        all_counted j l = omega (arith, borders.value (19 * c + j), darts.value (19 * c + j), first_word j l)

        none_critical : (j o : ℕ) → j < 19 → j ≡ 3 + o → get_or T₃ (19 * c + j) 0 ≡ length (keep (λ x. eqb (critical_word m G x) (19 * c + (3 + o))) critical_starts)
        none_critical j o l e =
            let at_first : first_of j ≡ 0 = rw (ne_eqb j 0 (λ z. omega arith)) refl in
            let same = ap (λ (k : ℕ). length (keep (λ x. eqb (critical_word m G x) (19 * c + k)) critical_starts)) e in
            omega (arith, all_counted j l, darts_none j l (λ z. omega arith), faces_none j l (λ z. omega arith), same)

        pub word : (j : ℕ) → j < 19 → get_or T₃ (19 * c + j) 0 ≡ figure ds (s p) j
        unfolding figure
        word zero l = omega (arith, all_counted 0 l, darts_none 0 l (λ z. omega arith), faces_none 0 l (λ z. omega arith), critical_none 0 (omega arith))
        word (suc zero) l = omega (arith, all_counted 1 l, darts_here, faces_none 1 l (λ z. omega arith), critical_none 1 (omega arith))
        word (suc (suc zero)) l = omega (arith, all_counted 2 l, darts_none 2 l (λ z. omega arith), faces_here, critical_none 2 (omega arith))
        word (suc (suc (suc o))) l = none_critical (suc (suc (suc o))) o l (omega arith) ∙ critical_here o (omega arith)

    -- ALL ROWS
    pub count_is : count ≡ length (volume_starts ds)
    count_is = g.count_is ∙ group_count m ok false

    -- no word counts from row `count` on
    none_beyond : (index : ℕ → ℕ) (l : List ℕ) → ((x : ℕ) → In x l → index x < 19 * count) → (i : ℕ) → 19 * count ≤ i → length (keep (λ x. eqb (index x) i) l) ≡ 0
    none_beyond index l low i h = none_kept (λ x. eqb (index x) i) l (λ x k. ne_eqb (index x) i (λ e. omega (arith, low x k)))

    word_low : (k x : ℕ) → k < 19 → x < n → cell_word G k x < 19 * count
    word_low k x l h = omega (arith, (g.within x h).0, (g.within x h).1)

    module _ {T₀ T₁ T₂ T₃ : List ℕ} (started : CountHeaded m firsts (19 * count) T₀ T₁) (darts : CountTold (cell_word G 1) (places n) T₁ T₂) (borders : FacesCounted m G T₂ T₃) where
      rest_same : (i : ℕ) → 19 * count ≤ i → get_or T₃ i 0 ≡ get_or T₀ i 0
      rest_same i h =
          let d = none_beyond (cell_word G 1) (places n) (λ x k. word_low 1 x (omega arith) (places_below n x k)) i h in
          let f = none_beyond (cell_word G 2) (face_starts m) (λ x k. word_low 2 x (omega arith) (starts_below x k)) i h in
          let b = none_beyond (critical_word m G) (keep (critical_at m) (face_starts m)) (λ x k.
          let at = keep_in (critical_at m) (face_starts m) x k in
          word_low (3 + other_in (column m 3 x)) x (omega (arith, bordering x (starts_below x at.0) at.1)) (starts_below x at.0)) i h in
          omega (arith, borders.value i, darts.value i, started.rest i h)

      pub all_told : 19 * count ≤ length T₀ → T₃ ≡ told_rows m T₀
      unfolding told_rows rows_of
      all_told long = rows_are (figure ds) (volume_starts ds) T₃ T₀ (borders.len ∙ darts.len ∙ started.len) (omega (arith, count_is))
          (λ c j h l. let less : c < count = omega (arith, count_is) in word c less started darts borders j l ∙ ap (λ (x : ℕ). figure ds x j) (sym (least_serial c less)))
          (λ i h. rest_same i (omega (arith, count_is)))

    -- WHAT COUNTING ASKS at each step
    pub countable_start : {T T' : List ℕ} → CountHeaded m firsts (19 * count) T T' → 19 * count ≤ length T → Countable (2 ^ 32) m G T'
    countable_start {T} {T'} w long = record {
      len = g.len_g;
      within = λ q h. ((g.within q h).0, omega (arith, (g.within q h).1, count_few, site.linked.few), omega (arith, (g.within q h).1, w.len));
      small = λ q j h l. rw (w.head (cell_word G j q) (word_low j q l h)) (low (cell_word G j q) (word_low j q l h));
    }
      where
        low : (i : ℕ) → i < 19 * count → head_word m firsts i ≤ 2 ^ 32
        low i h = by_cases (eqb (i % 19) 0)
            (λ e. rw e (omega (arith, (image_passed m ok).range.serial_small (get_or firsts (i / 19) 0) (first_below (i / 19) (omega arith)))))
            (λ e. rw e (omega arith))

pub countable_after : {m G T T' l : List ℕ} {index : ℕ → ℕ} {most : ℕ} → Countable most m G T → CountTold index l T T' → length l ≤ room → Countable (most + room) m G T'
countable_after {m} {G} c w short = record {
  len = c.len;
  within = λ q h. ((c.within q h).0, (c.within q h).1, omega (arith, (c.within q h).2, w.len));
  small = λ q j h l. omega (arith, counted_le w (cell_word G j q), c.small q j h l);
}

pub countable_more : {m G T : List ℕ} {most more : ℕ} → Countable most m G T → most ≤ more → Countable more m G T
countable_more c h = record { len = c.len; within = c.within; small = λ q j k l. omega (arith, c.small q j k l) }

-- BOTH KINDS of faces
pub faces_counted : (m G : List ℕ) {T T' T'' : List ℕ} → CountTold (cell_word G 2) (face_starts m) T T' → CountTold (critical_word m G) (keep (critical_at m) (face_starts m)) T' T'' → FacesCounted m G T T''
faces_counted m G a b = record { len = b.len ∙ a.len; value = λ i. omega (arith, a.value i, b.value i) }

-- the arrays of message order hold the starts
pub started : (m : List ℕ) → holds_block m ≡ true → {out starts : List ℕ} {darts count : ℕ} → InOrder (faces (column m 1) (places (count_in m))) out starts darts count → CountStarted m out starts count
started m ok {out} {starts} {darts} {count} o = record {
  starts_there = o.starts_size;
  few = omega (arith, (order_few (sited m ok).linked o).1, (sited m ok).linked.few);
  count_is = o.count_is ∙ sym (length-map (faces (column m 1) (places (count_in m))) start_of);
  index_below = λ k h. omega (arith, (first_dart (sited m ok).linked o k h).0, (order_few (sited m ok).linked o).0, (sited m ok).linked.few);
  index_there = λ k h. omega (arith, (first_dart (sited m ok).linked o k h).0, o.out_size);
  start_is = λ k h. (first_dart (sited m ok).linked o k h).1 ∙ sym (at k h);
  start_below = λ k h. let r = first_dart (sited m ok).linked o k h in omega (arith, at k h, r.1, r.2);
}
  where
    at : (k : ℕ) → k < count → get_or (face_starts m) k 0 ≡ start_of (get_or (faces (column m 1) (places (count_in m))) k [])
    at k h = map_at start_of [] 0 (faces (column m 1) (places (count_in m))) k (omega (arith, o.count_is))

-- how many starts there are
pub starts_few : (m : List ℕ) → holds_block m ≡ true → length (face_starts m) ≤ room
starts_few m ok = omega (
  arith,
  ap length (starts_are m ok),
  keep_le (λ x. all (leb x) (cycle (column m 1) x)) (places (count_in m)),
  length_tab (λ (q : ℕ). q) (count_in m),
  (sited m ok).linked.few,
)

-- THE ANSWER and the rows
pub told_unsound : (m rows : List ℕ) → holds_block m ≡ false → (Err untold.Unsound ≡ cells_told m rows) × (rows ≡ rows_after m rows)
unfolding cells_told rows_after
told_unsound m rows e = rw e (refl, refl)

pub told_short : (m rows : List ℕ) → holds_block m ≡ true → {count : ℕ} → count ≡ length (volume_starts (darts_in m)) → length rows < 19 * count
    → (Err untold.Short ≡ cells_told m rows) × (rows ≡ rows_after m rows)
unfolding cells_told rows_after
told_short m rows ok e h = rw (ok, lt-leb (row_words m) (length rows) (omega arith)) (refl, refl)

pub told_cells : (m rows : List ℕ) → holds_block m ≡ true → {count : ℕ} → count ≡ length (volume_starts (darts_in m)) → 19 * count ≤ length rows → {T : List ℕ} → T ≡ told_rows m rows
    → (Ok count ≡ cells_told m rows) × (T ≡ rows_after m rows)
unfolding cells_told rows_after
told_cells m rows ok e h t = rw (ok, le-leb (row_words m) (length rows) (omega arith)) (ap Ok e, t)
