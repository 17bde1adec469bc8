-- What is left in memory is the image of the block with the new darts among its own, in whatever order they come. Assumes nothing.
use mathlib.Core.Path.{◌≡◌, refl, sym, ◌∙◌, ap}
use mathlib.Core.Bool.{true, false, not, ◌||◌}
use mathlib.Core.List.{List, [], ◌∷◌, ◌++◌, map}
use mathlib.Core.Option.{some}
use Prim.Native.Nat.{ℕ, ◌+◌, ◌*◌, ◌-◌, ◌≤◌, ◌<◌}
use native.Mathlib.Omega.{arith}
use lib.ListN.{length, get_or, drop, replicate, length-drop, length-replicate}
use lib.Seq.{ext_get_or, get_or-drop}
use Rattle.model.specs.Lists.{concat, mem, distinct, tab, ascending, find, index_of}
use Rattle.model.specs.Values.{Dart, Block, no_dart, room}
use Rattle.model.specs.Cells.{serials}
use Rattle.model.specs.Image.{words_for, count_in, image, column, is_sewn_word, block_in, dart_in, dart_words, holds_block}
use Rattle.model.specs.Arrival.{insert_all}
use Rattle.laws.specs.Order.{Ascending}
use Rattle.laws.proofs.Tests.{by_cases}
use Rattle.laws.proofs.Lists.{getD_zeros}
use Rattle.laws.proofs.Members.{In, in_map, map_in, map_map, each_map, distinct_map}
use Rattle.laws.proofs.Tables.{one_place, find_place, tab_ascending, map_tab}
use Rattle.theory.proofs.ImageLaws.{tab_list, getD_serial}
use Rattle.columns.specs.Columns.{Kind, kind_free}
use Rattle.columns.proofs.Thirds.{sewn_one, kind_back}
use Rattle.columns.proofs.Question.{image_passed}
use Rattle.cells.specs.Places.{Linked}
use Rattle.cells.proofs.Sited.{sited}
use Rattle.release.specs.LetGo.{moved_words}
use Rattle.release.proofs.ReleasedImage.{link_moved}
use Rattle.join.specs.Interleave.{up, Between, interleave, rows, interleaved_at}
use Rattle.join.specs.Interleaved.{Drafted}
use Rattle.join.proofs.Positions.{Rows, interleaved_rows, keys, interleaved_keys, index_old, index_new, map_interleave, keep_interleave}
use Rattle.join.proofs.Inserted.{inserted, all_there}

-- the words of a dart where the serial at place x has index t x
words_moved : (m ss : List ℕ) (t : ℕ → ℕ) (p : ℕ) → Kind (column m 3 p) (column m 4 p)
    → index_of (column m 0 (column m 1 p)) ss ≡ t (column m 1 p) → index_of (column m 0 (column m 2 p)) ss ≡ t (column m 2 p)
    → (column m 3 p ≡ 1 → index_of (column m 0 (column m 4 p)) ss ≡ t (column m 4 p))
    → dart_words ss (dart_in m p) ≡ moved_words t m p
unfolding dart_words moved_words
words_moved m ss t p kind next opposite link =
    let k = kind_back (column m 0) (column m 3 p) (column m 4 p) kind in
    let l = link_moved (column m 0) t ss (column m 3 p) (column m 4 p) kind link in
    λ i. column m 0 p ∷ next i ∷ opposite i ∷ k i ∷ l i ∷ column m 5 p ∷ column m 6 p ∷ column m 7 p ∷ []

-- a sound block and a draft of free darts, of other serials
pub drafted : (m c : List ℕ) → holds_block m ≡ true → Linked c (count_in c) → Ascending (count_in c) (column c 0) → ((q : ℕ) → q < count_in c → (column c 3 q ≡ 0) × (column c 4 q ≡ 0))
    → ((p q : ℕ) → p < count_in m → q < count_in c → column m 0 p ≡ column c 0 q → ⊥) → count_in m + count_in c ≤ room
    → words_for (count_in m + count_in c) ≤ length m → Drafted m c (count_in m) (count_in c)
drafted m c ok l up_c free differ fits holds =
    let site = sited m ok in
    let b = site.linked in
    let range = (image_passed m ok).range in
    record {
      interleaves = record {
        block = record { size = b.size; few = b.few; next_lt = b.next_within; opposite_lt = b.opposite_within; sewn_lt = λ p h e. b.sewn_within p h (sewn_one (column m 3 p) e) };
        draft = record { size = l.size; few = l.few; next_lt = l.next_within; opposite_lt = l.opposite_within; sewn_lt = λ p h e. l.sewn_within p h (sewn_one (column c 3 p) e) };
        keys = record { s_up = site.ascends; f_up = up_c; differ = differ };
        fits = fits;
        holds = holds;
      };
      block_linked = b;
      draft_linked = l;
      kinds = range.kinds;
      free = free;
      rest = range.rest;
    }

-- an image by its parts
abbrev parts : ℕ → ℕ → ℕ → List ℕ → List ℕ → List ℕ
parts number counter count rows rest = (number ∷ counter ∷ count ∷ 0 ∷ 0 ∷ 0 ∷ 0 ∷ 0 ∷ []) ++ (rows ++ rest)

module _ {m c : List ℕ} {n k : ℕ} (a : Drafted m c n k) where
  abbrev s : ℕ → ℕ
  s = column m 0

  abbrev f : ℕ → ℕ
  f = column c 0

  -- THE DARTS OF BOTH, by ascending serial
  abbrev pub all_darts : List Dart
  all_darts = interleave s f (dart_in m) (dart_in c) n k

  abbrev w : Between s n f k
  w = a.interleaves.keys

  pub darts_at : Rows s f (dart_in m) (dart_in c) no_dart n k
  darts_at = interleaved_rows w (dart_in m) (dart_in c) no_dart

  pub serials_are : serials all_darts ≡ keys s f n k
  serials_are = map_interleave w (λ d. d.serial) (dart_in m) (dart_in c) s f (λ p h. refl) (λ q h. refl)

  pub dart_serial : (t : ℕ) → (get_or all_darts t no_dart).serial ≡ get_or (keys s f n k) t 0
  dart_serial t = sym (getD_serial all_darts t) ∙ ap (λ (l : List ℕ). get_or l t 0) serials_are

  pub darts_ascend : Ascending (n + k) (λ t. (get_or all_darts t no_dart).serial)
  darts_ascend x y h b = omega (arith, dart_serial x, dart_serial y, interleaved_keys w x y h b)

  -- as a table
  pub darts_tab : (g : ℕ → Dart) → ((t : ℕ) → t < n + k → g t ≡ get_or all_darts t no_dart) → tab g (n + k) ≡ all_darts
  darts_tab g e = ap (tab g) (sym darts_at.count) ∙ tab_list no_dart all_darts g (λ t h. e t (omega (arith, darts_at.count)))

  old_index : (x : ℕ) → x < n → index_of (s x) (serials all_darts) ≡ up s f k x
  old_index x h = ap (index_of (s x)) serials_are ∙ index_old w x h

  new_index : (y : ℕ) → y < k → index_of (f y) (serials all_darts) ≡ up f s n y
  new_index y h = ap (index_of (f y)) serials_are ∙ index_new w y h

  -- their words
  pub old_words : (p : ℕ) → p < n → dart_words (serials all_darts) (dart_in m p) ≡ moved_words (up s f k) m p
  old_words p h = let b = a.interleaves.block in
      words_moved m (serials all_darts) (up s f k) p (a.kinds p h) (old_index (column m 1 p) (b.next_lt p h))
      (old_index (column m 2 p) (b.opposite_lt p h)) (λ e. old_index (column m 4 p) (b.sewn_lt p h (ap is_sewn_word e)))

  pub new_words : (q : ℕ) → q < k → dart_words (serials all_darts) (dart_in c q) ≡ moved_words (up f s n) c q
  new_words q h = let b = a.interleaves.draft in
      words_moved c (serials all_darts) (up f s n) q (kind_free (a.free q h).0 (a.free q h).1)
      (new_index (column c 1 q) (b.next_lt q h)) (new_index (column c 2 q) (b.opposite_lt q h))
      (λ e. new_index (column c 4 q) (b.sewn_lt q h (ap is_sewn_word e)))

  all_words : map (dart_words (serials all_darts)) all_darts ≡ rows m n c k n k
  all_words = map_interleave w (dart_words (serials all_darts)) (dart_in m) (dart_in c) (moved_words (up s f k) m) (moved_words (up f s n) c) old_words new_words

  rest_zero : drop (8 + (n + k) * 8) m ≡ replicate (length m - words_for (n + k)) 0
  rest_zero =
      let size : length (drop (8 + (n + k) * 8) m) ≡ length m - words_for (n + k) = omega (arith, length-drop (8 + (n + k) * 8) m, a.interleaves.holds) in
      ext_get_or 0 (drop (8 + (n + k) * 8) m) (replicate (length m - words_for (n + k)) 0) (size ∙ sym (length-replicate {A = ℕ} (length m - words_for (n + k)) 0))
      (λ i u. get_or-drop (8 + (n + k) * 8) m i 0 ∙ a.rest (8 + (n + k) * 8 + i) (omega arith) ∙ sym (getD_zeros (length m - words_for (n + k)) i))

  -- THE BLOCK WITH BOTH
  abbrev pub both : Block
  both = record { number = get_or m 0 0; counter = get_or m 1 0; darts = all_darts }

  pub image_both : image (length m) both ≡ interleaved_at m n c k
  unfolding image interleaved_at
  image_both = λ i. parts (get_or m 0 0) (get_or m 1 0) (darts_at.count i) (concat (all_words i)) ((ap (λ (x : ℕ). replicate (length m - words_for x) 0) darts_at.count ∙ sym rest_zero) i)

  -- IN WHATEVER ORDER THE NEW ONES COME
  module _ (ps : List ℕ) (once : distinct ps ≡ true) (low : (q : ℕ) → In q ps → q < k) (there : (q : ℕ) → q < k → In q ps) where
    new_serials : serials (map (dart_in c) ps) ≡ map f ps
    new_serials = map_map (dart_in c) (λ d. d.serial) ps

    old_out : (p : ℕ) → p < n → mem (s p) (serials (map (dart_in c) ps)) ≡ false
    old_out p h = by_cases (mem (s p) (serials (map (dart_in c) ps)))
        (λ t. let r = map_in f ps (s p) (sym (ap (mem (s p)) new_serials) ∙ t) in absurd (w.differ p r.0 h (low r.0 r.1) r.2))
        (λ t. t)

    new_in : (q : ℕ) → q < k → mem (f q) (serials (map (dart_in c) ps)) ≡ true
    new_in q h = ap (mem (f q)) new_serials ∙ in_map f q ps (there q h)

    table : tab (λ t. get_or all_darts t no_dart) (n + k) ≡ all_darts
    table = darts_tab (λ t. get_or all_darts t no_dart) (λ t h. refl)

    order : ascending (serials all_darts) ≡ true
    order = ap (λ (l : List Dart). ascending (serials l)) (sym table) ∙ ap ascending (map_tab (λ d. d.serial) (λ t. get_or all_darts t no_dart) (n + k))
        ∙ tab_ascending (λ t. (get_or all_darts t no_dart).serial) (n + k) darts_ascend

    new_found : (q : ℕ) → q < k → find (λ d. d.serial) (f q) all_darts ≡ some (dart_in c q)
    new_found q h = ap (find (λ d. d.serial) (f q)) (sym table)
        ∙ ap (λ (d : Dart). find (λ e. e.serial) d.serial (tab (λ t. get_or all_darts t no_dart) (n + k))) (sym (darts_at.new_at q h))
        ∙ find_place (λ d. d.serial) (λ t. get_or all_darts t no_dart) (n + k) (up f s n q) darts_ascend (darts_at.new_lt q h)
        ∙ ap some (darts_at.new_at q h)

    new_once : distinct (serials (map (dart_in c) ps)) ≡ true
    new_once = ap distinct new_serials ∙ distinct_map f ps once (λ x y i j e. one_place w.f_up (low x i) (low y j) e)

    pub darts_both : insert_all (map (dart_in c) ps) (tab (dart_in m) n) ≡ all_darts
    darts_both =
        ap (insert_all (map (dart_in c) ps))
        (sym
        (keep_interleave w (λ e. not (mem e.serial (serials (map (dart_in c) ps)) || false)) (dart_in m) (dart_in c)
        (λ p h. rw (old_out p h)) (λ q h. rw (new_in q h))))
        ∙ inserted (map (dart_in c) ps) all_darts order (each_map (λ d. find (λ e. e.serial) d.serial all_darts ≡ some d) (dart_in c) ps (λ q i. new_found q (low q i))) new_once

-- THE LAW: whatever order the new darts come in, the block is the same
pub interleaved_image : {m c : List ℕ} → Drafted m c (count_in m) (count_in c) → (ps : List ℕ) → distinct ps ≡ true → length ps ≡ count_in c → ((q : ℕ) → In q ps → q < count_in c)
    → image (length m) (record { number = get_or m 0 0; counter = get_or m 1 0; darts = insert_all (map (dart_in c) ps) (block_in m).darts }) ≡ interleaved_at m (count_in m) c (count_in c)
interleaved_image {m} {c} a ps once size low =
    ap (λ (l : List Dart). image (length m) (record { number = get_or m 0 0; counter = get_or m 1 0; darts = l })) (darts_both a ps once low (all_there (count_in c) ps once size low)) ∙ image_both a
