-- Serials replaced by places, dart by dart; a block with serials becomes its image. Assumes nothing.
use Rattle.std.specs.Prelude.{None, Option, Some, MatchOption}
use Rattle.std.proofs.Common.{◌≡◌, ℕ, ◌+◌, ◌*◌, ◌<◌, ◌≤◌, true, false, List, [], ◌∷◌, ◌++◌, length, get_or, sym, refl, ap, ◌∙◌, ⊎_elim, add-one, arith}
use Rattle.laws.specs.Order.{Ascending}
use Rattle.laws.proofs.Tables.{length_tab, getD_tab, tab_cong, index_place, index_none}
use Rattle.laws.proofs.Tests.{lt_or_ge}
use Rattle.laws.proofs.Maps.{tab_more}
use Rattle.model.specs.Lists.{tab, index_of}
use Rattle.model.specs.Image.{column, is_sewn_word}
use Rattle.memory.specs.Record.{record_in, record_words, put}
use Rattle.memory.specs.Lookup.{place_in}
use Rattle.memory.specs.declared.record.Place.{Place}
use Rattle.memory.specs.declared.record.Record.{Record}
use Rattle.memory.proofs.Lookups.{place_at, place_nothing}
use Rattle.newblock.specs.Serials.{behind}
use Rattle.newblock.specs.Places.{place_link, place_words, serials_in, places_below, resolved}
use Rattle.newblock.proofs.Rows.{Eights, tab_eights, behind_none, behind_length, behind_row, behind_rest, behind_more}

-- ONE SERIAL
module _ (s : ℕ → ℕ) (n x : ℕ) where
  pub place_is : Ascending n s → (p : ℕ) → p < n → s p ≡ x → p ≡ index_of x (tab s n)
  place_is a p h e = sym (index_place s n p a h) ∙ ap (λ (y : ℕ). index_of y (tab s n)) e

  -- the place that is found, and n where none is
  pub place_or : Ascending n s → (f : Option Place) {r : ℕ} {Gives : Place → Type 0} → f ≡ place_in s n x → MatchOption f (r ≡ n) Gives → ((p : Place) → Gives p → r ≡ p.0)
      → r ≡ index_of x (tab s n)
  place_or a (Some p) h e number = let w = place_at s n x (sym h) in number p e ∙ place_is a p.0 w.0 w.1
  place_or a None h e number = e ∙ sym (index_none s n x (place_nothing s n x (sym h)))

pub sewn_place : (ss : List ℕ) (k l r : ℕ) → is_sewn_word k ≡ true → r ≡ index_of l ss → r ≡ place_link ss k l
sewn_place ss k l r e h = rw e h

pub other_link : (ss : List ℕ) (k l : ℕ) → is_sewn_word k ≡ false → l ≡ place_link ss k l
other_link ss k l e = rw e refl

-- ONE DART
pub record_placed : (ss m : List ℕ) (p : ℕ) {r : Record} {next opposite link : ℕ} {after : List ℕ} → r ≡ record_in m p
    → next ≡ index_of r.next ss → opposite ≡ index_of r.opposite ss → link ≡ place_link ss r.kind r.link
    → after ≡ put m p (record_words (record { serial = r.serial; next = next; opposite = opposite; kind = r.kind; link = link; x = r.x; y = r.y; z = r.z }))
    → after ≡ put m p (place_words ss m p)
unfolding place_words
record_placed ss m p {r} e a b l h =
    h
    ∙ rw (a, b, l)
    (ap
    (λ (w : Record). put m p
    (w.serial ∷ index_of w.next ss ∷ index_of w.opposite ss ∷ w.kind ∷ place_link ss w.kind w.link ∷ w.x ∷ w.y
    ∷ w.z ∷ [])) e)

words_8 : (ss m : List ℕ) (p : ℕ) → length (place_words ss m p) ≡ 8
unfolding place_words
words_8 ss m p = refl

-- THE LOOP: the first i darts have places
pub record Placing (m x : List ℕ) (i : ℕ) : Type 0 where
  pub i_le : i ≤ get_or m 2 0
  pub memory_is : x ≡ places_below m i

pub placing_start : (m : List ℕ) → Placing m m 0
placing_start m = record { i_le = omega arith; memory_is = behind_none m }

module _ {m x : List ℕ} {i : ℕ} (w : Placing m x i) (fits : 8 + get_or m 2 0 * 8 ≤ length m) where
  rows : List (List ℕ)
  rows = tab (place_words (serials_in m) m) i

  rows_count : length rows ≡ i
  unfolding rows
  rows_count = length_tab (place_words (serials_in m) m) i

  eights : Eights rows
  unfolding rows
  eights = tab_eights (place_words (serials_in m) m) (words_8 (serials_in m) m) i

  rows_fit : 8 + length rows * 8 ≤ length m
  rows_fit = omega (arith, rows_count, w.i_le)

  memory_rows : x ≡ behind m rows
  unfolding rows
  memory_rows = w.memory_is

  pub placing_length : length x ≡ length m
  placing_length = ap length memory_rows ∙ behind_length m rows eights rows_fit

  -- serials stay
  same_serial : (p : ℕ) → column x 0 p ≡ column m 0 p
  same_serial p = ap (λ (y : List ℕ). column y 0 p) memory_rows ∙ ⊎_elim
      (λ h. behind_row m rows eights rows_fit p 0 (omega (arith, rows_count)) (omega arith) ∙ first p h)
      (λ h. behind_rest m rows eights rows_fit p 0 (omega (arith, rows_count)))
      (lt_or_ge p i)
    where
      first : (p : ℕ) → p < i → get_or (get_or rows p []) 0 0 ≡ column m 0 p
      first p h = unfold rows place_words in (ap (λ (r : List ℕ). get_or r 0 0) (getD_tab (place_words (serials_in m) m) i p [] h))

  pub placing_ascends : {n : ℕ} → Ascending n (column m 0) → Ascending n (column x 0)
  placing_ascends a p q l h = rw (same_serial p, same_serial q) (a p q l h)

  -- the next dart stands as it was
  same_next : (f : ℕ) → column x f i ≡ column m f i
  same_next f = ap (λ (y : List ℕ). column y f i) memory_rows ∙ behind_rest m rows eights rows_fit i f (omega (arith, rows_count))

  same_words : place_words (tab (column x 0) (get_or m 2 0)) x i ≡ place_words (serials_in m) m i
  unfolding place_words
  same_words = rw (tab_cong (column x 0) (column m 0) (get_or m 2 0) (λ p h. same_serial p), same_next 0, same_next 1, same_next 2, same_next 3, same_next 4, same_next 5, same_next 6, same_next 7) refl

  one_more : rows ++ place_words (serials_in m) m i ∷ [] ≡ tab (place_words (serials_in m) m) (i + 1)
  unfolding rows
  one_more = tab_more (place_words (serials_in m) m) i ∙ ap (tab (place_words (serials_in m) m)) (sym (add-one i))

  pub placing_more : i < get_or m 2 0 → {after : List ℕ} → after ≡ put x i (place_words (tab (column x 0) (get_or m 2 0)) x i) → Placing m after (i + 1)
  placing_more h e = record {
    i_le = omega arith;
    memory_is = e ∙ ap (put x i) same_words ∙ ap (λ (y : List ℕ). put y i (place_words (serials_in m) m i)) memory_rows
        ∙ behind_more m rows eights rows_fit (place_words (serials_in m) m i) i rows_count ∙ ap (behind m) one_more;
  }

  pub placing_ends : get_or m 2 0 ≤ i → x ≡ resolved m
  placing_ends h = let e : i ≡ get_or m 2 0 = omega (arith, w.i_le) in w.memory_is ∙ ap (places_below m) e
