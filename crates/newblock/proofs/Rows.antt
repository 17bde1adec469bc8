-- Rows of eight words, one for each place, behind the header of a block's memory. Assumes nothing.
--   row_at, past_rows    a word of a row
--   behind_row, behind_rest, behind_more    rows stored in memory, and one more
use Rattle.std.proofs.Common.{◌≡◌, ℕ, zero, suc, ◌+◌, ◌-◌, ◌*◌, ◌<◌, ◌≤◌, List, [], ◌∷◌, ◌++◌, map, length, get_or, take, drop, sym, refl, ap, ◌∙◌, append_assoc, add_assoc, zero-add, zero-mul, arith, length-append, length-drop, take-append-drop, length-take-le, get_or-drop, drop-drop, take_at, get_or-append-add}
use lib.ListN.{get_or-append}
use lib.Seq.{drop-append-add}
use Rattle.laws.proofs.Members.{Each}
use Rattle.model.specs.Lists.{tab, concat}
use Rattle.model.specs.Image.{column}
use Rattle.laws.proofs.Lists.{concat_snoc}
use Rattle.memory.specs.Record.{put}
use Rattle.newblock.specs.Serials.{behind}

abbrev pub Eights : List (List ℕ) → Type 0
Eights rows = Each (λ r. length r ≡ 8) rows

pub map_eights : {A : Type 0} (f : A → List ℕ) → ((a : A) → length (f a) ≡ 8) → (l : List A) → Eights (map f l)
map_eights f e [] = tt
map_eights f e (a ∷ l) = (e a, map_eights f e l)

pub tab_eights : (f : ℕ → List ℕ) → ((k : ℕ) → length (f k) ≡ 8) → (n : ℕ) → Eights (tab f n)
tab_eights f e zero = tt
tab_eights f e (suc n) = (e 0, tab_eights (λ k. f (suc k)) (λ k. e (suc k)) n)

pub rows_length : (rows : List (List ℕ)) → Eights rows → length (concat rows) ≡ length rows * 8
unfolding concat
rows_length [] e = refl
rows_length (r ∷ rows) e = omega (arith, e.0, rows_length rows e.1, length-append r (concat rows))

-- word f of the row at place p
pub row_at : (rows : List (List ℕ)) → Eights rows → (rest : List ℕ) (p f : ℕ) → p < length rows → f < 8 → get_or (concat rows ++ rest) (p * 8 + f) 0 ≡ get_or (get_or rows p []) f 0
unfolding concat
row_at [] e rest p f h k = absurd (omega arith)
row_at (r ∷ rows) e rest zero f h k = rw (zero-mul, zero-add, append_assoc r (concat rows) rest) (get_or-append r (concat rows ++ rest) 0 f (omega (arith, e.0)))
row_at (r ∷ rows) e rest (suc p) f h k =
    let at : suc p * 8 + f ≡ length r + (p * 8 + f) = omega (arith, e.0) in
    rw (at, append_assoc r (concat rows) rest, get_or-append-add r (concat rows ++ rest) (p * 8 + f) 0) (row_at rows e.1 rest p f (omega arith) k)

-- past the rows
pub past_rows : (rows : List (List ℕ)) → Eights rows → (rest : List ℕ) (i : ℕ) → get_or (concat rows ++ rest) (length rows * 8 + i) 0 ≡ get_or rest i 0
past_rows rows e rest i = ap (λ (k : ℕ). get_or (concat rows ++ rest) (k + i) 0) (sym (rows_length rows e)) ∙ get_or-append-add (concat rows) rest i 0

-- behind a header of eight words
pub headed_at : (head rest : List ℕ) → length head ≡ 8 → (i : ℕ) → get_or (head ++ rest) (8 + i) 0 ≡ get_or rest i 0
headed_at head rest l i = ap (λ (k : ℕ). get_or (head ++ rest) (k + i) 0) (sym l) ∙ get_or-append-add head rest i 0

-- ROWS STORED in memory
pub behind_none : (m : List ℕ) → m ≡ behind m []
unfolding behind concat
behind_none m = sym (take-append-drop 8 m)

module _ (m : List ℕ) (rows : List (List ℕ)) (e : Eights rows) (h : 8 + length rows * 8 ≤ length m) where
  front : List ℕ
  front = take 8 m ++ concat rows

  head_length : length (take 8 m) ≡ 8
  head_length = length-take-le 8 m (omega arith)

  front_length : length front ≡ 8 + length rows * 8
  unfolding front
  front_length = omega (arith, length-append (take 8 m) (concat rows), head_length, rows_length rows e)

  parts : behind m rows ≡ front ++ drop (8 + length rows * 8) m
  unfolding behind front
  parts = sym (append_assoc (take 8 m) (concat rows) (drop (8 + length rows * 8) m))

  pub behind_length : length (behind m rows) ≡ length m
  behind_length = omega (arith, ap length parts, length-append front (drop (8 + length rows * 8) m), front_length, length-drop (8 + length rows * 8) m)

  pub behind_row : (p f : ℕ) → p < length rows → f < 8 → column (behind m rows) f p ≡ get_or (get_or rows p []) f 0
  unfolding behind
  behind_row p f k l = ap (λ (i : ℕ). get_or (take 8 m ++ (concat rows ++ drop (8 + length rows * 8) m)) i 0) (add_assoc 8 (p * 8) f)
      ∙ headed_at (take 8 m) (concat rows ++ drop (8 + length rows * 8) m) head_length (p * 8 + f) ∙ row_at rows e (drop (8 + length rows * 8) m) p f k l

  pub behind_rest : (p f : ℕ) → length rows ≤ p → column (behind m rows) f p ≡ column m f p
  behind_rest p f k =
      let at : 8 + p * 8 + f ≡ length front + ((p - length rows) * 8 + f) = omega (arith, front_length) in
      let back : 8 + length rows * 8 + ((p - length rows) * 8 + f) ≡ 8 + p * 8 + f = omega arith in
      ap (λ (x : List ℕ). column x f p) parts ∙ ap (λ (i : ℕ). get_or (front ++ drop (8 + length rows * 8) m) i 0) at ∙ get_or-append-add front (drop (8 + length rows * 8) m) ((p - length rows) * 8 + f) 0
      ∙ get_or-drop (8 + length rows * 8) m ((p - length rows) * 8 + f) 0 ∙ ap (λ (i : ℕ). get_or m i 0) back

  -- one row more
  pub behind_more : (r : List ℕ) (p : ℕ) → length rows ≡ p → put (behind m rows) p r ≡ behind m (rows ++ r ∷ [])
  unfolding behind front
  behind_more r p l =
      let past : 16 + p * 8 ≡ length front + 8 = omega (arith, front_length) in
      let on : 8 + length rows * 8 + 8 ≡ 8 + length (rows ++ r ∷ []) * 8 = omega (arith, length-append rows (r ∷ [])) in
      let stored : put (front ++ drop (8 + length rows * 8) m) p r ≡ front ++ (r ++ drop 8 (drop (8 + length rows * 8) m)) =
      rw (take_at front (drop (8 + length rows * 8) m) (8 + p * 8) (omega (arith, front_length)), past, drop-append-add front (drop (8 + length rows * 8) m) 8) in
      ap (λ (x : List ℕ). put x p r) parts ∙ stored
      ∙ ap (λ (x : List ℕ). front ++ (r ++ x)) (drop-drop 8 (8 + length rows * 8) m ∙ ap (λ (k : ℕ). drop k m) on)
      ∙ append_assoc (take 8 m) (concat rows) (r ++ drop (8 + length (rows ++ r ∷ []) * 8) m)
      ∙ ap (λ (x : List ℕ). take 8 m ++ x)
      (sym (append_assoc (concat rows) r (drop (8 + length (rows ++ r ∷ []) * 8) m))
      ∙ ap (λ (x : List ℕ). x ++ drop (8 + length (rows ++ r ∷ []) * 8) m) (sym (concat_snoc rows r)))
