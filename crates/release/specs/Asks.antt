-- What labelling and taking out ask of a block's memory, and what they leave while they go on. Assumes nothing.
use Rattle.std.specs.Prelude.{◌≡◌, true, List, ◌++◌, ℕ, ◌+◌, ◌*◌, ◌%◌, ◌≤◌, ◌<◌, length, get_or, take, drop}
use Rattle.model.specs.Image.{words_for, column, is_sewn_word}
use Rattle.model.specs.Values.{room, blocks}
use Rattle.cells.specs.Places.{Within, Apart, Closed}
use Rattle.departure.specs.Asked.{Departs}
use Rattle.departure.specs.declared.Counts.{Counts}
use Rattle.release.specs.LetGo.{rank, records}

-- the marked volume may go to block j, whichever of its darts was asked for
pub record MayGo (m : List ℕ) (j : ℕ) (c : Counts) (marks order starts : List ℕ) : Type 0 where
  pub most : ℕ
  pub serial : ℕ
  pub numbers : List ℕ
  pub firsts : List ℕ
  pub departs : Departs most m j serial c marks order starts numbers firsts

-- LABELLING
-- what it asks of the first n darts: a marked face is sewn as a whole, to darts that are not marked
pub record Sewing (m marks : List ℕ) (n : ℕ) : Type 0 where
  pub size : words_for n ≤ length m
  pub few : n ≤ room
  pub number_small : get_or m 0 0 < blocks
  pub next_within : Within n (column m 1)
  pub next_apart : Apart n (column m 1)
  pub closed : Closed n (column m 1) marks
  pub along : (p : ℕ) → p < n → get_or marks p 0 ≡ 1 → column m 3 (column m 1 p) ≡ column m 3 p
  pub kinds : (p : ℕ) → p < n → get_or marks p 0 ≡ 1 → column m 3 p % 4 ≡ 1 → column m 3 p ≡ 1
  pub away : (p : ℕ) → p < n → get_or marks p 0 ≡ 1 → column m 3 p ≡ 1 → (column m 4 p < n) × (get_or marks (column m 4 p) 0 ≡ 1 → ⊥)

-- x is m but for the third links of places that are not marked
pub record Same (m marks x : List ℕ) : Type 0 where
  pub size : length x ≡ length m
  pub header : (i : ℕ) → i < 8 → get_or x i 0 ≡ get_or m i 0
  pub inside : (p f : ℕ) → f < 8 → get_or marks p 0 ≡ 1 → column x f p ≡ column m f p
  pub next : (p : ℕ) → column x 1 p ≡ column m 1 p

-- TAKING OUT
-- a table of a function below n
abbrev pub Tabled : (ℕ → ℕ) → ℕ → List ℕ → Type 0
Tabled f n t = (p : ℕ) → p < n → get_or t p 0 ≡ f p

-- links that lead to places below n
pub record Bounded (m : List ℕ) (n : ℕ) : Type 0 where
  pub size : words_for n ≤ length m
  pub few : n ≤ room
  pub next_lt : (p : ℕ) → p < n → column m 1 p < n
  pub opposite_lt : (p : ℕ) → p < n → column m 2 p < n
  pub sewn_lt : (p : ℕ) → p < n → is_sewn_word (column m 3 p) ≡ true → column m 4 p < n

-- x is m with g of the unmarked of its first i places behind the header, w of them, and as it was behind those i
pub record DartsMoved (g : ℕ → List ℕ) (m marks : List ℕ) (i : ℕ) (x : List ℕ) (w : ℕ) : Type 0 where
  pub count : w ≡ rank marks i
  pub len : length x ≡ length m
  pub front : take (8 + w * 8) x ≡ take 8 m ++ records g marks i
  pub after : drop (8 + i * 8) x ≡ drop (8 + i * 8) m
