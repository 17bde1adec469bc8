-- The new darts of a transfer as a block's memory of their own, in ascending serial. Assumes nothing.
-- v, b, z as in Sides; keys, ranks: the serials ranked; q: the index of each dart's opposite; the points stand in s from a place on.
use Rattle.std.specs.Prelude.{◌≡◌, ◌≢◌, Bool, true, false, not, ◌&&◌, List, ℕ, ◌+◌, ◌*◌, ◌/◌, ◌≤◌, ◌<◌, leb, eqb, length, get_or, take, None, Option, Some}
use Rattle.model.specs.Lists.{all, mem, distinct, tab}
use Rattle.model.specs.Values.{Dart, finite, finite_bits, message_darts}
use Rattle.model.specs.Cells.{held}
use Rattle.model.specs.Image.{words_for, column, block_in}
use Rattle.model.specs.Messages.{Transfer, size_all}
use Rattle.memory.specs.Record.{record_in}
use Rattle.memory.specs.declared.record.Record.{Record}
use Rattle.cells.specs.Places.{Numbered}
use Rattle.inbox.specs.Inbox.{FacesIn, is_hollow, points_in, word_in}
use Rattle.ranking.specs.Ranks.{value_at, index_at, Ranked}
use Rattle.arrival.specs.Sides.{next_index, pair_at, reverse_at, ends_differ, Segments, VerticesSmall}
use Rattle.memory.specs.declared.record.Place.{Place}

-- whether the values of the first k keys, which ascend, are edges that differ in the last bit; then q has the index of each one's other
pub record Edged (keys : List ℕ) (k : ℕ) (q : List ℕ) (r : Bool) : Type 0 where
  pub yes : r ≡ true → (p : ℕ) → p < k → (s : ℕ) × (s < k) × (value_at keys p / 2 ≡ value_at keys s / 2) × (value_at keys p ≢ value_at keys s) × (get_or q (index_at keys p) 0 ≡ index_at keys s)
  pub no : r ≡ false → (p : ℕ) × (p < k) × ((s : ℕ) → s < k → value_at keys p / 2 ≡ value_at keys s / 2 → value_at keys p ≡ value_at keys s)

-- q has the index of each dart's opposite, whose pair is the reverse
pub record Opposed (v b z : List ℕ) (k : ℕ) (q : List ℕ) : Type 0 where
  pub below : (i : ℕ) → i < k → get_or q i 0 < k
  pub reversed : (i : ℕ) → i < k → reverse_at v b z i ≡ pair_at v b z (get_or q i 0)

-- whether pairs are there once, with different ends and with their reverses; then q has the opposites
pub record EdgesPaired (v b z : List ℕ) (k : ℕ) (q : List ℕ) (r : Bool) : Type 0 where
  pub is : r ≡ ((all (ends_differ v b z) (tab (λ i. i) k) && distinct (tab (pair_at v b z) k)) && all (λ i. mem (reverse_at v b z i) (tab (pair_at v b z) k)) (tab (λ i. i) k))
  pub opposed : r ≡ true → Opposed v b z k q

-- the record at place p: all free
abbrev pub draft_record : List ℕ → List ℕ → List ℕ → List ℕ → List ℕ → List ℕ → List ℕ → ℕ → ℕ → Record
draft_record v b z keys ranks q s from p =
    let i = index_at keys p in
    let point = from + 24 * get_or v i 0 in
    record {
      serial = value_at keys p;
      next = get_or ranks (next_index b z i) 0;
      opposite = get_or ranks (get_or q i 0) 0;
      kind = 0;
      link = 0;
      x = word_in s point;
      y = word_in s (point + 8);
      z = word_in s (point + 16);
    }

-- the point at a place of the message has finite coordinates
pub record FiniteIn (s : List ℕ) (at : ℕ) : Type 0 where
  pub on_x : finite_bits (word_in s at) ≡ true
  pub on_y : finite_bits (word_in s (at + 8)) ≡ true
  pub on_z : finite_bits (word_in s (at + 16)) ≡ true

-- what there must be to draft k darts
pub record Draftable (v b z keys q s : List ℕ) (from k : ℕ) : Type 0 where
  pub few : k ≤ message_darts
  pub segs : Segments b z k
  pub index_below : (p : ℕ) → p < k → index_at keys p < k
  pub opposite_below : (i : ℕ) → i < k → get_or q i 0 < k
  pub point_fits : (i : ℕ) → i < k → from + 24 * get_or v i 0 + 24 ≤ length s
  pub point_finite : (i : ℕ) → i < k → FiniteIn s (from + 24 * get_or v i 0)

-- a block's memory with k such records
pub record RecordsDrafted (f : ℕ → Record) (k : ℕ) (m : List ℕ) : Type 0 where
  pub size : words_for k ≤ length m
  pub count_is : get_or m 2 0 ≡ k
  pub rows : (p : ℕ) → p < k → record_in m p ≡ f p

-- all that a draft rests on
pub record Draft (v x b z keys ranks q s : List ℕ) (from k : ℕ) (m : List ℕ) : Type 0 where
  pub some_darts : 1 ≤ k
  pub few : k ≤ message_darts
  pub segs : Segments b z k
  pub small : VerticesSmall v k
  pub ranked : Ranked x k keys ranks
  pub opposed : Opposed v b z k q
  pub once : (i j : ℕ) → i < k → j < k → pair_at v b z i ≡ pair_at v b z j → i ≡ j
  pub drafted : RecordsDrafted (draft_record v b z keys ranks q s from) k m

-- how the vertices of a draft are numbered by first use, beside what the message says
pub record Compared (v ranks : List ℕ) (n k : ℕ) (m : List ℕ) (r : Bool) : Type 0 where
  pub numbers : List ℕ
  pub firsts : List ℕ
  pub count : ℕ
  pub numbered : Numbered (column m 1) (column m 2) (take k ranks) numbers firsts count
  pub result : r ≡ (all (λ i. eqb (get_or v i 0) (get_or numbers (get_or ranks i 0) 0)) (tab (λ i. i) k) && eqb n count)

-- what was told of part 1 of a transfer: its k darts in arrays, its n points in the message
pub record TransferTold (t : Transfer) (v x b z s : List ℕ) (from n k : ℕ) (hollow : Bool) : Type 0 where
  pub inside : FacesIn t.faces v x b z
  pub darts : k ≡ size_all t.faces
  pub some_darts : 1 ≤ k
  pub few : k ≤ message_darts
  pub points : t.points ≡ points_in s from n
  pub points_fit : from + 24 * n ≤ length s
  pub hollow_is : hollow ≡ is_hollow t.faces

-- a serial beside a block's n darts: the place past those below it, where it is new
abbrev pub is_new : List ℕ → ℕ → Bool
is_new m x = leb 1 x && not (held (block_in m).darts x)

abbrev pub GapSaid : List ℕ → ℕ → ℕ → Option Place → Type 0
GapSaid m n x (Some g) = (is_new m x ≡ true) × (g.0 ≤ n)
GapSaid m n x None = is_new m x ≡ false

pub record GapTold (m : List ℕ) (n x : ℕ) (r : Option Place) : Type 0 where
  pub said : GapSaid m n x r

-- whether points are finite and the first k serials are new to some darts; then they are ranked
pub record NewSerials (ds : List Dart) (s : List ℕ) (from n : ℕ) (x : List ℕ) (k : ℕ) (keys ranks : List ℕ) (r : Bool) : Type 0 where
  pub is : r ≡ (all finite (points_in s from n) && all (λ i. leb 1 (get_or x i 0) && not (held ds (get_or x i 0))) (tab (λ i. i) k) && distinct (take k x))
  pub ranked : r ≡ true → Ranked x k keys ranks
