-- What the functions read and answer, from what their callees ensure. Assumes nothing.
use mathlib.Core.Path.{◌≡◌, sym, ap, subst, ◌∙◌}
use mathlib.Core.Bool.{Bool, true, ◌&&◌}
use mathlib.Core.List.{List}
use Prim.Native.Nat.{ℕ, ◌+◌, ◌*◌, ◌/◌, ◌%◌, ◌≤◌, ◌<◌}
use native.Mathlib.Omega.{arith}
use lib.Dec.{eqb}
use lib.ListN.{length, get_or}
use Rattle.model.specs.Image.{words_for, words, column, is_critical_word, other_in}
use Rattle.model.specs.Values.{Point as Patterns, same_point, room}
use Rattle.memory.specs.declared.point.Point.{Point}
use Rattle.memory.specs.Point.{point_of, patterns, FinitePoint, FiniteAt}
use Rattle.memory.proofs.Points.{point_finite, point_patterns}
use Rattle.memory.proofs.Points.{finite_at}
use Rattle.columns.specs.Columns.{count}
use Rattle.mesh.specs.Parts.{block_count, part, PutAfter}
use Rattle.mesh.proofs.Gathers.{part_length}
use Rattle.pairing.specs.Numbers.{MeshAsked, Held, word, next_number, before_of, PlacesBefore, point_by, side_test, meet_test}
use Rattle.pairing.specs.Keys.{Short, keys_of, label_pair, point_pair}
use Rattle.pairing.proofs.InBlocks.{next_lt, few, passed}
use Rattle.pairing.proofs.BothWays.{Sits, word_at}
use Rattle.pairing.proofs.ByNumber.{short, roomy, held_next, held_before}

-- A WORD of the next dart, and of the one before
module _ {m : List ℕ} {g : ℕ} (a : MeshAsked m) (h : Held m g) where
  pub read_next : {r : ℕ} → r ≡ next_number m g → (f : ℕ) → f < 8 → (r / 4096 < block_count m) × (f < 8)
  read_next e f l = (subst (λ (x : ℕ). x / 4096 < block_count m) (sym e) (held_next a h).block_lt, l)

  pub next_held : {r : ℕ} → r ≡ next_number m g → Held m r
  next_held e = subst (Held m) (sym e) (held_next a h)

  pub read_before : {t : List ℕ} {r : ℕ} → PlacesBefore m t → r ≡ before_of t g → (f : ℕ) → f < 8 → (r / 4096 < block_count m) × (f < 8)
  read_before b e f l = (subst (λ (x : ℕ). x / 4096 < block_count m) (sym e) (held_before a h b).block_lt, l)

-- TESTS
pub side_told : (m t : List ℕ) (g h : ℕ) {k a b c n q : ℕ} → k ≡ word m 3 g → a ≡ other_in k → n ≡ next_number m g → b ≡ word m 4 n → q ≡ before_of t h → c ≡ word m 4 q
    → (eqb a (h / 4096) && eqb b c) ≡ side_test m t g h
unfolding side_test
side_told m t g h ek ea en eb eq ec = λ i. eqb ((ea ∙ ap other_in ek) i) (h / 4096) && eqb ((eb ∙ ap (word m 4) en) i) ((ec ∙ ap (word m 4) eq) i)

pub labels_told : (m t : List ℕ) (x y : ℕ) {a b : Bool} → a ≡ side_test m t (x % 65536) (y % 65536) → b ≡ side_test m t (y % 65536) (x % 65536) → (a && b) ≡ label_pair m t x y
unfolding label_pair
labels_told m t x y e f = λ i. e i && f i

-- a point by value
abbrev words_of : List ℕ → ℕ → Patterns
words_of m g = record { x = word m 5 g; y = word m 6 g; z = word m 7 g }

module _ {m : List ℕ} (a : MeshAsked m) {g : ℕ} (h : Held m g) where
  finite_words : FiniteAt (part m (g / 4096)) (g % 4096)
  finite_words = finite_at (part m (g / 4096)) (g % 4096) ((passed a (g / 4096) h.block_lt).finite_points (g % 4096) h.place_lt)

  pub point_ready : {b : List ℕ} → b ≡ part m (g / 4096) → (words_for (g % 4096 + 1) ≤ length b) × FiniteAt b (g % 4096)
  point_ready {b} is = (
    within (ap length is ∙ part_length m (g / 4096) h.block_lt) g,
    subst (λ (x : List ℕ). FiniteAt x (g % 4096)) (sym is) finite_words,
  )
    where
      within : {l : ℕ} → l ≡ words → (n : ℕ) → words_for (n % 4096 + 1) ≤ l
      within e n = omega arith

  pub point_fine : {x : Point} → x ≡ point_by m g → FinitePoint x
  point_fine e = rw e (point_finite _ _ _ finite_words.on_x finite_words.on_y finite_words.on_z)

  point_words : {x : Point} → x ≡ point_by m g → patterns x ≡ words_of m g
  point_words e = ap patterns e ∙ point_patterns _ _ _ finite_words.on_x finite_words.on_y finite_words.on_z

pub point_there : (m : List ℕ) {b : List ℕ} (g : ℕ) → b ≡ part m (g / 4096) → {x : Point}
    → x ≡ point_of (column b 5 (g % 4096)) (column b 6 (g % 4096)) (column b 7 (g % 4096)) → x ≡ point_by m g
point_there m g is e = e ∙ ap (λ (l : List ℕ). point_of (column l 5 (g % 4096)) (column l 6 (g % 4096)) (column l 7 (g % 4096))) is

pub meet_told : {m : List ℕ} (a : MeshAsked m) {g : ℕ} (h : ℕ) {n : ℕ} → Held m g → Held m n → n ≡ next_number m h
    → {x y : Point} → x ≡ point_by m g → y ≡ point_by m n → {r : Bool} → r ≡ same_point (patterns x) (patterns y) → r ≡ meet_test m g h
unfolding meet_test same_point
meet_told {m} a {g} h {n} hg hn en ex ey er =
    er ∙ (λ i. same_point (point_words a hg ex i) ((point_words a hn ey ∙ ap (words_of m) en) i))

pub points_told : (m : List ℕ) (x y : ℕ) {a b : Bool} → a ≡ meet_test m (x % 65536) (y % 65536) → b ≡ meet_test m (y % 65536) (x % 65536) → (a && b) ≡ point_pair m x y
unfolding point_pair
points_told m x y e f = λ i. e i && f i

-- KEYS
pub code_fits : (b : List ℕ) (p : ℕ) {k a : ℕ} → Short b → p < count b → k ≡ column b 3 p → is_critical_word k ≡ true → a ≡ column b 4 p → a < 281474976710656
code_fits b p {k} {a} s h e l f = subst (λ (x : ℕ). x < 281474976710656) (sym f) (s p h (ap is_critical_word (sym e) ∙ l))

-- a block that is a part of a mesh
module _ (m : List ℕ) (i : ℕ) {b : List ℕ} (is : b ≡ part m i) (a : MeshAsked m) (held : i < block_count m) where
  pub part_asked : (at n : ℕ) → at + 4096 ≤ n → (words_for (get_or b 2 0) ≤ length b) × (get_or b 2 0 ≤ room) × Short b × (i < 16) × (at + 4096 ≤ n)
  part_asked at n h = (
    within (ap length is ∙ part_length m i held) few_here,
    few_here,
    subst Short (sym is) (short a i held),
    small held (few a),
    h,
  )
    where
      few_here : get_or b 2 0 ≤ room
      few_here = subst (λ (x : List ℕ). get_or x 2 0 ≤ room) (sym is) (roomy a i held)

      within : {l k : ℕ} → l ≡ words → k ≤ room → words_for k ≤ l
      within e k = omega arith

      small : {n : ℕ} → i < n → n ≤ 16 → i < 16
      small u v = omega arith

  pub part_told : {at r : ℕ} {before after : List ℕ} → (r ≤ at + 4096) × PutAfter at (keys_of b i (get_or b 2 0)) before after r
      → (r ≤ at + 4096) × PutAfter at (keys_of (part m i) i (get_or (part m i) 2 0)) before after r
  part_told {at} {r} {before} {after} p = (p.0, subst (λ (x : List ℕ). PutAfter at (keys_of x i (get_or x 2 0)) before after r) is p.1)

-- THE NUMBER of the dart at place p of block i
pub number_sits : (i p : ℕ) → p < 4096 → Sits (i * 4096 + p) i p
number_sits i p h = record { in_block = omega arith; at_place = omega arith }

pub place_in : {m : List ℕ} → MeshAsked m → (i p : ℕ) → i < block_count m → p < count (part m i) → p < 4096
place_in a i p hi hp = go (roomy a i hi) hp
  where
    go : {k : ℕ} → k ≤ 4096 → p < k → p < 4096
    go u v = omega arith

pub number_held : (m : List ℕ) (i p : ℕ) → i < block_count m → p < 4096 → ((i * 4096 + p) / 4096 < block_count m) × (1 < 8)
number_held m i p h l = (subst (λ (x : ℕ). x < block_count m) (sym (number_sits i p l).in_block) h, omega arith)

pub next_told : {m : List ℕ} → MeshAsked m → (i p : ℕ) {x : ℕ} → i < block_count m → p < count (part m i) → x ≡ word m 1 (i * 4096 + p) → (x ≡ column (part m i) 1 p) × (x < 4096)
next_told {m} a i p hi hp e =
    let w = e ∙ word_at m 1 (number_sits i p (place_in a i p hi hp)) in
    (w, subst (λ (y : ℕ). y < 4096) (sym w) (place_in a i (column (part m i) 1 p) hi (next_lt (passed a i hi) p hp)))
