-- Records interleaved from the back, renumbered: which comes last, where each goes, the loop that puts them there, and the whole memory.
-- Assumes nothing.
use mathlib.Core.Path.{◌≡◌, refl, sym, ◌∙◌, ap}
use mathlib.Core.Bool.{Bool, true, false, false≢true}
use mathlib.Core.List.{List, [], ◌∷◌, ◌++◌, append_assoc}
use mathlib.Core.Logic.{◌⊎◌, inl, inr, ⊎_elim}
use Prim.Native.Nat.{ℕ, zero, suc, ◌+◌, ◌*◌, ◌-◌, ◌≤◌, ◌<◌}
use native.Mathlib.Omega.{arith}
use native.Mathlib.Nat.{eq-or-lt_of_le}
use lib.Dec.{ltb}
use lib.ListN.{length, get_or, set, take, drop, length-set, length-take, take-append-drop}
use lib.Seq.{get_or-set_same, get_or-set_other, get_or-take, drop_at, length-take-le, take-take, take-append-le}
use borrow.Author.Tests.{eq-eqb, ne_eqb, lt-ltb, le-ltb, ltb-true, ltb-false}
use Rattle.model.specs.Lists.{concat}
use Rattle.model.specs.Image.{column, is_sewn_word}
use Rattle.model.specs.Values.{room}
use Rattle.laws.specs.Order.{Ascending}
use Rattle.laws.proofs.Tests.{lt_or_ge, eq_or_ne}
use Rattle.laws.proofs.Maps.{tab_more}
use Rattle.laws.proofs.Lists.{concat_snoc}
use Rattle.memory.specs.Record.{record_in, put}
use Rattle.memory.specs.declared.record.Record.{Record}
use Rattle.memory.proofs.Records.{length_put}
use Rattle.place.specs.Renumber.{LinksBelow}
use Rattle.release.specs.LetGo.{moved_words}
use Rattle.release.specs.Asks.{Tabled, Bounded}
use Rattle.release.proofs.Removing.{length_moved, same_words}
use Rattle.join.specs.Interleave.{below, up, Between, last_old, behind, interleave, moved_record, rows, interleaved_at, Interleaves}

-- COUNTS
pub below_is : (f : ℕ → ℕ) (k v j : ℕ) → j ≤ k → ((y : ℕ) → y < j → f y < v) → ((y : ℕ) → j ≤ y → y < k → v ≤ f y) → below f k v ≡ j
unfolding below
below_is f zero v j l a b = omega arith
below_is f (suc k) v j l a b = ⊎_elim
    (λ h. rw (lt-ltb (f k) v (a k h)) (ap suc (below_is f k v k (omega arith) (λ y u. a y (omega arith)) (λ y u w. absurd (omega arith))) ∙ omega arith))
    (λ h. rw (le-ltb (f k) v (b k h (omega arith))) (below_is f k v j h a (λ y u w. b y u (omega arith))))
    (lt_or_ge k j)

-- WHICH COMES LAST: as the code asks
module _ (s f : ℕ → ℕ) (i j : ℕ) where
  pub last_end : j ≡ 0 → true ≡ last_old s f i j
  unfolding last_old
  last_end e = rw (eq-eqb j 0 e) refl

  pub last_none : (j ≡ 0 → ⊥) → i ≡ 0 → false ≡ last_old s f i j
  unfolding last_old
  last_none h e = rw (ne_eqb j 0 h, eq-eqb i 0 e) refl

  pub last_both : (j ≡ 0 → ⊥) → (i ≡ 0 → ⊥) → {x y : ℕ} → x ≡ f (j - 1) → y ≡ s (i - 1) → ltb x y ≡ last_old s f i j
  unfolding last_old
  last_both h e p q = rw (ne_eqb j 0 h, ne_eqb i 0 e, p, q) refl

positive : (x : ℕ) → (x ≡ 0 → ⊥) → 0 < x
positive x h = ⊎_elim (λ q. q) (λ q. absurd (h (omega arith))) (lt_or_ge 0 x)

at_most : {n : ℕ} {s : ℕ → ℕ} → Ascending n s → (x y : ℕ) → x ≤ y → y < n → s x ≤ s y
at_most {n} {s} a x y h l = ⊎_elim (λ q. omega (arith, ap s q)) (λ q. omega (arith, a x y q l)) (eq-or-lt_of_le h)

-- and what the answer tells
module _ {s : ℕ → ℕ} {n : ℕ} {f : ℕ → ℕ} {k : ℕ} (w : Between s n f k) {i j : ℕ} (il : i ≤ n) (jl : j ≤ k) where
  pub last_yes : 0 < i + j → last_old s f i j ≡ true → (0 < i) × ((y : ℕ) → y < j → f y < s (i - 1))
  unfolding last_old
  last_yes more e = ⊎_elim
      (λ z. (omega arith, λ y l. absurd (omega arith)))
      (λ z. ⊎_elim
      (λ o. absurd (false≢true (rw (ne_eqb j 0 z, eq-eqb i 0 o) at e)))
      (λ o. let t : ltb (f (j - 1)) (s (i - 1)) ≡ true = rw (ne_eqb j 0 z, ne_eqb i 0 o) at e in
      (positive i o, λ y l. omega (arith, ltb-true (f (j - 1)) (s (i - 1)) t, at_most w.f_up y (j - 1) (omega arith) (omega arith))))
      (eq_or_ne i 0))
      (eq_or_ne j 0)

  pub last_no : last_old s f i j ≡ false → (0 < j) × ((x : ℕ) → x < i → s x < f (j - 1))
  unfolding last_old
  last_no e = ⊎_elim
      (λ z. absurd (false≢true (sym (rw (eq-eqb j 0 z) at e))))
      (λ z. (
        positive j z,
        λ x l. let t : ltb (f (j - 1)) (s (i - 1)) ≡ false = rw (ne_eqb j 0 z, ne_eqb i 0 (λ o. omega arith)) at e in
            strict x (j - 1) (omega arith) (omega (arith, positive j z)) (omega (arith, ltb-false (f (j - 1)) (s (i - 1)) t, at_most w.s_up x (i - 1) (omega arith) (omega arith))),
      ))
      (eq_or_ne j 0)
    where
      strict : (x y : ℕ) → x < n → y < k → s x ≤ f y → s x < f y
      strict x y a b l = ⊎_elim (λ q. q) (λ q. absurd (w.differ x y a b (omega arith))) (lt_or_ge (s x) (f y))

-- WHERE EACH GOES: from place i of s and place j of f on
pub record Placing (s : ℕ → ℕ) (n : ℕ) (f : ℕ → ℕ) (k : ℕ) (old new : List ℕ) (i j : ℕ) : Type 0 where
  pub i_le : i ≤ n
  pub j_le : j ≤ k
  pub old_size : n ≤ length old
  pub new_size : k ≤ length new
  pub low : (x y : ℕ) → x < i → j ≤ y → y < k → s x < f y
  pub high : (x y : ℕ) → i ≤ x → x < n → y < j → f y < s x
  pub olds : (x : ℕ) → i ≤ x → x < n → get_or old x 0 ≡ up s f k x
  pub news : (y : ℕ) → j ≤ y → y < k → get_or new y 0 ≡ up f s n y

pub placing_start : {s : ℕ → ℕ} {n : ℕ} {f : ℕ → ℕ} {k : ℕ} {old new : List ℕ} → n ≤ length old → k ≤ length new → Placing s n f k old new n k
placing_start a b =
    record {
      i_le = omega arith;
      j_le = omega arith;
      old_size = a;
      new_size = b;
      low = λ x y l g u. absurd (omega arith);
      high = λ x y g u l. absurd (omega arith);
      olds = λ x g u. absurd (omega arith);
      news = λ y g u. absurd (omega arith);
    }

-- from one place earlier on
earlier : (i x : ℕ) → 0 < i → i - 1 ≤ x → (x ≡ i - 1) ⊎ (i ≤ x)
earlier i x p h = ⊎_elim (λ q. inl (omega arith)) (λ q. inr q) (lt_or_ge x i)

module _ {s : ℕ → ℕ} {n : ℕ} {f : ℕ → ℕ} {k : ℕ} (w : Between s n f k) (fits : n + k ≤ room) {old new : List ℕ} {i j : ℕ} (v : Placing s n f k old new i j) (more : 0 < i + j) where
  pub place_old : last_old s f i j ≡ true → Placing s n f k (set old (i - 1) (i + j - 1)) new (i - 1) j
  place_old e =
      let t = last_yes w v.i_le v.j_le more e in
      let size : i - 1 < length old = omega (arith, t.0, v.i_le, v.old_size) in
      let here : i + j - 1 ≡ up s f k (i - 1) = omega (arith, t.0, below_is f k (s (i - 1)) j v.j_le t.1 (λ y a b. omega (arith, v.low (i - 1) y (omega (arith, t.0)) a b))) in
      record {
        i_le = omega (arith, v.i_le);
        j_le = v.j_le;
        old_size = simp length-set v.old_size;
        new_size = v.new_size;
        low = λ x y l g u. v.low x y (omega arith) g u;
        high = λ x y g u l. ⊎_elim (λ q. rw q (t.1 y l)) (λ q. v.high x y q u l) (earlier i x t.0 g);
        olds =
            λ x g u. ⊎_elim (λ q. rw q (get_or-set_same old (i - 1) (i + j - 1) 0 size ∙ here))
            (λ q. get_or-set_other old (i - 1) x (i + j - 1) 0 (λ r. omega (arith, t.0)) ∙ v.olds x q u) (earlier i x t.0 g);
        news = v.news;
      }

  pub place_new : last_old s f i j ≡ false → Placing s n f k old (set new (j - 1) (i + j - 1)) i (j - 1)
  place_new e =
      let t = last_no w v.i_le v.j_le e in
      let size : j - 1 < length new = omega (arith, t.0, v.j_le, v.new_size) in
      let here : i + j - 1 ≡ up f s n (j - 1) = omega (arith, t.0, below_is s n (f (j - 1)) i v.i_le t.1 (λ x a b. omega (arith, v.high x (j - 1) a b (omega (arith, t.0))))) in
      record {
        i_le = v.i_le;
        j_le = omega (arith, v.j_le);
        old_size = v.old_size;
        new_size = simp length-set v.new_size;
        low = λ x y l g u. ⊎_elim (λ q. rw q (t.1 x l)) (λ q. v.low x y l q u) (earlier j y t.0 g);
        high = λ x y g u l. v.high x y g u (omega arith);
        olds = v.olds;
        news =
            λ y g u. ⊎_elim (λ q. rw q (get_or-set_same new (j - 1) (i + j - 1) 0 size ∙ here))
            (λ q. get_or-set_other new (j - 1) y (i + j - 1) 0 (λ r. omega (arith, t.0)) ∙ v.news y q u) (earlier j y t.0 g);
      }

pub placing_end : {s : ℕ → ℕ} {n : ℕ} {f : ℕ → ℕ} {k : ℕ} {old new : List ℕ} {i j : ℕ} → Placing s n f k old new i j → i + j ≤ 0
    → Tabled (up s f k) n old × Tabled (up f s n) k new
placing_end v h = (λ x l. v.olds x (omega arith) l, λ y l. v.news y (omega arith) l)

-- ONE RECORD MORE in a interleave
module _ {A : Type 0} (s f : ℕ → ℕ) (g h : ℕ → A) where
  pub interleave_old : (p j : ℕ) → ((y : ℕ) → y < j → f y < s p) → interleave s f g h (suc p) j ≡ interleave s f g h p j ++ g p ∷ []
  unfolding interleave behind
  interleave_old p zero a = sym (tab_more g p)
  interleave_old p (suc q) a = rw (lt-ltb (f q) (s p) (a q (omega arith))) refl

  pub interleave_new : (i q : ℕ) → ((x : ℕ) → x < i → s x < f q) → interleave s f g h i (suc q) ≡ interleave s f g h i q ++ h q ∷ []
  unfolding interleave behind
  interleave_new zero q a = refl
  interleave_new (suc p) q a = let l = a p (omega arith) in rw (le-ltb (f q) (s p) (omega arith)) refl

-- A RECORD STORED at place t
module _ (x r : List ℕ) (t : ℕ) (fits : 16 + t * 8 ≤ length x) where
  drop_put : drop (8 + t * 8) (put x t r) ≡ r ++ drop (16 + t * 8) x
  drop_put = drop_at (take (8 + t * 8) x) _ (8 + t * 8) (length-take-le _ x (omega arith))

  take_put : (i : ℕ) → i ≤ t → take (8 + i * 8) (put x t r) ≡ take (8 + i * 8) x
  take_put i l = take-append-le (8 + i * 8) (take (8 + t * 8) x) _ (simp length-take (omega arith)) ∙ take-take (8 + i * 8) (8 + t * 8) x (omega arith)

-- THE LOOP: i and j records are left to interleave; what they make, and what stands behind them in x, is the whole
pub record Interleaving (m c : List ℕ) (n k : ℕ) (x : List ℕ) (i j : ℕ) : Type 0 where
  pub i_le : i ≤ n
  pub j_le : j ≤ k
  pub size : length x ≡ length m
  pub front : take (8 + i * 8) x ≡ take (8 + i * 8) m
  pub done : concat (rows m n c k i j) ++ drop (8 + (i + j) * 8) x ≡ concat (rows m n c k n k) ++ drop (8 + (n + k) * 8) m

pub interleaving_start : (m c : List ℕ) (n k : ℕ) → Interleaving m c n k m n k
interleaving_start m c n k = record { i_le = omega arith; j_le = omega arith; size = refl; front = refl; done = refl }

-- a word of a record that is left
pub front_column : (x m : List ℕ) (i p f : ℕ) → take (8 + i * 8) x ≡ take (8 + i * 8) m → p < i → f < 8 → column x f p ≡ column m f p
front_column x m i p f e h l = sym (get_or-take (8 + i * 8) x (8 + p * 8 + f) 0 (omega arith)) ∙ ap (λ (z : List ℕ). get_or z (8 + p * 8 + f) 0) e ∙ get_or-take (8 + i * 8) m (8 + p * 8 + f) 0 (omega arith)

front_words : (t : ℕ → ℕ) (x m : List ℕ) (i p : ℕ) → take (8 + i * 8) x ≡ take (8 + i * 8) m → p < i → moved_words t x p ≡ moved_words t m p
unfolding moved_words
front_words t x m i p e h =
    let at : (f : ℕ) → f < 8 → column x f p ≡ column m f p = λ f l. front_column x m i p f e h l in
    rw (at 0 (omega arith), at 1 (omega arith), at 2 (omega arith), at 3 (omega arith), at 4 (omega arith), at 5 (omega arith), at 6 (omega arith), at 7 (omega arith))

front_last : (x m : List ℕ) (f : ℕ → ℕ) (i j : ℕ) → take (8 + i * 8) x ≡ take (8 + i * 8) m → last_old (column x 0) f i j ≡ last_old (column m 0) f i j
unfolding last_old
front_last x m f i j e = ⊎_elim (λ z. rw (eq-eqb i 0 z) refl) (λ z. rw (front_column x m i (i - 1) 0 e (omega (arith, positive i z)) (omega arith)) refl) (eq_or_ne i 0)

-- the record that the code stores
moved_read : (t : ℕ → ℕ) (x : List ℕ) (p : ℕ) {r : Record} → r ≡ record_in x p → moved_record t r ≡ moved_words t x p
unfolding moved_words
moved_read t x p e = rw e

pub by_table : (m table : List ℕ) (t : ℕ → ℕ) (n p : ℕ) → Bounded m n → Tabled t n table → p < n → moved_words (λ q. get_or table q 0) m p ≡ moved_words t m p
by_table m table t n p b a l = same_words (λ q. get_or table q 0) t m p (a _ (b.next_lt p l)) (a _ (b.opposite_lt p l)) (λ e. a _ (b.sewn_lt p l e))

-- what it asks of a record before it stores it
record_fits : (m : List ℕ) (n p size : ℕ) {r : Record} → Bounded m n → p < n → n ≤ size → r ≡ record_in m p → LinksBelow size r
record_fits m n p size b l h e =
    rw e (record { next_lt = omega (arith, b.next_lt p l, h); opposite_lt = omega (arith, b.opposite_lt p l, h); sewn_lt = λ q. omega (arith, b.sewn_lt p l q, h) })

-- one turn
module _ {m c : List ℕ} {n k : ℕ} (a : Interleaves m c n k) {x : List ℕ} {i j : ℕ} (w : Interleaving m c n k x i j) (more : 0 < i + j) {b : Bool} (told : b ≡ last_old (column x 0) (column c 0) i j) where
  is_last : b ≡ last_old (column m 0) (column c 0) i j
  is_last = told ∙ front_last x m (column c 0) i j w.front

  pub old_left : b ≡ true → 0 < i
  old_left e = (last_yes a.keys w.i_le w.j_le more (sym is_last ∙ e)).0

  pub new_left : b ≡ false → 0 < j
  new_left e = (last_no a.keys w.i_le w.j_le (sym is_last ∙ e)).0

  step : (r : List ℕ) (i' j' : ℕ) → rows m n c k i j ≡ rows m n c k i' j' ++ r ∷ [] → length r ≡ 8 → i + j ≡ i' + j' + 1 → i' ≤ i → j' ≤ j → Interleaving m c n k (put x (i + j - 1) r) i' j'
  step r i' j' e l f il jl = record {
    i_le = omega (arith, w.i_le);
    j_le = omega (arith, w.j_le);
    size = length_put x r (i + j - 1) enough l ∙ w.size;
    front = take_put x r (i + j - 1) enough i' (omega arith) ∙ shorter;
    done = stored (i + j - 1) (omega arith) enough;
  }
    where
      enough : 16 + (i + j - 1) * 8 ≤ length x
      enough = omega (arith, w.i_le, w.j_le, w.size, a.holds)

      shorter : take (8 + i' * 8) x ≡ take (8 + i' * 8) m
      shorter = sym (take-take (8 + i' * 8) (8 + i * 8) x (omega arith)) ∙ ap (take (8 + i' * 8)) w.front ∙ take-take (8 + i' * 8) (8 + i * 8) m (omega arith)

      stored : (t : ℕ) → t ≡ i' + j' → 16 + t * 8 ≤ length x → concat (rows m n c k i' j') ++ drop (8 + (i' + j') * 8) (put x t r) ≡ concat (rows m n c k n k) ++ drop (8 + (n + k) * 8) m
      stored t q room =
          let z : 16 + t * 8 ≡ 8 + (i + j) * 8 = omega arith in
          ap (λ (y : ℕ). concat (rows m n c k i' j') ++ drop (8 + y * 8) (put x t r)) (sym q)
          ∙ ap (λ (y : List ℕ). concat (rows m n c k i' j') ++ y) (drop_put x r t room)
          ∙ sym (append_assoc (concat (rows m n c k i' j')) r (drop (16 + t * 8) x))
          ∙ ap (λ (y : List ℕ). y ++ drop (16 + t * 8) x) (sym (concat_snoc (rows m n c k i' j') r) ∙ ap concat (sym e))
          ∙ ap (λ (y : ℕ). concat (rows m n c k i j) ++ drop y x) z
          ∙ w.done

  module _ (e : b ≡ true) {r : Record} (read : r ≡ record_in x (i - 1)) where
    old_lt : i - 1 < n
    old_lt = omega (arith, old_left e, w.i_le)

    pub old_fits : (size : ℕ) → n ≤ size → LinksBelow size r
    old_fits size h =
        let l : i - 1 < i = omega (arith, old_left e) in
        let at : (f : ℕ) → f < 8 → column x f (i - 1) ≡ column m f (i - 1) = λ f g. front_column x m i (i - 1) f w.front l g in
        rw read (record {
          next_lt = omega (arith, at 1 (omega arith), a.block.next_lt (i - 1) old_lt, h);
          opposite_lt = omega (arith, at 2 (omega arith), a.block.opposite_lt (i - 1) old_lt, h);
          sewn_lt = λ q. omega (arith, at 4 (omega arith), a.block.sewn_lt (i - 1) old_lt (ap is_sewn_word (sym (at 3 (omega arith))) ∙ q), h);
        })

    pub old_turn : (old : List ℕ) → Tabled (up (column m 0) (column c 0) k) n old → {y : List ℕ} → y ≡ put x (i + j - 1) (moved_record (λ p. get_or old p 0) r) → Interleaving m c n k y (i - 1) j
    old_turn old t q =
        let last = last_yes a.keys w.i_le w.j_le more (sym is_last ∙ e) in
        let u : ℕ → ℕ = up (column m 0) (column c 0) k in
        let is : moved_record (λ p. get_or old p 0) r ≡ moved_words u m (i - 1) =
        moved_read (λ p. get_or old p 0) x (i - 1) read
        ∙ front_words (λ p. get_or old p 0) x m i (i - 1) w.front (omega (arith, last.0))
        ∙ by_table m old u n (i - 1) a.block t old_lt
        in
        let z : i ≡ suc (i - 1) = omega (arith, last.0) in
        rw (q ∙ ap (put x (i + j - 1)) is) (step (moved_words u m (i - 1)) (i - 1) j
        (ap (λ (y : ℕ). rows m n c k y j) z ∙ interleave_old (column m 0) (column c 0) (moved_words u m) (moved_words (up (column c 0) (column m 0) n) c) (i - 1) j last.1)
        (length_moved u m (i - 1)) (omega (arith, last.0)) (omega arith) (omega arith))

  module _ (e : b ≡ false) {r : Record} (read : r ≡ record_in c (j - 1)) where
    new_lt : j - 1 < k
    new_lt = omega (arith, new_left e, w.j_le)

    pub new_fits : (size : ℕ) → k ≤ size → LinksBelow size r
    new_fits size h = record_fits c k (j - 1) size a.draft new_lt h read

    pub new_turn : (new : List ℕ) → Tabled (up (column c 0) (column m 0) n) k new → {y : List ℕ} → y ≡ put x (i + j - 1) (moved_record (λ p. get_or new p 0) r) → Interleaving m c n k y i (j - 1)
    new_turn new t q =
        let last = last_no a.keys w.i_le w.j_le (sym is_last ∙ e) in
        let u : ℕ → ℕ = up (column c 0) (column m 0) n in
        let is : moved_record (λ p. get_or new p 0) r ≡ moved_words u c (j - 1) = moved_read (λ p. get_or new p 0) c (j - 1) read ∙ by_table c new u k (j - 1) a.draft t new_lt in
        let z : j ≡ suc (j - 1) = omega (arith, last.0) in
        rw (q ∙ ap (put x (i + j - 1)) is) (step (moved_words u c (j - 1)) i (j - 1)
        (ap (λ (y : ℕ). rows m n c k i y) z ∙ interleave_new (column m 0) (column c 0) (moved_words (up (column m 0) (column c 0) k) m) (moved_words u c) i (j - 1) last.1)
        (length_moved u c (j - 1)) (omega (arith, last.0)) (omega arith) (omega arith))

pub interleaving_end : {m c : List ℕ} {n k : ℕ} {x : List ℕ} {i j : ℕ} → Interleaving m c n k x i j → i + j ≤ 0 → x ≡ take 8 m ++ (concat (rows m n c k n k) ++ drop (8 + (n + k) * 8) m)
unfolding concat interleave
interleaving_end {m} {c} {n} {k} {x} {i} {j} w h =
    let i0 : i ≡ 0 = omega arith in
    let j0 : j ≡ 0 = omega arith in
    let d : drop 8 x ≡ concat (rows m n c k n k) ++ drop (8 + (n + k) * 8) m = rw (i0, j0) at w.done in
    let a : take 8 x ≡ take 8 m = rw i0 at w.front in
    sym (take-append-drop 8 x) ∙ ap (λ (l : List ℕ). l ++ drop 8 x) a ∙ ap (λ (l : List ℕ). take 8 m ++ l) d

-- THE WHOLE MEMORY AFTERWARDS
pub all_interleaved : (m c : List ℕ) (n k : ℕ) {y z : List ℕ} → 8 ≤ length m → y ≡ take 8 m ++ (concat (rows m n c k n k) ++ drop (8 + (n + k) * 8) m)
    → z ≡ (get_or m 0 0 ∷ get_or m 1 0 ∷ (n + k) ∷ 0 ∷ 0 ∷ 0 ∷ 0 ∷ 0 ∷ []) ++ drop 8 y → z ≡ interleaved_at m n c k
unfolding interleaved_at
all_interleaved m c n k size e f = f ∙ ap (λ (l : List ℕ). (get_or m 0 0 ∷ get_or m 1 0 ∷ (n + k) ∷ 0 ∷ 0 ∷ 0 ∷ 0 ∷ 0 ∷ []) ++ l)
    (ap (drop 8) e ∙ drop_at (take 8 m) (concat (rows m n c k n k) ++ drop (8 + (n + k) * 8) m) 8 (length-take-le 8 m (omega arith)))
