-- The tests of one dart, as the code puts them: where one says no, and where all have said yes. Assumes nothing.
use mathlib.Core.Path.{◌≡◌, refl, sym, ap, ◌∙◌}
use mathlib.Core.Bool.{Bool, true, false, not, ◌&&◌, ◌||◌}
use mathlib.Core.List.{List}
use Prim.Native.Nat.{ℕ, ◌<◌}
use lib.Dec.{ltb, eqb}
use borrow.Author.Tests.{eqb-true, eq-eqb, ne_eqb, ltb-true}
use Rattle.model.specs.Values.{same_point}
use Rattle.model.specs.Image.{column, is_sewn_word, is_critical_word}
use Rattle.laws.proofs.Tests.{and_left, and_right}
use Rattle.memory.specs.declared.point.Point.{Point}
use Rattle.memory.specs.Point.{point_of, patterns, FiniteAt}
use Rattle.memory.proofs.Points.{point_patterns, finite_at}
use Rattle.columns.specs.Columns.{Places, Darts, critical_test, kind_test, link_test, sewn_test, third_test, same_at, point_test, far_test}
use Rattle.columns.proofs.OneDart.{DartRight, dart_says}

-- a test in a row of tests
pub and_stop : {a : Bool} (b : Bool) → a ≡ false → false ≡ (a && b)
and_stop b e = rw e refl

pub and_go : {a b r : Bool} → a ≡ true → r ≡ b → r ≡ (a && b)
and_go e f = rw e f

pub both_lt : {a b x y : ℕ} (n : ℕ) → a ≡ x → b ≡ y → (ltb a n && ltb b n) ≡ true → (a < n) × (b < n)
both_lt {a} {b} n _ _ e = (ltb-true a n (and_left (ltb a n) (ltb b n) e), ltb-true b n (and_right (ltb a n) (ltb b n) e))

module _ (m : List ℕ) (n p : ℕ) where
  -- 5
  module _ {a b : ℕ} (ea : a ≡ column m 1 p) (eb : b ≡ column m 2 p) where
    pub link_stop : (ltb a n && ltb b n) ≡ false → false ≡ link_test m n p
    unfolding link_test
    link_stop e = and_stop _ (rw (ea, eb) at e)

    pub link_go : (ltb a n && ltb b n) ≡ true → {c : ℕ} → c ≡ column m 2 b → (not (eqb b p) && eqb c p) ≡ link_test m n p
    unfolding link_test
    link_go e ec = and_go (rw (ea, eb) at e) (rw (ec, eb) refl)

  -- 6
  module _ {a k j : ℕ} (ea : a ≡ column m 1 p) (ek : k ≡ column m 3 p) (ej : j ≡ column m 3 a) where
    same_kind : j ≡ k → column m 3 (column m 1 p) ≡ column m 3 p
    same_kind e = sym (ap (column m 3) ea) ∙ sym ej ∙ e ∙ ek

    pub kind_stop : (j ≡ k → ⊥) → false ≡ third_test m n p
    unfolding third_test
    kind_stop h = and_stop _ (ne_eqb _ _ (λ e. h (ej ∙ ap (column m 3) ea ∙ e ∙ sym ek)))

    pub not_sewn : j ≡ k → is_sewn_word k ≡ false → true ≡ third_test m n p
    unfolding third_test
    not_sewn e h = and_go (eq-eqb _ _ (same_kind e)) (rw (ap is_sewn_word (sym ek) ∙ h) refl)

    module _ (e : j ≡ k) (s : is_sewn_word k ≡ true) {l z : ℕ} (el : l ≡ column m 4 p) (ez : z ≡ column m 4 a) where
      pub sewn_stop : (ltb l n && ltb z n) ≡ false → false ≡ third_test m n p
      unfolding third_test
      sewn_stop h = and_go (eq-eqb _ _ (same_kind e)) (rw (ap is_sewn_word (sym ek) ∙ s) (and_stop _ (rw (ez, el, ea) at h)))

      pub sewn_go : (ltb l n && ltb z n) ≡ true → {r : Bool} → r ≡ sewn_test m p l z → r ≡ third_test m n p
      unfolding third_test
      sewn_go h er = and_go (eq-eqb _ _ (same_kind e)) (rw (ap is_sewn_word (sym ek) ∙ s) (and_go (rw (ez, el, ea) at h) (er ∙ rw (ez, el, ea) refl)))

  -- 8
  module _ {b v : ℕ} {s : Bool} (eb : b ≡ column m 2 p) (ev : v ≡ column m 1 b) (es : s ≡ same_at m p v) where
    same_is : s ≡ same_at m p (column m 1 (column m 2 p))
    same_is = es ∙ rw (ev, eb) refl

    pub point_stop : s ≡ false → false ≡ point_test m p
    unfolding point_test
    point_stop e = and_stop _ (sym same_is ∙ e)

    pub point_only : s ≡ true → {k : ℕ} → k ≡ column m 3 p → is_sewn_word k ≡ false → true ≡ point_test m p
    unfolding point_test
    point_only e ek h = and_go (sym same_is ∙ e) (rw (ap is_sewn_word (sym ek) ∙ h) refl)

    pub point_go : s ≡ true → {k : ℕ} → k ≡ column m 3 p → is_sewn_word k ≡ true → {l w : ℕ} {r : Bool} → l ≡ column m 4 p → w ≡ column m 1 l → r ≡ same_at m p w → r ≡ point_test m p
    unfolding point_test
    point_go e ek k1 el ew er = and_go (sym same_is ∙ e) (rw (ap is_sewn_word (sym ek) ∙ k1) (er ∙ rw (ew, el) refl))

  -- 2, with the darts that it links to
  module _ {a b k c j v : ℕ} {s : Bool} (ea : a ≡ column m 1 p) (eb : b ≡ column m 2 p) (ek : k ≡ column m 3 p)
      (ec : c ≡ column m 2 b) (ej : j ≡ column m 3 a) (ev : v ≡ column m 1 b) (es : s ≡ same_at m p v) where
    near_is : (eqb c p && eqb j k && s) ≡ (eqb (column m 2 (column m 2 p)) p && eqb (column m 3 (column m 1 p)) (column m 3 p) && same_at m p (column m 1 (column m 2 p)))
    near_is = rw (es, ev, ec, ej, ek, ea, eb) refl

    pub far_stop : (eqb c p && eqb j k && s) ≡ false → false ≡ far_test m p
    unfolding far_test
    far_stop e = and_stop _ (sym near_is ∙ e)

    module _ (yes : (eqb c p && eqb j k && s) ≡ true) where
      pub far_kind : j ≡ k
      far_kind = eqb-true j k (and_right (eqb c p) (eqb j k) (and_left (eqb c p && eqb j k) s yes))

      pub far_only : is_sewn_word k ≡ false → true ≡ far_test m p
      unfolding far_test
      far_only h = and_go (sym near_is ∙ yes) (rw (ap is_sewn_word (sym ek) ∙ h) refl)

      pub far_go : is_sewn_word k ≡ true → {l z w : ℕ} {t u : Bool} → l ≡ column m 4 p → z ≡ column m 4 a → w ≡ column m 1 l → t ≡ sewn_test m p l z → u ≡ same_at m p w → (t && u) ≡ far_test m p
      unfolding far_test
      far_go k1 el ez ew et eu = and_go (sym near_is ∙ yes) (rw (ap is_sewn_word (sym ek) ∙ k1) (rw (et, eu, ew, ez, el, ea) refl))

-- the points of three words each
pub same_go : (m : List ℕ) (p v : ℕ) → FiniteAt m p → FiniteAt m v → {a b : Point} {r : Bool}
    → a ≡ point_of (column m 5 p) (column m 6 p) (column m 7 p) → b ≡ point_of (column m 5 v) (column m 6 v) (column m 7 v)
    → r ≡ same_point (patterns a) (patterns b) → r ≡ same_at m p v
same_go m p v fp fv ea eb er =
    er
    ∙ rw (
      ea,
      eb,
      point_patterns (column m 5 p) (column m 6 p) (column m 7 p) fp.on_x fp.on_y fp.on_z,
      point_patterns (column m 5 v) (column m 6 v) (column m 7 v) fv.on_x fv.on_y fv.on_z,
    ) refl

-- 2, by itself: kind words
pub near_go : (me counter n k a : ℕ) {r : Bool} → r ≡ is_critical_word k → r ≡ false → ((eqb k 0 && eqb a 0) || (eqb k 1 && ltb a n)) ≡ kind_test me counter n k a
unfolding kind_test
near_go me counter n k a er e = rw (sym er ∙ e) refl

pub critical_go : (me counter n k a : ℕ) {b : Bool} → b ≡ is_critical_word k → b ≡ true → {r : Bool} → r ≡ critical_test me counter k a → r ≡ kind_test me counter n k a
unfolding kind_test
critical_go me counter n k a eb e er = rw (sym eb ∙ e) er

-- what the first pass leaves to the second
module _ (m : List ℕ) (n : ℕ) (d : Darts m n) where
  right : (p : ℕ) → p < n → DartRight m n p
  right p h = dart_says m n p (d.each p h)

  pub next_lt : {p a : ℕ} → p < n → a ≡ column m 1 p → a < n
  next_lt {p} h e = rw e (right p h).next_lt

  pub opposite_lt : {p b : ℕ} → p < n → b ≡ column m 2 p → b < n
  opposite_lt {p} h e = rw e (right p h).opposite_lt

  pub sewn_lt : {p k l : ℕ} → p < n → k ≡ column m 3 p → is_sewn_word k ≡ true → l ≡ column m 4 p → l < n
  sewn_lt {p} h ek k1 e = rw e ((right p h).words_right.sewn_lt (ap is_sewn_word (sym ek) ∙ k1))

  pub finite_here : {p : ℕ} → p < n → FiniteAt m p
  finite_here {p} h = finite_at m p (right p h).finite_point

-- what the questions before leave to 8
module _ (m : List ℕ) (n : ℕ) (g : Places m n) where
  pub next_place : {p a : ℕ} → p < n → a ≡ column m 1 p → a < n
  next_place {p} h e = rw e (g.next_lt p h)

  pub opposite_place : {p b : ℕ} → p < n → b ≡ column m 2 p → b < n
  opposite_place {p} h e = rw e (g.opposite_lt p h)
