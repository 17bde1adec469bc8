-- The labels of an update: a label names a face where the model says so, and the darts on named faces. Assumes nothing.
use mathlib.Core.Path.{◌≡◌, refl, sym, ◌∙◌, ap}
use mathlib.Core.Bool.{Bool, true, false, true≢false, ◌&&◌}
use mathlib.Core.List.{List, map}
use mathlib.Core.Option.{none, some}
use Prim.Native.Nat.{ℕ, zero, suc, ◌+◌, ◌*◌, ◌<◌}
use native.Mathlib.Omega.{arith}
use lib.Dec.{eqb}
use borrow.Author.Tests.{eqb-true, eqb-false, eq-eqb}
use Rattle.model.specs.Lists.{mem, find, tab}
use Rattle.model.specs.Values.{Label, Dart, no_dart, or_no_dart, code, label_key, is_critical_with}
use Rattle.model.specs.Cells.{cycle, next_in, least_label, labelled}
use Rattle.model.specs.Image.{count_in, column, is_critical_word, third_in, dart_in}
use Rattle.model.specs.Arrival.{face_with, names_face}
use Rattle.laws.proofs.Tests.{by_cases, and_intro, and_left, and_right, same_truth, both_are}
use Rattle.laws.proofs.Members.{In, in_eq}
use Rattle.laws.proofs.Tables.{tab_any, any_tab}
use Rattle.laws.proofs.Labels.{code_in}
use Rattle.columns.specs.Columns.{Kind, kind_free, kind_sewn, kind_critical}
use Rattle.columns.proofs.Thirds.{critical_two, with_critical, third_free, third_sewn, third_critical}
use Rattle.columns.proofs.Question.{Passed}
use Rattle.cells.proofs.Serials.{mem_map, serials_apart}
use Rattle.cells.proofs.FaceSerials.{cycle_carried}
use Rattle.cells.proofs.Sited.{Sited, darts_in}
use Rattle.departure.specs.ByPlaces.{critical_with}
use Rattle.departure.proofs.LeavingFaces.{labels_apart, critical_is}
use Rattle.redirect.specs.ByPlaces.{face_code, names_at}
use Rattle.redirect.proofs.Faces.{stays_in, sym_in, code_there, one_code, one_kind, least_is}

-- A ROW OF A TABLE by its key: the first that has it, or none has
data Row {A : Type 0} (key : A → ℕ) (f : ℕ → A) (n x : ℕ) : Type 0 where
  row_at : (p : ℕ) → p < n → key (f p) ≡ x → find key x (tab f n) ≡ some (f p) → Row key f n x
  row_none : ((p : ℕ) → p < n → key (f p) ≡ x → ⊥) → find key x (tab f n) ≡ none → Row key f n x

find_row : {A : Type 0} (key : A → ℕ) (f : ℕ → A) (n x : ℕ) → Row key f n x
find_row key f zero x = row_none (λ p h e. absurd (omega arith)) refl
find_row {A} key f (suc n) x = by_cases (eqb x (key (f 0)))
    (λ e. row_at 0 (omega arith) (sym (eqb-true x (key (f 0)) e)) (rw e refl))
    (λ e. go e (find_row key (λ k. f (suc k)) n x))
  where
    go : eqb x (key (f 0)) ≡ false → Row key (λ k. f (suc k)) n x → Row key f (suc n) x
    go e (row_at p h k w) = row_at (suc p) (omega arith) k (rw e w)
    go e (row_none h w) = row_none (λ p. later p) (rw e w)
      where
        later : (p : ℕ) → p < suc n → key (f p) ≡ x → ⊥
        later zero k q = eqb-false x (key (f 0)) e (sym q)
        later (suc p) k q = h p (omega arith) q

-- the key of a third link, from its words
key_far : (s : ℕ → ℕ) (k a : ℕ) → Kind k a → is_critical_word k ≡ true → label_key (third_in s k a) ≡ suc a
key_far s k a (kind_free e f) h = absurd (omega (arith, critical_two k h))
key_far s k a (kind_sewn e) h = absurd (omega (arith, critical_two k h))
key_far s k a (kind_critical e f g) h = rw (third_critical s k a e, code_in a)

key_says : (s : ℕ → ℕ) (k a c : ℕ) → Kind k a → label_key (third_in s k a) ≡ suc c → (is_critical_word k ≡ true) × (a ≡ c)
key_says s k a c (kind_free e f) h = let z : 0 ≡ suc c = rw (third_free s k a e) at h in absurd (omega arith)
key_says s k a c (kind_sewn e) h = let z : 0 ≡ suc c = rw (third_sewn s k a e) at h in absurd (omega arith)
key_says s k a c (kind_critical e f g) h = let z : suc a ≡ suc c = rw (third_critical s k a e, code_in a) at h in (e, omega arith)

-- a label that no dart has names no face
test_none : (ds : List Dart) (from : ℕ) (l : Label) → labelled l ds ≡ no_dart → names_face ds from l ≡ false
unfolding names_face no_dart
test_none ds from l e = rw e

module _ {m : List ℕ} (site : Sited m) (ok : Passed m) where
  -- THE DART WITH A LABEL, or none has it
  data Labelled (l : Label) : Type 0 where
    at_place : (y : ℕ) → y < count_in m → is_critical_word (column m 3 y) ≡ true → column m 4 y ≡ code l → labelled l (darts_in m) ≡ dart_in m y → Labelled l
    nowhere : ((q : ℕ) → q < count_in m → is_critical_word (column m 3 q) ≡ true → column m 4 q ≡ code l → ⊥) → labelled l (darts_in m) ≡ no_dart → Labelled l

  find_label : (l : Label) → Labelled l
  unfolding labelled
  find_label l = go (find_row (λ d. label_key d.third) (dart_in m) (count_in m) (suc (code l)))
    where
      go : Row (λ d. label_key d.third) (dart_in m) (count_in m) (suc (code l)) → Labelled l
      go (row_at y h k w) = let r = key_says (column m 0) (column m 3 y) (column m 4 y) (code l) (ok.range.kinds y h) k in at_place y h r.0 r.1 (ap or_no_dart w)
      go (row_none h w) = nowhere (λ q hq c e. h q hq (key_far (column m 0) (column m 3 q) (column m 4 q) (ok.range.kinds q hq) c ∙ ap suc e)) (ap or_no_dart w)

  -- where the face of a dart has the least label c, one of its darts has it
  module _ (from : ℕ) (l : Label) (q : ℕ) (h : q < count_in m) (t : (critical_with m from q && eqb (face_code m q) (code l)) ≡ true) where
    kind_q : column m 3 q ≡ 2 + 4 * from
    kind_q = eqb-true _ _ (and_left (critical_with m from q) _ t)

    code_q : face_code m q ≡ code l
    code_q = eqb-true _ _ (and_right (critical_with m from q) _ t)

    holder : (z : ℕ) × (z < count_in m) × In z (cycle (column m 1) q) × (is_critical_word (column m 3 z) ≡ true) × (column m 4 z ≡ code l)
    holder =
        let w = code_there site.linked q h in
        (w.0, stays_in site.linked q w.0 h w.1, w.1, with_critical (column m 3 w.0) from (one_kind site ok q w.0 h w.1 ∙ kind_q), sym w.2 ∙ code_q)

  -- THE MODEL'S TEST of a label
  module _ (from : ℕ) (l : Label) (y : ℕ) (h : y < count_in m) (c : is_critical_word (column m 3 y) ≡ true) (e : labelled l (darts_in m) ≡ dart_in m y) where
    pub test_at : names_face (darts_in m) from l ≡ (critical_with m from y && eqb (code l) (face_code m y))
    unfolding names_face face_with
    test_at = ap (λ (d : Dart). is_critical_with from d.third && eqb (code l) (least_label (darts_in m) (cycle (next_in (darts_in m)) d.serial))) e
        ∙ both_are (critical_is (column m 0) (column m 3 y) (column m 4 y) from (ok.range.kinds y h)) (ap (eqb (code l)) (least_is site ok y h c))

    pub face_at : face_with (darts_in m) l ≡ map (column m 0) (cycle (column m 1) y)
    unfolding face_with
    face_at = ap (λ (d : Dart). cycle (next_in (darts_in m)) d.serial) e ∙ sym (cycle_carried site y h)

  pub names_are : (from : ℕ) (l : Label) → names_face (darts_in m) from l ≡ names_at m from (code l)
  names_are from l = go (find_label l)
    where
      test : ℕ → Bool
      test q = critical_with m from q && eqb (face_code m q) (code l)

      go : Labelled l → names_face (darts_in m) from l ≡ names_at m from (code l)
      go (at_place y h c k e) = test_at from l y h c e ∙ same_truth (critical_with m from y && eqb (code l) (face_code m y)) (names_at m from (code l))
          (λ t. tab_any test (λ q. q) (count_in m) y h
          (and_intro (and_left (critical_with m from y) (eqb (code l) (face_code m y)) t)
          (eq-eqb (face_code m y) (code l)
          (sym (eqb-true (code l) (face_code m y) (and_right (critical_with m from y) (eqb (code l) (face_code m y)) t))))))
          (λ t. let w = any_tab test (λ q. q) (count_in m) t in
          let z = holder from l w.0 w.1 w.2 in
          let same : z.0 ≡ y = labels_apart m (count_in m) z.0 y ok.differ z.1 h z.3 c (z.4 ∙ sym k) in
          let there : In y (cycle (column m 1) w.0) = in_eq y z.0 (cycle (column m 1) w.0) (sym same) z.2 in
          and_intro
          (eq-eqb (column m 3 y) (2 + 4 * from) (one_kind site ok w.0 y w.1 there ∙ kind_q from l w.0 w.1 w.2))
          (eq-eqb (code l) (face_code m y) (sym (one_code site.linked w.0 y w.1 there ∙ code_q from l w.0 w.1 w.2))))
      go (nowhere never e) =
          test_none (darts_in m) from l e
          ∙ by_cases (names_at m from (code l))
          (λ t. let w = any_tab test (λ q. q) (count_in m) t in let z = holder from l w.0 w.1 w.2 in absurd
          (never z.0 z.1 z.3 z.4)) (λ t. sym t)

  -- THE FACE THAT A LABEL NAMES: its darts are those of its least label
  pub face_has : (from : ℕ) (l : Label) → names_face (darts_in m) from l ≡ true → (p : ℕ) → p < count_in m
      → mem (column m 0 p) (face_with (darts_in m) l) ≡ (critical_with m from p && eqb (face_code m p) (code l))
  face_has from l named p hp = go (find_label l)
    where
      go : Labelled l → mem (column m 0 p) (face_with (darts_in m) l) ≡ (critical_with m from p && eqb (face_code m p) (code l))
      go (at_place y h c k e) =
          let t = sym (test_at from l y h c e) ∙ named in
          let kind = eqb-true (column m 3 y) (2 + 4 * from) (and_left (critical_with m from y) (eqb (code l) (face_code m y)) t) in
          let least = eqb-true (code l) (face_code m y) (and_right (critical_with m from y) (eqb (code l) (face_code m y)) t) in
          ap (mem (column m 0 p)) (face_at from l y h c e)
          ∙ mem_map (column m 0) p (cycle (column m 1) y) (λ z i. serials_apart site p z hp (stays_in site.linked y z h i))
          ∙ same_truth (mem p (cycle (column m 1) y)) (critical_with m from p && eqb (face_code m p) (code l))
          (λ i. and_intro (eq-eqb (column m 3 p) (2 + 4 * from) (one_kind site ok y p h i ∙ kind)) (eq-eqb (face_code m p) (code l) (one_code site.linked y p h i ∙ sym least)))
          (λ u. let z = holder from l p hp u in
          let same : z.0 ≡ y = labels_apart m (count_in m) z.0 y ok.differ z.1 h z.3 c (z.4 ∙ sym k) in
          sym_in site.linked p y hp (in_eq y z.0 (cycle (column m 1) p) (sym same) z.2))
      go (nowhere never e) = absurd (true≢false (sym named ∙ test_none (darts_in m) from l e))
