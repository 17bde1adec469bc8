-- The darts of a block with new ones sewn in: each is the dart before, with the link that it gets. Assumes nothing.
use mathlib.Core.Path.{◌≡◌, refl, sym, ◌∙◌, ap, subst}
use mathlib.Core.Bool.{true≢false, ◌&&◌}
use mathlib.Core.List.{List}
use mathlib.Core.Logic.{⊎_elim}
use mathlib.Core.Option.{Option, none, some}
use Prim.Native.Nat.{ℕ, ◌+◌, ◌≤◌, ◌<◌}
use native.Mathlib.Omega.{arith}
use lib.Dec.{eqb}
use lib.ListN.{get_or}
use borrow.Author.Tests.{eqb-true, eq-eqb, ne_eqb}
use Rattle.model.specs.Lists.{any, find, tab}
use Rattle.model.specs.Values.{Third, sewn, Dart, with_third, room}
use Rattle.model.specs.Image.{column, third_in, dart_in}
use Rattle.model.specs.Links.{Link, third_or, relink}
use Rattle.columns.proofs.Thirds.{critical_two, third_sewn}
use Rattle.laws.proofs.Tests.{by_cases, and_intro, and_left, and_right, eq_or_ne}
use Rattle.laws.proofs.Tables.{any_tab, tab_any, one_place}
use Rattle.columns.specs.Columns.{Kind, kind_free, kind_sewn, kind_critical}
use Rattle.join.specs.Thirds.{place_of, JoinSewable, Sewn}
use Rattle.join.specs.Interleaved.{Stands}
use Rattle.join.specs.Join.{JoinIndexed, Linking}

-- no two darts stand at one place
pub old_one : {m c w : List ℕ} {n k : ℕ} {old new : List ℕ} → Stands m c w n k old new → (p q : ℕ) → p < n → q < n → get_or old p 0 ≡ get_or old q 0 → p ≡ q
old_one at p q hp hq e = one_place at.old_up hp hq e

pub new_one : {m c w : List ℕ} {n k : ℕ} {old new : List ℕ} → Stands m c w n k old new → (p q : ℕ) → p < k → q < k → get_or new p 0 ≡ get_or new q 0 → p ≡ q
new_one at p q hp hq e = one_place at.new_up hp hq e

-- of a label no serial is asked
third_other : (s s' : ℕ → ℕ) {k a : ℕ} → Kind k a → (k ≡ 1 → ⊥) → third_in s k a ≡ third_in s' k a
unfolding third_in
third_other s s' {k} {a} (kind_free e f) d = rw e refl
third_other s s' {k} {a} (kind_sewn e) d = absurd (d e)
third_other s s' {k} {a} (kind_critical e f g) d = rw (critical_two k e) refl

module _ {m c w kinds links ranks old new x : List ℕ} {n k : ℕ} {ls : List Link} (fits : n + k ≤ room)
    (at : Stands m c w n k old new) (by : JoinIndexed c x ranks k) (ln : Linking m n k x kinds links ls) where
  -- what sewing asks
  pub sewable : JoinSewable n k kinds links ranks old new
  sewable = record {
    fits = fits;
    rank_below = by.rank_below;
    new_below = λ i h. at.new_lt (get_or ranks i 0) (by.rank_below i h);
    new_apart = λ i j hi hj e. by.rank_apart i j hi hj (new_one at (get_or ranks i 0) (get_or ranks j 0) (by.rank_below i hi) (by.rank_below j hj) e);
    old_below = at.old_lt;
    old_apart = old_one at;
    both_apart = λ i q hi hq e. at.apart q (get_or ranks i 0) hq (by.rank_below i hi) (sym e);
    link_below = ln.link_below;
    link_apart = ln.link_apart;
  }

  -- what they are afterwards
  module _ {y : List ℕ} (sew : Sewn w kinds links ranks old new k y) where
    serial_same : (p : ℕ) → column y 0 p ≡ column w 0 p
    serial_same p = sew.others 0 p (omega arith) (λ e. omega (arith, e)) (λ e. omega (arith, e))

    serials_same : column y 0 ≡ column w 0
    serials_same = λ i p. serial_same p i

    old_serial : (p : ℕ) → p < n → column w 0 (get_or old p 0) ≡ column m 0 p
    old_serial p h = ap (λ (d : Dart). d.serial) (at.old_dart p h)

    new_serial : (i : ℕ) → i < k → column w 0 (place_of ranks new i) ≡ get_or x i 0
    new_serial i h = ap (λ (d : Dart). d.serial) (at.new_dart (get_or ranks i 0) (by.rank_below i h)) ∙ by.serial_is i h

    third_now : ℕ → Third
    third_now t = third_in (column w 0) (column y 3 t) (column y 4 t)

    -- all but the third link is as before
    dart_now : (t : ℕ) → dart_in y t ≡ with_third (third_now t) (dart_in w t)
    unfolding third_now
    dart_now t =
        let e1 = serial_same (column y 1 t) ∙ ap (column w 0) (sew.others 1 t (omega arith) (λ e. omega (arith, e)) (λ e. omega (arith, e))) in
        let e2 = serial_same (column y 2 t) ∙ ap (column w 0) (sew.others 2 t (omega arith) (λ e. omega (arith, e)) (λ e. omega (arith, e))) in
        let e3 : third_in (column y 0) (column y 3 t) (column y 4 t) ≡ third_in (column w 0) (column y 3 t) (column y 4 t) =
        ap (λ (s : ℕ → ℕ). third_in s (column y 3 t) (column y 4 t)) serials_same
        in
        let e5 = sew.others 5 t (omega arith) (λ e. omega (arith, e)) (λ e. omega (arith, e)) in
        let e6 = sew.others 6 t (omega arith) (λ e. omega (arith, e)) (λ e. omega (arith, e)) in
        let e7 = sew.others 7 t (omega arith) (λ e. omega (arith, e)) (λ e. omega (arith, e)) in
        λ i. record { serial = serial_same t i; next = e1 i; opposite = e2 i; third = e3 i; point = record { x = e5 i; y = e6 i; z = e7 i } }

    -- a dart whose third link stays, one that gets another
    linked_none : (d : Dart) (s : ℕ) → d.serial ≡ s → find (λ l. l.dart) s ls ≡ none → with_third d.third d ≡ relink ls d
    unfolding relink
    linked_none d s e f = ap (λ (o : Option Link). with_third (third_or d.third o) d) (sym (ap (λ (z : ℕ). find (λ l. l.dart) z ls) e ∙ f))

    linked_some : (d : Dart) (s : ℕ) (t : Third) → d.serial ≡ s → find (λ l. l.dart) s ls ≡ some (record { dart = s; third = t }) → with_third t d ≡ relink ls d
    unfolding relink
    linked_some d s t e f = ap (λ (o : Option Link). with_third (third_or d.third o) d) (sym (ap (λ (z : ℕ). find (λ l. l.dart) z ls) e ∙ f))

    -- THE BLOCK'S DARTS: one that is met, one that is not
    met_dart : (i : ℕ) → i < k → get_or kinds i 0 ≡ 1 → let t = get_or old (get_or links i 0) 0 in with_third (third_now t) (dart_in w t) ≡ relink ls (dart_in w t)
    unfolding third_now
    met_dart i h e =
        let t = get_or old (get_or links i 0) 0 in
        let q = ln.link_below i h e in
        let here : third_in (column w 0) (column y 3 t) (column y 4 t) ≡ sewn (get_or x i 0) =
        third_sewn (column w 0) (column y 3 t) (column y 4 t) (sew.met_kind i h e)
        ∙ ap sewn (ap (column w 0) (sew.met_link i h e) ∙ new_serial i h)
        in
        ap (λ (z : Third). with_third z (dart_in w t)) here ∙ linked_some (dart_in w t) (column m 0 (get_or links i 0)) (sewn (get_or x i 0)) (old_serial (get_or links i 0) q) (ln.met i h e)

    unmet_dart : (p : ℕ) → p < n → ((i : ℕ) → i < k → get_or kinds i 0 ≡ 1 → get_or links i 0 ≡ p → ⊥) → let t = get_or old p 0 in with_third (third_now t) (dart_in w t) ≡ relink ls (dart_in w t)
    unfolding third_now
    unmet_dart p h no_one =
        let t = get_or old p 0 in
        let stay : (f : ℕ) → f < 8 → column y f t ≡ column w f t = λ f l. sew.stays f t l
        (λ j u d e. at.apart p (get_or ranks j 0) h (by.rank_below j u) e)
        (λ j u d e. no_one j u d (sym (old_one at p (get_or links j 0) h (ln.link_below j u d) e))) in
        let here : third_in (column w 0) (column y 3 t) (column y 4 t) ≡ (dart_in w t).third = rw (stay 3 (omega arith), stay 4 (omega arith)) refl in
        ap (λ (z : Third). with_third z (dart_in w t)) here ∙ linked_none (dart_in w t) (column m 0 p) (old_serial p h) (ln.unmet p h no_one)

    old_joined : (p : ℕ) → p < n → let t = get_or old p 0 in with_third (third_now t) (dart_in w t) ≡ relink ls (dart_in w t)
    old_joined p h = by_cases (any (λ i. eqb (get_or kinds i 0) 1 && eqb (get_or links i 0) p) (tab (λ i. i) k))
        (λ e. let r = any_tab (λ i. eqb (get_or kinds i 0) 1 && eqb (get_or links i 0) p) (λ i. i) k e in
        let one = eqb-true (get_or kinds r.0 0) 1 (and_left (eqb (get_or kinds r.0 0) 1) _ r.2) in
        let there = eqb-true (get_or links r.0 0) p (and_right (eqb (get_or kinds r.0 0) 1) _ r.2) in
        subst (λ (z : ℕ). with_third (third_now (get_or old z 0)) (dart_in w (get_or old z 0)) ≡ relink ls (dart_in w (get_or old z 0))) there (met_dart r.0 r.1 one))
        (λ e. unmet_dart p h
        (λ i l one there. true≢false
        (sym
        (tab_any (λ i. eqb (get_or kinds i 0) 1 && eqb (get_or links i 0) p) (λ i. i) k i l
        (and_intro (eq-eqb (get_or kinds i 0) 1 one) (eq-eqb (get_or links i 0) p there))) ∙ e)))

    -- THE NEW DARTS
    new_joined : (i : ℕ) → i < k → let t = place_of ranks new i in with_third (third_now t) (dart_in w t) ≡ relink ls (dart_in w t)
    unfolding third_now
    new_joined i h =
        let t = place_of ranks new i in
        ⊎_elim
        (λ (e : get_or kinds i 0 ≡ 0).
        let stay : (f : ℕ) → f < 8 → column y f t ≡ column w f t = λ f l. sew.stays f t l
        (λ j u d g. let same = by.rank_apart i j h u (new_one at (get_or ranks i 0) (get_or ranks j 0) (by.rank_below i h) (by.rank_below j u) g) in d (ap (λ (z : ℕ). get_or kinds z 0) (sym same) ∙ e))
        (λ j u d g. at.apart (get_or links j 0) (get_or ranks i 0) (ln.link_below j u d) (by.rank_below i h) (sym g)) in
        let here : third_in (column w 0) (column y 3 t) (column y 4 t) ≡ (dart_in w t).third = rw (stay 3 (omega arith), stay 4 (omega arith)) refl in
        ap (λ (z : Third). with_third z (dart_in w t)) here ∙ linked_none (dart_in w t) (get_or x i 0) (new_serial i h) (ln.new_free i h e))
        (λ (d : get_or kinds i 0 ≡ 0 → ⊥).
        ap (λ (z : Third). with_third z (dart_in w t)) (linked_third i h d)
        ∙ linked_some (dart_in w t) (get_or x i 0) (third_in (column m 0) (get_or kinds i 0) (get_or links i 0)) (new_serial i h)
        (ln.new_linked i h d))
        (eq_or_ne (get_or kinds i 0) 0)
      where
        linked_third : (i : ℕ) → i < k → (get_or kinds i 0 ≡ 0 → ⊥)
            → third_in (column w 0) (column y 3 (place_of ranks new i)) (column y 4 (place_of ranks new i))
            ≡ third_in (column m 0) (get_or kinds i 0) (get_or links i 0)
        linked_third i h d =
            let t = place_of ranks new i in
            rw (sew.new_kind i h d, sew.new_link i h d) (⊎_elim
            (λ (e : get_or kinds i 0 ≡ 1). rw (eq-eqb (get_or kinds i 0) 1 e)
            (third_sewn (column w 0) (get_or kinds i 0) (get_or old (get_or links i 0) 0) e ∙ ap sewn (old_serial (get_or links i 0) (ln.link_below i h e)) ∙ sym (third_sewn (column m 0) (get_or kinds i 0) (get_or links i 0) e)))
            (λ (e : get_or kinds i 0 ≡ 1 → ⊥). rw (ne_eqb (get_or kinds i 0) 1 e) (third_other (column w 0) (column m 0) (ln.kind_right i h) e))
            (eq_or_ne (get_or kinds i 0) 1))

    -- each dart is the one before with the link that it gets
    pub dart_joined : (t : ℕ) → t < n + k → dart_in y t ≡ relink ls (dart_in w t)
    dart_joined t h = dart_now t ∙ ⊎_elim
        (λ r. subst (λ (z : ℕ). with_third (third_now z) (dart_in w z) ≡ relink ls (dart_in w z)) (sym r.2) (old_joined r.0 r.1))
        (λ r. let i = by.index_of r.0 r.1 in
        let here : place_of ranks new i.0 ≡ t = ap (λ (z : ℕ). get_or new z 0) i.2 ∙ sym r.2 in
        subst (λ (z : ℕ). with_third (third_now z) (dart_in w z) ≡ relink ls (dart_in w z)) here (new_joined i.0 i.1))
        (at.every t h)
