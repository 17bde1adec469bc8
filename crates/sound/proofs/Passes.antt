-- The loops of question 2: zeros, darts with their nexts marked, and the labels gathered. Assumes nothing.
use mathlib.Core.Path.{◌≡◌, refl, sym, ap, ◌∙◌}
use mathlib.Core.Bool.{Bool, true, false, false≢true, cond, ◌&&◌}
use mathlib.Core.List.{List}
use mathlib.Core.Logic.{◌⊎◌, inl, inr, ⊎_elim, ◌↔◌}
use Prim.Native.Nat.{ℕ, ◌+◌, ◌≤◌, ◌<◌}
use native.Mathlib.Omega.{arith}
use native.Mathlib.Numerals.{add-one}
use lib.Dec.{eqb}
use lib.ListN.{length, get_or, set, take, length-set}
use lib.Seq.{get_or-set_same, get_or-set_other, take-suc-set}
use borrow.Author.Tests.{eqb-true, eqb-false}
use Rattle.model.specs.Image.{column, is_critical_word}
use Rattle.sound.specs.Kept.{Kept}
use Rattle.laws.proofs.Tests.{by_cases, eq_or_ne, last_or_below, and_left, and_right}
use Rattle.columns.specs.Columns.{all_below, before, place_test, kind_test, dart_test, link_test, codes, OneToOne, Links, Darts}
use Rattle.columns.proofs.Below.{below_at, below_none, below_more, below_false}
use Rattle.columns.proofs.Links.{linked}
use Rattle.columns.proofs.OneDart.{dart_says}
use Rattle.sound.proofs.OneDart.{and_stop}

-- an answer and what it answers
pub no_iff : {P : Type 0} → (P → ⊥) → (◌≡◌ {A = Bool} false true) ↔ P
no_iff h = (λ e. absurd (false≢true e), λ p. absurd (h p))

-- ZEROS from a on, below i
pub record Zeroing (m : List ℕ) (a : ℕ) (ok : Bool) (i : ℕ) : Type 0 where
  pub a_le : a ≤ i
  pub if_yes : ok ≡ true → (k : ℕ) → a ≤ k → k < i → get_or m k 0 ≡ 0
  pub if_no : ok ≡ false → (k : ℕ) × (a ≤ k) × (k < i) × (get_or m k 0 ≡ 0 → ⊥)

pub zeroing_none : (m : List ℕ) (a : ℕ) → Zeroing m a true a
zeroing_none m a = record { a_le = omega arith; if_yes = λ _ k l u. absurd (omega arith); if_no = λ e. absurd (false≢true (sym e)) }

pub zeroing_more : (m : List ℕ) (a : ℕ) {ok : Bool} {i : ℕ} → Zeroing m a ok i → Zeroing m a (ok && eqb (get_or m i 0) 0) (i + 1)
zeroing_more m a {ok} {i} w = record {
  a_le = omega (arith, w.a_le);
  if_yes = λ e k l u. ⊎_elim (λ q. rw q (eqb-true _ _ (and_right ok _ e))) (λ q. w.if_yes (and_left ok _ e) k l q) (last_or_below u);
  if_no = λ e. go ok refl e;
}
  where
    go : (t : Bool) → ok ≡ t → (ok && eqb (get_or m i 0) 0) ≡ false → (k : ℕ) × (a ≤ k) × (k < i + 1) × (get_or m k 0 ≡ 0 → ⊥)
    go true q e = (i, w.a_le, omega arith, eqb-false _ _ (rw q at e))
    go false q e = let r = w.if_no q in (r.0, r.1, omega (arith, r.2), r.3)

pub zeroing_end : (m : List ℕ) (a : ℕ) {ok : Bool} {i : ℕ} → Zeroing m a ok i → length m ≤ i → i ≤ length m → (ok ≡ true) ↔ ((k : ℕ) → a ≤ k → k < length m → get_or m k 0 ≡ 0)
zeroing_end m a {ok} {i} w h h' = (λ e k l u. w.if_yes e k l (omega arith), λ z. go ok refl z)
  where
    go : (t : Bool) → ok ≡ t → ((k : ℕ) → a ≤ k → k < length m → get_or m k 0 ≡ 0) → ok ≡ true
    go true q z = q
    go false q z = let r = w.if_no q in absurd (r.3 (z r.0 r.1 (omega (arith, r.2))))

-- TESTS of the places below i, all passed
pub record Going (t : ℕ → Bool) (n i : ℕ) : Type 0 where
  pub i_le : i ≤ n
  pub all : true ≡ all_below t i

pub going_none : (t : ℕ → Bool) (n : ℕ) → Going t n 0
going_none t n = record { i_le = omega arith; all = below_none t }

module _ {t : ℕ → Bool} {n i : ℕ} (w : Going t n i) where
  pub going_no : i < n → {r : Bool} → r ≡ t i → r ≡ false → false ≡ all_below t n
  going_no h er e = below_false t n i h (sym er ∙ e)

  pub going_more : i < n → {r : Bool} → r ≡ t i → r ≡ true → Going t n (i + 1)
  going_more h er e = record { i_le = omega arith; all = below_more t i w.all (sym er ∙ e) }

  pub going_end : n ≤ i → true ≡ all_below t n
  going_end h = let e : i ≡ n = omega (arith, w.i_le) in w.all ∙ ap (all_below t) e

-- MARKS: the values of f below i, no two the same, in a table for the places below n
pub record Marked (f : ℕ → ℕ) (n : ℕ) (seen : List ℕ) (i : ℕ) : Type 0 where
  pub len : n ≤ length seen
  pub marked : (k : ℕ) → k < i → get_or seen (f k) 0 ≡ 1
  pub only : (x : ℕ) → (get_or seen x 0 ≡ 0 → ⊥) → (k : ℕ) × (k < i) × (f k ≡ x)
  pub apart : OneToOne f i

pub none_marked : (f : ℕ → ℕ) (n : ℕ) (seen : List ℕ) → n ≤ length seen → ((p : ℕ) → get_or seen p 0 ≡ 0) → Marked f n seen 0
none_marked f n seen long clear = record {
  len = long;
  marked = λ k h. absurd (omega arith);
  only = λ x h. absurd (h (clear x));
  apart = λ p q hp. absurd (omega arith);
}

module _ {f : ℕ → ℕ} {n : ℕ} {seen : List ℕ} {i : ℕ} (w : Marked f n seen i) where
  pub one_more : f i < n → get_or seen (f i) 0 ≡ 0 → Marked f n (set seen (f i) 1) (i + 1)
  one_more lt e = record {
    len = simp length-set w.len;
    marked = λ k h. ⊎_elim (λ q. rw q hit) (λ l. rw (miss (f k) (λ q. fresh k l q)) (w.marked k l)) (last_or_below h);
    only = λ x h. ⊎_elim (λ q. (i, omega arith, sym q)) (λ q. let r = w.only x (λ z. h (miss x q ∙ z)) in (r.0, omega (arith, r.1), r.2)) (eq_or_ne x (f i));
    apart = λ p q hp hq same. go p q (last_or_below hp) (last_or_below hq) same;
  }
    where
      hit : get_or (set seen (f i) 1) (f i) 0 ≡ 1
      hit = get_or-set_same seen (f i) 1 0 (omega (arith, w.len, lt))

      miss : (x : ℕ) → (x ≡ f i → ⊥) → get_or (set seen (f i) 1) x 0 ≡ get_or seen x 0
      miss x q = get_or-set_other seen (f i) x 1 0 q

      fresh : (k : ℕ) → k < i → f k ≡ f i → ⊥
      fresh k l q = let one : ◌≡◌ {A = ℕ} 0 1 = sym e ∙ ap (λ (x : ℕ). get_or seen x 0) (sym q) ∙ w.marked k l in omega arith

      go : (p q : ℕ) → (p ≡ i) ⊎ (p < i) → (q ≡ i) ⊎ (q < i) → f p ≡ f q → p ≡ q
      go p q (inl a) (inl b) same = a ∙ sym b
      go p q (inl a) (inr b) same = absurd (fresh q b (sym same ∙ ap f a))
      go p q (inr a) (inl b) same = absurd (fresh p a (same ∙ ap f b))
      go p q (inr a) (inr b) same = w.apart p q a b same

  pub met_again : i < n → (get_or seen (f i) 0 ≡ 0 → ⊥) → OneToOne f n → ⊥
  met_again h e one = let r = w.only (f i) e in let same = one r.0 i (omega (arith, r.1)) h r.2 in omega (arith, r.1, same)

-- A TEST AND A MARK for each place below i
pub record Passing (t : ℕ → Bool) (f : ℕ → ℕ) (n : ℕ) (seen : List ℕ) (i : ℕ) : Type 0 where
  pub tests : Going t n i
  pub marks : Marked f n seen i

pub passing_none : (t : ℕ → Bool) (f : ℕ → ℕ) (n : ℕ) (seen : List ℕ) → n ≤ length seen → ((p : ℕ) → get_or seen p 0 ≡ 0) → Passing t f n seen 0
passing_none t f n seen long clear = record { tests = going_none t n; marks = none_marked f n seen long clear }

abbrev pub Passed : (ℕ → Bool) → (ℕ → ℕ) → ℕ → Type 0
Passed t f n = ((p : ℕ) → p < n → t p ≡ true) × OneToOne f n

module _ {t : ℕ → Bool} {f : ℕ → ℕ} {n : ℕ} {seen : List ℕ} {i : ℕ} (w : Passing t f n seen i) where
  pub test_no : i < n → {r : Bool} → r ≡ t i → r ≡ false → (◌≡◌ {A = Bool} false true) ↔ Passed t f n
  test_no h er e = no_iff (λ d. false≢true (sym e ∙ er ∙ d.0 i h))

  pub mark_no : i < n → {a x : ℕ} → a ≡ f i → x ≡ get_or seen a 0 → (x ≡ 0 → ⊥) → (◌≡◌ {A = Bool} false true) ↔ Passed t f n
  mark_no h ea ex e = no_iff (λ d. met_again w.marks h (λ z. e (ex ∙ ap (λ (x : ℕ). get_or seen x 0) ea ∙ z)) d.1)

  pub passing_more : i < n → {r : Bool} → r ≡ t i → r ≡ true → f i < n → {a : ℕ} → a ≡ f i → get_or seen a 0 ≡ 0 → Passing t f n (set seen a 1) (i + 1)
  passing_more h er e lt ea et = rw ea (record {
    tests = going_more w.tests h er e;
    marks = one_more w.marks lt (ap (λ (x : ℕ). get_or seen x 0) (sym ea) ∙ et);
  })

  pub passing_end : n ≤ i → (◌≡◌ {A = Bool} true true) ↔ Passed t f n
  passing_end h =
      let e : i ≡ n = omega (arith, w.tests.i_le) in
      (λ _. (below_at t n (sym (going_end w.tests h)), λ p q hp hq. w.marks.apart p q (omega arith) (omega arith)), λ _. refl)

-- as the contracts have it
pub as_darts : {m : List ℕ} {n : ℕ} {r : Bool} → (r ≡ true) ↔ Passed (dart_test m n) (column m 1) n → (r ≡ true) ↔ Darts m n
as_darts e = (λ y. let d = e.0 y in record { each = d.0; apart = d.1 }, λ d. e.1 (d.each, d.apart))

pub as_links : {m : List ℕ} {n : ℕ} {r : Bool} → (r ≡ true) ↔ Passed (link_test m n) (column m 1) n → (r ≡ true) ↔ Links m n
as_links e = (λ y. let d = e.0 y in record { each = d.0; apart = d.1 }, λ d. e.1 (d.each, d.apart))

-- the two tests of a dart by itself
module _ (m : List ℕ) (n i : ℕ) {last : ℕ} {x : Bool} (ex : x ≡ place_test m n last i) (el : last ≡ before (column m 0) i) where
  place_is : x ≡ place_test m n (before (column m 0) i) i
  place_is = ex ∙ rw el refl

  pub place_no : x ≡ false → false ≡ dart_test m n i
  unfolding dart_test
  place_no e = and_stop _ (sym place_is ∙ e)

  pub kind_is : x ≡ true → {me counter k l : ℕ} {y : Bool} → y ≡ kind_test me counter n k l → k ≡ column m 3 i → l ≡ column m 4 i → me ≡ get_or m 0 0 → counter ≡ get_or m 1 0 → y ≡ dart_test m n i
  unfolding dart_test
  kind_is e ey ek eli em ec = rw (sym place_is ∙ e) (ey ∙ rw (ek, eli, em, ec) refl)

pub next_below : (m : List ℕ) (n i : ℕ) {y : Bool} → y ≡ dart_test m n i → y ≡ true → column m 1 i < n
next_below m n i ey e = (dart_says m n i (sym ey ∙ e)).next_lt

pub link_below : (m : List ℕ) (n i : ℕ) {y : Bool} → y ≡ link_test m n i → y ≡ true → column m 1 i < n
link_below m n i ey e = (linked m n i (sym ey ∙ e)).next_lt

-- THE LABELS of the darts below i
pub record Gathering (m : List ℕ) (n : ℕ) (out : List ℕ) (c i : ℕ) : Type 0 where
  pub i_le : i ≤ n
  pub c_le : c ≤ i
  pub len : n ≤ length out
  pub done : take c out ≡ codes m i

pub gather_none : (m : List ℕ) (n : ℕ) (out : List ℕ) → n ≤ length out → Gathering m n out 0 0
unfolding codes
gather_none m n out h = record { i_le = omega arith; c_le = omega arith; len = h; done = refl }

module _ {m : List ℕ} {n : ℕ} {out : List ℕ} {c i : ℕ} (w : Gathering m n out c i) (h : i < n) {k : ℕ} (ek : k ≡ column m 3 i) where
  pub gather_skip : is_critical_word k ≡ false → {out' : List ℕ} {c' : ℕ} → out' ≡ out → c' ≡ c → Gathering m n out' c' (i + 1)
  unfolding codes
  gather_skip l e f = rw (e, f) (record {
    i_le = omega arith;
    c_le = omega (arith, w.c_le);
    len = w.len;
    done = rw (add-one, ap is_critical_word (sym ek) ∙ l) w.done;
  })

  pub gather_take : is_critical_word k ≡ true → {l : ℕ} → l ≡ column m 4 i → {out' : List ℕ} {c' : ℕ} → out' ≡ set out c l → c' ≡ c + 1 → Gathering m n out' c' (i + 1)
  unfolding codes
  gather_take l el e f = rw (e, f) (record {
    i_le = omega arith;
    c_le = omega (arith, w.c_le);
    len = simp length-set w.len;
    done = rw (add-one, add-one, ap is_critical_word (sym ek) ∙ l, take-suc-set out c _ (omega (arith, w.len, w.c_le)), w.done, el) refl;
  })

-- one dart more, as it is kept
pub gather_more : {m : List ℕ} {n : ℕ} {out : List ℕ} {c i : ℕ} → Gathering m n out c i → i < n → {out' : List ℕ} {c' : ℕ} → Kept m i out c out' c' → Gathering m n out' c' (i + 1)
gather_more {m} {n} {out} {c} {i} w h {out'} {c'} k = by_cases (is_critical_word (column m 3 i))
    (λ e. gather_take w h refl e refl (k.keys_are ∙ ap (λ (b : Bool). cond b (set out c (column m 4 i)) out) e) (k.count_is ∙ ap (λ (b : Bool). cond b (c + 1) c) e))
    (λ e. gather_skip w h refl e (k.keys_are ∙ ap (λ (b : Bool). cond b (set out c (column m 4 i)) out) e) (k.count_is ∙ ap (λ (b : Bool). cond b (c + 1) c) e))

pub gather_end : {m : List ℕ} {n : ℕ} {out : List ℕ} {c i : ℕ} → Gathering m n out c i → n ≤ i → (c ≤ n) × (take c out ≡ codes m n)
gather_end {m} {n} {out} {c} {i} w h =
    let e : i ≡ n = omega (arith, w.i_le) in
    (omega (arith, w.c_le), w.done ∙ ap (codes m) e)
