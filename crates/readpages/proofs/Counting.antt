-- The least counter dart by dart, and what is stored of it. Assumes nothing.
use mathlib.Core.Path.{◌≡◌, refl, sym, ◌∙◌, ap}
use mathlib.Core.Bool.{true, false}
use mathlib.Core.List.{List, [], ◌∷◌}
use Prim.Native.Nat.{ℕ, suc, ◌+◌, ◌-◌, ◌^◌, ◌≤◌, ◌<◌}
use native.Mathlib.Omega.{arith}
use lib.ListN.{drop, set, drop_of_length-le}
use lib.Seq.{drop-cons}
use borrow.Author.Tests.{eq-eqb, ne_eqb, le-leb, lt-leb, lt-ltb, le-ltb}
use Rattle.laws.proofs.Tables.{length_tab, getD_tab}
use Rattle.model.specs.Lists.{tab, collect, more}
use Rattle.model.specs.Values.{Label, Third, free, sewn, critical, Dart, no_dart, label_of}
use Rattle.model.specs.Cells.{labels}
use Rattle.model.specs.Image.{column, is_free_word, is_sewn_word, label_in, third_in, counter_above}
use Rattle.newblock.specs.Serials.{raw_dart}
use Rattle.codec.proofs.ThirdLaws.{sewn_not_free}
use Rattle.readpages.specs.Counters.{above_third, capped}

-- ONE DART, by its words
module _ (me k a c : ℕ) where
  pub free_above : is_free_word k ≡ true → c ≡ above_third me (third_in (λ s. s) k a) c
  unfolding third_in
  free_above e = rw e refl

  pub sewn_above : is_sewn_word k ≡ true → c ≡ above_third me (third_in (λ s. s) k a) c
  unfolding third_in
  sewn_above e = rw (sewn_not_free k e, e) refl

  module _ (e : is_free_word k ≡ false) (f : is_sewn_word k ≡ false) where
    pub other_above : {m : ℕ} → m ≡ (label_in a).maker → (m ≡ me → ⊥) → c ≡ above_third me (third_in (λ s. s) k a) c
    unfolding third_in
    other_above g h = rw (e, f, ne_eqb (label_in a).maker me (λ z. h (g ∙ z))) refl

    module _ {m n : ℕ} (g : m ≡ (label_in a).maker) (own : m ≡ me) (number : n ≡ (label_in a).number) where
      pub lower_above : n < c → c ≡ above_third me (third_in (λ s. s) k a) c
      unfolding third_in
      lower_above h = rw (e, f, eq-eqb (label_in a).maker me (sym g ∙ own), lt-leb c (label_in a).number (omega (arith, number))) refl

      pub number_above : c ≤ n → n + 1 ≡ above_third me (third_in (λ s. s) k a) c
      unfolding third_in
      number_above h = rw (e, f, eq-eqb (label_in a).maker me (sym g ∙ own), le-leb c (label_in a).number (omega (arith, number))) (omega (arith, number))

-- DART BY DART, from the last on
one_more : (me : ℕ) (t : Third) (ls : List Label) → counter_above me (more (label_of t) ls) ≡ above_third me t (counter_above me ls)
one_more me free ls = refl
one_more me (sewn y) ls = refl
one_more me (critical o l) ls = refl

module _ (me : ℕ) (f : ℕ → Dart) (n : ℕ) where
  abbrev from : ℕ → List Dart
  from i = drop i (tab f n)

  pub from_end : 0 ≡ counter_above me (labels (from n))
  unfolding labels
  from_end = ap (λ (l : List Dart). counter_above me (collect (λ d. label_of d.third) l)) (sym (past_end f n))
    where
      past_end : (f : ℕ → Dart) (n : ℕ) → drop n (tab f n) ≡ []
      past_end f n = drop_of_length-le (tab f n) {i = n} (omega (arith, length_tab f n))

  pub from_step : (i : ℕ) → i < n → {c r : ℕ} → c ≡ counter_above me (labels (from (suc i))) → r ≡ above_third me (f i).third c → r ≡ counter_above me (labels (from i))
  unfolding labels
  from_step i h e q =
      let cut : from i ≡ f i ∷ from (suc i) = drop-cons (tab f n) i no_dart (omega (arith, length_tab f n)) ∙ ap (λ (d : Dart). d ∷ from (suc i)) (getD_tab f n i no_dart h) in
      q ∙ ap (above_third me (f i).third) e ∙ sym (one_more me (f i).third (labels (from (suc i)))) ∙ ap (λ (l : List Dart). counter_above me (labels l)) (sym cut)

-- the loop: above the labels of the darts from i on
pub record Above (m : List ℕ) (n me c i : ℕ) : Type 0 where
  pub i_le : i ≤ n
  pub is : c ≡ counter_above me (labels (from me (raw_dart m) n i))

pub above_none : (m : List ℕ) (n me : ℕ) → Above m n me 0 n
above_none m n me = record { i_le = omega arith; is = from_end me (raw_dart m) n }

module _ {m : List ℕ} {n me c i : ℕ} (w : Above m n me c i) where
  pub above_more : 0 < i → {k a r : ℕ} → k ≡ column m 3 (i - 1) → a ≡ column m 4 (i - 1) → r ≡ above_third me (third_in (λ s. s) k a) c → Above m n me r (i - 1)
  above_more h {k} {a} {r} ek ea q = record {
    i_le = omega (arith, w.i_le);
    is = from_step me (raw_dart m) n (i - 1) (omega (arith, w.i_le)) (w.is ∙ ap (λ (j : ℕ). counter_above me (labels (from me (raw_dart m) n j))) (let e : i ≡ suc (i - 1) = omega arith in e))
        (q ∙ ap (λ (x : ℕ). above_third me (third_in (λ s. s) x a) c) ek ∙ ap (λ (x : ℕ). above_third me (third_in (λ s. s) (column m 3 (i - 1)) x) c) ea);
  }

  pub above_all : i ≤ 0 → c ≡ counter_above me (labels (tab (raw_dart m) n))
  above_all h = w.is ∙ ap (λ (j : ℕ). counter_above me (labels (from me (raw_dart m) n j))) (let e : i ≡ 0 = omega arith in e)

-- WHAT IS STORED
pub capped_small : (c : ℕ) → c < 2 ^ 32 → capped c ≡ c
capped_small c h = rw (lt-ltb c (2 ^ 32) h) refl

pub capped_large : (c : ℕ) → 2 ^ 32 ≤ c → capped c ≡ 4294967295
capped_large c h = rw (le-ltb c (2 ^ 32) h) refl

pub set_small : (m : List ℕ) {c d : ℕ} → c < 2 ^ 32 → c ≡ d → set m 1 c ≡ set m 1 (capped d)
set_small m {c} {d} h e = ap (set m 1) (e ∙ sym (capped_small d (omega (arith, e, h))))

pub set_large : (m : List ℕ) {c d : ℕ} → 2 ^ 32 ≤ c → c ≡ d → set m 1 4294967295 ≡ set m 1 (capped d)
set_large m {c} {d} h e = ap (set m 1) (sym (capped_large d (omega (arith, e, h))))
