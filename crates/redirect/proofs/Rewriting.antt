-- The kind words of darts that pass a test, set one after the other. Assumes nothing.
use mathlib.Core.Path.{◌≡◌, refl, sym, ◌∙◌, ap}
use mathlib.Core.Bool.{Bool, true, false, cond, ◌&&◌}
use mathlib.Core.List.{List}
use Prim.Native.Nat.{ℕ, ◌+◌, ◌*◌, ◌≤◌, ◌<◌}
use native.Mathlib.Omega.{arith}
use lib.Dec.{ltb}
use lib.ListN.{length, get_or, set, length-set}
use lib.Seq.{get_or-set_same, get_or-set_other}
use borrow.Author.Tests.{lt-ltb, le-ltb, ltb-true, ltb-false}
use Rattle.model.specs.Image.{column}
use Rattle.laws.proofs.Tests.{by_cases}
use Rattle.cells.proofs.Walks.{eq_or_ne}
use Rattle.redirect.specs.ByPlaces.{Rewritten}

-- KIND WORDS SET
pub rewritten_start : (m : List ℕ) (test : ℕ → Bool) (word : ℕ) → Rewritten m m test word 0
rewritten_start m test word = record { size = refl; head = λ i h. refl; others = λ f p h k. refl; kinds = λ p. rw (le-ltb p 0 (omega arith)) }

module _ {m m' : List ℕ} {test : ℕ → Bool} {word p : ℕ} (w : Rewritten m m' test word p) where
  -- the word at p itself is still the old one
  pub still : column m' 3 p ≡ column m 3 p
  still = w.kinds p ∙ rw (le-ltb p p (omega arith))

  other : (q : ℕ) → (q ≡ p → ⊥) → ltb q (p + 1) ≡ ltb q p
  other q s = by_cases (ltb q p)
      (λ e. rw e (lt-ltb q (p + 1) (let h = ltb-true q p e in omega arith)))
      (λ e. rw e (le-ltb q (p + 1) (let h = ltb-false q p e in omega arith)))

  pub rewritten_skip : test p ≡ false → Rewritten m m' test word (p + 1)
  rewritten_skip t =
      record {
        size = w.size;
        head = w.head;
        others = w.others;
        kinds = λ q. eq_or_ne q p (λ s. here q s)
            (λ s. w.kinds q ∙ ap (λ (b : Bool). cond (b && test q) word (column m 3 q)) (sym (other q s)));
      }
    where
      here : (q : ℕ) → q ≡ p → column m' 3 q ≡ cond (ltb q (p + 1) && test q) word (column m 3 q)
      here q s = ap (column m' 3) s ∙ still ∙ ap (column m 3) (sym s) ∙ rw (lt-ltb q (p + 1) (omega arith), ap test s ∙ t)

  pub rewritten_set : test p ≡ true → 8 + p * 8 + 3 < length m → Rewritten m (set m' (8 + p * 8 + 3) word) test word (p + 1)
  rewritten_set t h = record {
    size = simp length-set w.size;
    head = λ i k. get_or-set_other m' (8 + p * 8 + 3) i word 0 (λ e. omega arith) ∙ w.head i k;
    others = λ f q k n. get_or-set_other m' (8 + p * 8 + 3) (8 + q * 8 + f) word 0 (λ e. n (omega arith)) ∙ w.others f q k n;
    kinds =
        λ q. eq_or_ne q p (λ s. here q s)
        (λ s. get_or-set_other m' (8 + p * 8 + 3) (8 + q * 8 + 3) word 0 (λ e. s (omega arith)) ∙ w.kinds q ∙ ap (λ (b : Bool). cond (b && test q) word (column m 3 q)) (sym (other q s)));
  }
    where
      here : (q : ℕ) → q ≡ p → column (set m' (8 + p * 8 + 3) word) 3 q ≡ cond (ltb q (p + 1) && test q) word (column m 3 q)
      here q s = ap (column (set m' (8 + p * 8 + 3) word) 3) s ∙ get_or-set_same m' (8 + p * 8 + 3) word 0 (let n = w.size in omega arith) ∙ rw (lt-ltb q (p + 1) (omega arith), ap test s ∙ t)

-- a turn of the loop: the dart stays, or its word is set
pub rewriting_skip : (table : List ℕ) (c : ℕ) {m m' : List ℕ} {word p : ℕ} → Rewritten m m' (λ q. ltb (get_or table q 0) c) word p
    → c ≤ get_or table p 0 → Rewritten m m' (λ q. ltb (get_or table q 0) c) word (p + 1)
rewriting_skip table c {m} {m'} {word} {p} w h = rewritten_skip w (le-ltb (get_or table p 0) c h)

pub rewriting_set : (table : List ℕ) (c : ℕ) {m m' m'' : List ℕ} {word p : ℕ} → Rewritten m m' (λ q. ltb (get_or table q 0) c) word p
    → get_or table p 0 < c → 8 + p * 8 + 3 < length m → m'' ≡ set m' (8 + p * 8 + 3) word
    → Rewritten m m'' (λ q. ltb (get_or table q 0) c) word (p + 1)
rewriting_set table c {m} {m'} {m''} {word} {p} w h k e = rw e (rewritten_set w (lt-ltb (get_or table p 0) c h) k)

pub rewritten_end : {m m' : List ℕ} {test : ℕ → Bool} {word p n : ℕ} → p ≤ n → n ≤ p → Rewritten m m' test word p → Rewritten m m' test word n
rewritten_end {m} {m'} {test} {word} {p} {n} a b w = let e : p ≡ n = omega arith in rw e at w
