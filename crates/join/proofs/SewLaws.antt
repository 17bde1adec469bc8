-- New darts sewn one after the other. Assumes nothing.
use mathlib.Core.Path.{◌≡◌, refl, sym, ◌∙◌}
use mathlib.Core.Bool.{cond}
use mathlib.Core.List.{List}
use mathlib.Core.Logic.{⊎_elim}
use Prim.Native.Nat.{ℕ, ◌+◌, ◌*◌, ◌≤◌, ◌<◌}
use native.Mathlib.Omega.{arith}
use lib.Dec.{eqb}
use lib.ListN.{length, get_or, set, length-set}
use lib.Seq.{get_or-set_same, get_or-set_other}
use borrow.Author.Tests.{eqb-true, eqb-false, eq-eqb, ne_eqb}
use Rattle.model.specs.Image.{words_for, column}
use Rattle.laws.proofs.Tests.{by_cases, last_or_below}
use Rattle.join.specs.Thirds.{place_of, joined_third, sewn_at, JoinSewable, Sewn}

-- ONE DART'S WORDS
module _ (m : List ℕ) (p kind link : ℕ) where
  pub third_length : length (joined_third m p kind link) ≡ length m
  third_length = length-set (set m (8 + p * 8 + 3) kind) (8 + p * 8 + 4) link ∙ length-set m (8 + p * 8 + 3) kind

  third_else : (i : ℕ) → (i ≡ 8 + p * 8 + 3 → ⊥) → (i ≡ 8 + p * 8 + 4 → ⊥) → get_or (joined_third m p kind link) i 0 ≡ get_or m i 0
  third_else i a b = get_or-set_other (set m (8 + p * 8 + 3) kind) (8 + p * 8 + 4) i link 0 b ∙ get_or-set_other m (8 + p * 8 + 3) i kind 0 a

  module _ (fit : 16 + p * 8 ≤ length m) where
    kind_put : column (joined_third m p kind link) 3 p ≡ kind
    kind_put = get_or-set_other (set m (8 + p * 8 + 3) kind) (8 + p * 8 + 4) (8 + p * 8 + 3) link 0 (λ e. omega (arith, e)) ∙ get_or-set_same m (8 + p * 8 + 3) kind 0 (omega (arith, fit))

    link_put : column (joined_third m p kind link) 4 p ≡ link
    link_put = get_or-set_same (set m (8 + p * 8 + 3) kind) (8 + p * 8 + 4) link 0 (omega (arith, fit, length-set m (8 + p * 8 + 3) kind))

  head_kept : (j : ℕ) → j < 8 → get_or (joined_third m p kind link) j 0 ≡ get_or m j 0
  head_kept j h = third_else j (λ e. omega (arith, h, e)) (λ e. omega (arith, h, e))

  others_kept : (f q : ℕ) → f < 8 → (f ≡ 3 → ⊥) → (f ≡ 4 → ⊥) → column (joined_third m p kind link) f q ≡ column m f q
  others_kept f q h a b = third_else (8 + q * 8 + f) (λ e. a (omega (arith, h, e))) (λ e. b (omega (arith, h, e)))

  place_kept : (f q : ℕ) → f < 8 → (q ≡ p → ⊥) → column (joined_third m p kind link) f q ≡ column m f q
  place_kept f q h d = third_else (8 + q * 8 + f) (λ e. d (omega (arith, h, e))) (λ e. d (omega (arith, h, e)))

-- ONE NEW DART
-- what its words are afterwards, and that all else stays
record Step (m m' : List ℕ) (kind link : ℕ) (old : List ℕ) (p : ℕ) : Type 0 where
  pub size : length m' ≡ length m
  pub head : (j : ℕ) → j < 8 → get_or m' j 0 ≡ get_or m j 0
  pub others : (f q : ℕ) → f < 8 → (f ≡ 3 → ⊥) → (f ≡ 4 → ⊥) → column m' f q ≡ column m f q
  pub kind_here : (kind ≡ 0 → ⊥) → column m' 3 p ≡ kind
  pub link_here : (kind ≡ 0 → ⊥) → column m' 4 p ≡ cond (eqb kind 1) (get_or old link 0) link
  pub kind_met : kind ≡ 1 → column m' 3 (get_or old link 0) ≡ 1
  pub link_met : kind ≡ 1 → column m' 4 (get_or old link 0) ≡ p
  pub kept : (f q : ℕ) → f < 8 → ((kind ≡ 0 → ⊥) → q ≡ p → ⊥) → (kind ≡ 1 → q ≡ get_or old link 0 → ⊥) → column m' f q ≡ column m f q

module _ (m : List ℕ) (kind link : ℕ) (old : List ℕ) (p : ℕ) (fit : 16 + p * 8 ≤ length m) where
  free_step : kind ≡ 0 → Step m m kind link old p
  free_step e = record {
    size = refl;
    head = λ j h. refl;
    others = λ f q h a b. refl;
    kind_here = λ d. absurd (d e);
    link_here = λ d. absurd (d e);
    kind_met = λ d. absurd (omega (arith, e, d));
    link_met = λ d. absurd (omega (arith, e, d));
    kept = λ f q h a b. refl;
  }

  critical_step : (kind ≡ 0 → ⊥) → (kind ≡ 1 → ⊥) → Step m (joined_third m p kind link) kind link old p
  critical_step z s = record {
    size = third_length m p kind link;
    head = head_kept m p kind link;
    others = others_kept m p kind link;
    kind_here = λ d. kind_put m p kind link fit;
    link_here = λ d. rw (ne_eqb kind 1 s) (link_put m p kind link fit);
    kind_met = λ d. absurd (s d);
    link_met = λ d. absurd (s d);
    kept = λ f q h a b. place_kept m p kind link f q h (a z);
  }

  sewn_step : kind ≡ 1 → 16 + get_or old link 0 * 8 ≤ length m → (p ≡ get_or old link 0 → ⊥) → Step m (joined_third (joined_third m p 1 (get_or old link 0)) (get_or old link 0) 1 p) kind link old p
  sewn_step e met d =
      let o = get_or old link 0 in
      let n = joined_third m p 1 o in
      let met' : 16 + o * 8 ≤ length n = omega (arith, met, third_length m p 1 o) in
      record {
        size = third_length n o 1 p ∙ third_length m p 1 o;
        head = λ j h. head_kept n o 1 p j h ∙ head_kept m p 1 o j h;
        others = λ f q h a b. others_kept n o 1 p f q h a b ∙ others_kept m p 1 o f q h a b;
        kind_here = λ z. place_kept n o 1 p 3 p (omega arith) d ∙ kind_put m p 1 o fit ∙ sym e;
        link_here = λ z. rw (eq-eqb kind 1 e) (place_kept n o 1 p 4 p (omega arith) d ∙ link_put m p 1 o fit);
        kind_met = λ z. kind_put n o 1 p met';
        link_met = λ z. link_put n o 1 p met';
        kept = λ f q h a b. place_kept n o 1 p f q h (b e) ∙ place_kept m p 1 o f q h (a (λ z. omega (arith, e, z)));
      }

  step : (kind ≡ 1 → 16 + get_or old link 0 * 8 ≤ length m) → (kind ≡ 1 → p ≡ get_or old link 0 → ⊥) → Step m (sewn_at m kind link old p) kind link old p
  unfolding sewn_at
  step met d = by_cases (eqb kind 0)
      (λ z. rw z (free_step (eqb-true kind 0 z)))
      (λ z. rw z (by_cases (eqb kind 1)
      (λ s. let e = eqb-true kind 1 s in rw s (sewn_step e (met e) (d e)))
      (λ s. rw s (critical_step (eqb-false kind 0 z) (eqb-false kind 1 s)))))

-- ALL OF THEM
pub sewn_none : (w kinds links ranks old new : List ℕ) → Sewn w kinds links ranks old new 0 w
sewn_none w kinds links ranks old new = record {
  size = refl;
  head = λ j h. refl;
  others = λ f p h a b. refl;
  new_kind = λ j h. absurd (omega (arith, h));
  new_link = λ j h. absurd (omega (arith, h));
  met_kind = λ j h. absurd (omega (arith, h));
  met_link = λ j h. absurd (omega (arith, h));
  stays = λ f p h a b. refl;
}

module _ {w kinds links ranks old new : List ℕ} {n k i : ℕ} {m : List ℕ} (ok : JoinSewable n k kinds links ranks old new)
    (size : words_for (n + k) ≤ length m) (so_far : Sewn w kinds links ranks old new i m) (h : i < k) where
  stepped : Step m (sewn_at m (get_or kinds i 0) (get_or links i 0) old (place_of ranks new i)) (get_or kinds i 0) (get_or links i 0) old (place_of ranks new i)
  stepped = step m (get_or kinds i 0) (get_or links i 0) old (place_of ranks new i)
      (let a = ok.new_below i h in omega (arith, a, size))
      (λ e. let a = ok.old_below (get_or links i 0) (ok.link_below i h e) in omega (arith, a, size))
      (λ e. ok.both_apart i (get_or links i 0) h (ok.link_below i h e))

  next : List ℕ
  next = sewn_at m (get_or kinds i 0) (get_or links i 0) old (place_of ranks new i)

  -- what was written before stays: its places are others
  new_stays : (j : ℕ) → j < i → (f : ℕ) → f < 8 → column next f (place_of ranks new j) ≡ column m f (place_of ranks new j)
  unfolding next
  new_stays j l f g = stepped.kept f (place_of ranks new j) g
      (λ z e. let s = ok.new_apart j i (omega (arith, l, h)) h e in omega (arith, s, l))
      (λ s e. ok.both_apart j (get_or links i 0) (omega (arith, l, h)) (ok.link_below i h s) e)

  met_stays : (j : ℕ) → j < i → get_or kinds j 0 ≡ 1 → (f : ℕ) → f < 8 → column next f (get_or old (get_or links j 0) 0) ≡ column m f (get_or old (get_or links j 0) 0)
  unfolding next
  met_stays j l o f g =
      let j< : j < k = omega (arith, l, h) in
      stepped.kept f (get_or old (get_or links j 0) 0) g
      (λ z e. ok.both_apart i (get_or links j 0) h (ok.link_below j j< o) (sym e))
      (λ s e. let q = ok.old_apart (get_or links j 0) (get_or links i 0) (ok.link_below j j< o) (ok.link_below i h s) e in
      let t = ok.link_apart j i j< h o s q in omega (arith, t, l))

  more : Sewn w kinds links ranks old new (i + 1) next
  unfolding next
  more = record {
    size = stepped.size ∙ so_far.size;
    head = λ j l. stepped.head j l ∙ so_far.head j l;
    others = λ f p l a b. stepped.others f p l a b ∙ so_far.others f p l a b;
    new_kind = λ j l d. ⊎_elim
        (λ (e : j ≡ i). rw e (stepped.kind_here (rw e at d)))
        (λ (e : j < i). new_stays j e 3 (omega arith) ∙ so_far.new_kind j e d) (last_or_below l);
    new_link = λ j l d. ⊎_elim
        (λ (e : j ≡ i). rw e (stepped.link_here (rw e at d)))
        (λ (e : j < i). new_stays j e 4 (omega arith) ∙ so_far.new_link j e d) (last_or_below l);
    met_kind = λ j l d. ⊎_elim
        (λ (e : j ≡ i). rw e (stepped.kind_met (rw e at d)))
        (λ (e : j < i). met_stays j e d 3 (omega arith) ∙ so_far.met_kind j e d) (last_or_below l);
    met_link = λ j l d. ⊎_elim
        (λ (e : j ≡ i). rw e (stepped.link_met (rw e at d)))
        (λ (e : j < i). met_stays j e d 4 (omega arith) ∙ so_far.met_link j e d) (last_or_below l);
    stays = λ f p l a b. stepped.kept f p l (λ z e. a i (omega arith) z e) (λ s e. b i (omega arith) s e)
        ∙ so_far.stays f p l (λ j u. a j (omega (arith, u))) (λ j u. b j (omega (arith, u)));
  }

  pub sewn_more : {m' : List ℕ} {r p : ℕ} → r ≡ get_or ranks i 0 → p ≡ get_or new r 0
      → m' ≡ sewn_at m (get_or kinds i 0) (get_or links i 0) old p → Sewn w kinds links ranks old new (i + 1) m'
  unfolding next
  sewn_more a b e = rw (e, b, a) more

-- THE CASES of one new dart
module _ (m : List ℕ) (kind link : ℕ) (old : List ℕ) (p : ℕ) where
  pub at_free : kind ≡ 0 → m ≡ sewn_at m kind link old p
  unfolding sewn_at
  at_free e = rw (eq-eqb kind 0 e) refl

  pub at_critical : (kind ≡ 0 → ⊥) → (kind ≡ 1 → ⊥) → joined_third m p kind link ≡ sewn_at m kind link old p
  unfolding sewn_at
  at_critical z s = rw (ne_eqb kind 0 z, ne_eqb kind 1 s) refl

  pub at_sewn : kind ≡ 1 → joined_third (joined_third m p 1 (get_or old link 0)) (get_or old link 0) 1 p ≡ sewn_at m kind link old p
  unfolding sewn_at
  at_sewn e = rw (ne_eqb kind 0 (λ z. omega (arith, e, z)), eq-eqb kind 1 e) refl

pub sewn_all : {w kinds links ranks old new : List ℕ} {k i : ℕ} {m : List ℕ} → Sewn w kinds links ranks old new i m → i ≡ k → Sewn w kinds links ranks old new k m
sewn_all s e = rw (sym e) s
