-- The index of each dart's code among the codes of an update, by place. Assumes nothing.
use mathlib.Core.Path.{◌≡◌, refl, sym, ◌∙◌, ap, subst}
use mathlib.Core.Logic.{◌⊎◌, inl, inr}
use mathlib.Core.Bool.{true, false, true≢false, cond}
use mathlib.Core.List.{List, [], ◌∷◌}
use Prim.Native.Nat.{ℕ, zero, suc, ◌+◌, ◌*◌, ◌≤◌, ◌<◌}
use native.Mathlib.Omega.{arith}
use lib.Dec.{eqb}
use lib.ListN.{length, get_or, replicate, length-replicate}
use borrow.Author.Tests.{eq-eqb, ne_eqb}
use Rattle.model.specs.Lists.{mem, tab, index_of}
use Rattle.model.specs.Cells.{cycle}
use Rattle.model.specs.Image.{column, holds_block}
use Rattle.laws.proofs.Tests.{by_cases}
use Rattle.laws.proofs.Members.{In, in_eq}
use Rattle.laws.proofs.Tables.{length_tab}
use Rattle.columns.proofs.Question.{image_passed}
use Rattle.cells.specs.Places.{Linked, Assigned}
use Rattle.cells.proofs.Walks.{eq_or_ne}
use Rattle.cells.proofs.Sited.{sited}
use Rattle.departure.specs.ByPlaces.{critical_with}
use Rattle.redirect.specs.ByPlaces.{face_code, code_index, Unset, LeastIndexed}
use Rattle.redirect.proofs.Faces.{self_in, one_code, one_kind}

-- THE INDEX OF A DART'S CODE
index_le : (x : ℕ) (l : List ℕ) → index_of x l ≤ length l
unfolding index_of
index_le x [] = omega arith
index_le x (y ∷ l) = by_cases (eqb x y) (λ e. rw e (omega arith)) (λ e. rw e (let h = index_le x l in omega arith))

pub index_few : (codes : List ℕ) (c x : ℕ) {k : ℕ} → k ≡ index_of x (tab (λ j. get_or codes j 0) c) → k ≤ c
index_few codes c x e = omega (arith, e, index_le x (tab (λ j. get_or codes j 0) c), length_tab (λ j. get_or codes j 0) c)

module _ (m : List ℕ) (from : ℕ) (codes : List ℕ) (c p : ℕ) where
  pub index_away : {v : ℕ} → v ≡ column m 3 p → (v ≡ 2 + 4 * from → ⊥) → code_index m from codes c p ≡ 4097
  unfolding code_index
  index_away read other = rw (ne_eqb (column m 3 p) (2 + 4 * from) (λ e. other (read ∙ e)))

  pub index_there : {v x k : ℕ} → v ≡ column m 3 p → v ≡ 2 + 4 * from → x ≡ face_code m p → k ≡ index_of x (tab (λ j. get_or codes j 0) c) → k ≡ code_index m from codes c p
  unfolding code_index
  index_there read same face e = rw (eq-eqb (column m 3 p) (2 + 4 * from) (sym read ∙ same)) (e ∙ ap (λ (y : ℕ). index_of y (tab (λ j. get_or codes j 0) c)) face)

-- is that of its whole face
pub index_along : (m : List ℕ) (ok : holds_block m ≡ true) (from : ℕ) (codes : List ℕ) (c x y : ℕ) → x < get_or m 2 0
    → In y (cycle (column m 1) x) → code_index m from codes c y ≡ code_index m from codes c x
unfolding code_index
index_along m ok from codes c x y h i =
    let site = sited m ok in
    ap (λ (k : ℕ). cond (eqb k (2 + 4 * from)) (index_of (face_code m y) (tab (λ j. get_or codes j 0) c)) 4097) (one_kind site (image_passed m ok) x y h i)
    ∙ ap (λ (a : ℕ). cond (critical_with m from x) (index_of a (tab (λ j. get_or codes j 0) c)) 4097) (one_code site.linked x y h i)

-- BY PLACE: where a dart's place is not passed yet, it may have no index yet
pub record Indexing (index : ℕ → ℕ) (n p : ℕ) (t : List ℕ) : Type 0 where
  pub size : n ≤ length t
  pub p_le : p ≤ n
  pub each : (q : ℕ) → q < n → (get_or t q 0 ≡ index q) ⊎ ((p ≤ q) × (get_or t q 0 ≡ 4097))

pub same_everywhere : (k v q : ℕ) → q < k → get_or (replicate k v) q 0 ≡ v
same_everywhere zero v q h = absurd (omega arith)
same_everywhere (suc k) v zero h = refl
same_everywhere (suc k) v (suc q) h = same_everywhere k v q (omega arith)

pub values_long : (n k v : ℕ) {l : List ℕ} → l ≡ replicate k v → n ≤ k → n ≤ length l
values_long n k v e h = omega (arith, ap length e, length-replicate {A = ℕ} k v)

pub indexing_start : (index : ℕ → ℕ) {n : ℕ} {t : List ℕ} → n ≤ length t → Unset n t → Indexing index n 0 t
indexing_start index {n} {t} long unset = record {
  size = long;
  p_le = omega arith;
  each = λ q h. inr (omega arith, unset q h);
}

above : {p q : ℕ} → (p ≡ q → ⊥) → p ≤ q → p + 1 ≤ q
above ne le = omega arith

module _ {index : ℕ → ℕ} {n p : ℕ} {t : List ℕ} (w : Indexing index n p t) (h : p < n) where
  pub indexing_skip : (get_or t p 0 ≡ 4097 → ⊥) → Indexing index n (p + 1) t
  indexing_skip other = record { size = w.size; p_le = omega arith; each = λ q k. go q (w.each q k) }
    where
      go : (q : ℕ) → (get_or t q 0 ≡ index q) ⊎ ((p ≤ q) × (get_or t q 0 ≡ 4097)) → (get_or t q 0 ≡ index q) ⊎ ((p + 1 ≤ q) × (get_or t q 0 ≡ 4097))
      go q (inl e) = inl e
      go q (inr e) = inr (above (λ s. other (ap (λ (j : ℕ). get_or t j 0) s ∙ e.1)) e.0, e.1)

  -- a dart that has no index
  pub indexing_away : index p ≡ 4097 → Indexing index n (p + 1) t
  indexing_away none = record { size = w.size; p_le = omega arith; each = λ q k. go q (w.each q k) }
    where
      go : (q : ℕ) → (get_or t q 0 ≡ index q) ⊎ ((p ≤ q) × (get_or t q 0 ≡ 4097)) → (get_or t q 0 ≡ index q) ⊎ ((p + 1 ≤ q) × (get_or t q 0 ≡ 4097))
      go q (inl e) = inl e
      go q (inr e) = eq_or_ne p q (λ s. inl (e.1 ∙ sym none ∙ ap index s)) (λ s. inr (above s e.0, e.1))

  -- the face of one
  pub indexing_face : {f t' : List ℕ} {v : ℕ} → v ≡ index p → In p f → ((q : ℕ) → In q f → index q ≡ index p) → Assigned v f t t' → Indexing index n (p + 1) t'
  indexing_face {f} {t'} {v} e self along d =
      record {
        size = omega (arith, d.size, w.size);
        p_le = omega arith;
        each = λ q k. by_cases (mem q f) (λ i. inl (d.value q ∙ rw i (e ∙ sym (along q i)))) (λ i. go q i (w.each q k));
      }
    where
      go : (q : ℕ) → mem q f ≡ false → (get_or t q 0 ≡ index q) ⊎ ((p ≤ q) × (get_or t q 0 ≡ 4097)) → (get_or t' q 0 ≡ index q) ⊎ ((p + 1 ≤ q) × (get_or t' q 0 ≡ 4097))
      go q i (inl a) = inl (d.value q ∙ rw i a)
      go q i (inr a) = inr (above (λ s. true≢false (sym (in_eq q p f (sym s) self) ∙ i)) a.0, d.value q ∙ rw i a.1)

pub indexing_end : {index : ℕ → ℕ} {n p : ℕ} {t : List ℕ} → Indexing index n p t → n ≤ p → LeastIndexed index n t
indexing_end {index} {n} {p} {t} w h = record { index_is = λ q k. go q k (w.each q k) }
  where
    go : (q : ℕ) → q < n → (get_or t q 0 ≡ index q) ⊎ ((p ≤ q) × (get_or t q 0 ≡ 4097)) → get_or t q 0 ≡ index q
    go q k (inl e) = e
    go q k (inr e) = absurd (omega (arith, e.0))

-- IN A SOUND BLOCK'S MEMORY
module _ (m : List ℕ) (ok : holds_block m ≡ true) {n : ℕ} (same : n ≡ get_or m 2 0) where
  pub linked_by : Linked m n
  linked_by = subst (Linked m) (sym same) (sited m ok).linked

  pub indexing_whole : (from : ℕ) (codes : List ℕ) (c : ℕ) {p v : ℕ} {t t' : List ℕ} → Indexing (code_index m from codes c) n p t → p < n
      → v ≡ code_index m from codes c p → Assigned v (cycle (column m 1) p) t t'
      → Indexing (code_index m from codes c) n (p + 1) t'
  indexing_whole from codes c {p} w h e d = indexing_face w h e (self_in linked_by p h) (λ q i. index_along m ok from codes c p q (omega arith) i) d
