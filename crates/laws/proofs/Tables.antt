-- Lists by place, `tab f n`, and lookups in a table whose keys ascend: the row of the key at place p is the row at place p.
-- Assumes nothing.
--   find_place, find_none, index_place, index_none    lookups by key
--   tab_ascending, ascending_tab    the model's test of order
use Prim.Native.Nat.{ℕ, zero, suc, ◌<◌, ◌≤◌}
use mathlib.Core.Path.{◌≡◌, refl, sym, ap, ◌∙◌}
use mathlib.Core.Bool.{Bool, true, false, true≢false, not}
use mathlib.Core.List.{List, [], ◌∷◌, ◌++◌, map}
use mathlib.Core.Logic.{◌⊎◌, inl, inr, ⊎_elim}
use mathlib.Core.Option.{none, some}
use native.Mathlib.Omega.{arith}
use lib.Dec.{eqb, ltb}
use lib.ListN.{length, get_or, take}
use borrow.Author.Tests.{eq-eqb, ne_eqb, eqb-true, lt-ltb, ltb-true, not-true}
use Rattle.model.specs.Lists.{all, any, mem, tab, find, index_of, ascending, distinct}
use Rattle.model.specs.Values.{Dart}
use Rattle.model.specs.Cells.{dart_at, held}
use Rattle.laws.specs.Order.{Ascending}
use Rattle.laws.proofs.Tests.{by_cases, lt_or_ge, and_intro, and_left, and_right, or_cases}
use lib.Seq.{ext_get_or, length-take-le, get_or-take}

-- LISTS BY PLACE
module _ {A : Type 0} where
  pub length_tab : (f : ℕ → A) (n : ℕ) → length (tab f n) ≡ n
  length_tab f zero = refl
  length_tab f (suc n) = ap suc (length_tab (λ k. f (suc k)) n)

  pub getD_tab : (f : ℕ → A) (n p : ℕ) (d : A) → p < n → get_or (tab f n) p d ≡ f p
  getD_tab f zero p d h = absurd (omega arith)
  getD_tab f (suc n) zero d h = refl
  getD_tab f (suc n) (suc p) d h = getD_tab (λ k. f (suc k)) n p d (omega arith)

  pub tab_cong : (f g : ℕ → A) (n : ℕ) → ((p : ℕ) → p < n → f p ≡ g p) → tab f n ≡ tab g n
  tab_cong f g zero h = refl
  tab_cong f g (suc n) h = rw (h 0 (omega arith), tab_cong (λ k. f (suc k)) (λ k. g (suc k)) n (λ p l. h (suc p) (omega arith)))

  pub all_tab : (q : A → Bool) (f : ℕ → A) (n : ℕ) → all q (tab f n) ≡ true → (p : ℕ) → p < n → q (f p) ≡ true
  all_tab q f zero e p h = absurd (omega arith)
  all_tab q f (suc n) e zero h = and_left _ _ e
  all_tab q f (suc n) e (suc p) h = all_tab q (λ k. f (suc k)) n (and_right (q (f 0)) _ e) p (omega arith)

  pub tab_all : (q : A → Bool) (f : ℕ → A) (n : ℕ) → ((p : ℕ) → p < n → q (f p) ≡ true) → all q (tab f n) ≡ true
  tab_all q f zero h = refl
  tab_all q f (suc n) h = and_intro (h 0 (omega arith)) (tab_all q (λ k. f (suc k)) n (λ p l. h (suc p) (omega arith)))

  pub tab_any : (q : A → Bool) (f : ℕ → A) (n p : ℕ) → p < n → q (f p) ≡ true → any q (tab f n) ≡ true
  tab_any q f zero p h e = absurd (omega arith)
  tab_any q f (suc n) zero h e = rw e
  tab_any q f (suc n) (suc p) h e = by_cases (q (f 0)) (λ t. rw t) (λ t. rw t (tab_any q (λ k. f (suc k)) n p (omega arith) e))

  pub any_tab : (q : A → Bool) (f : ℕ → A) (n : ℕ) → any q (tab f n) ≡ true → (p : ℕ) × (p < n) × (q (f p) ≡ true)
  any_tab q f zero e = absurd (true≢false (sym e))
  any_tab q f (suc n) e = go (or_cases (q (f 0)) _ e) (any_tab q (λ k. f (suc k)) n)
    where
      go : (q (f 0) ≡ true) ⊎ (any q (tab (λ k. f (suc k)) n) ≡ true)
          → (any q (tab (λ k. f (suc k)) n) ≡ true → (p : ℕ) × (p < n) × (q (f (suc p)) ≡ true))
          → (p : ℕ) × (p < suc n) × (q (f p) ≡ true)
      go (inl t) r = (0, omega arith, t)
      go (inr t) r = let w = r t in (suc w.0, omega (arith, w.1), w.2)

  pub none_tab : (q : A → Bool) (f : ℕ → A) (n : ℕ) → ((p : ℕ) → p < n → q (f p) ≡ false) → any q (tab f n) ≡ false
  none_tab q f zero h = refl
  none_tab q f (suc n) h = rw (h 0 (omega arith)) (none_tab q (λ k. f (suc k)) n (λ p l. h (suc p) (omega arith)))

pub tab_more : {A : Type 0} (f : ℕ → A) (n : ℕ) → tab f (suc n) ≡ tab f n ++ f n ∷ []
tab_more f zero = refl
tab_more f (suc n) = ap (λ (l : List _). f 0 ∷ l) (tab_more (λ k. f (suc k)) n)

pub map_tab : {A B : Type 0} (g : A → B) (f : ℕ → A) (n : ℕ) → map g (tab f n) ≡ tab (λ k. g (f k)) n
map_tab g f zero = refl
map_tab g f (suc n) = ap (λ (l : List _). g (f 0) ∷ l) (map_tab g (λ k. f (suc k)) n)

-- KEYS THAT ASCEND
pub tail_ascends : {n : ℕ} {s : ℕ → ℕ} → Ascending (suc n) s → Ascending n (λ k. s (suc k))
tail_ascends a i j l h = a (suc i) (suc j) (omega arith) (omega arith)

-- one key stands at one place only
pub one_place : {n : ℕ} {s : ℕ → ℕ} → Ascending n s → {p q : ℕ} → p < n → q < n → s p ≡ s q → p ≡ q
one_place {n} {s} a {p} {q} hp hq e = ⊎_elim
    (λ l. absurd (omega (arith, a p q l hq)))
    (λ l. ⊎_elim (λ m. absurd (omega (arith, a q p m hp))) (λ m. omega arith) (lt_or_ge q p))
    (lt_or_ge p q)

pub tab_ascending : (s : ℕ → ℕ) (n : ℕ) → Ascending n s → ascending (tab s n) ≡ true
unfolding ascending
tab_ascending s zero a = refl
tab_ascending s (suc n) a = and_intro (tab_all (ltb (s 0)) (λ k. s (suc k)) n (λ p l. lt-ltb _ _ (a 0 (suc p) (omega arith) (omega arith)))) (tab_ascending (λ k. s (suc k)) n (tail_ascends a))

pub ascending_tab : (s : ℕ → ℕ) (n : ℕ) → ascending (tab s n) ≡ true → Ascending n s
unfolding ascending
ascending_tab s zero e i j l h = absurd (omega arith)
ascending_tab s (suc n) e zero zero l h = absurd (omega arith)
ascending_tab s (suc n) e zero (suc j) l h = ltb-true _ _ (all_tab (ltb (s 0)) (λ k. s (suc k)) n (and_left _ _ e) j (omega arith))
ascending_tab s (suc n) e (suc i) zero l h = absurd (omega arith)
ascending_tab s (suc n) e (suc i) (suc j) l h = ascending_tab (λ k. s (suc k)) n (and_right (all (ltb (s 0)) (tab (λ k. s (suc k)) n)) _ e) i j (omega arith) (omega arith)

-- LOOKUPS: f by place, keyed by key
module _ {A : Type 0} (key : A → ℕ) where
  pub find_place : (f : ℕ → A) (n p : ℕ) → Ascending n (λ k. key (f k)) → p < n → find key (key (f p)) (tab f n) ≡ some (f p)
  find_place f zero p a h = absurd (omega arith)
  find_place f (suc n) zero a h = rw (eq-eqb (key (f 0)) (key (f 0)) refl)
  find_place f (suc n) (suc p) a h =
      rw (ne_eqb (key (f (suc p))) (key (f 0)) (λ e. omega (arith, a 0 (suc p) (omega arith) h))) (find_place (λ k. f (suc k)) n p (tail_ascends a) (omega arith))

  pub find_none : (f : ℕ → A) (n x : ℕ) → ((p : ℕ) → p < n → key (f p) ≡ x → ⊥) → find key x (tab f n) ≡ none
  find_none f zero x h = refl
  find_none f (suc n) x h = rw (ne_eqb x (key (f 0)) (λ e. h 0 (omega arith) (sym e))) (find_none (λ k. f (suc k)) n x (λ p l. h (suc p) (omega arith)))

-- a place is the index of its key
pub index_place : (s : ℕ → ℕ) (n p : ℕ) → Ascending n s → p < n → index_of (s p) (tab s n) ≡ p
unfolding index_of
index_place s zero p a h = absurd (omega arith)
index_place s (suc n) zero a h = rw (eq-eqb (s 0) (s 0) refl)
index_place s (suc n) (suc p) a h = rw (ne_eqb (s (suc p)) (s 0) (λ e. omega (arith, a 0 (suc p) (omega arith) h))) (ap suc (index_place (λ k. s (suc k)) n p (tail_ascends a) (omega arith)))

pub index_none : (s : ℕ → ℕ) (n x : ℕ) → ((p : ℕ) → p < n → s p ≡ x → ⊥) → index_of x (tab s n) ≡ n
unfolding index_of
index_none s zero x h = refl
index_none s (suc n) x h = rw (ne_eqb x (s 0) (λ e. h 0 (omega arith) (sym e))) (ap suc (index_none (λ k. s (suc k)) n x (λ p l. h (suc p) (omega arith))))

-- an index below n is a place of the key, and there is one where the key stands at a place
pub index_held : (s : ℕ → ℕ) (n x : ℕ) → index_of x (tab s n) < n → s (index_of x (tab s n)) ≡ x
unfolding index_of
index_held s zero x h = absurd (omega arith)
index_held s (suc n) x h = by_cases (eqb x (s 0))
    (λ t. rw t (sym (eqb-true x (s 0) t)))
    (λ t. rw t (index_held (λ k. s (suc k)) n x (omega (arith, rw t at h))))

pub index_lt : (s : ℕ → ℕ) (n x p : ℕ) → p < n → s p ≡ x → index_of x (tab s n) < n
unfolding index_of
index_lt s zero x p h e = absurd (omega arith)
index_lt s (suc n) x zero h e = rw (eq-eqb x (s 0) (sym e)) (omega arith)
index_lt s (suc n) x (suc p) h e = by_cases (eqb x (s 0))
    (λ t. rw t (omega arith))
    (λ t. rw t (omega (arith, index_lt (λ k. s (suc k)) n x p (omega arith) e)))

-- a key is held where it stands at a place
pub mem_place : (s : ℕ → ℕ) (n p x : ℕ) → p < n → s p ≡ x → mem x (tab s n) ≡ true
mem_place s n p x h e = tab_any (eqb x) s n p h (eq-eqb _ _ (sym e))

pub place_mem : (s : ℕ → ℕ) (n x : ℕ) → mem x (tab s n) ≡ true → (p : ℕ) × (p < n) × (s p ≡ x)
place_mem s n x e = let w = any_tab (eqb x) s n e in (w.0, w.1, sym (eqb-true _ _ w.2))

pub mem_none : (s : ℕ → ℕ) (n x : ℕ) → ((p : ℕ) → p < n → s p ≡ x → ⊥) → mem x (tab s n) ≡ false
mem_none s n x h = none_tab (eqb x) s n (λ p l. ne_eqb x (s p) (λ e. h p l (sym e)))

-- THE BRIDGE from places to serials, for darts
pub dart_place : (f : ℕ → Dart) (n p : ℕ) → Ascending n (λ k. (f k).serial) → p < n → dart_at (tab f n) (f p).serial ≡ f p
unfolding dart_at
dart_place f n p a h = rw (find_place (λ d. d.serial) f n p a h)

pub held_place : (f : ℕ → Dart) (n p x : ℕ) → p < n → x ≡ (f p).serial → held (tab f n) x ≡ true
held_place f n p x h e = rw (map_tab (λ d. d.serial) f n) (tab_any (eqb x) (λ k. (f k).serial) n p h (eq-eqb _ _ e))

pub place_held : (f : ℕ → Dart) (n x : ℕ) → held (tab f n) x ≡ true → (p : ℕ) × (p < n) × (x ≡ (f p).serial)
place_held f n x e =
    let w = any_tab (eqb x) (λ k. (f k).serial) n (rw (map_tab (λ d. d.serial) f n) at e) in
    (w.0, w.1, eqb-true _ _ w.2)

-- one to one below n is a list without a value twice
pub tab_apart : (f : ℕ → ℕ) (n : ℕ) → distinct (tab f n) ≡ true → (i j : ℕ) → i < n → j < n → f i ≡ f j → i ≡ j
tab_apart f zero d i j a b e = absurd (omega arith)
tab_apart f (suc n) d zero zero a b e = refl
tab_apart f (suc n) d zero (suc j) a b e = absurd (true≢false (sym (mem_place (λ i. f (suc i)) n j (f 0) (omega arith) (sym e)) ∙ not-true _ (and_left (not (mem (f 0) (tab (λ i. f (suc i)) n))) _ d)))
tab_apart f (suc n) d (suc i) zero a b e = absurd (true≢false (sym (mem_place (λ i. f (suc i)) n i (f 0) (omega arith) e) ∙ not-true _ (and_left (not (mem (f 0) (tab (λ i. f (suc i)) n))) _ d)))
tab_apart f (suc n) d (suc i) (suc j) a b e = ap suc (tab_apart (λ i. f (suc i)) n (and_right (not (mem (f 0) (tab (λ i. f (suc i)) n))) _ d) i j (omega arith) (omega arith) e)

pub tab_distinct : (f : ℕ → ℕ) (n : ℕ) → ((i j : ℕ) → i < n → j < n → f i ≡ f j → i ≡ j) → distinct (tab f n) ≡ true
tab_distinct f zero h = refl
tab_distinct f (suc n) h =
    and_intro
    (ap not (mem_none (λ i. f (suc i)) n (f 0) (λ p l e. let r = h (suc p) 0 (omega arith) (omega arith) e in omega (arith, r))))
    (tab_distinct (λ i. f (suc i)) n (λ i j a b e. let r = h (suc i) (suc j) (omega arith) (omega arith) e in omega (arith, r)))

-- the row whose key no other row has
pub find_only : {A : Type 0} (key : A → ℕ) (f : ℕ → A) (n p : ℕ) → p < n → ((i : ℕ) → i < n → key (f i) ≡ key (f p) → i ≡ p) → find key (key (f p)) (tab f n) ≡ some (f p)
find_only key f zero p h only = absurd (omega arith)
find_only key f (suc n) zero h only = rw (eq-eqb (key (f 0)) (key (f 0)) refl) refl
find_only key f (suc n) (suc p) h only = by_cases (eqb (key (f (suc p))) (key (f 0)))
    (λ e. absurd (let z = only 0 (omega arith) (sym (eqb-true (key (f (suc p))) (key (f 0)) e)) in omega (arith, z)))
    (λ e. rw e (find_only key (λ k. f (suc k)) n p (omega (arith, h)) (λ i l u. let z = only (suc i) (omega (arith, l)) u in omega (arith, z))))

-- the front of a list
pub tab_take : (l : List ℕ) (n : ℕ) → n ≤ length l → tab (λ p. get_or l p 0) n ≡ take n l
tab_take l n h =
    ext_get_or 0 _ _ (length_tab _ n ∙ sym (length-take-le n l h))
    (λ i g. let d : i < n = omega (arith, g, length_tab (λ p. get_or l p 0) n) in getD_tab (λ p. get_or l p 0) n i 0 d ∙ sym (get_or-take n l i 0 d))
