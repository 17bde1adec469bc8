-- A interleave of records by ascending keys: where each stands, that every place has one, and that the keys ascend. Assumes nothing.
--   by_interleaving     a interleave is made from the front, each record behind all that are there
--   interleaved_rows     how many, and where each stands
--   interleaved_keys     the keys ascend
--   map_interleave, keep_interleave    a map of a interleave, and the records of one side
use mathlib.Core.Path.{◌≡◌, refl, sym, ◌∙◌, ap, subst}
use mathlib.Core.Bool.{Bool, true, false}
use mathlib.Core.List.{List, [], ◌∷◌, ◌++◌, map, append-nil}
use mathlib.Core.Logic.{◌⊎◌, inl, inr, ⊎_elim}
use Prim.Native.Nat.{ℕ, zero, suc, ◌+◌, ◌-◌, ◌≤◌, ◌<◌}
use native.Mathlib.Omega.{arith}
use lib.ListN.{length, get_or, length-append, get_or-append}
use lib.Seq.{get_or_at}
use borrow.Author.Tests.{le-ltb}
use Rattle.model.specs.Lists.{keep, tab, index_of}
use Rattle.laws.specs.Order.{Ascending}
use Rattle.laws.proofs.Tests.{by_cases, lt_or_ge}
use Rattle.laws.proofs.Maps.{tab_more}
use Rattle.laws.proofs.Members.{map_append}
use Rattle.laws.proofs.Tables.{index_place}
use Rattle.theory.proofs.ImageLaws.{tab_list}
use Rattle.cells.proofs.FaceLaws.{keep_append}
use Rattle.join.specs.Interleave.{below, up, Between, last_old, interleave}
use Rattle.join.proofs.Interleaving.{below_is, last_yes, last_no, interleave_old, interleave_new}

-- INDUCTION: the last of the first i and j is behind all others
pub by_interleaving : {s : ℕ → ℕ} {n : ℕ} {f : ℕ → ℕ} {k : ℕ} → Between s n f k → (P : ℕ → ℕ → Type 0) → P 0 0
    → ((p j : ℕ) → p < n → j ≤ k → ((x : ℕ) → x < p → s x < s p) → ((y : ℕ) → y < j → f y < s p) → P p j → P (suc p) j)
    → ((i q : ℕ) → i ≤ n → q < k → ((x : ℕ) → x < i → s x < f q) → ((y : ℕ) → y < q → f y < f q) → P i q → P i (suc q))
    → P n k
by_interleaving {s} {n} {f} {k} w P none old new = go (n + k) n k (omega arith) (omega arith) (omega arith)
  where
    go : (t i j : ℕ) → i + j ≤ t → i ≤ n → j ≤ k → P i j
    go zero i j l il jl =
        let a : 0 ≡ i = omega arith in
        let b : 0 ≡ j = omega arith in
        subst (λ (x : ℕ). P x j) a (subst (P 0) b none)
    go (suc t) i j l il jl = ⊎_elim
        (λ more. by_cases (last_old s f i j)
        (λ e. let r = last_yes w il jl more e in
        let z : suc (i - 1) ≡ i = omega (arith, r.0) in
        subst (λ (x : ℕ). P x j) z (old (i - 1) j (omega arith) jl (λ x h. w.s_up x (i - 1) h (omega arith)) r.1 (go t (i - 1) j (omega arith) (omega arith) jl)))
        (λ e. let r = last_no w il jl e in
        let z : suc (j - 1) ≡ j = omega (arith, r.0) in
        subst (P i) z (new i (j - 1) il (omega arith) r.1 (λ y h. w.f_up y (j - 1) h (omega arith)) (go t i (j - 1) (omega arith) il (omega arith)))))
        (λ none_left. go t i j (omega arith) il jl)
        (lt_or_ge 0 (i + j))

-- WHERE EACH STANDS
pub record Rows {A : Type 0} (s f : ℕ → ℕ) (g h : ℕ → A) (d : A) (i j : ℕ) : Type 0 where
  pub count : length (interleave s f g h i j) ≡ i + j
  pub old_lt : (x : ℕ) → x < i → x + below f j (s x) < i + j
  pub old_at : (x : ℕ) → x < i → get_or (interleave s f g h i j) (x + below f j (s x)) d ≡ g x
  pub new_lt : (y : ℕ) → y < j → y + below s i (f y) < i + j
  pub new_at : (y : ℕ) → y < j → get_or (interleave s f g h i j) (y + below s i (f y)) d ≡ h y
  pub from : (t : ℕ) → t < i + j → ((x : ℕ) × (x < i) × (t ≡ x + below f j (s x))) ⊎ ((y : ℕ) × (y < j) × (t ≡ y + below s i (f y)))

below_skip : (f : ℕ → ℕ) (k v : ℕ) → v ≤ f k → below f (suc k) v ≡ below f k v
unfolding below
below_skip f k v h = rw (le-ltb (f k) v h) refl

below_all : (f : ℕ → ℕ) (k v : ℕ) → ((y : ℕ) → y < k → f y < v) → below f k v ≡ k
below_all f k v h = below_is f k v k (omega arith) h (λ y a b. absurd (omega arith))

last_or : {x p : ℕ} → x < suc p → (x ≡ p) ⊎ (x < p)
last_or {x} {p} h = ⊎_elim inr (λ g. inl (omega arith)) (lt_or_ge x p)

-- one more at the end of a list
module _ {A : Type 0} (d : A) (l : List A) (a : A) (m : List A) (e : m ≡ l ++ a ∷ []) where
  end_at : (t : ℕ) → t ≡ length l → get_or m t d ≡ a
  end_at t q = ap (λ (y : List A). get_or y t d) e ∙ get_or_at l a [] d t (sym q)

  other_at : (t : ℕ) → t < length l → get_or m t d ≡ get_or l t d
  other_at t q = ap (λ (y : List A). get_or y t d) e ∙ get_or-append l (a ∷ []) d t q

  end_count : length m ≡ suc (length l)
  end_count = ap length e ∙ omega (arith, length-append l (a ∷ []))

module _ {A : Type 0} (s f : ℕ → ℕ) (g h : ℕ → A) (d : A) where
  more_old : (p j : ℕ) → ((y : ℕ) → y < j → f y < s p) → Rows s f g h d p j → Rows s f g h d (suc p) j
  more_old p j uf w = record {
    count = omega (arith, w.count, end_count d l (g p) m e);
    old_lt = λ x v. ⊎_elim (λ q. omega (arith, here x q)) (λ q. omega (arith, w.old_lt x q)) (last_or v);
    old_at = λ x v. ⊎_elim
        (λ q. end_at d l (g p) m e (x + below f j (s x)) (omega (arith, here x q, w.count)) ∙ ap g (sym q))
        (λ q. other_at d l (g p) m e (x + below f j (s x)) (omega (arith, w.count, w.old_lt x q)) ∙ w.old_at x q)
        (last_or v);
    new_lt = λ y v. omega (arith, w.new_lt y v, same y v);
    new_at = λ y v. ap (λ (t : ℕ). get_or m (y + t) d) (same y v) ∙ other_at d l (g p) m e (y + below s p (f y)) (omega (arith, w.count, w.new_lt y v)) ∙ w.new_at y v;
    from = λ t v. ⊎_elim
        (λ q. inl (p, omega arith, omega (arith, here p refl)))
        (λ q. ⊎_elim (λ r. inl (r.0, omega (arith, r.1), r.2)) (λ r. inr (r.0, r.1, r.2 ∙ ap (λ (z : ℕ). r.0 + z) (sym (same r.0 r.1)))) (w.from t q))
        (last_or {x = t} {p = p + j} (omega arith));
  }
    where
      l : List A
      l = interleave s f g h p j

      m : List A
      m = interleave s f g h (suc p) j

      e : m ≡ l ++ g p ∷ []
      e = interleave_old s f g h p j uf

      here : (x : ℕ) → x ≡ p → x + below f j (s x) ≡ p + j
      here x q = ap (λ (z : ℕ). z + below f j (s z)) q ∙ ap (λ (z : ℕ). p + z) (below_all f j (s p) uf)

      same : (y : ℕ) → y < j → below s (suc p) (f y) ≡ below s p (f y)
      same y v = below_skip s p (f y) (omega (arith, uf y v))

  more_new : (i q : ℕ) → ((x : ℕ) → x < i → s x < f q) → Rows s f g h d i q → Rows s f g h d i (suc q)
  more_new i q us w = record {
    count = omega (arith, w.count, end_count d l (h q) m e);
    old_lt = λ x v. omega (arith, w.old_lt x v, same x v);
    old_at = λ x v. ap (λ (t : ℕ). get_or m (x + t) d) (same x v) ∙ other_at d l (h q) m e (x + below f q (s x)) (omega (arith, w.count, w.old_lt x v)) ∙ w.old_at x v;
    new_lt = λ y v. ⊎_elim (λ r. omega (arith, here y r)) (λ r. omega (arith, w.new_lt y r)) (last_or v);
    new_at = λ y v. ⊎_elim
        (λ r. end_at d l (h q) m e (y + below s i (f y)) (omega (arith, here y r, w.count)) ∙ ap h (sym r))
        (λ r. other_at d l (h q) m e (y + below s i (f y)) (omega (arith, w.count, w.new_lt y r)) ∙ w.new_at y r)
        (last_or v);
    from = λ t v. ⊎_elim
        (λ z. inr (q, omega arith, omega (arith, here q refl)))
        (λ z. ⊎_elim (λ r. inl (r.0, r.1, r.2 ∙ ap (λ (u : ℕ). r.0 + u) (sym (same r.0 r.1)))) (λ r. inr (r.0, omega (arith, r.1), r.2)) (w.from t z))
        (last_or {x = t} {p = i + q} (omega arith));
  }
    where
      l : List A
      l = interleave s f g h i q

      m : List A
      m = interleave s f g h i (suc q)

      e : m ≡ l ++ h q ∷ []
      e = interleave_new s f g h i q us

      here : (y : ℕ) → y ≡ q → y + below s i (f y) ≡ i + q
      here y r = ap (λ (z : ℕ). z + below s i (f z)) r ∙ omega (arith, below_all s i (f q) us)

      same : (x : ℕ) → x < i → below f (suc q) (s x) ≡ below f q (s x)
      same x v = below_skip f q (s x) (omega (arith, us x v))

  none_yet : Rows s f g h d 0 0
  unfolding interleave
  none_yet =
      record {
        count = refl;
        old_lt = λ x v. absurd (omega arith);
        old_at = λ x v. absurd (omega arith);
        new_lt = λ y v. absurd (omega arith);
        new_at = λ y v. absurd (omega arith);
        from = λ t v. absurd (omega arith);
      }

pub interleaved_rows : {A : Type 0} {s : ℕ → ℕ} {n : ℕ} {f : ℕ → ℕ} {k : ℕ} → Between s n f k → (g h : ℕ → A) (d : A) → Rows s f g h d n k
interleaved_rows {A} {s} {n} {f} {k} w g h d = by_interleaving w (Rows s f g h d) (none_yet s f g h d) (λ p j a b us uf r. more_old s f g h d p j uf r) (λ i q a b us uf r. more_new s f g h d i q us r)

-- of none
empty_map : {A B : Type 0} (φ : A → B) (s f : ℕ → ℕ) (g h : ℕ → A) (g' h' : ℕ → B) → map φ (interleave s f g h 0 0) ≡ interleave s f g' h' 0 0
unfolding interleave
empty_map φ s f g h g' h' = refl

empty_keep : {A : Type 0} (t : A → Bool) (s f : ℕ → ℕ) (g h : ℕ → A) → keep t (interleave s f g h 0 0) ≡ []
unfolding interleave
empty_keep t s f g h = refl

-- THE KEYS
abbrev pub keys : (ℕ → ℕ) → (ℕ → ℕ) → ℕ → ℕ → List ℕ
keys s f i j = interleave s f s f i j

module _ {s : ℕ → ℕ} {n : ℕ} {f : ℕ → ℕ} {k : ℕ} (w : Between s n f k) where
  -- all are below what is above both
  low : (i j v : ℕ) → Rows s f s f 0 i j → ((x : ℕ) → x < i → s x < v) → ((y : ℕ) → y < j → f y < v) → (t : ℕ) → t < i + j → get_or (keys s f i j) t 0 < v
  low i j v r us uf t h = ⊎_elim
      (λ q. omega (arith, ap (λ (z : ℕ). get_or (keys s f i j) z 0) q.2, r.old_at q.0 q.1, us q.0 q.1))
      (λ q. omega (arith, ap (λ (z : ℕ). get_or (keys s f i j) z 0) q.2, r.new_at q.0 q.1, uf q.0 q.1))
      (r.from t h)

  -- one more, above all
  longer : (l : List ℕ) (a : ℕ) (m : List ℕ) (c : ℕ) → m ≡ l ++ a ∷ [] → length l ≡ c → ((t : ℕ) → t < c → get_or l t 0 < a) → Ascending c (λ t. get_or l t 0) → Ascending (suc c) (λ t. get_or m t 0)
  longer l a m c e size up_to_lem u x y h b = ⊎_elim
      (λ q. omega (arith, end_at 0 l a m e y (q ∙ sym size), other_at 0 l a m e x (omega (arith, size)), up_to_lem x (omega arith)))
      (λ q. omega (arith, other_at 0 l a m e x (omega (arith, size)), other_at 0 l a m e y (omega (arith, size)), u x y h q))
      (last_or b)

  abbrev Order : ℕ → ℕ → Type 0
  Order i j = Rows s f s f 0 i j × Ascending (i + j) (λ t. get_or (keys s f i j) t 0)

  both : Order n k
  both = by_interleaving w Order (none_yet s f s f 0, λ x y h b. absurd (omega arith))
      (λ p j a b us uf r. let z : suc (p + j) ≡ suc p + j = omega arith in
      (more_old s f s f 0 p j uf r.0, subst (λ (c : ℕ). Ascending c (λ t. get_or (keys s f (suc p) j) t 0)) z (longer (keys s f p j) (s p) (keys s f (suc p) j) (p + j) (interleave_old s f s f p j uf) r.0.count (low p j (s p) r.0 us uf) r.1)))
      (λ i q a b us uf r. let z : suc (i + q) ≡ i + suc q = omega arith in
      (more_new s f s f 0 i q us r.0, subst (λ (c : ℕ). Ascending c (λ t. get_or (keys s f i (suc q)) t 0)) z (longer (keys s f i q) (f q) (keys s f i (suc q)) (i + q) (interleave_new s f s f i q us) r.0.count (low i q (f q) r.0 us uf) r.1)))

  pub interleaved_keys : Ascending (n + k) (λ t. get_or (keys s f n k) t 0)
  interleaved_keys = both.1

  -- the place of a key
  index_at : (t : ℕ) → t < n + k → index_of (get_or (keys s f n k) t 0) (keys s f n k) ≡ t
  index_at t h =
      let size : length (keys s f n k) ≡ n + k = both.0.count in
      ap (index_of (get_or (keys s f n k) t 0)) (sym (tab_list 0 (keys s f n k) (λ q. get_or (keys s f n k) q 0) (λ q b. refl)) ∙ ap (tab (λ q. get_or (keys s f n k) q 0)) size)
      ∙ index_place (λ q. get_or (keys s f n k) q 0) (n + k) t interleaved_keys h

  pub index_old : (x : ℕ) → x < n → index_of (s x) (keys s f n k) ≡ up s f k x
  index_old x h = ap (λ (v : ℕ). index_of v (keys s f n k)) (sym (both.0.old_at x h)) ∙ index_at (up s f k x) (both.0.old_lt x h)

  pub index_new : (y : ℕ) → y < k → index_of (f y) (keys s f n k) ≡ up f s n y
  index_new y h = ap (λ (v : ℕ). index_of v (keys s f n k)) (sym (both.0.new_at y h)) ∙ index_at (up f s n y) (both.0.new_lt y h)

  -- A MAP OF A WEAVE
  pub map_interleave : {A B : Type 0} (φ : A → B) (g h : ℕ → A) (g' h' : ℕ → B) → ((p : ℕ) → p < n → φ (g p) ≡ g' p) → ((q : ℕ) → q < k → φ (h q) ≡ h' q)
      → map φ (interleave s f g h n k) ≡ interleave s f g' h' n k
  map_interleave {A} {B} φ g h g' h' eg eh = by_interleaving w (λ i j. map φ (interleave s f g h i j) ≡ interleave s f g' h' i j) start
      (λ p j a b us uf r. ap (map φ) (interleave_old s f g h p j uf) ∙ one (interleave s f g h p j) (g p) (interleave s f g' h' p j) (g' p) r (eg p a) ∙ sym (interleave_old s f g' h' p j uf))
      (λ i q a b us uf r. ap (map φ) (interleave_new s f g h i q us) ∙ one (interleave s f g h i q) (h q) (interleave s f g' h' i q) (h' q) r (eh q b) ∙ sym (interleave_new s f g' h' i q us))
    where
      start : map φ (interleave s f g h 0 0) ≡ interleave s f g' h' 0 0
      start = empty_map φ s f g h g' h'

      one : (l : List A) (a : A) (m : List B) (b : B) → map φ l ≡ m → φ a ≡ b → map φ (l ++ a ∷ []) ≡ m ++ b ∷ []
      one l a m b e c = map_append φ l (a ∷ []) ∙ (λ i. e i ++ c i ∷ [])

  -- THE RECORDS OF ONE SIDE
  pub keep_interleave : {A : Type 0} (t : A → Bool) (g h : ℕ → A) → ((p : ℕ) → p < n → t (g p) ≡ true) → ((q : ℕ) → q < k → t (h q) ≡ false) → keep t (interleave s f g h n k) ≡ tab g n
  keep_interleave {A} t g h eg eh = by_interleaving w (λ i j. keep t (interleave s f g h i j) ≡ tab g i) (empty_keep t s f g h)
      (λ p j a b us uf r. ap (keep t) (interleave_old s f g h p j uf) ∙ keep_append t (interleave s f g h p j) (g p ∷ []) ∙ rw (eg p a, r) (tab_more g p))
      (λ i q a b us uf r. ap (keep t) (interleave_new s f g h i q us) ∙ keep_append t (interleave s f g h i q) (h q ∷ []) ∙ rw (eh q b, r) (append-nil (tab g i)))
