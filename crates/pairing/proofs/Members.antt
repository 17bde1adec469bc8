-- The keys of a mesh: which there are, and how often a code stands among them. Assumes nothing.
use mathlib.Core.Path.{◌≡◌, refl, sym, ap, subst, ◌∙◌}
use mathlib.Core.Bool.{Bool, true, false, true≢false, cond}
use mathlib.Core.List.{List, [], ◌∷◌, ◌++◌}
use mathlib.Core.Logic.{◌⊎◌, inl, inr, ⊎_elim}
use Prim.Native.Nat.{ℕ, zero, suc, ◌+◌, ◌*◌, ◌/◌, ◌≤◌, ◌<◌}
use native.Mathlib.Omega.{arith}
use native.Mathlib.Nat.{eq-or-lt_of_le, le_of_suc-le-suc}
use lib.Dec.{eqb}
use lib.ListN.{length}
use borrow.Author.Tests.{eqb-true, eqb-false, eq-eqb, ne_eqb}
use Rattle.model.specs.Lists.{keep, tab}
use Rattle.model.specs.Values.{Label, Dart, Block, code, has_label}
use Rattle.model.specs.Sound.{all_darts}
use Rattle.model.specs.Image.{column, is_critical_word, third_in, dart_in, block_in}
use Rattle.laws.proofs.Tests.{by_cases}
use Rattle.laws.proofs.Members.{In, in_here, in_cons, in_append_left, in_append_right, append_in}
use Rattle.laws.proofs.Maps.{tab_more}
use Rattle.columns.specs.Columns.{count, Kind}
use Rattle.columns.proofs.Thirds.{label_word}
use Rattle.sort.specs.Order.{weight}
use Rattle.sort.proofs.Order.{total_append}
use Rattle.mesh.specs.Parts.{part}
use Rattle.mesh.proofs.Gathers.{concat_append, one_block}
use Rattle.pairing.specs.Keys.{dart_key, key_of, keys_of, all_keys}
use Rattle.pairing.proofs.InPairs.{times}

-- A KEY TAKEN APART
pub key_code : (a i p : ℕ) → i < 16 → p < 4096 → (a * 65536 + (i * 4096 + p)) / 65536 ≡ a
key_code a i p h l = omega arith

-- WHICH KEYS THERE ARE
-- a critical dart of a block among the first n
pub record Origin (m : List ℕ) (n v : ℕ) : Type 0 where
  pub block : ℕ
  pub place : ℕ
  pub block_lt : block < n
  pub place_lt : place < count (part m block)
  pub labelled : is_critical_word (column (part m block) 3 place) ≡ true
  pub is : v ≡ dart_key (part m block) block place

keys_in : (b : List ℕ) (i n v : ℕ) → In v (keys_of b i n) → (p : ℕ) × (p < n) × (is_critical_word (column b 3 p) ≡ true) × (v ≡ dart_key b i p)
unfolding keys_of
keys_in b i zero v h = absurd (true≢false (sym h))
keys_in b i (suc n) v h = go (append_in v (keys_of b i n) (key_of b i n) h) (keys_in b i n v)
  where
    last : In v (key_of b i n) → (p : ℕ) × (p < suc n) × (is_critical_word (column b 3 p) ≡ true) × (v ≡ dart_key b i p)
    last k = by_cases (is_critical_word (column b 3 n))
        (λ e. let k' : In v (dart_key b i n ∷ []) = rw e at k in
        (n, omega arith, e, in_cons v (dart_key b i n) [] k' (λ q. q) (λ q. absurd (true≢false (sym q)))))
        (λ e. let k' : In v [] = rw e at k in absurd (true≢false (sym k')))

    go : In v (keys_of b i n) ⊎ In v (key_of b i n) → (In v (keys_of b i n) → (p : ℕ) × (p < n) × (is_critical_word (column b 3 p) ≡ true) × (v ≡ dart_key b i p))
        → (p : ℕ) × (p < suc n) × (is_critical_word (column b 3 p) ≡ true) × (v ≡ dart_key b i p)
    go (inl k) r = let w = r k in (w.0, omega (arith, w.1), w.2, w.3)
    go (inr k) r = last k

in_keys : (b : List ℕ) (i n p : ℕ) → p < n → is_critical_word (column b 3 p) ≡ true → In (dart_key b i p) (keys_of b i n)
unfolding keys_of
in_keys b i zero p h c = absurd (omega arith)
in_keys b i (suc n) p h c = ⊎_elim
    (λ e. in_append_right (dart_key b i p) (keys_of b i n) (key_of b i n) (last e))
    (λ l. in_append_left (dart_key b i p) (keys_of b i n) (key_of b i n) (in_keys b i n p l c))
    (eq-or-lt_of_le (le_of_suc-le-suc h))
  where
    last : p ≡ n → In (dart_key b i p) (key_of b i n)
    last e = subst (λ (q : ℕ). In (dart_key b i p) (key_of b i q)) e (rw (c) (in_here (dart_key b i p) []))

pub all_in : (m : List ℕ) (n v : ℕ) → In v (all_keys m n) → Origin m n v
unfolding all_keys
all_in m zero v h = absurd (true≢false (sym h))
all_in m (suc n) v h = go (append_in v (all_keys m n) (keys_of (part m n) n (count (part m n))) h) (all_in m n v)
  where
    go : In v (all_keys m n) ⊎ In v (keys_of (part m n) n (count (part m n))) → (In v (all_keys m n) → Origin m n v) → Origin m (suc n) v
    go (inl k) r =
        let w = r k in
        record { block = w.block; place = w.place; block_lt = omega (arith, w.block_lt); place_lt = w.place_lt; labelled = w.labelled; is = w.is }
    go (inr k) r =
        let w = keys_in (part m n) n (count (part m n)) v k in
        record { block = n; place = w.0; block_lt = omega arith; place_lt = w.1; labelled = w.2; is = w.3 }

pub in_all : (m : List ℕ) (n i p : ℕ) → i < n → p < count (part m i) → is_critical_word (column (part m i) 3 p) ≡ true → In (dart_key (part m i) i p) (all_keys m n)
unfolding all_keys
in_all m zero i p h l c = absurd (omega arith)
in_all m (suc n) i p h l c = ⊎_elim
    (λ e. subst (λ (k : ℕ). In (dart_key (part m i) i p) (all_keys m n ++ keys_of (part m k) k (count (part m k)))) e
    (in_append_right (dart_key (part m i) i p) (all_keys m n) (keys_of (part m i) i (count (part m i))) (in_keys (part m i) i (count (part m i)) p l c)))
    (λ k. in_append_left (dart_key (part m i) i p) (all_keys m n) (keys_of (part m n) n (count (part m n))) (in_all m n i p k l c))
    (eq-or-lt_of_le (le_of_suc-le-suc h))

-- HOW OFTEN A CODE STANDS: as often as its label among the darts
pub suc_eqb : (a b : ℕ) → eqb (suc a) (suc b) ≡ eqb a b
suc_eqb a b = by_cases (eqb a b)
    (λ e. rw e (eq-eqb (suc a) (suc b) (ap suc (eqb-true a b e))))
    (λ e. rw e (ne_eqb (suc a) (suc b) (λ q. eqb-false a b e (omega (arith, q)))))

keep_append : (q : Dart → Bool) (x y : List Dart) → length (keep q (x ++ y)) ≡ length (keep q x) + length (keep q y)
keep_append q [] y = omega arith
keep_append q (d ∷ x) y = by_cases (q d)
    (λ e. rw e (omega (arith, keep_append q x y)))
    (λ e. rw e (keep_append q x y))

one_kept : (q : Dart → Bool) (d : Dart) → length (keep q (d ∷ [])) ≡ weight (q d)
one_kept q d = by_cases (q d) (λ e. rw e refl) (λ e. rw e refl)

-- one dart
one_dart : (l : Label) (b : List ℕ) (i p : ℕ) → i < 16 → p < 4096 → Kind (column b 3 p) (column b 4 p)
    → weight (has_label l (third_in (column b 0) (column b 3 p) (column b 4 p))) ≡ times (code l) (key_of b i p)
one_dart l b i p hi hp kind = by_cases (is_critical_word (column b 3 p))
    (λ e. ap (λ (x : ℕ). weight (eqb (suc (code l)) x)) (label_word (column b 0) (column b 3 p) (column b 4 p) kind) ∙ yes e)
    (λ e. ap (λ (x : ℕ). weight (eqb (suc (code l)) x)) (label_word (column b 0) (column b 3 p) (column b 4 p) kind) ∙ not_it e)
  where
    yes : is_critical_word (column b 3 p) ≡ true → weight (eqb (suc (code l)) (cond (is_critical_word (column b 3 p)) (suc (column b 4 p)) 0)) ≡ times (code l) (key_of b i p)
    yes e = rw e (ap weight (suc_eqb (code l) (column b 4 p) ∙ ap (eqb (code l)) (sym (key_code (column b 4 p) i p hi hp))) ∙ plus_zero (weight (eqb (code l) (dart_key b i p / 65536))))
      where
        plus_zero : (n : ℕ) → n ≡ n + 0
        plus_zero n = omega arith

    not_it : is_critical_word (column b 3 p) ≡ false → weight (eqb (suc (code l)) (cond (is_critical_word (column b 3 p)) (suc (column b 4 p)) 0)) ≡ times (code l) (key_of b i p)
    not_it e = rw e (ap weight (ne_eqb (suc (code l)) 0 (λ q. omega (arith, q))))

-- the darts of a block
block_times : (l : Label) (b : List ℕ) (i n : ℕ) → i < 16 → n ≤ 4096 → ((p : ℕ) → p < n → Kind (column b 3 p) (column b 4 p))
    → length (keep (λ c. has_label l c.third) (tab (dart_in b) n)) ≡ times (code l) (keys_of b i n)
unfolding keys_of
block_times l b i zero hi hn kinds = refl
block_times l b i (suc n) hi hn kinds =
    ap (λ (x : List Dart). length (keep (λ c. has_label l c.third) x)) (sym (tab_more (dart_in b) n))
    ∙ keep_append (λ c. has_label l c.third) (tab (dart_in b) n) (dart_in b n ∷ [])
    ∙ sums (block_times l b i n hi (omega arith) (λ p h. kinds p (omega arith))) (one_kept (λ c. has_label l c.third) (dart_in b n) ∙ one_dart l b i n hi (omega arith) (kinds n (omega arith)))
    ∙ sym (total_append (λ y. eqb (code l) (y / 65536)) (keys_of b i n) (key_of b i n))
  where
    sums : {a b c d : ℕ} → a ≡ b → c ≡ d → a + c ≡ b + d
    sums e f = omega arith

-- of all blocks
pub all_times : (l : Label) (m : List ℕ) (n : ℕ) → n ≤ 16 → ((i : ℕ) → i < n → count (part m i) ≤ 4096)
    → ((i p : ℕ) → i < n → p < count (part m i) → Kind (column (part m i) 3 p) (column (part m i) 4 p))
    → length (keep (λ c. has_label l c.third) (all_darts (tab (λ i. block_in (part m i)) n))) ≡ times (code l) (all_keys m n)
unfolding all_keys all_darts
all_times l m zero hn few kinds = refl
all_times l m (suc n) hn few kinds =
    ap (λ (x : List Block). length (keep (λ c. has_label l c.third) (all_darts x))) (sym (tab_more (λ i. block_in (part m i)) n))
    ∙ ap (λ (x : List Dart). length (keep (λ c. has_label l c.third) x))
    (concat_append (tab (λ i. block_in (part m i)) n) (block_in (part m n) ∷ [])
    ∙ ap (λ (x : List Dart). all_darts (tab (λ i. block_in (part m i)) n) ++ x) (one_block (block_in (part m n))))
    ∙ keep_append (λ c. has_label l c.third) (all_darts (tab (λ i. block_in (part m i)) n)) (tab (dart_in (part m n)) (count (part m n)))
    ∙ sums (all_times l m n (omega arith) (λ i h. few i (omega arith)) (λ i p h. kinds i p (omega arith)))
    (block_times l (part m n) n (count (part m n)) (omega arith) (few n (omega arith)) (λ p h. kinds n p (omega arith) h))
    ∙ sym (total_append (λ y. eqb (code l) (y / 65536)) (all_keys m n) (keys_of (part m n) n (count (part m n))))
  where
    sums : {a b c d : ℕ} → a ≡ b → c ≡ d → a + c ≡ b + d
    sums e f = omega arith
