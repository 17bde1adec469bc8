-- What is counted into a table: each element of a list counts one at its index. Assumes nothing.
use mathlib.Core.Path.{◌≡◌, refl, sym, ap, ◌∙◌, subst}
use mathlib.Core.Bool.{Bool, true, false}
use mathlib.Core.List.{List, [], ◌∷◌, ◌++◌, append-nil}
use Prim.Native.Nat.{ℕ, ◌+◌, ◌*◌, ◌/◌, ◌%◌, ◌≤◌, ◌<◌, ◌^◌}
use native.Mathlib.Numerals.{add-one}
use native.Mathlib.Omega.{arith}
use lib.Dec.{eqb}
use lib.ListN.{length, get_or, set, take, length-set, length-append}
use lib.Seq.{get_or-set_same, get_or-set_other, take_all, length-take-le}
use borrow.Author.Tests.{eq-eqb, ne_eqb}
use Rattle.model.specs.Lists.{keep, tab}
use Rattle.model.specs.Image.{column}
use Rattle.model.specs.Values.{room}
use Rattle.laws.proofs.Members.{keep_le}
use Rattle.laws.proofs.Maps.{tab_more}
use Rattle.laws.proofs.Tables.{length_tab}
use Rattle.cells.proofs.Walks.{eq_or_ne, last_or_below}
use Rattle.cells.proofs.FaceLaws.{keep_append}
use Rattle.stats.specs.Counting.{head_word, CountHeaded, cell_word, Countable, CountTold, face_starts, CountStarted}
use Rattle.laws.proofs.Lists.{take_more}

-- NOTHING COUNTED YET
pub counted_none : (index : ℕ → ℕ) (T : List ℕ) → CountTold index [] T T
counted_none index T = record { len = refl; value = λ i. omega arith }

-- ONE ELEMENT MORE
hits_more : (index : ℕ → ℕ) (l : List ℕ) (x i : ℕ) → length (keep (λ y. eqb (index y) i) (l ++ x ∷ [])) ≡ length (keep (λ y. eqb (index y) i) l) + length (keep (λ y. eqb (index y) i) (x ∷ []))
hits_more index l x i = ap length (keep_append (λ y. eqb (index y) i) l (x ∷ [])) ∙ length-append (keep (λ y. eqb (index y) i) l) (keep (λ y. eqb (index y) i) (x ∷ []))

pub counted_more : {index : ℕ → ℕ} {l T T' : List ℕ} → CountTold index l T T' → (x i : ℕ) → i ≡ index x → i < length T
    → {T'' : List ℕ} → T'' ≡ set T' i (get_or T' i 0 + 1) → CountTold index (l ++ x ∷ []) T T''
counted_more {index} {l} {T} {T'} w x i e h {T''} s = record {
  len = ap length s ∙ simp length-set w.len;
  value = λ k. ap (λ (t : List ℕ). get_or t k 0) s ∙ eq_or_ne k i (λ same. hit k same) (λ other. miss k other);
}
  where
    hit : (k : ℕ) → k ≡ i → get_or (set T' i (get_or T' i 0 + 1)) k 0 ≡ get_or T k 0 + length (keep (λ y. eqb (index y) k) (l ++ x ∷ []))
    hit k same =
        let one : length (keep (λ y. eqb (index y) k) (x ∷ [])) ≡ 1 = rw (eq-eqb (index x) k (sym e ∙ sym same)) refl in
        let at : get_or (set T' i (get_or T' i 0 + 1)) k 0 ≡ get_or T' k 0 + 1 = rw same (get_or-set_same T' i (get_or T' i 0 + 1) 0 (omega (arith, w.len))) in
        omega (arith, w.value k, hits_more index l x k)

    miss : (k : ℕ) → (k ≡ i → ⊥) → get_or (set T' i (get_or T' i 0 + 1)) k 0 ≡ get_or T k 0 + length (keep (λ y. eqb (index y) k) (l ++ x ∷ []))
    miss k other =
        let none : length (keep (λ y. eqb (index y) k) (x ∷ [])) ≡ 0 = rw (ne_eqb (index x) k (λ q. other (sym q ∙ sym e))) refl in
        let at : get_or (set T' i (get_or T' i 0 + 1)) k 0 ≡ get_or T' k 0 = get_or-set_other T' i k (get_or T' i 0 + 1) 0 other in
        omega (arith, w.value k, hits_more index l x k)

pub counted_le : {index : ℕ → ℕ} {l T T' : List ℕ} → CountTold index l T T' → (i : ℕ) → get_or T' i 0 ≤ get_or T i 0 + length l
counted_le {index} {l} w i = omega (arith, w.value i, keep_le (λ x. eqb (index x) i) l)

-- LISTS that grow by one
pub places_more : (p : ℕ) → tab (λ q. q) (p + 1) ≡ tab (λ q. q) p ++ p ∷ []
places_more p = ap (tab (λ q. q)) (add-one p) ∙ sym (tab_more (λ x. x) p)

-- WHAT COUNTING ASKS
module _ {m G T : List ℕ} (c : Countable (2 ^ 33) m G T) (few : get_or m 2 0 ≤ room) {q : ℕ} (h : q < get_or m 2 0) where
  pub word_ready : (j : ℕ) → j < 19 → (q < room) × (q < length G) × (0 < get_or G q 0) × (get_or G q 0 ≤ room) × (j < 19)
  word_ready j l = (omega arith, omega (arith, c.len), (c.within q h).0, (c.within q h).1, l)

  pub add_ready : {index : ℕ → ℕ} {l T' : List ℕ} → CountTold index l T T' → length l ≤ room → (j i : ℕ) → j < 19 → i ≡ cell_word G j q
      → (i < length T') × (i < 19 * room) × (get_or T' i 0 ≤ 2 ^ 34)
  add_ready {index} {l} {T'} w short j i less e =
      let r = c.within q h in
      let low : get_or T i 0 ≤ 2 ^ 33 = rw e (c.small q j h less) in
      (omega (arith, w.len, r.0, r.2), omega (arith, r.0, r.1), omega (arith, counted_le w i))

  pub word_there : (j i : ℕ) → j < 19 → i ≡ cell_word G j q → i < length T
  word_there j i less e = let r = c.within q h in omega (arith, r.0, r.2)

-- ALL PLACES: those below p are counted
pub record Darts (m G T : List ℕ) (p : ℕ) (T' : List ℕ) : Type 0 where
  pub p_le : p ≤ get_or m 2 0
  pub counted : CountTold (cell_word G 1) (tab (λ q. q) p) T T'

pub darts_start : (m G T : List ℕ) → Darts m G T 0 T
darts_start m G T = record { p_le = omega arith; counted = counted_none (cell_word G 1) T }

module _ {m G T : List ℕ} (c : Countable (2 ^ 33) m G T) (few : get_or m 2 0 ≤ room) {p : ℕ} {T' : List ℕ} (w : Darts m G T p T') where
  pub darts_ready : p < get_or m 2 0 → {i : ℕ} → i ≡ cell_word G 1 p → (i < length T') × (i < 19 * room) × (get_or T' i 0 ≤ 2 ^ 34)
  darts_ready h {i} e = add_ready c few h w.counted (omega (arith, length_tab (λ (q : ℕ). q) p)) 1 i (omega arith) e

  pub darts_more : p < get_or m 2 0 → {i : ℕ} → i ≡ cell_word G 1 p → {T'' : List ℕ} → T'' ≡ set T' i (get_or T' i 0 + 1) → Darts m G T (p + 1) T''
  darts_more h {i} e {T''} s = record {
    p_le = omega arith;
    counted = subst (λ (l : List ℕ). CountTold (cell_word G 1) l T T'') (sym (places_more p)) (counted_more w.counted p i e (word_there c few h 1 i (omega arith) e) s);
  }

  pub darts_all : get_or m 2 0 ≤ p → CountTold (cell_word G 1) (tab (λ q. q) (get_or m 2 0)) T T'
  darts_all h = let e : p ≡ get_or m 2 0 = omega (arith, w.p_le) in subst (λ (k : ℕ). CountTold (cell_word G 1) (tab (λ q. q) k) T T') e w.counted

-- ALL FACES: of those before f the starts that pass are counted
pub record Faces (m : List ℕ) (index : ℕ → ℕ) (test : ℕ → Bool) (T : List ℕ) (count f : ℕ) (T' : List ℕ) : Type 0 where
  pub f_le : f ≤ count
  pub counted : CountTold index (keep test (take f (face_starts m))) T T'

pub faces_start : (m : List ℕ) (index : ℕ → ℕ) (test : ℕ → Bool) (T : List ℕ) (count : ℕ) → Faces m index test T count 0 T
faces_start m index test T count = record { f_le = omega arith; counted = counted_none index T }

module _ {m out starts : List ℕ} {count : ℕ} (s : CountStarted m out starts count) {index : ℕ → ℕ} {test : ℕ → Bool} {T : List ℕ} {f : ℕ} {T' : List ℕ} (w : Faces m index test T count f T') where
  pub faces_few : length (keep test (take f (face_starts m))) ≤ room
  faces_few = omega (arith, keep_le test (take f (face_starts m)), length-take-le f (face_starts m) (omega (arith, w.f_le, s.count_is)), w.f_le, s.few)

  module _ (h : f < count) {p : ℕ} (e : p ≡ get_or out (get_or starts f 0) 0) where
    start : p ≡ get_or (face_starts m) f 0
    start = e ∙ s.start_is f h

    pub face_below : p < get_or m 2 0
    face_below = rw start (s.start_below f h)

    one_more : keep test (take (f + 1) (face_starts m)) ≡ keep test (take f (face_starts m)) ++ keep test (p ∷ [])
    one_more =
        ap (keep test) (take_more (face_starts m) f (omega (arith, s.count_is)) ∙ ap (λ (x : ℕ). take f (face_starts m) ++ x ∷ []) (sym start))
        ∙ keep_append test (take f (face_starts m)) (p ∷ [])

    pub faces_skip : test p ≡ false → Faces m index test T count (f + 1) T'
    faces_skip no_test = record {
      f_le = omega arith;
      counted = subst (λ (l : List ℕ). CountTold index l T T') (sym (one_more ∙ rw no_test (append-nil (keep test (take f (face_starts m)))))) w.counted;
    }

    pub faces_more : test p ≡ true → {i : ℕ} → i ≡ index p → i < length T → {T'' : List ℕ} → T'' ≡ set T' i (get_or T' i 0 + 1) → Faces m index test T count (f + 1) T''
    faces_more has-test {i} ei there {T''} st = record {
      f_le = omega arith;
      counted = subst (λ (l : List ℕ). CountTold index l T T'') (sym (one_more ∙ rw has-test refl)) (counted_more w.counted p i ei there st);
    }

  pub faces_all : count ≤ f → CountTold index (keep test (face_starts m)) T T'
  faces_all h = subst (λ (l : List ℕ). CountTold index (keep test l) T T') (take_all f (face_starts m) (omega (arith, s.count_is))) w.counted

-- every face counts
abbrev pub each : ℕ → Bool
each x = true

pub keep_every : (l : List ℕ) → keep each l ≡ l
keep_every [] = refl
keep_every (x ∷ l) = ap (λ (t : List ℕ). x ∷ t) (keep_every l)

-- THE ROWS before anything is counted
pub record Heading (m firsts : List ℕ) (i : ℕ) (T T' : List ℕ) : Type 0 where
  pub len : length T' ≡ length T
  pub head : (k : ℕ) → k < i → get_or T' k 0 ≡ head_word m firsts k
  pub rest : (k : ℕ) → i ≤ k → get_or T' k 0 ≡ get_or T k 0

pub heading_start : (m firsts T : List ℕ) → Heading m firsts 0 T T
heading_start m firsts T = record { len = refl; head = λ k l. absurd (omega arith); rest = λ k l. refl }

pub heading_more : {m firsts : List ℕ} {i : ℕ} {T T' : List ℕ} → Heading m firsts i T T' → i < length T → {v : ℕ} → v ≡ head_word m firsts i → Heading m firsts (i + 1) T (set T' i v)
heading_more {m} {firsts} {i} {T} {T'} w h {v} e = record {
  len = simp length-set w.len;
  head = λ k l. last_or_below l
      (λ same. rw same (get_or-set_same T' i v 0 (omega (arith, w.len)) ∙ e))
      (λ below. get_or-set_other T' i k v 0 (λ same. omega arith) ∙ w.head k below);
  rest = λ k l. get_or-set_other T' i k v 0 (λ same. omega arith) ∙ w.rest k (omega arith);
}

pub heading_all : {m firsts : List ℕ} {i end : ℕ} {T T' : List ℕ} → Heading m firsts i T T' → i ≡ end → CountHeaded m firsts end T T'
heading_all {m} {firsts} {i} {end} {T} {T'} w e = record { len = w.len; head = λ k l. w.head k (omega arith); rest = λ k l. w.rest k (omega arith) }

pub head_zero : (m firsts : List ℕ) (i : ℕ) → (i % 19 ≡ 0 → ⊥) → 0 ≡ head_word m firsts i
head_zero m firsts i h = rw (ne_eqb (i % 19) 0 h)

pub head_serial : (m firsts : List ℕ) (i : ℕ) → i % 19 ≡ 0 → {v : ℕ} → v ≡ column m 0 (get_or firsts (i / 19) 0) → v ≡ head_word m firsts i
head_serial m firsts i h e = rw (eq-eqb (i % 19) 0 h) e
