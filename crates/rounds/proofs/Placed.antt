-- The memories of a mesh when one block's memory was replaced. Assumes nothing.
use mathlib.Core.Path.{◌≡◌, refl, sym, ◌∙◌, ap}
use mathlib.Core.Bool.{false, true≢false}
use mathlib.Core.List.{List, [], ◌++◌}
use mathlib.Core.Logic.{⊎_elim}
use Prim.Native.Nat.{ℕ, ◌+◌, ◌*◌, ◌-◌, ◌/◌, ◌%◌, ◌≤◌, ◌<◌}
use native.Mathlib.Omega.{arith}
use lib.Dec.{eqb}
use lib.ListN.{length, get_or, set, take, drop, length-drop, length-set, length-append, get_or-eq_default}
use lib.Seq.{get_or-take, get_or-drop, ext_get_or, take_at, drop_at, length-take-le, drop-drop, get_or-set_same, get_or-set_other, set_out}
use borrow.Author.Tests.{eqb-true, eqb-false, lt-ltb}
use borrow.Rule.Slice.PartMut.{put_mid}
use Rattle.laws.proofs.Tables.{length_tab, getD_tab}
use Rattle.model.specs.Lists.{tab}
use Rattle.model.specs.Values.{is_viewer, limits_in}
use Rattle.model.specs.Image.{words_of}
use Rattle.laws.proofs.Tests.{by_cases, lt_or_ge, and_intro}
use Rattle.rounds.specs.Played.{own_memory, own_memories, owned, Elsewhere}

-- a block's memory lies within its room
pub own_fits : (viewers i : ℕ) → words_of (limits_in viewers i) ≤ 32776
unfolding limits_in
own_fits viewers i = by_cases (is_viewer viewers i) (λ e. rw e (omega arith)) (λ e. rw e (omega arith))

-- a mesh's memory with p for the n words of block i
pub record Replaced (m : List ℕ) (i n : ℕ) (p m' : List ℕ) : Type 0 where
  pub size : length m' ≡ length m
  pub there : take n (drop (i * 32776) m') ≡ p
  pub before : take (i * 32776) m' ≡ take (i * 32776) m
  pub behind : drop (i * 32776 + n) m' ≡ drop (i * 32776 + n) m

cancels : (a n : ℕ) → a + n - a ≡ n
cancels a n = omega arith

-- the part from one end to the other
pub own_is : (viewers : ℕ) (m : List ℕ) (i a n : ℕ) → a ≡ i * 32776 → n ≡ words_of (limits_in viewers i) → take (a + n - a) (drop a m) ≡ own_memory viewers m i
own_is viewers m i a n e f = rw (cancels a n, e, f) refl

-- the part lent on and given back
pub put_back : (m p : List ℕ) (i a n : ℕ) → a ≡ i * 32776 → i < length m / 32776 → n ≤ 32776 → length p ≡ n → Replaced m i n p (put_mid a (a + n - a) m p)
put_back m p i a n ea h s l = rw (cancels a n, ea) (record {
  size = length-append (take (i * 32776) m) (p ++ drop n (drop (i * 32776) m)) ∙ sizes;
  there = ap (take n) (drop_at (take (i * 32776) m) (p ++ drop n (drop (i * 32776) m)) (i * 32776) front) ∙ take_at p (drop n (drop (i * 32776) m)) n l;
  before = take_at (take (i * 32776) m) (p ++ drop n (drop (i * 32776) m)) (i * 32776) front;
  behind = sym (drop-drop n (i * 32776) (take (i * 32776) m ++ (p ++ drop n (drop (i * 32776) m))))
      ∙ ap (drop n) (drop_at (take (i * 32776) m) (p ++ drop n (drop (i * 32776) m)) (i * 32776) front)
      ∙ drop_at p (drop n (drop (i * 32776) m)) n l ∙ drop-drop n (i * 32776) m;
})
  where
    front : length (take (i * 32776) m) ≡ i * 32776
    front = length-take-le (i * 32776) m (omega (arith, h))

    sizes : length (take (i * 32776) m) + length (p ++ drop n (drop (i * 32776) m)) ≡ length m
    sizes =
        let a = length-append p (drop n (drop (i * 32776) m)) in
        let b = length-drop n (drop (i * 32776) m) in
        let d = length-drop (i * 32776) m in
        omega (arith, a, b, d, front, l, h, s)

module _ (viewers : ℕ) where
  abbrev size_of : ℕ → ℕ
  size_of i = words_of (limits_in viewers i)

  -- a word by its place
  own_at : (m : List ℕ) (j t : ℕ) → t < size_of j → get_or (own_memory viewers m j) t 0 ≡ get_or m (j * 32776 + t) 0
  own_at m j t h = get_or-take (size_of j) (drop (j * 32776) m) t 0 h ∙ get_or-drop (j * 32776) m t 0

  pub own_size : (m : List ℕ) (j : ℕ) → j < length m / 32776 → length (own_memory viewers m j) ≡ size_of j
  own_size m j h = length-take-le (size_of j) (drop (j * 32776) m) (let d = length-drop (j * 32776) m in let f = own_fits viewers j in omega (arith, d, h, f))

  module _ {m p m' : List ℕ} {i : ℕ} (w : Replaced m i (size_of i) p m') (h : i < length m / 32776) where
    low : (x : ℕ) → x < i * 32776 → get_or m' x 0 ≡ get_or m x 0
    low x l = sym (get_or-take (i * 32776) m' x 0 l) ∙ ap (λ (q : List ℕ). get_or q x 0) w.before ∙ get_or-take (i * 32776) m x 0 l

    high : (x : ℕ) → get_or m' (i * 32776 + size_of i + x) 0 ≡ get_or m (i * 32776 + size_of i + x) 0
    high x = sym (get_or-drop (i * 32776 + size_of i) m' x 0) ∙ ap (λ (q : List ℕ). get_or q x 0) w.behind ∙ get_or-drop (i * 32776 + size_of i) m x 0

    high_from : (x : ℕ) → i * 32776 + size_of i ≤ x → get_or m' x 0 ≡ get_or m x 0
    high_from x l = let e : i * 32776 + size_of i + (x - (i * 32776 + size_of i)) ≡ x = omega (arith, l) in
        sym (ap (λ (y : ℕ). get_or m' y 0) e) ∙ high (x - (i * 32776 + size_of i)) ∙ ap (λ (y : ℕ). get_or m y 0) e

    apart_word : (j t : ℕ) → (j ≡ i → ⊥) → t < 32776 → get_or m' (j * 32776 + t) 0 ≡ get_or m (j * 32776 + t) 0
    apart_word j t n l = ⊎_elim
        (λ (k : j < i). low (j * 32776 + t) (omega (arith, k, l)))
        (λ (k : i ≤ j). ⊎_elim (λ (g : i < j). high_from (j * 32776 + t) (let f = own_fits viewers i in omega (arith, g, f))) (λ (g : j ≤ i). absurd (n (omega (arith, g, k)))) (lt_or_ge i j))
        (lt_or_ge j i)

    -- the others stay
    apart : (j : ℕ) → (j ≡ i → ⊥) → j < length m / 32776 → own_memory viewers m' j ≡ own_memory viewers m j
    apart j n k =
        let sized = own_size m' j (rw w.size k) in
        ext_get_or 0 (own_memory viewers m' j) (own_memory viewers m j) (sized ∙ sym (own_size m j k))
        (λ t l. let s : t < size_of j = omega (arith, l, sized) in
        own_at m' j t s ∙ apart_word j t n (let f = own_fits viewers j in omega (arith, s, f)) ∙ sym (own_at m j t s))

    pub memories_are : own_memories viewers m' ≡ set (own_memories viewers m) i p
    unfolding own_memories
    memories_are = ext_get_or [] (tab (own_memory viewers m') (length m' / 32776)) (set (tab (own_memory viewers m) (length m / 32776)) i p)
        (length_tab (own_memory viewers m') (length m' / 32776) ∙ ap (λ (n : ℕ). n / 32776) w.size
        ∙ sym (length-set (tab (own_memory viewers m) (length m / 32776)) i p ∙ length_tab (own_memory viewers m) (length m / 32776)))
        (λ j l. each j (below j l))
      where
        below : (j : ℕ) → j < length (tab (own_memory viewers m') (length m' / 32776)) → j < length m / 32776
        below j l = let e = length_tab (own_memory viewers m') (length m' / 32776) in let s = w.size in omega (arith, l, e, s)

        chosen : (j : ℕ) → j < length m / 32776 → own_memory viewers m' j ≡ get_or (set (tab (own_memory viewers m) (length m / 32776)) i p) j []
        chosen j k = by_cases (eqb j i)
            (λ e. let q = eqb-true j i e in rw q (w.there
            ∙ sym (get_or-set_same (tab (own_memory viewers m) (length m / 32776)) i p [] (rw (length_tab (own_memory viewers m) (length m / 32776)) h))))
            (λ e. apart j (eqb-false j i e) k
            ∙ sym (get_or-set_other (tab (own_memory viewers m) (length m / 32776)) i j p [] (eqb-false j i e) ∙ getD_tab (own_memory viewers m) (length m / 32776) j [] k))

        each : (j : ℕ) → j < length m / 32776 → get_or (tab (own_memory viewers m') (length m' / 32776)) j [] ≡ get_or (set (tab (own_memory viewers m) (length m / 32776)) i p) j []
        each j k = getD_tab (own_memory viewers m') (length m' / 32776) j [] (rw w.size k) ∙ chosen j k

    -- a word of no block's memory is not among those
    pub elsewhere_as_was : Elsewhere viewers m m'
    unfolding owned
    elsewhere_as_was = record {
      size = w.size;
      same = λ x e. ⊎_elim (λ (l : x < i * 32776). low x l)
          (λ (l : i * 32776 ≤ x). ⊎_elim
          (λ (k : x < i * 32776 + size_of i). absurd (owns x l k e))
          (λ (k : i * 32776 + size_of i ≤ x). high_from x k) (lt_or_ge x (i * 32776 + size_of i))) (lt_or_ge x (i * 32776));
    }
      where
        in_room : (x : ℕ) → i * 32776 ≤ x → x < i * 32776 + size_of i → (x / 32776 ≡ i) × (x % 32776 < size_of i)
        in_room x l k = let f = own_fits viewers i in (omega (arith, l, k, f), omega (arith, l, k, f))

        owns : (x : ℕ) → i * 32776 ≤ x → x < i * 32776 + size_of i → owned viewers (length m / 32776) x ≡ false → ⊥
        owns x l k e =
            let q = in_room x l k in
            true≢false (sym (unfold owned in (rw q.0 (and_intro (lt-ltb i (length m / 32776) h) (lt-ltb (x % 32776) (size_of i) q.1)))) ∙ e)

  -- the memory of a block that the mesh has
  pub memory_is : (m : List ℕ) (i : ℕ) → i < length m / 32776 → get_or (own_memories viewers m) i [] ≡ own_memory viewers m i
  unfolding own_memories
  memory_is m i h = getD_tab (own_memory viewers m) (length m / 32776) i [] h

  -- and of one that it has not
  pub no_memory : (m : List ℕ) (i : ℕ) → length m / 32776 ≤ i → (get_or (own_memories viewers m) i [] ≡ []) × ((p : List ℕ) → set (own_memories viewers m) i p ≡ own_memories viewers m)
  unfolding own_memories
  no_memory m i h = (
    get_or-eq_default (tab (own_memory viewers m) (length m / 32776)) [] (rw (length_tab (own_memory viewers m) (length m / 32776)) h),
    λ p. set_out (tab (own_memory viewers m) (length m / 32776)) i p (rw (length_tab (own_memory viewers m) (length m / 32776)) h),
  )

  -- ELSEWHERE
  pub nothing_changed : (m : List ℕ) → Elsewhere viewers m m
  nothing_changed m = record { size = refl; same = λ w e. refl }

  pub then_elsewhere : {m m₁ m₂ : List ℕ} → Elsewhere viewers m m₁ → Elsewhere viewers m₁ m₂ → Elsewhere viewers m m₂
  then_elsewhere {m} {m₁} {m₂} v w = record {
    size = w.size ∙ v.size;
    same = λ x e. w.same x (ap (λ (n : ℕ). owned viewers (n / 32776) x) v.size ∙ e) ∙ v.same x e;
  }
