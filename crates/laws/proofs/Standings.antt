-- Laws of texts that stand at places: one after another, and in pieces of one length. Assumes nothing.
use mathlib.Core.Path.{◌≡◌, sym, ◌∙◌, ap}
use mathlib.Core.List.{List, [], ◌∷◌, ◌++◌}
use mathlib.Core.Logic.{⊎_elim}
use Prim.Native.Nat.{ℕ, zero, suc, ◌+◌, ◌*◌, ◌-◌, ◌≤◌, ◌<◌}
use native.Mathlib.Nat.{add_assoc, mul-suc}
use native.Mathlib.Omega.{arith}
use lib.ListN.{length, get_or, take, drop, replicate, length-append, length-replicate, get_or-replicate, length-drop, get_or-append}
use lib.Seq.{get_or-append-add, get_or-take, get_or-drop, ext_get_or, length-take-le}
use Rattle.model.specs.Lists.{concat, tab}
use Rattle.laws.specs.Standing.{Stands}
use Rattle.laws.proofs.Tests.{lt_or_ge}

module _ {bs : List ℕ} {at : ℕ} where
  pub stands_left : (a b : List ℕ) → Stands bs at (a ++ b) → Stands bs at a
  stands_left a b s = record {
    within = omega (arith, s.within, length-append a b);
    same = λ i h. s.same i (omega (arith, length-append a b)) ∙ get_or-append a b 0 i h;
  }

  pub stands_right : (a b : List ℕ) → Stands bs at (a ++ b) → Stands bs (at + length a) b
  stands_right a b s = record {
    within = omega (arith, s.within, length-append a b);
    same = λ i h. ap (λ (k : ℕ). get_or bs k 0) (add_assoc at (length a) i) ∙ s.same (length a + i) (omega (arith, length-append a b)) ∙ get_or-append-add a b i 0;
  }

  pub stands_both : (a b : List ℕ) → Stands bs at a → Stands bs (at + length a) b → Stands bs at (a ++ b)
  stands_both a b s t = record {
    within = omega (arith, t.within, length-append a b);
    same = λ i h. ⊎_elim
        (λ l. s.same i l ∙ sym (get_or-append a b 0 i l))
        (λ g. let e : i ≡ length a + (i - length a) = omega arith in
        let f : at + i ≡ at + length a + (i - length a) = omega arith in
        ap (λ (k : ℕ). get_or bs k 0) f ∙ t.same (i - length a) (omega (arith, length-append a b)) ∙ sym (get_or-append-add a b (i - length a) 0)
        ∙ ap (λ (k : ℕ). get_or (a ++ b) k 0) (sym e))
        (lt_or_ge i (length a));
  }

  -- at another place that is the same
  pub stands_at : {to : ℕ} {t : List ℕ} → at ≡ to → Stands bs at t → Stands bs to t
  stands_at e s = rw (← e) s

  pub stands_is : {s t : List ℕ} → s ≡ t → Stands bs at s → Stands bs at t
  stands_is e s = rw (← e) s

  pub stands_take : {t : List ℕ} → Stands bs at t → take (length t) (drop at bs) ≡ t
  stands_take {t} s =
      let l : length (take (length t) (drop at bs)) ≡ length t = length-take-le (length t) (drop at bs) (omega (arith, s.within, length-drop at bs)) in
      ext_get_or 0 (take (length t) (drop at bs)) t l
      (λ i h. get_or-take (length t) (drop at bs) i 0 (omega arith) ∙ get_or-drop at bs i 0 ∙ s.same i (omega arith))

  -- two of one length
  pub stands_one : {s t : List ℕ} → Stands bs at s → Stands bs at t → length s ≡ length t → s ≡ t
  stands_one {s} {t} p q e = ext_get_or 0 s t e (λ i h. sym (p.same i h) ∙ q.same i (omega arith))

-- from the first byte on, and to the last
pub stands_first : (t rest : List ℕ) → Stands (t ++ rest) 0 t
stands_first t rest = record { within = omega (arith, length-append t rest); same = λ i h. rw zero_on (get_or-append t rest 0 i h) }
  where
    zero_on : {i : ℕ} → 0 + i ≡ i
    zero_on {i} = omega arith

pub stands_whole : {bs t : List ℕ} → Stands bs 0 t → length bs ≡ length t → bs ≡ t
stands_whole {bs} {t} s e = ext_get_or 0 bs t e (λ i h. let z : 0 + i ≡ i = omega arith in ap (λ (k : ℕ). get_or bs k 0) (sym z) ∙ s.same i (omega arith))

-- one byte
pub stands_byte : {bs : List ℕ} {at c : ℕ} → at < length bs → get_or bs at 0 ≡ c → Stands bs at (c ∷ [])
stands_byte {bs} {at} {c} h e = record { within = omega arith; same = λ i k. let z : i ≡ 0 = omega arith in rw z (let f : at + 0 ≡ at = omega arith in rw f e) }

pub byte_stands : {bs : List ℕ} {at c : ℕ} → Stands bs at (c ∷ []) → (at < length bs) × (get_or bs at 0 ≡ c)
byte_stands {bs} {at} {c} s = let f : at + 0 ≡ at = omega arith in (omega (arith, s.within), ap (λ (k : ℕ). get_or bs k 0) (sym f) ∙ s.same 0 (omega arith))

-- one byte again and again
pub stands_many : {bs : List ℕ} {at n c : ℕ} → at + n ≤ length bs → ((i : ℕ) → i < n → get_or bs (at + i) 0 ≡ c) → Stands bs at (replicate n c)
stands_many {bs} {at} {n} {c} h e = record {
  within = omega (arith, length-replicate n c);
  same = λ i k. let l : i < n = omega (arith, length-replicate n c) in e i l ∙ sym (get_or-replicate n i c 0 l);
}

pub many_stand : {bs : List ℕ} {at c : ℕ} (n : ℕ) → Stands bs at (replicate n c) → (i : ℕ) → i < n → get_or bs (at + i) 0 ≡ c
many_stand {bs} {at} {c} n s i h = s.same i (omega (arith, length-replicate n c)) ∙ get_or-replicate n i c 0 h

-- PIECES of one length
pub length_pieces : (f : ℕ → List ℕ) (k n : ℕ) → ((i : ℕ) → i < n → length (f i) ≡ k) → length (concat (tab f n)) ≡ k * n
unfolding concat
length_pieces f k zero h = omega arith
length_pieces f k (suc n) h = omega (arith, length-append (f 0) (concat (tab (λ i. f (suc i)) n)), h 0 (omega arith), length_pieces (λ i. f (suc i)) k n (λ i l. h (suc i) (omega arith)), mul-suc k n)

pub stands_pieces : {bs : List ℕ} (f : ℕ → List ℕ) (k n at : ℕ) → ((i : ℕ) → i < n → length (f i) ≡ k) → at ≤ length bs
    → ((i : ℕ) → i < n → Stands bs (at + k * i) (f i)) → Stands bs at (concat (tab f n))
unfolding concat
stands_pieces f k zero at h w s = record { within = omega arith; same = λ i l. absurd (omega arith) }
stands_pieces {bs} f k (suc n) at h w s =
    let z : at + k * 0 ≡ at = omega arith in
    let first = stands_at z (s 0 (omega arith)) in
    let l = h 0 (omega arith) in
    stands_both (f 0) (concat (tab (λ i. f (suc i)) n)) first
    (stands_pieces (λ i. f (suc i)) k n (at + length (f 0)) (λ i g. h (suc i) (omega arith)) first.within
    (λ i g. stands_at (let e : at + k * suc i ≡ at + length (f 0) + k * i = omega (arith, mul-suc k i) in e) (s (suc i) (omega arith))))

pub piece_stands : {bs : List ℕ} (f : ℕ → List ℕ) (k n at : ℕ) → ((i : ℕ) → i < n → length (f i) ≡ k) → Stands bs at (concat (tab f n))
    → (i : ℕ) → i < n → Stands bs (at + k * i) (f i)
unfolding concat
piece_stands f k zero at h s i l = absurd (omega arith)
piece_stands f k (suc n) at h s zero l =
    let z : at ≡ at + k * 0 = omega arith in
    stands_at z (stands_left (f 0) (concat (tab (λ i. f (suc i)) n)) s)
piece_stands f k (suc n) at h s (suc i) l =
    let e : at + length (f 0) + k * i ≡ at + k * suc i = omega (arith, h 0 (omega arith), mul-suc k i) in
    stands_at e (piece_stands (λ i. f (suc i)) k n (at + length (f 0)) (λ i g. h (suc i) (omega arith)) (stands_right (f 0) (concat (tab (λ i. f (suc i)) n)) s) i (omega arith))
