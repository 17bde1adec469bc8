-- Records stored in a block's memory: eight stores are one record, and what each word is afterwards. Assumes nothing.
use Prim.Native.Nat.{ℕ, suc, ◌+◌, ◌*◌, ◌-◌, ◌≤◌, ◌<◌}
use mathlib.Core.Path.{◌≡◌, refl, sym, ap, ◌∙◌}
use mathlib.Core.List.{List, [], ◌∷◌, ◌++◌, append_assoc}
use mathlib.Core.Logic.{⊎_elim}
use native.Mathlib.Omega.{arith}
use lib.ListN.{length, get_or, take, drop, set, length-append, length-drop, get_or-append}
use lib.Seq.{sets-eq, length-take-le, get_or-append-add, get_or-take, get_or-drop, get_or-set_same, get_or-set_other}
use Rattle.laws.proofs.Tests.{lt_or_ge}
use Rattle.model.specs.Image.{column}
use Rattle.memory.specs.Record.{put}

pub stores_are : (b : List ℕ) (p a c d e f g h i : ℕ) → 16 + p * 8 ≤ length b
    → set (set (set (set (set (set (set (set b (8 + p * 8 + 0) a) (8 + p * 8 + 1) c) (8 + p * 8 + 2) d) (8 + p * 8 + 3) e) (8 + p * 8 + 4) f) (8 + p * 8 + 5) g) (8 + p * 8 + 6) h) (8 + p * 8 + 7) i
    ≡ put b p (a ∷ c ∷ d ∷ e ∷ f ∷ g ∷ h ∷ i ∷ [])
stores_are b p a c d e f g h i l = go (8 + p * 8 + 0) (8 + p * 8 + 1) (8 + p * 8 + 2) (8 + p * 8 + 3) (8 + p * 8 + 4) (8 + p * 8 + 5) (8 + p * 8 + 6) (8 + p * 8 + 7)
    (omega arith) (omega arith) (omega arith) (omega arith) (omega arith) (omega arith) (omega arith) (omega arith)
  where
    go : (q0 q1 q2 q3 q4 q5 q6 q7 : ℕ) → q0 ≡ 8 + p * 8 → q1 ≡ suc q0 → q2 ≡ suc q1 → q3 ≡ suc q2 → q4 ≡ suc q3 → q5 ≡ suc q4 → q6 ≡ suc q5 → q7 ≡ suc q6
        → set (set (set (set (set (set (set (set b q0 a) q1 c) q2 d) q3 e) q4 f) q5 g) q6 h) q7 i ≡ put b p (a ∷ c ∷ d ∷ e ∷ f ∷ g ∷ h ∷ i ∷ [])
    go q0 q1 q2 q3 q4 q5 q6 q7 e0 e1 e2 e3 e4 e5 e6 e7 =
        let z : 8 + p * 8 + 8 ≡ 16 + p * 8 = omega arith in
        rw (e7, e6, e5, e4, e3, e2, e1, e0)
        (sets-eq (a ∷ c ∷ d ∷ e ∷ f ∷ g ∷ h ∷ i ∷ []) b (8 + p * 8) (omega arith)
        ∙ append_assoc (take (8 + p * 8) b) (a ∷ c ∷ d ∷ e ∷ f ∷ g ∷ h ∷ i ∷ []) (drop (8 + p * 8 + 8) b)
        ∙ rw z refl)

module _ (m ws : List ℕ) (p : ℕ) (h : 16 + p * 8 ≤ length m) (l : length ws ≡ 8) where
  front : length (take (8 + p * 8) m) ≡ 8 + p * 8
  front = length-take-le (8 + p * 8) m (omega arith)

  pub length_put : length (put m p ws) ≡ length m
  length_put = omega (arith, length-append (take (8 + p * 8) m) (ws ++ drop (16 + p * 8) m), length-append ws (drop (16 + p * 8) m), front, length-drop (16 + p * 8) m)

  -- word f of the place that is stored
  pub put_here : (f : ℕ) → f < 8 → column (put m p ws) f p ≡ get_or ws f 0
  put_here f k =
      ap (λ (x : ℕ). get_or (put m p ws) (x + f) 0) (sym front)
      ∙ get_or-append-add (take (8 + p * 8) m) (ws ++ drop (16 + p * 8) m) f 0
      ∙ get_or-append ws (drop (16 + p * 8) m) 0 f (omega arith)

  below : (i : ℕ) → i < 8 + p * 8 → get_or (put m p ws) i 0 ≡ get_or m i 0
  below i k = get_or-append (take (8 + p * 8) m) (ws ++ drop (16 + p * 8) m) 0 i (omega (arith, front)) ∙ get_or-take (8 + p * 8) m i 0 k

  above : (i : ℕ) → get_or (put m p ws) (16 + p * 8 + i) 0 ≡ get_or m (16 + p * 8 + i) 0
  above i =
      let e : 16 + p * 8 + i ≡ length (take (8 + p * 8) m) + (length ws + i) = omega (arith, front) in
      ap (λ (x : ℕ). get_or (put m p ws) x 0) e
      ∙ get_or-append-add (take (8 + p * 8) m) (ws ++ drop (16 + p * 8) m) (length ws + i) 0
      ∙ get_or-append-add ws (drop (16 + p * 8) m) i 0
      ∙ get_or-drop (16 + p * 8) m i 0

  -- word f of another place
  pub put_there : (q f : ℕ) → f < 8 → (q ≡ p → ⊥) → column (put m p ws) f q ≡ column m f q
  put_there q f k d = ⊎_elim
      (λ u. below (8 + q * 8 + f) (omega arith))
      (λ u. ⊎_elim
      (λ v. let e : 8 + q * 8 + f ≡ 16 + p * 8 + (8 + q * 8 + f - (16 + p * 8)) = omega arith in
      ap (λ (x : ℕ). get_or (put m p ws) x 0) e ∙ above (8 + q * 8 + f - (16 + p * 8)) ∙ ap (λ (x : ℕ). get_or m x 0) (sym e))
      (λ v. absurd (d (omega arith)))
      (lt_or_ge p q))
      (lt_or_ge q p)

  -- the header
  pub put_header : (i : ℕ) → i < 8 → get_or (put m p ws) i 0 ≡ get_or m i 0
  put_header i k = below i (omega arith)

-- one word stored
pub set_here : (m : List ℕ) (p f v : ℕ) → 8 + p * 8 + f < length m → column (set m (8 + p * 8 + f) v) f p ≡ v
set_here m p f v h = get_or-set_same m (8 + p * 8 + f) v 0 h

pub set_there : (m : List ℕ) (p f q g v : ℕ) → f < 8 → g < 8 → ((q ≡ p) → (g ≡ f) → ⊥) → column (set m (8 + p * 8 + f) v) g q ≡ column m g q
set_there m p f q g v hf hg d = get_or-set_other m (8 + p * 8 + f) (8 + q * 8 + g) v 0 (λ e. d (omega arith) (omega arith))
