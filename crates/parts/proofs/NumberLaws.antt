-- Numbers that follow each other and blocks that are neither end, by entry; and the model's tests. Assumes nothing.
use mathlib.Core.Path.{◌≡◌, refl, sym, ◌∙◌, ap}
use mathlib.Core.Bool.{Bool, true, false, not, ◌&&◌}
use mathlib.Core.List.{List, [], ◌∷◌, ◌++◌, map}
use Prim.Native.Nat.{ℕ, suc, ◌+◌, ◌-◌, ◌≤◌, ◌<◌}
use native.Mathlib.Omega.{arith}
use native.Mathlib.Numerals.{add-one}
use lib.Dec.{eqb}
use lib.ListN.{length, get_or, take}
use lib.Seq.{get_or-take}
use borrow.Author.Tests.{eqb-true, eq-eqb, ne_eqb}
use Rattle.model.specs.Lists.{all, tab}
use Rattle.model.specs.Messages.{Part3, Part4}
use Rattle.model.specs.Arrival.{consecutive}
use Rattle.laws.proofs.Members.{all_map}
use Rattle.laws.proofs.Maps.{tab_more}
use Rattle.laws.proofs.Tests.{same_truth}
use Rattle.arrival.proofs.PairLaws.{all_index, all_same}
use Rattle.parts.specs.Entries.{number3, other4}
use Rattle.parts.specs.Numbers.{follows_at, neither_at}
use Rattle.parts.proofs.IndexLaws.{front_tab}

pub follows_not : (a b : ℕ) → b ≤ a → false ≡ eqb (suc a) b
follows_not a b h = sym (ne_eqb (suc a) b (λ e. omega arith))

pub follows_is : (a b : ℕ) → a < b → eqb (b - a) 1 ≡ eqb (suc a) b
follows_is a b h = same_truth _ _ (λ t. eq-eqb (suc a) b (let e = eqb-true (b - a) 1 t in omega arith)) (λ t. eq-eqb (b - a) 1 (let e = eqb-true (suc a) b t in omega arith))

-- the model's test
consecutive_by : (s : ℕ → ℕ) (m : Part3) (ms : List Part3) → ((e : ℕ) → e < suc (length ms) → s e ≡ get_or (map number3 (m ∷ ms)) e 0)
    → consecutive (m ∷ ms) ≡ all (λ e. eqb (suc (s e)) (s (e + 1))) (tab (λ e. e) (length ms))
consecutive_by s m [] h = refl
consecutive_by s m (n ∷ ms) h = both
    (ap (λ (a : ℕ). eqb (suc a) n.number) (sym (h 0 (omega arith))) ∙ ap (eqb (suc (s 0))) (sym (h 1 (omega arith)) ∙ ap s first))
    (consecutive_by (λ e. s (suc e)) n ms (λ e l. h (suc e) (omega arith))
    ∙ all_same _ _ (length ms) (λ i l. ap (λ (a : ℕ). eqb (suc (s (suc i))) (s a)) (shift i))
    ∙ sym (all_index (λ e. eqb (suc (s e)) (s (e + 1))) suc (length ms)))
  where
    first : 1 ≡ 0 + 1
    first = omega arith

    shift : (i : ℕ) → suc (i + 1) ≡ suc i + 1
    shift i = omega arith

    both : {a b c d : Bool} → a ≡ b → c ≡ d → (a && c) ≡ (b && d)
    both e f = rw (e, f)

pub consecutive_is : (numbers : List ℕ) (ms : List Part3) → take (length ms) numbers ≡ map number3 ms → consecutive ms ≡ all (follows_at numbers) (tab (λ e. e) (length ms - 1))
consecutive_is numbers [] e = refl
consecutive_is numbers (m ∷ ms) e =
    consecutive_by (λ e. get_or numbers e 0) m ms
    (λ i h. sym (get_or-take (suc (length ms)) numbers i 0 h) ∙ ap (λ (l : List ℕ). get_or l i 0) e)
    ∙ ap (λ (n : ℕ). all (follows_at numbers) (tab (λ e. e) n)) less
  where
    less : length ms ≡ suc (length ms) - 1
    less = omega arith

pub neither_is : (others : List ℕ) (from to : ℕ) (ms : List Part4) → length ms ≤ length others → take (length ms) others ≡ map other4 ms
    → all (λ k. not (eqb k.other from) && not (eqb k.other to)) ms ≡ all (neither_at others from to) (tab (λ e. e) (length ms))
neither_is others from to ms h e =
    sym (all_map (λ (o : ℕ). not (eqb o from) && not (eqb o to)) other4 ms) ∙ ap (all (λ o. not (eqb o from) && not (eqb o to))) (sym e ∙ front_tab others (length ms) h)
    ∙ all_index (λ o. not (eqb o from) && not (eqb o to)) (λ k. get_or others k 0) (length ms)

-- a test of each entry, together
pub every_none : (p : ℕ → Bool) → true ≡ all p (tab (λ e. e) 0)
every_none p = refl

pub every_more : (p : ℕ → Bool) (e : ℕ) {a b : Bool} → a ≡ all p (tab (λ e. e) e) → b ≡ p e → (a && b) ≡ all p (tab (λ e. e) (e + 1))
every_more p e {a} {b} q r = rw (q, r) (sym (ap (λ (n : ℕ). all p (tab (λ e. e) n)) (add-one e) ∙ ap (all p) (sym (tab_more (λ e. e) e)) ∙ last p (tab (λ e. e) e) e))
  where
    last : (p : ℕ → Bool) (l : List ℕ) (x : ℕ) → all p (l ++ x ∷ []) ≡ (all p l && p x)
    last p [] x = end (p x)
      where
        end : (a : Bool) → (a && true) ≡ a
        end true = refl
        end false = refl
    last p (y ∷ l) x = ap (λ (c : Bool). p y && c) (last p l x) ∙ assoc (p y) (all p l) (p x)
      where
        assoc : (a b c : Bool) → (a && (b && c)) ≡ ((a && b) && c)
        assoc true b c = refl
        assoc false b c = refl

pub every_all : (p : ℕ → Bool) {e c : ℕ} {a : Bool} → a ≡ all p (tab (λ e. e) e) → e ≤ c → c ≤ e → a ≡ all p (tab (λ e. e) c)
every_all p {e} {c} {a} q h k = q ∙ ap (λ (n : ℕ). all p (tab (λ e. e) n)) same
  where
    same : e ≡ c
    same = omega arith
