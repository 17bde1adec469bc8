-- Darts of a marked volume that are sewn: tests by place, and question 12. Assumes nothing.
use mathlib.Core.Path.{◌≡◌, refl, sym, ◌∙◌, ap}
use mathlib.Core.Bool.{Bool, true, false, true≢false, not, ◌&&◌}
use mathlib.Core.List.{List, [], ◌∷◌}
use Prim.Native.Nat.{ℕ, zero, suc, ◌%◌, ◌≤◌, ◌<◌}
use native.Mathlib.Omega.{arith}
use lib.Dec.{eqb}
use lib.ListN.{length, get_or, take}
use borrow.Author.Tests.{eqb-true, ne_eqb}
use Rattle.model.specs.Lists.{all, any, mem}
use Rattle.model.specs.Cells.{volume_in, third_at}
use Rattle.model.specs.Image.{count_in, column, third_in}
use Rattle.model.specs.Departure.{is_sewn_into, is_sewn_out_of}
use Rattle.laws.proofs.Tests.{by_cases}
use Rattle.laws.proofs.Members.{In, in_here, in_there, or_left, or_right, any_in, all_map, all_cong, mem_keep, keep_cong}
use Rattle.cells.specs.Places.{Marked, bit, marked, places_in, sewn_in, sewn_out, volume_of}
use Rattle.cells.proofs.Reached.{places, in_places, places_in_in}
use Rattle.cells.proofs.Sited.{Sited, darts_in}
use Rattle.cells.proofs.Serials.{mem_map, serials_apart, volume_serials}

-- SOME DART of a list
any_out : (q : ℕ → Bool) (l : List ℕ) → any q l ≡ true → (x : ℕ) × In x l × (q x ≡ true)
any_out q [] h = absurd (true≢false (sym h))
any_out q (y ∷ l) h = by_cases (q y) (λ e. (y, in_here y l, e)) (λ e. let r = any_out q l (rw e at h) in (r.0, in_there r.0 y l r.1, r.2))

pub any_within : (q : ℕ → Bool) (l v : List ℕ) → ((x : ℕ) → In x l → In x v) → any q l ≡ true → any q v ≡ true
any_within q l v h e = let r = any_out q l e in any_in q v r.0 (h r.0 r.1) r.2

-- of its first d
pub some_first : (q : ℕ → Bool) (l : List ℕ) (d k : ℕ) → k < d → d ≤ length l → q (get_or l k 0) ≡ true → true ≡ any q (take d l)
some_first q l zero k h few e = absurd (omega arith)
some_first q [] (suc d) k h few e = absurd (omega arith)
some_first q (x ∷ l) (suc d) zero h few e = sym (or_left (q x) _ e)
some_first q (x ∷ l) (suc d) (suc k) h few e = sym (or_right (q x) _ (sym (some_first q l d k (omega arith) (omega arith) e)))

pub none_first : (q : ℕ → Bool) (l : List ℕ) (d : ℕ) → ((k : ℕ) → k < d → q (get_or l k 0) ≡ false) → d ≤ length l → false ≡ any q (take d l)
none_first q l zero h few = refl
none_first q [] (suc d) h few = refl
none_first q (x ∷ l) (suc d) h few = rw (h 0 (omega arith)) (none_first q l d (λ k j. h (suc k) (omega arith)) (omega arith))

-- MARKS OF A VOLUME
bit_test : (b : Bool) → eqb (bit b) 1 ≡ b
bit_test true = refl
bit_test false = refl

pub mark_test : {v marks : List ℕ} → Marked v marks → (p : ℕ) → eqb (get_or marks p 0) 1 ≡ mem p v
mark_test {v} {marks} m p = ap (λ (x : ℕ). eqb x 1) (m.mark p) ∙ bit_test (mem p v)

pub marked_places : {v marks : List ℕ} → Marked v marks → (n : ℕ) → marked n marks ≡ places_in n v
unfolding marked places_in
marked_places {v} {marks} m n = keep_cong (λ p. eqb (get_or marks p 0) 1) (λ p. mem p v) (places n) (λ p h. mark_test m p)

pub mem_places_in : (n : ℕ) (v : List ℕ) (p : ℕ) → p < n → mem p (places_in n v) ≡ mem p v
unfolding places_in
mem_places_in n v p h = mem_keep (λ q. mem q v) p (places n) ∙ ap (λ (t : Bool). t && mem p v) (in_places n p h)

-- THIRD LINKS by place
into_third : (v : List ℕ) (s : ℕ → ℕ) (k a : ℕ) → is_sewn_into v (third_in s k a) ≡ (eqb (k % 4) 1 && mem (s a) v)
unfolding third_in
into_third v s k a = by_cases (eqb (k % 4) 0)
    (λ e. let z : k % 4 ≡ 0 = eqb-true (k % 4) 0 e in rw (e, ne_eqb (k % 4) 1 (λ o. omega arith)))
    (λ e. rw e (by_cases (eqb (k % 4) 1) (λ o. rw o) (λ o. rw o)))

out_third : (v : List ℕ) (s : ℕ → ℕ) (k a : ℕ) → is_sewn_out_of v (third_in s k a) ≡ (eqb (k % 4) 1 && not (mem (s a) v))
unfolding third_in
out_third v s k a = by_cases (eqb (k % 4) 0)
    (λ e. let z : k % 4 ≡ 0 = eqb-true (k % 4) 0 e in rw (e, ne_eqb (k % 4) 1 (λ o. omega arith)))
    (λ e. rw e (by_cases (eqb (k % 4) 1) (λ o. rw o) (λ o. rw o)))

all_not : (q : ℕ → Bool) (l : List ℕ) → all (λ x. not (q x)) l ≡ not (any q l)
all_not q [] = refl
all_not q (x ∷ l) = by_cases (q x) (λ e. rw e) (λ e. rw (e, all_not q l))

module _ {m : List ℕ} (site : Sited m) (p : ℕ) (h : p < count_in m) {marks : List ℕ} (mk : Marked (volume_of m p) marks) where
  -- the serial at a place is in the volume where the place is marked
  pub mark_is : (q : ℕ) → q < count_in m → mem (column m 0 q) (volume_in (darts_in m) (column m 0 p)) ≡ eqb (get_or marks q 0) 1
  mark_is q k = ap (mem (column m 0 q)) (sym (volume_serials site p h))
      ∙ mem_map (column m 0) q (places_in (count_in m) (volume_of m p)) (λ y j e. serials_apart site q y k (places_in_in (count_in m) (volume_of m p) y j).0 e)
      ∙ mem_places_in (count_in m) (volume_of m p) q k ∙ sym (mark_test mk q)

  pub sewn_into_is : (q : ℕ) → q < count_in m → is_sewn_into (volume_in (darts_in m) (column m 0 p)) (third_at (darts_in m) (column m 0 q)) ≡ sewn_in m marks q
  sewn_into_is q k = ap (is_sewn_into (volume_in (darts_in m) (column m 0 p))) (site.third_is q k)
      ∙ into_third (volume_in (darts_in m) (column m 0 p)) (column m 0) (column m 3 q) (column m 4 q)
      ∙ by_cases (eqb (column m 3 q % 4) 1) (λ e. rw (e, mark_is (column m 4 q) (site.linked.sewn_within q k (eqb-true (column m 3 q % 4) 1 e)))) (λ e. rw e)

  pub sewn_out_is : (q : ℕ) → q < count_in m → is_sewn_out_of (volume_in (darts_in m) (column m 0 p)) (third_at (darts_in m) (column m 0 q)) ≡ sewn_out m marks q
  sewn_out_is q k = ap (is_sewn_out_of (volume_in (darts_in m) (column m 0 p))) (site.third_is q k)
      ∙ out_third (volume_in (darts_in m) (column m 0 p)) (column m 0) (column m 3 q) (column m 4 q)
      ∙ by_cases (eqb (column m 3 q % 4) 1) (λ e. rw (e, mark_is (column m 4 q) (site.linked.sewn_within q k (eqb-true (column m 3 q % 4) 1 e)))) (λ e. rw e)

  -- question 12
  pub question_12 : all (λ x. not (is_sewn_into (volume_in (darts_in m) (column m 0 p)) (third_at (darts_in m) x))) (volume_in (darts_in m) (column m 0 p))
      ≡ not (any (sewn_in m marks) (marked (count_in m) marks))
  question_12 =
      ap (all (λ x. not (is_sewn_into (volume_in (darts_in m) (column m 0 p)) (third_at (darts_in m) x)))) (sym (volume_serials site p h))
      ∙ all_map (λ x. not (is_sewn_into (volume_in (darts_in m) (column m 0 p)) (third_at (darts_in m) x))) (column m 0) (places_in (count_in m) (volume_of m p))
      ∙ all_cong (λ x. not (is_sewn_into (volume_in (darts_in m) (column m 0 p)) (third_at (darts_in m) (column m 0 x)))) (λ x. not (sewn_in m marks x)) (places_in (count_in m) (volume_of m p))
      (λ q k. ap not (sewn_into_is q (places_in_in (count_in m) (volume_of m p) q k).0))
      ∙ all_not (sewn_in m marks) (places_in (count_in m) (volume_of m p))
      ∙ ap (λ (l : List ℕ). not (any (sewn_in m marks) l)) (sym (marked_places mk (count_in m)))

-- THE TEST OF ONE PLACE, arm by arm
pub not_sewn : (k j : ℕ) (rest : Bool) → j ≡ k → eqb (j % 4) 1 ≡ false → false ≡ (eqb (k % 4) 1 && rest)
not_sewn k j rest e h = rw (← e, h)

pub sewn_to : (marks : List ℕ) (k j q r : ℕ) → j ≡ k → eqb (j % 4) 1 ≡ true → q ≡ r → eqb (get_or marks q 0) 1 ≡ (eqb (k % 4) 1 && eqb (get_or marks r 0) 1)
sewn_to marks k j q r e h f = rw (← e, h, f)
