-- Along a cycle: the steps that lead back, a walk that writes what it meets, and one that assigns it in a table. Assumes nothing.
use mathlib.Core.Path.{◌≡◌, refl, sym, ◌∙◌, ap, subst}
use mathlib.Core.Logic.{◌≢◌}
use mathlib.Core.Bool.{Bool, true, false, cond, ◌||◌}
use mathlib.Core.List.{List, [], ◌∷◌, ◌++◌, append_assoc, append-nil}
use Prim.Native.Nat.{ℕ, zero, suc, ◌+◌, ◌-◌, ◌≤◌, ◌<◌}
use native.Mathlib.Omega.{arith}
use native.Mathlib.Numerals.{add-one}
use lib.Dec.{eqb}
use lib.ListN.{length, get_or, set, take, length-set}
use lib.Seq.{get_or-set_same, get_or-set_other, take-suc-set}
use borrow.Author.Tests.{eq-eqb, ne_eqb}
use Rattle.model.specs.Lists.{mem}
use Rattle.model.specs.Cells.{cycle}
use Rattle.model.specs.Values.{room}
use Rattle.laws.proofs.Tests.{by_cases}
use Rattle.laws.proofs.Members.{In}
use Rattle.laws.proofs.Orbits.{iter, iter_out, path, around_path, path_length}
use Rattle.laws.proofs.Tables.{length_tab}
use Rattle.cells.specs.Places.{Within, Apart, Assigned, Put}
use Rattle.cells.proofs.Walks.{eq_or_ne}
use Rattle.cells.proofs.Reached.{places, in_places, places_below, within_places}

-- c steps lead from x back to x, and no fewer
pub record Round (f : ℕ → ℕ) (x c : ℕ) : Type 0 where
  pub some : 0 < c
  pub few : c ≤ room
  pub cycle_is : cycle f x ≡ path f c x
  pub returns : iter f c x ≡ x
  pub first : (k : ℕ) → 0 < k → k < c → iter f k x ≢ x

path_more : (f : ℕ → ℕ) (k x : ℕ) → path f (suc k) x ≡ path f k x ++ (iter f k x ∷ [])
path_more f zero x = refl
path_more f (suc k) x = ap (λ (l : List ℕ). x ∷ l) (path_more f k (f x))

pub apart_places : {n : ℕ} {f : ℕ → ℕ} → Apart n f → (p q : ℕ) → In p (places n) → In q (places n) → f p ≡ f q → p ≡ q
apart_places {n} a p q hp hq e = a p q (places_below n p hp) (places_below n q hq) e

pub few_places : {n : ℕ} → n ≤ room → length (places n) ≤ 4096
few_places {n} h = omega (arith, length_tab (λ (p : ℕ). p) n)

pub round : {n : ℕ} {f : ℕ → ℕ} → n ≤ room → Within n f → Apart n f → (x : ℕ) → x < n → Round f x (length (cycle f x))
unfolding cycle
round {n} {f} few wf af x h =
    let r = around_path f (places n) (within_places wf) (apart_places af) 4096 x (few_places few) (in_places n x h) in
    let size : r.0 ≡ length (cycle f x) = sym (path_length f r.0 x) ∙ ap length (sym r.3) in
    subst (Round f x) size (record { some = r.1; few = r.2; cycle_is = r.3; returns = r.4; first = r.5 })

-- PAINTING
pub mem_append : (p : ℕ) (l r : List ℕ) → mem p (l ++ r) ≡ (mem p l || mem p r)
mem_append p [] r = refl
mem_append p (x ∷ l) r = by_cases (eqb p x) (λ e. rw e) (λ e. rw (e, mem_append p l r))

pub assign_more : {c : ℕ} {l t t' : List ℕ} {p : ℕ} → Assigned c l t t' → p < length t → Assigned c (l ++ p ∷ []) t (set t' p c)
assign_more {c} {l} {t} {t'} {p} w h = record {
  size = simp length-set w.size;
  value = λ q. rw (mem_append q l (p ∷ [])) (eq_or_ne q p (λ e. here q e) (λ e. there q e));
}
  where
    either : (b : Bool) → (b || true) ≡ true
    either true = refl
    either false = refl

    neither : (b : Bool) → (b || false) ≡ b
    neither true = refl
    neither false = refl

    here : (q : ℕ) → q ≡ p → get_or (set t' p c) q 0 ≡ cond (mem q l || mem q (p ∷ [])) c (get_or t q 0)
    here q e = rw (e, eq-eqb p p refl, either (mem p l)) (get_or-set_same t' p c 0 (omega (arith, w.size)))

    there : (q : ℕ) → (q ≡ p → ⊥) → get_or (set t' p c) q 0 ≡ cond (mem q l || mem q (p ∷ [])) c (get_or t q 0)
    there q e = rw (ne_eqb q p e, neither (mem q l)) (get_or-set_other t' p q c 0 e ∙ w.value q)

pub assign_none : (c : ℕ) (t : List ℕ) → Assigned c [] t t
assign_none c t = record { size = refl; value = λ q. refl }

-- WALKS ROUND: at place p after k steps, of c
pub record Going (n : ℕ) (f : ℕ → ℕ) (x c k p : ℕ) : Type 0 where
  pub less : k < c
  pub at : p ≡ iter f k x
  pub below : p < n

pub going_start : {n : ℕ} {f : ℕ → ℕ} {x c : ℕ} → Round f x c → x < n → Going n f x c 0 x
going_start r h = record { less = r.some; at = refl; below = h }

module _ {n : ℕ} {f : ℕ → ℕ} {x c k p : ℕ} (wf : Within n f) (r : Round f x c) (g : Going n f x c k p) where
  after : {q : ℕ} → q ≡ f p → q ≡ iter f (suc k) x
  after e = e ∙ ap f g.at ∙ sym (iter_out f k x)

  pub going_on : {q : ℕ} → q ≡ f p → (q ≡ x → ⊥) → Going n f x c (suc k) q
  going_on {q} e ne = record {
    less = eq_or_ne (suc k) c (λ s. absurd (ne (after e ∙ ap (λ (j : ℕ). iter f j x) s ∙ r.returns))) (λ s. omega (arith, g.less));
    at = after e;
    below = rw e (wf p g.below);
  }

  pub going_end : {q : ℕ} → q ≡ f p → q ≡ x → suc k ≡ c
  going_end e s = eq_or_ne (suc k) c (λ w. w) (λ w. absurd (r.first (suc k) (omega arith) (omega (arith, g.less)) (sym (after e) ∙ s)))

  -- one place more
  pub path_next : path f (suc k) x ≡ path f k x ++ p ∷ []
  path_next = path_more f k x ∙ ap (λ (y : ℕ). path f k x ++ (y ∷ [])) (sym g.at)

  -- the code's k + 1
  pub going_next : {q : ℕ} → q ≡ f p → (q ≡ x → ⊥) → Going n f x c (k + 1) q
  going_next a b = let more : k + 1 ≡ suc k = omega arith in rw more (going_on a b)

  pub assign_next : {v : ℕ} {t t' : List ℕ} → Assigned v (path f k x) t t' → p < length t → Assigned v (path f (k + 1) x) t (set t' p v)
  assign_next m h = let more : k + 1 ≡ suc k = omega arith in rw (more, path_next) (assign_more m h)

  pub assign_last : {v q : ℕ} {t t' : List ℕ} → Assigned v (path f k x) t t' → p < length t → q ≡ f p → q ≡ x → Assigned v (cycle f x) t (set t' p v)
  assign_last m h a b = let more : k + 1 ≡ c = omega (arith, going_end a b) in rw (r.cycle_is, ← more) (assign_next m h)

-- a walk that has written what it met into o from index i on
pub record Writing (f : ℕ → ℕ) (x i : ℕ) (o o' : List ℕ) (e : ℕ) : Type 0 where
  pub size : length o' ≡ length o
  pub from : i ≤ e
  pub front : take e o' ≡ take i o ++ path f (e - i) x

pub writing_start : (f : ℕ → ℕ) (x i : ℕ) (o : List ℕ) → Writing f x i o o i
writing_start f x i o = record { size = refl; from = omega arith; front = let z : i - i ≡ 0 = omega arith in rw (z, append-nil) }

module _ {n : ℕ} {f : ℕ → ℕ} {x c i e p : ℕ} {o o' : List ℕ} (wf : Within n f) (r : Round f x c) (g : Going n f x c (e - i) p) (w : Writing f x i o o' e) (room-left : e < length o') where
  pub writing_on : Writing f x i o (set o' e p) (e + 1)
  writing_on =
      let more : (e + 1) - i ≡ suc (e - i) = omega (arith, w.from) in
      record {
        size = simp length-set w.size;
        from = omega (arith, w.from);
        front = rw (more, path_next wf r g, ← append_assoc, ← w.front, add-one) (take-suc-set o' e p room-left);
      }

  pub going_again : {q : ℕ} → q ≡ f p → (q ≡ x → ⊥) → Going n f x c ((e + 1) - i) q
  going_again a b = let more : (e + 1) - i ≡ suc (e - i) = omega (arith, w.from) in rw more (going_on wf r g a b)

  pub writing_end : {q : ℕ} → q ≡ f p → q ≡ x → c ≡ length (cycle f x) → Put (cycle f x) i o (set o' e p) (e + 1)
  writing_end a b size =
      let more : (e + 1) - i ≡ c = omega (arith, w.from, going_end wf r g a b) in
      record {
        size =
            writing_on.size;
        front = writing_on.front ∙ ap (λ (k : ℕ). take i o ++ path f k x) more
            ∙ ap (λ (l : List ℕ). take i o ++ l) (sym r.cycle_is);
        end = omega (arith, w.from, going_end wf r g a b, size);
      }

  -- and has assigned it in a table
  pub assigning_on : {v : ℕ} {t t' : List ℕ} → Assigned v (path f (e - i) x) t t' → p < length t → Assigned v (path f ((e + 1) - i) x) t (set t' p v)
  assigning_on m h =
      let more : (e + 1) - i ≡ suc (e - i) = omega (arith, w.from) in
      rw (more, path_next wf r g) (assign_more m h)

  pub assigning_end : {v q : ℕ} {t t' : List ℕ} → Assigned v (path f (e - i) x) t t' → p < length t → q ≡ f p → q ≡ x → Assigned v (cycle f x) t (set t' p v)
  assigning_end m h a b =
      let more : (e + 1) - i ≡ c = omega (arith, w.from, going_end wf r g a b) in
      rw (r.cycle_is, ← more) (assigning_on m h)

pub going_begin : {n : ℕ} {f : ℕ → ℕ} {x c : ℕ} → Round f x c → x < n → (i : ℕ) → Going n f x c (i - i) x
going_begin r h i = let z : i - i ≡ 0 = omega arith in rw z (going_start r h)

pub assigning_start : (f : ℕ → ℕ) (x v i : ℕ) (t : List ℕ) → Assigned v (path f (i - i) x) t t
assigning_start f x v i t = let z : i - i ≡ 0 = omega arith in rw z (assign_none v t)
