-- The last steps of a round, in any order, leave the blocks that the state after the move describes. Assumes nothing.
use mathlib.Core.Path.{◌≡◌, refl, sym, ◌∙◌, ap, subst}
use mathlib.Core.Logic.{◌≢◌}
use mathlib.Core.Bool.{Bool, true, false, true≢false, cond, not, ◌&&◌, ◌||◌}
use mathlib.Core.List.{List, [], ◌∷◌, map, Permᴰ}
use Prim.Native.Nat.{ℕ, ◌<◌}
use lib.Dec.{eqb}
use lib.ListN.{length, set, length-set}
use lib.Seq.{get_or-set_same, get_or-set_other}
use borrow.Author.Tests.{eqb-true, eqb-false, ne_eqb, not-true}
use Rattle.model.specs.Lists.{mem, distinct}
use Rattle.model.specs.Values.{Limits}
use Rattle.model.specs.DividedRun.{Step, Done, called, memory_at, done, run_steps}
use Rattle.laws.proofs.Members.{in_here, in_eq, Each, each_weaken}
use Rattle.laws.proofs.Tests.{by_cases, and_intro, and_left, and_right}
use Rattle.agreement.proofs.Arrived.{es}

-- STEPS ON DIFFERENT BLOCKS
-- a step that finds its block as it was before the round serves, and leaves what the block is after it
pub record Serves (lims : ℕ → Limits) (before after : ℕ → List ℕ) (c : Step) : Type 0 where
  pub does : called (lims c.block) (before c.block) c.call ≡ record { number = 0; memory = after c.block; sent = [] }

abbrev pub blocks_of : List Step → List ℕ
blocks_of cs = map (λ c. c.block) cs

module _ (lims : ℕ → Limits) (before after : ℕ → List ℕ) where
  -- what the memories are afterwards
  pub record Ran (cs : List Step) (ms : List (List ℕ)) : Type 0 where
    pub all_zero : (run_steps lims cs ms).0 ≡ true
    pub same_length : length (run_steps lims cs ms).1 ≡ length ms
    pub changed : (b : ℕ) → b < length ms → memory_at (run_steps lims cs ms).1 b ≡ cond (mem b (blocks_of cs)) (after b) (memory_at ms b)

  one_step : (c : Step) (cs : List Step) (ms : List (List ℕ)) (d : Done) → done lims ms c ≡ d
      → run_steps lims (c ∷ cs) ms ≡ (eqb d.number 0 && (run_steps lims cs (set ms c.block d.memory)).0, (run_steps lims cs (set ms c.block d.memory)).1)
  unfolding run_steps
  one_step c cs ms d e = λ i. (eqb (e i).number 0 && (run_steps lims cs (set ms c.block (e i).memory)).0, (run_steps lims cs (set ms c.block (e i).memory)).1)

  pub steps_run : (cs : List Step) (ms : List (List ℕ)) → Each (Serves lims before after) cs → Each (λ c. c.block < length ms) cs → distinct (blocks_of cs) ≡ true
      → Each (λ c. memory_at ms c.block ≡ before c.block) cs → Ran cs ms
  unfolding run_steps
  steps_run [] ms s l d m = record { all_zero = refl; same_length = refl; changed = λ b h. refl }
  steps_run (c ∷ cs) ms s l d m =
      go
      (steps_run cs next s.1 (each_weaken cs l.1 (λ e h. rw (length-set ms c.block (after c.block)) h))
      (and_right (not (mem c.block (blocks_of cs))) _ d) (keeps cs m.1 (and_left _ _ d)))
    where
      next : List (List ℕ)
      next = set ms c.block (after c.block)

      here : done lims ms c ≡ record { number = 0; memory = after c.block; sent = [] }
      here = unfold done in (ap (λ (w : List ℕ). called (lims c.block) w c.call) m.0 ∙ s.0.does)

      keeps : (es : List Step) → Each (λ e. memory_at ms e.block ≡ before e.block) es → not (mem c.block (blocks_of es)) ≡ true → Each (λ e. memory_at next e.block ≡ before e.block) es
      keeps [] k n = tt
      keeps (e ∷ es) k n = by_cases (eqb c.block e.block)
          (λ q. absurd (true≢false (sym n ∙ rw q)))
          (λ q. (get_or-set_other ms c.block e.block (after c.block) [] (λ w. eqb-false c.block e.block q (sym w)) ∙ k.0, keeps es k.1 (rw q at n)))

      stepped : run_steps lims (c ∷ cs) ms ≡ ((run_steps lims cs next).0, (run_steps lims cs next).1)
      stepped = one_step c cs ms _ here

      go : Ran cs next → Ran (c ∷ cs) ms
      go ran = record {
        all_zero = ap (λ (z : Bool × List (List ℕ)). z.0) stepped ∙ ran.all_zero;
        same_length = ap (λ (z : Bool × List (List ℕ)). length z.1) stepped ∙ ran.same_length ∙ length-set ms c.block (after c.block);
        changed = λ b h. ap (λ (z : Bool × List (List ℕ)). memory_at z.1 b) stepped ∙ (ran.changed b (rw (length-set ms c.block (after c.block)) h) ∙ by_cases (eqb b c.block)
            (λ q. rw (q, ← eqb-true b c.block q) (by_cases (mem b (blocks_of cs)) (λ w. rw w) (λ w. rw w (get_or-set_same ms b (after b) [] h))))
            (λ q. rw q (ap (cond (mem b (blocks_of cs)) (after b)) (get_or-set_other ms c.block b (after c.block) [] (eqb-false b c.block q)))));
      }

-- ANY ORDER
pub each_perm : {A : Type 0} (P : A → Type 0) {l m : List A} → Permᴰ l m → Each P m → Each P l
each_perm P Permᴰ.nil e = tt
each_perm P (Permᴰ.cons q p) e = (subst P (sym q) e.0, each_perm P p e.1)
each_perm P (Permᴰ.swap q w) e = (subst P (sym q) e.1.0, (subst P (sym w) e.0, e.1.1))
each_perm P (Permᴰ.trans p q) e = each_perm P p (each_perm P q e)

pub mem_perm : (x : ℕ) {l m : List Step} → Permᴰ l m → mem x (blocks_of l) ≡ mem x (blocks_of m)
mem_perm x Permᴰ.nil = refl
mem_perm x (Permᴰ.cons {b = c} q p) = rw (q, mem_perm x p)
mem_perm x (Permᴰ.swap {a = c} {b = d} {l = l} q w) = rw (← q, ← w) (swap (eqb x c.block) (eqb x d.block) (mem x (blocks_of l)))
  where
    swap : (a b c : Bool) → (a || (b || c)) ≡ (b || (a || c))
    swap true true c = refl
    swap true false c = refl
    swap false true c = refl
    swap false false c = refl
mem_perm x (Permᴰ.trans p q) = mem_perm x p ∙ mem_perm x q

pub distinct_perm : {l m : List Step} → Permᴰ l m → distinct (blocks_of m) ≡ true → distinct (blocks_of l) ≡ true
distinct_perm Permᴰ.nil d = refl
distinct_perm (Permᴰ.cons {a = c} {b = e} {l₁ = l} {l₂ = m} q p) d =
    and_intro
    (subst (λ (t : Bool). not t ≡ true) (sym (mem_perm c.block p))
    (subst (λ (z : Step). not (mem z.block (blocks_of m)) ≡ true) (sym q) (and_left (not (mem e.block (blocks_of m))) _ d)))
    (distinct_perm p (and_right (not (mem e.block (blocks_of m))) _ d))
distinct_perm (Permᴰ.swap {a = c} {b = d} {a' = c'} {b' = d'} {l = l} q w) e =
    swapped c.block d.block (blocks_of l) (subst (λ (z : Step). distinct (z.block ∷ d'.block ∷ blocks_of l) ≡ true) (sym w) e) q
  where
    swapped : (x y : ℕ) (m : List ℕ) → distinct (y ∷ d'.block ∷ m) ≡ true → c ≡ d' → distinct (c.block ∷ y ∷ m) ≡ true
    swapped x y m h s = turn c.block y m (subst (λ (z : Step). distinct (y ∷ z.block ∷ m) ≡ true) (sym s) h)
      where
        turn : (a b : ℕ) (m : List ℕ) → distinct (b ∷ a ∷ m) ≡ true → distinct (a ∷ b ∷ m) ≡ true
        turn a b m h =
            let ba = not-true (mem b (a ∷ m)) (and_left _ _ h) in
            let rest = and_right (not (mem b (a ∷ m))) _ h in
            let am = not-true (mem a m) (and_left _ _ rest) in
            let ne : b ≢ a = λ z. true≢false (sym (in_eq b a (a ∷ m) z (in_here a m)) ∙ ba) in
            let bm : mem b m ≡ false = rw (ne_eqb b a ne) at ba in
            let ab : mem a (b ∷ m) ≡ false = rw (ne_eqb a b (λ z. ne (sym z))) am in
            and_intro (not_in (mem a (b ∷ m)) ab) (and_intro (not_in (mem b m) bm) (and_right (not (mem a m)) _ rest))
          where
            not_in : (t : Bool) → t ≡ false → not t ≡ true
            not_in t e = rw e
distinct_perm (Permᴰ.trans p q) d = distinct_perm p (distinct_perm q d)
