-- Entries passed over one by one, and the first number of one. Assumes nothing.
use Rattle.std.specs.Prelude.{None, Some}
use Rattle.groups.specs.Slices.{MaybeRead}
use mathlib.Core.Path.{◌≡◌, sym, ◌∙◌, ap, subst, refl}
use mathlib.Core.List.{List, [], ◌∷◌, ◌++◌}
use mathlib.Core.Option.{Option, none, some, none-ne-some}
use Prim.Native.Nat.{ℕ, ◌+◌, ◌-◌, ◌≤◌, ◌<◌}
use native.Mathlib.Omega.{arith}
use lib.ListN.{length, drop, length-append}
use Rattle.model.specs.Values.{Label, code}
use Rattle.model.specs.Image.{label_in}
use Rattle.model.specs.Layouts.{Layout, then, group, ◌⊕◌, as_type, times}
use Rattle.model.specs.Messages.{label, part2, part3}
use Rattle.groups.specs.Slices.{read_at, label_code}
use Rattle.groups.proofs.Ends.{bad_at}
use Rattle.groups.proofs.Labels.{label_at}
use Rattle.codec.specs.Taken.{Took, PassSaid, Passes}
use Rattle.codec.specs.Entries.{first_layout}
use Rattle.codec.specs.declared.entry.Paired.{Paired}
use Rattle.codec.proofs.Taking.{took_reads, took_group, SoFar, so_far_start, so_far_more, so_far_stop, so_far_end, both_none, both_half, both_took, as_none, as_took}

-- NUMBERS AND LABELS as they are read
group_said : (s : List ℕ) (at : ℕ) (r : MaybeRead) → r ≡ read_at group s at → PassSaid group s at r
group_said s at None e = bad_at group s at e
group_said s at (Some (v, q)) e = (v, took_group e)

pub group_pass : (s : List ℕ) (at : ℕ) {r : MaybeRead} → r ≡ read_at group s at → Passes group s at r
group_pass s at {r} e = record { said = group_said s at r e }

pub no_label : (s : List ℕ) (at : ℕ) → None ≡ read_at label_code s at → label.get (drop at s) ≡ none
unfolding label_code as_type
no_label s at e = go (label.get (drop at s)) (bad_at label_code s at e)
  where
    go : (r : Option (Label × List ℕ)) → then r (λ a rest. some (code a, rest)) ≡ none → r ≡ none
    go none e = refl
    go (some r) e = absurd (none-ne-some _ (sym e))

pub took_label : {s : List ℕ} {at a q : ℕ} → Some (a, q) ≡ read_at label_code s at → Took label s at (label_in a) q
took_label e = took_reads (label_at e)

label_said : (s : List ℕ) (at : ℕ) (r : MaybeRead) → r ≡ read_at label_code s at → PassSaid label s at r
label_said s at None e = no_label s at e
label_said s at (Some (v, q)) e = (label_in v, took_label e)

pub label_pass : (s : List ℕ) (at : ℕ) {r : MaybeRead} → r ≡ read_at label_code s at → Passes label s at r
label_pass s at {r} e = record { said = label_said s at r e }

-- ENTRIES
module _ {A B : Type 0} (l : Layout A) (m : Layout B) where
  both_said : {s : List ℕ} {at p : ℕ} {a : A} → Took l s at a p → (r : MaybeRead) → PassSaid m s p r → PassSaid (l ⊕ m) s at r
  both_said w None d = both_half l m w d
  both_said {s} {at} {p} {a} w (Some (u, q)) d = ((a, d.0), both_took l m w d.1)

as_said : {A B : Type 0} (to : A → B) (from : B → A) (l : Layout A) (s : List ℕ) (at : ℕ) (r : MaybeRead) → PassSaid l s at r → PassSaid (as_type to from l) s at r
as_said to from l s at None d = as_none to from l (drop at s) d
as_said to from l s at (Some (u, q)) d = (to d.0, as_took to from l d.1)

pub part2_none : (s : List ℕ) (at : ℕ) → label.get (drop at s) ≡ none → Passes part2 s at None
unfolding part2
part2_none s at e = record { said = as_none (λ p. record { label = p.0; index = p.1 }) (λ m. (m.label, m.index)) (label ⊕ group) (drop at s) (both_none label group (drop at s) e) }

pub part2_pass : {s : List ℕ} {at p : ℕ} {a : Label} {r : MaybeRead} → Took label s at a p → Passes group s p r → Passes part2 s at r
unfolding part2
part2_pass {s} {at} {p} {a} {r} w d = record { said = as_said (λ p. record { label = p.0; index = p.1 }) (λ m. (m.label, m.index)) (label ⊕ group) s at r (both_said label group w r d.said) }

pub part3_none : (s : List ℕ) (at : ℕ) → group.get (drop at s) ≡ none → Passes part3 s at None
unfolding part3
part3_none s at e = record { said = as_none (λ p. record { number = p.0; index = p.1 }) (λ m. (m.number, m.index)) (group ⊕ group) (drop at s) (both_none group group (drop at s) e) }

pub part3_pass : {s : List ℕ} {at p n : ℕ} {r : MaybeRead} → Took group s at n p → Passes group s p r → Passes part3 s at r
unfolding part3
part3_pass {s} {at} {p} {n} {r} w d = record { said = as_said (λ p. record { number = p.0; index = p.1 }) (λ m. (m.number, m.index)) (group ⊕ group) s at r (both_said group group w r d.said) }

-- the first number of an entry, by the part that it is of
pub first_read : (s : List ℕ) (at : ℕ) {p q : Paired} {r : MaybeRead} → p ≡ q → r ≡ read_at (first_layout q) s at → r ≡ read_at (first_layout p) s at
first_read s at e d = d ∙ ap (λ (x : Paired). read_at (first_layout x) s at) (sym e)

-- ALL ENTRIES
module _ {A : Type 0} (l : Layout A) where
  pub record Passing (s : List ℕ) (at count left p : ℕ) : Type 0 where
    pub items : List A
    pub so_far : SoFar l s at p items
    pub passed : length items + left ≡ count

  pub passing_start : {s : List ℕ} {at count : ℕ} → at ≤ length s → Passing s at count count at
  passing_start {s} {at} {count} h = record { items = []; so_far = so_far_start l at h; passed = omega arith }

  module _ {s : List ℕ} {at count left p : ℕ} (w : Passing s at count left p) where
    pub passing_more : {r : MaybeRead} {u q : ℕ} → r ≡ Some (u, q) → 0 < left → Passes l s p r → Passing s at count (left - 1) q
    passing_more {r} {u} {q} e h d = go (subst (PassSaid l s p) e d.said)
      where
        go : PassSaid l s p (Some (u, q)) → Passing s at count (left - 1) q
        go d = record { items = w.items ++ d.0 ∷ []; so_far = so_far_more l w.so_far d.1; passed = (let a = w.passed in omega (arith, length-append w.items (d.0 ∷ []))) }

    pub passing_stop : {r : MaybeRead} → r ≡ None → 0 < left → Passes l s p r → Passes (times count l) s at None
    unfolding times
    passing_stop {r} e h d = record { said = so_far_stop l count w.so_far (let a = w.passed in omega arith) (subst (PassSaid l s p) e d.said) }

    pub passing_end : {n : ℕ} → left ≤ 0 → Passes (times count l) s at (Some (n, p))
    passing_end h = record { said = (w.items, so_far_end l count w.so_far (let a = w.passed in omega arith)) }
