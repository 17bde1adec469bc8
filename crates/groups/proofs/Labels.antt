-- Labels: three numbers one after the other, and the code that stands for them. Assumes nothing.
use Rattle.std.specs.Prelude.{None, Some}
use mathlib.Core.Path.{◌≡◌, refl, ◌∙◌, ap}
use mathlib.Core.List.{List, ◌++◌}
use mathlib.Core.Option.{none, some}
use Prim.Native.Nat.{ℕ, ◌+◌, ◌*◌, ◌/◌, ◌%◌, ◌^◌, ◌<◌, ◌≤◌}
use native.Mathlib.Omega.{arith}
use lib.Dec.{leb, ltb}
use lib.ListN.{length, drop, length-append}
use borrow.Author.Tests.{leb-true, ltb-true}
use Rattle.model.specs.Values.{Label, code}
use Rattle.model.specs.Image.{label_in}
use Rattle.model.specs.Layouts.{read_groups, group_below, group, such_that, at_most, ◌⊗◌, ◌⊕◌, as_type}
use Rattle.model.specs.Messages.{label}
use Rattle.laws.proofs.Labels.{in_code}
use Rattle.theory.proofs.LayoutLaws.{same_value, then_some, when_some}
use Rattle.groups.specs.Slices.{read_at, label_code}
use Rattle.groups.proofs.Ends.{Reads, same_rest, value_at, at_value, label_code_ends}

-- PUT
pub label_put : (a : ℕ) → label.put (label_in a) ≡ group.put (a / 4096 / 2 ^ 32) ++ (group.put (a / 4096 % 2 ^ 32) ++ group.put (a % 4096))
unfolding label as_type ◌⊕◌ ◌⊗◌ at_most such_that
label_put a = refl

pub label_length : (a : ℕ)
    → length (label.put (label_in a)) ≡ length (group.put (a / 4096 / 2 ^ 32)) + (length (group.put (a / 4096 % 2 ^ 32)) + length (group.put (a % 4096)))
label_length a = rw (label_put a, length-append (group.put (a / 4096 / 2 ^ 32)), length-append (group.put (a / 4096 % 2 ^ 32)))

-- READ
pub group_bound : (bs : List ℕ) (v : ℕ) (rest : List ℕ) → group.get bs ≡ some (v, rest) → v < 2 ^ 32
unfolding group group_below
group_bound bs v rest h =
    let t = then_some (read_groups 4 bs) _ _ h in
    let g = when_some (ltb t.0 (2 ^ 32)) _ _ t.3 in
    rw (same_value g.1) at (ltb-true t.0 (2 ^ 32) g.0)

pub at_most_bound : (n : ℕ) (bs : List ℕ) (v : ℕ) (rest : List ℕ) → (at_most n).get bs ≡ some (v, rest) → v ≤ n
unfolding at_most such_that
at_most_bound n bs v rest h =
    let t = then_some (group.get bs) _ _ h in
    let g = when_some (leb t.0 n) _ _ t.3 in
    rw (same_value g.1) at (leb-true t.0 n g.0)

label_ranges : (bs : List ℕ) (l : Label) (rest : List ℕ) → label.get bs ≡ some (l, rest) → (l.number < 2 ^ 32) × (l.position ≤ 4095)
unfolding label as_type ◌⊕◌ ◌⊗◌
label_ranges bs l rest h =
    let whole = then_some ((at_most 15 ⊕ group ⊕ at_most 4095).get bs) _ _ h in
    let maker = then_some ((at_most 15).get bs) _ _ whole.2 in
    let others = then_some ((group ⊕ at_most 4095).get maker.1) _ _ maker.3 in
    let number = then_some (group.get maker.1) _ _ others.2 in
    let position = then_some ((at_most 4095).get number.1) _ _ number.3 in
    let pair : (number.0, position.0) ≡ others.0 = same_value position.3 in
    let three : (maker.0, others.0) ≡ whole.0 = same_value others.3 in
    let e = same_value whole.3 in
    let n : number.0 ≡ l.number = ap (λ (x : ℕ × ℕ). x.0) pair ∙ ap (λ (x : ℕ × (ℕ × ℕ)). x.1.0) three ∙ ap (λ (x : Label). x.number) e in
    let p : position.0 ≡ l.position = ap (λ (x : ℕ × ℕ). x.1) pair ∙ ap (λ (x : ℕ × (ℕ × ℕ)). x.1.1) three ∙ ap (λ (x : Label). x.position) e in
    (rw n at (group_bound maker.1 number.0 number.1 number.2), rw p at (at_most_bound 4095 number.1 position.0 position.1 position.2))

module _ (s : List ℕ) (at : ℕ) where
  pub no_maker : (at_most 15).get (drop at s) ≡ none → None ≡ read_at label_code s at
  unfolding read_at label_code label as_type ◌⊕◌ ◌⊗◌
  no_maker e = rw e

  module _ {m from : ℕ} (r : Reads (at_most 15) s at m from) where
    pub no_number : group.get (drop from s) ≡ none → None ≡ read_at label_code s at
    unfolding read_at label_code label as_type ◌⊕◌ ◌⊗◌
    no_number e = rw (r.value, e)

    module _ {n then : ℕ} (q : Reads group s from n then) where
      pub no_position : (at_most 4095).get (drop then s) ≡ none → None ≡ read_at label_code s at
      unfolding read_at label_code label as_type ◌⊕◌ ◌⊗◌
      no_position e = rw (r.value, q.value, e)

      pub label_code_read : {p next : ℕ} → Reads (at_most 4095) s then p next → Some (((m * 2 ^ 32 + n) * 4096 + p), next) ≡ read_at label_code s at
      label_code_read {p} {next} t = at_value label_code (record {
        value = unfold label_code label as_type ◌⊕◌ ◌⊗◌ code in (rw (r.value, q.value, t.value));
        past = omega (arith, r.past, q.past, t.past);
        within = t.within;
      })

same_label : (bs : List ℕ) (l : Label) (a : ℕ) (s rest : List ℕ) → label.get bs ≡ some (l, s) → code l ≡ a → s ≡ rest → label.get bs ≡ some (label_in a, rest)
same_label bs l a s rest h e r = let w = label_ranges bs l s h in rw (← e, in_code l w.0 (omega (arith, w.1)), ← r) h

decoded : (bs : List ℕ) (a : ℕ) (rest : List ℕ) → label_code.get bs ≡ some (a, rest) → label.get bs ≡ some (label_in a, rest)
unfolding label_code as_type
decoded bs a rest h = let t = then_some (label.get bs) _ _ h in same_label bs t.0 a t.1 rest t.2 (same_value t.3) (same_rest t.3)

-- what a read label is: the label that its code stands for
pub label_at : {s : List ℕ} {at a next : ℕ} → Some (a, next) ≡ read_at label_code s at → Reads label s at (label_in a) next
label_at {s} {at} {a} {next} h =
    let r = value_at label_code label_code_ends h in
    record { value = decoded (drop at s) a (drop next s) r.value; past = r.past; within = r.within }
