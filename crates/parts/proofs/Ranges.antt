-- What is read of labels and entries lies in its range. Assumes nothing.
use mathlib.Core.Path.{◌≡◌, refl, sym, ◌∙◌, ap}
use mathlib.Core.List.{List, [], ◌∷◌, map}
use mathlib.Core.Option.{some}
use Prim.Native.Nat.{ℕ, zero, suc, ◌≤◌, ◌<◌, ◌^◌}
use native.Mathlib.Omega.{arith}
use lib.ListN.{length, get_or}
use Rattle.model.specs.Values.{Label, code}
use Rattle.model.specs.Image.{label_in}
use Rattle.model.specs.Layouts.{group, at_most, as_type, ◌⊗◌, ◌⊕◌, get_all, times}
use Rattle.model.specs.Messages.{Part2, Part3, label, part2, part3}
use Rattle.laws.proofs.Labels.{in_code}
use Rattle.theory.proofs.LayoutLaws.{same_value, then_some}
use Rattle.groups.proofs.Labels.{group_bound, at_most_bound}
use Rattle.codec.specs.Taken.{Took}
use Rattle.parts.specs.Entries.{code2, number3}

record InRange (l : Label) : Type 0 where
  maker_small : l.maker ≤ 15
  number_small : l.number < 2 ^ 32
  position_small : l.position ≤ 4095

label_ranges : (bs : List ℕ) (l : Label) (rest : List ℕ) → label.get bs ≡ some (l, rest) → InRange l
unfolding label as_type ◌⊕◌ ◌⊗◌
label_ranges bs l rest h =
    let whole = then_some ((at_most 15 ⊕ group ⊕ at_most 4095).get bs) _ _ h in
    let maker = then_some ((at_most 15).get bs) _ _ whole.2 in
    let others = then_some ((group ⊕ at_most 4095).get maker.1) _ _ maker.3 in
    let number = then_some (group.get maker.1) _ _ others.2 in
    let position = then_some ((at_most 4095).get number.1) _ _ number.3 in
    let pair : (number.0, position.0) ≡ others.0 = same_value position.3 in
    let three : (maker.0, others.0) ≡ whole.0 = same_value others.3 in
    let e = same_value whole.3 in
    let m : maker.0 ≡ l.maker = ap (λ (x : ℕ × (ℕ × ℕ)). x.0) three ∙ ap (λ (x : Label). x.maker) e in
    let n : number.0 ≡ l.number = ap (λ (x : ℕ × ℕ). x.0) pair ∙ ap (λ (x : ℕ × (ℕ × ℕ)). x.1.0) three ∙ ap (λ (x : Label). x.number) e in
    let p : position.0 ≡ l.position = ap (λ (x : ℕ × ℕ). x.1) pair ∙ ap (λ (x : ℕ × (ℕ × ℕ)). x.1.1) three ∙ ap (λ (x : Label). x.position) e in
    record {
      maker_small = rw m at (at_most_bound 15 bs maker.0 maker.1 maker.2);
      number_small = rw n at (group_bound maker.1 number.0 number.1 number.2);
      position_small = rw p at (at_most_bound 4095 number.1 position.0 position.1 position.2);
    }

code_small : (l : Label) → InRange l → code l < 2 ^ 48
unfolding code
code_small l w = let a = w.maker_small in let b = w.number_small in let c = w.position_small in omega arith

label_back : (l : Label) → InRange l → label_in (code l) ≡ l
label_back l w = in_code l w.number_small (let c = w.position_small in omega arith)

-- labels that were read
labels_back : (n : ℕ) (bs : List ℕ) (ls : List Label) (rest : List ℕ) → get_all label n bs ≡ some (ls, rest) → map label_in (map code ls) ≡ ls
unfolding get_all
labels_back zero bs ls rest e = ap (λ (l : List Label). map label_in (map code l)) (sym (same_value e)) ∙ same_value e
labels_back (suc n) bs ls rest e =
    let t = then_some (label.get bs) _ _ e in
    let u = then_some (get_all label n t.1) _ _ t.3 in
    let r = label_ranges bs t.0 t.1 t.2 in
    ap (λ (l : List Label). map label_in (map code l)) (sym (same_value u.3)) ∙ two (label_back t.0 r) (labels_back n t.1 u.0 u.1 u.2) ∙ same_value u.3
  where
    two : {a b : Label} {l m : List Label} → a ≡ b → l ≡ m → a ∷ l ≡ b ∷ m
    two p q = rw (p, q) refl

labels_small : (n : ℕ) (bs : List ℕ) (ls : List Label) (rest : List ℕ) → get_all label n bs ≡ some (ls, rest) → (j : ℕ) → get_or (map code ls) j 0 < 2 ^ 48
unfolding get_all
labels_small zero bs ls rest e j = let q : ls ≡ [] = sym (same_value e) in rw q (omega arith)
labels_small (suc n) bs ls rest e j =
    let t = then_some (label.get bs) _ _ e in
    let u = then_some (get_all label n t.1) _ _ t.3 in
    let r = label_ranges bs t.0 t.1 t.2 in
    let q : ls ≡ t.0 ∷ u.0 = sym (same_value u.3) in
    rw q (go t.0 u.0 j (code_small t.0 r) (labels_small n t.1 u.0 u.1 u.2))
  where
    go : (l : Label) (m : List Label) (j : ℕ) → code l < 2 ^ 48 → ((i : ℕ) → get_or (map code m) i 0 < 2 ^ 48) → get_or (map code (l ∷ m)) j 0 < 2 ^ 48
    go l m zero a b = a
    go l m (suc i) a b = b i

labels_count : (n : ℕ) (bs : List ℕ) (ls : List Label) (rest : List ℕ) → get_all label n bs ≡ some (ls, rest) → length ls ≡ n
unfolding get_all
labels_count zero bs ls rest e = ap length (sym (same_value e))
labels_count (suc n) bs ls rest e =
    let t = then_some (label.get bs) _ _ e in
    let u = then_some (get_all label n t.1) _ _ t.3 in
    ap length (sym (same_value u.3)) ∙ ap suc (labels_count n t.1 u.0 u.1 u.2)

module _ (n : ℕ) {s : List ℕ} {at past : ℕ} {ls : List Label} (t : Took (times n label) s at ls past) where
  pub took_back : map label_in (map code ls) ≡ ls
  unfolding times
  took_back = labels_back n _ ls _ t.value

  pub took_small : (j : ℕ) → get_or (map code ls) j 0 < 2 ^ 48
  unfolding times
  took_small = labels_small n _ ls _ t.value

  pub took_count : length ls ≡ n
  unfolding times
  took_count = labels_count n _ ls _ t.value

-- numbers of part 3 that were read
number_range : (bs : List ℕ) (m : Part3) (rest : List ℕ) → part3.get bs ≡ some (m, rest) → m.number < 2 ^ 32
unfolding part3 as_type ◌⊕◌ ◌⊗◌
number_range bs m rest h =
    let whole = then_some ((group ⊕ group).get bs) _ _ h in
    let number = then_some (group.get bs) _ _ whole.2 in
    let index = then_some (group.get number.1) _ _ number.3 in
    let e : number.0 ≡ m.number = ap (λ (x : ℕ × ℕ). x.0) (same_value index.3) ∙ ap (λ (x : Part3). x.number) (same_value whole.3) in
    rw e at (group_bound bs number.0 number.1 number.2)

numbers_small : (n : ℕ) (bs : List ℕ) (ms : List Part3) (rest : List ℕ) → get_all part3 n bs ≡ some (ms, rest) → (j : ℕ) → get_or (map number3 ms) j 0 < 2 ^ 32
unfolding get_all
numbers_small zero bs ms rest e j = let q : ms ≡ [] = sym (same_value e) in rw q (omega arith)
numbers_small (suc n) bs ms rest e j =
    let t = then_some (part3.get bs) _ _ e in
    let u = then_some (get_all part3 n t.1) _ _ t.3 in
    let q : ms ≡ t.0 ∷ u.0 = sym (same_value u.3) in
    rw q (go t.0 u.0 j (number_range bs t.0 t.1 t.2) (numbers_small n t.1 u.0 u.1 u.2))
  where
    go : (m : Part3) (l : List Part3) (j : ℕ) → m.number < 2 ^ 32 → ((i : ℕ) → get_or (map number3 l) i 0 < 2 ^ 32) → get_or (map number3 (m ∷ l)) j 0 < 2 ^ 32
    go l m zero a b = a
    go l m (suc i) a b = b i

pub took_numbers : (n : ℕ) {s : List ℕ} {at past : ℕ} {ms : List Part3} → Took (times n part3) s at ms past → (j : ℕ) → get_or (map number3 ms) j 0 < 2 ^ 32
unfolding times
took_numbers n {ms = ms} t = numbers_small n _ ms _ t.value

-- codes of part 2 that were read
code_range : (bs : List ℕ) (m : Part2) (rest : List ℕ) → part2.get bs ≡ some (m, rest) → code2 m < 2 ^ 48
unfolding part2 as_type ◌⊕◌ ◌⊗◌
code_range bs m rest h =
    let whole = then_some ((label ⊕ group).get bs) _ _ h in
    let name = then_some (label.get bs) _ _ whole.2 in
    let index = then_some (group.get name.1) _ _ name.3 in
    let e : name.0 ≡ m.label = ap (λ (x : Label × ℕ). x.0) (same_value index.3) ∙ ap (λ (x : Part2). x.label) (same_value whole.3) in
    rw e at (code_small name.0 (label_ranges bs name.0 name.1 name.2))

codes_small : (n : ℕ) (bs : List ℕ) (ms : List Part2) (rest : List ℕ) → get_all part2 n bs ≡ some (ms, rest) → (j : ℕ) → get_or (map code2 ms) j 0 < 2 ^ 48
unfolding get_all
codes_small zero bs ms rest e j = let q : ms ≡ [] = sym (same_value e) in rw q (omega arith)
codes_small (suc n) bs ms rest e j =
    let t = then_some (part2.get bs) _ _ e in
    let u = then_some (get_all part2 n t.1) _ _ t.3 in
    let q : ms ≡ t.0 ∷ u.0 = sym (same_value u.3) in
    rw q (go t.0 u.0 j (code_range bs t.0 t.1 t.2) (codes_small n t.1 u.0 u.1 u.2))
  where
    go : (m : Part2) (l : List Part2) (j : ℕ) → code2 m < 2 ^ 48 → ((i : ℕ) → get_or (map code2 l) i 0 < 2 ^ 48) → get_or (map code2 (m ∷ l)) j 0 < 2 ^ 48
    go m l zero a b = a
    go m l (suc i) a b = b i

pub took_codes : (n : ℕ) {s : List ℕ} {at past : ℕ} {ms : List Part2} → Took (times n part2) s at ms past → (j : ℕ) → get_or (map code2 ms) j 0 < 2 ^ 48
unfolding times
took_codes n {ms = ms} t = codes_small n _ ms _ t.value
