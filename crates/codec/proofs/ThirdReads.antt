-- Third links read at a place: the kind decides what follows it. Assumes nothing.
--   third_got, third_lacks    what an answer tells, and what no answer does
use Rattle.std.proofs.lemmas.Option.{same_Some}
use Rattle.std.specs.Prelude.{None, Option as Optional, Some}
use mathlib.Core.Path.{◌≡◌, refl, sym, ap, ◌∙◌}
use mathlib.Core.List.{List}
use mathlib.Core.Option.{Option, none, some, none-ne-some}
use Prim.Native.Nat.{ℕ, zero, suc, ◌+◌, ◌*◌, ◌-◌, ◌≤◌}
use native.Mathlib.Omega.{arith}
use lib.ListN.{length, drop}
use Rattle.model.specs.Values.{Label, Third, free, sewn, critical, code}
use Rattle.model.specs.Layouts.{Layout, Read, then, serial, at_most, ◌⊗◌, as_type}
use Rattle.model.specs.Image.{label_in, kind_word}
use Rattle.model.specs.Messages.{kind_of, label, critical_link, third_get, third}
use Rattle.laws.proofs.Labels.{code_in}
use Rattle.theory.proofs.LayoutLaws.{then_some}
use Rattle.groups.specs.Slices.{label_code}
use Rattle.groups.proofs.Ends.{Onward, Ends, from_onward, place_back, same_rest, onward_then, onward_to, ⊕-ends, serial_ends, at_most_ends, label_ends}
use Rattle.groups.proofs.Labels.{at_most_bound}
use Rattle.codec.specs.Thirds.{named_by, kind_and_third, placed_third, third_read}
use Rattle.codec.specs.Taken.{Took}
use Rattle.codec.proofs.Taking.{took_reads, Lacks, dependent_lacks, both_took, pair_lacks, pair_then_lacks, as_lacks, lacks_as}

critical_ends : Ends critical_link
unfolding critical_link
critical_ends = ⊕-ends (at_most 15) label (at_most_ends 15) label_ends

after_kind : (k : ℕ) (bs mid : List ℕ) (t : Third) (rest : List ℕ) → Onward bs mid → third_get k mid ≡ some (t, rest) → Onward bs rest
after_kind zero bs mid t rest o e = onward_to (same_rest e) o
after_kind (suc zero) bs mid t rest o e =
    let u = then_some (serial.get mid) _ _ e in
    onward_then o (onward_to (same_rest u.3) (serial_ends mid u.0 u.1 u.2))
after_kind (suc (suc zero)) bs mid t rest o e =
    let u = then_some (critical_link.get mid) _ _ e in
    onward_then o (onward_to (same_rest u.3) (critical_ends mid u.0 u.1 u.2))
after_kind (suc (suc (suc k))) bs mid t rest o e = absurd (none-ne-some _ e)

pub kind_third_ends : Ends (at_most 2 ⊗ third)
unfolding ◌⊗◌ third
kind_third_ends bs v rest h =
    let t = then_some ((at_most 2).get bs) _ _ h in
    let u = then_some (third_get t.0 t.1) _ _ t.3 in
    onward_to (same_rest u.3) (after_kind t.0 bs t.1 u.0 u.1 (at_most_ends 2 bs t.0 t.1 t.2) u.2)

-- what an answer tells
pub record ThirdGot (s : List ℕ) (at k a next : ℕ) : Type 0 where
  pub kind : ℕ
  pub link : Third
  pub reads : Took (at_most 2 ⊗ third) s at (kind, link) next
  pub kind_is : k ≡ kind_word link
  pub link_is : a ≡ named_by link

pub third_got : {s : List ℕ} {at k a next : ℕ} → Some (k, a, next) ≡ third_read kind_and_third s at → ThirdGot s at k a next
unfolding third_read kind_and_third as_type
third_got {s} {at} {k} {a} {next} h = go ((at_most 2 ⊗ third).get (drop at s)) refl h
  where
    go : (r : Option ((ℕ × Third) × List ℕ)) → (at_most 2 ⊗ third).get (drop at s) ≡ r
        → Some (k, a, next) ≡ placed_third (length s) (then r (λ p rest. some (p.1, rest))) → ThirdGot s at k a next
    go none e q = let z : ◌≡◌ {A = ℕ} 0 1 = cc in absurd (omega arith)
    go (some r) e q =
        let same = same_Some {A = ℕ × ℕ × ℕ} (k, a, next) (kind_word r.0.1, named_by r.0.1, (length s - length r.1)) q in
        let ek : k ≡ kind_word r.0.1 = ap (λ (w : ℕ × ℕ × ℕ). w.0) same in
        let ea : a ≡ named_by r.0.1 = ap (λ (w : ℕ × ℕ × ℕ). w.1) same in
        let en : next ≡ length s - length r.1 = ap (λ (w : ℕ × ℕ × ℕ). w.2) same in
        record {
          kind = r.0.0;
          link = r.0.1;
          reads = rw en (took_reads (from_onward (at_most 2 ⊗ third) s r.1 at r.0 e (kind_third_ends (drop at s) r.0 r.1 e)));
          kind_is = ek;
          link_is = ea;
        }

pub third_lacks : {s : List ℕ} {at : ℕ} → None ≡ third_read kind_and_third s at → Lacks (at_most 2 ⊗ third) s at
third_lacks {s} {at} h = lacks_as (λ p. p.1) (λ t. (kind_of t, t)) (at_most 2 ⊗ third) (record { value = unfold third_read kind_and_third in (go (kind_and_third.get (drop at s)) h) })
  where
    go : (r : Option (Third × List ℕ)) → None ≡ placed_third (length s) r → r ≡ none
    go none q = refl
    go (some r) q = let z : ◌≡◌ {A = ℕ} 0 1 = cc in absurd (omega arith)

-- and the other way round
no_third : (l : Layout Third) {s : List ℕ} {at : ℕ} → Lacks l s at → None ≡ third_read l s at
unfolding third_read
no_third l e = rw e.value

a_third : (l : Layout Third) (s : List ℕ) (at next : ℕ) (t : Third) → l.get (drop at s) ≡ some (t, drop next s) → next ≤ length s → Some ((kind_word t), (named_by t), next) ≡ third_read l s at
unfolding third_read
a_third l s at next t e w = rw (e, place_back s next w)

-- the kind was read: what follows it decides
kind_first : {s : List ℕ} {at k from : ℕ} → Took (at_most 2) s at k from → third_read (third k) s from ≡ third_read kind_and_third s at
unfolding third_read kind_and_third as_type ◌⊗◌
kind_first {s} {at} {k} {from} p = rw p.value (go ((third k).get (drop from s)))
  where
    go : (r : Read Third) → placed_third (length s) r ≡ placed_third (length s) (then {A = ℕ × Third} (then {B = ℕ × Third} r (λ b rest'. some ((k, b), rest'))) (λ a rest. some (a.1, rest)))
    go none = refl
    go (some r) = refl

pub kind_is : {s : List ℕ} {at k from : ℕ} (j : ℕ) {x : Optional (ℕ × ℕ × ℕ)} → Took (at_most 2) s at k from → k ≡ j → x ≡ third_read (third j) s from → x ≡ third_read kind_and_third s at
kind_is {s} {at} {k} {from} j p e h = h ∙ ap (λ (i : ℕ). third_read (third i) s from) (sym e) ∙ kind_first p

pub kind_one : {s : List ℕ} {at k from : ℕ} → Took (at_most 2) s at k from → (k ≡ 0 → ⊥) → (k ≡ 2 → ⊥) → k ≡ 1
kind_one {s} {at} {k} {from} p a b = omega (arith, at_most_bound 2 (drop at s) k (drop from s) p.value)

pub no_kind : {s : List ℕ} {at : ℕ} → Lacks (at_most 2) s at → None ≡ third_read kind_and_third s at
no_kind e = no_third kind_and_third (unfold kind_and_third in (as_lacks _ _ (at_most 2 ⊗ third) (dependent_lacks (at_most 2) third e)))

-- kind 0
pub free_read : (s : List ℕ) (from : ℕ) → from ≤ length s → Some (0, 0, from) ≡ third_read (third 0) s from
free_read s from w = a_third (third 0) s from from free (unfold third in refl) w

-- kind 1
pub sewn_read : {s : List ℕ} {from y next : ℕ} → Took serial s from y next → Some (1, y, next) ≡ third_read (third 1) s from
sewn_read {s} {from} {y} {next} r = a_third (third 1) s from next (sewn y) (unfold third in (rw r.value)) r.within

pub no_sewn : {s : List ℕ} {from : ℕ} → Lacks serial s from → None ≡ third_read (third 1) s from
no_sewn e = no_third (third 1) (record { value = unfold third in (rw e.value) })

-- kind 2
critical_reads : {s : List ℕ} {at o from next : ℕ} {l : Label} → Took (at_most 15) s at o from → Took label s from l next → Took critical_link s at (o, l) next
unfolding critical_link
critical_reads p q = both_took (at_most 15) label p q

pub critical_read : {s : List ℕ} {at o from next k : ℕ} (a : ℕ) → Took (at_most 15) s at o from → Took label s from (label_in a) next → k ≡ 2 + 4 * o
    → Some (k, a, next) ≡ third_read (third 2) s at
critical_read {s} {at} {o} {from} {next} a p q e =
    let r = critical_reads p q in
    ap (λ (w : ℕ). Some (w, a, next)) e ∙ ap (λ (c : ℕ). Some ((2 + 4 * o), c, next)) (sym (code_in a))
    ∙ a_third (third 2) s at next (critical o (label_in a)) (unfold third in (rw r.value)) r.within

no_critical : {s : List ℕ} {at : ℕ} → Lacks critical_link s at → None ≡ third_read (third 2) s at
no_critical e = no_third (third 2) (record { value = unfold third in (rw e.value) })

pub no_other : {s : List ℕ} {at : ℕ} → Lacks (at_most 15) s at → None ≡ third_read (third 2) s at
no_other e = no_critical (unfold critical_link in (pair_lacks (at_most 15) label e))

pub no_label : {s : List ℕ} {at o from : ℕ} → Took (at_most 15) s at o from → Lacks label_code s from → None ≡ third_read (third 2) s at
no_label p e = no_critical (unfold critical_link in (pair_then_lacks (at_most 15) label p (lacks_as code label_in label (unfold label_code in e))))
