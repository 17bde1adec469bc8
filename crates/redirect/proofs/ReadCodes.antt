-- The labels of an update read as codes, and the search for a code among codes that ascend. Assumes nothing.
use Rattle.std.specs.Prelude.{None, Some}
use mathlib.Core.Path.{◌≡◌, refl, sym, ◌∙◌, ap}
use mathlib.Core.Bool.{true}
use mathlib.Core.List.{List, [], ◌∷◌, ◌++◌, map}
use mathlib.Core.Option.{none-ne-some}
use Prim.Native.Nat.{ℕ, ◌+◌, ◌≤◌, ◌<◌}
use native.Mathlib.Omega.{arith}
use native.Mathlib.Numerals.{add-one}
use lib.ListN.{length, get_or, set, take, length-set, length-append}
use lib.Seq.{take-suc-set}
use Rattle.laws.specs.Order.{Ascending}
use Rattle.laws.proofs.Members.{map_append}
use Rattle.laws.proofs.Tables.{ascending_tab, index_place, index_none, tab_take}
use Rattle.model.specs.Lists.{ascending, tab, index_of}
use Rattle.model.specs.Values.{Label, code}
use Rattle.model.specs.Image.{label_in}
use Rattle.model.specs.Layouts.{times}
use Rattle.model.specs.Messages.{label}
use Rattle.laws.proofs.Labels.{code_in}
use Rattle.theory.proofs.LayoutLaws.{same_value}
use Rattle.groups.specs.Slices.{read_at, label_code}
use Rattle.memory.proofs.Lookups.{Halving}
use Rattle.codec.proofs.Taking.{SoFar, so_far_start, so_far_more, so_far_stop, so_far_end}
use Rattle.codec.proofs.Passing.{no_label, took_label}
use Rattle.redirect.specs.ByPlaces.{CodesRead}

-- READ ONE BY ONE
pub record Reading (s : List ℕ) (at count : ℕ) (codes : List ℕ) (i p : ℕ) : Type 0 where
  pub size : count ≤ length codes
  pub i_le : i ≤ count
  pub items : List Label
  pub so_far : SoFar label s at p items
  pub read : length items ≡ i
  pub codes_are : take i codes ≡ map code items

pub reading_start : {s : List ℕ} (at count : ℕ) (codes : List ℕ) → at ≤ length s → count ≤ length codes → Reading s at count codes 0 at
reading_start at count codes h e = record { size = e; i_le = omega arith; items = []; so_far = so_far_start label at h; read = refl; codes_are = refl }

module _ {s : List ℕ} {at count : ℕ} {codes : List ℕ} {i p : ℕ} (w : Reading s at count codes i p) where
  pub reading_more : {a q : ℕ} → i < count → Some (a, q) ≡ read_at label_code s p → Reading s at count (set codes i a) (i + 1) q
  reading_more {a} {q} h e = record {
    size = simp length-set w.size;
    i_le = omega arith;
    items = w.items ++ label_in a ∷ [];
    so_far = so_far_more label w.so_far (took_label e);
    read = let n = w.read in omega (arith, length-append w.items (label_in a ∷ []));
    codes_are = ap (λ (k : ℕ). take k (set codes i a)) (add-one i) ∙ take-suc-set codes i a (let n = w.size in omega arith) ∙ ap (λ (l : List ℕ). l ++ a ∷ []) w.codes_are
        ∙ ap (λ (b : ℕ). map code w.items ++ b ∷ []) (sym (code_in a)) ∙ sym (map_append code w.items (label_in a ∷ []));
  }

  -- where labels stand, none is missing
  pub reading_bad : i < count → None ≡ read_at label_code s p → CodesRead s at count codes
  unfolding times
  reading_bad h e = record {
    codes_are = λ ls past t. absurd (none-ne-some _ (sym (so_far_stop label count w.so_far (let n = w.read in omega arith) (no_label s p e)) ∙ t.value));
  }

  pub reading_end : count ≤ i → CodesRead s at count codes
  unfolding times
  reading_end h =
      let all_read : i ≡ count = (let n = w.i_le in omega arith) in
      let t = so_far_end label count w.so_far (w.read ∙ all_read) in
      record { codes_are = λ ls past u. ap (λ (k : ℕ). take k codes) (sym all_read) ∙ w.codes_are ∙ ap (map code) (same_value (sym t.value ∙ u.value)) }

-- IN ORDER
-- codes that differ ascend by index
pub front_ascends : (codes : List ℕ) (c : ℕ) → c ≤ length codes → ascending (take c codes) ≡ true → Ascending c (λ k. get_or codes k 0)
front_ascends codes c h e = ascending_tab (λ k. get_or codes k 0) c (ap ascending (tab_take codes c h) ∙ e)

-- SEARCH
pub halved : {n : ℕ} {s : ℕ → ℕ} {x low left v : ℕ} → Ascending n s → Halving n s x low left → left ≤ 1 → v ≡ s low → v ≡ x → low ≡ index_of x (tab s n)
halved {n} {s} {x} {low} {left} a w l r e = sym (ap (λ (y : ℕ). index_of y (tab s n)) (sym (sym r ∙ e)) ∙ index_place s n low a (let f = w.fits in let g = w.some_left in omega arith))

pub halved_none : {n : ℕ} {s : ℕ → ℕ} {x low left v : ℕ} → Halving n s x low left → left ≤ 1 → v ≡ s low → (v ≡ x → ⊥) → n ≡ index_of x (tab s n)
halved_none {n} {s} {x} {low} {left} w l r d = sym (index_none s n x (λ k u e. d (r ∙ ap s (only k (w.within k u e)) ∙ e)))
  where
    only : (k : ℕ) → (low ≤ k) × (k < low + left) → low ≡ k
    only k h = omega (arith, h.0, h.1)

pub none_among : (s : ℕ → ℕ) (n x : ℕ) → n ≡ 0 → 0 ≡ index_of x (tab s n)
none_among s n x e = sym e ∙ sym (index_none s n x (λ k u w. omega arith))
