-- Words written on faces, one after the other. Assumes nothing.
use Rattle.std.specs.Prelude.{None, Some}
use mathlib.Core.Path.{◌≡◌, refl, sym, ◌∙◌, ap, subst}
use mathlib.Core.Logic.{⊎_elim, inl, inr}
use mathlib.Core.List.{List, [], ◌∷◌, ◌++◌, map}
use mathlib.Core.Option.{none-ne-some}
use Prim.Native.Nat.{ℕ, ◌+◌, ◌≤◌, ◌<◌}
use native.Mathlib.Omega.{arith}
use lib.ListN.{length, get_or, set, length-set, length-append, length-map, get_or-append}
use lib.Seq.{get_or-set_same, get_or-set_other, get_or-append_seam}
use Rattle.model.specs.Values.{Label, code}
use Rattle.model.specs.Image.{label_in}
use Rattle.model.specs.Layouts.{times}
use Rattle.model.specs.Messages.{label}
use Rattle.laws.proofs.Tests.{last_or_below}
use Rattle.laws.proofs.Members.{map_append}
use Rattle.laws.proofs.Labels.{code_in}
use Rattle.groups.specs.Slices.{read_at, label_code}
use Rattle.codec.proofs.Taking.{SoFar, so_far_start, so_far_more, so_far_stop, so_far_end}
use Rattle.codec.proofs.Passing.{no_label, took_label}
use Rattle.parts.specs.Faces.{Over, Spans, Faced, code_at}
use Rattle.parts.specs.Entries.{LabelsThere}
use Rattle.parts.proofs.Reading.{labels_are}

-- ONE FACE
pub over_none : (at : ℕ) (f : ℕ → ℕ) (a : List ℕ) → Over at 0 f a a
over_none at f a = record { size = refl; inside = λ j h. absurd (omega arith); outside = λ q h. refl }

pub over_more : {at j y : ℕ} {f : ℕ → ℕ} {a a' : List ℕ} → Over at j f a a' → at + j < length a → y ≡ f j → Over at (j + 1) f a (set a' (at + j) y)
over_more {at} {j} {y} {f} {a} {a'} w h e = record {
  size = simp length-set w.size;
  inside = λ i l. ⊎_elim
      (λ (s : i ≡ j). ap (λ (q : ℕ). get_or (set a' (at + j) y) (at + q) 0) s ∙ get_or-set_same a' (at + j) y 0 (let n = w.size in omega arith) ∙ e ∙ ap f (sym s))
      (λ (s : i < j). get_or-set_other a' (at + j) (at + i) y 0 (λ q. omega arith) ∙ w.inside i s)
      (last_or_below l);
  outside = λ q l. ⊎_elim
      (λ (s : q < at). get_or-set_other a' (at + j) q y 0 (λ r. omega arith) ∙ w.outside q (inl s))
      (λ (s : at + (j + 1) ≤ q). get_or-set_other a' (at + j) q y 0 (λ r. omega arith) ∙ w.outside q (inr (omega arith)))
      l;
}

pub over_all : {at j n : ℕ} {f : ℕ → ℕ} {a a' : List ℕ} → Over at j f a a' → j ≤ n → n ≤ j → Over at n f a a'
over_all {at} {j} {n} {f} {a} {a'} w h k = let e : j ≡ n = omega arith in rw e at w

-- THE FACES OF A PART
-- the face of entry e, by what is read of it: its start i and its size n
module _ (z indices : List ℕ) (e : ℕ) {i n : ℕ} (at : i ≡ get_or indices e 0) (size : n ≡ get_or z i 0) where
  pub face_size_is : n ≡ get_or z (get_or indices e 0) 0
  face_size_is = size ∙ ap (λ (j : ℕ). get_or z j 0) at

  pub face_within : {k c : ℕ} → Spans z indices k c → e < c → i + n ≤ k
  face_within s h = omega (arith, at, face_size_is, s.within e h)

  pub over_face : (g : ℕ → ℕ → ℕ) {a a' : List ℕ} → Over i n (g n) a a' → Over (get_or indices e 0) (get_or z (get_or indices e 0) 0) (g (get_or z (get_or indices e 0) 0)) a a'
  over_face g {a} {a'} o = subst (λ (k : ℕ). Over (get_or indices e 0) k (g k) a a') face_size_is (subst (λ (j : ℕ). Over j n (g n) a a') at o)

pub faced_none : (z indices : List ℕ) (f : ℕ → ℕ → ℕ) (a : List ℕ) → Faced z indices 0 f a a
faced_none z indices f a = record { size = refl; inside = λ e h. absurd (omega arith); outside = λ q h. refl }

pub faced_more : {z indices : List ℕ} {k c e : ℕ} {f : ℕ → ℕ → ℕ} {a a' a'' : List ℕ} → Spans z indices k c → Faced z indices e f a a' → e < c
    → Over (get_or indices e 0) (get_or z (get_or indices e 0) 0) (f e) a' a'' → Faced z indices (e + 1) f a a''
faced_more {z} {indices} {k} {c} {e} {f} {a} {a'} {a''} s w h o = record {
  size = o.size ∙ w.size;
  inside = λ d l j k. ⊎_elim (λ (q : d ≡ e). here d q j k) (λ (q : d < e). o.outside (get_or indices d 0 + j) (inl (let r = s.apart d e q h in omega arith)) ∙ w.inside d q j k) (last_or_below l);
  outside = λ q l. o.outside q (l e (omega arith)) ∙ w.outside q (λ d k. l d (omega arith));
}
  where
    here : (d : ℕ) → d ≡ e → (j : ℕ) → j < get_or z (get_or indices d 0) 0 → get_or a'' (get_or indices d 0 + j) 0 ≡ f d j
    here d q = rw q (λ j k. o.inside j k)

pub faced_all : {z indices : List ℕ} {c e : ℕ} {f : ℕ → ℕ → ℕ} {a a' : List ℕ} → Faced z indices e f a a' → e ≤ c → c ≤ e → Faced z indices c f a a'
faced_all {z} {indices} {c} {e} {f} {a} {a'} w h k = let q : e ≡ c = omega arith in rw q at w

-- LABELS from the message
pub record Coding (s : List ℕ) (from n at : ℕ) (a a' : List ℕ) (j p : ℕ) : Type 0 where
  pub le : j ≤ n
  pub items : List Label
  pub so_far : SoFar label s from p items
  pub read : length items ≡ j
  pub put : Over at j (λ i. get_or (map code items) i 0) a a'

pub coding_none : {s : List ℕ} (from n at : ℕ) (a : List ℕ) → from ≤ length s → Coding s from n at a a 0 from
coding_none from n at a h = record { le = omega arith; items = []; so_far = so_far_start label from h; read = refl; put = over_none at _ a }

module _ {s : List ℕ} {from n at : ℕ} {a a' : List ℕ} {j p : ℕ} (w : Coding s from n at a a' j p) where
  pub coding_bad : LabelsThere s from n → j < n → None ≡ read_at label_code s p → ⊥
  unfolding times
  coding_bad t h e = none-ne-some _ (sym (so_far_stop label n w.so_far (let k = w.read in omega arith) (no_label s p e)) ∙ t.took.value)

  pub coding_more : {y q : ℕ} → at + n ≤ length a → j < n → Some (y, q) ≡ read_at label_code s p → Coding s from n at a (set a' (at + j) y) (j + 1) q
  coding_more {y} {q} fits h e = record {
    le = omega arith;
    items = w.items ++ label_in y ∷ [];
    so_far = so_far_more label w.so_far (took_label e);
    read = let k = w.read in omega (arith, length-append w.items (label_in y ∷ []));
    put = over_more (over_as same w.put) (omega arith) last;
  }
    where
      count : length (map code w.items) ≡ j
      count = length-map w.items code ∙ w.read

      list : map code (w.items ++ label_in y ∷ []) ≡ map code w.items ++ y ∷ []
      list = map_append code w.items (label_in y ∷ []) ∙ ap (λ (c : ℕ). map code w.items ++ c ∷ []) (code_in y)

      same : (i : ℕ) → i < j → get_or (map code w.items) i 0 ≡ get_or (map code (w.items ++ label_in y ∷ [])) i 0
      same i l = sym (ap (λ (m : List ℕ). get_or m i 0) list ∙ get_or-append (map code w.items) (y ∷ []) 0 i (omega (arith, l, count)))

      last : y ≡ get_or (map code (w.items ++ label_in y ∷ [])) j 0
      last = sym (ap (λ (m : List ℕ). get_or m j 0) list ∙ ap (λ (i : ℕ). get_or (map code w.items ++ y ∷ []) i 0) (sym count) ∙ get_or-append_seam (map code w.items) y [] 0)

      over_as : {f g : ℕ → ℕ} {o o' : List ℕ} → ((i : ℕ) → i < j → f i ≡ g i) → Over at j f o o' → Over at j g o o'
      over_as r v = record { size = v.size; inside = λ i l. v.inside i l ∙ r i l; outside = v.outside }

  pub coding_end : n ≤ j → Over at n (code_at s from n) a a'
  coding_end h =
      let e : j ≡ n = (let k = w.le in omega arith) in
      let t = so_far_end label n w.so_far (w.read ∙ e) in
      let o : Over at n (λ i. get_or (map code w.items) i 0) a a' = over_all w.put w.le h in
      subst (λ (l : List Label). Over at n (λ i. get_or (map code l) i 0) a a') (sym (labels_are n t)) o
