-- Entries by the part that they are of, and those of part 4, whose labels are as many as a face has darts. Assumes nothing.
use Rattle.std.specs.Prelude.{None, Some}
use Rattle.groups.specs.Slices.{MaybeRead}
use mathlib.Core.Path.{◌≡◌, refl, sym, ◌∙◌, ap, subst}
use mathlib.Core.Logic.{⊎_elim}
use mathlib.Core.List.{List, [], ◌∷◌, ◌++◌}
use mathlib.Core.Option.{none}
use Prim.Native.Nat.{ℕ, zero, suc, ◌+◌, ◌-◌, ◌≤◌, ◌<◌}
use native.Mathlib.Omega.{arith}
use lib.Dec.{ltb}
use lib.ListN.{length, get_or, drop, replicate, get_or-append}
use lib.Seq.{get_or-take, get_or-append-add}
use borrow.Author.Tests.{lt-ltb, le-ltb}
use Rattle.model.specs.Values.{Label}
use Rattle.model.specs.Layouts.{Layout, group, at_most, such_that, ◌⊗◌, ◌⊕◌, times}
use Rattle.model.specs.Messages.{FaceDart, label, part4, size_all, size_at}
use Rattle.laws.proofs.Tests.{lt_or_ge}
use Rattle.codec.specs.Taken.{Took, PassSaid, Passes}
use Rattle.codec.proofs.Taking.{both_none, both_half, both_took, pair_none, pair_half, pair_took, as_none, as_took, such_none, such_refused, such_took}
use Rattle.inbox.specs.declared.parts.Part.{Part}
use Rattle.inbox.specs.Parts.{entry}
use Rattle.inbox.specs.Inbox.{Sized, sizes_of}
use Rattle.inbox.proofs.Arrays.{length_replicate}

-- by the part that an entry is of
pub entry_as : {p q : Part} {s : List ℕ} {at : ℕ} {r : MaybeRead} → p ≡ q → (fs : List (List FaceDart)) → Passes (entry q fs) s at r → Passes (entry p fs) s at r
entry_as {p} {q} {s} {at} {r} e fs d = subst (λ (x : Part). Passes (entry x fs) s at r) (sym e) d

-- PART 4
sizes_at : (fs : List (List FaceDart)) (i : ℕ) → i < size_all fs → get_or (sizes_of fs) i 0 ≡ size_at i fs
unfolding sizes_of size_all size_at
sizes_at [] i h = absurd (omega arith)
sizes_at (f ∷ fs) i h = ⊎_elim
    (λ a. rw (lt-ltb i (length f) a) (get_or-append (replicate (length f) (length f)) (sizes_of fs) 0 i (omega (arith, length_replicate (length f) (length f))) ∙ same (length f) (length f) i a))
    (λ a. rw (le-ltb i (length f) a) (later (i - length f) (omega arith) ∙ sizes_at fs (i - length f) (omega arith)))
    (lt_or_ge i (length f))
  where
    same : (n v k : ℕ) → k < n → get_or (replicate n v) k 0 ≡ v
    same zero v k h = absurd (omega arith)
    same (suc n) v zero h = refl
    same (suc n) v (suc k) h = same n v k (omega arith)

    later : (k : ℕ) → i ≡ length f + k → get_or (replicate (length f) (length f) ++ sizes_of fs) i 0 ≡ get_or (sizes_of fs) k 0
    later k e =
        let c : i ≡ length (replicate (length f) (length f)) + k = omega (arith, length_replicate (length f) (length f)) in
        ap (λ (j : ℕ). get_or (replicate (length f) (length f) ++ sizes_of fs) j 0) c ∙ get_or-append-add (replicate (length f) (length f)) (sizes_of fs) k 0

pub size_there : {fs : List (List FaceDart)} {darts i : ℕ} {sizes : List ℕ} → Sized fs darts sizes → i < darts → get_or sizes i 0 ≡ size_at i fs
size_there {fs} {darts} {i} {sizes} w h =
    let small : i < size_all fs = (let a = w.count in omega arith) in
    sym (get_or-take (size_all fs) sizes i 0 small) ∙ ap (λ (l : List ℕ). get_or l i 0) w.front ∙ sizes_at fs i small

-- where there are no faces, any array has their sizes
pub no_sizes : (sizes : List ℕ) → Sized [] 0 sizes
unfolding size_all sizes_of
no_sizes sizes = record { count = refl; front = refl }

module _ (fs : List (List FaceDart)) where
  abbrev inside : Layout ℕ
  inside = such_that group (λ i. ltb i (size_all fs))

  abbrev after : ℕ → Layout (ℕ × List Label)
  after i = at_most 15 ⊕ times (size_at i fs) label

  pub part4_none : (s : List ℕ) (at : ℕ) → group.get (drop at s) ≡ none → Passes (part4 fs) s at None
  unfolding part4
  part4_none s at e = record {
    said = as_none (λ p. record { index = p.0; other = p.1.0; labels = p.1.1 }) (λ k. (k.index, (k.other, k.labels))) (inside ⊗ after) (drop at s)
        (pair_none inside after (drop at s) (such_none group (λ i. ltb i (size_all fs)) (drop at s) e));
  }

  module _ {s : List ℕ} {at p i : ℕ} (w : Took group s at i p) where
    pub part4_outside : {darts : ℕ} {sizes : List ℕ} → Sized fs darts sizes → darts ≤ i → Passes (part4 fs) s at None
    unfolding part4
    part4_outside z h = record {
      said = as_none (λ p. record { index = p.0; other = p.1.0; labels = p.1.1 }) (λ k. (k.index, (k.other, k.labels))) (inside ⊗ after) (drop at s)
          (pair_none inside after (drop at s) (such_refused group (λ i. ltb i (size_all fs)) w (le-ltb i (size_all fs) (let a = z.count in omega arith))));
    }

    module _ {darts : ℕ} {sizes : List ℕ} (z : Sized fs darts sizes) (h : i < darts) where
      took_index : Took inside s at i p
      took_index = such_took group (λ i. ltb i (size_all fs)) w (lt-ltb i (size_all fs) (let a = z.count in omega arith))

      pub part4_alone : (at_most 15).get (drop p s) ≡ none → Passes (part4 fs) s at None
      unfolding part4
      part4_alone e = record {
        said = as_none (λ p. record { index = p.0; other = p.1.0; labels = p.1.1 }) (λ k. (k.index, (k.other, k.labels))) (inside ⊗ after) (drop at s)
            (pair_half inside after took_index (both_none (at_most 15) (times (size_at i fs) label) (drop p s) e));
      }

      part4_said : {q o : ℕ} → Took (at_most 15) s p o q → (r : MaybeRead) → PassSaid (times (size_at i fs) label) s q r → PassSaid (part4 fs) s at r
      unfolding part4
      part4_said t None d = as_none (λ p. record { index = p.0; other = p.1.0; labels = p.1.1 }) (λ k. (k.index, (k.other, k.labels))) (inside ⊗ after) (drop at s)
          (pair_half inside after took_index (both_half (at_most 15) (times (size_at i fs) label) t d))
      part4_said {q} {o} t (Some (u, n)) d = (
        record { index = i; other = o; labels = d.0 },
        as_took (λ p. record { index = p.0; other = p.1.0; labels = p.1.1 }) (λ k. (k.index, (k.other, k.labels))) (inside ⊗ after)
            (pair_took inside after took_index (both_took (at_most 15) (times (size_at i fs) label) t d.1)),
      )

      pub part4_pass : {q o n : ℕ} {r : MaybeRead} → Took (at_most 15) s p o q → n ≡ get_or sizes i 0 → Passes (times n label) s q r → Passes (part4 fs) s at r
      part4_pass {q} {o} {n} {r} t e d = record { said = part4_said t r (subst (λ (k : ℕ). PassSaid (times k label) s q r) (e ∙ size_there z h) d.said) }
