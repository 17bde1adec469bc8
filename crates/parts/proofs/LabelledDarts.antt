-- The dart with a label is the one at the place where its code stands. Assumes nothing.
use mathlib.Core.Path.{◌≡◌, refl, sym, ◌∙◌, ap}
use mathlib.Core.Bool.{true, false}
use mathlib.Core.List.{List}
use Prim.Native.Nat.{ℕ, suc, ◌<◌}
use native.Mathlib.Omega.{arith}
use Rattle.model.specs.Lists.{tab}
use Rattle.model.specs.Values.{Label, code, label_key, or_no_dart, no_dart}
use Rattle.model.specs.Cells.{labelled}
use Rattle.model.specs.Image.{column, is_critical_word, third_in, dart_in}
use Rattle.laws.proofs.Tests.{by_cases}
use Rattle.laws.proofs.Tables.{find_none}
use Rattle.columns.specs.Columns.{count}
use Rattle.columns.proofs.Thirds.{label_word}
use Rattle.columns.proofs.Question.{Passed}
use Rattle.departure.proofs.LeavingFaces.{labels_apart}
use Rattle.parts.proofs.FaceLinks.{find_first}

module _ {m : List ℕ} (ok : Passed m) (l : Label) where
  abbrev key : ℕ → ℕ
  key p = label_key (third_in (column m 0) (column m 3 p) (column m 4 p))

  key_in : (p : ℕ) → p < count m → is_critical_word (column m 3 p) ≡ true → key p ≡ suc (column m 4 p)
  key_in p h c = label_word (column m 0) (column m 3 p) (column m 4 p) (ok.range.kinds p h) ∙ rw c refl

  key_out : (p : ℕ) → p < count m → is_critical_word (column m 3 p) ≡ false → key p ≡ 0
  key_out p h c = label_word (column m 0) (column m 3 p) (column m 4 p) (ok.range.kinds p h) ∙ rw c refl

  -- a dart with the key has the code
  key_says : (p : ℕ) → p < count m → key p ≡ suc (code l) → (is_critical_word (column m 3 p) ≡ true) × (column m 4 p ≡ code l)
  key_says p h e = by_cases (is_critical_word (column m 3 p))
      (λ c. (c, (let r = sym (key_in p h c) ∙ e in omega (arith, r))))
      (λ c. absurd (let r = sym (key_out p h c) ∙ e in omega (arith, r)))

  pub labelled_at : (y : ℕ) → y < count m → is_critical_word (column m 3 y) ≡ true → column m 4 y ≡ code l → labelled l (tab (dart_in m) (count m)) ≡ dart_in m y
  unfolding labelled
  labelled_at y h c e = ap or_no_dart (find_first (λ d. label_key d.third) (dart_in m) (count m) y (suc (code l)) h (key_in y h c ∙ ap suc e)
      (λ i u q. let r = key_says i (omega arith) q in let same = labels_apart m (count m) i y ok.differ (omega arith) h r.0 c (r.1 ∙ sym e) in omega (arith, same, u)))

  pub labelled_none : ((p : ℕ) → p < count m → is_critical_word (column m 3 p) ≡ true → column m 4 p ≡ code l → ⊥) → labelled l (tab (dart_in m) (count m)) ≡ no_dart
  unfolding labelled
  labelled_none never = ap or_no_dart (find_none (λ d. label_key d.third) (dart_in m) (count m) (suc (code l)) (λ p h e. let r = key_says p h e in never p h r.0 r.1))
