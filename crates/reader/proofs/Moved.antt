-- A reader that is kept: what it holds after one read and after four. Assumes nothing.
use Rattle.std.specs.Prelude.{Option, Some}
use Rattle.groups.specs.Slices.{MaybeRead}
use mathlib.Core.Path.{◌≡◌, sym, ◌∙◌, ap}
use mathlib.Core.List.{List}
use Prim.Native.Nat.{ℕ}
use denote.Ref.{Bor}
use Rattle.model.specs.Layouts.{Layout, group}
use Rattle.reader.specs.declared.Reader.{Reader}
use Rattle.reader.specs.Heads.{read_after, head_of, head_in}
use Rattle.reader.proofs.Heads.{head_read}
use Rattle.reader.specs.declared.Head.{Head}

-- a reader over a slice, and what it read last
pub record Stands (s : Bor (List ℕ)) (g : MaybeRead) (r : Reader) : Type 0 where
  pub same : r.src ≡ s
  pub read : r.last ≡ g

-- what a move says of the reader before and after it
abbrev pub Moved : Layout ℕ → Reader → Reader → Type 0
Moved l r q = (q.src ≡ r.src) × (q.last ≡ read_after l r.src.now r.last)

pub stands_next : (l : Layout ℕ) {s : Bor (List ℕ)} {g : MaybeRead} {r q : Reader} → Stands s g r → Moved l r q → Stands s (read_after l s.now g) q
stands_next l {s} {g} {r} w e = record {
  same = e.0 ∙ w.same;
  read = e.1 ∙ (ap (λ (x : Bor (List ℕ)). read_after l x.now r.last) w.same ∙ ap (read_after l s.now) w.read);
}

-- what four moves and four values say
pub four_read : (s : Bor (List ℕ)) (r₀ r₁ r₂ r₃ r₄ : Reader) (t₁ t₂ t₃ t₄ : MaybeRead) (h : Option Head)
    → (r₀.src ≡ s) × (r₀.last ≡ Some (0, 0)) → Moved group r₀ r₁ → Moved group r₁ r₂ → Moved group r₂ r₃ → Moved group r₃ r₄
    → t₁ ≡ r₁.last → t₂ ≡ r₂.last → t₃ ≡ r₃.last → t₄ ≡ r₄.last → h ≡ head_of t₁ t₂ t₃ t₄ → h ≡ head_in s.now
four_read s r₀ r₁ r₂ r₃ r₄ t₁ t₂ t₃ t₄ h e₀ e₁ e₂ e₃ e₄ d₁ d₂ d₃ d₄ e =
    let s₁ = stands_next group {s = s} {g = Some (0, 0)} {r = r₀} {q = r₁} (record { same = e₀.0; read = e₀.1 }) e₁ in
    let s₂ = stands_next group {s = s} {g = t₁} {r = r₁} {q = r₂} (record { same = s₁.same; read = sym d₁ }) e₂ in
    let s₃ = stands_next group {s = s} {g = t₂} {r = r₂} {q = r₃} (record { same = s₂.same; read = sym d₂ }) e₃ in
    let s₄ = stands_next group {s = s} {g = t₃} {r = r₃} {q = r₄} (record { same = s₃.same; read = sym d₃ }) e₄ in
    head_read s.now (d₁ ∙ s₁.read) (d₂ ∙ s₂.read) (d₃ ∙ s₃.read) (d₄ ∙ s₄.read) e
