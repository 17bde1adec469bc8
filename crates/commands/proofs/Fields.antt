-- The fields of a line. Assumes nothing.
use Rattle.std.specs.Prelude.{None, Option, Some}
use mathlib.Core.Path.{◌≡◌, sym, ap, subst, ◌∙◌}
use mathlib.Core.Bool.{Bool, true, false, cond}
use mathlib.Core.List.{List}
use Prim.Native.Nat.{ℕ, ◌+◌, ◌-◌, ◌≤◌}
use native.Mathlib.Omega.{arith}
use lib.Dec.{eqb}
use lib.ListN.{length, drop, take}
use borrow.Author.Tests.{eq-eqb}
use Rattle.laws.proofs.Lists.{drop_end, rest_whole}
use Rattle.commands.specs.declared.words.Kind.TheVariants as kind
use Rattle.commands.specs.declared.lines.Line.TheVariants as line
use Rattle.commands.specs.Words.{number_in, belongs, leading}
use Rattle.commands.specs.Lines.{rest_blank, valued, word_at, field_from, field_in, line_in}

-- past the end there are no bytes
pub leading_past : (p : ℕ → Bool) (s : List ℕ) (at : ℕ) → length s ≤ at → leading p (drop at s) ≡ 0
unfolding leading
leading_past p s at h = rw (drop_end s at h)

pub blank_past : (s : List ℕ) (at : ℕ) → length s ≤ at → true ≡ rest_blank s at
unfolding rest_blank
blank_past s at h = sym (eq-eqb _ _ (leading_past (belongs kind.Blanks) s at h ∙ gone))
  where
    gone : 0 ≡ length s - at
    gone = omega arith

pub blank_is : (s : List ℕ) (at a : ℕ) → a ≡ leading (belongs kind.Blanks) (take (length s - at) (drop at s)) → eqb a (length s - at) ≡ rest_blank s at
unfolding rest_blank
blank_is s at a e = rw (e, rest_whole s at)

at_word : (s : List ℕ) (at a b : ℕ) (r : Option ℕ) → a ≡ leading (belongs kind.Blanks) (drop at s)
    → b ≡ leading (belongs kind.Word) (drop (at + a) s) → r ≡ number_in (take b (drop (at + a) s))
    → valued r (at + a + b) ≡ field_in s at
unfolding field_in field_from word_at
at_word s at a b r ea eb er = rw (← ea, ← eb, ← er)

-- a word read from its two ends
pub field_word : (s : List ℕ) (at a b : ℕ) (r : Option ℕ) → a ≡ leading (belongs kind.Blanks) (take (length s - at) (drop at s))
    → b ≡ leading (belongs kind.Word) (take (length s - (at + a)) (drop (at + a) s))
    → r ≡ number_in (take (at + a + b - (at + a)) (drop (at + a) s)) → valued r (at + a + b) ≡ field_in s at
field_word s at a b r ea eb er =
    let size : at + a + b - (at + a) ≡ b = omega arith in at_word s at a b r
    (ea ∙ ap (leading (belongs kind.Blanks)) (rest_whole s at)) (eb ∙ ap (leading (belongs kind.Word)) (rest_whole s (at + a)))
    (er ∙ ap (λ (k : ℕ). number_in (take k (drop (at + a) s))) size)

-- past the end there is no word
pub field_past : (s : List ℕ) (at : ℕ) → length s ≤ at → None ≡ field_in s at
unfolding field_in field_from word_at number_in
field_past s at h = rw (leading_past (belongs kind.Blanks) s at h, leading_past (belongs kind.Word) s (at + 0) (omega arith))

-- WHAT A LINE SAYS, field by field
pub line_blank : (s : List ℕ) → rest_blank s 0 ≡ true → line.Blank ≡ line_in s
unfolding line_in
line_blank s b = rw b

pub line_first : (s : List ℕ) → rest_blank s 0 ≡ false → None ≡ field_in s 0 → line.Other ≡ line_in s
unfolding line_in
line_first s b e = rw (b, ← e)

pub line_second : (s : List ℕ) (from p : ℕ) → rest_blank s 0 ≡ false → Some (from, p) ≡ field_in s 0 → None ≡ field_in s p → line.Other ≡ line_in s
unfolding line_in
line_second s from p b e₁ e₂ = rw (b, ← e₁, ← e₂)

pub line_third : (s : List ℕ) (from p to q : ℕ) → rest_blank s 0 ≡ false → Some (from, p) ≡ field_in s 0 → Some (to, q) ≡ field_in s p → None ≡ field_in s q → line.Other ≡ line_in s
unfolding line_in
line_third s from p to q b e₁ e₂ e₃ = rw (b, ← e₁, ← e₂, ← e₃)

pub line_whole : (s : List ℕ) (from p to q serial r : ℕ) → rest_blank s 0 ≡ false → Some (from, p) ≡ field_in s 0
    → Some (to, q) ≡ field_in s p → Some (serial, r) ≡ field_in s q
    → cond (rest_blank s r) (line.Request from to serial) line.Other ≡ line_in s
unfolding line_in
line_whole s from p to q serial r b e₁ e₂ e₃ = rw (b, ← e₁, ← e₂, ← e₃)

pub line_more : (s : List ℕ) (from p to q serial r : ℕ) → rest_blank s 0 ≡ false → Some (from, p) ≡ field_in s 0
    → Some (to, q) ≡ field_in s p → Some (serial, r) ≡ field_in s q → rest_blank s r ≡ false → line.Other ≡ line_in s
line_more s from p to q serial r b e₁ e₂ e₃ l = subst (λ (x : Bool). cond x (line.Request from to serial) line.Other ≡ line_in s) l (line_whole s from p to q serial r b e₁ e₂ e₃)

pub line_request : (s : List ℕ) (from p to q serial r : ℕ) → rest_blank s 0 ≡ false → Some (from, p) ≡ field_in s 0
    → Some (to, q) ≡ field_in s p → Some (serial, r) ≡ field_in s q → rest_blank s r ≡ true
    → line.Request from to serial ≡ line_in s
line_request s from p to q serial r b e₁ e₂ e₃ l = subst (λ (x : Bool). cond x (line.Request from to serial) line.Other ≡ line_in s) l (line_whole s from p to q serial r b e₁ e₂ e₃)
