-- A third link by its kind word and what it names, the serial of a sewn dart or the code of a label: its bytes, what they ask for, and what is read. Assumes nothing.
use Rattle.std.specs.Prelude.{◌≡◌, true, List, ℕ, ◌-◌, ◌^◌, ◌<◌, length, drop, None, Option as Optional, Some}
use Rattle.std.proofs.Math.Option.{Option, none, some}
use Rattle.model.specs.Values.{Third, free, sewn, critical, code, serial_bound, blocks}
use Rattle.model.specs.Layouts.{Layout, as_type, at_most, ◌⊗◌}
use Rattle.model.specs.Image.{kind_word, is_sewn_word, other_in, third_in}
use Rattle.model.specs.Messages.{kind_of, third}

-- kind first
unfoldable pub third_bytes : ℕ → ℕ → List ℕ
third_bytes k a = let t = third_in (λ x. x) k a in (at_most 2 ⊗ third).put (kind_of t, t)

-- numbers in range
pub record ThirdSmall (k a : ℕ) : Type 0 where
  pub other_small : other_in k < blocks
  pub named_small : a < 2 ^ 48
  pub sewn_small : is_sewn_word k ≡ true → a < serial_bound

-- READ: a kind, and what follows it
-- what a third link names: the serial of the sewn dart, or the label's code
abbrev pub named_by : Third → ℕ
named_by free = 0
named_by (sewn y) = y
named_by (critical o l) = code l

unfoldable pub kind_and_third : Layout Third
kind_and_third = as_type (λ p. p.1) (λ t. (kind_of t, t)) (at_most 2 ⊗ third)

abbrev pub placed_third : ℕ → Option (Third × List ℕ) → Optional (ℕ × ℕ × ℕ)
placed_third n none = None
placed_third n (some r) = Some ((kind_word r.0), (named_by r.0), (n - length r.1))

unfoldable pub third_read : Layout Third → List ℕ → ℕ → Optional (ℕ × ℕ × ℕ)
third_read l s at = placed_third (length s) (l.get (drop at s))
