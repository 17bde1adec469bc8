-- What a reader that is kept answers: a value after the last one, and the head of a message. Assumes nothing.
use Rattle.groups.specs.Slices.{MaybeRead}
use Rattle.std.specs.Prelude.{List, ℕ, ◌-◌, length, None, Option as Optional, Some}
use Rattle.std.proofs.Math.Option.{Option, none, some}
use Rattle.model.specs.Layouts.{Layout, group, ◌⊕◌}
use Rattle.groups.specs.Slices.{read_at}
use Rattle.reader.specs.declared.Head.{Head}

-- what a layout reads after the last value: nothing, where that one was bad
abbrev pub read_after : Layout ℕ → List ℕ → MaybeRead → MaybeRead
read_after l s None = None
read_after l s (Some (v, at)) = read_at l s at

-- four numbers as they were read
abbrev pub head_of : MaybeRead → MaybeRead → MaybeRead → MaybeRead → Optional Head
head_of None b c d = None
head_of (Some (n, body)) None c d = None
head_of (Some (n, body)) (Some (k, p)) None d = None
head_of (Some (n, body)) (Some (k, p)) (Some (f, q)) None = None
head_of (Some (n, body)) (Some (k, p)) (Some (f, q)) (Some (t, next)) = Some (record { length = n; body = body; kind = k; from = f; to = t; next = next })

-- THE HEAD of a message: length, kind, sender, receiver
abbrev pub Four : Type 0
Four = ℕ × (ℕ × (ℕ × ℕ))

unfoldable pub four : Layout Four
four = group ⊕ group ⊕ group ⊕ group

-- of n bytes, by what is left past the first number, and past the fourth
abbrev pub head_told : ℕ → Option (ℕ × List ℕ) → Option (Four × List ℕ) → Optional Head
head_told n none r = None
head_told n (some a) none = None
head_told n (some a) (some r) = Some (record { length = a.0; body = n - length a.1; kind = r.0.1.0; from = r.0.1.1.0; to = r.0.1.1.1; next = n - length r.1 })

unfoldable pub head_in : List ℕ → Optional Head
head_in s = head_told (length s) (group.get s) (four.get s)
