-- `outbox::parts::critical_with` meets its contract: the kind word says it. Assumes nothing.
use mathlib.Core.Path.{ap, ◌∙◌}
use Prim.Native.Nat.{ℕ, ◌+◌, ◌*◌}
use lib.Dec.{eqb}
use Rattle.outbox.proofs.parts.critical_with.Goals as goal

pub returns : goal.returns
returns c =
    ap (λ (k : ℕ). eqb c.field.result k) c.critical_with.ensures ∙ ap (λ (k : ℕ). eqb k (2 + 4 * c.args.to)) c.field.ensures
