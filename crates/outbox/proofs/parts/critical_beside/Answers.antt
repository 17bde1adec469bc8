-- `outbox::parts::critical_beside` meets its contract: the kind word says it. Assumes nothing.
use mathlib.Core.Path.{ap, ◌∙◌}
use mathlib.Core.Bool.{Bool, not, ◌&&◌}
use Prim.Native.Nat.{ℕ, ◌+◌, ◌*◌}
use lib.Dec.{eqb}
use Rattle.model.specs.Image.{is_critical_word}
use Rattle.outbox.proofs.parts.critical_beside.Goals as goal

pub returns : goal.returns
returns c =
    ap (λ (k : ℕ). c.is_critical.result && not (eqb c.field-word.result k)) c.critical_with.ensures
    ∙ ap (λ (b : Bool). b && not (eqb c.field-word.result (2 + 4 * c.args.to))) c.is_critical.ensures
    ∙ ap (λ (k : ℕ). is_critical_word k && not (eqb k (2 + 4 * c.args.to))) c.field-word.ensures
