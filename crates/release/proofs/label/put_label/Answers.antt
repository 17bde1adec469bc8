-- `release::label::put_label` meets its contract: two stores are a link. Assumes nothing.
use mathlib.Core.Path.{ap, ◌∙◌}
use Prim.Native.Nat.{ℕ, ◌+◌, ◌*◌}
use lib.ListN.{set}
use Rattle.release.proofs.Labelling.{link_stored}
use Rattle.release.proofs.label.put_label.Goals as goal

pub returns : goal.returns
returns c =
    let block = c.args.block.now in
    let q = c.args.q.0 in
    link_stored block q c.args.to _ c.code_of-code.ensures
    (c.put_field.ensures ∙ ap (λ (k : ℕ). set block (8 + q * 8 + 3) k) c.critical_with-word.ensures) c.put_field-2.ensures
