-- `sound::questions::put_label` meets its contract: a dart that is not critical changes nothing. Assumes nothing.
use mathlib.Core.Path.{refl, sym, ap, ◌∙◌}
use Rattle.model.specs.Image.{is_critical_word}
use Rattle.sound.proofs.questions.put_label.Goals as goal

pub returns-then-not-is_critical : goal.returns-then-not-is_critical
returns-then-not-is_critical c =
    let e = ap is_critical_word (sym c.field-k.ensures) ∙ sym c.is_critical.ensures ∙ c.if-not-is_critical.true in
    record { keys_are = rw e refl; count_is = rw e refl }

pub returns : goal.returns
returns c =
    let e = ap is_critical_word (sym c.field-k.ensures) ∙ sym c.is_critical.ensures ∙ c.if-not-is_critical.false in
    record { keys_are = rw (e, c.field.ensures) refl; count_is = rw e refl }
