-- `savefile::links::third_along` meets its contract: a sewn dart's link word is a place, any other's is itself.
-- Assumes nothing.
use mathlib.Core.Path.{◌∙◌, sym, ap}
use Rattle.model.specs.Image.{is_sewn_word}
use Rattle.savefile.proofs.Sizes.{sewn_named, other_named}
use native.Mathlib.Omega.{arith}
use Rattle.savefile.proofs.links.third_along.Goals as goal

pub serial_along-requires : goal.serial_along-requires
serial_along-requires c =
    let h = c.requires.sewn_here (ap is_sewn_word (sym c.field.ensures) ∙ sym c.is_sewn.ensures ∙ c.if-is_sewn.true) in
    (c.requires.here, omega arith, h)

pub returns-then-is_sewn : goal.returns-then-is_sewn
returns-then-is_sewn c =
    c.serial_along.ensures ∙ sym (sewn_named _ _ c.field.ensures (sym c.is_sewn.ensures ∙ c.if-is_sewn.true))

pub returns : goal.returns
returns c =
    c.field-2.ensures ∙ sym (other_named _ _ c.field.ensures (sym c.is_sewn.ensures ∙ c.if-is_sewn.false))
