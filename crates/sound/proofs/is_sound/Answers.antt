-- `sound::is_sound` meets its contract: the rack's limits are the widest.
-- Assumes nothing.
use mathlib.Core.Path.{sym, ap, ◌∙◌}
use Rattle.model.specs.Values.{Limits}
use Rattle.model.specs.Image.{is_image}
use Rattle.laws.proofs.Lists.{getD_zeros}
use Rattle.memory.proofs.Headers.{rack_fits}
use native.Mathlib.Omega.{arith}
use Rattle.sound.proofs.is_sound.Goals as goal

pub but_labels-requires : goal.but_labels-requires
but_labels-requires c =
    let fits = rack_fits _ c.rack.ensures in
    (fits, fits, getD_zeros 4096, fits)

pub returns-in_default : goal.returns-in_default
returns-in_default c =
    sym (rw c.in_default.is at c.but_labels.ensures) ∙ ap (λ (l : Limits). is_image l c.args.block.now) c.rack.ensures

pub apart_at_rack-requires : goal.apart_at_rack-requires
apart_at_rack-requires c =
    let few = (rw c.in-Right.is at c.but_labels.ensures).0 in
    let fits = rack_fits _ c.rack.ensures in
    (omega (arith, few, fits), omega (arith, few, fits, c.but_labels.auto.keys))

pub returns : goal.returns
returns c =
    c.apart_at_rack.ensures ∙ sym (rw c.in-Right.is at c.but_labels.ensures).1 ∙ ap (λ (l : Limits). is_image l c.args.block.now) c.rack.ensures
