-- `sound::is_sound_by` meets its contract: a yes but for labels, and labels that differ, are a yes.
-- Assumes nothing.
use mathlib.Core.Path.{sym, ◌∙◌}
use native.Mathlib.Omega.{arith}
use Rattle.sound.proofs.is_sound_by.Goals as goal

pub returns-in_default : goal.returns-in_default
returns-in_default c =
    sym (rw c.in_default.is at c.but_labels.ensures)

pub apart-requires : goal.apart-requires
apart-requires c =
    let few = (rw c.in-Right.is at c.but_labels.ensures).0 in (
      omega (arith, few, c.requires.block_le_room.0),
      omega (arith, few, c.requires.block_le_room.2, c.but_labels.auto.keys),
      omega (arith, few, c.requires.block_le_room.3),
      c.requires.by_index.1,
    )

pub returns : goal.returns
returns c =
    c.apart.ensures ∙ sym (rw c.in-Right.is at c.but_labels.ensures).1
