-- `sound::questions::apart_at_rack` meets its contract: what the slots tell, or the order where they tell nothing.
-- Assumes nothing.
use mathlib.Core.Path.{refl}
use Rattle.keyset.proofs.Apart.{searched_yes, searched_no}
use Rattle.sound.proofs.questions.apart_at_rack.Goals as goal

pub search_slots-requires : goal.search_slots-requires
search_slots-requires c =
    (c.requires.1, c.requires.0, refl)

pub returns-in-Distinct : goal.returns-in-Distinct
returns-in-Distinct c =
    searched_yes _ _ c.requires.1 c.search_slots.ensures c.in-Distinct.is

pub returns-in-Repeated : goal.returns-in-Repeated
returns-in-Repeated c =
    searched_no _ _ c.requires.1 c.search_slots.ensures c.in-Repeated.is
