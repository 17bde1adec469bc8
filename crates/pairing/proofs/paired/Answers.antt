-- `pairing::paired` meets its contract.
-- Assumes nothing.
use mathlib.Core.Path.{sym, ◌∙◌}
use Rattle.mesh.proofs.Gathers.{scratch_length, scratch_zero, cleared_again}
use Rattle.pairing.proofs.paired.Goals as goal

pub gather-c-requires : goal.gather-c-requires
gather-c-requires c =
    (c.requires.1, scratch_length c.args.mesh.now c.args.scratch.now c.requires.0)

pub with_room-r-requires : goal.with_room-r-requires
with_room-r-requires c =
    (c.requires.1, c.gather-c.ensures.0, c.gather-c.ensures.1, c.gather-c.ensures.2)

pub returns : goal.returns
returns c =
    let scratch = c.args.scratch.now in
    let mesh = c.args.mesh.now in (
      c.with_room-r.ensures.0,
      cleared_again scratch (scratch_zero mesh scratch c.requires.0)
          (c.with_room-r.ensures.1 ∙ sym (scratch_length mesh scratch c.requires.0)) c.clear.ensures,
    )
