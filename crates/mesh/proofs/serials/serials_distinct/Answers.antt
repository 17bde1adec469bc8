-- `mesh::serials::serials_distinct` meets its contract.
-- Assumes nothing.
use mathlib.Core.Path.{sym, ap, ◌∙◌}
use Rattle.model.specs.Lists.{distinct}
use Rattle.mesh.proofs.Gathers.{few_blocks, roomy, scratch_length, scratch_zero, gathered_all, cleared_again}
use Rattle.mesh.proofs.serials.serials_distinct.Goals as goal

pub gather-c-requires : goal.gather-c-requires
gather-c-requires c =
    let mesh = c.args.mesh.now in
    let scratch = c.args.scratch.now in
    (few_blocks mesh c.requires.2, roomy mesh c.requires.1, scratch_length mesh scratch c.requires.0)

pub returns : goal.returns
returns c =
    let mesh = c.args.mesh.now in
    let scratch = c.args.scratch.now in (
      c.apart-ok.ensures.0 ∙ ap distinct c.gather-c.ensures.2 ∙ gathered_all mesh,
      cleared_again scratch (scratch_zero mesh scratch c.requires.0) (c.apart-ok.ensures.1 ∙ sym (scratch_length mesh scratch c.requires.0))
          c.clear.ensures,
    )
