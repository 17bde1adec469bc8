-- `stats::count_block` meets its contract. Assumes nothing.
use mathlib.Core.Path.{sym, ◌∙◌}
use Rattle.cells.proofs.Sited.{sited}
use Rattle.stats.proofs.CriticalFaces.{counts_sound, counts_unsound}
use native.Mathlib.Omega.{arith}
use Rattle.stats.proofs.count_block.Goals as goal

pub returns-then-not-is_sound : goal.returns-then-not-is_sound
returns-then-not-is_sound c =
    counts_unsound c.args.block.now (sym c.is_sound.ensures ∙ c.if-not-is_sound.true)

pub count-volumes-requires : goal.count-volumes-requires
count-volumes-requires c =
    sym c.is_sound.ensures ∙ c.if-not-is_sound.false

pub pieces-joined-requires : goal.pieces-joined-requires
pieces-joined-requires c =
    sym c.is_sound.ensures ∙ c.if-not-is_sound.false

pub critical_faces-faces-requires : goal.critical_faces-faces-requires
critical_faces-faces-requires c =
    sym c.is_sound.ensures ∙ c.if-not-is_sound.false

pub bounds-block-2 : goal.bounds-block-2
bounds-block-2 c =
    omega (arith, (sited c.args.block.now (sym c.is_sound.ensures ∙ c.if-not-is_sound.false)).linked.size)

pub bounds-block-1 : goal.bounds-block-1
bounds-block-1 c =
    omega (arith, (sited c.args.block.now (sym c.is_sound.ensures ∙ c.if-not-is_sound.false)).linked.size)

pub returns : goal.returns
returns c =
    let ok = sym c.is_sound.ensures ∙ c.if-not-is_sound.false in
    counts_sound c.args.block.now ok c.count-volumes.ensures.0 c.pieces-joined.ensures c.critical_faces-faces.ensures
