-- `balance::next_of` meets its contract. Assumes nothing.
use mathlib.Core.Path.{◌∙◌}
use Rattle.oracle.specs.Oracle.{oracle_of}
use Rattle.balance.proofs.MovesLaws.{sound_parts, counted_small}
use Rattle.balance.proofs.SurplusLaws.{mean_small, mean_is, surpluses_are}
use Rattle.balance.proofs.Turns.{told, model_mesh}
use native.Mathlib.Omega.{arith}
use Rattle.balance.proofs.next_of.Goals as goal

pub counts-counts-requires : goal.counts-counts-requires
counts-counts-requires c =
    sound_parts c.args.mesh.now c.requires.0 c.requires.1

pub total-requires : goal.total-requires
total-requires c =
    let sound = sound_parts c.args.mesh.now c.requires.0 c.requires.1 in
    (sound.few, counted_small sound c.counts-counts.ensures)

pub overflow_cast-mean : goal.overflow_cast-mean
overflow_cast-mean c =
    let sound = sound_parts c.args.mesh.now c.requires.0 c.requires.1 in
    omega (arith, sound.few)

pub nonzero_div-mean : goal.nonzero_div-mean
nonzero_div-mean c =
    let sound = sound_parts c.args.mesh.now c.requires.0 c.requires.1 in
    omega (arith, sound.some)

pub less_mean-surplus-requires : goal.less_mean-surplus-requires
less_mean-surplus-requires c =
    let sound = sound_parts c.args.mesh.now c.requires.0 c.requires.1 in
    (sound.few, mean_small c.total.result _ c.total.ensures.1, counted_small sound c.counts-counts.ensures)

pub next_by-next-requires : goal.next_by-next-requires
next_by-next-requires c =
    (sound_parts c.args.mesh.now c.requires.0 c.requires.1, c.counts-counts.ensures)

pub returns : goal.returns
returns c =
    let o = oracle_of c.args.o in
    let mesh = c.args.mesh.now in
    told c.next_by-next.result _ _ c.next_by-next.ensures (mean_is o mesh c.counts-counts.ensures c.total.ensures.0)
    (c.less_mean-surplus.ensures ∙ surpluses_are o mesh c.counts-counts.ensures c.total.ensures.0)
    ∙ model_mesh c.args.viewers o mesh
