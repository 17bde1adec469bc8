-- `arrival::volume::one_volume` meets its contract: the walk lists what it marks, so that nothing is marked after it.
-- Assumes nothing.
use mathlib.Core.Path.{refl}
use native.Mathlib.Omega.{arith}
use Rattle.cells.proofs.Resets.{unmarked}
use Rattle.arrival.proofs.volume.one_volume.Goals as goal

pub unmark-requires : goal.unmark-requires
unmark-requires c =
    let listed = c.volume-size.ensures.listed in
    let few = c.requires.0.few in (
      omega (arith, listed.few, few),
      omega (arith, listed.few, listed.size),
      λ k h. omega (arith, listed.below k h, c.requires.3, c.volume-size.auto.marks),
    )

pub returns : goal.returns
returns c =
    record {
      answer = rw c.volume-size.ensures.count refl;
      unmarked = unmarked c.volume-size.ensures.marked c.volume-size.ensures.listed.has c.unmark.ensures;
    }
