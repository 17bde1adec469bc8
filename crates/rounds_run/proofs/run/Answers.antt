-- `rounds_run::run` meets its contract.
-- Assumes nothing.
use mathlib.Core.Path.{sym}
use lib.Seq.{length-take-le}
use native.Mathlib.Omega.{arith}
use Rattle.rounds_run.proofs.run.Goals as goal

pub slice_bounds-play_all-end : goal.slice_bounds-play_all-end
slice_bounds-play_all-end c =
    sym (length-take-le c.args.n c.args.input.now (omega (arith, c.if-n-input.true)))
