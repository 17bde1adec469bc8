-- `rounds::send_part` meets its contract: what send gives, of the part that was lent.
-- Assumes nothing.
use mathlib.Core.Path.{refl}
use native.Mathlib.Omega.{arith}
use Rattle.rounds.proofs.Placed.{own_fits}
use Rattle.rounds.proofs.Stepping.{sent_own}
use Rattle.rounds.proofs.send_part.Goals as goal

pub overflow_add-end : goal.overflow_add-end
overflow_add-end c =
    omega (arith, c.own_words.ensures, own_fits c.args.viewers c.args.b)

pub slice_bounds-send-end : goal.slice_bounds-send-end
slice_bounds-send-end c =
    omega (arith, c.own_words.ensures, own_fits c.args.viewers c.args.b)

pub returns : goal.returns
returns c =
    let m = c.args.mesh.now in
    sent_own c.args.viewers m c.args.b _ _ c.args.to c.args.serial c.args.outbox.now refl c.own_words.ensures c.requires c.send.ensures
