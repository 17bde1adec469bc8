-- `pairing::pairs::fresh` meets its contract.
-- Assumes nothing.
use Prim.Native.Nat.{◌/◌}
use Rattle.pairing.proofs.Steps.{fresh_end, fresh_there}
use Rattle.pairing.proofs.pairs.fresh.Goals as goal

pub returns-then-keys-t : goal.returns-then-keys-t
returns-then-keys-t c =
    fresh_end (c.args.x / 65536) c.args.keys.now c.args.t c.if-keys-t.true

pub returns : goal.returns
returns c =
    fresh_there (c.args.x / 65536) c.args.keys.now c.args.t c.if-keys-t.false
