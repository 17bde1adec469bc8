-- `balance::nextmove::refused` meets its contract. Assumes nothing.
use mathlib.Core.Path.{refl}
use Rattle.balance.specs.Answer.{answer_with, ZeroBeside}
use Rattle.balance.proofs.nextmove.refused.Goals as goal

pub returns : goal.returns
unfolding answer_with ZeroBeside
returns c =
    (refl, (refl, refl))
