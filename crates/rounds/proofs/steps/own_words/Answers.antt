-- `rounds::steps::own_words` meets its contract. Assumes nothing.
use mathlib.Core.Path.{◌∙◌, ap}
use native.Mathlib.Omega.{arith}
use Rattle.model.specs.Values.{Limits}
use Rattle.model.specs.Image.{words_of}
use Rattle.rounds.proofs.Placed.{own_fits}
use Rattle.rounds.proofs.steps.own_words.Goals as goal

pub words-requires : goal.words-requires
words-requires c =
    omega (arith, ap (λ (l : Limits). l.block_darts) c.among.ensures, own_fits c.args.viewers c.args.b)

pub returns : goal.returns
returns c =
    c.words.ensures ∙ ap words_of c.among.ensures
