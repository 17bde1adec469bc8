-- `receive::asks::last_two` meets its contract. Assumes nothing.
use mathlib.Core.Path.{sym, ap}
use mathlib.Core.Bool.{Bool}
use Rattle.receive.specs.Taken.{last_two}
use Rattle.receive.proofs.asks.last_two.Goals as goal

pub returns-then-not-right : goal.returns-then-not-right
returns-then-not-right c =
    ap (λ (p : Bool). last_two p c.args.fits) (sym c.if-not-right.true)

pub returns-then-not-fits : goal.returns-then-not-fits
returns-then-not-fits c =
    λ i. last_two (sym c.if-not-right.false i) (sym c.if-not-fits.true i)

pub returns : goal.returns
returns c =
    λ i. last_two (sym c.if-not-right.false i) (sym c.if-not-fits.false i)
