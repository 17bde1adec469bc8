use mathlib.Core.Path.{sym, ◌∙◌}
use Rattle.parts.specs.Indices.{fits_at}
use Rattle.arrival.proofs.Steps.{passing_none, passing_more, passing_all, passing_not}
use native.Mathlib.Omega.{arith}
use Rattle.parts.proofs.indices.fit.Goals as goal

pub loop-e-init : goal.loop-e-init
loop-e-init c =
    passing_none _

pub returns-then-not-fits_at : goal.returns-then-not-fits_at
returns-then-not-fits_at c =
    let indices = c.args.indices.now in
    let starts = c.args.starts.now in
    let marks = c.args.marks.now in
    let k = c.args.k in
    let c' = c.args.c in
    record { said = passing_not (fits_at indices starts marks k) c.loop-e.e c' (omega arith) (sym c.fits_at.ensures ∙ c.if-not-fits_at.true) }

pub loop-e-preserved : goal.loop-e-preserved
loop-e-preserved c =
    passing_more c.loop-e.invariant (sym c.fits_at.ensures ∙ c.if-not-fits_at.false)

pub returns : goal.returns
returns c =
    record { said = passing_all {k = c.args.c} c.loop-e.invariant (omega arith) }
