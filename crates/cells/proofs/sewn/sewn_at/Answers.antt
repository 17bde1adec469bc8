-- `cells::sewn::sewn_at` meets its contract, arm by arm. Assumes nothing.
use Prim.Native.Nat.{ℕ, ◌%◌}
use mathlib.Core.Path.{sym, ap, ◌∙◌}
use borrow.Author.Tests.{eqb-true}
use Rattle.cells.proofs.SewnLaws.{not_sewn, sewn_to}
use native.Mathlib.Omega.{arith}
use Rattle.cells.proofs.sewn.sewn_at.Goals as goal

pub returns-then-not-is_sewn : goal.returns-then-not-is_sewn
returns-then-not-is_sewn c =
    not_sewn _ _ _ c.field.ensures (sym c.is_sewn.ensures ∙ c.if-not-is_sewn.true)

pub bounds-marks-q : goal.bounds-marks-q
bounds-marks-q c =
    let is_sewn = eqb-true _ 1 (sym c.is_sewn.ensures ∙ c.if-not-is_sewn.false) in
    omega (
      arith,
      c.requires.1,
      c.field-q.ensures,
      c.requires.0.sewn_within _ c.requires.2 (ap (λ (k : ℕ). k % 4) (sym c.field.ensures) ∙ is_sewn),
    )

pub returns : goal.returns
returns c =
    sewn_to c.args.marks.now _ _ _ _ c.field.ensures (sym c.is_sewn.ensures ∙ c.if-not-is_sewn.false) c.field-q.ensures
