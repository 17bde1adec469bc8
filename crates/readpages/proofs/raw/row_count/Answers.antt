use mathlib.Core.Path.{◌≡◌, sym, ◌∙◌, ap}
use Prim.Native.Nat.{ℕ, ◌+◌, ◌*◌}
use lib.ListN.{get_or}
use Rattle.readpages.proofs.PageTexts.{row_within, count_none, count_more, count_stops, count_ends}
use native.Mathlib.Omega.{arith}
use Rattle.readpages.proofs.raw.row_count.Goals as goal

pub loop-i-init : goal.loop-i-init
loop-i-init c =
    (omega arith, count_none _)

pub row_place-at-requires : goal.row_place-at-requires
row_place-at-requires c =
    omega (arith, c.requires.0, c.loop-i-test.true)

pub overflow_add-at : goal.overflow_add-at
overflow_add-at c =
    omega (arith, c.requires.0, c.row_place-at.ensures, row_within _ _ c.loop-i-test.true)

pub bounds-s-at : goal.bounds-s-at
bounds-s-at c =
    omega (arith, c.requires.1, c.row_place-at.ensures, row_within _ _ c.loop-i-test.true)

pub returns-then-s-at-eq-BLANK : goal.returns-then-s-at-eq-BLANK
returns-then-s-at-eq-BLANK c =
    count_stops c.loop-i.invariant.1 c.loop-i-test.true (omega (arith, c.requires.1, row_within _ _ c.loop-i-test.true))
    (ap (λ (k : ℕ). get_or c.args.s.now (k + 9) 0) (sym c.row_place-at.ensures) ∙ c.if-s-at-eq-BLANK.true)

pub loop-i-preserved : goal.loop-i-preserved
loop-i-preserved c = (
  omega (arith, c.loop-i-test.true),
  count_more c.loop-i.invariant.1 (omega (arith, c.requires.1, row_within _ _ c.loop-i-test.true))
      (λ e. c.if-s-at-eq-BLANK.false (ap (λ (k : ℕ). get_or c.args.s.now (k + 9) 0) c.row_place-at.ensures ∙ e)),
)

pub returns : goal.returns
returns c =
    let all : 59 * c.args.total ≡ c.loop-i.i = omega (arith, c.loop-i.invariant.0, c.loop-i-test.false) in
    all ∙ count_ends c.loop-i.invariant.1 c.loop-i.invariant.0 c.loop-i-test.false
