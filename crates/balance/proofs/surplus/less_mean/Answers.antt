use mathlib.Core.Path.{◌∙◌}
use mir.ValLaws.{to_z-of_z}
use mir.Syntax.{w32}
use Rattle.balance.proofs.SurplusLaws.{filling_start, filling_next, surpluses_told}
use native.Mathlib.Omega.{arith}
use borrow.Author.Rules.{rules}
use Rattle.balance.proofs.surplus.less_mean.Goals as goal

pub loop-i-init : goal.loop-i-init
loop-i-init c =
    filling_start _ _ _

pub offset_bounds-c-i : goal.offset_bounds-c-i
offset_bounds-c-i c =
    omega arith

pub bounds-c-i : goal.bounds-c-i
bounds-c-i c =
    omega arith

pub surplus_of-requires : goal.surplus_of-requires
surplus_of-requires c =
    (omega (arith, c.requires.2 c.loop-i.i c.loop-i-test.true), c.requires.1)

pub offset_bounds-s-i : goal.offset_bounds-s-i
offset_bounds-s-i c =
    omega arith

pub bounds-s-i : goal.bounds-s-i
bounds-s-i c =
    omega arith

pub loop-i-preserved : goal.loop-i-preserved
loop-i-preserved c =
    filling_next c.loop-i.invariant c.requires.0 c.loop-i-test.true (to_z-of_z w32 c.surplus_of.result (search rules) ∙ c.surplus_of.ensures)

pub returns : goal.returns
returns c =
    surpluses_told c.args.c c.args.k c.args.mean c.loop-i.invariant c.loop-i-test.false
