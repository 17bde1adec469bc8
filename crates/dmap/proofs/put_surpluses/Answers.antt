use mathlib.Core.Path.{◌≡◌, ap, ◌∙◌}
use lib.IntN.{pos}
use lib.ListN.{get_or}
use mir.Syntax.{w32}
use mir.Val.{to_z, of_z}
use mir.ValLaws.{to_z-of_z}
use Rattle.model.specs.Calls.{signed_word}
use Rattle.dmap.proofs.Through.{putting_start, putting_next, put_all}
use native.Mathlib.Omega.{arith}
use borrow.Author.Rules.{rules}
use Rattle.dmap.proofs.put_surpluses.Goals as goal

pub loop-i-init : goal.loop-i-init
loop-i-init c =
    putting_start _ _ c.requires

pub offset_bounds-surplus-i : goal.offset_bounds-surplus-i
offset_bounds-surplus-i c =
    omega arith

pub bounds-surplus-i : goal.bounds-surplus-i
bounds-surplus-i c =
    omega arith

pub overflow_add-answer : goal.overflow_add-answer
overflow_add-answer c =
    omega arith

pub bounds-answer-i : goal.bounds-answer-i
bounds-answer-i c =
    omega (arith, c.loop-i.invariant.size, c.loop-i-test.true)

pub loop-i-preserved : goal.loop-i-preserved
loop-i-preserved c =
    let surplus = c.args.surplus in
    let e : to_z w32 (of_z w32 (get_or surplus c.loop-i.i (pos 0))) ≡ get_or surplus c.loop-i.i (pos 0) = to_z-of_z w32
    (get_or surplus c.loop-i.i (pos 0)) (search rules) in
    putting_next c.loop-i.invariant c.loop-i-test.true (c.signed_word.ensures ∙ ap signed_word e)

pub shape_of-answer : goal.shape_of-answer
shape_of-answer c =
    omega (arith, c.loop-i.invariant.size, c.requires)

pub returns : goal.returns
returns c =
    put_all c.loop-i.invariant c.loop-i-test.false c.requires (search rules)
