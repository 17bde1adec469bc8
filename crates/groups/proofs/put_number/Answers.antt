-- `groups::put_number` meets its contract. Five groups are enough below 2^32, so that nine allowed are the same. Assumes nothing.
use mathlib.Core.Path.{◌∙◌, sym}
use native.Mathlib.Omega.{arith}
use Rattle.model.specs.Layouts.{group_below, group}
use Rattle.theory.proofs.GroupLaws.{group_length, group_most}
use Rattle.groups.proofs.Writing.{four_is_eight, stored_outside}
use Rattle.groups.proofs.put_number.Goals as goal

pub overflow_add-result : goal.overflow_add-result
unfolding group group_below
overflow_add-result c =
    omega (arith, c.requires.v_bound_2, c.group_count.ensures, group_length c.args.v c.requires.v_bound)

pub returns-then-out-eq0 : goal.returns-then-out-eq0
unfolding group group_below
returns-then-out-eq0 c =
    stored_outside (omega (arith, c.if-out-eq0.true)) (c.group_count.ensures ∙ sym (group_length c.args.v c.requires.v_bound))

pub put_inside-requires : goal.put_inside-requires
unfolding group group_below
put_inside-requires c =
    let v = c.args.v in
    record { v_bound = omega arith; v_in_bounds = rw (four_is_eight v c.requires.v_bound) (omega (arith, group_most v c.requires.v_bound)) }

pub returns-then-at-out : goal.returns-then-at-out
returns-then-at-out c =
    rw (four_is_eight c.args.v c.requires.v_bound) at c.put_inside.ensures

pub put_across-requires : goal.put_across-requires
put_across-requires c =
    record { v_bound = omega arith; v_bound_2 = rw (four_is_eight c.args.v c.requires.v_bound) c.requires.v_bound_2 }

pub returns : goal.returns
returns c =
    rw (four_is_eight c.args.v c.requires.v_bound) at c.put_across.ensures
