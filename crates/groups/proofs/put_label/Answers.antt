-- `groups::put_label` meets its contract. The label's three numbers, one stored after the other. Assumes nothing.
use native.Mathlib.Omega.{arith}
use Rattle.groups.proofs.Writing.{stored_then}
use Rattle.groups.proofs.Labels.{label_put, label_length}
use Rattle.groups.proofs.put_label.Goals as goal

pub put_group-past_maker-requires : goal.put_group-past_maker-requires
put_group-past_maker-requires c =
    omega (arith, c.requires, label_length c.args.code)

pub put_group-past_number-requires : goal.put_group-past_number-requires
put_group-past_number-requires c =
    omega (arith, c.requires, label_length c.args.code, c.put_group-past_maker.ensures.past)

pub put_group-requires : goal.put_group-requires
put_group-requires c =
    let code = c.args.code in
    omega (
      arith,
      c.requires,
      label_length code,
      c.put_group-past_maker.ensures.past,
      c.put_group-past_number.ensures.past,
    )

pub returns : goal.returns
returns c =
    rw (label_put c.args.code) (stored_then c.put_group-past_maker.ensures (stored_then c.put_group-past_number.ensures c.put_group.ensures))
