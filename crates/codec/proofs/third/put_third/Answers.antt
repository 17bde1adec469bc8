-- `codec::third::put_third` meets its contract: the parts of each kind, one stored after the other.
-- Assumes nothing.
use mathlib.Core.Path.{refl, sym, ◌∙◌}
use Rattle.groups.proofs.Writing.{stored_then}
use Rattle.theory.proofs.GroupLaws.{one_group}
use Rattle.codec.proofs.ThirdLaws.{free_bytes, sewn_bytes, critical_bytes, sewn_length, critical_length}
use native.Mathlib.Omega.{arith}
use Rattle.codec.proofs.third.put_third.Goals as goal

pub put_group-requires : goal.put_group-requires
put_group-requires c =
    let free = sym c.is_free.ensures ∙ c.if-is_free.true in
    rw (free_bytes c.args.kind c.args.named free) at c.requires.1

pub returns-then-is_free : goal.returns-then-is_free
returns-then-is_free c =
    let free = sym c.is_free.ensures ∙ c.if-is_free.true in
    rw (free_bytes c.args.kind c.args.named free) c.put_group.ensures

pub put_group-past_kind-requires : goal.put_group-past_kind-requires
put_group-past_kind-requires c =
    let sewn = sym c.is_sewn.ensures ∙ c.if-is_sewn.true in
    omega (arith, c.requires.1, sewn_length c.args.kind c.args.named sewn, one_group 1 (omega arith))

pub put_serial-requires : goal.put_serial-requires
put_serial-requires c =
    let kind = c.args.kind in
    let named = c.args.named in
    let sewn = sym c.is_sewn.ensures ∙ c.if-is_sewn.true in
    record {
      v_lt_serial_bound = c.requires.0.sewn_small sewn;
      v_bound = omega (arith, c.requires.1, sewn_length kind named sewn, one_group 1 (omega arith), c.put_group-past_kind.ensures.past);
    }

pub returns-then-is_sewn : goal.returns-then-is_sewn
returns-then-is_sewn c =
    let sewn = sym c.is_sewn.ensures ∙ c.if-is_sewn.true in
    rw (sewn_bytes c.args.kind c.args.named sewn) (stored_then c.put_group-past_kind.ensures c.put_serial.ensures)

pub put_group-past_kind-requires-2 : goal.put_group-past_kind-requires-2
put_group-past_kind-requires-2 c =
    let not-Free = sym c.is_free.ensures ∙ c.if-is_free.false in
    let not_sewn = sym c.is_sewn.ensures ∙ c.if-is_sewn.false in
    omega (arith, c.requires.1, critical_length c.args.kind c.args.named not-Free not_sewn refl, one_group 2 (omega arith))

pub overflow_cast-other_of : goal.overflow_cast-other_of
overflow_cast-other_of c =
    omega (arith, c.requires.0.other_small)

pub put_group-past_other-requires : goal.put_group-past_other-requires
put_group-past_other-requires c =
    let kind = c.args.kind in
    let named = c.args.named in
    let not-Free = sym c.is_free.ensures ∙ c.if-is_free.false in
    let not_sewn = sym c.is_sewn.ensures ∙ c.if-is_sewn.false in
    omega
    (arith, c.requires.1, critical_length kind named not-Free not_sewn c.other_of.ensures, one_group 2 (omega arith), c.put_group-past_kind-2.ensures.past)

pub put_label-requires : goal.put_label-requires
put_label-requires c =
    let kind = c.args.kind in
    let named = c.args.named in
    let not-Free = sym c.is_free.ensures ∙ c.if-is_free.false in
    let not_sewn = sym c.is_sewn.ensures ∙ c.if-is_sewn.false in
    omega
    (arith, c.requires.1, critical_length kind named not-Free not_sewn c.other_of.ensures, one_group 2 (omega arith), c.put_group-past_kind-2.ensures.past, c.put_group-past_other.ensures.past)

pub returns : goal.returns
returns c =
    let not-Free = sym c.is_free.ensures ∙ c.if-is_free.false in
    let not_sewn = sym c.is_sewn.ensures ∙ c.if-is_sewn.false in
    rw (critical_bytes c.args.kind c.args.named not-Free not_sewn c.other_of.ensures)
    (stored_then c.put_group-past_kind-2.ensures (stored_then c.put_group-past_other.ensures c.put_label.ensures))
