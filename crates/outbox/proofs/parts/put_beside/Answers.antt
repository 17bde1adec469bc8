-- `outbox::parts::put_beside` meets its contract: the two numbers, and the labels after them. Assumes nothing.
use mathlib.Core.Path.{ap, ◌∙◌}
use Prim.Native.Nat.{ℕ, ◌/◌}
use Rattle.groups.proofs.Writing.{stored_then}
use Rattle.codec.proofs.EntryLaws.{stored_as, room_after}
use Rattle.outbox.proofs.BytesLaws.{beside_of, beside_length}
use native.Mathlib.Omega.{arith}
use Rattle.outbox.proofs.parts.put_beside.Goals as goal

pub offset_bounds-order-first : goal.offset_bounds-order-first
offset_bounds-order-first c =
    omega arith

pub bounds-order-first : goal.bounds-order-first
bounds-order-first c =
    omega arith

pub field-requires : goal.field-requires
field-requires c =
    (c.requires.darts_listed.0.held c.args.start.0 (omega (arith, c.requires.darts_listed.1)), omega arith)

pub put_part4-past-requires : goal.put_part4-past-requires
put_part4-past-requires c =
    let first = c.args.start.0 in
    let block = c.args.block.now in
    let order = c.args.order.now in
    let size = c.args.size in
    let other_is = c.other_of-other.ensures ∙ ap (λ (k : ℕ). k / 4) c.field.ensures in (
      omega (arith, c.requires.darts_listed.0.few),
      omega (arith, other_is, c.requires.darts_listed.0.other_small first (omega (arith, c.requires.darts_listed.1))),
      omega (arith, c.requires.size_bound, beside_length block order first size c.other_of-other.result other_is),
    )

pub put_labels-requires : goal.put_labels-requires
put_labels-requires c =
    let block = c.args.block.now in
    let order = c.args.order.now in
    let first = c.args.start.0 in
    let size = c.args.size in
    let other_is = c.other_of-other.ensures ∙ ap (λ (k : ℕ). k / 4) c.field.ensures in
    record {
      darts_listed = c.requires.darts_listed.0;
      size_bound = room_after c.put_part4-past.ensures _
          (omega (arith, c.requires.size_bound, beside_length block order first size c.other_of-other.result other_is));
    }

pub returns : goal.returns
returns c =
    let block = c.args.block.now in
    let order = c.args.order.now in
    let first = c.args.start.0 in
    let size = c.args.size in
    let other_is = c.other_of-other.ensures ∙ ap (λ (k : ℕ). k / 4) c.field.ensures in
    stored_as (beside_of block order first size c.other_of-other.result other_is) (stored_then c.put_part4-past.ensures c.put_labels.ensures)
