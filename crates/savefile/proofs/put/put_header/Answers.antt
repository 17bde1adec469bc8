-- `savefile::put::put_header` meets its contract: three numbers, one stored after the other.
-- Assumes nothing.
use Rattle.groups.proofs.Writing.{stored_then}
use Rattle.savefile.specs.Named.{header_bytes}
use Rattle.savefile.proofs.FileBytes.{header_length}
use Rattle.savefile.proofs.Sizes.{header_here, number_small, counter_small, count_small}
use Rattle.savefile.proofs.WholeFile.{header_most}
use native.Mathlib.Omega.{arith}
use Rattle.savefile.proofs.put.put_header.Goals as goal

pub bounds-block-0 : goal.bounds-block-0
bounds-block-0 c =
    omega (arith, header_here c.args.block.now c.requires)

pub narrow-requires : goal.narrow-requires
narrow-requires c =
    omega (arith, number_small c.args.block.now c.requires)

pub put_group-past_number-requires : goal.put_group-past_number-requires
put_group-past_number-requires c =
    let block = c.args.block.now in
    rw c.narrow.ensures (omega (arith, header_length block, header_most block c.requires))

pub bounds-block-1 : goal.bounds-block-1
bounds-block-1 c =
    omega (arith, header_here c.args.block.now c.requires)

pub narrow-requires-2 : goal.narrow-requires-2
narrow-requires-2 c =
    counter_small c.args.block.now c.requires

pub put_group-past_counter-requires : goal.put_group-past_counter-requires
put_group-past_counter-requires c =
    let block = c.args.block.now in
    let s = rw c.narrow.ensures at c.put_group-past_number.ensures in
    rw c.narrow-2.ensures (omega (arith, header_length block, header_most block c.requires, s.past))

pub bounds-block-2 : goal.bounds-block-2
bounds-block-2 c =
    omega (arith, header_here c.args.block.now c.requires)

pub narrow-requires-3 : goal.narrow-requires-3
narrow-requires-3 c =
    omega (arith, count_small c.args.block.now c.requires)

pub put_group-requires : goal.put_group-requires
put_group-requires c =
    let block = c.args.block.now in
    let s = rw c.narrow.ensures at c.put_group-past_number.ensures in
    let t = rw c.narrow-2.ensures at c.put_group-past_counter.ensures in
    rw c.narrow-3.ensures (omega (arith, header_length block, header_most block c.requires, s.past, t.past))

pub returns : goal.returns
unfolding header_bytes
returns c =
    let s = rw c.narrow.ensures at c.put_group-past_number.ensures in
    let t = rw c.narrow-2.ensures at c.put_group-past_counter.ensures in
    let u = rw c.narrow-3.ensures at c.put_group.ensures in
    stored_then s (stored_then t u)
