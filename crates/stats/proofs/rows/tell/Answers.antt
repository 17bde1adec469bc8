-- `stats::rows::tell` meets its contract: the rows are started, then darts and faces are counted into them. Assumes nothing.
use Prim.Native.Nat.{ℕ, ◌/◌}
use Rattle.model.specs.Image.{count_in}
use Rattle.cells.proofs.Sited.{sited}
use Rattle.laws.proofs.Tables.{length_tab}
use Rattle.stats.proofs.RowLaws.{count_few, first_below, countable_start, countable_after, countable_more, all_told}
use native.Mathlib.Omega.{arith}
use Rattle.stats.proofs.rows.tell.Goals as goal

pub start_rows-requires : goal.start_rows-requires
start_rows-requires c =
    let m = c.args.block.now in
    let ok = c.requires.block_value.0 in
    let g = c.requires.block_value.1 in
    let linked = (sited m ok).linked in
    let few = count_few m ok g in
    record {
      end_bound = (omega (arith, linked.few), omega (arith, few, g.len_f), c.requires.count_in_bounds);
      by_index = λ i h. omega (arith, first_below m ok g (i / 19) (omega arith), linked.size);
    }

pub count_darts-requires : goal.count_darts-requires
count_darts-requires c =
    let m = c.args.block.now in
    let ok = c.requires.block_value.0 in (
      (sited m ok).linked,
      countable_more (countable_start m ok c.requires.block_value.1 c.start_rows.ensures c.requires.count_in_bounds) (omega arith),
    )

pub tell_faces-requires : goal.tell_faces-requires
tell_faces-requires c =
    let m = c.args.block.now in
    let ok = c.requires.block_value.0 in
    let few = (sited m ok).linked.few in (
      ok,
      countable_after (countable_start m ok c.requires.block_value.1 c.start_rows.ensures c.requires.count_in_bounds) c.count_darts.ensures
          (omega (arith, length_tab (λ (q : ℕ). q) (count_in m))),
    )

pub returns : goal.returns
returns c =
    all_told c.args.block.now c.requires.block_value.0 c.requires.block_value.1 c.start_rows.ensures c.count_darts.ensures c.tell_faces.ensures
    c.requires.count_in_bounds
