use mathlib.Core.Path.{◌∙◌, sym}
use Rattle.pairing.proofs.InBlocks.{few}
use Rattle.pairing.proofs.ByNumber.{word_in, table_first, table_more, write_lt, filling_lt, filling_end}
use native.Mathlib.Omega.{arith}
use Rattle.pairing.proofs.before.fill_part.Goals as goal

pub loop-p-init : goal.loop-p-init
loop-p-init c =
    record { size = word_in c.args.mesh.now c.args.i 2 (omega arith); filled = c.requires.2 }

pub next_place-next-requires : goal.next_place-next-requires
next_place-next-requires c =
    (c.requires.0, c.requires.1, filling_lt c.loop-p.invariant c.loop-p-test.true)

pub overflow_mul-table : goal.overflow_mul-table
overflow_mul-table c =
    omega (arith, few c.requires.0, c.requires.1)

pub overflow_add-table : goal.overflow_add-table
overflow_add-table c =
    omega (arith, few c.requires.0, c.requires.1, c.next_place-next.ensures.1)

pub offset_bounds-table-i : goal.offset_bounds-table-i
offset_bounds-table-i c =
    omega (arith, few c.requires.0, c.requires.1, c.next_place-next.ensures.1)

pub bounds-table-i : goal.bounds-table-i
bounds-table-i c =
    write_lt c.requires.0 c.loop-p.invariant.filled c.requires.1 (filling_lt c.loop-p.invariant c.loop-p-test.true) c.next_place-next.ensures.0

pub loop-p-preserved : goal.loop-p-preserved
loop-p-preserved c =
    record {
      size =
          c.loop-p.invariant.size;
      filled = table_more c.requires.0 c.loop-p.invariant.filled c.requires.1
          (filling_lt c.loop-p.invariant c.loop-p-test.true) c.next_place-next.ensures.0;
    }

pub shape_of-table : goal.shape_of-table
shape_of-table c =
    c.loop-p.invariant.filled.len ∙ sym c.requires.2.len

pub returns : goal.returns
returns c =
    table_first c.requires.0 c.loop-p.invariant.filled (filling_end c.loop-p.invariant c.loop-p-test.false)
