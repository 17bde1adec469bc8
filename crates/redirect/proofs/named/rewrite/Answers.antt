use Rattle.redirect.proofs.Rewriting.{rewritten_start, rewriting_skip, rewriting_set, rewritten_end}
use native.Mathlib.Omega.{arith}
use Rattle.redirect.proofs.named.rewrite.Goals as goal

pub loop-p-init : goal.loop-p-init
loop-p-init c =
    (omega arith, rewritten_start _ _ _)

pub offset_bounds-table-p : goal.offset_bounds-table-p
offset_bounds-table-p c =
    omega arith

pub bounds-table-p : goal.bounds-table-p
bounds-table-p c =
    omega arith

pub loop-p-preserved-then-c-from : goal.loop-p-preserved-then-c-from
loop-p-preserved-then-c-from c = (
  omega (arith, c.loop-p-test.true),
  rewriting_skip c.args.table.now c.args.c c.loop-p.invariant.1 (omega (arith, c.if-c-from.true, c.from.ensures)),
)

pub put_field-requires : goal.put_field-requires
put_field-requires c =
    (omega (arith, c.loop-p-test.true, c.loop-p.invariant.1.size, c.requires.1), omega arith)

pub loop-p-preserved : goal.loop-p-preserved
loop-p-preserved c =
    let table = c.args.table.now in
    let c' = c.args.c in (
      omega (arith, c.loop-p-test.true),
      rewriting_set table c' c.loop-p.invariant.1 (omega (arith, c.if-c-from.false, c.from.ensures))
          (omega (arith, c.loop-p-test.true, c.requires.0, c.requires.1)) c.put_field.ensures,
    )

pub shape_of-block : goal.shape_of-block
shape_of-block c =
    c.loop-p.invariant.1.size

pub returns : goal.returns
returns c =
    rewritten_end c.loop-p.invariant.0 c.loop-p-test.false c.loop-p.invariant.1
