use mathlib.Core.Path.{refl, ◌∙◌, sym}
use lib.ListN.{length-set}
use Rattle.redirect.proofs.Indices.{indexing_start, indexing_skip, indexing_away, indexing_whole, indexing_end, index_few, index_away, index_there, linked_by}
use Rattle.redirect.proofs.Hits.{hitting_start, hitting_face, hitting_end}
use native.Mathlib.Omega.{arith}
use Rattle.redirect.proofs.named.index_faces.Goals as goal

pub critical_with-word-requires : goal.critical_with-word-requires
critical_with-word-requires c =
    omega arith

pub loop-p-init : goal.loop-p-init
loop-p-init c = (
  indexing_start _ c.requires.n_in_bounds.0 c.requires.n_in_bounds.1,
  hitting_start _ c.requires.n_in_bounds.1 c.requires.n_in_bounds.3,
  refl,
  refl,
)

pub field-requires : goal.field-requires
field-requires c =
    let l = linked_by c.args.block.now c.requires.block_value.0 c.requires.block_value.1 in
    (omega (arith, c.loop-p-test.true, l.size), omega arith)

pub loop-p-preserved-then-field-word : goal.loop-p-preserved-then-field-word
loop-p-preserved-then-field-word c =
    let block = c.args.block.now in
    let from = c.args.from in
    let codes = c.args.codes.now in
    let c' = c.args.c in (
      indexing_away c.loop-p.invariant.0 c.loop-p-test.true
          (index_away block from codes c' c.loop-p.p c.field.ensures (λ i. c.if-field-word.true (i ∙ sym c.critical_with-word.ensures))),
      c.loop-p.invariant.1,
      c.loop-p.invariant.2,
      c.loop-p.invariant.3,
    )

pub offset_bounds-table-p : goal.offset_bounds-table-p
offset_bounds-table-p c =
    omega (arith, c.loop-p-test.true, (linked_by c.args.block.now c.requires.block_value.0 c.requires.block_value.1).few)

pub bounds-table-p : goal.bounds-table-p
bounds-table-p c =
    omega (arith, c.loop-p-test.true, c.loop-p.invariant.0.size)

pub loop-p-preserved-then-table-p-ne4097 : goal.loop-p-preserved-then-table-p-ne4097
loop-p-preserved-then-table-p-ne4097 c =
    (indexing_skip c.loop-p.invariant.0 c.loop-p-test.true c.if-table-p-ne4097.true, c.loop-p.invariant.1, c.loop-p.invariant.2, c.loop-p.invariant.3)

pub face_code-code-requires : goal.face_code-code-requires
face_code-code-requires c =
    (linked_by c.args.block.now c.requires.block_value.0 c.requires.block_value.1, c.loop-p-test.true)

pub index_of-k-requires : goal.index_of-k-requires
index_of-k-requires c =
    (c.requires.block_value.3.few, c.requires.block_value.3.size, c.requires.block_value.3.ascends)

pub overflow_cast-k : goal.overflow_cast-k
overflow_cast-k c =
    omega (arith, index_few c.args.codes.now c.args.c c.face_code-code.result c.index_of-k.ensures, c.requires.block_value.3.few)

pub assign_face-requires : goal.assign_face-requires
assign_face-requires c =
    (linked_by c.args.block.now c.requires.block_value.0 c.requires.block_value.1, c.loop-p-test.true, c.loop-p.invariant.0.size)

pub bounds-hits-k : goal.bounds-hits-k
bounds-hits-k c =
    omega (arith, index_few c.args.codes.now c.args.c c.face_code-code.result c.index_of-k.ensures, c.loop-p.invariant.3, c.requires.n_in_bounds.2)

pub loop-p-preserved : goal.loop-p-preserved
loop-p-preserved c =
    let block = c.args.block.now in
    let from = c.args.from in
    let codes = c.args.codes.now in
    let c' = c.args.c in
    let there = index_there block from codes c' c.loop-p.p c.field.ensures (c.if-field-word.false ∙ c.critical_with-word.ensures)
    c.face_code-code.ensures c.index_of-k.ensures in
    let few = index_few codes c' c.face_code-code.result c.index_of-k.ensures in (
      indexing_whole block c.requires.block_value.0 c.requires.block_value.1 from codes c' c.loop-p.invariant.0 c.loop-p-test.true there
          c.assign_face.ensures,
      hitting_face c.loop-p.invariant.1 c.loop-p-test.true there (omega (arith, few, c.loop-p.invariant.3, c.requires.n_in_bounds.2))
          c.assign_face.ensures,
      c.assign_face.ensures.size ∙ c.loop-p.invariant.2,
      simp length-set c.loop-p.invariant.3,
    )

pub shape_of-table : goal.shape_of-table
shape_of-table c =
    c.loop-p.invariant.2

pub shape_of-hits : goal.shape_of-hits
shape_of-hits c =
    c.loop-p.invariant.3

pub returns : goal.returns
returns c =
    let ended = indexing_end c.loop-p.invariant.0 c.loop-p-test.false in
    (ended, hitting_end ended c.loop-p.invariant.1)
