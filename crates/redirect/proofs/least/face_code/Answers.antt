use Rattle.model.specs.Image.{column}
use Rattle.cells.proofs.Paths.{round, going_start, going_next}
use Rattle.redirect.proofs.Lows.{lowest_start, lowest_next, lowest_end, code_end}
use native.Mathlib.Omega.{arith}
use Rattle.redirect.proofs.least.face_code.Goals as goal

pub field-least-requires : goal.field-least-requires
field-least-requires c =
    (omega (arith, c.requires.1, c.requires.0.size), omega arith)

pub loop-p-init : goal.loop-p-init
loop-p-init c =
    let l = c.requires.0 in
    (going_start (round l.few l.next_within l.next_apart _ c.requires.1) c.requires.1, lowest_start _ _ _ c.field-least.ensures)

pub field-code-requires : goal.field-code-requires
field-code-requires c =
    (omega (arith, c.loop-p.invariant.0.below, c.requires.0.size), omega arith)

pub overflow_add-steps : goal.overflow_add-steps
overflow_add-steps c =
    let l = c.requires.0 in
    omega (arith, c.loop-p.invariant.0.less, (round l.few l.next_within l.next_apart c.args.start.0 c.requires.1).few)

pub field-p-requires : goal.field-p-requires
field-p-requires c =
    (omega (arith, c.loop-p.invariant.0.below, c.requires.0.size), omega arith)

pub returns-then-p-first : goal.returns-then-p-first
returns-then-p-first c =
    let block = c.args.block.now in
    let l = c.requires.0 in
    code_end _ _
    (lowest_end l.next_within (round l.few l.next_within l.next_apart _ c.requires.1) c.loop-p.invariant.0 (column block 4)
    c.loop-p.invariant.1 c.field-code.ensures c.lesser-least.ensures c.field-p.ensures c.if-p-first.true)

pub loop-p-smaller : goal.loop-p-smaller
loop-p-smaller c =
    omega arith

pub loop-p-preserved : goal.loop-p-preserved
loop-p-preserved c =
    let block = c.args.block.now in
    let l = c.requires.0 in
    let r = round l.few l.next_within l.next_apart _ c.requires.1 in (
      going_next l.next_within r c.loop-p.invariant.0 c.field-p.ensures c.if-p-first.false,
      lowest_next l.next_within r c.loop-p.invariant.0 (column block 4) c.loop-p.invariant.1 c.field-code.ensures c.lesser-least.ensures,
    )
