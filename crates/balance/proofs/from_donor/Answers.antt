use mathlib.Core.Path.{refl, sym, ◌∙◌}
use Rattle.oracle.specs.Oracle.{oracle_of}
use Rattle.balance.proofs.MovesLaws.{giving_start, giving_skip, giving_none, giving_found, giving_end, counted_small, gives_told, blocks_apart}
use native.Mathlib.Omega.{arith}
use Rattle.balance.proofs.from_donor.Goals as goal

pub sizes_at-requires : goal.sizes_at-requires
sizes_at-requires c =
    c.requires.sound_parts

pub loop-to-init : goal.loop-to-init
loop-to-init c =
    (refl, λ o n z. giving_start z)

pub offset_bounds-counts-d : goal.offset_bounds-counts-d
offset_bounds-counts-d c =
    omega arith

pub bounds-counts-d : goal.bounds-counts-d
bounds-counts-d c =
    omega arith

pub offset_bounds-counts-to : goal.offset_bounds-counts-to
offset_bounds-counts-to c =
    omega arith

pub bounds-counts-to : goal.bounds-counts-to
bounds-counts-to c =
    omega arith

pub gives-requires : goal.gives-requires
gives-requires c =
    counted_small c.requires.sound_parts.0 c.requires.cells_counted c.loop-to.to c.loop-to-test.true

pub loop-to-preserved-then-not-gives : goal.loop-to-preserved-then-not-gives
loop-to-preserved-then-not-gives c =
    let d = c.args.d in
    let mesh = c.args.mesh.now in (
      c.loop-to.invariant.0,
      λ o n z. giving_skip (c.loop-to.invariant.1 o n z) c.loop-to-test.true
          (sym (gives_told o mesh n d c.loop-to.to c.requires.sound_parts.1 c.loop-to-test.true c.gives.ensures) ∙ c.if-not-gives.true),
    )

pub between-requires : goal.between-requires
between-requires c =
    let o = c.args.o in (
      c.requires.sound_parts.0,
      c.requires.sound_parts.1,
      c.loop-to-test.true,
      (c.loop-to.invariant.1 (oracle_of o) c.requires.cells_counted c.sizes_at.ensures).untried.len,
    )

pub loop-to-preserved : goal.loop-to-preserved
loop-to-preserved c =
    let d = c.args.d in
    let mesh = c.args.mesh.now in (
      omega (arith, c.between.auto, c.loop-to.invariant.0),
      λ o n z. giving_none (c.loop-to.invariant.1 o n z) c.loop-to-test.true c.requires.sound_parts.0 c.requires.sound_parts.1
          (blocks_apart o mesh d c.loop-to.to (sym (gives_told o mesh n d c.loop-to.to c.requires.sound_parts.1 c.loop-to-test.true c.gives.ensures) ∙ c.if-not-gives.false))
          c.between.ensures.candidate c.in_default.is c.between.ensures.untried,
    )

pub overflow_cast-result : goal.overflow_cast-result
overflow_cast-result c =
    omega (arith, c.loop-to-test.true, c.requires.sound_parts.0.few)

pub shape_of-sizes-in-loop-to : goal.shape_of-sizes-in-loop-to
shape_of-sizes-in-loop-to c =
    omega (arith, c.sizes_at.auto, c.loop-to.invariant.0, c.between.auto)

pub returns-in-loop-to : goal.returns-in-loop-to
returns-in-loop-to c =
    let o = c.args.o in
    let d = c.args.d in
    let mesh = c.args.mesh.now in
    let gives = sym
    (gives_told (oracle_of o) mesh c.requires.cells_counted d c.loop-to.to c.requires.sound_parts.1 c.loop-to-test.true c.gives.ensures) ∙
    c.if-not-gives.false in
    giving_found (c.loop-to.invariant.1 (oracle_of o) c.requires.cells_counted c.sizes_at.ensures) c.loop-to-test.true c.requires.sound_parts.0
    c.requires.sound_parts.1
    (blocks_apart (oracle_of o) mesh d c.loop-to.to gives) c.between.ensures.candidate c.in-Some.is gives

pub shape_of-sizes : goal.shape_of-sizes
shape_of-sizes c =
    omega (arith, c.sizes_at.auto, c.loop-to.invariant.0)

pub returns : goal.returns
returns c =
    let o = c.args.o in
    giving_end (c.loop-to.invariant.1 (oracle_of o) c.requires.cells_counted c.sizes_at.ensures) c.loop-to-test.false
