use mathlib.Core.Path.{refl, sym, ◌∙◌}
use Rattle.arrival.proofs.Steps.{passing_none, passing_more, passing_all, passing_not}
use Rattle.parts.specs.Sewing.{passes_at}
use Rattle.parts.proofs.Writing.{face_size_is, faced_none, faced_more, faced_all}
use Rattle.parts.proofs.SewnFaces.{seen_none, seen_more, entered_at, entered_said, part2_no}
use native.Mathlib.Omega.{arith}
use Rattle.parts.proofs.meets.part2_right.Goals as goal

pub loop-e-init : goal.loop-e-init
loop-e-init c = (
  seen_none _ _ _ c.requires.k_in_bounds.2,
  faced_none _ _ _ _,
  faced_none _ _ _ _,
  passing_none _,
  omega arith,
  refl,
  refl,
)

pub place_at-y-requires : goal.place_at-y-requires
place_at-y-requires c =
    omega (arith, c.requires.sewable.places_size)

pub entry_index-at-requires : goal.entry_index-at-requires
entry_index-at-requires c =
    omega (arith, c.requires.sewable.indices_size)

pub size_at-size-requires : goal.size_at-size-requires
size_at-size-requires c =
    omega (arith, c.requires.sewable.spans.below c.loop-e.e (omega arith), c.requires.sewable.sizes_size, c.entry_index-at.ensures)

pub enter-requires : goal.enter-requires
enter-requires c =
    let size_is = face_size_is c.args.sizes.now c.args.indices.now c.loop-e.e c.entry_index-at.ensures c.size_at-size.ensures in
    let within = c.requires.sewable.spans.within c.loop-e.e (omega arith) in (
      c.requires.sewable.beside,
      c.requires.sewable.sender,
      omega (arith, within, c.entry_index-at.ensures, size_is),
      omega (arith, within, size_is, c.loop-e.invariant.5, c.requires.k_in_bounds.0),
      omega (arith, c.loop-e.invariant.6, c.requires.k_in_bounds.1),
      omega (arith, c.loop-e.invariant.1.size, c.requires.k_in_bounds.3),
      omega (arith, c.loop-e.invariant.2.size, c.requires.k_in_bounds.4),
    )

pub shape_of-trail-then-not-enter : goal.shape_of-trail-then-not-enter
shape_of-trail-then-not-enter c =
    omega (arith, c.enter.auto, c.loop-e.invariant.5)

pub shape_of-seen-then-not-enter : goal.shape_of-seen-then-not-enter
shape_of-seen-then-not-enter c =
    omega (arith, c.enter.auto, c.loop-e.invariant.6)

pub shape_of-kinds-then-not-enter : goal.shape_of-kinds-then-not-enter
shape_of-kinds-then-not-enter c =
    omega (arith, c.enter.auto, c.loop-e.invariant.1.size)

pub shape_of-links-then-not-enter : goal.shape_of-links-then-not-enter
shape_of-links-then-not-enter c =
    omega (arith, c.enter.auto, c.loop-e.invariant.2.size)

pub returns-then-not-enter : goal.returns-then-not-enter
returns-then-not-enter c =
    let entered = entered_at c.args.sizes.now c.args.places.now c.args.indices.now c.loop-e.e c.place_at-y.ensures c.entry_index-at.ensures
    c.size_at-size.ensures c.enter.ensures in
    part2_no
    (passing_not (passes_at c.args.block.now c.args.draft.now c.args.ranks.now c.args.sizes.now c.args.places.now c.args.indices.now c.args.n c.args.from) c.loop-e.e c.args.c
    (omega arith)
    (sym (entered_said c.args.sizes.now c.args.places.now c.args.indices.now c.loop-e.e c.loop-e.invariant.0 entered) ∙ c.if-not-enter.true))

pub loop-e-preserved : goal.loop-e-preserved
loop-e-preserved c =
    let entered = entered_at c.args.sizes.now c.args.places.now c.args.indices.now c.loop-e.e c.place_at-y.ensures c.entry_index-at.ensures
    c.size_at-size.ensures c.enter.ensures in
    let yes = c.if-not-enter.false in (
      seen_more c.loop-e.e c.loop-e.invariant.0 (entered.seen_are yes),
      faced_more c.requires.sewable.spans c.loop-e.invariant.1 (omega arith) (entered.kinds_are yes),
      faced_more c.requires.sewable.spans c.loop-e.invariant.2 (omega arith) (entered.links_are yes),
      passing_more c.loop-e.invariant.3
          (sym (entered_said c.args.sizes.now c.args.places.now c.args.indices.now c.loop-e.e c.loop-e.invariant.0 entered) ∙ yes),
      omega arith,
      omega (arith, c.enter.auto, c.loop-e.invariant.5),
      omega (arith, c.enter.auto, c.loop-e.invariant.6),
    )

pub shape_of-trail : goal.shape_of-trail
shape_of-trail c =
    c.loop-e.invariant.5

pub shape_of-seen : goal.shape_of-seen
shape_of-seen c =
    c.loop-e.invariant.6

pub shape_of-kinds : goal.shape_of-kinds
shape_of-kinds c =
    c.loop-e.invariant.1.size

pub shape_of-links : goal.shape_of-links
shape_of-links c =
    c.loop-e.invariant.2.size

pub returns : goal.returns
returns c =
    record {
      said =
          passing_all {k = c.args.c} c.loop-e.invariant.3 (omega arith);
      kinds_are = λ t. faced_all c.loop-e.invariant.1 c.loop-e.invariant.4
          (omega arith);
      links_are = λ t. faced_all c.loop-e.invariant.2 c.loop-e.invariant.4 (omega arith);
    }
