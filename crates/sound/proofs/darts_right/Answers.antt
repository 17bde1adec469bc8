use mathlib.Core.Path.{refl, ◌∙◌}
use native.Mathlib.Numerals.{add-one}
use lib.ListN.{length-set}
use Rattle.sound.proofs.Passes.{passing_none, test_no, mark_no, passing_more, passing_end, as_darts, place_no, kind_is, next_below}
use native.Mathlib.Omega.{arith}
use Rattle.sound.proofs.darts_right.Goals as goal

pub loop-i-init : goal.loop-i-init
loop-i-init c =
    (passing_none _ _ _ _ c.requires.2 c.requires.3, refl, refl, refl, refl)

pub shape_of-seen-then-not-place_at : goal.shape_of-seen-then-not-place_at
shape_of-seen-then-not-place_at c =
    c.loop-i.invariant.4

pub returns-then-not-place_at : goal.returns-then-not-place_at
returns-then-not-place_at c =
    as_darts (test_no c.loop-i.invariant.0 c.loop-i-test.true (place_no _ _ _ c.place_at.ensures c.loop-i.invariant.1 c.if-not-place_at.true) refl)

pub shape_of-seen-then-not-kind_right : goal.shape_of-seen-then-not-kind_right
shape_of-seen-then-not-kind_right c =
    c.loop-i.invariant.4

pub returns-then-not-kind_right : goal.returns-then-not-kind_right
returns-then-not-kind_right c =
    as_darts
    (test_no c.loop-i.invariant.0 c.loop-i-test.true
    (kind_is _ _ _ c.place_at.ensures c.loop-i.invariant.1 c.if-not-place_at.false c.kind_right.ensures c.field-k.ensures c.field-l.ensures
    c.loop-i.invariant.2 c.loop-i.invariant.3) c.if-not-kind_right.true)

pub bounds-seen-a : goal.bounds-seen-a
bounds-seen-a c =
    let dart =
    kind_is _ _ _ c.place_at.ensures c.loop-i.invariant.1 c.if-not-place_at.false c.kind_right.ensures c.field-k.ensures c.field-l.ensures
    c.loop-i.invariant.2 c.loop-i.invariant.3 in
    let lt = next_below _ _ _ dart c.if-not-kind_right.false in
    omega (arith, lt, c.field-a.ensures, c.loop-i.invariant.0.marks.len)

pub shape_of-seen-then-seen-a-ne0 : goal.shape_of-seen-then-seen-a-ne0
shape_of-seen-then-seen-a-ne0 c =
    c.loop-i.invariant.4

pub returns-then-seen-a-ne0 : goal.returns-then-seen-a-ne0
returns-then-seen-a-ne0 c =
    as_darts (mark_no c.loop-i.invariant.0 c.loop-i-test.true c.field-a.ensures refl c.if-seen-a-ne0.true)

pub bounds-seen-a-in-loop-i : goal.bounds-seen-a-in-loop-i
bounds-seen-a-in-loop-i c =
    let dart =
    kind_is _ _ _ c.place_at.ensures c.loop-i.invariant.1 c.if-not-place_at.false c.kind_right.ensures c.field-k.ensures c.field-l.ensures
    c.loop-i.invariant.2 c.loop-i.invariant.3 in
    let lt = next_below _ _ _ dart c.if-not-kind_right.false in
    omega (arith, lt, c.field-a.ensures, c.loop-i.invariant.0.marks.len)

pub loop-i-preserved : goal.loop-i-preserved
loop-i-preserved c =
    let dart =
    kind_is _ _ _ c.place_at.ensures c.loop-i.invariant.1 c.if-not-place_at.false c.kind_right.ensures c.field-k.ensures c.field-l.ensures
    c.loop-i.invariant.2 c.loop-i.invariant.3 in
    let lt = next_below _ _ _ dart c.if-not-kind_right.false in (
      passing_more c.loop-i.invariant.0 c.loop-i-test.true dart c.if-not-kind_right.false lt c.field-a.ensures c.if-seen-a-ne0.false,
      rw add-one c.field-last.ensures,
      c.loop-i.invariant.2,
      c.loop-i.invariant.3,
      length-set c.loop-i.seen _ _ ∙ c.loop-i.invariant.4,
    )

pub shape_of-seen : goal.shape_of-seen
shape_of-seen c =
    c.loop-i.invariant.4

pub returns : goal.returns
returns c =
    as_darts (passing_end c.loop-i.invariant.0 c.loop-i-test.false)
