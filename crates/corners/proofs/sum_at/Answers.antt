use Rattle.std.proofs.Common.{◌<◌, ℕ, List, map, take, ap, ◌∙◌, arith, get_or, get_or-take, length-take-le, take_all}
use Rattle.model.specs.Image.{dart_in}
use Rattle.corners.specs.Corners.{sum_of}
use Rattle.corners.proofs.CornerLaws.{sum_none, sum_next}
use Rattle.corners.proofs.sum_at.Goals as goal

pub loop-p-init : goal.loop-p-init
loop-p-init c =
    sum_none (λ p. (dart_in c.args.block.now p).point) (take c.args.count c.args.places.now)

pub point_at-requires : goal.point_at-requires
point_at-requires c =
    let places = c.args.places.now in
    let below : c.loop-p.p-index < c.args.count = omega (arith, length-take-le c.args.count places c.requires.1, c.loop-p-test.true) in
    let h : get_or (take c.args.count places) c.loop-p.p-index 0 < get_or c.args.block.now 2 0 =
    omega (arith, get_or-take c.args.count places c.loop-p.p-index 0 below, c.requires.3 _ below) in
    (omega (arith, h, c.requires.0.linked.size), c.requires.0.finite_at _ h)

pub loop-p-preserved : goal.loop-p-preserved
loop-p-preserved c =
    sum_next (λ p. (dart_in c.args.block.now p).point) (take c.args.count c.args.places.now) c.loop-p.p-index c.loop-p-test.true c.loop-p.invariant
    c.point_at.ensures c.plus-sum.ensures

pub returns : goal.returns
returns c =
    let places = take c.args.count c.args.places.now in
    c.loop-p.invariant ∙ ap (λ (l : List ℕ). sum_of (map (λ p. (dart_in c.args.block.now p).point) l)) (take_all c.loop-p.p-index places c.loop-p-test.false)
