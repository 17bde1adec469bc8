-- `corners::sum_at` meets its contract. The loop's invariant: the points of the places before p are added.
-- Assumes nothing.
use Rattle.std.proofs.Common.{◌≡◌, map, take}
use Rattle.model.specs.Image.{dart_in}
use Rattle.corners.specs.Corners.{sum_of}
use Rattle.corners.proofs.sum_at.Given as goal

abbrev pub invariant-loop-p : goal.invariant-loop-p
invariant-loop-p l =
    l.sum ≡ sum_of (map (λ p. (dart_in l.block p).point) (take l.p-index (take l.count l.places)))
