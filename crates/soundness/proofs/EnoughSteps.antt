-- The steps that Cells gives to a ring and a volume are enough in a message where 19 reads them: 16 and 18 were answered yes, and each
-- ordered pair of vertices is there once, with its reverse. Assumes nothing.
use mathlib.Core.Path.{◌≡◌, refl, sym, ◌∙◌, ap}
use mathlib.Core.Bool.{Bool, true, false, true≢false}
use mathlib.Core.List.{List, [], ◌∷◌}
use Prim.Native.Nat.{ℕ, ◌*◌, ◌≤◌}
use native.Mathlib.Omega.{arith}
use lib.ListN.{length}
use Rattle.model.specs.Lists.{mem}
use Rattle.model.specs.Values.{room, Block, Limits}
use Rattle.model.specs.Cells.{around, reach, volume, ring, next_in, opposite_in}
use Rattle.model.specs.Messages.{Transfer, transfer}
use Rattle.model.specs.Arrival.{sides, new_darts, serials_new, pairs_right}
use Rattle.laws.proofs.Faces.{cycle_enough}
use Rattle.laws.proofs.Members.{In}
use Rattle.laws.proofs.Volumes.{volume_enough}
use Rattle.theory.proofs.BlockLaws.{pv_nx}
use Rattle.soundness.proofs.ByDarts.{Frame, point_of}
use Rattle.soundness.proofs.Fits.{fits}
use Rattle.soundness.proofs.NewDarts.{new_serials, new_frame}
use Rattle.soundness.proofs.Passed.{eighteen, high}
use Rattle.soundness.proofs.Starts.{count_serials}

-- a function from a finite list onto itself is one to one
module _ (f : ℕ → ℕ) (S : List ℕ) (onto : (x : ℕ) → In x S → (y : ℕ) × In y S × (f y ≡ x)) where
  chosen : (x : ℕ) (o : Bool) → mem x S ≡ o → ℕ
  chosen x true e = (onto x e).0
  chosen x false e = 0

  back : ℕ → ℕ
  back x = chosen x (mem x S) refl

  back_right : (x : ℕ) (o : Bool) (e : mem x S ≡ o) → o ≡ true → In (chosen x o e) S × (f (chosen x o e) ≡ x)
  unfolding chosen
  back_right x true e h = ((onto x e).1, (onto x e).2)
  back_right x false e h = absurd (true≢false (sym h))

  pub onto_one : (x y : ℕ) → In x S → In y S → f x ≡ f y → x ≡ y
  unfolding back
  onto_one x y h k e =
      let same : (z : ℕ) → In z S → back (f z) ≡ z =
      pv_nx f back S (λ z m. (back_right z (mem z S) refl m).0) (λ z m. (back_right z (mem z S) refl m).1) in
      sym (same x h) ∙ ap back e ∙ same y k

module _ (lim : Limits) (b : Block) (t : Transfer) (ok : transfer.ok t ≡ true) (asked : serials_new b.darts t ≡ true) (pairs : pairs_right (sides t) ≡ true) where
  abbrev nx : ℕ → ℕ
  nx = next_in (new_darts t)

  abbrev op : ℕ → ℕ
  op = opposite_in (new_darts t)

  frame : Frame (new_serials t) nx op (point_of (new_darts t))
  frame = let q = eighteen lim b t asked in new_frame t q.once pairs q.points_finite q.low (high t (fits t ok))

  few : length (new_serials t) ≤ 4096
  few = omega (arith, count_serials t, (fits t ok).few_darts)

  pub volume_steps : (n s : ℕ) → 3 * room ≤ n → In s (new_serials t) → reach nx op n [] (s ∷ []) ≡ volume nx op s
  volume_steps = volume_enough nx op (new_serials t) frame.next_stays frame.opposite_stays few

  pub ring_steps : (n x : ℕ) → room ≤ n → In x (new_serials t) → around (λ d. nx (op d)) x n x ≡ ring nx op x
  unfolding ring
  ring_steps = cycle_enough (λ d. nx (op d)) (new_serials t) (λ x h. frame.next_stays (op x) (frame.opposite_stays x h)) one few
    where
      one : (x y : ℕ) → In x (new_serials t) → In y (new_serials t) → nx (op x) ≡ nx (op y) → x ≡ y
      one x y h k e =
          let q = onto_one nx (new_serials t) frame.next_onto (op x) (op y) (frame.opposite_stays x h) (frame.opposite_stays y k) e in
          sym (frame.opposite_twice x h) ∙ ap op q ∙ frame.opposite_twice y k
