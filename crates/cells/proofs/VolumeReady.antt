-- The arrays of a volume, one made from the other: what each function asks follows from what those before it ensure. Assumes nothing.
use mathlib.Core.Path.{◌≡◌, ◌∙◌, ap}
use mathlib.Core.Bool.{Bool}
use mathlib.Core.List.{List}
use Prim.Native.Nat.{ℕ, ◌≤◌, ◌<◌}
use native.Mathlib.Omega.{arith}
use lib.ListN.{length, get_or, take}
use lib.Seq.{get_or-take, length-take-le}
use Rattle.model.specs.Lists.{any, concat}
use Rattle.model.specs.Cells.{faces}
use Rattle.model.specs.Image.{column}
use Rattle.cells.specs.Places.{Ended, InOrder, Linked, Marked, Numbered, WholeCells, bit, marked, volume_of}
use Rattle.laws.proofs.Members.{In, getD_in}
use Rattle.laws.proofs.Tests.{same_truth}
use Rattle.cells.proofs.Reached.{volume_below}
use Rattle.cells.proofs.Resets.{marks_in}
use Rattle.cells.proofs.SewnLaws.{any_within}
use Rattle.cells.proofs.FaceLaws.{has, in_marked, marked_in, only}
use Rattle.cells.proofs.FaceSerials.{closed_next, closed_opposite}
use Rattle.cells.proofs.StartLaws.{in_order_few}
use Rattle.cells.proofs.PairsNumbered.{ended, order_whole}

module _ {b : List ℕ} {n d : ℕ} (l : Linked b n) (h : d < n) {marks : List ℕ} (mk : Marked (volume_of b d) marks) where
  pub whole : WholeCells n (column b 1) (column b 2) (concat (faces (column b 1) (marked n marks)))
  whole = order_whole n (column b 1) (column b 2) marks l.few l.next_within l.next_apart l.opposite_within (closed_next l h mk) (closed_opposite l h mk)

  module _ {out starts : List ℕ} {darts count : ℕ} (o : InOrder (faces (column b 1) (marked n marks)) out starts darts count) where
    pub out_whole : WholeCells n (column b 1) (column b 2) (take darts out)
    out_whole = rw o.order whole

    -- what `number_vertices` asks of the order
    pub out_long : darts ≤ length out
    out_long = o.out_size

    pub out_few : darts ≤ n
    out_few = (in_order_few n (column b 1) marks l.few l.next_within l.next_apart o).0

    pub out_below : (k : ℕ) → k < darts → get_or out k 0 < n
    out_below k j =
        let inside : k < length (take darts out) = omega (arith, length-take-le darts out out_long) in
        let r = out_whole.below (get_or (take darts out) k 0) (getD_in (take darts out) k inside) in
        omega (arith, get_or-take darts out k 0 j)

    -- the marks are those of the order
    pub out_marked : Marked (take darts out) marks
    out_marked = record { mark = λ p. mk.mark p ∙ ap bit (same_truth _ _ (inside p) (outside p)) }
      where
        inside : (p : ℕ) → In p (volume_of b d) → In p (take darts out)
        inside p i = rw o.order (has n (column b 1) marks l.few l.next_within l.next_apart (closed_next l h mk) p (in_marked n marks p (volume_below l h p i) (mk.mark p ∙ ap bit i)))

        outside : (p : ℕ) → In p (take darts out) → In p (volume_of b d)
        outside p i = marks_in mk p (marked_in n marks p (only n (column b 1) marks l.few l.next_within l.next_apart (closed_next l h mk) p (rw o.order at i))).1

    -- a test of some dart in message order is one of some marked place
    pub out_any : (q : ℕ → Bool) → any q (take darts out) ≡ any q (marked n marks)
    out_any q = ap (any q) o.order ∙ same_truth _ _
        (any_within q (concat (faces (column b 1) (marked n marks))) (marked n marks) (only n (column b 1) marks l.few l.next_within l.next_apart (closed_next l h mk)))
        (any_within q (marked n marks) (concat (faces (column b 1) (marked n marks))) (has n (column b 1) marks l.few l.next_within l.next_apart (closed_next l h mk)))

    -- what `pairs_once` asks of the numbers
    pub ends_ready : {numbers first : List ℕ} {vs : ℕ} → Numbered (column b 1) (column b 2) (take darts out) numbers first vs → Ended n (column b 1) (column b 2) numbers first vs
    ends_ready nb = ended n (column b 1) (column b 2) l.few l.next_within l.next_apart l.opposite_within l.opposite_apart out_whole nb
