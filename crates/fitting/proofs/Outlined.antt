-- What is known of a transfer with a yes to questions 18 and 19. Assumes nothing.
use mathlib.Core.Path.{◌≡◌, sym, ◌∙◌, ap}
use mathlib.Core.Bool.{true, false, true≢false, not, ◌&&◌}
use mathlib.Core.List.{List}
use Prim.Native.Nat.{ℕ, ◌<◌}
use native.Mathlib.Omega.{arith}
use lib.Dec.{leb}
use lib.ListN.{get_or, take}
use borrow.Author.Tests.{leb-true}
use Rattle.model.specs.Lists.{all, distinct, tab}
use Rattle.model.specs.Values.{finite}
use Rattle.model.specs.Cells.{held}
use Rattle.model.specs.Image.{block_in}
use Rattle.model.specs.Messages.{Transfer, size_all}
use Rattle.model.specs.Arrival.{volume_right}
use Rattle.laws.proofs.Tests.{by_cases, and_left, and_right}
use Rattle.inbox.specs.declared.message.Front.{Front}
use Rattle.inbox.specs.declared.message.Tail.{Tail}
use Rattle.inbox.specs.Inbox.{is_hollow, points_in}
use Rattle.inbox.specs.Arrived.{TransferOutlined}
use Rattle.arrival.specs.Draft.{TransferTold, NewSerials}
use Rattle.arrival.proofs.Nineteen.{hollow_no, each_below, vertices_fit, is_numbered}
use Rattle.parts.specs.Critical.{Arrives}

module _ {s v x b z : List ℕ} {f : Front} {l : Tail} where
  -- what is told of part 1
  pub told_of : {t : Transfer} → TransferOutlined t s v x b z f l → TransferTold t v x b z s f.points f.vertices f.darts f.hollow
  told_of {t} w =
      let low = leb-true 1 (size_all t.faces) (and_left (leb 1 (size_all t.faces)) _ w.some_there) in
      let high = leb-true (size_all t.faces) 512 (and_right (leb 1 (size_all t.faces)) _ w.some_there) in
      record {
        inside = w.inside;
        darts = w.darts_are;
        some_darts = omega (arith, low, w.darts_are);
        few = omega (arith, high, w.darts_are);
        points = sym w.points_are;
        points_fit = w.points_fit;
        hollow_is = w.hollow_is;
      }

  module _ {t : Transfer} (w : TransferOutlined t s v x b z f l) (right : volume_right t ≡ true) where
    -- no face is empty
    pub full : is_hollow t.faces ≡ false
    full = by_cases (is_hollow t.faces) (λ h. absurd (true≢false (sym right ∙ sym (hollow_no (told_of w) (w.hollow_is ∙ h))))) (λ h. h)

    pub vertices_below : (i : ℕ) → i < f.darts → get_or v i 0 < f.vertices
    vertices_below = each_below (told_of w) (vertices_fit (told_of w) (is_numbered (told_of w) right))

    pub arrives : Arrives t v x b z s f.darts f.from f.to l
    arrives = record {
      inside = w.inside;
      full = full;
      darts = w.darts_are;
      from_is = w.from_is;
      to_is = w.to_is;
      past2 = w.past2;
      past3 = w.past3;
      past4 = w.past4;
      part2_in = w.part2_in;
      part3_in = w.part3_in;
      part4_in = w.part4_in;
    }

    pub points_finite : (m : List ℕ) {keys ranks : List ℕ} → NewSerials (block_in m).darts s f.points f.vertices x f.darts keys ranks true → all finite t.points ≡ true
    points_finite m new =
        ap (all finite) (sym w.points_are)
        ∙ and_left (all finite (points_in s f.points f.vertices))
        (all (λ i. leb 1 (get_or x i 0) && not (held (block_in m).darts (get_or x i 0))) (tab (λ i. i) f.darts))
        (and_left
        (all finite (points_in s f.points f.vertices)
        && all (λ i. leb 1 (get_or x i 0) && not (held (block_in m).darts (get_or x i 0))) (tab (λ i. i) f.darts))
        (distinct (take f.darts x)) (sym new.is))
