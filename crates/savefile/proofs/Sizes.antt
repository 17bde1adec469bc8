-- A sound block's image: each dart's words lead to places, and what they name is in range. Assumes nothing.
use mathlib.Core.Path.{◌≡◌, refl, sym, ap}
use mathlib.Core.Bool.{true, false}
use mathlib.Core.List.{List}
use Prim.Native.Nat.{ℕ, ◌%◌, ◌^◌, ◌≤◌, ◌<◌}
use native.Mathlib.Omega.{arith}
use lib.ListN.{length, get_or}
use borrow.Author.Tests.{ne_eqb, eqb-true}
use Rattle.model.specs.Values.{widest, serial_bound, room, blocks}
use Rattle.model.specs.Image.{words_for, column, is_sewn_word, holds_block}
use Rattle.theory.proofs.ImageLaws.{count_fits}
use Rattle.columns.specs.Columns.{count, Kind, kind_free, kind_sewn, kind_critical, Ranged, Places, SewnPlaces, Finite}
use Rattle.columns.proofs.Thirds.{critical_two}
use Rattle.columns.proofs.Links.{places}
use Rattle.columns.proofs.ThirdLinks.{sewn_places}
use Rattle.columns.proofs.Question.{image_passed}
use Rattle.memory.proofs.Points.{finite_at}
use Rattle.codec.specs.Thirds.{ThirdSmall}
use Rattle.savefile.specs.Named.{third_named, DartSmall, AllSmall}

-- the dart at place p, by the columns' facts
module _ (m : List ℕ) (p : ℕ) where
  pub sewn_named : {k : ℕ} → k ≡ column m 3 p → is_sewn_word k ≡ true → third_named m p ≡ column m 0 (column m 4 p)
  unfolding third_named
  sewn_named e s = rw (sym e, s)

  pub other_named : {k : ℕ} → k ≡ column m 3 p → is_sewn_word k ≡ false → third_named m p ≡ column m 4 p
  unfolding third_named
  other_named e s = rw (sym e, s)

  -- the sewn dart's serial, where it is sewn
  third_small : Kind (column m 3 p) (column m 4 p) → (is_sewn_word (column m 3 p) ≡ true → column m 0 (column m 4 p) < serial_bound) → ThirdSmall (column m 3 p) (third_named m p)
  third_small (kind_free e z) h = record {
    other_small = omega arith;
    named_small = omega (arith, other_named refl (ne_eqb (column m 3 p % 4) 1 (λ q. omega arith)));
    sewn_small = λ q. let one = eqb-true (column m 3 p % 4) 1 q in absurd (omega arith);
  }
  third_small (kind_sewn e) h =
      let s = h (ap is_sewn_word e) in
      let n = sewn_named refl (ap is_sewn_word e) in
      record { other_small = omega arith; named_small = omega arith; sewn_small = λ q. omega arith }
  third_small (kind_critical e o a) h = record {
    other_small = o;
    named_small = omega (arith, other_named refl (ne_eqb (column m 3 p % 4) 1 (λ q. omega (arith, critical_two (column m 3 p) e))));
    sewn_small = λ q. let one = eqb-true (column m 3 p % 4) 1 q in absurd (omega (arith, one, critical_two (column m 3 p) e));
  }

  small_at : words_for (count m) ≤ length m → Ranged m → Places m (count m) → SewnPlaces m (count m) → Finite m (count m) → p < count m → DartSmall m p
  small_at len w g s f h =
      let k = w.kinds p h in
      let a = g.next_lt p h in
      let b = g.opposite_lt p h in
      record {
        here = omega arith;
        next_here = omega arith;
        opposite_here = omega arith;
        sewn_here = λ e. omega (arith, s p h e);
        serial_small = w.serial_small p h;
        next_small = w.serial_small (column m 1 p) a;
        opposite_small = w.serial_small (column m 2 p) b;
        third_small = third_small k (λ e. w.serial_small (column m 4 p) (s p h e));
        finite_here = finite_at m p (f p h);
      }

module _ (m : List ℕ) (e : holds_block m ≡ true) where
  -- its header is there
  pub header_here : 8 ≤ length m
  header_here = omega (arith, count_fits widest m e)

  pub image_small : AllSmall m (get_or m 2 0)
  image_small =
      let q = image_passed m e in
      let n = count m in
      record { few = q.range.few; each = λ p h. small_at m p (count_fits widest m e) q.range (places m n q.links) (sewn_places m n q.thirds) q.finite_points h }

  -- the header's words
  pub number_small : get_or m 0 0 < blocks
  number_small = (image_passed m e).range.number_small

  pub counter_small : get_or m 1 0 < 2 ^ 32
  counter_small = (image_passed m e).range.counter_small

  pub count_small : get_or m 2 0 ≤ room
  count_small = (image_passed m e).range.few
