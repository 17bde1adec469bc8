-- The arrays that receive works in: zeros are ready, and question 2 leaves them so. Assumes nothing.
use mathlib.Core.Path.{◌≡◌, refl}
use mathlib.Core.List.{List}
use Prim.Native.Nat.{ℕ, ◌≤◌}
use native.Mathlib.Omega.{arith}
use lib.ListN.{length, replicate, get_or-replicate, length-replicate}
use Rattle.model.specs.Values.{room}
use Rattle.model.specs.Image.{words_for}
use Rattle.cells.proofs.Resets.{zeros_clear, zeros_long}
use Rattle.receive.specs.Lent.{LentArrays}

-- with arrays of v darts, of n places and of w words
pub zeros_lent : (v n w : ℕ) {most all : ℕ} → most ≤ v → all ≤ n → v ≤ n → n ≤ w → w ≡ words_for v
    → LentArrays most all (replicate v 0) (replicate v 0) (replicate v 0) (replicate w 0) (replicate v 0) (replicate v 0) (replicate n 0) (replicate v 0)
    (replicate n 0) (replicate v 0) (replicate v 0) (replicate v 0) (replicate v room) (replicate v 0) (replicate n 0)
zeros_lent v n w h k l d e = record {
  keys_long = zeros_long _ v refl h;
  ranks_long = zeros_long _ v refl h;
  opposite_long = zeros_long _ v refl h;
  draft_long = zeros_long _ w refl (omega (arith, h, e));
  draft_all = zeros_long _ w refl (omega (arith, k, d));
  kinds_long = zeros_long _ v refl h;
  kinds_clear = zeros_clear v refl;
  links_long = zeros_long _ v refl h;
  links_clear = zeros_clear v refl;
  old_long = zeros_long _ n refl (omega (arith, h, l));
  old_all = zeros_long _ n refl k;
  new_long = zeros_long _ v refl h;
  codes_long = zeros_long _ n refl (omega (arith, h, l));
  codes_all = zeros_long _ n refl k;
  indices_long = zeros_long _ v refl h;
  numbers_long = zeros_long _ v refl h;
  third_long = zeros_long _ v refl h;
  places_long = omega (arith, h, length-replicate {A = ℕ} v room);
  places_none = λ q i. get_or-replicate v q room 0 (omega (arith, h, i));
  marks_long = zeros_long _ v refl h;
  marks_clear = zeros_clear v refl;
  seen_all = zeros_long _ n refl k;
  seen_clear = zeros_clear n refl;
}

-- the draft and the codes may hold anything
pub lent_still : {most all : ℕ} {keys ranks opposite draft draft' kinds links old new codes codes' indices numbers third places marks seen : List ℕ}
    → LentArrays most all keys ranks opposite draft kinds links old new codes indices numbers third places marks seen → length draft' ≡ length draft → length codes' ≡ length codes
    → LentArrays most all keys ranks opposite draft' kinds links old new codes' indices numbers third places marks seen
lent_still w d c = record {
  keys_long = w.keys_long;
  ranks_long = w.ranks_long;
  opposite_long = w.opposite_long;
  draft_long = omega (arith, w.draft_long, d);
  draft_all = omega (arith, w.draft_all, d);
  kinds_long = w.kinds_long;
  kinds_clear = w.kinds_clear;
  links_long = w.links_long;
  links_clear = w.links_clear;
  old_long = w.old_long;
  old_all = w.old_all;
  new_long = w.new_long;
  codes_long = omega (arith, w.codes_long, c);
  codes_all = omega (arith, w.codes_all, c);
  indices_long = w.indices_long;
  numbers_long = w.numbers_long;
  third_long = w.third_long;
  places_long = w.places_long;
  places_none = w.places_none;
  marks_long = w.marks_long;
  marks_clear = w.marks_clear;
  seen_all = w.seen_all;
  seen_clear = w.seen_clear;
}
