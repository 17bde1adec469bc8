-- A RUN OF NEXT MOVES ENDS: each move lowers the differences of the counts by two at least, and these are 131,072 at the most, since a block of a
-- sound mesh has 2,048 cells at the most: the opposite of a cell's least dart is another dart of the cell. Assumes nothing.
use mathlib.Core.Path.{◌≡◌, refl, sym, ◌∙◌, ap, subst}
use mathlib.Core.Logic.{⊎_elim}
use mathlib.Core.Bool.{Bool, true, false}
use mathlib.Core.List.{List, ◌++◌, map}
use Prim.Native.Nat.{ℕ, zero, suc, ◌+◌, ◌*◌, ◌/◌, ◌≤◌, ◌<◌}
use native.Mathlib.Omega.{arith}
use lib.Dec.{leb}
use lib.ListN.{length, get_or, length-append, length-map}
use borrow.Author.Tests.{leb-true}
use Rattle.model.specs.Lists.{all, keep, mem, distinct}
use Rattle.model.specs.Values.{Label, Dart, Block, Limits, limits_in}
use Rattle.model.specs.Cells.{dart_at, volume_in, volume_starts}
use Rattle.model.specs.Sound.{Sound, Fit}
use Rattle.model.specs.Balance.{Oracle, picks, picked, counts, differences, Move}
use Rattle.model.specs.UndividedRun.{State, op, start, cell}
use Rattle.model.specs.Demands.{Answers, EndsWithin, MovesEnd}
use Rattle.laws.proofs.Members.{In, all_in, keep_in, keep_le, append_in, keep_ascending, ascending_distinct, distinct_append, distinct_fewer, distinct_map, map_in}
use Rattle.laws.proofs.Tables.{map_tab}
use Rattle.agreement.proofs.Agreement.{limits_fit}
use Rattle.agreement.proofs.Begins.{start_label, described, start_inv}
use Rattle.agreement.proofs.Described.{members, block_by, mesh_by, Map, Inv, Mine, mine_member, member_mine, darts_by, serials_are, opposite_mine}
use Rattle.agreement.proofs.MovedCell.{cell_is, volume_same}
use Rattle.balancing.proofs.Chosen.{next_answered, chosen}
use Rattle.balancing.proofs.Lowers.{move_gives}
use Rattle.balancing.proofs.Sums.{gaps, gaps_fall, gaps_two, gaps_few}

-- CELLS OF ONE BLOCK
module _ (lims : ℕ → Limits) (fit : Fit lims) (k : ℕ) (u : State) (label : ℕ → Label) (I : Inv lims k u label) (b : ℕ) (below : b < k) where
  abbrev M : Map u
  M = I.map_sound

  abbrev ds : List Dart
  ds = darts_by u label b

  abbrev is_start : ℕ → Bool
  is_start x = all (leb x) (volume_in ds x)

  abbrev starts : List ℕ
  starts = keep is_start (members u b)

  starts_are : volume_starts ds ≡ starts
  unfolding volume_starts
  starts_are = ap (keep is_start) (serials_are u label b)

  mine : (x : ℕ) → In x starts → Mine u b x
  mine x h = member_mine u b x (keep_in is_start (members u b) x h).0

  -- a start is not above its opposite
  start_least : (x : ℕ) → In x starts → x ≤ op u x
  start_least x h =
      let m = mine x h in
      let c = cell_is lims fit k u label I b below x m in
      let p : all (leb x) (cell u x) ≡ true = subst (λ (l : List ℕ). all (leb x) l ≡ true) (volume_same lims fit k u label I b below x m) (keep_in is_start (members u b) x h).1 in
      leb-true x (op u x) (all_in (leb x) (cell u x) p (op u x) (c.opposite_closed x c.has_start))

  never_both : (x : ℕ) → In x starts → In (op u x) starts → ⊥
  never_both x h g =
      let a = start_least x h in
      let c = start_least (op u x) g in
      let e = M.opposite_twice x (mine x h).here in
      M.opposite_other x (mine x h).here (omega (arith, a, c, e))

  starts_distinct : distinct starts ≡ true
  starts_distinct = ascending_distinct starts (keep_ascending is_start (members u b) (keep_ascending _ u.darts M.ordered))

  opposites_distinct : distinct (map (op u) starts) ≡ true
  opposites_distinct = distinct_map (op u) starts starts_distinct
      (λ x y h g e. sym (M.opposite_twice x (mine x h).here) ∙ ap (op u) e ∙ M.opposite_twice y (mine y g).here)

  apart : (y : ℕ) → In y starts → mem y (map (op u) starts) ≡ false
  apart y h = go (mem y (map (op u) starts)) refl
    where
      go : (o : Bool) → mem y (map (op u) starts) ≡ o → mem y (map (op u) starts) ≡ false
      go false e = e
      go true e = let w = map_in (op u) starts y e in absurd (never_both w.0 w.1 (subst (λ (z : ℕ). In z starts) w.2 h))

  both_inside : (y : ℕ) → In y (starts ++ map (op u) starts) → In y (members u b)
  both_inside y h = ⊎_elim
      (λ (g : In y starts). (keep_in is_start (members u b) y g).0)
      (λ (g : In y (map (op u) starts)).
      let w = map_in (op u) starts y g in
      let m = opposite_mine u M b w.0 (mine w.0 w.1) in
      subst (λ (z : ℕ). In z (members u b)) (sym w.2) (mine_member u b (op u w.0) m))
      (append_in y starts (map (op u) starts) h)

  few_starts : length starts ≤ 2048
  few_starts =
      let d = distinct_append starts (map (op u) starts) starts_distinct opposites_distinct apart in
      let f = distinct_fewer (starts ++ map (op u) starts) (members u b) d both_inside in
      let a = length-append starts (map (op u) starts) in
      let m = length-map starts (op u) in
      let l = I.blocks_fit b below in
      let r = fit.block_fits b in
      omega (arith, f, a, m, l, r)

  few_picked : (o : Oracle) → length (picked o (block_by u label b).darts) ≤ 2048
  unfolding picked block_by
  few_picked o =
      let a = keep_le (λ s. picks o (map (λ x. (dart_at ds x).point) (volume_in ds s))) (volume_starts ds) in
      let e = ap length starts_are in
      let f = few_starts in
      omega (arith, a, e, f)

-- DIFFERENCES of a sound mesh
few_described : (lims : ℕ → Limits) → Fit lims → (k : ℕ) (u : State) (label : ℕ → Label) → Inv lims k u label → (o : Oracle) → differences o (mesh_by k u label) ≤ 131072
unfolding differences counts
few_described lims fit k u label I o =
    let e = ap gaps (map_tab (λ b. length (picked o b.darts)) (block_by u label) k) in
    let f = gaps_few (λ b. length (picked o (block_by u label b).darts)) k I.few_blocks (λ b h. few_picked lims fit k u label I b h o) in
    omega (arith, e, f)

pub differences_few : (lims : ℕ → Limits) → Fit lims → (m : List Block) (o : Oracle) → Sound lims m → differences o m ≤ 131072
differences_few lims fit m o sound =
    let e = ap (differences o) (described lims m sound) in
    let f = few_described lims fit (length m) (start m) (start_label lims m sound) (start_inv lims m sound) o in
    omega (arith, e, f)

-- EVERY RUN
module _ (lims : ℕ → Limits) (fit : Fit lims) where
  no_move : (m : List Block) (o : Oracle) → Sound lims m → differences o m ≤ 1 → (t : Move) → Answers lims o m t → ⊥
  unfolding differences
  no_move m o sound few t (scratch, b, e, f) =
      let q = (chosen lims o m t (sym (next_answered lims fit m o scratch b sound e) ∙ f)).0 in
      let w = gaps_two (counts o m) t.donor t.recipient q.donor_below q.recipient_below (leb-true _ (get_or (counts o m) t.donor 0) q.gives) in
      omega (arith, w, few)

  ends : (n : ℕ) (m : List Block) (o : Oracle) → Sound lims m → differences o m ≤ n * 2 + 1 → EndsWithin n lims o m
  unfolding differences
  ends zero m o sound few = no_move m o sound few
  ends (suc n) m o sound few = λ t a outbox order enough any after sound' e.
      let w = gaps_fall ((move_gives lims fit m o t sound a outbox order enough any).1 after e) in
      ends n after o sound' (omega (arith, w, few))

  pub moves_end : MovesEnd lims
  moves_end m o sound = (ends (differences o m / 2) m o sound (omega arith), omega (arith, differences_few lims fit m o sound))

-- with every set of viewers
pub mesh_moves_end : (viewers : ℕ) → MovesEnd (limits_in viewers)
mesh_moves_end viewers = moves_end (limits_in viewers) (limits_fit viewers)
