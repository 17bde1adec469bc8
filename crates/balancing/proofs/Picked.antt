-- What is picked in the blocks of a described mesh goes by cells, so a cell that moves is counted once less where it was and once
-- more where it is. Assumes nothing.
use mathlib.Core.Path.{◌≡◌, refl, sym, ◌∙◌, ap}
use mathlib.Core.Logic.{◌≢◌}
use mathlib.Core.Bool.{Bool, true, false, true≢false, cond, ◌&&◌, ◌||◌}
use mathlib.Core.List.{List, map}
use Prim.Native.Nat.{ℕ, suc, ◌<◌, ◌≤◌}
use native.Mathlib.Omega.{arith}
use lib.Dec.{leb, eqb}
use lib.ListN.{length}
use borrow.Author.Tests.{eq-eqb, ne_eqb, leb-true}
use Rattle.model.specs.Lists.{all, keep, mem, tab}
use Rattle.model.specs.Values.{Label, Dart, Limits}
use Rattle.model.specs.Cells.{dart_at, volume_in, volume_starts}
use Rattle.model.specs.Sound.{Fit}
use Rattle.model.specs.Balance.{Oracle, picks, picked, counts}
use Rattle.model.specs.UndividedRun.{State, nx, op, cell}
use Rattle.laws.proofs.Members.{In, all_in, keep_in, map_cong, one_kept, ascending_distinct, keep_twice, keep_cong}
use Rattle.laws.proofs.Tables.{map_tab, tab_cong}
use Rattle.laws.proofs.Tests.{by_cases, and_intro, and_left, and_right}
use Rattle.agreement.proofs.AfterMove.{keep_either, after}
use Rattle.agreement.proofs.Described.{pt, members, block_by, mesh_by, Map, Inv, Mine, member_mine, darts_by, serials_are, point_at, next_mine, opposite_mine}
use Rattle.agreement.proofs.MovedCell.{Cell, cell_is, volume_same, reached_from}

-- WHAT IS KEPT
-- PICKED BY CELLS: x is the least of its cell, and the cell is picked
pub is_least : State → ℕ → Bool
is_least u x = all (leb x) (cell u x)

pub is_picked : Oracle → State → ℕ → Bool
is_picked o u x = picks o (map (pt u) (cell u x))

abbrev pub stands : Oracle → State → ℕ → Bool
stands o u x = is_least u x && is_picked o u x

-- how many picked cells are numbered b
abbrev pub count_by : Oracle → State → ℕ → ℕ
count_by o u b = length (keep (λ x. eqb (u.number x) b && stands o u x) u.darts)

module _ (lims : ℕ → Limits) (fit : Fit lims) (k : ℕ) (u : State) (label : ℕ → Label) (I : Inv lims k u label) (o : Oracle) where
  module _ (b : ℕ) (below : b < k) where
    abbrev ds : List Dart
    ds = darts_by u label b

    starts_are : volume_starts ds ≡ keep (is_least u) (members u b)
    unfolding volume_starts is_least
    starts_are = ap (keep (λ x. all (leb x) (volume_in ds x))) (serials_are u label b)
        ∙ keep_cong (λ x. all (leb x) (volume_in ds x)) (λ x. all (leb x) (cell u x)) (members u b)
        (λ x h. ap (all (leb x)) (volume_same lims fit k u label I b below x (member_mine u b x h)))

    points_are : (x : ℕ) → Mine u b x → map (λ y. (dart_at ds y).point) (volume_in ds x) ≡ map (pt u) (cell u x)
    points_are x m = ap (map (λ y. (dart_at ds y).point)) (volume_same lims fit k u label I b below x m)
        ∙ map_cong (λ y. (dart_at ds y).point) (pt u) (cell u x) (λ y h. point_at u label b y ((cell_is lims fit k u label I b below x m).mine y h))

    pub picked_are : picked o ds ≡ keep (stands o u) (members u b)
    unfolding picked is_picked
    picked_are = ap (keep (λ s. picks o (map (λ x. (dart_at ds x).point) (volume_in ds s)))) starts_are
        ∙ keep_cong (λ s. picks o (map (λ x. (dart_at ds x).point) (volume_in ds s))) (is_picked o u) (keep (is_least u) (members u b))
        (λ x h. ap (picks o) (points_are x (member_mine u b x (keep_in (is_least u) (members u b) x h).0)))
        ∙ keep_twice (is_picked o u) (is_least u) (members u b)

    pub count_is : length (picked o ds) ≡ count_by o u b
    count_is = ap length (picked_are ∙ keep_twice (stands o u) (λ x. eqb (u.number x) b) u.darts)

  pub counts_are : counts o (mesh_by k u label) ≡ tab (count_by o u) k
  unfolding counts block_by
  counts_are = map_tab (λ b. length (picked o b.darts)) (block_by u label) k ∙ tab_cong (λ b. length (picked o (darts_by u label b))) (count_by o u) k count_is

  -- ONE CELL STANDS ONCE
  module _ (i : ℕ) (i-below : i < k) (s : ℕ) (ms : Mine u i s) where
    abbrev M : Map u
    M = I.map_sound

    abbrev v : List ℕ
    v = cell u s

    C : (x : ℕ) → Mine u i x → Cell u i x (cell u x)
    C x m = cell_is lims fit k u label I i i-below x m

    -- a dart of the cell has the start in its cell
    record Back (x : ℕ) : Type 0 where
      mine : Mine u i x
      start_there : In s (cell u x)

    grows : (x y : ℕ) → Mine u i x → (my : Mine u i y) → In x (cell u y) → In s (cell u x) → In s (cell u y)
    grows x y mx my h q = reached_from lims fit k u label I i i-below x mx (λ z. In z (cell u y)) h (C y my).next_closed (C y my).opposite_closed s q

    start_back : (x : ℕ) → In x v → In s (cell u x)
    start_back x h = (reached_from lims fit k u label I i i-below s ms Back (record { mine = ms; start_there = (C s ms).has_start })
        (λ y b. let n = next_mine u M i y b.mine in
        record { mine = n; start_there = grows y (nx u y) b.mine n ((C (nx u y) n).next_back y b.mine.here (C (nx u y) n).has_start) b.start_there })
        (λ y b. let n = opposite_mine u M i y b.mine in
        record { mine = n; start_there = grows y (op u y) b.mine n ((C (op u y) n).opposite_back y b.mine.here (C (op u y) n).has_start) b.start_there })
        x h).start_there

    least_le : (x y : ℕ) → is_least u x ≡ true → In y (cell u x) → x ≤ y
    unfolding is_least
    least_le x y e h = leb-true x y (all_in (leb x) (cell u x) e y h)

    pub stands_once : stands o u s ≡ true → length (keep (λ x. mem x v && stands o u x) u.darts) ≡ 1
    stands_once e = ap length (one_kept (λ x. mem x v && stands o u x) s u.darts (ascending_distinct u.darts M.ordered) ms.here (and_intro (C s ms).has_start e)
        (λ z h q.
        let inside = and_left (mem z v) _ q in
        let least-z = and_left (is_least u z) _ (and_right (mem z v) _ q) in
        let a = least_le z s least-z (start_back z inside) in
        let c = least_le s z (and_left (is_least u s) _ e) inside in
        omega arith))

    -- THE CELL MOVES to block j
    module _ (j : ℕ) (apart : i ≢ j) (g : ℕ) (e : stands o u s ≡ true) where
      abbrev u' : State
      u' = after u v i j g

      stands_same : (x : ℕ) → stands o u' x ≡ stands o u x
      unfolding is_least is_picked cell
      stands_same x = refl

      -- where it was and where it is
      mine_at : (x : ℕ) → In x v → u.number x ≡ i
      mine_at x h = ((C s ms).mine x h).block

      was : ℕ → ℕ → Bool
      was b x = eqb (u.number x) b && stands o u x

      now : ℕ → ℕ → Bool
      now b x = eqb (u'.number x) b && stands o u' x

      goes : ℕ → Bool
      goes x = mem x v && stands o u x

      was_inside : (b x : ℕ) → In x v → was b x ≡ (eqb i b && stands o u x)
      unfolding was
      was_inside b x h = ap (λ (n : ℕ). eqb n b && stands o u x) (mine_at x h)

      now_inside : (b x : ℕ) → In x v → now b x ≡ (eqb j b && stands o u x)
      unfolding now
      now_inside b x h = ap (λ (t : Bool). eqb (cond t j (u.number x)) b && stands o u' x) h ∙ ap (λ (t : Bool). eqb j b && t) (stands_same x)

      now_outside : (b x : ℕ) → mem x v ≡ false → now b x ≡ was b x
      unfolding now was
      now_outside b x h = ap (λ (t : Bool). eqb (cond t j (u.number x)) b && stands o u' x) h ∙ ap (λ (t : Bool). eqb (u.number x) b && t) (stands_same x)

      goes_inside : (x : ℕ) → In x v → goes x ≡ stands o u x
      unfolding goes
      goes_inside x h = ap (λ (t : Bool). t && stands o u x) h

      goes_outside : (x : ℕ) → mem x v ≡ false → goes x ≡ false
      unfolding goes
      goes_outside x h = ap (λ (t : Bool). t && stands o u x) h

      or_false : (a : Bool) → (a || false) ≡ a
      or_false true = refl
      or_false false = refl

      once : length (keep goes u.darts) ≡ 1
      unfolding goes
      once = stands_once e

      pub donor_loses : count_by o u i ≡ suc (count_by o u' i)
      unfolding was now
      donor_loses = let All-three = keep_either (was i) (now i) goes u.darts
          (λ x h. by_cases (mem x v)
          (λ a. was_inside i x a ∙ ap (λ (t : Bool). t && stands o u x) (eq-eqb i i refl)
          ∙ sym (ap (λ (t : Bool). t || goes x) (now_inside i x a ∙ ap (λ (t : Bool). t && stands o u x) (ne_eqb j i (λ q. apart (sym q)))) ∙ goes_inside x a))
          (λ a. sym (ap (λ (t : Bool). t || goes x) (now_outside i x a) ∙ ap (λ (t : Bool). was i x || t) (goes_outside x a) ∙ or_false (was i x))))
          (λ x h q. by_cases (mem x v)
          (λ a. absurd (true≢false (sym q ∙ now_inside i x a ∙ ap (λ (t : Bool). t && stands o u x) (ne_eqb j i (λ q. apart (sym q))))))
          (goes_outside x)) in
          omega (arith, All-three, once)

      pub recipient_gains : count_by o u' j ≡ suc (count_by o u j)
      unfolding was now
      recipient_gains = let All-three = keep_either (now j) (was j) goes u.darts
          (λ x h. by_cases (mem x v)
          (λ a. now_inside j x a ∙ ap (λ (t : Bool). t && stands o u x) (eq-eqb j j refl)
          ∙ sym (ap (λ (t : Bool). t || goes x) (was_inside j x a ∙ ap (λ (t : Bool). t && stands o u x) (ne_eqb i j apart)) ∙ goes_inside x a))
          (λ a. now_outside j x a ∙ sym (ap (λ (t : Bool). was j x || t) (goes_outside x a) ∙ or_false (was j x))))
          (λ x h q. by_cases (mem x v)
          (λ a. absurd (true≢false (sym q ∙ was_inside j x a ∙ ap (λ (t : Bool). t && stands o u x) (ne_eqb i j apart))))
          (goes_outside x)) in
          omega (arith, All-three, once)

      pub others_stay : (b : ℕ) → b ≢ i → b ≢ j → count_by o u b ≡ count_by o u' b
      unfolding was now
      others_stay b p q = ap length (keep_cong (was b) (now b) u.darts
          (λ x h. by_cases (mem x v)
          (λ a. was_inside b x a ∙ ap (λ (t : Bool). t && stands o u x) (ne_eqb i b (λ z. p (sym z)))
          ∙ sym (now_inside b x a ∙ ap (λ (t : Bool). t && stands o u x) (ne_eqb j b (λ z. q (sym z)))))
          (λ a. sym (now_outside b x a))))
