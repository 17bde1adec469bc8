-- The picked volumes by place are the model's, and so are their sizes. Assumes nothing.
use mathlib.Core.Path.{◌≡◌, refl, sym, ap, ◌∙◌}
use mathlib.Core.Bool.{Bool, true, false, true≢false, cond, ◌&&◌}
use mathlib.Core.List.{List, [], ◌∷◌, map}
use Prim.Native.Nat.{ℕ, ◌<◌}
use native.Mathlib.Omega.{arith}
use lib.Dec.{leb, ltb}
use lib.ListN.{length}
use borrow.Author.Tests.{lt-ltb}
use Rattle.model.specs.Lists.{all, keep}
use Rattle.model.specs.Values.{Dart}
use Rattle.model.specs.Cells.{dart_at, serials, volume_in, volume_starts}
use Rattle.model.specs.Balance.{Oracle, picks, picked}
use Rattle.model.specs.Image.{count_in, column, dart_in, holds_block}
use Rattle.cells.proofs.FaceSerials.{same_order}
use Rattle.laws.proofs.Members.{In, all_map, all_cong, map_map, map_cong, keep_map, keep_twice, keep_cong}
use Rattle.laws.proofs.Tables.{map_tab}
use Rattle.cells.specs.Places.{volume_of}
use Rattle.cells.proofs.Reached.{places, places_below, volume_linked, in_places_in, places_in_in}
use Rattle.cells.proofs.Sited.{Sited, sited, darts_in, dart_is}
use Rattle.cells.proofs.Serials.{volume_serials, volume_size}
use Rattle.selection.specs.Picked.{volume_at, is_start, is_picked, picked_size}

module _ (o : Oracle) (m : List ℕ) (ok : holds_block m ≡ true) where
  abbrev n : ℕ
  n = count_in m

  site : Sited m
  site = sited m ok

  abbrev s : ℕ → ℕ
  s = column m 0

  start_is : (p : ℕ) → p < n → all (leb (s p)) (volume_in (darts_in m) (s p)) ≡ is_start m p
  start_is p h = ap (all (leb (s p))) (sym (volume_serials site p h)) ∙ all_map (leb (s p)) s (volume_at m p)
      ∙ all_cong (λ q. leb (s p) (s q)) (leb p) (volume_at m p) (λ q k. same_order site.ascends p q h (places_in_in n (volume_of m p) q k).0)

  points_are : (p : ℕ) → p < n → map (λ x. (dart_at (darts_in m) x).point) (volume_in (darts_in m) (s p)) ≡ map (λ q. (dart_in m q).point) (volume_at m p)
  points_are p h = ap (map (λ x. (dart_at (darts_in m) x).point)) (sym (volume_serials site p h))
      ∙ map_map s (λ x. (dart_at (darts_in m) x).point) (volume_at m p)
      ∙ map_cong (λ q. (dart_at (darts_in m) (s q)).point) (λ q. (dart_in m q).point) (volume_at m p)
      (λ q k. ap (λ (d : Dart). d.point) (dart_is m ok q (places_in_in n (volume_of m p) q k).0))

  serials_by_place : serials (darts_in m) ≡ map s (places n)
  serials_by_place = map_tab (λ d. d.serial) (dart_in m) n ∙ sym (map_tab s (λ p. p) n)

  some_darts : (p : ℕ) → p < n → 0 < length (volume_at m p)
  some_darts p h = long (volume_at m p) (in_places_in n (volume_of m p) p h (volume_linked site.linked h).here)
    where
      long : (l : List ℕ) → In p l → 0 < length l
      long [] i = absurd (true≢false (sym i))
      long (x ∷ l) i = omega arith

  size_test : (p : ℕ) → p < n → (is_start m p && is_picked o m p) ≡ ltb 0 (picked_size o m p)
  unfolding picked_size
  size_test p h = go (is_start m p && is_picked o m p)
    where
      go : (t : Bool) → t ≡ ltb 0 (cond t (length (volume_at m p)) 0)
      go true = sym (lt-ltb 0 (length (volume_at m p)) (some_darts p h))
      go false = refl

  pub picked_places : picked o (darts_in m) ≡ map s (keep (λ p. ltb 0 (picked_size o m p)) (places n))
  unfolding picked volume_starts
  picked_places =
      ap (λ (l : List ℕ). keep picks_at (keep start_at l)) serials_by_place
      ∙ ap (keep picks_at) (keep_map start_at s (places n))
      ∙ keep_map picks_at s (keep (λ p. start_at (s p)) (places n))
      ∙ ap (map s) (keep_twice (λ p. picks_at (s p)) (λ p. start_at (s p)) (places n)
      ∙ keep_cong (λ p. start_at (s p) && picks_at (s p)) (λ p. ltb 0 (picked_size o m p)) (places n)
      (λ p k. let h = places_below n p k in both (start_is p h) (ap (picks o) (points_are p h)) ∙ size_test p h))
    where
      picks_at : ℕ → Bool
      picks_at x = picks o (map (λ y. (dart_at (darts_in m) y).point) (volume_in (darts_in m) x))

      start_at : ℕ → Bool
      start_at x = all (leb x) (volume_in (darts_in m) x)

      both : {a b c d : Bool} → a ≡ b → c ≡ d → (a && c) ≡ (b && d)
      both x y = rw (x, y)

  -- the size of a picked volume
  pub size_is : (p : ℕ) → p < n → ltb 0 (picked_size o m p) ≡ true → length (volume_in (darts_in m) (s p)) ≡ picked_size o m p
  unfolding picked_size
  size_is p h e = volume_size site p h ∙ go (is_start m p && is_picked o m p) e
    where
      go : (t : Bool) → ltb 0 (cond t (length (volume_at m p)) 0) ≡ true → length (volume_at m p) ≡ cond t (length (volume_at m p)) 0
      go true e = refl
      go false e = absurd (true≢false (sym e))
