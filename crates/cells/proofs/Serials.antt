-- From places to serials: the serials at the places of a volume, in ascending place, are the model's volume. Assumes nothing.
use mathlib.Core.Path.{◌≡◌, sym, ◌∙◌, ap}
use mathlib.Core.Bool.{true≢false}
use mathlib.Core.List.{List, map}
use Prim.Native.Nat.{ℕ, ◌<◌}
use lib.ListN.{length, length-map}
use Rattle.model.specs.Lists.{keep, mem}
use Rattle.model.specs.Cells.{volume, volume_in, serials, next_in, opposite_in}
use Rattle.model.specs.Image.{count_in, column, dart_in}
use Rattle.laws.proofs.Tests.{by_cases}
use Rattle.laws.proofs.Members.{In, in_eq, in_map, map_in, keep_map, keep_cong}
use Rattle.laws.proofs.Tables.{map_tab, one_place}
use Rattle.laws.proofs.Carry.{carry_volume}
use Rattle.cells.specs.Places.{places_in, volume_of}
use Rattle.cells.proofs.Reached.{places, places_below, volume_below}
use Rattle.cells.proofs.Sited.{Sited, darts_in}

-- a map that keeps x apart from what is in the list
pub mem_map : (h : ℕ → ℕ) (x : ℕ) (l : List ℕ) → ((y : ℕ) → In y l → h x ≡ h y → x ≡ y) → mem (h x) (map h l) ≡ mem x l
mem_map h x l inj = by_cases (mem x l)
    (λ e. rw e (in_map h x l e))
    (λ e. by_cases (mem (h x) (map h l)) (λ k. let r = map_in h l (h x) k in absurd (true≢false (sym (in_eq x r.0 l (inj r.0 r.1 r.2) r.1) ∙ e))) (λ k. rw (k, e)))

module _ {m : List ℕ} (site : Sited m) where
  -- serials at different places differ
  pub serials_apart : (x y : ℕ) → x < count_in m → y < count_in m → column m 0 x ≡ column m 0 y → x ≡ y
  serials_apart x y hx hy e = one_place site.ascends hx hy e

  serials_by_place : serials (darts_in m) ≡ map (column m 0) (places (count_in m))
  serials_by_place = map_tab (λ d. d.serial) (dart_in m) (count_in m) ∙ sym (map_tab (column m 0) (λ p. p) (count_in m))

  -- the walk by place is the walk by serial
  pub volume_carried : (p : ℕ) → p < count_in m → map (column m 0) (volume_of m p) ≡ volume (next_in (darts_in m)) (opposite_in (darts_in m)) (column m 0 p)
  volume_carried p h = carry_volume (λ x. x < count_in m) (column m 0) serials_apart (column m 1) (next_in (darts_in m)) site.linked.next_within site.next_is
      (column m 2) (opposite_in (darts_in m)) site.linked.opposite_within site.opposite_is p h

  pub volume_serials : (p : ℕ) → p < count_in m → map (column m 0) (places_in (count_in m) (volume_of m p)) ≡ volume_in (darts_in m) (column m 0 p)
  unfolding places_in volume_in
  volume_serials p h =
      sym (ap (λ (v : List ℕ). keep (λ x. mem x v) (serials (darts_in m))) (sym (volume_carried p h))
      ∙ ap (keep (λ x. mem x (map (column m 0) (volume_of m p)))) serials_by_place
      ∙ keep_map (λ x. mem x (map (column m 0) (volume_of m p))) (column m 0) (places (count_in m))
      ∙ ap (map (column m 0)) (keep_cong (λ x. mem (column m 0 x) (map (column m 0) (volume_of m p))) (λ x. mem x (volume_of m p)) (places (count_in m))
      (λ x k. mem_map (column m 0) x (volume_of m p) (λ y j e. serials_apart x y (places_below (count_in m) x k) (volume_below site.linked h y j) e))))

  -- question 11: how many darts
  pub volume_size : (p : ℕ) → p < count_in m → length (volume_in (darts_in m) (column m 0 p)) ≡ length (places_in (count_in m) (volume_of m p))
  volume_size p h = ap length (sym (volume_serials p h)) ∙ length-map (places_in (count_in m) (volume_of m p)) (column m 0)
