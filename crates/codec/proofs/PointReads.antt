-- Points read at a place: three coordinates, one after the other. Assumes nothing.
--   point_got, point_lacks    what an answer tells, and what no answer does
use Rattle.std.proofs.lemmas.Option.{same_Some}
use Rattle.std.specs.Prelude.{None, Some}
use mathlib.Core.Path.{◌≡◌, ap, refl}
use mathlib.Core.List.{List}
use mathlib.Core.Option.{Option, none, some}
use Prim.Native.Nat.{ℕ, ◌-◌}
use native.Mathlib.Omega.{arith}
use lib.ListN.{length, drop}
use Rattle.model.specs.Values.{Point}
use Rattle.model.specs.Layouts.{coordinate, ◌⊕◌, as_type}
use Rattle.model.specs.Messages.{point}
use Rattle.groups.proofs.Ends.{Ends, from_onward, place_back, as_type_ends, ⊕-ends, coordinate_ends}
use Rattle.codec.specs.Points.{placed_point, point_read}
use Rattle.codec.specs.Taken.{Took}
use Rattle.codec.proofs.Taking.{took_reads, Lacks, both_took, pair_lacks, pair_then_lacks}

pub point_ends : Ends point
unfolding point
point_ends = as_type_ends _ _ _ (⊕-ends coordinate (coordinate ⊕ coordinate) coordinate_ends (⊕-ends coordinate coordinate coordinate_ends coordinate_ends))

pub record PointGot (s : List ℕ) (at x y z next : ℕ) : Type 0 where
  pub reads : Took point s at (record { x = x; y = y; z = z }) next

pub point_got : {s : List ℕ} {at x y z next : ℕ} → Some (x, y, z, next) ≡ point_read s at → PointGot s at x y z next
unfolding point_read
point_got {s} {at} {x} {y} {z} {next} h = go (point.get (drop at s)) refl h
  where
    go : (r : Option (Point × List ℕ)) → point.get (drop at s) ≡ r → Some (x, y, z, next) ≡ placed_point (length s) r → PointGot s at x y z next
    go none e q = let w : ◌≡◌ {A = ℕ} 0 1 = cc in absurd (omega arith)
    go (some r) e q =
        let same = same_Some {A = ℕ × ℕ × ℕ × ℕ} (x, y, z, next) (r.0.x, r.0.y, r.0.z, (length s - length r.1)) q in
        let ex : x ≡ r.0.x = ap (λ (w : ℕ × ℕ × ℕ × ℕ). w.0) same in
        let ey : y ≡ r.0.y = ap (λ (w : ℕ × ℕ × ℕ × ℕ). w.1) same in
        let ez : z ≡ r.0.z = ap (λ (w : ℕ × ℕ × ℕ × ℕ). w.2) same in
        let en : next ≡ length s - length r.1 = ap (λ (w : ℕ × ℕ × ℕ × ℕ). w.3) same in
        rw (ex, ey, ez, en) (record { reads = took_reads (from_onward point s r.1 at r.0 e (point_ends (drop at s) r.0 r.1 e)) })

pub point_lacks : {s : List ℕ} {at : ℕ} → None ≡ point_read s at → Lacks point s at
unfolding point_read
point_lacks {s} {at} h = record { value = go (point.get (drop at s)) h }
  where
    go : (r : Option (Point × List ℕ)) → None ≡ placed_point (length s) r → r ≡ none
    go none q = refl
    go (some r) q = let w : ◌≡◌ {A = ℕ} 0 1 = cc in absurd (omega arith)

no_point_there : {s : List ℕ} {at : ℕ} → Lacks (coordinate ⊕ coordinate ⊕ coordinate) s at → None ≡ point_read s at
unfolding point_read point as_type
no_point_there e = rw e.value

pub no_x : {s : List ℕ} {at : ℕ} → Lacks coordinate s at → None ≡ point_read s at
no_x e = no_point_there (pair_lacks coordinate (coordinate ⊕ coordinate) e)

module _ {s : List ℕ} {at x past-x : ℕ} (p : Took coordinate s at x past-x) where
  pub no_y : Lacks coordinate s past-x → None ≡ point_read s at
  no_y e = no_point_there (pair_then_lacks coordinate (coordinate ⊕ coordinate) p (pair_lacks coordinate coordinate e))

  module _ {y past-y : ℕ} (q : Took coordinate s past-x y past-y) where
    pub no_z : Lacks coordinate s past-y → None ≡ point_read s at
    no_z e = no_point_there (pair_then_lacks coordinate (coordinate ⊕ coordinate) p (pair_then_lacks coordinate coordinate q e))

    pub three_read : {z next : ℕ} → Took coordinate s past-y z next → Some (x, y, z, next) ≡ point_read s at
    unfolding point_read point as_type
    three_read {z} {next} r =
        let w = both_took coordinate (coordinate ⊕ coordinate) p (both_took coordinate coordinate q r) in
        rw (w.value, place_back s next w.within)
