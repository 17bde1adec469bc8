-- New darts interleaved in and sewn have joined. Assumes nothing.
use mathlib.Core.Path.{◌≡◌, refl, ap, subst}
use mathlib.Core.List.{List}
use Prim.Native.Nat.{ℕ, ◌+◌, ◌≤◌}
use native.Mathlib.Omega.{arith}
use lib.ListN.{length}
use Rattle.model.specs.Image.{words_for, column}
use Rattle.release.specs.Asks.{Tabled}
use Rattle.join.specs.Interleave.{up, interleaved_at}
use Rattle.join.specs.Interleaved.{Stands}
use Rattle.join.proofs.InterleavedPlaces.{stands, size_is}
use Rattle.join.specs.Thirds.{JoinSewable, Sewn}
use Rattle.join.proofs.JoinedDarts.{sewable}
use Rattle.join.specs.Join.{MayJoin, Joins}

module _ {m c : List ℕ} {n k : ℕ} {kinds links ranks : List ℕ} (w : MayJoin m c n k kinds links ranks) (old new : List ℕ)
    (olds : Tabled (up (column m 0) (column c 0) k) n old) (news : Tabled (up (column c 0) (column m 0) n) k new) where
  at : Stands m c (interleaved_at m n c k) n k old new
  at = stands w.drafted old new refl olds news

  pub may_sew : JoinSewable n k kinds links ranks old new
  may_sew = sewable w.drafted.interleaves.fits at w.indexed w.linking

  pub joins : {z y : List ℕ} → z ≡ interleaved_at m n c k → Sewn z kinds links ranks old new k y → Joins m c n k kinds links ranks y
  joins {z} {y} e s = record { old = old; new = new; stand = at; sewn = subst (λ (a : List ℕ). Sewn a kinds links ranks old new k y) e s }

pub interleaved_size : {m c : List ℕ} {n k : ℕ} {kinds links ranks : List ℕ} → MayJoin m c n k kinds links ranks → {z : List ℕ} → z ≡ interleaved_at m n c k → words_for (n + k) ≤ length z
interleaved_size w e = omega (arith, ap length e, size_is w.drafted, w.drafted.interleaves.holds)
