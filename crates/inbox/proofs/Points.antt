-- Points where they stand: a word, a point and all points are taken where there is room, and not otherwise. Assumes nothing.
use Rattle.std.specs.Prelude.{None, Some}
use mathlib.Core.Path.{◌≡◌, refl, ap}
use mathlib.Core.Logic.{⊎_elim}
use mathlib.Core.List.{List, [], ◌∷◌}
use mathlib.Core.Option.{none, some}
use Prim.Native.Nat.{ℕ, zero, suc, ◌+◌, ◌*◌, ◌≤◌, ◌<◌}
use native.Mathlib.Omega.{arith}
use lib.ListN.{length, drop, length-drop}
use lib.Seq.{drop-drop}
use Rattle.model.specs.Lists.{tab}
use Rattle.model.specs.Layouts.{read_bytes, coordinate, group, ◌⊕◌, get_all, times}
use Rattle.model.specs.Messages.{point}
use Rattle.laws.proofs.Tests.{lt_or_ge}
use Rattle.laws.proofs.Tables.{tab_cong}
use Rattle.theory.proofs.LayoutLaws.{bytes_none}
use Rattle.codec.specs.Taken.{Took}
use Rattle.inbox.specs.Inbox.{word_in, point_in, points_in, PointsRead}
use Rattle.codec.proofs.Taking.{both_none, both_half, both_took, as_none, as_took, counted_half, counted_took}

-- BYTES
bytes_some : (n : ℕ) (bs : List ℕ) → n ≤ length bs → (v : ℕ) × (read_bytes n bs ≡ some (v, drop n bs))
unfolding read_bytes
bytes_some zero bs h = (0, refl)
bytes_some (suc n) [] h = absurd (omega arith)
bytes_some (suc n) (b ∷ bs) h = let r = bytes_some n bs (omega arith) in (b + 256 * r.0, rw r.1)

-- A WORD
pub word_took : (s : List ℕ) (at : ℕ) → at + 8 ≤ length s → Took coordinate s at (word_in s at) (at + 8)
unfolding word_in coordinate
word_took s at h =
    let r = bytes_some 8 (drop at s) (omega (arith, length-drop at s)) in
    record { value = rw (r.1, drop-drop 8 at s); onward = omega arith; within = h }

word_none : (s : List ℕ) (at : ℕ) → length s < at + 8 → coordinate.get (drop at s) ≡ none
unfolding coordinate
word_none s at h = bytes_none 8 (drop at s) (omega (arith, length-drop at s))

-- A POINT
point_took : (s : List ℕ) (at : ℕ) → at + 24 ≤ length s → Took point s at (point_in s at) (at + 24)
unfolding point
point_took s at h =
    let e : at + 16 + 8 ≡ at + 24 = omega arith in
    let f : at + 8 + 8 ≡ at + 16 = omega arith in
    let z : Took coordinate s (at + 16) (word_in s (at + 16)) (at + 24) = rw (← e) (word_took s (at + 16) (omega arith)) in
    let y : Took coordinate s (at + 8) (word_in s (at + 8)) (at + 16) = rw (← f) (word_took s (at + 8) (omega arith)) in
    as_took (λ p. record { x = p.0; y = p.1.0; z = p.1.1 }) (λ p. (p.x, (p.y, p.z))) (coordinate ⊕ coordinate ⊕ coordinate)
    (both_took coordinate (coordinate ⊕ coordinate) (word_took s at (omega arith)) (both_took coordinate coordinate y z))

point_none : (s : List ℕ) (at : ℕ) → length s < at + 24 → point.get (drop at s) ≡ none
unfolding point
point_none s at h = as_none (λ p. record { x = p.0; y = p.1.0; z = p.1.1 }) (λ p. (p.x, (p.y, p.z))) (coordinate ⊕ coordinate ⊕ coordinate) (drop at s)
    (⊎_elim (λ a. both_none coordinate (coordinate ⊕ coordinate) (drop at s) (word_none s at a))
    (λ a. both_half coordinate (coordinate ⊕ coordinate) (word_took s at a)
    (⊎_elim (λ b. both_none coordinate coordinate (drop (at + 8) s) (word_none s (at + 8) (omega arith)))
    (λ b. both_half coordinate coordinate (word_took s (at + 8) (omega arith)) (word_none s (at + 8 + 8) (omega arith)))
    (lt_or_ge (length s) (at + 16))))
    (lt_or_ge (length s) (at + 8)))

-- ALL POINTS
pub points_took : (s : List ℕ) (n from : ℕ) → from + 24 * n ≤ length s → Took (times n point) s from (points_in s from n) (from + 24 * n)
unfolding times get_all points_in
points_took s zero from h = let e : from + 24 * 0 ≡ from = omega arith in record { value = rw e; onward = omega arith; within = h }
points_took s (suc n) from h =
    let first = point_took s from (omega arith) in
    let later = points_took s n (from + 24) (omega arith) in
    let e : from + 24 * 0 ≡ from = omega arith in
    let f : from + 24 + 24 * n ≡ from + 24 * suc n = omega arith in
    let same : tab (λ k. point_in s (from + 24 + 24 * k)) n ≡ tab (λ k. point_in s (from + 24 * suc k)) n
    = tab_cong (λ k. point_in s (from + 24 + 24 * k)) (λ k. point_in s (from + 24 * suc k)) n (λ k j. ap (point_in s) (shift from k)) in
    record { value = rw (first.value, later.value, e, ← f, same); onward = omega arith; within = h }
  where
    shift : (from k : ℕ) → from + 24 + 24 * k ≡ from + 24 * suc k
    shift from k = omega arith

pub points_none : (s : List ℕ) (n from : ℕ) → from ≤ length s → length s < from + 24 * n → get_all point n (drop from s) ≡ none
unfolding get_all
points_none s zero from h k = absurd (omega arith)
points_none s (suc n) from h k = ⊎_elim
    (λ a. rw (point_none s from a))
    (λ a. rw ((point_took s from a).value, points_none s n (from + 24) a (omega arith)))
    (lt_or_ge (length s) (from + 24))

pub points_read : {s : List ℕ} {at n from : ℕ} → Took group s at n from → from + 24 * n ≤ length s → PointsRead s at (Some (n, from))
points_read {s} {at} {n} {from} w h = record { said = ((counted_took point w (points_took s n from h)).value, w.onward, h) }

pub points_bad : {s : List ℕ} {at n from : ℕ} → Took group s at n from → length s < from + 24 * n → PointsRead s at None
points_bad {s} {at} {n} {from} w h = record { said = counted_half point w (points_none s n from w.within h) }
