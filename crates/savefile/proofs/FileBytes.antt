-- The bytes of a file: darts by their words, the whole by header and darts; and how long they are.
-- Assumes nothing.
use mathlib.Core.Path.{◌≡◌, refl, sym, ◌∙◌, ap}
use mathlib.Core.List.{List, [], ◌∷◌, ◌++◌, append_assoc}
use Prim.Native.Nat.{ℕ, ◌+◌, ◌*◌, ◌≤◌}
use native.Mathlib.Omega.{arith}
use lib.ListN.{length, get_or, length-append}
use Rattle.model.specs.Lists.{tab, concat_map}
use Rattle.model.specs.Values.{Third, Limits}
use Rattle.model.specs.Layouts.{Layout, group, serial, ◌⊗◌, ◌⊕◌, as_type, such_that, at_most, put_all, times, counted}
use Rattle.model.specs.Image.{column, is_sewn_word, third_in, dart_in, block_in}
use Rattle.model.specs.Messages.{point, kind_of, third, a_dart, file}
use Rattle.laws.proofs.Tests.{by_cases}
use Rattle.laws.proofs.Tables.{length_tab}
use Rattle.memory.specs.declared.point.Point.{Point}
use Rattle.memory.specs.Point.{point_of, patterns, FinitePoint, FiniteAt}
use Rattle.memory.proofs.Points.{point_finite, point_patterns}
use Rattle.codec.specs.Darts.{link_bytes}
use Rattle.codec.specs.Thirds.{third_bytes}
use Rattle.codec.proofs.DartLaws.{dart_bytes as dart-bytes-are, link_length}
use Rattle.codec.proofs.EntryLaws.{point_length, serial_most}
use Rattle.codec.proofs.ThirdLaws.{third_most}
use Rattle.savefile.specs.Named.{third_named, header_bytes, DartSmall, AllSmall}
use Rattle.savefile.proofs.Pieces.{pieces, in_pieces, length_most}

-- DARTS
pub third_is : (m : List ℕ) (p : ℕ) → third_in (column m 0) (column m 3 p) (column m 4 p) ≡ third_in (λ x. x) (column m 3 p) (third_named m p)
unfolding third_in third_named
third_is m p = by_cases (is_sewn_word (column m 3 p)) (λ e. rw e) (λ e. rw e)

third_put_is : (k a : ℕ) → third_bytes k a ≡ (at_most 2 ⊗ third).put (kind_of (third_in (λ x. x) k a), third_in (λ x. x) k a)
unfolding third_bytes
third_put_is k a = refl

abbrev place_point : List ℕ → ℕ → List ℕ
place_point m p = point.put (dart_in m p).point

abbrev pub links_at : List ℕ → ℕ → List ℕ
links_at m p = link_bytes (column m 0 p) (column m 0 (column m 1 p)) (column m 0 (column m 2 p))

-- links, third link, point
pub dart_put : (m : List ℕ) (p : ℕ) → a_dart.put (dart_in m p) ≡ links_at m p ++ (third_bytes (column m 3 p) (third_named m p) ++ point.put (dart_in m p).point)
dart_put m p = dart-bytes-are (dart_in m p)
    ∙ ap (λ (t : Third). links_at m p ++ ((at_most 2 ⊗ third).put (kind_of t, t) ++ place_point m p)) (third_is m p)
    ∙ ap (λ (b : List ℕ). links_at m p ++ (b ++ place_point m p)) (sym (third_put_is (column m 3 p) (third_named m p)))

-- the point at place p, by value
module _ (m : List ℕ) (p : ℕ) (f : FiniteAt m p) {q : Point} (e : q ≡ point_of (column m 5 p) (column m 6 p) (column m 7 p)) where
  pub point_fine : FinitePoint q
  point_fine = rw e (point_finite _ _ _ f.on_x f.on_y f.on_z)

  pub point_is : point.put (patterns q) ≡ point.put (dart_in m p).point
  point_is = ap (λ (x : Point). point.put (patterns x)) e ∙ ap point.put (point_patterns _ _ _ f.on_x f.on_y f.on_z)

pub dart_length : (m : List ℕ) (p : ℕ)
    → length (a_dart.put (dart_in m p))
    ≡ length (serial.put (column m 0 p)) +
    (length (serial.put (column m 0 (column m 1 p))) +
    (length (serial.put (column m 0 (column m 2 p))) + (length (third_bytes (column m 3 p) (third_named m p)) + 24)))
dart_length m p =
    let t = third_bytes (column m 3 p) (third_named m p) in
    let q = point.put (dart_in m p).point in
    rw (dart_put m p) (omega (arith, length-append (links_at m p) (t ++ q), length-append t q, link_length (column m 0 p) (column m 0 (column m 1 p)) (column m 0 (column m 2 p)), point_length (dart_in m p).point))

pub dart_most : (m : List ℕ) (p : ℕ) → DartSmall m p → length (a_dart.put (dart_in m p)) ≤ 49
dart_most m p s = omega (
  arith,
  dart_length m p,
  serial_most (column m 0 p) s.serial_small,
  serial_most (column m 0 (column m 1 p)) s.next_small,
  serial_most (column m 0 (column m 2 p)) s.opposite_small,
  third_most (column m 3 p) (third_named m p) s.third_small,
)

-- ALL DARTS
abbrev pub dart_bytes : List ℕ → ℕ → List ℕ
dart_bytes m p = a_dart.put (dart_in m p)

put_each : {A : Type 0} (l : Layout A) (xs : List A) → put_all l xs ≡ concat_map l.put xs
unfolding put_all
put_each l [] = refl
put_each l (x ∷ xs) = ap (λ (t : List ℕ). l.put x ++ t) (put_each l xs)

pub darts_put : (m : List ℕ) (n : ℕ) → put_all a_dart (tab (dart_in m) n) ≡ pieces (dart_bytes m) n
darts_put m n = put_each a_dart (tab (dart_in m) n) ∙ in_pieces a_dart.put (dart_in m) n

pub darts_most : {m : List ℕ} {n : ℕ} → AllSmall m n → length (pieces (dart_bytes m) n) ≤ n * 49
darts_most {m} {n} s = length_most (dart_bytes m) 49 n (λ p h. dart_most m p (s.each p h))

-- THE FILE
pub file_put : (lim : Limits) (m : List ℕ) → (file lim).put (block_in m) ≡ header_bytes m ++ put_all a_dart (tab (dart_in m) (get_or m 2 0))
unfolding file such_that as_type counted ◌⊕◌ ◌⊗◌ at_most times header_bytes
file_put lim m =
    let n = get_or m 2 0 in
    let ds = put_all a_dart (tab (dart_in m) n) in
    ap (λ (k : ℕ). group.put (get_or m 0 0) ++ (group.put (get_or m 1 0) ++ (group.put k ++ ds))) (length_tab (dart_in m) n)
    ∙ rw (append_assoc (group.put (get_or m 0 0)), append_assoc (group.put (get_or m 1 0)))

pub header_length : (m : List ℕ) → length (header_bytes m) ≡ length (group.put (get_or m 0 0)) + (length (group.put (get_or m 1 0)) + length (group.put (get_or m 2 0)))
unfolding header_bytes
header_length m = rw (length-append (group.put (get_or m 0 0)), length-append (group.put (get_or m 1 0)))
