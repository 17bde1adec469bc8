-- Coordinates: one byte more, put and read. Assumes nothing.
use Rattle.std.specs.Prelude.{None, Some}
use mathlib.Core.Path.{◌≡◌, refl, subst, ◌∙◌, ap}
use mathlib.Core.List.{List, [], ◌∷◌}
use mathlib.Core.Option.{some}
use Prim.Native.Nat.{ℕ, zero, suc, ◌+◌, ◌*◌, ◌-◌, ◌/◌, ◌<◌, ◌≤◌}
use native.Mathlib.Numerals.{add-one}
use native.Mathlib.Omega.{arith}
use lib.ListN.{length, get_or, take, drop, length-drop}
use lib.Seq.{drop-cons, take-suc, take_all}
use borrow.Rule.Slice.PartMut.{put_mid}
use Rattle.std.specs.Int.{w64, to_le_bytes}
use Rattle.groups.proofs.Writing.{stored_then, stored_part}
use Rattle.model.specs.Layouts.{low_bytes, read_bytes, coordinate}
use Rattle.theory.proofs.LayoutLaws.{bytes_none}
use Rattle.groups.specs.Slices.{Stored, read_at}

-- PUT
bytes_length : (n v : ℕ) → length (low_bytes n v) ≡ n
unfolding low_bytes
bytes_length zero v = refl
bytes_length (suc n) v = ap suc (bytes_length n (v / 256))

pub coordinate_length : (v : ℕ) → length (coordinate.put v) ≡ 8
unfolding coordinate
coordinate_length v = bytes_length 8 v

-- the word's bytes, the lowest first
pub word_bytes : (v : ℕ) → to_le_bytes w64 v ≡ coordinate.put v
unfolding coordinate low_bytes
word_bytes v = eight _ _ _ _ _ _ _ (omega arith) (omega arith) (omega arith) (omega arith) (omega arith) (omega arith) (omega arith)
  where
    eight : {a b c d e f g h : ℕ} (b' c' d' e' f' g' h' : ℕ) → b ≡ b' → c ≡ c' → d ≡ d' → e ≡ e' → f ≡ f' → g ≡ g' → h ≡ h'
        → a ∷ b ∷ c ∷ d ∷ e ∷ f ∷ g ∷ h ∷ [] ≡ a ∷ b' ∷ c' ∷ d' ∷ e' ∷ f' ∷ g' ∷ h' ∷ []
    eight b' c' d' e' f' g' h' p q r s t u v = rw (p, q, r, s, t, u, v) refl

-- put at once
pub word_stored : (l : List ℕ) (at word : ℕ) {bs ys : List ℕ} → at + 8 ≤ length l → bs ≡ to_le_bytes w64 word → ys ≡ bs
    → Stored l at (coordinate.put word) (put_mid at (at + 8 - at) l ys) (at + 8)
word_stored l at word {bs} {ys} h e f =
    let n = coordinate_length word in
    stored_part l at (omega arith) h (f ∙ e ∙ word_bytes word)

-- put one by one: those before i
pub bytes_more : {l out m : List ℕ} (bs : List ℕ) {at p next : ℕ} (i : ℕ) → Stored l at (take i bs) out p → i < length bs
    → Stored out p (get_or bs i 0 ∷ []) m next → Stored l at (take (i + 1) bs) m next
bytes_more bs i w h s = rw (add-one i, take-suc bs i 0 h) (stored_then w s)

pub bytes_all : {l out : List ℕ} (bs : List ℕ) {at p : ℕ} (word i : ℕ) → Stored l at (take i bs) out p → 8 ≤ i → bs ≡ to_le_bytes w64 word
    → Stored l at (coordinate.put word) out p
bytes_all {l} {out} bs {at} {p} word i w h e =
    let same : bs ≡ coordinate.put word = e ∙ word_bytes word in
    let n = coordinate_length word in
    subst (λ (z : List ℕ). Stored l at z out p) (take_all i bs (omega (arith, ap length same)) ∙ same) w

-- READ
pub coordinate_short : (at : ℕ) (s : List ℕ) → length s < at + 8 → None ≡ read_at coordinate s at
unfolding read_at coordinate
coordinate_short at s h = rw (bytes_none 8 (drop at s) (rw length-drop (omega arith)))

no_byte : (bs : List ℕ) → read_bytes 0 bs ≡ some (0, bs)
unfolding read_bytes
no_byte bs = refl

byte : (s rest : List ℕ) (k at next b h : ℕ) → at < length s → next ≡ at + 1 → b ≡ get_or s at 0 → read_bytes k (drop next s) ≡ some (h, rest)
    → read_bytes (suc k) (drop at s) ≡ some (b + 256 * h, rest)
unfolding read_bytes
byte s rest k at next b h l n e r = rw (drop-cons s at 0 l, ← add-one at, ← n, r, e)

-- the eight bytes at a place
pub coordinate_word : (s : List ℕ) (at a b c d e f g h : ℕ) → at + 8 ≤ length s
    → a ≡ get_or s at 0 → b ≡ get_or s (at + 1) 0 → c ≡ get_or s (at + 2) 0 → d ≡ get_or s (at + 3) 0 → e ≡ get_or s (at + 4) 0 → f ≡ get_or s (at + 5) 0
    → g ≡ get_or s (at + 6) 0 → h ≡ get_or s (at + 7) 0
    → Some ((a + 256 * (b + 256 * (c + 256 * (d + 256 * (e + 256 * (f + 256 * (g + 256 * h))))))), (at + 8)) ≡ read_at coordinate s at
unfolding read_at coordinate
coordinate_word s at a b c d e f g h l pa pb pc pd pe pf pg ph =
    let end = no_byte (drop (at + 8) s) in
    let z : h + 256 * 0 ≡ h = omega arith in
    let r7 = rw z at (byte s _ 0 (at + 7) (at + 8) h 0 (omega arith) (omega arith) ph end) in
    let r6 = byte s _ 1 (at + 6) (at + 7) g _ (omega arith) (omega arith) pg r7 in
    let r5 = byte s _ 2 (at + 5) (at + 6) f _ (omega arith) (omega arith) pf r6 in
    let r4 = byte s _ 3 (at + 4) (at + 5) e _ (omega arith) (omega arith) pe r5 in
    let r3 = byte s _ 4 (at + 3) (at + 4) d _ (omega arith) (omega arith) pd r4 in
    let r2 = byte s _ 5 (at + 2) (at + 3) c _ (omega arith) (omega arith) pc r3 in
    let r1 = byte s _ 6 (at + 1) (at + 2) b _ (omega arith) (omega arith) pb r2 in
    let r0 = byte s _ 7 at (at + 1) a _ (omega arith) refl pa r1 in
    let q : length s - (length s - (at + 8)) ≡ at + 8 = omega arith in
    rw (r0, length-drop (at + 8) s, q)
