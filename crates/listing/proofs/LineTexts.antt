-- The lines of a listing by the parts that are put, and that they are short. Assumes nothing.
use mathlib.Core.Path.{◌≡◌, refl, ◌∙◌, ap}
use mathlib.Core.Bool.{true, false}
use mathlib.Core.List.{List, [], ◌∷◌, ◌++◌, append_assoc}
use Prim.Native.Nat.{ℕ, ◌+◌, ◌*◌, ◌/◌, ◌%◌, ◌^◌, ◌≤◌, ◌<◌}
use native.Mathlib.Omega.{arith}
use lib.ListN.{length, get_or, length-append}
use Rattle.laws.proofs.Tests.{by_cases}
use Rattle.laws.proofs.Tables.{length_tab}
use Rattle.model.specs.Lists.{tab, concat_map}
use Rattle.model.specs.Values.{Third}
use Rattle.model.specs.Image.{column, is_free_word, is_sewn_word, other_in, label_in, third_in, dart_in, block_in, holds_block}
use Rattle.model.specs.Text.{bytes, decimal, third_text}
use Rattle.model.specs.Listing.{dart_line, header_line, listing}
use Rattle.groups.proofs.Writing.{stored_length}
use Rattle.columns.proofs.Question.{image_passed}
use Rattle.codec.specs.Thirds.{ThirdSmall}
use Rattle.codec.proofs.ThirdLaws.{sewn_not_free}
use Rattle.savefile.specs.Named.{third_named, DartSmall, AllSmall}
use Rattle.savefile.proofs.Pieces.{pieces, in_pieces, length_most, Placing}
use Rattle.savefile.proofs.FileBytes.{third_is}
use Rattle.savefile.proofs.Sizes.{image_small, counter_small, count_small}
use Rattle.theory.proofs.TextLaws.{decimal_most, decimal_ten}

-- a number and the byte that ends it
abbrev pub ended : ℕ → ℕ → List ℕ
ended v e = decimal v ++ e ∷ []

pub ended_most : (b v e : ℕ) → length (decimal v) ≤ b → length (ended v e) ≤ b + 1
ended_most b v e h = omega (arith, length-append (decimal v) (e ∷ []))

-- THIRD LINKS, by their kinds
abbrev pub third_put : ℕ → ℕ → List ℕ
third_put k a = third_text (third_in (λ x. x) k a)

pub free_text : (k a : ℕ) → is_free_word k ≡ true → third_put k a ≡ bytes "free"
unfolding third_text third_in
free_text k a e = rw e

pub sewn_text : (k a : ℕ) → is_sewn_word k ≡ true → third_put k a ≡ bytes "sewn " ++ decimal a
unfolding third_text third_in
sewn_text k a e = rw (sewn_not_free k e, e)

-- "crit O M.N.P", in the parts that are put
abbrev crit_parts : ℕ → ℕ → ℕ → ℕ → List ℕ
crit_parts o m n p = bytes "crit " ++ ended o 32 ++ ended m 46 ++ ended n 46 ++ decimal p

crit_same : (o m n p : ℕ) → bytes "crit " ++ decimal o ++ bytes " " ++ decimal m ++ bytes "." ++ decimal n ++ bytes "." ++ decimal p ≡ crit_parts o m n p
unfolding bytes
crit_same o m n p =
    let a = bytes "crit " ++ ended o 32 in
    let b = a ++ ended m 46 in
    ap (λ (l : List ℕ). l ++ decimal m ++ bytes "." ++ decimal n ++ bytes "." ++ decimal p) (append_assoc (bytes "crit ") (decimal o) (32 ∷ []))
    ∙ ap (λ (l : List ℕ). l ++ decimal n ++ bytes "." ++ decimal p) (append_assoc a (decimal m) (46 ∷ []))
    ∙ ap (λ (l : List ℕ). l ++ decimal p) (append_assoc b (decimal n) (46 ∷ []))

pub crit_text : (k a : ℕ) → is_free_word k ≡ false → is_sewn_word k ≡ false
    → third_put k a ≡ crit_parts (other_in k) (label_in a).maker (label_in a).number (label_in a).position
unfolding third_text third_in
crit_text k a e f = rw (e, f) (crit_same (other_in k) (label_in a).maker (label_in a).number (label_in a).position)

-- how short the parts of a critical link are
module _ {k a : ℕ} (s : ThirdSmall k a) where
  pub other_short : length (decimal (other_in k)) ≤ 2
  other_short = decimal_most 1 (other_in k) (omega (arith, s.other_small))

  pub maker_short : length (decimal (label_in a).maker) ≤ 2
  maker_short = decimal_most 1 (a / 4096 / 2 ^ 32) (omega (arith, s.named_small))

  pub number_short : length (decimal (label_in a).number) ≤ 10
  number_short = decimal_ten (a / 4096 % 2 ^ 32) (omega arith)

  pub position_short : length (decimal (label_in a).position) ≤ 4
  position_short = decimal_most 3 (a % 4096) (omega arith)

  free_length : length (bytes "free") ≤ 26
  unfolding bytes
  free_length = omega arith

  sewn_length : is_sewn_word k ≡ true → length (bytes "sewn " ++ decimal a) ≤ 26
  unfolding bytes
  sewn_length e = omega (arith, length-append (bytes "sewn ") (decimal a), decimal_ten a (s.sewn_small e))

  crit_length : length (crit_parts (other_in k) (label_in a).maker (label_in a).number (label_in a).position) ≤ 26
  unfolding bytes
  crit_length =
      let x = bytes "crit " in
      let o = ended (other_in k) 32 in
      let m = ended (label_in a).maker 46 in
      let n = ended (label_in a).number 46 in
      let p = decimal (label_in a).position in
      omega (
        arith,
        length-append (x ++ o ++ m ++ n) p,
        length-append (x ++ o ++ m) n,
        length-append (x ++ o) m,
        length-append x o,
        ended_most 2 (other_in k) 32 other_short,
        ended_most 2 (label_in a).maker 46 maker_short,
        ended_most 10 (label_in a).number 46 number_short,
        position_short,
      )

  pub third_short : length (third_put k a) ≤ 26
  third_short = by_cases (is_free_word k)
      (λ e. rw (free_text k a e) free_length)
      (λ e. by_cases (is_sewn_word k) (λ f. rw (sewn_text k a f) (sewn_length f)) (λ f. rw (crit_text k a e f) crit_length))

-- THE LINE OF A DART
abbrev pub dart_text : List ℕ → ℕ → List ℕ
dart_text m p = dart_line (dart_in m p)

abbrev line_parts : ℕ → ℕ → ℕ → List ℕ → List ℕ
line_parts s n o t = ended s 32 ++ ended n 32 ++ ended o 32 ++ t ++ 10 ∷ []

line_same : (s n o : ℕ) (t : List ℕ) → decimal s ++ bytes " " ++ decimal n ++ bytes " " ++ decimal o ++ bytes " " ++ t ++ bytes "\n" ≡ line_parts s n o t
unfolding bytes
line_same s n o t =
    let a = ended s 32 in
    let b = a ++ ended n 32 in
    ap (λ (l : List ℕ). l ++ decimal o ++ bytes " " ++ t ++ bytes "\n") (append_assoc a (decimal n) (32 ∷ []))
    ∙ ap (λ (l : List ℕ). l ++ t ++ bytes "\n") (append_assoc b (decimal o) (32 ∷ []))

pub dart_parts : (m : List ℕ) (p : ℕ)
    → dart_text m p ≡ line_parts (column m 0 p) (column m 0 (column m 1 p)) (column m 0 (column m 2 p)) (third_put (column m 3 p) (third_named m p))
unfolding dart_line
dart_parts m p =
    line_same (column m 0 p) (column m 0 (column m 1 p)) (column m 0 (column m 2 p)) (third_text (third_in (column m 0) (column m 3 p) (column m 4 p)))
    ∙ ap (λ (t : Third). line_parts (column m 0 p) (column m 0 (column m 1 p)) (column m 0 (column m 2 p)) (third_text t)) (third_is m p)

pub dart_short : (m : List ℕ) (p : ℕ) → DartSmall m p → length (dart_text m p) ≤ 60
dart_short m p s =
    let a = ended (column m 0 p) 32 in
    let b = ended (column m 0 (column m 1 p)) 32 in
    let c = ended (column m 0 (column m 2 p)) 32 in
    let t = third_put (column m 3 p) (third_named m p) in
    rw (dart_parts m p) (omega (
      arith,
      length-append (a ++ b ++ c ++ t) (10 ∷ []),
      length-append (a ++ b ++ c) t,
      length-append (a ++ b) c,
      length-append a b,
      ended_most 10 (column m 0 p) 32 (decimal_ten (column m 0 p) s.serial_small),
      ended_most 10 (column m 0 (column m 1 p)) 32 (decimal_ten (column m 0 (column m 1 p)) s.next_small),
      ended_most 10 (column m 0 (column m 2 p)) 32 (decimal_ten (column m 0 (column m 2 p)) s.opposite_small),
      third_short s.third_small,
    ))

-- A LINE THAT ENDS WITH A NUMBER
pub ended_line : (l : List ℕ) (v : ℕ) → l ++ decimal v ++ bytes "\n" ≡ l ++ ended v 10
unfolding bytes
ended_line l v = append_assoc l (decimal v) (10 ∷ [])

-- the block's
pub header_parts : (m : List ℕ) → header_line (block_in m)
    ≡ bytes "block " ++ decimal (get_or m 0 0) ++ bytes " darts " ++ decimal (get_or m 2 0) ++ bytes " counter " ++ ended (get_or m 1 0) 10
unfolding header_line
header_parts m =
    ap (λ (n : ℕ). bytes "block " ++ decimal (get_or m 0 0) ++ bytes " darts " ++ decimal n ++ bytes " counter " ++ decimal (get_or m 1 0) ++ bytes "\n") (length_tab (dart_in m) (get_or m 2 0))
    ∙ ended_line (bytes "block " ++ decimal (get_or m 0 0) ++ bytes " darts " ++ decimal (get_or m 2 0) ++ bytes " counter ") (get_or m 1 0)

-- THE WHOLE LISTING
module _ {m : List ℕ} {n : ℕ} (s : AllSmall m n) where
  pub lines_short : length (pieces (dart_text m) n) ≤ n * 60
  lines_short = length_most (dart_text m) 60 n (λ p h. dart_short m p (s.each p h))

  -- with 60 bytes for each line there is room for the next
  pub line_room : {at past i : ℕ} {l out : List ℕ} → Placing (dart_text m) n at l out past i → i < n → at + n * 60 ≤ length l → past + 60 ≤ length out
  line_room {at} {past} {i} w h r =
      let few = length_most (dart_text m) 60 i (λ p k. dart_short m p (s.each p (omega arith))) in
      omega (arith, w.stored.past, stored_length w.stored)

module _ (m : List ℕ) (e : holds_block m ≡ true) where
  pub block_short : length (decimal (get_or m 0 0)) ≤ 2
  block_short = decimal_most 1 (get_or m 0 0) (omega (arith, (image_passed m e).range.number_small))

  pub count_short : length (decimal (get_or m 2 0)) ≤ 4
  count_short = decimal_most 3 (get_or m 2 0) (omega (arith, count_small m e))

  pub counter_short : length (decimal (get_or m 1 0)) ≤ 10
  counter_short = decimal_ten (get_or m 1 0) (counter_small m e)

  pub header_short : length (header_line (block_in m)) ≤ 40
  unfolding bytes
  header_short =
      let a = bytes "block " in
      let b = decimal (get_or m 0 0) in
      let c = bytes " darts " in
      let d = decimal (get_or m 2 0) in
      let f = bytes " counter " in
      let g = ended (get_or m 1 0) 10 in
      rw (header_parts m) (omega (
        arith,
        length-append (a ++ b ++ c ++ d ++ f) g,
        length-append (a ++ b ++ c ++ d) f,
        length-append (a ++ b ++ c) d,
        length-append (a ++ b) c,
        length-append a b,
        block_short,
        count_short,
        ended_most 10 (get_or m 1 0) 10 counter_short,
      ))

pub listing_parts : (m : List ℕ) → listing (block_in m) ≡ header_line (block_in m) ++ concat_map dart_line (tab (dart_in m) (get_or m 2 0))
unfolding listing
listing_parts m = refl

pub listing_short : (m : List ℕ) → holds_block m ≡ true → length (listing (block_in m)) ≤ 245800
listing_short m e =
    let a = header_line (block_in m) in
    let b = concat_map dart_line (tab (dart_in m) (get_or m 2 0)) in
    let few : length b ≤ get_or m 2 0 * 60 = rw (in_pieces dart_line (dart_in m) (get_or m 2 0)) (lines_short (image_small m e)) in
    rw (listing_parts m) (omega (arith, length-append a b, header_short m e, count_small m e))
