-- Third links in their columns: the parts of each text, and that what stands there is one or none. Assumes nothing.
use Rattle.std.specs.Prelude.{None, Option, Some}
use mathlib.Core.Path.{◌≡◌, refl, sym, ◌∙◌, ap}
use mathlib.Core.Bool.{true, false}
use mathlib.Core.List.{List, [], ◌∷◌, ◌++◌, append_assoc}
use Prim.Native.Nat.{ℕ, suc, ◌+◌, ◌*◌, ◌-◌, ◌^◌, ◌≤◌, ◌<◌}
use native.Mathlib.Omega.{arith}
use lib.ListN.{length, get_or, length-append, length-replicate}
use borrow.Author.Tests.{lt-ltb, le-leb}
use Rattle.laws.specs.Standing.{Stands}
use Rattle.laws.proofs.Tests.{and_intro}
use Rattle.laws.proofs.Standings.{stands_left, stands_right, stands_both, stands_at, stands_is}
use Rattle.model.specs.Values.{Label, Third, free, sewn, critical, code, serial_bound}
use Rattle.model.specs.Text.{bytes, is_digit, decimal, third_text}
use Rattle.model.specs.Layouts.{group, group_below, serial, ◌⊗◌, ◌⊕◌, as_type}
use Rattle.model.specs.Messages.{label, critical_link, third_ok}
use Rattle.model.specs.Pages.{blanks, third_column}
use Rattle.theory.proofs.DemandTwo.{small_ok}
use Rattle.theory.proofs.TextLaws.{decimal_most, decimal_ten}
use Rattle.theory.proofs.PageLaws.{LabelSmall, label_small, sewn_small, crit_text, third_short, third_length}
use Rattle.text.specs.Reading.{Ended}
use Rattle.text.proofs.Readings.{one_ended}
use Rattle.readpages.specs.Thirds.{ThirdAt, LinkAt, ThirdRead, SewnAt, CriticalRead, ended, label_text, LabelAt, CodeAt}

-- THE TEXTS IN PARTS, each number with the byte behind it
pub blank_no_digit : is_digit 32 ≡ false
unfolding is_digit
blank_no_digit = refl

pub dot_no_digit : is_digit 46 ≡ false
unfolding is_digit
dot_no_digit = refl

ended_length : (v e : ℕ) → length (ended v e) ≡ length (decimal v) + 1
ended_length v e = length-append (decimal v) (e ∷ [])

sewn_same : (s k : ℕ) → bytes "sewn " ++ decimal s ++ blanks (suc k) ≡ bytes "sewn " ++ ended s 32 ++ blanks k
unfolding bytes
sewn_same s k = append_assoc (bytes "sewn ") (decimal s) (blanks (suc k)) ∙ ap (λ (l : List ℕ). bytes "sewn " ++ l) (sym (append_assoc (decimal s) (32 ∷ []) (blanks k)))
    ∙ sym (append_assoc (bytes "sewn ") (ended s 32) (blanks k))

abbrev sewn_rest : ℕ → ℕ
sewn_rest s = 42 - length (decimal s)

pub sewn_parts : (s : ℕ) → s < 2 ^ 32 → third_column (sewn s) ≡ bytes "sewn " ++ ended s 32 ++ blanks (sewn_rest s)
unfolding third_column third_text bytes
sewn_parts s h =
    let few = decimal_ten s h in
    let n : 48 - length (bytes "sewn " ++ decimal s) ≡ suc (sewn_rest s) = omega arith in
    ap (λ (k : ℕ). bytes "sewn " ++ decimal s ++ blanks k) n ∙ sewn_same s (sewn_rest s)

abbrev crit_rest : ℕ → Label → ℕ
crit_rest o l = 47 - length (crit_text o l)

joined : (z a b c d e : List ℕ) (x y w v : ℕ) → z ++ a ++ (x ∷ []) ++ b ++ (y ∷ []) ++ c ++ (w ∷ []) ++ d ++ v ∷ e
    ≡ z ++ (a ++ x ∷ []) ++ ((b ++ y ∷ []) ++ (c ++ w ∷ []) ++ (d ++ v ∷ [])) ++ e
joined z a b c d e x y w v = rw (append_assoc, append_assoc, append_assoc, append_assoc, append_assoc, append_assoc, append_assoc, append_assoc, append_assoc, append_assoc, append_assoc, append_assoc, append_assoc, append_assoc, append_assoc)

pub crit_parts : (o : ℕ) (l : Label) → third_ok (critical o l) ≡ true → third_column (critical o l) ≡ bytes "crit " ++ ended o 32 ++ label_text l ++ blanks (crit_rest o l)
unfolding third_column third_text
crit_parts o l h =
    let few = third_short (critical o l) h in
    let n : 48 - length (crit_text o l) ≡ suc (crit_rest o l) = unfold third_text in (omega arith) in
    ap (λ (k : ℕ). crit_text o l ++ blanks k) n
    ∙ unfold bytes in (joined (bytes "crit ") (decimal o) (decimal l.maker) (decimal l.number) (decimal l.position) (blanks (crit_rest o l)) 32 46 46 32)

-- how long a critical link's text is, in these parts
crit_long : (o : ℕ) (l : Label) → third_ok (critical o l) ≡ true → length (crit_text o l) + 1 ≡ 5 + length (decimal o) + 1 + length (label_text l)
crit_long o l h =
    let few : length (crit_text o l) ≤ 26 = unfold third_text in (third_short (critical o l) h) in
    let whole = ap length (crit_parts o l h) in
    let both : length (third_column (critical o l)) ≡ 48 = third_length (critical o l) h in
    let tail : length (blanks (crit_rest o l)) ≡ crit_rest o l = length-replicate {A = ℕ} (crit_rest o l) 32 in
    let front : length (bytes "crit " ++ ended o 32) ≡ 5 + length (decimal o) + 1 = unfold bytes in (omega (arith, length-append (bytes "crit ") (ended o 32), ended_length o 32)) in
    omega (arith, length-append (bytes "crit " ++ ended o 32 ++ label_text l) (blanks (crit_rest o l)), length-append (bytes "crit " ++ ended o 32) (label_text l))

-- what stands first
module _ {s : List ℕ} {at : ℕ} where
  letter : (t : Third) → ThirdAt s at t → {c : ℕ} → get_or (third_column t) 0 0 ≡ c → 0 < length (third_column t) → get_or s at 0 ≡ c
  letter t w e h = let z : at + 0 ≡ at = omega arith in ap (λ (k : ℕ). get_or s k 0) (sym z) ∙ w.stands.same 0 h ∙ e

  pub free_letter : ThirdAt s at free → get_or s at 0 ≡ 102
  unfolding third_column third_text bytes
  free_letter w = letter free w refl (omega arith)

  pub sewn_letter : {v : ℕ} → ThirdAt s at (sewn v) → get_or s at 0 ≡ 115
  unfolding third_column third_text bytes
  sewn_letter {v} w = letter (sewn v) w refl (omega arith)

  pub critical_letter : {o : ℕ} {l : Label} → ThirdAt s at (critical o l) → get_or s at 0 ≡ 99
  unfolding third_column third_text bytes
  critical_letter {o} {l} w = letter (critical o l) w refl (omega arith)

-- FREE
module _ {s : List ℕ} {at : ℕ} where
  pub free_text : ThirdAt s at free → Stands s at (bytes "free")
  unfolding third_column third_text bytes
  free_text w = stands_left (bytes "free") (blanks 44) w.stands

  pub free_blanks : ThirdAt s at free → Stands s (at + 4) (blanks 44)
  unfolding third_column third_text bytes
  free_blanks w = stands_right (bytes "free") (blanks 44) w.stands

  pub free_found : Stands s at (bytes "free") → Stands s (at + 4) (blanks 44) → LinkAt s at 0 0 (at + 48)
  unfolding third_column third_text bytes
  free_found t b = record { third = free; there = record { ok = refl; stands = stands_both (bytes "free") (blanks 44) t b }; kind_is = refl; link_is = refl; past_is = refl }

-- SEWN
sewn_ok : (v : ℕ) → v < 2 ^ 32 → third_ok (sewn v) ≡ true
unfolding serial group_below
sewn_ok v h = lt-ltb v serial_bound h

module _ {s : List ℕ} {at v : ℕ} (w : ThirdAt s at (sewn v)) where
  parts : Stands s at (bytes "sewn " ++ ended v 32 ++ blanks (sewn_rest v))
  parts = stands_is (sewn_parts v (sewn_small v w.ok)) w.stands

  pub sewn_text : Stands s at (bytes "sewn ")
  sewn_text = stands_left (bytes "sewn ") (ended v 32) (stands_left (bytes "sewn " ++ ended v 32) (blanks (sewn_rest v)) parts)

  pub sewn_ended : Ended s (at + 5) 32 v (at + 5 + length (decimal v) + 1)
  unfolding bytes
  sewn_ended = record {
    small = sewn_small v w.ok;
    stands = stands_right (bytes "sewn ") (ended v 32) (stands_left (bytes "sewn " ++ ended v 32) (blanks (sewn_rest v)) parts);
    past_is = refl;
  }

  pub sewn_blanks : Stands s (at + 5 + length (decimal v) + 1) (blanks (sewn_rest v))
  unfolding bytes
  sewn_blanks = stands_at
      (let e : at + length (bytes "sewn " ++ ended v 32) ≡ at + 5 + length (decimal v) + 1 = omega (arith, length-append (bytes "sewn ") (ended v 32), ended_length v 32) in e)
      (stands_right (bytes "sewn " ++ ended v 32) (blanks (sewn_rest v)) parts)

module _ {s : List ℕ} (at : ℕ) {u p : ℕ} (k : Ended s (at + 5) 32 u p) where
  pub sewn_past : p ≤ at + 16
  sewn_past = omega (arith, k.past_is, decimal_ten u k.small)

  pub sewn_other : (Stands s p (blanks (at + 48 - p)) → ⊥) → (v : ℕ) → ThirdAt s at (sewn v) → ⊥
  sewn_other filled v w =
      let same : u ≡ v = one_ended blank_no_digit k (sewn_ended w) in
      let long = ap (λ (x : ℕ). length (decimal x)) same in
      let n : sewn_rest v ≡ at + 48 - p = omega (arith, k.past_is, long) in
      filled (stands_is (ap blanks n) (stands_at (let e : at + 5 + length (decimal v) + 1 ≡ p = omega (arith, k.past_is, long) in e) (sewn_blanks w)))

  pub sewn_found : Stands s at (bytes "sewn ") → Stands s p (blanks (at + 48 - p)) → SewnAt s at u (at + 48)
  unfolding bytes
  sewn_found t b = record {
    there = record {
      ok = sewn_ok u k.small;
      stands = stands_is (sym (sewn_parts u k.small)) (stands_both (bytes "sewn " ++ ended u 32) (blanks (sewn_rest u)) (stands_both (bytes "sewn ") (ended u 32) t k.stands)
          (stands_at (let e : p ≡ at + length (bytes "sewn " ++ ended u 32) = omega (arith, k.past_is, length-append (bytes "sewn ") (ended u 32), ended_length u 32) in e)
          (stands_is (ap blanks (let n : at + 48 - p ≡ sewn_rest u = omega (arith, k.past_is) in n)) b)));
    };
    past_is = refl;
  }

-- LABELS
module _ {s : List ℕ} {from : ℕ} {l : Label} (w : LabelAt s from l) where
  abbrev x : List ℕ
  x = ended l.maker 46

  abbrev y : List ℕ
  y = ended l.number 46

  abbrev z : List ℕ
  z = ended l.position 32

  pub maker_ended : Ended s from 46 l.maker (from + length (decimal l.maker) + 1)
  maker_ended = record { small = omega (arith, w.maker); stands = stands_left x y (stands_left (x ++ y) z w.stands); past_is = refl }

  pub number_ended : {p : ℕ} → p ≡ from + length (decimal l.maker) + 1 → Ended s p 46 l.number (p + length (decimal l.number) + 1)
  number_ended {p} e = record {
    small = w.number;
    stands = stands_at (let q : from + length x ≡ p = omega (arith, e, ended_length l.maker 46) in q) (stands_right x y (stands_left (x ++ y) z w.stands));
    past_is = refl;
  }

  pub position_ended : {p : ℕ} → p ≡ from + length (decimal l.maker) + 1 + length (decimal l.number) + 1 → Ended s p 32 l.position (p + length (decimal l.position) + 1)
  position_ended {p} e = record {
    small = omega (arith, w.position);
    stands = stands_at (let q : from + length (x ++ y) ≡ p = omega (arith, e, length-append x y, ended_length l.maker 46, ended_length l.number 46) in q) (stands_right (x ++ y) z w.stands);
    past_is = refl;
  }

  pub label_long : length (label_text l) ≡ length (decimal l.maker) + length (decimal l.number) + length (decimal l.position) + 3
  label_long = omega (arith, length-append (x ++ y) z, length-append x y, ended_length l.maker 46, ended_length l.number 46, ended_length l.position 32)

  pub label_short : length (label_text l) ≤ 19
  label_short = omega (
    arith,
    label_long,
    decimal_most 1 l.maker (omega (arith, w.maker)),
    decimal_ten l.number w.number,
    decimal_most 3 l.position (omega (arith, w.position)),
  )

pub no_maker : {s : List ℕ} {from : ℕ} → ((u p : ℕ) → Ended s from 46 u p → ⊥) → (l : Label) → LabelAt s from l → ⊥
no_maker none l w = none _ _ (maker_ended w)

pub ended_past : {s : List ℕ} {from e v p : ℕ} → Ended s from e v p → p ≤ from + 11
ended_past k = omega (arith, k.past_is, decimal_ten _ k.small)

module _ {s : List ℕ} {from m p : ℕ} (a : Ended s from 46 m p) where
  maker_is : {l : Label} → LabelAt s from l → m ≡ l.maker
  maker_is w = one_ended dot_no_digit a (maker_ended w)

  past_maker : {l : Label} → LabelAt s from l → p ≡ from + length (decimal l.maker) + 1
  past_maker w = a.past_is ∙ ap (λ (v : ℕ). from + length (decimal v) + 1) (maker_is w)

  pub no_number : ((u q : ℕ) → Ended s p 46 u q → ⊥) → (l : Label) → LabelAt s from l → ⊥
  no_number none l w = none _ _ (number_ended w (past_maker w))

  module _ {n q : ℕ} (b : Ended s p 46 n q) where
    number_is : {l : Label} → LabelAt s from l → n ≡ l.number
    number_is w = one_ended dot_no_digit b (number_ended w (past_maker w))

    past_number : {l : Label} → LabelAt s from l → q ≡ from + length (decimal l.maker) + 1 + length (decimal l.number) + 1
    past_number w = omega (arith, b.past_is, past_maker w, ap (λ (v : ℕ). length (decimal v)) (number_is w))

    pub no_position : ((u r : ℕ) → Ended s q 32 u r → ⊥) → (l : Label) → LabelAt s from l → ⊥
    no_position none l w = none _ _ (position_ended w (past_number w))

    module _ {o r : ℕ} (c : Ended s q 32 o r) where
      position_is : {l : Label} → LabelAt s from l → o ≡ l.position
      position_is w = one_ended blank_no_digit c (position_ended w (past_number w))

      pub maker_large : 16 ≤ m → (l : Label) → LabelAt s from l → ⊥
      maker_large h l w = omega (arith, h, maker_is w, w.maker)

      pub position_large : 4096 ≤ o → (l : Label) → LabelAt s from l → ⊥
      position_large h l w = omega (arith, h, position_is w, w.position)

      pub label_found : m < 16 → o < 4096 → {v : ℕ} → v ≡ code (record { maker = m; number = n; position = o }) → CodeAt s from v r
      label_found h k e = record {
        label = record { maker = m; number = n; position = o };
        there = record {
          maker = h;
          number = b.small;
          position = k;
          stands = stands_both (ended m 46 ++ ended n 46) (ended o 32)
              (stands_both (ended m 46) (ended n 46) a.stands (stands_at (let f : p ≡ from + length (ended m 46) = omega (arith, a.past_is, ended_length m 46) in f) b.stands))
              (stands_at (let f : q ≡ from + length (ended m 46 ++ ended n 46) = omega (arith, a.past_is, b.past_is, length-append (ended m 46) (ended n 46), ended_length m 46, ended_length n 46) in f) c.stands);
        };
        code_is = e;
        past_is = omega (
          arith,
          a.past_is,
          b.past_is,
          c.past_is,
          length-append (ended m 46 ++ ended n 46) (ended o 32),
          length-append (ended m 46) (ended n 46),
          ended_length m 46,
          ended_length n 46,
          ended_length o 32,
        );
      }

-- two labels at one place are of one length
same_long : {s : List ℕ} {from : ℕ} {l k : Label} → LabelAt s from l → LabelAt s from k → length (label_text l) ≡ length (label_text k)
same_long {s} {from} {l} {k} v w =
    let a = maker_ended v in
    let b = number_ended v refl in
    let c = position_ended v refl in
    omega (
      arith,
      label_long v,
      label_long w,
      ap (λ (x : ℕ). length (decimal x)) (maker_is a w),
      ap (λ (x : ℕ). length (decimal x)) (number_is a b w),
      ap (λ (x : ℕ). length (decimal x)) (position_is a b c w),
    )

-- CRITICAL
crit_ok : (o : ℕ) (l : Label) → o < 16 → l.maker < 16 → l.number < 2 ^ 32 → l.position < 4096 → third_ok (critical o l) ≡ true
unfolding critical_link label as_type ◌⊕◌ ◌⊗◌ group group_below
crit_ok o l a b c d =
    and_intro (small_ok o 15 (omega arith) (le-leb o 15 (omega arith)))
    (and_intro (small_ok l.maker 15 (omega arith) (le-leb l.maker 15 (omega arith)))
    (and_intro (lt-ltb l.number (2 ^ 32) c) (small_ok l.position 4095 (omega arith) (le-leb l.position 4095 (omega arith)))))

module _ {s : List ℕ} {at o : ℕ} {l : Label} (w : ThirdAt s at (critical o l)) where
  small : LabelSmall o l
  small = label_small o l w.ok

  crit_stands : Stands s at (bytes "crit " ++ ended o 32 ++ label_text l ++ blanks (crit_rest o l))
  crit_stands = stands_is (crit_parts o l w.ok) w.stands

  to_label : Stands s at (bytes "crit " ++ ended o 32 ++ label_text l)
  to_label = stands_left (bytes "crit " ++ ended o 32 ++ label_text l) (blanks (crit_rest o l)) crit_stands

  to_other : Stands s at (bytes "crit " ++ ended o 32)
  to_other = stands_left (bytes "crit " ++ ended o 32) (label_text l) to_label

  pub crit_word : Stands s at (bytes "crit ")
  crit_word = stands_left (bytes "crit ") (ended o 32) to_other

  pub other_ended : Ended s (at + 5) 32 o (at + 5 + length (decimal o) + 1)
  unfolding bytes
  other_ended = record { small = omega (arith, small.other); stands = stands_right (bytes "crit ") (ended o 32) to_other; past_is = refl }

  to_length : length (bytes "crit " ++ ended o 32) ≡ 5 + length (decimal o) + 1
  unfolding bytes
  to_length = omega (arith, length-append (bytes "crit ") (ended o 32), ended_length o 32)

  pub label_there : {p : ℕ} → p ≡ at + 5 + length (decimal o) + 1 → LabelAt s p l
  label_there {p} e = record {
    maker = small.maker;
    number = small.number;
    position = small.position;
    stands = stands_at (let q : at + length (bytes "crit " ++ ended o 32) ≡ p = omega (arith, e, to_length) in q) (stands_right (bytes "crit " ++ ended o 32) (label_text l) to_label);
  }

  pub rest_there : {p : ℕ} → p ≡ at + 5 + length (decimal o) + 1 + length (label_text l) → Stands s p (blanks (at + 48 - p))
  rest_there {p} e =
      let q : at + length (bytes "crit " ++ ended o 32 ++ label_text l) ≡ p = omega (arith, e, length-append (bytes "crit " ++ ended o 32) (label_text l), to_length) in
      let n : crit_rest o l ≡ at + 48 - p = omega (arith, e, crit_long o l w.ok) in
      stands_is (ap blanks n) (stands_at q (stands_right (bytes "crit " ++ ended o 32 ++ label_text l) (blanks (crit_rest o l)) crit_stands))

module _ {s : List ℕ} (at : ℕ) {u p : ℕ} (k : Ended s (at + 5) 32 u p) where
  other_is : {o : ℕ} {l : Label} → ThirdAt s at (critical o l) → u ≡ o
  other_is w = one_ended blank_no_digit k (other_ended w)

  past_other : {o : ℕ} {l : Label} → ThirdAt s at (critical o l) → p ≡ at + 5 + length (decimal o) + 1
  past_other w = k.past_is ∙ ap (λ (v : ℕ). at + 5 + length (decimal v) + 1) (other_is w)

  pub other_large : 16 ≤ u → (o : ℕ) (l : Label) → ThirdAt s at (critical o l) → ⊥
  other_large h o l w = omega (arith, h, other_is w, (label_small o l w.ok).other)

  pub no_label : ((l : Label) → LabelAt s p l → ⊥) → (o : ℕ) (l : Label) → ThirdAt s at (critical o l) → ⊥
  no_label none o l w = none l (label_there w (past_other w))

  pub other_past : u < 16 → p ≤ at + 8
  other_past h = omega (arith, k.past_is, decimal_most 1 u (omega arith))

  module _ {v q : ℕ} (c : CodeAt s p v q) where
    pub label_past : u < 16 → q ≤ at + 27
    label_past h = omega (arith, other_past h, c.past_is, label_short c.there)

    pub crit_other : (Stands s q (blanks (at + 48 - q)) → ⊥) → (o : ℕ) (l : Label) → ThirdAt s at (critical o l) → ⊥
    crit_other filled o l w =
        let here = label_there w (past_other w) in
        filled (rest_there w (omega (arith, c.past_is, past_other w, same_long c.there here)))

    pub crit_found : u < 16 → Stands s at (bytes "crit ") → Stands s q (blanks (at + 48 - q)) → {kind : ℕ} → kind ≡ 2 + 4 * u → LinkAt s at kind v (at + 48)
    crit_found h t b e =
        let l = c.label in
        let there = c.there in
        let ok = crit_ok u l h there.maker there.number there.position in
        let first : length (bytes "crit " ++ ended u 32) ≡ 5 + length (decimal u) + 1 = unfold bytes in (omega (arith, length-append (bytes "crit ") (ended u 32), ended_length u 32)) in
        let two : Stands s at (bytes "crit " ++ ended u 32) = stands_both (bytes "crit ") (ended u 32) t (unfold bytes in k.stands) in
        let three : Stands s at (bytes "crit " ++ ended u 32 ++ label_text l) =
        stands_both (bytes "crit " ++ ended u 32) (label_text l) two (stands_at (let f : p ≡ at + length (bytes "crit " ++ ended u 32) = omega (arith, k.past_is, first) in f) there.stands) in
        let four : Stands s at (bytes "crit " ++ ended u 32 ++ label_text l ++ blanks (crit_rest u l)) =
        stands_both (bytes "crit " ++ ended u 32 ++ label_text l) (blanks (crit_rest u l)) three
        (stands_at (let f : q ≡ at + length (bytes "crit " ++ ended u 32 ++ label_text l) = omega (arith, k.past_is, c.past_is, first, length-append (bytes "crit " ++ ended u 32) (label_text l)) in f)
        (stands_is (ap blanks (let n : at + 48 - q ≡ crit_rest u l = omega (arith, k.past_is, c.past_is, crit_long u l ok) in n)) b)) in
        record {
          third = critical u l;
          there = record { ok = ok; stands = stands_is (sym (crit_parts u l ok)) four };
          kind_is = e;
          link_is = c.code_is;
          past_is = refl;
        }

-- BY THE FIRST LETTER
module _ {s : List ℕ} {at : ℕ} where
  pub only_critical : get_or s at 0 ≡ 99 → ((o : ℕ) (l : Label) → ThirdAt s at (critical o l) → ⊥) → (t : Third) → ThirdAt s at t → ⊥
  only_critical e none free w = omega (arith, e, free_letter w)
  only_critical e none (sewn v) w = omega (arith, e, sewn_letter w)
  only_critical e none (critical o l) w = none o l w

  pub only_sewn : get_or s at 0 ≡ 115 → ((v : ℕ) → ThirdAt s at (sewn v) → ⊥) → (t : Third) → ThirdAt s at t → ⊥
  only_sewn e none free w = omega (arith, e, free_letter w)
  only_sewn e none (sewn v) w = none v w
  only_sewn e none (critical o l) w = omega (arith, e, critical_letter w)

  pub sewn_link : {v past : ℕ} → SewnAt s at v past → LinkAt s at 1 v past
  sewn_link {v} w = record { third = sewn v; there = w.there; kind_is = refl; link_is = refl; past_is = w.past_is }

  pub only_free : (get_or s at 0 ≡ 99 → ⊥) → (get_or s at 0 ≡ 115 → ⊥) → (ThirdAt s at free → ⊥) → (t : Third) → ThirdAt s at t → ⊥
  only_free a b none free w = none w
  only_free a b none (sewn v) w = b (sewn_letter w)
  only_free a b none (critical o l) w = a (critical_letter w)

pub by_critical : (s : List ℕ) (at : ℕ) (r : Option (ℕ × ℕ × ℕ)) → get_or s at 0 ≡ 99 → CriticalRead s at r → ThirdRead s at r
by_critical s at (Some (k, a, past)) e w = w
by_critical s at None e w = only_critical e w
