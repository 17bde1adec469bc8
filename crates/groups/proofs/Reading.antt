-- Reading a number: one group more, and where a read ends. Assumes nothing.
use Rattle.std.specs.Prelude.{None, Some}
use Rattle.groups.specs.Slices.{MaybeRead}
use mathlib.Core.Path.{◌≡◌, refl, sym, ◌∙◌, ap}
use mathlib.Core.Bool.{Bool, cond}
use mathlib.Core.List.{List}
use mathlib.Core.Option.{Option, none, some}
use Prim.Native.Nat.{ℕ, zero, suc, ◌+◌, ◌*◌, ◌-◌, ◌^◌, ◌<◌, ◌≤◌}
use native.Mathlib.Nat.{mul-add, mul_assoc, add_assoc, mul-le-mul_left, pow-le-pow_right, pow-succ', one-le-pow, le_of_suc-le-suc}
use native.Mathlib.Numerals.{add-one}
use native.Mathlib.Omega.{arith}
use lib.Dec.{leb, ltb, eqb}
use lib.ListN.{length, get_or, drop, length-drop, drop_of_length-le}
use lib.Seq.{drop-cons}
use borrow.Author.Tests.{lt-ltb, le-ltb, le-leb, lt-leb, ne_eqb, eqb-false}
use Rattle.model.specs.Layouts.{then, when, read_groups, group_below, group, such_that, at_most}
use Rattle.laws.proofs.Tests.{by_cases}
use Rattle.groups.specs.Slices.{as_read, read_at, over, kept, number_from}

-- ONE GROUP of the number at a place
pub read_end : (n at : ℕ) (s : List ℕ) → length s ≤ at → read_groups n (drop at s) ≡ none
unfolding read_groups
read_end zero at s h = rw (drop_of_length-le s h)
read_end (suc n) at s h = rw (drop_of_length-le s h)

pub read_last : (n at : ℕ) (s : List ℕ) → at < length s → get_or s at 0 < 128 → read_groups n (drop at s) ≡ some (get_or s at 0, drop (at + 1) s)
unfolding read_groups
read_last zero at s h l = rw (drop-cons s at 0 h, lt-ltb (get_or s at 0) 128 l, add-one)
read_last (suc n) at s h l = rw (drop-cons s at 0 h, lt-ltb (get_or s at 0) 128 l, add-one)

pub read_full : (at : ℕ) (s : List ℕ) → at < length s → 128 ≤ get_or s at 0 → read_groups 0 (drop at s) ≡ none
unfolding read_groups
read_full at s h l = rw (drop-cons s at 0 h, le-ltb (get_or s at 0) 128 l)

pub read_step : (n at : ℕ) (s : List ℕ) → 0 < n → at < length s → 128 ≤ get_or s at 0
    → read_groups n (drop at s) ≡ over (get_or s at 0 - 128) 128 (read_groups (n - 1) (drop (at + 1) s))
unfolding read_groups
read_step zero at s p h l = absurd (omega arith)
read_step (suc n) at s p h l =
    let e : suc n - 1 ≡ n = omega arith in
    rw (e, drop-cons s at 0 h, le-ltb (get_or s at 0) 128 l, add-one)

-- two low parts are one
over_over : (low scale d : ℕ) (r : Option (ℕ × List ℕ)) → over low scale (over d 128 r) ≡ over (low + scale * d) (scale * 128) r
over_over low scale d none = refl
over_over low scale d (some r) = by_cases (eqb r.0 0)
    (λ e. rw e)
    (λ e. let m : low + scale * (d + 128 * r.0) ≡ low + scale * d + scale * 128 * r.0 = rw (mul-add scale d (128 * r.0), mul_assoc scale 128 r.0, add_assoc low (scale * d) (scale * (128 * r.0))) in
    rw (e, ne_eqb (d + 128 * r.0) 0 (λ z. eqb-false r.0 0 e (omega arith)), m))

-- WHERE A VALUE STANDS
pub placed_at : (v at : ℕ) (s : List ℕ) → at < length s → as_read (length s) (some (v, drop (at + 1) s)) ≡ Some (v, (at + 1))
placed_at v at s h = let e : length s - (length s - (at + 1)) ≡ at + 1 = omega arith in rw (length-drop (at + 1) s, e)

pub kept_at : (v at bound : ℕ) (s : List ℕ) → at < length s → as_read (length s) (kept bound (some (v, drop (at + 1) s))) ≡ cond (ltb v bound) (Some (v, (at + 1))) None
kept_at v at bound s h = by_cases (ltb v bound) (λ e. rw e (placed_at v at s h)) (λ e. rw e)

-- WHILE A NUMBER IS READ: the groups read so far, with what is read from p on, give the number
pub record Reading (s : List ℕ) (from first more p low scale left : ℕ) : Type 0 where
  pub small : low < scale
  pub fits : scale * 128 ^ left ≤ 2 ^ 56
  pub same : over first 128 (read_groups more (drop from s)) ≡ over low scale (read_groups left (drop p s))

pub reading_start : (s : List ℕ) (from first more : ℕ) → first < 128 → more < 8 → Reading s from first more from first 128 more
reading_start s from first more h m = record {
  small = h;
  fits = let f : 128 ^ more ≤ 128 ^ 7 = pow-le-pow_right (omega arith) (le_of_suc-le-suc m) in mul-le-mul_left 128 f;
  same = refl;
}

module _ {s : List ℕ} {from first more p low scale left : ℕ} (w : Reading s from first more p low scale left) where
  pub scale_fits : scale ≤ 2 ^ 56
  scale_fits =
      let one : 1 ≤ 128 ^ left = one-le-pow left 128 (omega arith) in
      let t : scale * 1 ≤ scale * 128 ^ left = mul-le-mul_left scale one in
      omega (arith, w.fits, t)

  pub group_fits : (d : ℕ) → d < 128 → scale * d ≤ scale * 127
  group_fits d h = mul-le-mul_left scale (omega arith)

  pub ends_short : (bound : ℕ) → length s ≤ p → None ≡ number_from s from first more bound
  ends_short bound h = rw (w.same, read_end left p s h)

  module _ (bound b : ℕ) (h : p < length s) (e : b ≡ get_or s p 0) where
    pub last_zero : b < 128 → b ≡ 0 → None ≡ number_from s from first more bound
    last_zero l z = rw (w.same, read_last left p s h (omega arith), ← e, z)

    pub last_more : b < 128 → (b ≡ 0 → ⊥) → cond (ltb (low + scale * b) bound) (Some ((low + scale * b), (p + 1))) None ≡ number_from s from first more bound
    last_more l z = rw (w.same, read_last left p s h (omega arith), ← e, ne_eqb b 0 z) (sym (kept_at (low + scale * b) p bound s h))

    pub no_more : 128 ≤ b → left ≡ 0 → None ≡ number_from s from first more bound
    no_more l z = rw (w.same, z, read_full p s h (omega arith))

    pub reading_step : 128 ≤ b → b < 256 → 0 < left → Reading s from first more (p + 1) (low + scale * (b - 128)) (scale * 128) (left - 1)
    reading_step l u z = record {
      small = omega (arith, w.small, group_fits (b - 128) (omega arith));
      fits =
          let f : 128 ^ left ≡ 128 * 128 ^ (left - 1) = let q : left ≡ suc (left - 1) = omega arith in ap (λ (n : ℕ). 128 ^ n) q ∙ pow-succ' 128 (left - 1) in
          rw (mul_assoc scale 128 (128 ^ (left - 1)), ← f) w.fits;
      same = w.same ∙ rw (read_step left p s z h (omega arith), ← e) (over_over low scale (b - 128) (read_groups (left - 1) (drop (p + 1) s)));
    }

-- A NUMBER BELOW A BOUND
module _ (n bound at : ℕ) (s : List ℕ) where
  pub below_end : length s ≤ at → None ≡ read_at (group_below n bound) s at
  unfolding read_at group_below
  below_end h = rw (read_end n at s h)

  module _ (b : ℕ) (h : at < length s) (e : b ≡ get_or s at 0) where
    pub below_last : b < 128 → cond (ltb b bound) (Some (b, (at + 1))) None ≡ read_at (group_below n bound) s at
    unfolding read_at group_below
    below_last l = rw (read_last n at s h (omega arith), ← e) (sym (kept_at b at bound s h))

    pub below_full : 128 ≤ b → n ≡ 0 → None ≡ read_at (group_below n bound) s at
    unfolding read_at group_below
    below_full l z = rw (z, read_full at s h (omega arith))

    pub below_more : 128 ≤ b → 0 < n → number_from s (at + 1) (b - 128) (n - 1) bound ≡ read_at (group_below n bound) s at
    unfolding read_at group_below
    below_more l p = rw (read_step n at s p h (omega arith), ← e)

-- a number in one group, below 2^32 in any case
pub group_one : (b at : ℕ) (s : List ℕ) → at < length s → b ≡ get_or s at 0 → b < 128 → Some (b, (at + 1)) ≡ read_at group s at
unfolding group
group_one b at s h e l = rw (← below_last 4 (2 ^ 32) at s b h e l, lt-ltb b (2 ^ 32) (omega arith))

-- a number that passes a test
abbrev passed : (ℕ → Bool) → MaybeRead → MaybeRead
passed p (Some (v, next)) = cond (p v) (Some (v, next)) None
passed p None = None

passed_at : (n at : ℕ) (s : List ℕ) → passed (λ v. leb v n) (read_at group s at) ≡ read_at (at_most n) s at
unfolding read_at at_most such_that
passed_at n at s = go (group.get (drop at s))
  where
    go : (r : Option (ℕ × List ℕ)) → passed (λ v. leb v n) (as_read (length s) r) ≡ as_read (length s) (then r (λ v rest. when (leb v n) (some (v, rest))))
    go none = refl
    go (some r) = by_cases (leb r.0 n) (λ e. rw e) (λ e. rw e)

module _ (n at : ℕ) (s : List ℕ) where
  pub most_none : None ≡ read_at group s at → None ≡ read_at (at_most n) s at
  most_none e = ap (passed (λ v. leb v n)) e ∙ passed_at n at s

  pub most_within : (v next : ℕ) → Some (v, next) ≡ read_at group s at → v ≤ n → Some (v, next) ≡ read_at (at_most n) s at
  most_within v next e h = rw (← passed_at n at s, ← e, le-leb v n h)

  pub most_over : (v next : ℕ) → Some (v, next) ≡ read_at group s at → n < v → None ≡ read_at (at_most n) s at
  most_over v next e h = rw (← passed_at n at s, ← e, lt-leb v n h)
