-- Writing: one store more, one value after another, and that the count of groups allowed does not matter. Assumes nothing.
use mathlib.Core.Path.{◌≡◌, refl, sym, ◌∙◌, ap}
use mathlib.Core.Bool.{cond}
use mathlib.Core.List.{List, [], ◌∷◌, ◌++◌, append_assoc}
use Prim.Native.Nat.{ℕ, zero, suc, ◌+◌, ◌-◌, ◌*◌, ◌/◌, ◌%◌, ◌^◌, ◌<◌, ◌≤◌}
use native.Mathlib.Nat.{pow-suc}
use native.Mathlib.Numerals.{add-one}
use native.Mathlib.Omega.{arith}
use lib.Dec.{ltb}
use lib.ListN.{length, take, drop, set, length-append, length-set}
use lib.Seq.{sets, set_out, length-sets}
use borrow.Rule.Slice.PartMut.{put_mid, Post-is}
use borrow.Author.Tests.{lt-ltb, le-ltb}
use Rattle.std.proofs.lemmas.List.Edits.{sets-eq}
use Rattle.model.specs.Layouts.{groups}
use Rattle.groups.specs.Slices.{Stored}

-- ONE VALUE AFTER ANOTHER
sets_after : (l : List ℕ) (at : ℕ) (a b : List ℕ) → sets (sets l at a) (at + length a) b ≡ sets l at (a ++ b)
sets_after l at [] b = let e : at + 0 ≡ at = omega arith in rw e
sets_after l at (x ∷ a) b = let e : at + suc (length a) ≡ suc at + length a = omega arith in rw e (sets_after (set l at x) (suc at) a b)

pub stored_then : {l m n a b : List ℕ} {at mid next : ℕ} → Stored l at a m mid → Stored m mid b n next → Stored l at (a ++ b) n next
stored_then {l} {m} {n} {a} {b} {at} {mid} {next} p q = record {
  slice = q.slice ∙ rw (p.slice, p.past) (sets_after l at a b);
  past = let k = length-append a b in omega arith;
}

-- put at once, in a part of the bytes' length
pub stored_part : (l : List ℕ) (at : ℕ) {bytes ys : List ℕ} {next : ℕ} → next ≡ at + length bytes → next ≤ length l → ys ≡ bytes
    → Stored l at bytes (put_mid at (next - at) l ys) next
stored_part l at {bytes} {ys} {next} k h e = record {
  slice =
      ap (λ (z : List ℕ). put_mid at (next - at) l z) e
      ∙ ap (λ (z : List ℕ). take at l ++ (bytes ++ z)) (Post-is at next l (omega arith) ∙ ap (λ (z : ℕ). drop z l) k)
      ∙ sym (sets-eq bytes l at (omega arith) ∙ append_assoc (take at l) bytes _);
  past = k;
}

-- a slice keeps its length
pub stored_length : {l m a : List ℕ} {at next : ℕ} → Stored l at a m next → length m ≡ length l
stored_length {l} {m} {a} {at} p = rw p.slice (length-sets l at a)

-- past the end
sets_outside : (l : List ℕ) (at : ℕ) (b : List ℕ) → length l ≤ at → sets l at b ≡ l
sets_outside l at [] h = refl
sets_outside l at (x ∷ b) h = rw (set_out l at x h) (sets_outside l (suc at) b (omega arith))

pub stored_outside : {l b : List ℕ} {at n : ℕ} → length l ≤ at → n ≡ length b → Stored l at b l (at + n)
stored_outside {l} {b} {at} h e = record { slice = sym (sets_outside l at b h); past = rw e }

-- nothing written
pub stored_none : (l : List ℕ) (at : ℕ) → Stored l at [] l at
stored_none l at = record { slice = refl; past = omega arith }

-- GROUPS: with one more allowed than are needed, they are the same
one_more : (n v : ℕ) → v < 128 ^ suc n → groups n v ≡ groups (suc n) v
unfolding groups
one_more zero v h = rw (lt-ltb v 128 h)
one_more (suc n) v h =
    let e : 128 ^ suc (suc n) ≡ 128 ^ suc n * 128 = pow-suc 128 (suc n) in
    ap (λ (t : List ℕ). cond (ltb v 128) (v ∷ []) ((v % 128 + 128) ∷ t)) (one_more n (v / 128) (omega arith))

pub four_is_eight : (v : ℕ) → v < 2 ^ 32 → groups 8 v ≡ groups 4 v
four_is_eight v h = sym (one_more 4 v (omega arith) ∙ one_more 5 v (omega arith) ∙ one_more 6 v (omega arith) ∙ one_more 7 v (omega arith))

last_group : (v : ℕ) → v < 128 → groups 8 v ≡ v ∷ []
unfolding groups
last_group v h = rw (lt-ltb v 128 h)

next_group : (v : ℕ) → v < 2 ^ 63 → 128 ≤ v → groups 8 v ≡ (v % 128 + 128) ∷ groups 8 (v / 128)
unfolding groups
next_group v b h = rw (le-ltb v 128 h) (ap (λ (t : List ℕ). (v % 128 + 128) ∷ t) (one_more 7 (v / 128) (omega arith)))

-- WHILE A NUMBER IS PUT: what is left of it goes where the next group goes
pub record Putting (before : List ℕ) (at v : ℕ) (out : List ℕ) (p x : ℕ) : Type 0 where
  pub small : x < 2 ^ 63
  pub same_length : length out ≡ length before
  pub end : p + length (groups 8 x) ≡ at + length (groups 8 v)
  pub same : sets out p (groups 8 x) ≡ sets before at (groups 8 v)

pub putting_start : (l : List ℕ) (at v : ℕ) → v < 2 ^ 63 → Putting l at v l at v
putting_start l at v h = record { small = h; same_length = refl; end = refl; same = refl }

module _ {l out : List ℕ} {at v p x : ℕ} (w : Putting l at v out p x) where
  pub put_more : 128 ≤ x → p + suc (length (groups 8 (x / 128))) ≡ at + length (groups 8 v)
  put_more h = rw (next_group x w.small h) at w.end

  pub put_last : x < 128 → p + 1 ≡ at + length (groups 8 v)
  put_last h = rw (last_group x h) at w.end

  pub putting_step : 128 ≤ x → Putting l at v (set out p (x % 128 + 128)) (p + 1) (x / 128)
  putting_step h =
      let e = next_group x w.small h in
      record {
        small = omega (arith, w.small);
        same_length = length-set out p _ ∙ w.same_length;
        end = omega (arith, put_more h);
        same = rw (add-one p) (rw e at w.same);
      }

  pub putting_end : x < 128 → Stored l at (groups 8 v) (set out p x) (p + 1)
  putting_end h = let e = last_group x h in record { slice = rw e at w.same; past = put_last h }

  -- by stores that test for room
  pub stored_step : {m : List ℕ} {next : ℕ} → 128 ≤ x → Stored out p ((x % 128 + 128) ∷ []) m next → Putting l at v m next (x / 128)
  stored_step h s = rw (s.slice, s.past) (putting_step h)

  pub stored_end : {m : List ℕ} {next : ℕ} → x < 128 → Stored out p (x ∷ []) m next → Stored l at (groups 8 v) m next
  stored_end h s = rw (s.slice, s.past) (putting_end h)
