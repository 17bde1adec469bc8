-- Laws of the layouts: each is lawful, that is, `get` reads what `put` writes and leaves the rest, and reads nothing else.
-- Assumes nothing.
use mathlib.Core.Logic.{◌≢◌}
use mathlib.Core.Path.{◌≡◌, refl, sym, ◌∙◌, ap}
use mathlib.Core.Bool.{Bool, true, false, not, ◌&&◌}
use mathlib.Core.List.{List, [], ◌∷◌, ◌++◌, append_assoc, append-nil}
use mathlib.Core.Option.{none, some, none-ne-some, some-injective, Option}
use Prim.Native.Nat.{ℕ, zero, suc, ◌+◌, ◌*◌, ◌-◌, ◌/◌, ◌%◌, ◌^◌, ◌<◌, ◌≤◌}
use native.Mathlib.Bridge.{le_by_compare, IsLe}
use lib.Dec.{leb, ltb, eqb}
use lib.ListN.{length, get_or}
use borrow.Author.Tests.{eqb-true, eqb-false, eq-eqb, ne_eqb, ltb-true, ltb-false, lt-ltb, le-ltb, not-true}
use native.Mathlib.Omega.{arith}
use native.Mathlib.Nat.{pow-suc, le_trans}
use Rattle.model.specs.Lists.{all}
use Rattle.laws.proofs.Tests.{by_cases, and_left, and_right, and_intro}
use Rattle.model.specs.Values.{serial_bound}
use Rattle.model.specs.Layouts.{Read, then, when, Layout, groups, read_groups, group_below, group, serial, low_bytes, read_bytes, coordinate, ◌⊗◌, ◌⊕◌, as_type, such_that, at_most, exactly, put_all, get_all, times, counted, at_end, ended, whole, framed, of_length, unframed}
use Rattle.model.specs.Demands.{Bytes}

-- WHAT WAS READ
pub same_value : {A : Type 0} {a b : A} {s t : List ℕ} → ◌≡◌ {A = Option (A × List ℕ)} (some (a, s)) (some (b, t)) → a ≡ b
same_value {A} {a} {b} {s} {t} p = ap (λ (r : A × List ℕ). r.0) (some-injective (a, s) (b, t) p)

-- NUMBERS
pub groups_back : (n v : ℕ) (rest : List ℕ) → v < 128 ^ suc n → read_groups n (groups n v ++ rest) ≡ some (v, rest)
unfolding groups read_groups
groups_back zero v rest h = rw (lt-ltb v 128 h)
groups_back (suc n) v rest h = by_cases (ltb v 128)
    (λ e. rw e (rw e))
    (λ e. let big : 128 ≤ v = ltb-false v 128 e in
    let less : v / 128 < 128 ^ suc n = omega (arith, pow-suc 128 (suc n)) in
    let same : v % 128 + 128 - 128 + 128 * (v / 128) ≡ v = omega arith in
    rw e (rw (le-ltb (v % 128 + 128) 128 (omega arith), groups_back n (v / 128) rest less, ne_eqb (v / 128) 0 (λ z. omega arith)) (rw same)))

pub record Lawful {A : Type 0} (l : Layout A) : Type 0 where
  pub back : (a : A) (rest : List ℕ) → l.ok a ≡ true → l.get (l.put a ++ rest) ≡ some (a, rest)
  pub only : (bs : List ℕ) (a : A) (rest : List ℕ) → Bytes bs → l.get bs ≡ some (a, rest) → (bs ≡ l.put a ++ rest) × (l.ok a ≡ true)

pub then_some : {A B : Type 0} (r : Read A) (f : A → List ℕ → Read B) (y : B × List ℕ) → then r f ≡ some y
    → (a : A) × (rest : List ℕ) × (r ≡ some (a, rest)) × (f a rest ≡ some y)
then_some none f y p = absurd (none-ne-some y p)
then_some (some r) f y p = (r.0, r.1, refl, p)

pub when_some : {A : Type 0} (b : Bool) (r : Read A) (y : A × List ℕ) → when b r ≡ some y → (b ≡ true) × (r ≡ some y)
when_some true r y p = (refl, p)
when_some false r y p = absurd (none-ne-some y p)

all_append_right : {A : Type 0} (p : A → Bool) (s t : List A) → all p (s ++ t) ≡ true → all p t ≡ true
all_append_right p [] t h = h
all_append_right p (x ∷ s) t h = all_append_right p s t (and_right (p x) _ h)

pub read_eq : {A : Type 0} {a b : A} {s t : List ℕ} → ◌≡◌ {A = Read A} (some (a, s)) (some (b, t)) → (a ≡ b) × (s ≡ t)
read_eq {A} {a} {b} {s} {t} p = let q = some-injective (a, s) (b, t) p in (ap (λ (r : A × List ℕ). r.0) q, ap (λ (r : A × List ℕ). r.1) q)

-- one group more: the high part w is there and is not 0
groups_step : (n b w : ℕ) → 128 ≤ b → b < 256 → w ≢ 0 → groups (suc n) (b - 128 + 128 * w) ≡ b ∷ groups n w
unfolding groups
groups_step n b w big small pos =
    let hi : (b - 128 + 128 * w) / 128 ≡ w = omega arith in
    let lo : (b - 128 + 128 * w) % 128 + 128 ≡ b = omega arith in
    rw (le-ltb (b - 128 + 128 * w) 128 (omega arith), hi, lo)

groups_only : (n : ℕ) (bs : List ℕ) (v : ℕ) (rest : List ℕ) → Bytes bs → read_groups n bs ≡ some (v, rest) → bs ≡ groups n v ++ rest
unfolding groups read_groups
groups_only zero [] v rest h p = absurd (none-ne-some _ p)
groups_only zero (b ∷ bs) v rest h p = let q = read_eq (when_some (ltb b 128) _ _ p).1 in rw (q.0, q.1)
groups_only (suc n) [] v rest h p = absurd (none-ne-some _ p)
groups_only (suc n) (b ∷ bs) v rest h p = by_cases (ltb b 128)
    (λ e. let q : (b ≡ v) × (bs ≡ rest) = read_eq (rw e at p) in rw (← q.0, e, q.1))
    (λ e. go e (then_some (read_groups n bs) _ _ (rw e at p)) (groups_only n bs))
  where
    go : ltb b 128 ≡ false → (w : ℕ) × (s : List ℕ) × (read_groups n bs ≡ some (w, s)) × (when (not (eqb w 0)) (some (b - 128 + 128 * w, s)) ≡ some (v, rest))
        → ((w : ℕ) (s : List ℕ) → Bytes bs → read_groups n bs ≡ some (w, s) → bs ≡ groups n w ++ s)
        → b ∷ bs ≡ groups (suc n) v ++ rest
    go e t ih =
        let g = when_some (not (eqb t.0 0)) _ _ t.3 in
        let q : (b - 128 + 128 * t.0 ≡ v) × (t.1 ≡ rest) = read_eq g.1 in
        rw (← q.0, ← q.1, groups_step n b t.0 (ltb-false b 128 e) (ltb-true b 256 (and_left (ltb b 256) _ h)) (eqb-false t.0 0 (not-true _ g.0)))
        (ap (λ (l : List ℕ). b ∷ l) (ih t.0 t.1 (and_right (ltb b 256) _ h) t.2))

pub group_below_lawful : (n bound : ℕ) → bound ≤ 128 ^ suc n → Lawful (group_below n bound)
unfolding group_below
group_below_lawful n bound fits = record {
  back = λ v rest o. rw (groups_back n v rest (le_trans (ltb-true v bound o) fits), o);
  only = λ bs v rest h p. keep_value bs v rest h (then_some (read_groups n bs) _ _ p);
}
  where
    keep_value : (bs : List ℕ) (v : ℕ) (rest : List ℕ) → Bytes bs
        → (w : ℕ) × (s : List ℕ) × (read_groups n bs ≡ some (w, s)) × (when (ltb w bound) (some (w, s)) ≡ some (v, rest))
        → (bs ≡ groups n v ++ rest) × (ltb v bound ≡ true)
    keep_value bs v rest h t =
        let g = when_some (ltb t.0 bound) _ _ t.3 in
        let q : (t.0 ≡ v) × (t.1 ≡ rest) = read_eq g.1 in
        (rw (← q.0, ← q.1) (groups_only n bs t.0 t.1 h t.2), rw (← q.0) g.0)

pub group_lawful : Lawful group
unfolding group IsLe
group_lawful = group_below_lawful 4 (2 ^ 32) (le_by_compare _ _ tt)

pub serial_lawful : Lawful serial
unfolding serial IsLe
serial_lawful = group_below_lawful 4 serial_bound (le_by_compare _ _ tt)

bytes_back : (n v : ℕ) (rest : List ℕ) → v < 256 ^ n → read_bytes n (low_bytes n v ++ rest) ≡ some (v, rest)
unfolding low_bytes read_bytes
bytes_back zero v rest h = let z : v ≡ 0 = omega arith in rw z
bytes_back (suc n) v rest h =
    let less : v / 256 < 256 ^ n = omega (arith, pow-suc 256 n) in
    let same : v % 256 + 256 * (v / 256) ≡ v = omega arith in
    rw (bytes_back n (v / 256) rest less) (rw same)

low_bytes_step : (n b w : ℕ) → b < 256 → low_bytes (suc n) (b + 256 * w) ≡ b ∷ low_bytes n w
unfolding low_bytes
low_bytes_step n b w h =
    let hi : (b + 256 * w) / 256 ≡ w = omega arith in
    let lo : (b + 256 * w) % 256 ≡ b = omega arith in
    rw (hi, lo)

bytes_only : (n : ℕ) (bs : List ℕ) (v : ℕ) (rest : List ℕ) → Bytes bs → read_bytes n bs ≡ some (v, rest) → (bs ≡ low_bytes n v ++ rest) × (v < 256 ^ n)
unfolding read_bytes
bytes_only zero bs v rest h p = let q = read_eq p in (unfold low_bytes in q.1, omega (arith, q.0))
bytes_only (suc n) [] v rest h p = absurd (none-ne-some _ p)
bytes_only (suc n) (b ∷ bs) v rest h p = go (then_some (read_bytes n bs) _ _ p) (bytes_only n bs)
  where
    go : (w : ℕ) × (s : List ℕ) × (read_bytes n bs ≡ some (w, s)) × (◌≡◌ {A = Read ℕ} (some (b + 256 * w, s)) (some (v, rest)))
        → ((w : ℕ) (s : List ℕ) → Bytes bs → read_bytes n bs ≡ some (w, s) → (bs ≡ low_bytes n w ++ s) × (w < 256 ^ n))
        → (b ∷ bs ≡ low_bytes (suc n) v ++ rest) × (v < 256 ^ suc n)
    go t ih =
        let q : (b + 256 * t.0 ≡ v) × (t.1 ≡ rest) = read_eq t.3 in
        let small : b < 256 = ltb-true b 256 (and_left (ltb b 256) _ h) in
        let i = ih t.0 t.1 (and_right (ltb b 256) _ h) t.2 in (
          rw (← q.0, ← q.1, low_bytes_step n b t.0 small) (ap (λ (l : List ℕ). b ∷ l) i.0),
          omega (arith, q.0, i.1, pow-suc 256 n),
        )

pub coordinate_lawful : Lawful coordinate
unfolding coordinate
coordinate_lawful = record {
  back = λ v rest o. bytes_back 8 v rest (ltb-true v (2 ^ 64) o);
  only = λ bs v rest h p. let q = bytes_only 8 bs v rest h p in (q.0, lt-ltb v (2 ^ 64) q.1);
}

-- COMBINATORS
module _ {A B : Type 0} where
  pub ⊗-lawful : (l : Layout A) (m : A → Layout B) → Lawful l → ((a : A) → Lawful (m a)) → Lawful (l ⊗ m)
  unfolding ◌⊗◌
  ⊗-lawful l m L M = record {
    back =
        λ p rest o. rw
        (append_assoc (l.put p.0) ((m p.0).put p.1) rest, L.back p.0 ((m p.0).put p.1 ++ rest) (and_left _ _ o), (M p.0).back p.1 rest (and_right (l.ok p.0) _ o));
    only = λ bs p rest h q. first bs p rest h (then_some (l.get bs) _ _ q);
  }
    where
      second : (bs : List ℕ) (p : A × B) (rest : List ℕ) → Bytes bs → (a : A) (s : List ℕ) → l.get bs ≡ some (a, s)
          → (b : B) × (t : List ℕ) × ((m a).get s ≡ some (b, t)) × (◌≡◌ {A = Read (A × B)} (some ((a, b), t)) (some (p, rest)))
          → (bs ≡ l.put p.0 ++ (m p.0).put p.1 ++ rest) × ((l.ok p.0 && (m p.0).ok p.1) ≡ true)
      second bs p rest h a s g t =
          let e = read_eq t.3 in
          let f = L.only bs a s h g in
          let k = (M a).only s t.0 t.1 (all_append_right _ (l.put a) s (rw f.0 at h)) t.2 in (
            rw (← e.0, ← e.1, append_assoc (l.put a) ((m a).put t.0) t.1, ← k.0) f.0,
            rw (← e.0) (and_intro f.1 k.1),
          )

      first : (bs : List ℕ) (p : A × B) (rest : List ℕ) → Bytes bs
          → (a : A) × (s : List ℕ) × (l.get bs ≡ some (a, s)) × (then ((m a).get s) (λ b t. some ((a, b), t)) ≡ some (p, rest))
          → (bs ≡ l.put p.0 ++ (m p.0).put p.1 ++ rest) × ((l.ok p.0 && (m p.0).ok p.1) ≡ true)
      first bs p rest h t = second bs p rest h t.0 t.1 t.2 (then_some ((m t.0).get t.1) _ _ t.3)

  pub as_type_lawful : (to : A → B) (from : B → A) (l : Layout A) → Lawful l → ((b : B) → to (from b) ≡ b) → ((a : A) → l.ok a ≡ true → from (to a) ≡ a)
      → Lawful (as_type to from l)
  unfolding as_type
  as_type_lawful to from l L tf ft = record {
    back = λ b rest o. rw (L.back (from b) rest o, tf b);
    only = λ bs b rest h p. first bs b rest h (then_some (l.get bs) _ _ p);
  }
    where
      first : (bs : List ℕ) (b : B) (rest : List ℕ) → Bytes bs
          → (a : A) × (s : List ℕ) × (l.get bs ≡ some (a, s)) × (◌≡◌ {A = Read B} (some (to a, s)) (some (b, rest)))
          → (bs ≡ l.put (from b) ++ rest) × (l.ok (from b) ≡ true)
      first bs b rest h t =
          let e = read_eq t.3 in
          let f = L.only bs t.0 t.1 h t.2 in
          (rw (← e.0, ft t.0 f.1, ← e.1) f.0, rw (← e.0, ft t.0 f.1) f.1)

module _ {A : Type 0} (l : Layout A) (L : Lawful l) where
  all_back : (v : List A) (rest : List ℕ) → all l.ok v ≡ true → get_all l (length v) (put_all l v ++ rest) ≡ some (v, rest)
  unfolding put_all get_all
  all_back [] rest o = refl
  all_back (a ∷ v) rest o = rw (append_assoc (l.put a) (put_all l v) rest, L.back a (put_all l v ++ rest) (and_left _ _ o), all_back v rest (and_right (l.ok a) _ o))

  abbrev Ind : ℕ → Type 0
  Ind n = (bs : List ℕ) (v : List A) (rest : List ℕ) → Bytes bs → get_all l n bs ≡ some (v, rest)
      → (bs ≡ put_all l v ++ rest) × (length v ≡ n) × (all l.ok v ≡ true)

  all_only : (n : ℕ) → Ind n
  unfolding put_all get_all
  all_only zero bs v rest h p = let q = read_eq p in (rw (← q.0) q.1, ap length (sym q.0), rw (← q.0))
  all_only (suc n) bs v rest h p = first (then_some (l.get bs) _ _ p) (all_only n)
    where
      second : (a : A) (s : List ℕ) → l.get bs ≡ some (a, s) → Ind n
          → (w : List A) × (t : List ℕ) × (get_all l n s ≡ some (w, t)) × (◌≡◌ {A = Read (List A)} (some (a ∷ w, t)) (some (v, rest)))
          → (bs ≡ put_all l v ++ rest) × (length v ≡ suc n) × (all l.ok v ≡ true)
      second a s g ih t =
          let e = read_eq t.3 in
          let f = L.only bs a s h g in
          let k = ih s t.0 t.1 (all_append_right _ (l.put a) s (rw f.0 at h)) t.2 in (
            rw (← e.0, ← e.1, append_assoc (l.put a) (put_all l t.0) t.1, ← k.0) f.0,
            ap length (sym e.0) ∙ ap suc k.1,
            rw (← e.0) (and_intro f.1 k.2),
          )

      first : (a : A) × (s : List ℕ) × (l.get bs ≡ some (a, s)) × (then (get_all l n s) (λ w t. some (a ∷ w, t)) ≡ some (v, rest))
          → Ind n → (bs ≡ put_all l v ++ rest) × (length v ≡ suc n) × (all l.ok v ≡ true)
      first t ih = second t.0 t.1 t.2 ih (then_some (get_all l n t.1) _ _ t.3)

  pub times_lawful : (n : ℕ) → Lawful (times n l)
  unfolding times
  times_lawful n = record {
    back = λ v rest o. rw (← eqb-true (length v) n (and_left _ _ o)) (all_back v rest (and_right (eqb (length v) n) _ o));
    only = λ bs v rest h p. let q = all_only n bs v rest h p in (q.0, and_intro (eq-eqb (length v) n q.1) q.2);
  }

  pub counted_lawful : Lawful (counted l)
  unfolding counted ◌⊗◌ times
  counted_lawful = as_type_lawful (λ p. p.1) (λ v. (length v, v)) _ (⊗-lawful group (λ n. times n l) group_lawful times_lawful) (λ v. refl)
      (λ p o. let e = eqb-true (length p.1) p.0 (and_left (eqb (length p.1) p.0) _ (and_right (group.ok p.0) _ o)) in λ i. (e i, p.1))

module _ {A : Type 0} (l : Layout A) (L : Lawful l) where
  pub such_that_lawful : (p : A → Bool) → Lawful (such_that l p)
  unfolding such_that
  such_that_lawful p = record {
    back = λ v rest o. rw (L.back v rest (and_left _ _ o), and_right (l.ok v) _ o);
    only = λ bs v rest h q. go bs v rest h (then_some (l.get bs) _ _ q);
  }
    where
      go : (bs : List ℕ) (v : A) (rest : List ℕ) → Bytes bs
          → (a : A) × (s : List ℕ) × (l.get bs ≡ some (a, s)) × (when (p a) (some (a, s)) ≡ some (v, rest))
          → (bs ≡ l.put v ++ rest) × ((l.ok v && p v) ≡ true)
      go bs v rest h t =
          let w = when_some (p t.0) _ _ t.3 in
          let e = read_eq w.1 in
          let f = L.only bs t.0 t.1 h t.2 in
          (rw (← e.0, ← e.1) f.0, rw (← e.0) (and_intro f.1 w.0))

module _ {A B : Type 0} where
  pub ⊕-lawful : (l : Layout A) (m : Layout B) → Lawful l → Lawful m → Lawful (l ⊕ m)
  unfolding ◌⊕◌
  ⊕-lawful l m L M = ⊗-lawful l (λ a. m) L (λ a. M)

pub at_most_lawful : (n : ℕ) → Lawful (at_most n)
unfolding at_most
at_most_lawful n = such_that_lawful group group_lawful (λ v. leb v n)

pub exactly_lawful : (n : ℕ) → Lawful (exactly n)
unfolding exactly
exactly_lawful n = such_that_lawful group group_lawful (eqb n)

-- WHOLE FILES AND MESSAGES, to the last byte
ended_some : {A : Type 0} (a b : A) (rest : List ℕ) → ended a rest ≡ some b → (a ≡ b) × (rest ≡ [])
ended_some a b [] e = (some-injective a b e, refl)
ended_some a b (c ∷ rest) e = absurd (none-ne-some b e)

module _ {A : Type 0} (l : Layout A) (L : Lawful l) where
  pub whole_back : (v : A) → l.ok v ≡ true → whole l (l.put v) ≡ some v
  unfolding whole
  whole_back v o = ap at_end (ap l.get (sym (append-nil (l.put v))) ∙ L.back v [] o)

  pub whole_only : (bs : List ℕ) (v : A) → Bytes bs → whole l bs ≡ some v → (bs ≡ l.put v) × (l.ok v ≡ true)
  unfolding whole
  whole_only bs v h e = go (l.get bs) refl e
    where
      go : (o : Read A) → l.get bs ≡ o → at_end o ≡ some v → (bs ≡ l.put v) × (l.ok v ≡ true)
      go none g q = absurd (none-ne-some v q)
      go (some r) g q =
          let a = ended_some r.0 v r.1 q in
          let f = L.only bs r.0 r.1 h g in
          rw (← a.0) (f.0 ∙ ap (λ (t : List ℕ). l.put r.0 ++ t) a.1 ∙ append-nil (l.put r.0), f.1)

  -- what is framed is read back
  pub framed_back : (v : A) → l.ok v ≡ true → group.ok (length (l.put v)) ≡ true → unframed l (framed l v) ≡ some v
  unfolding framed unframed
  framed_back v o n = rw (group_lawful.back (length (l.put v)) (l.put v) n, eq-eqb (length (l.put v)) (length (l.put v)) refl) (whole_back v o)

  -- and what is read was framed
  pub framed_only : (bs : List ℕ) (v : A) → Bytes bs → unframed l bs ≡ some v → (bs ≡ framed l v) × (l.ok v ≡ true)
  unfolding framed unframed
  framed_only bs v h e = go (group.get bs) refl e
    where
      go : (o : Read ℕ) → group.get bs ≡ o → of_length l o ≡ some v → (bs ≡ group.put (length (l.put v)) ++ l.put v) × (l.ok v ≡ true)
      go none g q = absurd (none-ne-some v q)
      go (some r) g q = by_cases (eqb (length r.1) r.0)
          (λ t. let f = group_lawful.only bs r.0 r.1 h g in
          let w = whole_only r.1 v (all_append_right _ (group.put r.0) r.1 (rw f.0 at h)) (rw t at q) in
          let size : r.0 ≡ length (l.put v) = sym (eqb-true (length r.1) r.0 t) ∙ ap length w.0 in
          (f.0 ∙ ap (λ (n : ℕ). group.put n ++ r.1) size ∙ ap (λ (t : List ℕ). group.put (length (l.put v)) ++ t) w.0, w.1))
          (λ t. absurd (none-ne-some v (rw t at q)))

-- a slice of bytes
pub byte_list : (l : List ℕ) → ((i : ℕ) → get_or l i 0 < 256) → Bytes l
byte_list [] h = refl
byte_list (b ∷ l) h = and_intro (lt-ltb b 256 (h 0)) (byte_list l (λ i. h (suc i)))

-- a list that was read has as many as were to be read
pub get_all_length : {A : Type 0} (l : Layout A) (n : ℕ) (bs : List ℕ) (xs : List A) (rest : List ℕ) → get_all l n bs ≡ some (xs, rest) → length xs ≡ n
unfolding get_all
get_all_length l zero bs xs rest e = sym (ap length (same_value e))
get_all_length {A} l (suc n) bs xs rest e =
    let r = then_some (l.get bs) _ _ e in
    let t = then_some (get_all l n r.1) _ _ r.3 in
    sym (ap length (same_value t.3)) ∙ ap suc (get_all_length l n r.1 t.0 t.1 t.2)

-- too few bytes
pub bytes_none : (n : ℕ) (bs : List ℕ) → length bs < n → read_bytes n bs ≡ none
unfolding read_bytes
bytes_none zero bs h = absurd (omega arith)
bytes_none (suc n) [] h = refl
bytes_none (suc n) (b ∷ bs) h = rw (bytes_none n bs (omega arith))
