-- What is measured at a place: a place that no mark is on starts a volume, and its points tell whether it is picked. Assumes nothing.
use mathlib.Core.Path.{◌≡◌, refl, sym, ap, ◌∙◌, subst}
use mathlib.Core.Bool.{Bool, true, false, true≢false, cond, ◌&&◌}
use mathlib.Core.List.{List, [], ◌∷◌, map}
use Prim.Native.Nat.{ℕ, ◌+◌, ◌-◌, ◌<◌}
use native.Mathlib.Omega.{arith}
use lib.Dec.{leb}
use lib.ListN.{length, get_or, length-map}
use borrow.Author.Tests.{le-leb, leb-true}
use Rattle.model.specs.Lists.{any, mem}
use Rattle.model.specs.Values.{Point}
use Rattle.model.specs.Balance.{Oracle, every, box, plane, picks}
use Rattle.model.specs.Image.{column, dart_in}
use Rattle.laws.proofs.Tests.{by_cases, lt_or_ge}
use Rattle.laws.proofs.Members.{In, in_here, in_there, any_in, all_in, all_from, any_map}
use mathlib.Core.Logic.{⊎_elim}
use Rattle.oracle.specs.Oracle.{holds}
use Rattle.cells.specs.Places.{places_in, volume_of}
use Rattle.cells.proofs.Walks.{eq_or_ne, last_or_below}
use Rattle.cells.proofs.Reached.{volume_linked, volume_below, in_places_in, places_in_in}
use Rattle.selection.specs.Picked.{volume_at, is_start, is_picked, picked_size, Walkable, holds_at, SomePicked, Marking, Added, Through, Measures}
use Rattle.selection.proofs.Symmetric.{volume_sym}
use Rattle.selection.proofs.Adding.{volume_away}

-- THE ORACLE by its two tests
and_true : (a : Bool) → a ≡ (a && true)
and_true true = refl
and_true false = refl

pub picks_split : (o : Oracle) (ps : List Point) → 0 < length ps → picks o ps ≡ (any (holds o false) ps && any (holds o true) ps)
unfolding picks
picks_split o [] h = absurd (omega arith)
picks_split every (p ∷ ps) h = refl
picks_split (box low high) (p ∷ ps) h = and_true (any (holds (box low high) false) (p ∷ ps))
picks_split (plane axis value) (p ∷ ps) h = refl

any_none : (t : ℕ → Bool) (l : List ℕ) → ((x : ℕ) → In x l → t x ≡ false) → any t l ≡ false
any_none t [] h = refl
any_none t (x ∷ l) h = rw (h x (in_here x l)) (any_none t l (λ y k. h y (in_there y x l k)))

in_length : (x : ℕ) (l : List ℕ) → In x l → 0 < length l
in_length x [] h = absurd (true≢false (sym h))
in_length x (y ∷ l) h = omega arith

-- some place of the queue's new part passes exactly if some place of the volume does
pub some_any : {n : ℕ} {v m₀ m o : List ℕ} {t₀ t : ℕ} {q : ℕ → Bool} {r : Bool} → Added n v m₀ t₀ m o t → ((y : ℕ) → In y v → y < n) → SomePicked q o t₀ t r → any q (places_in n v) ≡ r
some_any {n} {v} {m₀} {m} {o} {t₀} {t} {q} {r} a inside s = by_cases r
    (λ e. let f = s.found e in
    let i = a.new_in f.0 f.1 f.2 in
    any_in q (places_in n v) (get_or o f.0 0) (in_places_in n v (get_or o f.0 0) (inside _ i) i) f.3 ∙ sym e)
    (λ e. any_none q (places_in n v) (λ x k. let b = a.new_all x (places_in_in n v x k).1 in subst (λ (y : ℕ). q y ≡ false) b.3 (s.nothing e b.0 b.1 b.2)) ∙ sym e)

module _ {m : List ℕ} (o : Oracle) (wk : Walkable m) {p : ℕ} (h : p < get_or m 2 0) {marks order : List ℕ} {tail : ℕ} (th : Through m p marks order tail) where
  abbrev n : ℕ
  n = get_or m 2 0

  abbrev v : List ℕ
  v = volume_of m p

  here : In p v
  here = (volume_linked wk.linked h).here

  inside : (y : ℕ) → In y v → y < n
  inside = volume_below wk.linked h

  -- MARKED BEFORE: p is not the least of its volume
  not_start : get_or marks p 0 ≡ 1 → is_start m p ≡ false
  not_start e =
      let b = th.behind p e in
      let r = volume_sym wk.linked b.0 p (omega (arith, b.1)) b.2 in
      by_cases (is_start m p)
      (λ s. absurd (omega (arith, leb-true p b.0 (all_in (leb p) (volume_at m p) s b.0 (in_places_in n v b.0 (omega (arith, b.1)) r)), b.1)))
      (λ s. s)

  no_size : (is_start m p && is_picked o m p) ≡ false → 0 ≡ picked_size o m p
  unfolding picked_size
  no_size e = rw e refl

  pub measured_none : (get_or marks p 0 ≡ 0 → ⊥) → Measures o m p (record { tail = tail; size = 0 }) marks order
  measured_none e =
      let one : get_or marks p 0 ≡ 1 = eq_or_ne (get_or marks p 0) 0 (λ z. absurd (e z)) (λ z. omega (arith, th.marking.bits p)) in
      record {
        through = record {
          marking = th.marking;
          covered = λ q l. last_or_below l (λ k. rw k one) (th.covered q);
          behind = λ q k. let b = th.behind q k in (b.0, omega (arith, b.1), b.2);
        };
        size_is = no_size (ap (λ (t : Bool). t && is_picked o m p) (not_start one));
      }

  -- A NEW VOLUME
  module _ (clear : get_or marks p 0 ≡ 0) {marks' order' : List ℕ} {tail' : ℕ} (mk : Marking n (column m 1) (column m 2) marks' order' tail') (a : Added n v marks tail marks' order' tail') where
    starts : is_start m p ≡ true
    starts = all_from (leb p) (volume_at m p) (λ y k. le-leb p y (⊎_elim
        (λ l. let z = volume_away wk.linked h th.marking clear y (places_in_in n v y k).1 in absurd (omega (arith, th.covered y l)))
        (λ l. l)
        (lt_or_ge y p)))

    picked_by : {r s : Bool} → any (holds_at o false m) (volume_at m p) ≡ r → any (holds_at o true m) (volume_at m p) ≡ s → is_picked o m p ≡ (r && s)
    picked_by {r} {s} e f =
        picks_split o (map (λ q. (dart_in m q).point) (volume_at m p)) (omega (arith, length-map (volume_at m p) (λ q. (dart_in m q).point), in_length p (volume_at m p) (in_places_in n v p h here)))
        ∙ both (any_map (holds o false) (λ q. (dart_in m q).point) (volume_at m p) ∙ e) (any_map (holds o true) (λ q. (dart_in m q).point) (volume_at m p) ∙ f)
      where
        both : {a b c d : Bool} → a ≡ b → c ≡ d → (a && c) ≡ (b && d)
        both x y = rw (x, y)

    next : Through m (p + 1) marks' order' tail'
    next = record {
      marking = mk;
      covered = λ q l. last_or_below l
          (λ k. rw k (a.mark p ∙ ap (λ (t : Bool). cond t 1 (get_or marks p 0)) here))
          (λ k. a.mark q ∙ by_cases (mem q v) (λ e. rw e) (λ e. rw e (th.covered q k)));
      behind = λ q k. by_cases (mem q v)
          (λ e. (p, omega arith, e))
          (λ e. let b = th.behind q (sym (ap (λ (t : Bool). cond t 1 (get_or marks q 0)) e) ∙ sym (a.mark q) ∙ k) in (b.0, omega (arith, b.1), b.2));
    }

    pub measured_first : {r : Bool} → SomePicked (holds_at o false m) order' tail tail' r → r ≡ false → Measures o m p (record { tail = tail'; size = 0 }) marks' order'
    measured_first {r} s e = record { through = next; size_is = no_size (none (is_start m p) (picked_by (some_any a inside s ∙ e) refl)) }
      where
        none : (b : Bool) {x : Bool} → x ≡ false → (b && x) ≡ false
        none true q = q
        none false q = refl

    module _ {r : Bool} (s : SomePicked (holds_at o false m) order' tail tail' r) (e : r ≡ true) {r' : Bool} (s' : SomePicked (holds_at o true m) order' tail tail' r') where
      picked_is : is_picked o m p ≡ r'
      picked_is = picked_by (some_any a inside s ∙ e) (some_any a inside s')

      pub measured_second : r' ≡ false → Measures o m p (record { tail = tail'; size = 0 }) marks' order'
      measured_second e' = record { through = next; size_is = no_size (none (is_start m p) (picked_is ∙ e')) }
        where
          none : (b : Bool) {x : Bool} → x ≡ false → (b && x) ≡ false
          none true q = q
          none false q = refl

      whole : r' ≡ true → picked_size o m p ≡ length (volume_at m p)
      unfolding picked_size
      whole e' = full (is_start m p && is_picked o m p) (rw (starts, picked_is, e') refl) (length (volume_at m p))
        where
          full : (t : Bool) → t ≡ true → (x : ℕ) → cond t x 0 ≡ x
          full t q x = rw q refl

      pub measured : r' ≡ true → Measures o m p (record { tail = tail'; size = tail' - tail }) marks' order'
      measured e' = record { through = next; size_is = omega (arith, a.size, whole e') }
