-- What links reach is the least set that they do not lead out of; an injective map that carries links carries what they reach.
-- Assumes nothing.
use mathlib.Core.Path.{◌≡◌, refl, sym, ◌∙◌}
use mathlib.Core.Logic.{◌⊎◌, inl, inr, ⊎_elim}
use mathlib.Core.Bool.{Bool, true, false, true≢false, not, ◌&&◌, ◌||◌}
use mathlib.Core.List.{List, [], ◌∷◌, ◌++◌, map}
use Prim.Native.Nat.{ℕ, zero, suc, ◌+◌, ◌*◌, ◌<◌, ◌≤◌}
use native.Mathlib.Omega.{arith}
use native.Mathlib.Nat.{not-suc-le-zero}
use lib.Dec.{eqb}
use lib.ListN.{length, length-append}
use borrow.Author.Tests.{eq-eqb}
use Rattle.model.specs.Lists.{keep, mem}
use Rattle.laws.proofs.Tests.{by_cases}
use Rattle.laws.proofs.Members.{In, in_here, in_there, in_cons, in_eq, in_append_left, in_append_right, append_in, in_keep, keep_le, keep_less, keep_twice, keep_cong, map_append}
use Rattle.cells.proofs.Serials.{mem_map}
use Rattle.stats.specs.Pieces.{reached, piece}

pub record Orbit (links : ℕ → List ℕ) (s : ℕ) (v : List ℕ) : Type 1 where
  pub here : In s v
  pub closed : (y z : ℕ) → In y v → In z (links y) → In z v
  pub least : (P : ℕ → Type 0) → P s → ((x z : ℕ) → P x → In z (links x) → P z) → (y : ℕ) → In y v → P y

-- THE FUEL: what is not seen yet gets less
module _ (links : ℕ → List ℕ) (ds : List ℕ) (stays : (x z : ℕ) → In x ds → In z (links x) → In z ds) (three : (x : ℕ) → length (links x) ≡ 3) where
  abbrev unseen : List ℕ → List ℕ
  unseen seen = keep (λ y. not (mem y seen)) ds

  unseen_less : (x : ℕ) (seen : List ℕ) → In x ds → mem x seen ≡ false → length (unseen (x ∷ seen)) < length (unseen seen)
  unseen_less x seen h out =
      let e : unseen (x ∷ seen) ≡ keep (λ y. not (eqb y x)) (unseen seen) =
      sym (keep_twice (λ y. not (eqb y x)) (λ y. not (mem y seen)) ds ∙ keep_cong (λ y. not (mem y seen) && not (eqb y x)) (λ y. not (mem y (x ∷ seen))) ds (λ y k. both (eqb y x) (mem y seen))) in
      rw e (keep_less (λ y. not (eqb y x)) x (unseen seen) (in_keep (λ y. not (mem y seen)) x ds h (rw out)) (rw (eq-eqb x x refl)))
    where
      both : (a b : Bool) → (not b && not a) ≡ not (a || b)
      both true true = refl
      both true false = refl
      both false true = refl
      both false false = refl

  abbrev Either : ℕ → List ℕ → List ℕ → Type 0
  Either y seen todo = In y seen ⊎ In y todo

  record Closed (seen todo r : List ℕ) : Type 0 where
    keeps : (y : ℕ) → Either y seen todo → In y r
    closed : (y z : ℕ) → In y r → In z (links y) → In z r

  reached_closed : (n : ℕ) (seen todo : List ℕ) → ((y : ℕ) → In y todo → In y ds)
      → ((y z : ℕ) → In y seen → In z (links y) → Either z seen todo)
      → 3 * length (unseen seen) + length todo < n → Closed seen todo (reached links n seen todo)
  unfolding reached
  reached_closed zero seen todo sub c fuel = absurd (not-suc-le-zero fuel)
  reached_closed (suc n) seen [] sub c fuel = record { keeps = λ y e. only y seen e; closed = λ y z h k. only z seen (c y z h k) }
    where
      only : (y : ℕ) (s : List ℕ) → Either y s [] → In y s
      only y s (inl h) = h
      only y s (inr h) = absurd (true≢false (sym h))
  reached_closed (suc n) seen (x ∷ todo) sub c fuel = by_cases (mem x seen)
      (λ e. rw e (past e (reached_closed n seen todo (λ y h. sub y (in_there y x todo h)) (λ y z h k. skip e z (c y z h k)) (omega arith))))
      (λ e. let here : In x ds = sub x (in_here x todo) in
      let less = unseen_less x seen here e in
      rw e (on (reached_closed n (x ∷ seen) (links x ++ todo) (new here) grow (omega (arith, length-append (links x) todo, three x)))))
    where
      skip : In x seen → (z : ℕ) → Either z seen (x ∷ todo) → Either z seen todo
      skip e z (inl h) = inl h
      skip e z (inr h) = in_cons z x todo h (λ q. inl (in_eq z x seen q e)) (λ q. inr q)

      past : In x seen → Closed seen todo (reached links n seen todo) → Closed seen (x ∷ todo) (reached links n seen todo)
      past e r = record { keeps = λ y h. r.keeps y (skip e y h); closed = r.closed }

      new : In x ds → (y : ℕ) → In y (links x ++ todo) → In y ds
      new here y h = ⊎_elim (λ k. stays x y here k) (λ k. sub y (in_there y x todo k)) (append_in y (links x) todo h)

      -- what was seen or to do before is so afterwards
      shift : (z : ℕ) → Either z seen (x ∷ todo) → Either z (x ∷ seen) (links x ++ todo)
      shift z (inl h) = inl (in_there z x seen h)
      shift z (inr h) = in_cons z x todo h (λ q. inl (in_eq z x (x ∷ seen) q (in_here x seen))) (λ k. inr (in_append_right z (links x) todo k))

      grow : (y z : ℕ) → In y (x ∷ seen) → In z (links y) → Either z (x ∷ seen) (links x ++ todo)
      grow y z h k = in_cons y x seen h (λ q. inr (in_append_left z (links x) todo (rw q at k))) (λ j. shift z (c y z j k))

      on : Closed (x ∷ seen) (links x ++ todo) (reached links n (x ∷ seen) (links x ++ todo)) → Closed seen (x ∷ todo) (reached links n (x ∷ seen) (links x ++ todo))
      on r = record { keeps = λ y h. r.keeps y (shift y h); closed = r.closed }

-- what is reached lies in every set that links do not lead out of
reached_least : (links : ℕ → List ℕ) (P : ℕ → Type 0) → ((x z : ℕ) → P x → In z (links x) → P z)
    → (n : ℕ) (seen todo : List ℕ) → ((y : ℕ) → In y seen → P y) → ((y : ℕ) → In y todo → P y) → (y : ℕ) → In y (reached links n seen todo) → P y
unfolding reached
reached_least links P step zero seen todo s t y h = s y h
reached_least links P step (suc n) seen [] s t y h = s y h
reached_least links P step (suc n) seen (x ∷ todo) s t y h = by_cases (mem x seen)
    (λ e. reached_least links P step n seen todo s (λ z k. t z (in_there z x todo k)) y (rw e at h))
    (λ e. reached_least links P step n (x ∷ seen) (links x ++ todo) (λ z k. in_cons z x seen k (λ q. rw q px) (s z))
    (λ z k. ⊎_elim (λ j. step x z px j) (λ j. t z (in_there z x todo j)) (append_in z (links x) todo k))
    y (rw e at h))
  where
    px : P x
    px = t x (in_here x todo)

none_in : {C : Type 0} (y : ℕ) → In y [] → C
none_in y h = absurd (true≢false (sym h))

pub orbit_is : (links : ℕ → List ℕ) (ds : List ℕ) → ((x z : ℕ) → In x ds → In z (links x) → In z ds) → ((x : ℕ) → length (links x) ≡ 3) → length ds ≤ 4096
    → (s : ℕ) → In s ds → Orbit links s (piece links s)
unfolding piece
orbit_is links ds stays three small s h = go (reached_closed links ds stays three (4 * 4096) [] (s ∷ []) (λ y k. in_cons y s [] k (λ q. in_eq y s ds q h) (none_in y))
    (λ y z k. none_in y k) (omega (arith, keep_le (λ y. not (mem y [])) ds)))
  where
    go : Closed links ds stays three [] (s ∷ []) (reached links (4 * 4096) [] (s ∷ [])) → Orbit links s (reached links (4 * 4096) [] (s ∷ []))
    go r = record {
      here = r.keeps s (inr (in_here s []));
      closed = r.closed;
      least = λ P ps step. reached_least links P step (4 * 4096) [] (s ∷ []) (λ y. none_in y) (λ y k. in_cons y s [] k (λ q. rw q ps) (none_in y));
    }

-- CARRYING: h turns the links of one numbering into those of another
module _ (D : ℕ → Type 0) (h : ℕ → ℕ) (inj : (x y : ℕ) → D x → D y → h x ≡ h y → x ≡ y) (links links' : ℕ → List ℕ)
    (stays : (x z : ℕ) → D x → In z (links x) → D z) (carry : (x : ℕ) → D x → map h (links x) ≡ links' (h x)) where
  carry_reached : (n : ℕ) (seen todo : List ℕ) → ((y : ℕ) → In y seen → D y) → ((y : ℕ) → In y todo → D y)
      → map h (reached links n seen todo) ≡ reached links' n (map h seen) (map h todo)
  unfolding reached
  carry_reached zero seen todo ds dt = refl
  carry_reached (suc n) seen [] ds dt = refl
  carry_reached (suc n) seen (x ∷ todo) ds dt =
      let dx = dt x (in_here x todo) in
      let rest : (y : ℕ) → In y todo → D y = λ y k. dt y (in_there y x todo k) in
      rw (mem_map h x seen (λ y k. inj x y dx (ds y k)), ← carry x dx, ← map_append h (links x) todo) (by_cases (mem x seen)
      (λ e. rw e (carry_reached n seen todo ds rest))
      (λ e. rw e (carry_reached n (x ∷ seen) (links x ++ todo) (λ y k. in_cons y x seen k (λ q. rw q dx) (ds y))
      (λ y k. ⊎_elim (λ j. stays x y dx j) (rest y) (append_in y (links x) todo k)))))

  pub carry_piece : (x : ℕ) → D x → map h (piece links x) ≡ piece links' (h x)
  unfolding piece
  carry_piece x dx = carry_reached (4 * 4096) [] (x ∷ []) (λ y. none_in y) (λ y k. in_cons y x [] k (λ q. rw q dx) (none_in y))
