-- Laws of volumes: what two links reach is the least set that is closed under both. Assumes nothing.
use mathlib.Core.Path.{◌≡◌, refl, sym, ap}
use mathlib.Core.Logic.{◌⊎◌, inl, inr}
use mathlib.Core.Bool.{Bool, true, false, true≢false, not}
use mathlib.Core.List.{List, [], ◌∷◌}
use Prim.Native.Nat.{ℕ, zero, suc, ◌+◌, ◌*◌, ◌<◌, ◌≤◌}
use native.Mathlib.Omega.{arith}
use native.Mathlib.Nat.{not-suc-le-zero}
use lib.Dec.{eqb}
use lib.ListN.{length}
use borrow.Author.Tests.{eqb-true, eq-eqb}
use Rattle.model.specs.Lists.{keep, mem}
use Rattle.laws.proofs.Tests.{by_cases}
use Rattle.model.specs.Cells.{reach, volume}
use Rattle.laws.proofs.Members.{In, in_here, in_there, in_cons, in_eq, keep_le}

fewer : (q r : ℕ → Bool) → ((y : ℕ) → r y ≡ true → q y ≡ true) → (l : List ℕ) → length (keep r l) ≤ length (keep q l)
fewer q r imp [] = omega arith
fewer q r imp (y ∷ l) = by_cases (r y)
    (λ e. rw (e, imp y e) (omega (arith, fewer q r imp l)))
    (λ e. rw e (by_cases (q y) (λ k. rw k (omega (arith, fewer q r imp l))) (λ k. rw k (fewer q r imp l))))

fewer_still : (q r : ℕ → Bool) → ((y : ℕ) → r y ≡ true → q y ≡ true) → (x : ℕ) → q x ≡ true → r x ≡ false → (l : List ℕ) → In x l → length (keep r l) < length (keep q l)
fewer_still q r imp x yes' not' [] h = absurd (true≢false (sym h))
fewer_still q r imp x yes' not' (y ∷ l) h = by_cases (eqb x y)
    (λ e. rw (← eqb-true x y e, yes', not') (omega (arith, fewer q r imp l)))
    (λ e. let ih = fewer_still q r imp x yes' not' l (rw e at h) in by_cases (r y)
    (λ k. rw (k, imp y k) (omega arith))
    (λ k. rw k (by_cases (q y) (λ j. rw j (omega arith)) (λ j. rw j ih))))

abbrev Either : ℕ → List ℕ → List ℕ → Type 0
Either y seen todo = In y seen ⊎ In y todo

module _ (f g : ℕ → ℕ) (ds : List ℕ) (stays-f : (x : ℕ) → In x ds → In (f x) ds) (stays-g : (x : ℕ) → In x ds → In (g x) ds) where
  abbrev unseen : List ℕ → ℕ
  unseen seen = length (keep (λ y. not (mem y seen)) ds)

  record Res (seen todo r : List ℕ) : Type 0 where
    keeps : (y : ℕ) → Either y seen todo → In y r
    closed_f : (y : ℕ) → In y r → In (f y) r
    closed_g : (y : ℕ) → In y r → In (g y) r

  unseen_less : (x : ℕ) (seen : List ℕ) → In x ds → mem x seen ≡ false → unseen (x ∷ seen) < unseen seen
  unseen_less x seen h part3 = fewer_still (λ y. not (mem y seen)) (λ y. not (mem y (x ∷ seen)))
      (λ y e. by_cases (eqb y x) (λ k. absurd (true≢false (sym (rw k at e)))) (λ k. rw k at e))
      x (rw part3) (rw (eq-eqb x x refl)) ds h

  reach_closed : (n : ℕ) (seen todo : List ℕ) → ((y : ℕ) → In y todo → In y ds)
      → ((y : ℕ) → In y seen → Either (f y) seen todo) → ((y : ℕ) → In y seen → Either (g y) seen todo)
      → 2 * unseen seen + length todo < n → Res seen todo (reach f g n seen todo)
  unfolding reach
  reach_closed zero seen todo sub cf cg fuel = absurd (not-suc-le-zero fuel)
  reach_closed (suc n) seen [] sub cf cg fuel = record {
    keeps = λ y e. drop_empty y seen e;
    closed_f = λ y h. drop_empty (f y) seen (cf y h);
    closed_g = λ y h. drop_empty (g y) seen (cg y h);
  }
    where
      drop_empty : (y : ℕ) (s : List ℕ) → Either y s [] → In y s
      drop_empty y s (inl h) = h
      drop_empty y s (inr h) = absurd (true≢false (sym h))
  reach_closed (suc n) seen (x ∷ todo) sub cf cg fuel = by_cases (mem x seen)
      (λ e. rw e (past e (reach_closed n seen todo (λ y h. sub y (in_there y x todo h)) (λ y h. skip e (f y) (cf y h)) (λ y h. skip e (g y) (cg y h)) (omega arith))))
      (λ e. let here : In x ds = sub x (in_here x todo) in
      let less = unseen_less x seen here e in
      rw e (on (reach_closed n (x ∷ seen) (f x ∷ g x ∷ todo)
      (λ y h. in_new here y h) (λ y h. grow_f y h) (λ y h. grow_g y h) (omega arith))))
    where
      skip : In x seen → (z : ℕ) → Either z seen (x ∷ todo) → Either z seen todo
      skip e z (inl h) = inl h
      skip e z (inr h) = in_cons z x todo h (λ q. inl (in_eq z x seen q e)) (λ q. inr q)

      past : In x seen → Res seen todo (reach f g n seen todo) → Res seen (x ∷ todo) (reach f g n seen todo)
      past e r = record { keeps = λ y h. r.keeps y (skip e y h); closed_f = r.closed_f; closed_g = r.closed_g }

      in_new : In x ds → (y : ℕ) → In y (f x ∷ g x ∷ todo) → In y ds
      in_new here y h = in_cons y (f x) (g x ∷ todo) h (λ q. in_eq y (f x) ds q (stays-f x here))
          (λ k. in_cons y (g x) todo k (λ q. in_eq y (g x) ds q (stays-g x here)) (λ j. sub y (in_there y x todo j)))

      -- what was seen or to do before is so afterwards
      shift : (z : ℕ) → Either z seen (x ∷ todo) → Either z (x ∷ seen) (f x ∷ g x ∷ todo)
      shift z (inl h) = inl (in_there z x seen h)
      shift z (inr h) = in_cons z x todo h (λ q. inl (in_eq z x (x ∷ seen) q (in_here x seen)))
          (λ k. inr (in_there z (f x) (g x ∷ todo) (in_there z (g x) todo k)))

      grow_f : (y : ℕ) → In y (x ∷ seen) → Either (f y) (x ∷ seen) (f x ∷ g x ∷ todo)
      grow_f y h = in_cons y x seen h (λ q. inr (in_eq (f y) (f x) (f x ∷ g x ∷ todo) (ap f q) (in_here (f x) (g x ∷ todo)))) (λ k. shift (f y) (cf y k))

      grow_g : (y : ℕ) → In y (x ∷ seen) → Either (g y) (x ∷ seen) (f x ∷ g x ∷ todo)
      grow_g y h = in_cons y x seen h (λ q. inr (in_eq (g y) (g x) (f x ∷ g x ∷ todo) (ap g q) (in_there (g x) (f x) (g x ∷ todo) (in_here (g x) todo)))) (λ k. shift (g y) (cg y k))

      on : Res (x ∷ seen) (f x ∷ g x ∷ todo) (reach f g n (x ∷ seen) (f x ∷ g x ∷ todo)) → Res seen (x ∷ todo) (reach f g n (x ∷ seen) (f x ∷ g x ∷ todo))
      on r = record { keeps = λ y h. r.keeps y (shift y h); closed_f = r.closed_f; closed_g = r.closed_g }

  -- steps that are left over change nothing
  reach_enough : (n m : ℕ) (seen todo : List ℕ) → ((y : ℕ) → In y todo → In y ds) → 2 * unseen seen + length todo < n → 2 * unseen seen + length todo < m
      → reach f g n seen todo ≡ reach f g m seen todo
  unfolding reach
  reach_enough zero m seen todo sub few many = absurd (not-suc-le-zero few)
  reach_enough (suc n) zero seen todo sub few many = absurd (not-suc-le-zero many)
  reach_enough (suc n) (suc m) seen [] sub few many = refl
  reach_enough (suc n) (suc m) seen (x ∷ todo) sub few many = by_cases (mem x seen)
      (λ e. rw e (reach_enough n m seen todo (λ y h. sub y (in_there y x todo h)) (omega arith) (omega arith)))
      (λ e. let here : In x ds = sub x (in_here x todo) in
      let less = unseen_less x seen here e in
      rw e (reach_enough n m (x ∷ seen) (f x ∷ g x ∷ todo)
      (λ y h. in_cons y (f x) (g x ∷ todo) h (λ q. in_eq y (f x) ds q (stays-f x here))
      (λ k. in_cons y (g x) todo k (λ q. in_eq y (g x) ds q (stays-g x here)) (λ j. sub y (in_there y x todo j)))) (omega arith) (omega arith)))

-- what is reached lies in every set that is closed and holds what was seen and to do
module _ (f g : ℕ → ℕ) (P : ℕ → Type 0) (pf : (x : ℕ) → P x → P (f x)) (pg : (x : ℕ) → P x → P (g x)) where
  pub reach_least : (n : ℕ) (seen todo : List ℕ) → ((y : ℕ) → In y seen → P y) → ((y : ℕ) → In y todo → P y) → (y : ℕ) → In y (reach f g n seen todo) → P y
  unfolding reach
  reach_least zero seen todo s t y h = s y h
  reach_least (suc n) seen [] s t y h = s y h
  reach_least (suc n) seen (x ∷ todo) s t y h = by_cases (mem x seen)
      (λ e. reach_least n seen todo s (λ z k. t z (in_there z x todo k)) y (rw e at h))
      (λ e. reach_least n (x ∷ seen) (f x ∷ g x ∷ todo) (λ z k. in_cons z x seen k (λ q. rw q px) (s z))
      (λ z k. in_cons z (f x) (g x ∷ todo) k (λ q. rw q (pf x px)) (λ j. in_cons z (g x) todo j (λ q. rw q (pg x px)) (λ i. t z (in_there z x todo i))))
      y (rw e at h))
    where
      px : P x
      px = t x (in_here x todo)

pub record Volume (f g : ℕ → ℕ) (s : ℕ) (v : List ℕ) : Type 1 where
  pub here : In s v
  pub closed_f : (y : ℕ) → In y v → In (f y) v
  pub closed_g : (y : ℕ) → In y v → In (g y) v
  pub least : (P : ℕ → Type 0) → P s → ((x : ℕ) → P x → P (f x)) → ((x : ℕ) → P x → P (g x)) → (y : ℕ) → In y v → P y

pub volume_is : (f g : ℕ → ℕ) (ds : List ℕ) → ((x : ℕ) → In x ds → In (f x) ds) → ((x : ℕ) → In x ds → In (g x) ds) → length ds ≤ 4096
    → (s : ℕ) → In s ds → Volume f g s (volume f g s)
unfolding volume
volume_is f g ds sf sg small s h = go (reach_closed f g ds sf sg (3 * 4096) [] (s ∷ []) (λ y k. in_cons y s [] k (λ q. in_eq y s ds q h) (λ j. absurd (true≢false (sym j))))
    (λ y k. absurd (true≢false (sym k))) (λ y k. absurd (true≢false (sym k))) (omega (arith, keep_le (λ y. not (mem y [])) ds)))
  where
    go : Res f g ds sf sg [] (s ∷ []) (reach f g (3 * 4096) [] (s ∷ [])) → Volume f g s (reach f g (3 * 4096) [] (s ∷ []))
    go r = record {
      here = r.keeps s (inr (in_here s []));
      closed_f = r.closed_f;
      closed_g = r.closed_g;
      least = λ P ps pf pg. reach_least f g P pf pg (3 * 4096) [] (s ∷ []) (λ y k. absurd (true≢false (sym k))) (λ y k. in_cons y s [] k (λ q. rw q ps) (λ j. absurd (true≢false (sym j))));
    }

-- so many steps are enough: with more of them the volume is the same
pub volume_enough : (f g : ℕ → ℕ) (ds : List ℕ) → ((x : ℕ) → In x ds → In (f x) ds) → ((x : ℕ) → In x ds → In (g x) ds) → length ds ≤ 4096
    → (n s : ℕ) → 3 * 4096 ≤ n → In s ds → reach f g n [] (s ∷ []) ≡ volume f g s
unfolding volume
volume_enough f g ds sf sg small n s many h =
    let few = keep_le (λ y. not (mem y [])) ds in
    reach_enough f g ds sf sg n (3 * 4096) [] (s ∷ []) (λ y k. in_cons y s [] k (λ q. in_eq y s ds q h) (λ j. absurd (true≢false (sym j)))) (omega arith) (omega arith)
