-- The words of a block's memory after new links were put on some of its darts. Assumes nothing.
use mathlib.Core.Path.{◌≡◌, refl, ◌∙◌}
use mathlib.Core.Bool.{true, false, not}
use mathlib.Core.List.{List, [], ◌∷◌, ◌++◌, map}
use mathlib.Core.Option.{some, none-ne-some, some-injective}
use Prim.Native.Nat.{ℕ, ◌+◌, ◌*◌, ◌≤◌, ◌<◌}
use native.Mathlib.Omega.{arith}
use lib.Dec.{eqb}
use lib.ListN.{length, get_or, set, length-set}
use lib.Seq.{get_or-set_other}
use borrow.Author.Tests.{eqb-true, eqb-false, not-true}
use Rattle.model.specs.Lists.{mem, distinct, find}
use Rattle.model.specs.Image.{kind_word, link_word, column}
use Rattle.model.specs.Links.{Link}
use Rattle.laws.proofs.Tests.{by_cases, and_left, and_right}
use Rattle.laws.proofs.Members.{Each}
use Rattle.memory.proofs.Records.{set_here, set_there}
use Rattle.release.specs.LetGo.{with_link, with_links}

pub links_append : (m : List ℕ) (ks js : List Link) → with_links m (ks ++ js) ≡ with_links (with_links m ks) js
unfolding with_links
links_append m [] js = refl
links_append m (k ∷ ks) js = links_append (with_link m k) ks js

pub length_links : (m : List ℕ) (ks : List Link) → length (with_links m ks) ≡ length m
unfolding with_links
length_links m [] = refl
length_links m (k ∷ ks) = length_links (with_link m k) ks ∙ simp length-set refl

-- a word that no link is put on
pub others_stay : (m : List ℕ) (ks : List Link) (i : ℕ) → Each (λ k. (i ≡ 8 + k.dart * 8 + 3 → ⊥) × (i ≡ 8 + k.dart * 8 + 4 → ⊥)) ks → get_or (with_links m ks) i 0 ≡ get_or m i 0
unfolding with_links
others_stay m [] i a = refl
others_stay m (k ∷ ks) i a = others_stay (with_link m k) ks i a.1
    ∙ get_or-set_other (set m (8 + k.dart * 8 + 3) (kind_word k.third)) (8 + k.dart * 8 + 4) i (link_word [] k.third) 0 a.0.1
    ∙ get_or-set_other m (8 + k.dart * 8 + 3) i (kind_word k.third) 0 a.0.0

each_all : (P : Link → Type 0) → ((k : Link) → P k) → (ks : List Link) → Each P ks
each_all P h [] = tt
each_all P h (k ∷ ks) = (h k, each_all P h ks)

module _ (m : List ℕ) (ks : List Link) where
  pub header_stays : (i : ℕ) → i < 8 → get_or (with_links m ks) i 0 ≡ get_or m i 0
  header_stays i h = others_stay m ks i (each_all _ (λ k. (λ e. omega arith, λ e. omega arith)) ks)

  -- a word other than those of the third link
  pub column_stays : (p f : ℕ) → f < 8 → (f ≡ 3 → ⊥) → (f ≡ 4 → ⊥) → column (with_links m ks) f p ≡ column m f p
  column_stays p f h a b = others_stay m ks (8 + p * 8 + f) (each_all _ (λ k. (λ e. a (omega arith), λ e. b (omega arith))) ks)

-- a dart that has no new link
pub unnamed_stays : (m : List ℕ) (ks : List Link) (p f : ℕ) → f < 8 → mem p (map (λ k. k.dart) ks) ≡ false → column (with_links m ks) f p ≡ column m f p
unnamed_stays m ks p f h a = others_stay m ks (8 + p * 8 + f) (go ks a)
  where
    go : (js : List Link) → mem p (map (λ k. k.dart) js) ≡ false → Each (λ k. (8 + p * 8 + f ≡ 8 + k.dart * 8 + 3 → ⊥) × (8 + p * 8 + f ≡ 8 + k.dart * 8 + 4 → ⊥)) js
    go [] e = tt
    go (k ∷ js) e = by_cases (eqb p k.dart)
        (λ t. absurd (let z : ◌≡◌ {A = ℕ} 0 1 = told (rw t at e) in omega arith))
        (λ t. let ne = eqb-false p k.dart t in ((λ q. ne (omega arith), λ q. ne (omega arith)), go js (rw t at e)))
      where
        told : true ≡ false → ◌≡◌ {A = ℕ} 0 1
        told q = cc

-- a dart with one
pub named : (m : List ℕ) (ks : List Link) (p : ℕ) (k : Link) → distinct (map (λ k. k.dart) ks) ≡ true → find (λ k. k.dart) p ks ≡ some k → 16 + p * 8 ≤ length m
    → (column (with_links m ks) 3 p ≡ kind_word k.third) × (column (with_links m ks) 4 p ≡ link_word [] k.third)
unfolding with_links
named m [] p k d e h = absurd (none-ne-some k e)
named m (l ∷ ks) p k d e h = by_cases (eqb p l.dart)
    (λ t. here (eqb-true p l.dart t) (some-injective l k (rw t at e)))
    (λ t. named (with_link m l) ks p k (and_right (not (mem l.dart (map (λ k. k.dart) ks))) _ d) (rw t at e) (simp length-set h))
  where
    here : p ≡ l.dart → l ≡ k → (column (with_links (with_link m l) ks) 3 p ≡ kind_word k.third) × (column (with_links (with_link m l) ks) 4 p ≡ link_word [] k.third)
    here a b =
        let once : mem p (map (λ k. k.dart) ks) ≡ false = rw a (not-true (mem l.dart (map (λ k. k.dart) ks)) (and_left _ _ d)) in
        rw (← b, a) (
          unnamed_stays (with_link m l) ks l.dart 3 (omega arith) (rw a at once)
              ∙ set_there (set m (8 + l.dart * 8 + 3) (kind_word l.third)) l.dart 4 l.dart 3 (link_word [] l.third) (omega arith) (omega arith) (λ x y. omega arith)
              ∙ set_here m l.dart 3 (kind_word l.third) (omega (arith, a)),
          unnamed_stays (with_link m l) ks l.dart 4 (omega arith) (rw a at once)
              ∙ set_here (set m (8 + l.dart * 8 + 3) (kind_word l.third)) l.dart 4 (link_word [] l.third) (simp length-set (omega (arith, a))),
        )
