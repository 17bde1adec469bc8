-- The new links of the darts left behind: which darts have one, that each is critical, and the links by serial. Assumes nothing.
use mathlib.Core.Path.{◌≡◌, refl, sym, ap}
use mathlib.Core.Bool.{false}
use mathlib.Core.List.{List, [], ◌∷◌, map}
use mathlib.Core.Option
use mathlib.Core.Option.{none, none-ne-some}
use Prim.Native.Nat.{ℕ, suc}
use lib.Dec.{eqb}
use borrow.Author.Tests.{eqb-true, eqb-false, eq-eqb, ne_eqb}
use Rattle.model.specs.Lists.{mem, concat, find}
use Rattle.model.specs.Values.{Label, critical}
use Rattle.model.specs.Links.{Link, label_links, label_faces}
use Rattle.laws.proofs.Tests.{by_cases}
use Rattle.laws.proofs.Members.{In, in_here, in_there, in_append_left, in_append_right, map_append, Each, each_append}

-- with another name for each dart
abbrev pub renamed : (ℕ → ℕ) → Link → Link
renamed h k = record { dart = h k.dart; third = k.third }

module _ (of : ℕ → ℕ) (j i : ℕ) where
  links_darts : (c a : ℕ) (f : List ℕ) → map (λ k. k.dart) (label_links of j i c a f) ≡ map of f
  unfolding label_links
  links_darts c a [] = refl
  links_darts c a (x ∷ f) = ap (λ (l : List ℕ). of x ∷ l) (links_darts c (suc a) f)

  pub darts_are : (c : ℕ) (fs : List (List ℕ)) → map (λ k. k.dart) (label_faces of j i c fs) ≡ map of (concat fs)
  unfolding label_faces concat
  darts_are c [] = refl
  darts_are c (f ∷ fs) = rw (map_append (λ k. k.dart) (label_links of j i c 0 f) (label_faces of j i (suc c) fs), links_darts c 0 f, darts_are (suc c) fs, map_append of f (concat fs))

  abbrev pub Critical : Link → Type 0
  Critical k = (l : Label) × (k.third ≡ critical j l)

  links_critical : (c a : ℕ) (f : List ℕ) → Each Critical (label_links of j i c a f)
  unfolding label_links
  links_critical c a [] = tt
  links_critical c a (x ∷ f) = ((record { maker = i; number = c; position = a }, refl), links_critical c (suc a) f)

  pub faces_critical : (c : ℕ) (fs : List (List ℕ)) → Each Critical (label_faces of j i c fs)
  unfolding label_faces
  faces_critical c [] = tt
  faces_critical c (f ∷ fs) = each_append Critical (label_links of j i c 0 f) (label_faces of j i (suc c) fs) (links_critical c 0 f) (faces_critical (suc c) fs)

-- BY OTHER NAMES
module _ (h of by : ℕ → ℕ) (j i : ℕ) where
  links_renamed : (c a : ℕ) (f : List ℕ) → ((x : ℕ) → In x f → by (h x) ≡ h (of x)) → label_links by j i c a (map h f) ≡ map (renamed h) (label_links of j i c a f)
  unfolding label_links
  links_renamed c a [] e = refl
  links_renamed c a (x ∷ f) e = rw (e x (in_here x f), links_renamed c (suc a) f (λ y k. e y (in_there y x f k)))

  pub faces_renamed : (c : ℕ) (fs : List (List ℕ)) → ((x : ℕ) → In x (concat fs) → by (h x) ≡ h (of x)) → label_faces by j i c (map (map h) fs) ≡ map (renamed h) (label_faces of j i c fs)
  unfolding label_faces concat
  faces_renamed c [] e = refl
  faces_renamed c (f ∷ fs) e = rw (
    links_renamed c 0 f (λ x k. e x (in_append_left x f (concat fs) k)),
    faces_renamed (suc c) fs (λ x k. e x (in_append_right x f (concat fs) k)),
    map_append (renamed h) (label_links of j i c 0 f) (label_faces of j i (suc c) fs),
  )

-- the link of a dart by its other name, where no other dart has that name
pub find_renamed : (h : ℕ → ℕ) (x : ℕ) (ks : List Link) → ((y : ℕ) → In y (map (λ k. k.dart) ks) → h x ≡ h y → x ≡ y)
    → find (λ k. k.dart) (h x) (map (renamed h) ks) ≡ Option.map (renamed h) (find (λ k. k.dart) x ks)
find_renamed h x [] a = refl
find_renamed h x (k ∷ ks) a = by_cases (eqb x k.dart)
    (λ e. rw (e, eq-eqb (h x) (h k.dart) (ap h (eqb-true x k.dart e))))
    (λ e. rw (e, ne_eqb (h x) (h k.dart) (λ q. eqb-false x k.dart e (a k.dart (in_here k.dart (map (λ k. k.dart) ks)) q)))
    (find_renamed h x ks (λ y m. a y (in_there y k.dart (map (λ k. k.dart) ks) m))))

-- a dart without one
pub find_unnamed : (x : ℕ) (ks : List Link) → find (λ k. k.dart) x ks ≡ none → mem x (map (λ k. k.dart) ks) ≡ false
find_unnamed x [] e = refl
find_unnamed x (k ∷ ks) e = by_cases (eqb x k.dart) (λ t. absurd (none-ne-some k (sym (rw t at e)))) (λ t. rw t (find_unnamed x ks (rw t at e)))
