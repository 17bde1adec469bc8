-- Links that give darts their third links: which third link each dart has afterwards. Assumes nothing.
use mathlib.Core.Path.{◌≡◌, refl, sym, ◌∙◌, ap}
use mathlib.Core.Logic.{◌⊎◌, inl, inr}
use mathlib.Core.Bool.{true, true≢false, not}
use mathlib.Core.List.{List, [], ◌∷◌, ◌++◌}
use mathlib.Core.Option.{Option, none, some, none-ne-some}
use Prim.Native.Nat.{ℕ, suc, ◌+◌}
use native.Mathlib.Nat.{zero-add, add-zero, suc-add, add-suc}
use lib.Dec.{eqb}
use borrow.Author.Tests.{eq-eqb, ne_eqb}
use Rattle.model.specs.Lists.{concat, mem, distinct, index_of, find}
use Rattle.model.specs.Values.{Third, critical, Dart}
use Rattle.model.specs.Links.{Link, third_or, relink, label_links, label_faces}
use Rattle.laws.proofs.Members.{In, in_here, in_there, in_cons, in_append_left, in_append_right, append_in, distinct_not, distinct_left, distinct_right, distinct_apart, Each, each_append, each_found}
use Rattle.laws.proofs.Tests.{by_cases, and_right, found_key}
use Rattle.agreement.proofs.NewLabels.{fresh_of}

-- each link gives what T says
abbrev pub Gives : List Link → (ℕ → Third) → Type 0
Gives ks t = Each (λ k. k.third ≡ t k.dart) ks

pub relink_gives : (ks : List Link) (t : ℕ → Third) → Gives ks t → (d : Dart)
    → (find (λ k. k.dart) d.serial ks ≡ none → d.third ≡ t d.serial) → (relink ks d).third ≡ t d.serial
unfolding relink
relink_gives ks t a d rest = go (find (λ k. k.dart) d.serial ks) refl
  where
    go : (o : Option Link) → find (λ k. k.dart) d.serial ks ≡ o → third_or d.third (find (λ k. k.dart) d.serial ks) ≡ t d.serial
    go none e = rw e (rest e)
    go (some k) e = rw e (each_found (λ k. k.dart) (λ k. k.third ≡ t k.dart) d.serial ks k a e ∙ ap t (found_key (λ k. k.dart) d.serial ks k e))

-- where links are not found in two lists in a row, they are in neither
pub find_append : (y : ℕ) (ks js : List Link) → find (λ k. k.dart) y (ks ++ js) ≡ none → (find (λ k. k.dart) y ks ≡ none) × (find (λ k. k.dart) y js ≡ none)
find_append y [] js e = (refl, e)
find_append y (k ∷ ks) js e = by_cases (eqb y k.dart)
    (λ h. absurd (none-ne-some k (sym (rw h at e))))
    (λ h. let r = find_append y ks js (rw h at e) in (rw h r.0, r.1))

-- LABELS ALONG FACES
module _ (p : ℕ → ℕ) (T : ℕ → Third) (j i : ℕ) where
  links_agree : (n pos : ℕ) (f : List ℕ) → distinct f ≡ true
      → ((x : ℕ) → In x f → T (p x) ≡ critical j (record { maker = i; number = n; position = pos + index_of x f })) → Gives (label_links p j i n pos f) T
  unfolding label_links index_of
  links_agree n pos [] d h = tt
  links_agree n pos (x ∷ f) d h = (
    sym (rw (eq-eqb x x refl, add-zero) at (h x (in_here x f))),
    links_agree n (suc pos) f (and_right (not (mem x f)) _ d)
        (λ y k. rw (suc-add pos (index_of y f), ← add-suc pos (index_of y f)) (rw (ne_eqb y x (distinct_not x f d y k)) at (h y (in_there y x f k)))),
  )

  pub faces_agree : (c : ℕ) (fs : List (List ℕ)) → distinct (concat fs) ≡ true
      → ((x : ℕ) → In x (concat fs) → T (p x) ≡ critical j (fresh_of i c fs x)) → Gives (label_faces p j i c fs) T
  unfolding label_faces fresh_of concat
  faces_agree c [] d h = tt
  faces_agree c (f ∷ fs) d h = each_append _ (label_links p j i c 0 f) (label_faces p j i (suc c) fs)
      (links_agree c 0 f (distinct_left f (concat fs) d) (λ x k. rw (zero-add (index_of x f)) (rw k at (h x (in_append_left x f (concat fs) k)))))
      (faces_agree (suc c) fs (distinct_right f (concat fs) d) (λ x k. rw (distinct_apart f (concat fs) d x k) at (h x (in_append_right x f (concat fs) k))))

  -- every dart is reached
  links_reach : (n pos : ℕ) (f : List ℕ) (x : ℕ) → In x f → find (λ k. k.dart) (p x) (label_links p j i n pos f) ≡ none → ⊥
  unfolding label_links
  links_reach n pos [] x h e = true≢false (sym h)
  links_reach n pos (y ∷ f) x h e = in_cons x y f h
      (λ q. none-ne-some _ (sym (rw (eq-eqb (p x) (p y) (ap p q)) at e)))
      (λ k. by_cases (eqb (p x) (p y)) (λ g. none-ne-some _ (sym (rw g at e))) (λ g. links_reach n (suc pos) f x k (rw g at e)))

  pub faces_reach : (c : ℕ) (fs : List (List ℕ)) (x : ℕ) → In x (concat fs) → find (λ k. k.dart) (p x) (label_faces p j i c fs) ≡ none → ⊥
  unfolding label_faces concat
  faces_reach c [] x h e = true≢false (sym h)
  faces_reach c (f ∷ fs) x h e = let r = find_append (p x) (label_links p j i c 0 f) (label_faces p j i (suc c) fs) e in go (append_in x f (concat fs) h) r.0 r.1 (faces_reach (suc c) fs x)
    where
      go : In x f ⊎ In x (concat fs) → find (λ k. k.dart) (p x) (label_links p j i c 0 f) ≡ none → find (λ k. k.dart) (p x) (label_faces p j i (suc c) fs) ≡ none
          → (In x (concat fs) → find (λ k. k.dart) (p x) (label_faces p j i (suc c) fs) ≡ none → ⊥) → ⊥
      go (inl a) u v ih = links_reach c 0 f x a u
      go (inr a) u v ih = ih a v
