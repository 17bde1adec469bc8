-- Rows of a table: what is in a list, what a lookup finds, and the codes of the labels that rows carry. Assumes nothing.
use mathlib.Core.Path.{◌≡◌, refl, sym, ◌∙◌, ap, subst}
use mathlib.Core.Logic.{◌⊎◌, inl, inr, ⊎_elim}
use mathlib.Core.Bool.{Bool, true, false, true≢false, not}
use mathlib.Core.List.{List, [], ◌∷◌, ◌++◌, map}
use mathlib.Core.Option.{Option, none, some, none-ne-some, some-injective}
use Prim.Native.Nat.{ℕ, suc}
use native.Mathlib.Omega.{arith}
use lib.Dec.{eqb}
use borrow.Author.Tests.{eq-eqb, ne_eqb, not-true}
use Rattle.model.specs.Lists.{all, any, mem, distinct, find, more, collect, concat_map}
use Rattle.model.specs.Values.{Third, free, sewn, critical, code, label_key, label_of}
use Rattle.laws.proofs.Members.{In, in_here, in_there, in_cons, in_eq, or_left, or_right, distinct_not, map_append}
use Rattle.laws.proofs.Tests.{by_cases, and_left, and_right}

-- WHAT IS IN A LIST
abbrev pub Elem : {A : Type 0} → A → List A → Type 0
Elem a [] = ⊥
Elem a (x ∷ l) = (a ≡ x) ⊎ Elem a l

module _ {A : Type 0} where
  pub elem_left : (a : A) (l r : List A) → Elem a l → Elem a (l ++ r)
  elem_left a [] r h = absurd h
  elem_left a (x ∷ l) r (inl e) = inl e
  elem_left a (x ∷ l) r (inr k) = inr (elem_left a l r k)

  pub elem_right : (a : A) (l r : List A) → Elem a r → Elem a (l ++ r)
  elem_right a [] r h = h
  elem_right a (x ∷ l) r h = inr (elem_right a l r h)

  pub elem_append : (a : A) (l r : List A) → Elem a (l ++ r) → Elem a l ⊎ Elem a r
  elem_append a [] r h = inr h
  elem_append a (x ∷ l) r (inl e) = inl (inl e)
  elem_append a (x ∷ l) r (inr k) = go (elem_append a l r k)
    where
      go : Elem a l ⊎ Elem a r → Elem a (x ∷ l) ⊎ Elem a r
      go (inl k) = inl (inr k)
      go (inr k) = inr k

  pub all_elem : (p : A → Bool) (l : List A) → all p l ≡ true → (a : A) → Elem a l → p a ≡ true
  all_elem p [] h a k = absurd k
  all_elem p (x ∷ l) h a (inl e) = rw e (and_left (p x) _ h)
  all_elem p (x ∷ l) h a (inr k) = all_elem p l (and_right (p x) _ h) a k

  pub elem_any : (p : A → Bool) (l : List A) (a : A) → Elem a l → p a ≡ true → any p l ≡ true
  elem_any p [] a h e = absurd h
  elem_any p (x ∷ l) a (inl q) e = or_left (p x) _ (rw (← q) e)
  elem_any p (x ∷ l) a (inr k) e = or_right (p x) _ (elem_any p l a k e)

module _ {A B : Type 0} where
  pub elem_map : (f : A → B) (a : A) (l : List A) → Elem a l → Elem (f a) (map f l)
  elem_map f a [] h = h
  elem_map f a (x ∷ l) (inl e) = inl (ap f e)
  elem_map f a (x ∷ l) (inr k) = inr (elem_map f a l k)

  pub map_elem : (f : A → B) (b : B) (l : List A) → Elem b (map f l) → (a : A) × Elem a l × (b ≡ f a)
  map_elem f b [] h = absurd h
  map_elem f b (x ∷ l) (inl e) = (x, inl refl, e)
  map_elem f b (x ∷ l) (inr k) = let r = map_elem f b l k in (r.0, inr r.1, r.2)

  pub elem_concat : (f : A → List B) (b : B) (a : A) (l : List A) → Elem a l → Elem b (f a) → Elem b (concat_map f l)
  elem_concat f b a [] h k = absurd h
  elem_concat f b a (x ∷ l) (inl e) k = elem_left b (f x) (concat_map f l) (subst (λ (y : A). Elem b (f y)) e k)
  elem_concat f b a (x ∷ l) (inr h) k = elem_right b (f x) (concat_map f l) (elem_concat f b a l h k)

  pub concat_elem : (f : A → List B) (b : B) (l : List A) → Elem b (concat_map f l) → (a : A) × Elem a l × Elem b (f a)
  concat_elem f b [] h = absurd h
  concat_elem f b (x ∷ l) h = ⊎_elim (λ k. (x, inl refl, k)) (λ k. let r = concat_elem f b l k in (r.0, inr r.1, r.2)) (elem_append b (f x) (concat_map f l) h)

-- numbers
pub in_elem : (x : ℕ) (l : List ℕ) → In x l → Elem x l
in_elem x [] h = absurd (true≢false (sym h))
in_elem x (y ∷ l) h = in_cons x y l h (λ e. inl e) (λ k. inr (in_elem x l k))

pub elem_in : (x : ℕ) (l : List ℕ) → Elem x l → In x l
elem_in x [] h = absurd h
elem_in x (y ∷ l) (inl e) = in_eq x y (y ∷ l) e (in_here y l)
elem_in x (y ∷ l) (inr k) = in_there x y l (elem_in x l k)

-- not in it: the test says no
pub mem_false : (x : ℕ) (l : List ℕ) → (In x l → ⊥) → mem x l ≡ false
mem_false x l h = by_cases (mem x l) (λ e. absurd (h e)) (λ e. e)

-- LOOKUPS
module _ {A : Type 0} (key : A → ℕ) where
  pub find_elem : (x : ℕ) (l : List A) (a : A) → find key x l ≡ some a → Elem a l
  find_elem x [] a e = absurd (none-ne-some a e)
  find_elem x (y ∷ l) a e = by_cases (eqb x (key y))
      (λ h. inl (sym (some-injective y a (rw h at e))))
      (λ h. inr (find_elem x l a (rw h at e)))

  pub elem_key : (a : A) (l : List A) → Elem a l → In (key a) (map key l)
  elem_key a l h = elem_in (key a) (map key l) (elem_map key a l h)

  -- keys are distinct: each row is found
  pub elem_find : (l : List A) → distinct (map key l) ≡ true → (a : A) → Elem a l → find key (key a) l ≡ some a
  elem_find [] d a h = absurd h
  elem_find (y ∷ l) d a (inl e) = rw (e, eq-eqb (key y) (key y) refl)
  elem_find (y ∷ l) d a (inr k) = rw (ne_eqb (key a) (key y) (distinct_not (key y) (map key l) d (key a) (elem_key a l k))) (elem_find l (and_right (not (mem (key y) (map key l))) _ d) a k)

  pub one_row : (l : List A) → distinct (map key l) ≡ true → (a c : A) → Elem a l → Elem c l → key a ≡ key c → a ≡ c
  one_row l d a c h k e = some-injective a c (sym (elem_find l d a h) ∙ ap (λ (x : ℕ). find key x l) e ∙ elem_find l d c k)

  pub key_row : (x : ℕ) (l : List A) → In x (map key l) → (a : A) × Elem a l × (x ≡ key a)
  key_row x l h = map_elem key x l (in_elem x (map key l) h)

  pub not_found : (x : ℕ) (l : List A) → (In x (map key l) → ⊥) → find key x l ≡ none
  not_found x [] h = refl
  not_found x (y ∷ l) h = by_cases (eqb x (key y))
      (λ e. absurd (h (or_left (eqb x (key y)) _ e)))
      (λ e. rw e (not_found x l (λ k. h (or_right (eqb x (key y)) _ k))))

-- COLLECTED VALUES
module _ {A B : Type 0} (f : A → Option B) where
  more_append : (o : Option B) (l r : List B) → more o (l ++ r) ≡ more o l ++ r
  more_append none l r = refl
  more_append (some b) l r = refl

  pub collect_append : (l r : List A) → collect f (l ++ r) ≡ collect f l ++ collect f r
  collect_append [] r = refl
  collect_append (a ∷ l) r = ap (more (f a)) (collect_append l r) ∙ more_append (f a) (collect f l) (collect f r)

  pub elem_collect : (a : A) (b : B) (l : List A) → Elem a l → f a ≡ some b → Elem b (collect f l)
  elem_collect a b [] h e = absurd h
  elem_collect a b (x ∷ l) (inl q) e = let here : f x ≡ some b = ap f (sym q) ∙ e in rw here (inl refl)
  elem_collect a b (x ∷ l) (inr k) e = skip (f x) (collect f l) (elem_collect a b l k e)
    where
      skip : (o : Option B) (r : List B) → Elem b r → Elem b (more o r)
      skip none r h = h
      skip (some c) r h = inr h

-- CODES OF LABELS
pub zero_not_suc : (v : ℕ) → ◌≡◌ {A = ℕ} 0 (suc v) → ⊥
zero_not_suc v p = omega arith

same_suc : (v w : ℕ) → suc v ≡ suc w → v ≡ w
same_suc v w p = omega arith

module _ {A : Type 0} (third : A → Third) where
  abbrev pub codes : List A → List ℕ
  codes l = map code (collect (λ a. label_of (third a)) l)

  pub codes_append : (l r : List A) → codes (l ++ r) ≡ codes l ++ codes r
  codes_append l r = ap (map code) (collect_append (λ a. label_of (third a)) l r) ∙ map_append code (collect (λ a. label_of (third a)) l) (collect (λ a. label_of (third a)) r)

  codes_step : (a : A) (l : List A) (t : Third) → third a ≡ t → (C : List ℕ → Type 0) → (label_key t ≡ 0 → C (codes l)) → ((v : ℕ) → label_key t ≡ suc v → C (v ∷ codes l)) → C (codes (a ∷ l))
  codes_step a l free e C f g = rw e (f refl)
  codes_step a l (sewn y) e C f g = rw e (f refl)
  codes_step a l (critical o m) e C f g = rw e (g (code m) refl)

  pub elem_codes : (v : ℕ) (l : List A) (a : A) → Elem a l → label_key (third a) ≡ suc v → In v (codes l)
  elem_codes v [] a h e = absurd h
  elem_codes v (x ∷ l) a (inl q) e = codes_step x l (third x) refl (λ (c : List ℕ). In v c)
      (λ z. absurd (zero_not_suc v (sym z ∙ ap (λ (y : A). label_key (third y)) (sym q) ∙ e)))
      (λ w k. in_eq v w (w ∷ codes l) (same_suc v w (sym e ∙ ap (λ (y : A). label_key (third y)) q ∙ k)) (in_here w (codes l)))
  elem_codes v (x ∷ l) a (inr q) e = codes_step x l (third x) refl (λ (c : List ℕ). In v c) (λ z. elem_codes v l a q e) (λ w k. in_there v w (codes l) (elem_codes v l a q e))

  here_and_there : (x : A) (l : List A) (v : ℕ) → distinct (codes (x ∷ l)) ≡ true → label_key (third x) ≡ suc v → In v (codes l) → ⊥
  here_and_there x l v d e h = codes_step x l (third x) refl (λ (c : List ℕ). distinct c ≡ true → ⊥)
      (λ z k. absurd (zero_not_suc v (sym z ∙ e)))
      (λ w q k. true≢false (sym (in_eq w v (codes l) (same_suc w v (sym q ∙ e)) h) ∙ not-true (mem w (codes l)) (and_left _ _ k)))
      d

  tail_distinct : (x : A) (l : List A) → distinct (codes (x ∷ l)) ≡ true → distinct (codes l) ≡ true
  tail_distinct x l d = codes_step x l (third x) refl (λ (c : List ℕ). distinct c ≡ true → distinct (codes l) ≡ true) (λ z k. k) (λ w e k. and_right (not (mem w (codes l))) _ k) d

  -- two rows with one code are one row
  pub codes_one : (key : A → ℕ) (l : List A) → distinct (codes l) ≡ true → (v : ℕ) (a c : A) → Elem a l → Elem c l → label_key (third a) ≡ suc v → label_key (third c) ≡ suc v → key a ≡ key c
  codes_one key [] d v a c h k e f = absurd h
  codes_one key (x ∷ l) d v a c (inl h) (inl k) e f = ap key (h ∙ sym k)
  codes_one key (x ∷ l) d v a c (inl h) (inr k) e f = absurd (here_and_there x l v d (subst (λ (y : A). label_key (third y) ≡ suc v) h e) (elem_codes v l c k f))
  codes_one key (x ∷ l) d v a c (inr h) (inl k) e f = absurd (here_and_there x l v d (subst (λ (y : A). label_key (third y) ≡ suc v) k f) (elem_codes v l a h e))
  codes_one key (x ∷ l) d v a c (inr h) (inr k) e f = codes_one key l (tail_distinct x l d) v a c h k e f
