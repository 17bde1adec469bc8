-- Laws of lists: what is in them, what is kept of them, order and least elements. Assumes nothing.
use mathlib.Core.Path.{◌≡◌, refl, sym, ◌∙◌, ap, subst}
use mathlib.Core.Logic.{◌⊎◌, inl, inr, ◌≢◌}
use mathlib.Core.Bool.{Bool, true, false, true≢false, cond, not, ◌&&◌, ◌||◌}
use mathlib.Core.List.{List, [], ◌∷◌, ◌++◌, map}
use mathlib.Core.Option.{Option, none, some, none-ne-some, some-injective}
use Prim.Native.Nat.{ℕ, zero, suc, ◌<◌, ◌≤◌, min}
use native.Mathlib.Omega.{arith}
use lib.Dec.{leb, ltb, eqb}
use lib.ListN.{length, get_or}
use borrow.Author.Tests.{eqb-true, eqb-false, eq-eqb, ne_eqb, ltb-true, lt-ltb, leb-true, leb-false, not-true}
use Rattle.model.specs.Lists.{all, any, keep, mem, tab, distinct, ascending, find, firsts, more, collect, least, least_from}
use Rattle.laws.proofs.Tests.{by_cases, and_intro, and_left, and_right, not_equal}

-- MEMBERS
abbrev pub In : ℕ → List ℕ → Type 0
In x l = mem x l ≡ true

pub or_left : (a b : Bool) → a ≡ true → (a || b) ≡ true
or_left a b p = rw p

pub or_right : (a b : Bool) → b ≡ true → (a || b) ≡ true
or_right true b p = refl
or_right false b p = p

pub in_here : (x : ℕ) (l : List ℕ) → In x (x ∷ l)
in_here x l = or_left _ _ (eq-eqb x x refl)

pub in_there : (x y : ℕ) (l : List ℕ) → In x l → In x (y ∷ l)
in_there x y l h = or_right (eqb x y) _ h

pub in_keep : (q : ℕ → Bool) (x : ℕ) (l : List ℕ) → In x l → q x ≡ true → In x (keep q l)
in_keep q x [] h p = h
in_keep q x (y ∷ l) h p = by_cases (eqb x y)
    (λ e. rw (← eqb-true x y e, p) (in_here x (keep q l)))
    (λ e. by_cases (q y)
    (λ k. rw k (in_there x y (keep q l) (in_keep q x l (rw e at h) p)))
    (λ k. rw k (in_keep q x l (rw e at h) p)))

pub keep_le : {A : Type 0} (q : A → Bool) (l : List A) → length (keep q l) ≤ length l
keep_le q [] = omega arith
keep_le q (y ∷ l) = by_cases (q y) (λ k. rw k (omega (arith, keep_le q l))) (λ k. rw k (omega (arith, keep_le q l)))

pub keep_less : (q : ℕ → Bool) (x : ℕ) (l : List ℕ) → In x l → q x ≡ false → length (keep q l) < length l
keep_less q x [] h p = absurd (true≢false (sym h))
keep_less q x (y ∷ l) h p = by_cases (eqb x y)
    (λ e. rw (← eqb-true x y e, p) (omega (arith, keep_le q l)))
    (λ e. by_cases (q y)
    (λ k. rw k (omega (arith, keep_less q x l (rw e at h) p)))
    (λ k. rw k (omega (arith, keep_less q x l (rw e at h) p))))

-- n different values in a list: it has at least n elements
pub pigeonhole : (n : ℕ) (g : ℕ → ℕ) (l : List ℕ) → ((k : ℕ) → k < n → In (g k) l) → ((a b : ℕ) → a < b → b < n → g a ≢ g b) → n ≤ length l
pigeonhole zero g l m d = omega arith
pigeonhole (suc n) g l m d =
    let q : ℕ → Bool = λ y. not (eqb y (g n)) in
    let less = keep_less q (g n) l (m n (omega arith)) (rw (eq-eqb (g n) (g n) refl)) in
    let rest = pigeonhole n g (keep q l) (λ k h. in_keep q (g k) l (m k (omega arith)) (rw (ne_eqb (g k) (g n) (d k n h (omega arith))))) (λ a b h k. d a b h (omega arith)) in
    omega arith

pub in_cons {ℓ} : {C : Type ℓ} (y x : ℕ) (l : List ℕ) → In y (x ∷ l) → (y ≡ x → C) → (In y l → C) → C
in_cons y x l h a b = by_cases (eqb y x) (λ e. a (eqb-true y x e)) (λ e. b (rw e at h))

pub in_eq : (y x : ℕ) (l : List ℕ) → y ≡ x → In x l → In y l
in_eq y x l e h = rw e h

-- a test of every element
pub all_in : (p : ℕ → Bool) (l : List ℕ) → all p l ≡ true → (x : ℕ) → In x l → p x ≡ true
all_in p [] a x h = absurd (true≢false (sym h))
all_in p (y ∷ l) a x h = in_cons x y l h (λ e. rw e (and_left (p y) _ a)) (λ k. all_in p l (and_right (p y) _ a) x k)

pub all_from : (p : ℕ → Bool) (l : List ℕ) → ((x : ℕ) → In x l → p x ≡ true) → all p l ≡ true
all_from p [] h = refl
all_from p (y ∷ l) h = and_intro (h y (in_here y l)) (all_from p l (λ x k. h x (in_there x y l k)))

pub any_in : (p : ℕ → Bool) (l : List ℕ) (x : ℕ) → In x l → p x ≡ true → any p l ≡ true
any_in p [] x h t = absurd (true≢false (sym h))
any_in p (y ∷ l) x h t = in_cons x y l h (λ e. or_left (p y) _ (rw e at t)) (λ k. or_right (p y) _ (any_in p l x k t))

pub all_cong : (p q : ℕ → Bool) (l : List ℕ) → ((x : ℕ) → In x l → p x ≡ q x) → all p l ≡ all q l
all_cong p q [] h = refl
all_cong p q (x ∷ l) h = rw (h x (in_here x l), all_cong p q l (λ y k. h y (in_there y x l k)))

-- what is kept
pub keep_in : (q : ℕ → Bool) (l : List ℕ) (x : ℕ) → In x (keep q l) → In x l × (q x ≡ true)
keep_in q [] x h = absurd (true≢false (sym h))
keep_in q (y ∷ l) x h = by_cases (q y)
    (λ e. in_cons x y (keep q l) (rw e at h) (λ k. (in_eq x y (y ∷ l) k (in_here y l), rw k e)) (λ k. let r = keep_in q l x k in (in_there x y l r.0, r.1)))
    (λ e. let r = keep_in q l x (rw e at h) in (in_there x y l r.0, r.1))

pub mem_keep : (q : ℕ → Bool) (x : ℕ) (l : List ℕ) → mem x (keep q l) ≡ (mem x l && q x)
mem_keep q x l = by_cases (mem x (keep q l))
    (λ e. let r = keep_in q l x e in rw (e, r.0, r.1))
    (λ e. by_cases (mem x l)
    (λ a. by_cases (q x) (λ b. absurd (true≢false (sym (in_keep q x l a b) ∙ e))) (λ b. rw (e, a, b)))
    (λ a. rw (e, a)))

-- TWO LISTS IN A ROW
pub in_append_left : (x : ℕ) (l r : List ℕ) → In x l → In x (l ++ r)
in_append_left x [] r h = absurd (true≢false (sym h))
in_append_left x (y ∷ l) r h = in_cons x y l h (λ e. in_eq x y (y ∷ l ++ r) e (in_here y (l ++ r))) (λ k. in_there x y (l ++ r) (in_append_left x l r k))

pub in_append_right : (x : ℕ) (l r : List ℕ) → In x r → In x (l ++ r)
in_append_right x [] r h = h
in_append_right x (y ∷ l) r h = in_there x y (l ++ r) (in_append_right x l r h)

pub append_in : (x : ℕ) (l r : List ℕ) → In x (l ++ r) → In x l ⊎ In x r
append_in x [] r h = inr h
append_in x (y ∷ l) r h = in_cons x y (l ++ r) h (λ e. inl (in_eq x y (y ∷ l) e (in_here y l))) (λ k. go (append_in x l r k))
  where
    go : In x l ⊎ In x r → In x (y ∷ l) ⊎ In x r
    go (inl a) = inl (in_there x y l a)
    go (inr a) = inr a

pub distinct_append : (l r : List ℕ) → distinct l ≡ true → distinct r ≡ true → ((x : ℕ) → In x l → mem x r ≡ false) → distinct (l ++ r) ≡ true
distinct_append [] r a b h = b
distinct_append (y ∷ l) r a b h = and_intro (go (mem y (l ++ r)) refl) (distinct_append l r (and_right (not (mem y l)) _ a) b (λ x k. h x (in_there x y l k)))
  where
    go : (o : Bool) → mem y (l ++ r) ≡ o → not (mem y (l ++ r)) ≡ true
    go false e = rw e
    go true e = absurd (bad (append_in y l r e))
      where
        bad : In y l ⊎ In y r → ⊥
        bad (inl k) = true≢false (sym k ∙ not-true (mem y l) (and_left _ _ a))
        bad (inr k) = true≢false (sym k ∙ h y (in_here y l))

pub distinct_not : (x : ℕ) (l : List ℕ) → distinct (x ∷ l) ≡ true → (y : ℕ) → In y l → y ≢ x
distinct_not x l d y h e = true≢false (sym (in_eq x y l (sym e) h) ∙ not-true (mem x l) (and_left _ _ d))

pub distinct_left : (l r : List ℕ) → distinct (l ++ r) ≡ true → distinct l ≡ true
distinct_left [] r d = refl
distinct_left (x ∷ l) r d = and_intro (go (mem x l) refl) (distinct_left l r (and_right (not (mem x (l ++ r))) _ d))
  where
    go : (o : Bool) → mem x l ≡ o → not (mem x l) ≡ true
    go false e = rw e
    go true e = absurd (distinct_not x (l ++ r) d x (in_append_left x l r e) refl)

pub distinct_right : (l r : List ℕ) → distinct (l ++ r) ≡ true → distinct r ≡ true
distinct_right [] r d = d
distinct_right (x ∷ l) r d = distinct_right l r (and_right (not (mem x (l ++ r))) _ d)

pub distinct_apart : (l r : List ℕ) → distinct (l ++ r) ≡ true → (x : ℕ) → In x r → mem x l ≡ false
distinct_apart [] r d x h = refl
distinct_apart (y ∷ l) r d x h = rw (ne_eqb x y (distinct_not y (l ++ r) d x (in_append_right x l r h))) (distinct_apart l r (and_right (not (mem y (l ++ r))) _ d) x h)

-- ASCENDING LISTS
pub absent : (x : ℕ) (l : List ℕ) → all (ltb x) l ≡ true → (y : ℕ) → In y l → x < y
absent x l a y h = ltb-true x y (all_in (ltb x) l a y h)

pub ascending_unique : (l r : List ℕ) → ascending l ≡ true → ascending r ≡ true → ((x : ℕ) → In x l → In x r) → ((x : ℕ) → In x r → In x l) → l ≡ r
unfolding ascending
ascending_unique [] [] a b f g = refl
ascending_unique [] (y ∷ r) a b f g = absurd (true≢false (sym (g y (in_here y r))))
ascending_unique (x ∷ l) [] a b f g = absurd (true≢false (sym (f x (in_here x l))))
ascending_unique (x ∷ l) (y ∷ r) a b f g =
    rw (← same)
    (ap (λ (t : List ℕ). x ∷ t)
    (ascending_unique l r (and_right (all (ltb x) l) _ a) (and_right (all (ltb y) r) _ b) (λ z h. down z h) (λ z h. up z h)))
  where
    above : (z : ℕ) → In z l → x < z
    above = absent x l (and_left _ _ a)

    over : (z : ℕ) → In z r → y < z
    over = absent y r (and_left _ _ b)

    same : x ≡ y
    same = in_cons x y r (f x (in_here x l)) (λ e. e) (λ k. in_cons y x l (g y (in_here y r)) (λ e. sym e) (λ j. absurd (let p = over x k in let q = above y j in omega arith)))

    down : (z : ℕ) → In z l → In z r
    down z h = in_cons z y r (f z (in_there z x l h)) (λ e. absurd (let p = above z h in omega (arith, same))) (λ k. k)

    up : (z : ℕ) → In z r → In z l
    up z h = in_cons z x l (g z (in_there z y r h)) (λ e. absurd (let p = over z h in omega (arith, same))) (λ k. k)

pub keep_ascending : (q : ℕ → Bool) (l : List ℕ) → ascending l ≡ true → ascending (keep q l) ≡ true
unfolding ascending
keep_ascending q [] a = refl
keep_ascending q (x ∷ l) a =
    let rest = keep_ascending q l (and_right (all (ltb x) l) _ a) in
    by_cases (q x)
    (λ e. rw e (and_intro (all_from (ltb x) (keep q l) (λ y h. lt-ltb x y (absent x l (and_left _ _ a) y (keep_in q l y h).0))) rest))
    (λ e. rw e rest)

pub ascending_distinct : (l : List ℕ) → ascending l ≡ true → distinct l ≡ true
unfolding ascending
ascending_distinct [] a = refl
ascending_distinct (x ∷ l) a = and_intro (go (mem x l) refl) (ascending_distinct l (and_right (all (ltb x) l) _ a))
  where
    go : (o : Bool) → mem x l ≡ o → not (mem x l) ≡ true
    go false e = rw e
    go true e = absurd (let less = absent x l (and_left (all (ltb x) l) _ a) x e in omega arith)

-- LEAST ELEMENTS
-- the least of a list is in it, and below all of it
least_from_in : (m : ℕ) (l : List ℕ) → (least_from m l ≡ m) ⊎ In (least_from m l) l
least_from_in m [] = inl refl
least_from_in m (y ∷ l) = go (least_from_in (min m y) l) (by_cases (leb m y) (λ e. let h = leb-true m y e in inl (omega arith)) (λ e. let h = leb-false m y e in inr (omega arith)))
  where
    go : (least_from (min m y) l ≡ min m y) ⊎ In (least_from (min m y) l) l → (min m y ≡ m) ⊎ (min m y ≡ y) → (least_from (min m y) l ≡ m) ⊎ In (least_from (min m y) l) (y ∷ l)
    go (inl a) (inl b) = inl (a ∙ b)
    go (inl a) (inr b) = inr (in_eq _ y (y ∷ l) (a ∙ b) (in_here y l))
    go (inr a) b = inr (in_there _ y l a)

pub least_in : (x : ℕ) (l : List ℕ) → In (least (x ∷ l)) (x ∷ l)
unfolding least
least_in x l = go (least_from_in x l)
  where
    go : (least_from x l ≡ x) ⊎ In (least_from x l) l → In (least_from x l) (x ∷ l)
    go (inl a) = in_eq _ x (x ∷ l) a (in_here x l)
    go (inr a) = in_there _ x l a

least_from_le : (m : ℕ) (l : List ℕ) → least_from m l ≤ m
least_from_le m [] = omega arith
least_from_le m (y ∷ l) = omega (arith, least_from_le (min m y) l)

least_from_below : (m : ℕ) (l : List ℕ) (x : ℕ) → In x l → least_from m l ≤ x
least_from_below m [] x h = absurd (true≢false (sym h))
least_from_below m (y ∷ l) x h = in_cons x y l h (λ e. omega (arith, least_from_le (min m y) l)) (λ k. least_from_below (min m y) l x k)

pub least_below : (l : List ℕ) (x : ℕ) → In x l → least l ≤ x
unfolding least
least_below [] x h = absurd (true≢false (sym h))
least_below (y ∷ l) x h = in_cons x y l h (λ e. omega (arith, least_from_le y l)) (λ k. least_from_below y l x k)

-- EACH ELEMENT, as a type
abbrev pub Each : {A : Type 0} → (A → Type 0) → List A → Type 0
Each P [] = Unit {0}
Each P (x ∷ xs) = P x × Each P xs

pub each_tab : {A : Type 0} (P : A → Type 0) (f : ℕ → A) (n : ℕ) → ((i : ℕ) → i < n → P (f i)) → Each P (tab f n)
each_tab P f zero h = tt
each_tab P f (suc n) h = (h 0 (omega arith), each_tab P (λ k. f (suc k)) n (λ i l. h (suc i) (omega (arith, l))))

pub each_append : {A : Type 0} (P : A → Type 0) (xs ys : List A) → Each P xs → Each P ys → Each P (xs ++ ys)
each_append P [] ys a b = b
each_append P (x ∷ xs) ys a b = (a.0, each_append P xs ys a.1 b)

pub each_found : {A : Type 0} (key : A → ℕ) (P : A → Type 0) (x : ℕ) (l : List A) (d : A) → Each P l → find key x l ≡ some d → P d
each_found key P x [] d a e = absurd (none-ne-some d e)
each_found key P x (y ∷ l) d a e = by_cases (eqb x (key y))
    (λ h. subst P (some-injective y d (rw h at e)) a.0)
    (λ h. each_found key P x l d a.1 (rw h at e))

-- MAPS
pub all_map : {A B : Type 0} (p : B → Bool) (f : A → B) (l : List A) → all p (map f l) ≡ all (λ x. p (f x)) l
all_map p f [] = refl
all_map p f (x ∷ l) = rw (all_map p f l)

pub any_map : {A B : Type 0} (p : B → Bool) (f : A → B) (l : List A) → any p (map f l) ≡ any (λ x. p (f x)) l
any_map p f [] = refl
any_map p f (x ∷ l) = rw (any_map p f l)

pub keep_map : {A B : Type 0} (p : B → Bool) (f : A → B) (l : List A) → keep p (map f l) ≡ map f (keep (λ x. p (f x)) l)
keep_map p f [] = refl
keep_map p f (x ∷ l) = by_cases (p (f x)) (λ e. rw (e, keep_map p f l)) (λ e. rw (e, keep_map p f l))

pub map_append : {A B : Type 0} (f : A → B) (l r : List A) → map f (l ++ r) ≡ map f l ++ map f r
map_append f [] r = refl
map_append f (x ∷ l) r = ap (λ (t : List _). f x ∷ t) (map_append f l r)

pub map_map : {A B C : Type 0} (f : A → B) (g : B → C) (l : List A) → map g (map f l) ≡ map (λ x. g (f x)) l
map_map f g [] = refl
map_map f g (x ∷ l) = ap (λ (t : List _). g (f x) ∷ t) (map_map f g l)

pub map_cong : {B : Type 0} (f g : ℕ → B) (l : List ℕ) → ((x : ℕ) → In x l → f x ≡ g x) → map f l ≡ map g l
map_cong f g [] h = refl
map_cong f g (x ∷ l) h = rw (h x (in_here x l), map_cong f g l (λ y k. h y (in_there y x l k)))

pub in_map : (f : ℕ → ℕ) (x : ℕ) (l : List ℕ) → In x l → In (f x) (map f l)
in_map f x [] h = h
in_map f x (y ∷ l) h = in_cons x y l h (λ e. in_eq (f x) (f y) (f y ∷ map f l) (ap f e) (in_here (f y) (map f l))) (λ k. in_there (f x) (f y) (map f l) (in_map f x l k))

pub map_in : (f : ℕ → ℕ) (l : List ℕ) (y : ℕ) → In y (map f l) → (x : ℕ) × In x l × (y ≡ f x)
map_in f [] y h = absurd (true≢false (sym h))
map_in f (z ∷ l) y h = by_cases (eqb y (f z))
    (λ e. (z, in_here z l, eqb-true y (f z) e))
    (λ e. let r = map_in f l y (rw e at h) in (r.0, in_there r.0 z l r.1, r.2))

-- exactly two elements pass
pub none_kept : (q : ℕ → Bool) (l : List ℕ) → ((z : ℕ) → In z l → q z ≡ false) → keep q l ≡ []
none_kept q [] h = refl
none_kept q (x ∷ l) h = rw (h x (in_here x l)) (none_kept q l (λ z k. h z (in_there z x l k)))

pub one_kept : (q : ℕ → Bool) (y : ℕ) (l : List ℕ) → distinct l ≡ true → In y l → q y ≡ true → ((z : ℕ) → In z l → q z ≡ true → z ≡ y) → keep q l ≡ y ∷ []
one_kept q y [] d h p only = absurd (true≢false (sym h))
one_kept q y (x ∷ l) d h p only = by_cases (eqb y x)
    (λ e. let same = eqb-true y x e in rw (← same, p) (ap (λ (t : List ℕ). y ∷ t) (none_kept q l (λ z k. go z k (q z) refl same))))
    (λ e. let other : q x ≡ false = not_here (q x) refl (eqb-false y x e) in
    rw other (one_kept q y l (and_right (not (mem x l)) _ d) (rw e at h) p (λ z k. only z (in_there z x l k))))
  where
    go : (z : ℕ) → In z l → (o : Bool) → q z ≡ o → y ≡ x → q z ≡ false
    go z k false e same = e
    go z k true e same = absurd (true≢false (sym (in_eq x z l (sym same ∙ sym (only z (in_there z x l k) e)) k) ∙ not-true (mem x l) (and_left _ _ d)))

    not_here : (o : Bool) → q x ≡ o → (y ≡ x → ⊥) → q x ≡ false
    not_here false e ne = e
    not_here true e ne = absurd (ne (sym (only x (in_here x l) e)))

pub two_kept : (q : ℕ → Bool) (x y : ℕ) (l : List ℕ) → distinct l ≡ true → In x l → In y l → x ≢ y → q x ≡ true → q y ≡ true
    → ((z : ℕ) → In z l → q z ≡ true → (x ≡ z) ⊎ (y ≡ z)) → length (keep q l) ≡ 2
two_kept q x y [] d hx hy ne px py only = absurd (true≢false (sym hx))
two_kept q x y (w ∷ l) d hx hy ne px py only = by_cases (eqb x w)
    (λ e. let same = eqb-true x w e in
    rw (← same, px) (ap suc (ap length (one_kept q y l (and_right (not (mem w l)) _ d) (there y hy (λ s. ne (same ∙ sym s))) py (λ z k p. first z k p same (only z (in_there z w l k) p))))))
    (λ e. by_cases (eqb y w)
    (λ f. let same = eqb-true y w f in
    rw (← same, py) (ap suc (ap length (one_kept q x l (and_right (not (mem w l)) _ d) (there x hx (λ s. ne (s ∙ sym same))) px (λ z k p. second z k p same (only z (in_there z w l k) p))))))
    (λ f. rw (neither (q w) refl (eqb-false x w e) (eqb-false y w f))
    (two_kept q x y l (and_right (not (mem w l)) _ d) (rw e at hx) (rw f at hy) ne px py (λ z k p. only z (in_there z w l k) p))))
  where
    there : (z : ℕ) → In z (w ∷ l) → z ≢ w → In z l
    there z h n = in_cons z w l h (λ s. absurd (n s)) (λ k. k)

    clash : (z : ℕ) → In z l → w ≡ z → ⊥
    clash z k s = true≢false (sym (in_eq w z l s k) ∙ not-true (mem w l) (and_left _ _ d))

    first : (z : ℕ) → In z l → q z ≡ true → x ≡ w → (x ≡ z) ⊎ (y ≡ z) → z ≡ y
    first z k p same (inl s) = absurd (clash z k (sym same ∙ s))
    first z k p same (inr s) = sym s

    second : (z : ℕ) → In z l → q z ≡ true → y ≡ w → (x ≡ z) ⊎ (y ≡ z) → z ≡ x
    second z k p same (inl s) = sym s
    second z k p same (inr s) = absurd (clash z k (sym same ∙ s))

    neither : (o : Bool) → q w ≡ o → x ≢ w → y ≢ w → q w ≡ false
    neither false e a b = e
    neither true e a b = go (only w (in_here w l) e)
      where
        go : (x ≡ w) ⊎ (y ≡ w) → q w ≡ false
        go (inl s) = absurd (a s)
        go (inr s) = absurd (b s)

-- an element stands somewhere
pub in_getD : (l : List ℕ) (x : ℕ) → In x l → (k : ℕ) × (k < length l) × (x ≡ get_or l k 0)
in_getD [] x m = absurd (true≢false (sym m))
in_getD (y ∷ l) x m = in_cons x y l m (λ e. (0, omega arith, e)) (λ k. let r = in_getD l x k in (suc r.0, omega (arith, r.1), r.2))

-- UNDER MAPS AND TESTS, element by element
module _ {A B : Type 0} (P : A → Type 0) where
  pub map_each : (f g : A → B) (l : List A) → Each P l → ((x : A) → P x → f x ≡ g x) → map f l ≡ map g l
  map_each f g [] a h = refl
  map_each f g (x ∷ l) a h = rw (h x a.0) (ap (λ (t : List B). g x ∷ t) (map_each f g l a.1 h))

  -- values that a test decides
  pub collect_each : (g : A → Option B) (c : A → Bool) (e : A → B) (l : List A) → Each P l → ((x : A) → P x → g x ≡ cond (c x) (some (e x)) none) → collect g l ≡ map e (keep c l)
  collect_each g c e [] a h = refl
  collect_each g c e (x ∷ l) a h = by_cases (c x)
      (λ k. rw (h x a.0, k) (ap (λ (t : List B). e x ∷ t) (collect_each g c e l a.1 h)))
      (λ k. rw (h x a.0, k) (collect_each g c e l a.1 h))

pub keep_each : {A : Type 0} (P : A → Type 0) (p q : A → Bool) (l : List A) → Each P l → ((x : A) → P x → p x ≡ q x) → keep p l ≡ keep q l
keep_each P p q [] a h = refl
keep_each P p q (x ∷ l) a h = rw (h x a.0, keep_each P p q l a.1 h)

pub each_kept : {A : Type 0} (P : A → Type 0) (q : A → Bool) (l : List A) → Each P l → Each (λ x. P x × (q x ≡ true)) (keep q l)
each_kept P q [] a = tt
each_kept P q (x ∷ l) a = by_cases (q x) (λ k. rw k ((a.0, k), each_kept P q l a.1)) (λ k. rw k (each_kept P q l a.1))

pub each_map : {B : Type 0} (P : B → Type 0) (f : ℕ → B) (l : List ℕ) → ((x : ℕ) → In x l → P (f x)) → Each P (map f l)
each_map P f [] h = tt
each_map P f (x ∷ l) h = (h x (in_here x l), each_map P f l (λ y k. h y (in_there y x l k)))

pub collect_map : {A B C : Type 0} (f : A → B) (g : B → Option C) (l : List A) → collect g (map f l) ≡ collect (λ x. g (f x)) l
collect_map f g [] = refl
collect_map f g (x ∷ l) = ap (more (g (f x))) (collect_map f g l)

-- by index
pub getD_in : (l : List ℕ) (k : ℕ) → k < length l → In (get_or l k 0) l
getD_in [] k h = absurd (omega arith)
getD_in (x ∷ l) zero h = in_here x l
getD_in (x ∷ l) (suc k) h = in_there (get_or l k 0) x l (getD_in l k (omega arith))

-- the least is there, where anything is
pub least_among : (l : List ℕ) (x : ℕ) → In x l → In (least l) l
least_among [] x h = absurd (true≢false (sym h))
least_among (y ∷ l) x h = least_in y l

-- one element more
pub least_more : (x : ℕ) (l : List ℕ) (y : ℕ) → least_from x (l ++ y ∷ []) ≡ min (least_from x l) y
least_more x [] y = refl
least_more x (z ∷ l) y = least_more (min x z) l y

-- WHAT IS KEPT by tests that agree, by two, by one that always passes
pub keep_cong : (p q : ℕ → Bool) (l : List ℕ) → ((x : ℕ) → In x l → p x ≡ q x) → keep p l ≡ keep q l
keep_cong p q [] h = refl
keep_cong p q (x ∷ l) h = rw (h x (in_here x l), keep_cong p q l (λ y k. h y (in_there y x l k)))

pub keep_twice : (p q : ℕ → Bool) (l : List ℕ) → keep p (keep q l) ≡ keep (λ x. q x && p x) l
keep_twice p q [] = refl
keep_twice p q (x ∷ l) = by_cases (q x)
    (λ e. rw e (by_cases (p x) (λ f. rw (f, keep_twice p q l)) (λ f. rw (f, keep_twice p q l))))
    (λ e. rw e (keep_twice p q l))

pub keep_true : {A : Type 0} (l : List A) → keep (λ a. true) l ≡ l
keep_true [] = refl
keep_true (a ∷ l) = ap (λ (t : List _). a ∷ t) (keep_true l)

-- EACH ONCE: such elements of another list are no more than it has
pub distinct_fewer : (l r : List ℕ) → distinct l ≡ true → ((x : ℕ) → In x l → In x r) → length l ≤ length r
distinct_fewer [] r d h = omega arith
distinct_fewer (x ∷ l) r d h =
    let q : ℕ → Bool = λ y. not (eqb y x) in
    let less = keep_less q x r (h x (in_here x l)) (rw (eq-eqb x x refl)) in
    let rest = distinct_fewer l (keep q r) (and_right (not (mem x l)) _ d) (λ y m. in_keep q y r (h y (in_there y x l m)) (not_equal y x (distinct_not x l d y m))) in
    omega arith

-- under a function that keeps them apart
pub distinct_map : (f : ℕ → ℕ) (l : List ℕ) → distinct l ≡ true → ((x y : ℕ) → In x l → In y l → f x ≡ f y → x ≡ y) → distinct (map f l) ≡ true
distinct_map f [] d h = refl
distinct_map f (x ∷ l) d h = and_intro (go (mem (f x) (map f l)) refl) (distinct_map f l (and_right (not (mem x l)) _ d) (λ a b i j. h a b (in_there a x l i) (in_there b x l j)))
  where
    go : (o : Bool) → mem (f x) (map f l) ≡ o → not (mem (f x) (map f l)) ≡ true
    go false e = rw e
    go true e =
        let r = map_in f l (f x) e in
        absurd (true≢false (sym (in_eq x r.0 l (h x r.0 (in_here x l) (in_there r.0 x l r.1) r.2) r.1) ∙ not-true (mem x l) (and_left _ _ d)))

-- first uses are no more than uses
pub firsts_fewer : (l : List ℕ) → length (firsts l) ≤ length l
unfolding firsts
firsts_fewer [] = omega arith
firsts_fewer (x ∷ l) = let a = keep_le (λ y. not (eqb x y)) (firsts l) in let b = firsts_fewer l in omega arith

-- EACH, over lists
pub each_both : {A : Type 0} {P Q R : A → Type 0} (l : List A) → Each P l → Each Q l → ((x : A) → P x → Q x → R x) → Each R l
each_both [] p q f = tt
each_both (x ∷ l) p q f = (f x p.0 q.0, each_both l p.1 q.1 f)

pub each_weaken : {A : Type 0} {P Q : A → Type 0} (l : List A) → Each P l → ((x : A) → P x → Q x) → Each Q l
each_weaken [] p f = tt
each_weaken (x ∷ l) p f = (f x p.0, each_weaken l p.1 f)

pub each_keep : {A : Type 0} (P : A → Type 0) (q : A → Bool) (l : List A) → Each P l → Each P (keep q l)
each_keep P q [] p = tt
each_keep P q (x ∷ l) p = by_cases (q x) (λ e. rw e (p.0, each_keep P q l p.1)) (λ e. rw e (each_keep P q l p.1))

pub all_each : {A : Type 0} (p : A → Bool) (l : List A) → Each (λ a. p a ≡ true) l → all p l ≡ true
all_each p [] e = refl
all_each p (a ∷ l) e = and_intro e.0 (all_each p l e.1)

pub firsts_have : (y : ℕ) (l : List ℕ) → In y l → In y (firsts l)
unfolding firsts
firsts_have y [] h = h
firsts_have y (x ∷ l) h = by_cases (eqb y x)
    (λ e. in_eq y x (x ∷ keep (λ z. not (eqb x z)) (firsts l)) (eqb-true y x e) (in_here x (keep (λ z. not (eqb x z)) (firsts l))))
    (λ e. in_there y x (keep (λ z. not (eqb x z)) (firsts l)) (in_keep (λ z. not (eqb x z)) y (firsts l) (firsts_have y l (rw e at h)) (not_equal x y (λ q. eqb-false y x e (sym q)))))

pub firsts_only : (y : ℕ) (l : List ℕ) → In y (firsts l) → In y l
unfolding firsts
firsts_only y [] h = h
firsts_only y (x ∷ l) h = in_cons y x (keep (λ z. not (eqb x z)) (firsts l)) h (λ e. in_eq y x (x ∷ l) e (in_here x l))
    (λ k. in_there y x l (firsts_only y l (keep_in (λ z. not (eqb x z)) (firsts l) y k).0))
