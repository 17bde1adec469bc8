-- Receive makes of its block what the state after the move describes. Assumes nothing.
use mathlib.Core.Path.{◌≡◌, refl, sym, ◌∙◌, ap}
use mathlib.Core.Logic.{◌⊎◌, inl, inr, ◌≢◌}
use mathlib.Core.Bool.{true, false, true≢false, not}
use mathlib.Core.List.{List, [], ◌∷◌, map}
use mathlib.Core.Option.{Option, none, some, none-ne-some}
use Prim.Native.Nat.{ℕ, zero, suc, ◌+◌, ◌<◌, ◌≤◌}
use native.Mathlib.Omega.{arith}
use lib.Dec.{ltb, eqb}
use lib.ListN.{length}
use borrow.Author.Tests.{eqb-true, eqb-false, eq-eqb, ne_eqb, ltb-true, ltb-false, lt-ltb, not-true}
use Rattle.model.specs.Lists.{all, more, concat_map, zip, mem, distinct, ascending, find, insert}
use Rattle.model.specs.Values.{Third, sewn, Dart}
use Rattle.model.specs.Cells.{around, serials}
use Rattle.model.specs.Messages.{Transfer}
use Rattle.model.specs.Departure.{part3_from}
use Rattle.model.specs.Links.{Placed, placed, Link, label_faces, sew_both}
use Rattle.model.specs.Arrival.{face_serials, placed_faces, face_from, part3_links, insert_all}
use Rattle.model.specs.UndividedRun.{nx, th}
use Rattle.laws.proofs.Members.{In, in_here, in_there, in_cons, in_eq, all_from, absent, Each, each_both, each_weaken}
use Rattle.laws.proofs.Tests.{by_cases, and_intro, and_left, and_right, find_insert}
use Rattle.agreement.proofs.Described.{absent_not_found}
use Rattle.agreement.proofs.Links.{Gives}
use Rattle.agreement.proofs.Rebuilt.{face_dart_of}
use Rattle.agreement.proofs.Rings.{turn}

-- FACES BY THE INDEX OF THEIR START
pub placed_low : (a : ℕ) (fs : List (List ℕ)) → Each (λ q. a ≤ q.at) (placed a fs)
unfolding placed
placed_low a [] = tt
placed_low a (f ∷ fs) = (omega arith, each_weaken (placed (a + length f) fs) (placed_low (a + length f) fs) (λ q h. omega arith))

pub placed_find : (a : ℕ) (fs : List (List ℕ)) → Each (λ f. 0 < length f) fs → Each (λ q. find (λ p. p.at) q.at (placed a fs) ≡ some q) (placed a fs)
unfolding placed
placed_find a [] n = tt
placed_find a (f ∷ fs) n = (
  rw (eq-eqb a a refl),
  each_both (placed (a + length f) fs) (placed_low (a + length f) fs) (placed_find (a + length f) fs n.1)
      (λ q low found. let some_dart : 0 < length f = n.0 in rw (ne_eqb q.at a (λ e. omega arith)) found),
)

serials_back : (nx number : ℕ → ℕ) (f : List ℕ) → face_serials (map (face_dart_of nx number) f) ≡ f
serials_back nx number [] = refl
serials_back nx number (x ∷ f) = ap (λ (l : List ℕ). x ∷ l) (serials_back nx number f)

pub faces_back : (nx number : ℕ → ℕ) (fs : List (List ℕ)) → map face_serials (map (λ f. map (face_dart_of nx number) f) fs) ≡ fs
faces_back nx number [] = refl
faces_back nx number (f ∷ fs) = rw (serials_back nx number f, faces_back nx number fs)

pub face_again : (nx number : ℕ → ℕ) (t : Transfer) (fs : List (List ℕ)) → t.faces ≡ map (λ f. map (face_dart_of nx number) f) fs → Each (λ f. 0 < length f) fs
    → Each (λ q. face_from t q.at ≡ q.face) (placed 0 fs)
unfolding face_from placed_faces
face_again nx number t fs e n = each_weaken (placed 0 fs) (placed_find 0 fs n) (λ q h. rw (e, faces_back nx number fs, h))

-- PART 3: the labels that release uses too
pub part3_is : (t : Transfer) (c : ℕ) (ps : List Placed) → Each (λ q. face_from t q.at ≡ q.face) ps
    → concat_map (part3_links t) (part3_from c (map (λ p. p.at) ps)) ≡ label_faces (λ x. x) t.from t.from c (map (λ p. p.face) ps)
unfolding part3_links part3_from label_faces
part3_is t c [] h = refl
part3_is t c (p ∷ ps) h = rw (h.0, part3_is t (suc c) ps h.1)

-- PART 2: a map that turns one step into another turns the cycle
pub around_map : (f g h : ℕ → ℕ) (P : ℕ → Type 0) → ((x : ℕ) → P x → P (f x)) → ((x : ℕ) → P x → g (h x) ≡ h (f x)) → ((x y : ℕ) → P x → P y → h x ≡ h y → x ≡ y)
    → (s n x : ℕ) → P s → P x → around g (h s) n (h x) ≡ map h (around f s n x)
unfolding around
around_map f g h P pf turn inj s zero x ps px = refl
around_map f g h P pf turn inj s (suc n) x ps px = rw (turn x px, around_map f g h P pf turn inj s n (f x) ps (pf x px)) (by_cases (eqb (f x) s)
    (λ e. rw (e, eq-eqb (h (f x)) (h s) (ap h (eqb-true (f x) s e))))
    (λ e. rw (e, ne_eqb (h (f x)) (h s) (λ q. eqb-false (f x) s e (inj (f x) s (pf x px) ps q)))))

pub sew_gives : (th : ℕ → ℕ) (T : ℕ → Third) (f : List ℕ) → ((x : ℕ) → In x f → (T x ≡ sewn (th x)) × (T (th x) ≡ sewn x)) → Gives (sew_both (zip f (map th f))) T
sew_gives th T [] h = tt
sew_gives th T (x ∷ f) h = (sym (h x (in_here x f)).0, (sym (h x (in_here x f)).1, sew_gives th T f (λ y k. h y (in_there y x f k))))

-- both darts of a pair are reached
abbrev pub NotLinked : ℕ → List Link → Type 0
NotLinked y ks = find (λ k. k.dart) y ks ≡ none

pub sew_reach : (th : ℕ → ℕ) (f : List ℕ) (x y : ℕ) → In x f → (y ≡ x) ⊎ (y ≡ th x) → NotLinked y (sew_both (zip f (map th f))) → ⊥
sew_reach th [] x y h w e = true≢false (sym h)
sew_reach th (z ∷ f) x y h w e = by_cases (eqb y z)
    (λ a. none-ne-some _ (sym (rw a at e)))
    (λ a. by_cases (eqb y (th z))
    (λ b. none-ne-some _ (sym (rw (a, b) at e)))
    (λ b. in_cons x z f h (λ q. wrong q w (eqb-false y z a) (eqb-false y (th z) b)) (λ q. sew_reach th f x y q w (rw (a, b) at e))))
  where
    wrong : x ≡ z → (y ≡ x) ⊎ (y ≡ th x) → y ≢ z → y ≢ th z → ⊥
    wrong q (inl s) m n = m (s ∙ q)
    wrong q (inr s) m n = n (s ∙ ap th q)

-- THE NEW DARTS ARE INSERTED
abbrev pub or_else : Option Dart → Option Dart → Option Dart
or_else none b = b
or_else (some a) b = some a

pub find_insert_all : (ns es : List Dart) → distinct (serials ns) ≡ true → ((x : ℕ) → In x (serials ns) → find (λ d. d.serial) x es ≡ none)
    → (x : ℕ) → find (λ d. d.serial) x (insert_all ns es) ≡ or_else (find (λ d. d.serial) x ns) (find (λ d. d.serial) x es)
find_insert_all [] es d f x = refl
find_insert_all (n ∷ ns) es d f x =
    let ih = find_insert_all ns es (and_right (not (mem n.serial (serials ns))) _ d) (λ y h. f y (in_there y n.serial (serials ns) h)) in
    find_insert (λ d. d.serial) n x (insert_all ns es)
    (ih n.serial ∙ rw (absent_not_found n.serial ns (not-true (mem n.serial (serials ns)) (and_left _ _ d))) (f n.serial (in_here n.serial (serials ns))))
    ∙ by_cases (eqb x n.serial) (λ e. rw e) (λ e. rw e (ih x))

insert_in : (d : Dart) (l : List Dart) (x : ℕ) → In x (serials (insert (λ e. e.serial) d l)) → (x ≡ d.serial) ⊎ In x (serials l)
insert_in d [] x h = in_cons x d.serial [] h (λ e. inl e) (λ k. inr k)
insert_in d (e ∷ l) x h = by_cases (ltb d.serial e.serial)
    (λ t. in_cons x d.serial (e.serial ∷ serials l) (rw t at h) (λ q. inl q) (λ q. inr q))
    (λ t. in_cons x e.serial (serials (insert (λ e. e.serial) d l)) (rw t at h)
    (λ q. inr (in_eq x e.serial (e.serial ∷ serials l) q (in_here e.serial (serials l)))) (λ q. on (insert_in d l x q)))
  where
    on : (x ≡ d.serial) ⊎ In x (serials l) → (x ≡ d.serial) ⊎ In x (e.serial ∷ serials l)
    on (inl q) = inl q
    on (inr q) = inr (in_there x e.serial (serials l) q)

insert_ascends : (d : Dart) (l : List Dart) → ascending (serials l) ≡ true → mem d.serial (serials l) ≡ false → ascending (serials (insert (λ e. e.serial) d l)) ≡ true
unfolding ascending
insert_ascends d [] a n = refl
insert_ascends d (e ∷ l) a n = by_cases (ltb d.serial e.serial)
    (λ t. let less = ltb-true d.serial e.serial t in
    rw t (and_intro (and_intro t (all_from (ltb d.serial) (serials l) (λ y m. let up = absent e.serial (serials l) (and_left _ _ a) y m in lt-ltb d.serial y (omega arith)))) a))
    (λ t. let more = ltb-false d.serial e.serial t in
    by_cases (eqb d.serial e.serial)
    (λ s. absurd (true≢false (sym (rw s) ∙ n)))
    (λ s. rw t (and_intro (all_from (ltb e.serial) (serials (insert (λ e. e.serial) d l)) (λ y m. above y (insert_in d l y m) more (eqb-false d.serial e.serial s)))
    (insert_ascends d l (and_right (all (ltb e.serial) (serials l)) _ a) (rw s at n)))))
  where
    above : (y : ℕ) → (y ≡ d.serial) ⊎ In y (serials l) → e.serial ≤ d.serial → d.serial ≢ e.serial → ltb e.serial y ≡ true
    above y (inl q) more ne = rw q (lt-ltb e.serial d.serial (strict e.serial d.serial more (λ z. ne (sym z))))
      where
        strict : (a b : ℕ) → a ≤ b → a ≢ b → a < b
        strict a b l n = by_cases (eqb a b) (λ q. absurd (n (eqb-true a b q))) (λ q. omega (arith, eqb-false a b q))
    above y (inr q) more ne = lt-ltb e.serial y (absent e.serial (serials l) (and_left _ _ a) y q)

pub insert_all_ascends : (ns es : List Dart) → distinct (serials ns) ≡ true → ((x : ℕ) → In x (serials ns) → find (λ d. d.serial) x es ≡ none) → ascending (serials es) ≡ true
    → ascending (serials (insert_all ns es)) ≡ true
insert_all_ascends [] es d f a = a
insert_all_ascends (n ∷ ns) es d f a =
    let d' = and_right (not (mem n.serial (serials ns))) _ d in
    let f' : (x : ℕ) → In x (serials ns) → find (λ d. d.serial) x es ≡ none = λ y h. f y (in_there y n.serial (serials ns) h) in
    let none_there : find (λ d. d.serial) n.serial (insert_all ns es) ≡ none =
    find_insert_all ns es d' f' n.serial ∙ rw (absent_not_found n.serial ns (not-true (mem n.serial (serials ns)) (and_left _ _ d))) (f n.serial (in_here n.serial (serials ns))) in
    insert_ascends n (insert_all ns es) (insert_all_ascends ns es d' f' a) (not_there n.serial (insert_all ns es) none_there)
  where
    not_there : (x : ℕ) (l : List Dart) → find (λ d. d.serial) x l ≡ none → mem x (serials l) ≡ false
    not_there x [] e = refl
    not_there x (c ∷ l) e = by_cases (eqb x c.serial) (λ t. absurd (none-ne-some c (sym (rw t at e)))) (λ t. rw t (not_there x l (rw t at e)))
