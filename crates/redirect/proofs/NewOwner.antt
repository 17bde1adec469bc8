-- The block that an update redirects, from the words of its memory. Assumes nothing.
use mathlib.Core.Path.{◌≡◌, refl, sym, ◌∙◌, ap}
use mathlib.Core.Bool.{Bool, true, false, cond, ◌&&◌, ◌||◌}
use mathlib.Core.List.{List, [], ◌∷◌, ◌++◌, map}
use mathlib.Core.Option.{none, some}
use Prim.Native.Nat.{ℕ, zero, suc, ◌+◌, ◌*◌, ◌-◌, ◌/◌, ◌%◌, ◌≤◌, ◌<◌}
use native.Mathlib.Omega.{arith}
use lib.Dec.{eqb}
use lib.ListN.{length, get_or}
use borrow.Author.Tests.{eqb-true, lt-ltb, le-ltb}
use Rattle.model.specs.Lists.{all, any, mem, find, tab, concat_map}
use Rattle.model.specs.Values.{Label, Third, Dart, code, with_other, with_third}
use Rattle.model.specs.Cells.{third_at}
use Rattle.model.specs.Image.{count_in, words_for, image, column, is_sewn_word, third_in, dart_in, block_in}
use Rattle.model.specs.Links.{Link, third_or, relink}
use Rattle.model.specs.Messages.{Update}
use Rattle.model.specs.Arrival.{face_with, names_face, update_links, redirected}
use Rattle.laws.proofs.Tests.{by_cases, and_left, and_right}
use Rattle.laws.proofs.Members.{any_map}
use Rattle.laws.proofs.Tables.{tab_cong, map_tab}
use Rattle.columns.specs.Columns.{before, Kind, kind_free, kind_sewn, kind_critical, Ranged, SewnPlaces}
use Rattle.columns.proofs.Thirds.{sewn_one, with_critical, third_critical}
use Rattle.columns.proofs.Images.{image_back}
use Rattle.columns.proofs.Question.{Passed}
use Rattle.columns.proofs.Links.{places}
use Rattle.columns.proofs.ThirdLinks.{sewn_places}
use Rattle.cells.proofs.Walks.{eq_or_ne}
use Rattle.cells.proofs.Sited.{Sited, darts_in}
use Rattle.departure.specs.ByPlaces.{critical_with}
use Rattle.redirect.specs.ByPlaces.{face_code, named_at, Rewritten}
use Rattle.redirect.proofs.Names.{face_has}

-- LINKS
find_left : {A : Type 0} (key : A → ℕ) (x : ℕ) (a b : List A) (d : A) → find key x a ≡ some d → find key x (a ++ b) ≡ some d
find_left key x [] b d e = let z : ◌≡◌ {A = ℕ} 0 1 = cc in absurd (omega arith)
find_left key x (y ∷ a) b d e = by_cases (eqb x (key y)) (λ t. rw t (rw t at e)) (λ t. rw t (find_left key x a b d (rw t at e)))

find_right : {A : Type 0} (key : A → ℕ) (x : ℕ) (a b : List A) → find key x a ≡ none → find key x (a ++ b) ≡ find key x b
find_right key x [] b e = refl
find_right key x (y ∷ a) b e = by_cases (eqb x (key y)) (λ t. let q : some y ≡ none = rw t at e in let z : ◌≡◌ {A = ℕ} 0 1 = cc in absurd (omega arith)) (λ t. rw t (find_right key x a b (rw t at e)))

-- of each dart of some faces
module _ (t : ℕ → Third) (new : ℕ) where
  abbrev link_of : ℕ → Link
  link_of x = record { dart = x; third = with_other new (t x) }

  find_face : (x : ℕ) (f : List ℕ) → find (λ k. k.dart) x (map link_of f) ≡ cond (mem x f) (some (link_of x)) none
  find_face x [] = refl
  find_face x (y ∷ f) = by_cases (eqb x y) (λ e. rw e (ap (λ (z : ℕ). some (link_of z)) (sym (eqb-true x y e)))) (λ e. rw e (find_face x f))

  find_link : {A : Type 0} (face : A → List ℕ) (x : ℕ) (ls : List A)
      → find (λ k. k.dart) x (concat_map (λ l. map link_of (face l)) ls) ≡ cond (any (λ l. mem x (face l)) ls) (some (link_of x)) none
  find_link face x [] = refl
  find_link face x (l ∷ ls) = by_cases (mem x (face l))
      (λ e. rw e (find_left (λ k. k.dart) x (map link_of (face l)) _ (link_of x) (find_face x (face l) ∙ rw e)))
      (λ e. rw e (find_right (λ k. k.dart) x (map link_of (face l)) _ (find_face x (face l) ∙ rw e) ∙ find_link face x ls))

  relinked : {A : Type 0} (face : A → List ℕ) (ls : List A) (d : Dart) → t d.serial ≡ d.third
      → relink (concat_map (λ l. map link_of (face l)) ls) d ≡ with_third (cond (any (λ l. mem d.serial (face l)) ls) (with_other new d.third) d.third) d
  unfolding relink
  relinked face ls d e = ap (λ (h : Third). with_third h d) (ap (third_or d.third) (find_link face d.serial ls) ∙ by_cases (any (λ l. mem d.serial (face l)) ls) (λ k. rw (k, e)) (λ k. rw k))

-- THE DARTS ON NAMED FACES
any_and : {A : Type 0} (c : Bool) (f : A → Bool) (ls : List A) → any (λ l. c && f l) ls ≡ (c && any f ls)
any_and true f ls = refl
any_and false f [] = refl
any_and false f (l ∷ ls) = any_and false f ls

module _ {m : List ℕ} (site : Sited m) (ok : Passed m) where
  named_any : (from : ℕ) (ls : List Label) → all (names_face (darts_in m) from) ls ≡ true → (p : ℕ) → p < count_in m
      → any (λ l. mem (column m 0 p) (face_with (darts_in m) l)) ls ≡ any (λ l. critical_with m from p && eqb (face_code m p) (code l)) ls
  named_any from [] e p h = refl
  named_any from (l ∷ ls) e p h = or_both (face_has site ok from l (and_left (names_face (darts_in m) from l) _ e) p h) (named_any from ls (and_right (names_face (darts_in m) from l) _ e) p h)
    where
      or_both : {a b c d : Bool} → a ≡ b → c ≡ d → (a || c) ≡ (b || d)
      or_both x y = rw (x, y)

  named_is : (from : ℕ) (ls : List Label) → all (names_face (darts_in m) from) ls ≡ true → (p : ℕ) → p < count_in m
      → any (λ l. mem (column m 0 p) (face_with (darts_in m) l)) ls ≡ named_at m from (map code ls) p
  named_is from ls e p h =
      named_any from ls e p h ∙ any_and (critical_with m from p) (λ l. eqb (face_code m p) (code l)) ls
      ∙ ap (λ (b : Bool). critical_with m from p && b) (sym (any_map (eqb (face_code m p)) code ls))

-- A THIRD LINK by its words: one with another block, and one that stays
other_third : (s s' : ℕ → ℕ) (k a from new : ℕ) → k ≡ 2 + 4 * from → third_in s' (2 + 4 * new) a ≡ with_other new (third_in s k a)
other_third s s' k a from new e =
    let q : (2 + 4 * new) / 4 ≡ new = omega arith in
    third_critical s' (2 + 4 * new) a (with_critical (2 + 4 * new) new refl) ∙ rw (q, third_critical s k a (with_critical k from e))

same_third : (s s' : ℕ → ℕ) (k a : ℕ) → s' a ≡ s a → third_in s' k a ≡ third_in s k a
unfolding third_in
same_third s s' k a e = rw e

-- THE WHOLE MEMORY
module _ {m m' : List ℕ} (site : Sited m) (ok : Passed m) (u : Update) (right : all (names_face (darts_in m) u.from) u.labels ≡ true) (small : u.block ≤ 15)
    (w : Rewritten m m' (named_at m u.from (map code u.labels)) (2 + 4 * u.block) (count_in m)) where
  test : ℕ → Bool
  test p = named_at m u.from (map code u.labels) p

  word_set : (p : ℕ) → p < count_in m → test p ≡ true → column m' 3 p ≡ 2 + 4 * u.block
  unfolding test
  word_set p h e = w.kinds p ∙ rw (lt-ltb p (count_in m) h, e)

  word_kept : (p : ℕ) → p < count_in m → test p ≡ false → column m' 3 p ≡ column m 3 p
  unfolding test
  word_kept p h e = w.kinds p ∙ rw (lt-ltb p (count_in m) h, e)

  word_was : (p : ℕ) → test p ≡ true → column m 3 p ≡ 2 + 4 * u.from
  unfolding test
  word_was p e = eqb-true _ _ (and_left (critical_with m u.from p) _ e)

  col : (f p : ℕ) → f < 8 → (f ≡ 3 → ⊥) → column m' f p ≡ column m f p
  col f p h n = w.others f p h n

  third_now : (p : ℕ) → p < count_in m → third_in (column m' 0) (column m' 3 p) (column m' 4 p) ≡ cond (test p) (with_other u.block (dart_in m p).third) (dart_in m p).third
  third_now p h = by_cases (test p)
      (λ e. rw e (ap (λ (k : ℕ). third_in (column m' 0) k (column m' 4 p)) (word_set p h e) ∙ ap (third_in (column m' 0) (2 + 4 * u.block)) (col 4 p (omega arith) (λ z. omega arith))
      ∙ other_third (column m 0) (column m' 0) (column m 3 p) (column m 4 p) u.from u.block (word_was p e)))
      (λ e. rw e (ap (λ (k : ℕ). third_in (column m' 0) k (column m' 4 p)) (word_kept p h e) ∙ ap (third_in (column m' 0) (column m 3 p)) (col 4 p (omega arith) (λ z. omega arith))
      ∙ same_third (column m 0) (column m' 0) (column m 3 p) (column m 4 p) (col 0 (column m 4 p) (omega arith) (λ z. omega arith))))

  dart_now : (p : ℕ) → p < count_in m → dart_in m' p ≡ with_third (cond (test p) (with_other u.block (dart_in m p).third) (dart_in m p).third) (dart_in m p)
  dart_now p h =
      let e0 = col 0 p (omega arith) (λ z. omega arith) in
      let e1 = ap (column m' 0) (col 1 p (omega arith) (λ z. omega arith)) ∙ col 0 (column m 1 p) (omega arith) (λ z. omega arith) in
      let e2 = ap (column m' 0) (col 2 p (omega arith) (λ z. omega arith)) ∙ col 0 (column m 2 p) (omega arith) (λ z. omega arith) in
      let e3 = third_now p h in
      let e5 = col 5 p (omega arith) (λ z. omega arith) in
      let e6 = col 6 p (omega arith) (λ z. omega arith) in
      let e7 = col 7 p (omega arith) (λ z. omega arith) in
      λ i. record { serial = e0 i; next = e1 i; opposite = e2 i; third = e3 i; point = record { x = e5 i; y = e6 i; z = e7 i } }

  dart_told : (p : ℕ) → p < count_in m → dart_in m' p ≡ relink (update_links (darts_in m) u) (dart_in m p)
  unfolding update_links test
  dart_told p h = dart_now p h
      ∙ ap (λ (b : Bool). with_third (cond b (with_other u.block (dart_in m p).third) (dart_in m p).third) (dart_in m p)) (sym (named_is site ok u.from u.labels right p h))
      ∙ sym (relinked (third_at (darts_in m)) u.block (face_with (darts_in m)) u.labels (dart_in m p) (site.third_is p h))

  pub block_now : block_in m' ≡ redirected (block_in m) u
  unfolding redirected
  block_now =
      let e0 = w.head 0 (omega arith) in
      let e1 = w.head 1 (omega arith) in
      let e2 : tab (dart_in m') (get_or m' 2 0) ≡ map (relink (update_links (darts_in m) u)) (tab (dart_in m) (get_or m 2 0)) = ap
      (tab (dart_in m')) (w.head 2 (omega arith)) ∙ tab_cong (dart_in m')
      (λ p. relink (update_links (darts_in m) u) (dart_in m p)) (get_or m 2 0) dart_told
      ∙ sym (map_tab (relink (update_links (darts_in m) u)) (dart_in m) (get_or m 2 0)) in
      λ i. record { number = e0 i; counter = e1 i; darts = e2 i }

  -- what is past the darts stays
  same_rest : (i : ℕ) → 8 + count_in m * 8 ≤ i → get_or m' i 0 ≡ get_or m i 0
  same_rest i h = go ((i - 8) / 8) ((i - 8) % 8) (omega arith) (omega arith) (omega arith)
    where
      go : (p f : ℕ) → i ≡ 8 + p * 8 + f → f < 8 → count_in m ≤ p → get_or m' i 0 ≡ get_or m i 0
      go p f e k past = ap (λ (j : ℕ). get_or m' j 0) e ∙ eq_or_ne f 3
          (λ s. ap (λ (g : ℕ). column m' g p) s ∙ w.kinds p ∙ rw (le-ltb p (count_in m) past) (ap (λ (g : ℕ). column m g p) (sym s)))
          (λ s. col f p k s) ∙ ap (λ (j : ℕ). get_or m j 0) (sym e)

  kind_now : (p : ℕ) → p < count_in m → Kind (column m' 3 p) (column m' 4 p)
  kind_now p h = by_cases (test p) (λ e. go e (ok.range.kinds p h)) (λ e. rw (word_kept p h e, col 4 p (omega arith) (λ z. omega arith)) (ok.range.kinds p h))
    where
      go : test p ≡ true → Kind (column m 3 p) (column m 4 p) → Kind (column m' 3 p) (column m' 4 p)
      go e (kind_free k a) = let was = word_was p e in absurd (omega arith)
      go e (kind_sewn k) = let was = word_was p e in absurd (omega arith)
      go e (kind_critical k o a) = let now = word_set p h e in let same = col 4 p (omega arith) (λ z. omega arith) in kind_critical (with_critical (column m' 3 p) u.block now) (omega arith) (omega arith)

  ranged_now : Ranged m'
  ranged_now =
      let r = ok.range in
      let n = w.head 2 (omega arith) in
      record {
        number_small = (let a = r.number_small in let e = w.head 0 (omega arith) in omega arith);
        counter_small = (let a = r.counter_small in let e = w.head 1 (omega arith) in omega arith);
        few = (let a = r.few in omega arith);
        head =
            (w.head 3 (omega arith) ∙ r.head.0, w.head 4 (omega arith) ∙ r.head.1, w.head 5 (omega arith) ∙ r.head.2, w.head 6 (omega arith) ∙ r.head.3, w.head 7 (omega arith) ∙ r.head.4);
        above = λ p h. above p (omega arith);
        serial_small = λ p h. (let a = r.serial_small p (omega arith) in let e = col 0 p (omega arith) (λ z. omega arith) in omega arith);
        kinds = λ p h. kind_now p (omega arith);
        rest = λ i h. same_rest i (omega arith) ∙ r.rest i (omega arith);
      }
    where
      above : (p : ℕ) → p < count_in m → before (column m' 0) p < column m' 0 p
      above zero h = let e = col 0 0 (omega arith) (λ z. omega arith) in let a = ok.range.above 0 h in omega arith
      above (suc p) h = let e = col 0 p (omega arith) (λ z. omega arith) in let f = col 0 (suc p) (omega arith) (λ z. omega arith) in let a = ok.range.above (suc p) h in omega arith

  -- and the memory is the image of the block that the model gives
  pub memory_now : words_for (count_in m) ≤ length m → m' ≡ image (length m) (redirected (block_in m) u)
  memory_now long =
      let n = w.head 2 (omega arith) in
      let g = places m (count_in m) ok.links in
      let s = sewn_places m (count_in m) ok.thirds in
      sym (image_back m' ranged_now (omega (arith, w.size, n))
      (record {
        next_lt = λ p h. (let e = col 1 p (omega arith) (λ z. omega arith) in let a = g.next_lt p (omega arith) in omega arith);
        opposite_lt = λ p h. (let e = col 2 p (omega arith) (λ z. omega arith) in let a = g.opposite_lt p (omega arith) in omega arith);
      })
      (λ p h k. sewn_now p (omega arith) k n s))
      ∙ ap (λ (k : ℕ). image k (block_in m')) w.size ∙ ap (image (length m)) block_now
    where
      sewn_now : (p : ℕ) → p < count_in m → is_sewn_word (column m' 3 p) ≡ true → get_or m' 2 0 ≡ get_or m 2 0 → SewnPlaces m (count_in m) → column m' 4 p < get_or m' 2 0
      sewn_now p h k n s = by_cases (test p)
          (λ e. let now = word_set p h e in absurd (omega (arith, sewn_one (column m' 3 p) k)))
          (λ e. let a = s p h (ap is_sewn_word (sym (word_kept p h e)) ∙ k) in let f = col 4 p (omega arith) (λ z. omega arith) in omega arith)
