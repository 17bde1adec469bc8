-- The sides of a transfer are those that its arrays give by index. Assumes nothing.
use mathlib.Core.Path.{◌≡◌, refl, sym, ◌∙◌, ap}
use mathlib.Core.Bool.{cond}
use mathlib.Core.Logic.{⊎_elim}
use mathlib.Core.List.{List, [], ◌∷◌, ◌++◌, map}
use Prim.Native.Nat.{ℕ, zero, suc, ◌+◌, ◌≤◌, ◌<◌}
use native.Mathlib.Omega.{arith}
use lib.Dec.{eqb}
use lib.ListN.{length, get_or, take, replicate, length-append, length-replicate, get_or-replicate, get_or-append, get_or-map}
use lib.Seq.{get_or-append-add, get_or-append_seam, get_or-take}
use borrow.Author.Tests.{eqb-true, eqb-false, eq-eqb, ne_eqb}
use Rattle.model.specs.Lists.{concat, concat_map, tab, zip, turned}
use Rattle.model.specs.Messages.{FaceDart, Transfer, size_all}
use Rattle.model.specs.Arrival.{Side, sides_of, sides}
use Rattle.laws.proofs.Tests.{by_cases, lt_or_ge, eq_or_ne}
use Rattle.laws.proofs.Tables.{map_tab, tab_cong}
use Rattle.inbox.specs.Inbox.{FacesIn, starts_of, sizes_of}
use Rattle.arrival.specs.Sides.{next_index, side_at}

zip_tab : {A B : Type 0} (d : A) (e : B) (l : List A) (m : List B) → length l ≡ length m → zip l m ≡ tab (λ j. (get_or l j d, get_or m j e)) (length l)
zip_tab d e [] m h = refl
zip_tab d e (x ∷ l) [] h = absurd (omega (arith, h))
zip_tab d e (x ∷ l) (y ∷ m) h = ap (λ (t : List (_ × _)). (x, y) ∷ t) (zip_tab d e l m (omega (arith, h)))

pub tab_append : {A : Type 0} (f : ℕ → A) (n m : ℕ) → tab f (n + m) ≡ tab f n ++ tab (λ j. f (n + j)) m
tab_append f zero m = let e : 0 + m ≡ m = omega arith in rw e (tab_cong f (λ j. f (0 + j)) m (λ p h. ap f (omega arith)))
tab_append f (suc n) m = let e : suc n + m ≡ suc (n + m) = omega arith in rw e (ap (λ (t : List _). f 0 ∷ t)
    (tab_append (λ k. f (suc k)) n m ∙ ap (λ (t : List _). tab (λ k. f (suc k)) n ++ t) (tab_cong _ _ m (λ p h. ap f (omega arith)))))

-- the index after j in a cycle of n
abbrev round : ℕ → ℕ → ℕ
round n j = cond (eqb (suc j) n) 0 (suc j)

turned_length : {A : Type 0} (f : List A) → length f ≡ length (turned f)
turned_length [] = refl
turned_length (x ∷ f) = sym (length-append f (x ∷ []) ∙ omega arith)

turned_at : {A : Type 0} (d : A) (f : List A) (j : ℕ) → j < length f → get_or (turned f) j d ≡ get_or f (round (length f) j) d
turned_at d [] j h = absurd (omega (arith, h))
turned_at d (x ∷ f) j h = ⊎_elim
    (λ (k : j < length f). rw (ne_eqb (suc j) (suc (length f)) (λ e. omega (arith, k, e))) (get_or-append f (x ∷ []) d j k))
    (λ (k : length f ≤ j). let e : j ≡ length f = omega (arith, k, h) in rw (e, eq-eqb (suc (length f)) (suc (length f)) refl) (get_or-append_seam f x [] d))
    (lt_or_ge j (length f))

round_below : (n j : ℕ) → j < n → round n j < n
round_below n j h = by_cases (eqb (suc j) n) (λ e. rw e (omega (arith, h))) (λ e. rw e (⊎_elim
    (λ (q : suc j ≡ n). absurd (eqb-false (suc j) n e q))
    (λ (q : suc j ≡ n → ⊥). omega (arith, h, q))
    (eq_or_ne (suc j) n)))

round_shift : (o n j : ℕ) → cond (eqb (suc (o + j)) (o + n)) o (suc (o + j)) ≡ o + round n j
round_shift o n j = by_cases (eqb (suc j) n)
    (λ e. rw (e, eq-eqb (suc (o + j)) (o + n) (let q = eqb-true (suc j) n e in omega (arith, q))) (omega arith))
    (λ e. rw (e, ne_eqb (suc (o + j)) (o + n) (λ q. eqb-false (suc j) n e (omega (arith, q)))) (omega arith))

abbrev pub no_side : FaceDart
no_side = record { vertex = 0; serial = 0 }

module _ (v x b z : List ℕ) where
  -- the arrays have some faces from index o on
  pub record From (o : ℕ) (fs : List (List FaceDart)) : Type 0 where
    pub vertex_is : (j : ℕ) → j < size_all fs → get_or v (o + j) 0 ≡ (get_or (concat fs) j no_side).vertex
    pub serial_is : (j : ℕ) → j < size_all fs → get_or x (o + j) 0 ≡ (get_or (concat fs) j no_side).serial
    pub start_is : (j : ℕ) → j < size_all fs → get_or b (o + j) 0 ≡ get_or (starts_of o fs) j 0
    pub size_is : (j : ℕ) → j < size_all fs → get_or z (o + j) 0 ≡ get_or (sizes_of fs) j 0

  first_face : (o : ℕ) (f : List FaceDart) (fs : List (List FaceDart)) → From o (f ∷ fs) → sides_of f ≡ tab (λ j. side_at v x b z (o + j)) (length f)
  unfolding sides_of concat size_all starts_of sizes_of
  first_face o f fs w =
      ap (map _) (zip_tab no_side no_side f (turned f) (turned_length f))
      ∙ map_tab _ _ (length f)
      ∙ tab_cong _ _ (length f) side
    where
      dart : (j : ℕ) → j < length f → get_or (f ++ concat fs) j no_side ≡ get_or f j no_side
      dart j h = get_or-append f (concat fs) no_side j h

      within : {j : ℕ} → j < length f → j < length f + size_all fs
      within h = omega (arith, h)

      next : (j : ℕ) → j < length f → next_index b z (o + j) ≡ o + round (length f) j
      next j h =
          let s : get_or b (o + j) 0 ≡ o = w.start_is j (within h) ∙ get_or-append (replicate (length f) o) _ 0 j (rw (length-replicate (length f) o) h) ∙ get_or-replicate (length f) j o 0 h in
          let n : get_or z (o + j) 0 ≡ length f =
          w.size_is j (within h)
          ∙ get_or-append (replicate (length f) (length f)) _ 0 j (rw (length-replicate (length f) (length f)) h)
          ∙ get_or-replicate (length f) j (length f) 0 h
          in
          rw (s, n) (round_shift o (length f) j)

      side : (j : ℕ) → j < length f
          → ◌≡◌ {A = Side}
          (record {
            serial = (get_or f j no_side).serial;
            next = (get_or (turned f) j no_side).serial;
            tail = (get_or f j no_side).vertex;
            head = (get_or (turned f) j no_side).vertex;
          }) (side_at v x b z (o + j))
      side j h =
          let r = round_below (length f) j h in
          rw (
            turned_at no_side f j h,
            next j h,
            w.vertex_is j (within h),
            w.serial_is j (within h),
            w.vertex_is (round (length f) j) (within r),
            w.serial_is (round (length f) j) (within r),
            dart j h,
            dart (round (length f) j) r,
          ) refl

  pub past_face : (o : ℕ) (f : List FaceDart) (fs : List (List FaceDart)) → From o (f ∷ fs) → From (o + length f) fs
  unfolding concat size_all starts_of sizes_of
  past_face o f fs w = record {
    vertex_is = λ j h. at v j ∙ w.vertex_is (length f + j) (on h) ∙ ap (λ (d : FaceDart). d.vertex) (get_or-append-add f (concat fs) j no_side);
    serial_is = λ j h. at x j ∙ w.serial_is (length f + j) (on h) ∙ ap (λ (d : FaceDart). d.serial) (get_or-append-add f (concat fs) j no_side);
    start_is = λ j h. at b j ∙ w.start_is (length f + j) (on h) ∙ past (replicate (length f) o) (starts_of (o + length f) fs) j (length-replicate (length f) o);
    size_is = λ j h. at z j ∙ w.size_is (length f + j) (on h) ∙ past (replicate (length f) (length f)) (sizes_of fs) j (length-replicate (length f) (length f));
  }
    where
      on : {j : ℕ} → j < size_all fs → length f + j < length f + size_all fs
      on h = omega (arith, h)

      at : (l : List ℕ) (j : ℕ) → get_or l (o + length f + j) 0 ≡ get_or l (o + (length f + j)) 0
      at l j = ap (λ (k : ℕ). get_or l k 0) (omega arith)

      past : (l m : List ℕ) (j : ℕ) → length l ≡ length f → get_or (l ++ m) (length f + j) 0 ≡ get_or m j 0
      past l m j e = rw (sym e) (get_or-append-add l m j 0)

  sides_from : (o : ℕ) (fs : List (List FaceDart)) → From o fs → concat_map sides_of fs ≡ tab (λ j. side_at v x b z (o + j)) (size_all fs)
  unfolding size_all
  sides_from o [] w = refl
  sides_from o (f ∷ fs) w =
      ap (λ (l : List Side). l ++ concat_map sides_of fs) (first_face o f fs w)
      ∙ ap (λ (l : List Side). tab (λ j. side_at v x b z (o + j)) (length f) ++ l) (sides_from (o + length f) fs (past_face o f fs w)
      ∙ tab_cong _ _ (size_all fs) (λ j h. ap (side_at v x b z) (omega arith)))
      ∙ sym (tab_append (λ j. side_at v x b z (o + j)) (length f) (size_all fs))

  concat_size : (fs : List (List FaceDart)) → length (concat fs) ≡ size_all fs
  unfolding concat size_all
  concat_size [] = refl
  concat_size (f ∷ fs) = length-append f (concat fs) ∙ ap (λ (n : ℕ). length f + n) (concat_size fs)

  pub from_start : (fs : List (List FaceDart)) → FacesIn fs v x b z → From 0 fs
  from_start fs w = record {
    vertex_is = λ j h. at v (map (λ d. d.vertex) (concat fs)) j h w.vertices ∙ get_or-map (λ (d : FaceDart). d.vertex) (concat fs) j no_side;
    serial_is = λ j h. at x (map (λ d. d.serial) (concat fs)) j h w.serials ∙ get_or-map (λ (d : FaceDart). d.serial) (concat fs) j no_side;
    start_is = λ j h. at b (starts_of 0 fs) j h w.starts;
    size_is = λ j h. at z (sizes_of fs) j h w.sizes;
  }
    where
      at : (l m : List ℕ) (j : ℕ) → j < size_all fs → take (size_all fs) l ≡ m → get_or l (0 + j) 0 ≡ get_or m j 0
      at l m j h e = ap (λ (k : ℕ). get_or l k 0) (omega arith) ∙ sym (get_or-take (size_all fs) l j 0 h) ∙ ap (λ (r : List ℕ). get_or r j 0) e

  -- of a whole transfer
  pub sides_are : (t : Transfer) → FacesIn t.faces v x b z → sides t ≡ tab (side_at v x b z) (size_all t.faces)
  unfolding sides
  sides_are t w = sides_from 0 t.faces (from_start t.faces w) ∙ tab_cong _ _ (size_all t.faces) (λ j h. ap (side_at v x b z) (omega arith))
