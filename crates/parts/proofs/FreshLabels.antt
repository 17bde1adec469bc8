-- The labels of parts 3 and 4 are new exactly if the words of the new darts fit beside the block's. Assumes nothing.
use mathlib.Core.Path.{◌≡◌, refl, sym, ◌∙◌, ap, subst}
use mathlib.Core.Bool.{Bool, true, false, true≢false, cond, not, ◌&&◌, ◌||◌}
use mathlib.Core.List.{List, [], ◌∷◌, ◌++◌, map}
use mathlib.Core.Logic.{⊎_elim}
use mathlib.Core.Option.{Option, none, some}
use Prim.Native.Nat.{ℕ, zero, suc, ◌+◌, ◌-◌, ◌/◌, ◌%◌, ◌<◌, ◌^◌}
use native.Mathlib.Omega.{arith}
use lib.Dec.{ltb, eqb}
use lib.ListN.{get_or}
use borrow.Author.Tests.{eqb-true, eq-eqb, ne_eqb, ltb-true, not-true}
use Rattle.model.specs.Lists.{all, mem, distinct, tab, collect, more, concat_map}
use Rattle.model.specs.Values.{Label, label_of, code}
use Rattle.model.specs.Cells.{labels}
use Rattle.model.specs.Image.{column, is_critical_word, label_in, third_in, dart_in, block_in}
use Rattle.model.specs.Messages.{Transfer}
use Rattle.model.specs.Links.{Link}
use Rattle.model.specs.Arrival.{critical_links, label_new, labels_new}
use Rattle.departure.proofs.LeavingFaces.{in_codes}
use Rattle.laws.proofs.Tests.{by_cases, and_left, and_right, and_intro, eq_or_ne, same_truth}
use Rattle.laws.proofs.Members.{In, in_there, all_in, all_from, all_cong, all_map, map_append, map_map, map_cong, append_in, in_append_left, in_append_right, distinct_append, distinct_left, distinct_right, distinct_apart}
use Rattle.laws.proofs.Maps.{map_self}
use Rattle.laws.proofs.Tables.{tab_all, all_tab, map_tab, mem_place, place_mem, mem_none, tab_apart, tab_distinct}
use Rattle.laws.proofs.Labels.{code_in}
use Rattle.columns.specs.Columns.{Ranged, Kind, kind_free, kind_sewn, kind_critical, codes, count}
use Rattle.columns.proofs.Labels.{codes_are}
use Rattle.columns.proofs.Thirds.{critical_two, third_critical}
use Rattle.arrival.specs.Sides.{Segments}
use Rattle.parts.specs.Indices.{starts_at}
use Rattle.parts.specs.Segments.{link_of, face_links}
use Rattle.parts.specs.Fresh.{own_at, fresh_at, clear_at, labels_fit}

-- VALUES THAT DIFFER
-- THE CODES OF A BLOCK
codes_had : (m : List ℕ) (n a : ℕ) → In a (codes m n) → (p : ℕ) × (p < n) × (is_critical_word (column m 3 p) ≡ true) × (column m 4 p ≡ a)
unfolding codes
codes_had m zero a h = absurd (true≢false (sym h))
codes_had m (suc n) a h = by_cases (is_critical_word (column m 3 n))
    (λ t. ⊎_elim
    (λ (i : In a (codes m n)). let w = codes_had m n a i in (w.0, (let l = w.1 in omega arith), w.2, w.3))
    (λ (i : In a (column m 4 n ∷ [])). (n, omega arith, t, one a (column m 4 n) i))
    (append_in a (codes m n) (column m 4 n ∷ []) (sym (ap (λ (c : Bool). mem a (cond c (codes m n ++ column m 4 n ∷ []) (codes m n))) t) ∙ h)))
    (λ t. let w = codes_had m n a (sym (ap (λ (c : Bool). mem a (cond c (codes m n ++ column m 4 n ∷ []) (codes m n))) t) ∙ h) in (w.0, (let l = w.1 in omega arith), w.2, w.3))
  where
    one : (a c : ℕ) → In a (c ∷ []) → c ≡ a
    one a c i = by_cases (eqb a c) (λ t. sym (eqb-true a c t)) (λ t. absurd (true≢false (sym i ∙ ap (λ (d : Bool). d || false) t)))

-- THE CODES OF FACES
module _ {b z : List ℕ} (links : List ℕ) {k : ℕ} (segs : Segments b z k) where
  abbrev pub face_codes : ℕ → List ℕ
  face_codes i = tab (λ j. get_or links (i + j) 0) (get_or z i 0)

  in_face : (q i : ℕ) → q < k → get_or b q 0 ≡ i → In (get_or links q 0) (face_codes i)
  in_face q i h e =
      let low = segs.start_le q h in
      let high = segs.end_above q h in
      let size : get_or z i 0 ≡ get_or z q 0 = segs.same_size q h i (omega arith) (omega arith) in
      mem_place (λ j. get_or links (i + j) 0) (get_or z i 0) (q - i) (get_or links q 0) (omega arith) (ap (λ (p : ℕ). get_or links p 0) (omega arith))

  face_in : (v i : ℕ) → starts_at b k i ≡ true → In v (face_codes i) → (q : ℕ) × (q < k) × (get_or b q 0 ≡ i) × (get_or links q 0 ≡ v)
  face_in v i t h =
      let small = ltb-true i k (and_left (ltb i k) _ t) in
      let start = eqb-true (get_or b i 0) i (and_right (ltb i k) _ t) in
      let within = segs.end_within i small in
      let w = place_mem (λ j. get_or links (i + j) 0) (get_or z i 0) v h in
      let l = w.1 in
      (i + w.0, omega arith, segs.same_start i small (i + w.0) (omega arith) (omega arith) ∙ start, w.2)

  face_once : (i : ℕ) → starts_at b k i ≡ true → distinct (face_codes i) ≡ true → (q r : ℕ) → q < k → r < k → get_or b q 0 ≡ i → get_or b r 0 ≡ i → get_or links q 0 ≡ get_or links r 0 → q ≡ r
  face_once i t d q r hq hr eq er e =
      let lq = segs.start_le q hq in
      let uq = segs.end_above q hq in
      let lr = segs.start_le r hr in
      let ur = segs.end_above r hr in
      let sq : get_or z i 0 ≡ get_or z q 0 = segs.same_size q hq i (omega arith) (omega arith) in
      let sr : get_or z i 0 ≡ get_or z r 0 = segs.same_size r hr i (omega arith) (omega arith) in
      let same =
      tab_apart (λ j. get_or links (i + j) 0) (get_or z i 0) d (q - i) (r - i) (omega arith) (omega arith)
      (ap (λ (p : ℕ). get_or links p 0) (omega arith) ∙ e ∙ ap (λ (p : ℕ). get_or links p 0) (omega arith))
      in
      omega arith

  in_faces : (l : List ℕ) (q : ℕ) → q < k → In (get_or b q 0) l → In (get_or links q 0) (concat_map face_codes l)
  in_faces [] q h i = absurd (true≢false (sym i))
  in_faces (a ∷ l) q h i = ⊎_elim
      (λ (e : get_or b q 0 ≡ a). in_append_left (get_or links q 0) (face_codes a) (concat_map face_codes l) (in_face q a h e))
      (λ (e : get_or b q 0 ≡ a → ⊥). in_append_right (get_or links q 0) (face_codes a) (concat_map face_codes l)
      (in_faces l q h (sym (ap (λ (c : Bool). c || mem (get_or b q 0) l) (ne_eqb (get_or b q 0) a e)) ∙ i)))
      (eq_or_ne (get_or b q 0) a)

  faces_in : (l : List ℕ) → all (starts_at b k) l ≡ true → (v : ℕ) → In v (concat_map face_codes l) → (q : ℕ) × (q < k) × In (get_or b q 0) l × (get_or links q 0 ≡ v)
  faces_in [] t v h = absurd (true≢false (sym h))
  faces_in (a ∷ l) t v h = ⊎_elim
      (λ (i : In v (face_codes a)). let w = face_in v a (and_left (starts_at b k a) _ t) i in (w.0, w.1, ap (λ (c : Bool). c || mem (get_or b w.0 0) l) (eq-eqb (get_or b w.0 0) a w.2), w.3))
      (λ (i : In v (concat_map face_codes l)). let w = faces_in l (and_right (starts_at b k a) _ t) v i in (w.0, w.1, in_there (get_or b w.0 0) a l w.2, w.3))
      (append_in v (face_codes a) (concat_map face_codes l) h)

  abbrev Apart : List ℕ → Type 0
  Apart l = (q r : ℕ) → q < k → r < k → In (get_or b q 0) l → In (get_or b r 0) l → get_or links q 0 ≡ get_or links r 0 → q ≡ r

  mem_later : (a y : ℕ) (l : List ℕ) → In y (a ∷ l) → (y ≡ a → ⊥) → In y l
  mem_later a y l i e = sym (ap (λ (c : Bool). c || mem y l) (ne_eqb y a e)) ∙ i

  faces_once : (l : List ℕ) → all (starts_at b k) l ≡ true → distinct (concat_map face_codes l) ≡ true → Apart l
  faces_once [] t d q r hq hr iq ir e = absurd (true≢false (sym iq))
  faces_once (a ∷ l) t d q r hq hr iq ir e = ⊎_elim
      (λ (x : get_or b q 0 ≡ a). ⊎_elim
      (λ (y : get_or b r 0 ≡ a). face_once a (and_left (starts_at b k a) _ t) (distinct_left (face_codes a) (concat_map face_codes l) d) q r hq hr x y e)
      (λ (y : get_or b r 0 ≡ a → ⊥). absurd (never q r hq hr x (mem_later a (get_or b r 0) l ir y) e))
      (eq_or_ne (get_or b r 0) a))
      (λ (x : get_or b q 0 ≡ a → ⊥). ⊎_elim
      (λ (y : get_or b r 0 ≡ a). absurd (never r q hr hq y (mem_later a (get_or b q 0) l iq x) (sym e)))
      (λ (y : get_or b r 0 ≡ a → ⊥). faces_once l (and_right (starts_at b k a) _ t)
      (distinct_right (face_codes a) (concat_map face_codes l) d) q r hq hr (mem_later a (get_or b q 0) l iq x)
      (mem_later a (get_or b r 0) l ir y) e)
      (eq_or_ne (get_or b r 0) a))
      (eq_or_ne (get_or b q 0) a)
    where
      never : (q r : ℕ) → q < k → r < k → get_or b q 0 ≡ a → In (get_or b r 0) l → get_or links q 0 ≡ get_or links r 0 → ⊥
      never q r hq hr x i e =
          true≢false
          (sym (subst (λ (v : ℕ). In v (face_codes a)) e (in_face q a hq x))
          ∙ distinct_apart (face_codes a) (concat_map face_codes l) d (get_or links r 0) (in_faces l r hr i))

  once_faces : (l : List ℕ) → all (starts_at b k) l ≡ true → distinct l ≡ true → Apart l → distinct (concat_map face_codes l) ≡ true
  once_faces [] t o h = refl
  once_faces (a ∷ l) t o h = distinct_append (face_codes a) (concat_map face_codes l) (tab_distinct (λ j. get_or links (a + j) 0) (get_or z a 0) within_face)
      (once_faces l (and_right (starts_at b k a) _ t) (and_right (not (mem a l)) _ o) (λ q r hq hr iq ir e. h q r hq hr (later (get_or b q 0) iq) (later (get_or b r 0) ir) e)) apart
    where
      small : a < k
      small = ltb-true a k (and_left (ltb a k) _ (and_left (starts_at b k a) _ t))

      start : get_or b a 0 ≡ a
      start = eqb-true (get_or b a 0) a (and_right (ltb a k) _ (and_left (starts_at b k a) _ t))

      later : (y : ℕ) → In y l → In y (a ∷ l)
      later y i = in_there y a l i

      first : (y : ℕ) → y ≡ a → In y (a ∷ l)
      first y e = ap (λ (c : Bool). c || mem y l) (eq-eqb y a e)

      of : (j : ℕ) → j < get_or z a 0 → (a + j < k) × (get_or b (a + j) 0 ≡ a)
      of j i = let w = segs.end_within a small in ((omega (arith, w, start, i)), segs.same_start a small (a + j) (omega (arith, start)) (omega (arith, start, i)) ∙ start)

      within_face : (i j : ℕ) → i < get_or z a 0 → j < get_or z a 0 → get_or links (a + i) 0 ≡ get_or links (a + j) 0 → i ≡ j
      within_face i j hi hj e = let p = of i hi in let q = of j hj in let r = h (a + i) (a + j) p.0 q.0 (first (get_or b (a + i) 0) p.1) (first (get_or b (a + j) 0) q.1) e in omega (arith, r)

      apart : (v : ℕ) → In v (face_codes a) → mem v (concat_map face_codes l) ≡ false
      apart v i = by_cases (mem v (concat_map face_codes l))
          (λ u. let p = face_in v a (and_left (starts_at b k a) _ t) i in
          let q = faces_in l (and_right (starts_at b k a) _ t) v u in
          let r = h p.0 q.0 p.1 q.1 (first (get_or b p.0 0) p.2) (later (get_or b q.0 0) q.2) (p.3 ∙ sym q.3) in
          absurd (true≢false (sym q.2 ∙ ap (λ (y : ℕ). mem y l) (ap (λ (y : ℕ). get_or b y 0) (sym r) ∙ p.2) ∙ not-true _ (and_left (not (mem a l)) _ o))))
          (λ u. u)

-- THE LABELS OF LINKS
collect_append : (l r : List Link) → collect (λ d. label_of d.third) (l ++ r) ≡ collect (λ d. label_of d.third) l ++ collect (λ d. label_of d.third) r
collect_append [] r = refl
collect_append (d ∷ l) r = go (label_of d.third) (collect_append l r)
  where
    go : (o : Option Label) → collect (λ d. label_of d.third) (l ++ r) ≡ collect (λ d. label_of d.third) l ++ collect (λ d. label_of d.third) r
        → more o (collect (λ d. label_of d.third) (l ++ r)) ≡ more o (collect (λ d. label_of d.third) l) ++ collect (λ d. label_of d.third) r
    go none e = e
    go (some a) e = ap (λ (m : List Label). a ∷ m) e

collect_tab : (f : ℕ → Link) (g : ℕ → Label) (n : ℕ) → ((j : ℕ) → j < n → label_of (f j).third ≡ some (g j)) → collect (λ d. label_of d.third) (tab f n) ≡ tab g n
collect_tab f g zero h = refl
collect_tab f g (suc n) h =
    ap (λ (o : Option Label). more o (collect (λ d. label_of d.third) (tab (λ j. f (suc j)) n))) (h 0 (omega arith))
    ∙ ap (λ (m : List Label). g 0 ∷ m) (collect_tab (λ j. f (suc j)) (λ j. g (suc j)) n (λ j l. h (suc j) (omega arith)))

-- the words of the new darts: those on the faces that start at l are critical, no other is
pub record Words (b z kinds links : List ℕ) (k : ℕ) (l : List ℕ) : Type 0 where
  pub segs : Segments b z k
  pub starts : all (starts_at b k) l ≡ true
  pub once : distinct l ≡ true
  pub kind_in : (q : ℕ) → q < k → mem (get_or b q 0) l ≡ true → is_critical_word (get_or kinds q 0) ≡ true
  pub kind_out : (q : ℕ) → q < k → mem (get_or b q 0) l ≡ false → is_critical_word (get_or kinds q 0) ≡ false
  pub small : (q : ℕ) → q < k → get_or links q 0 < 2 ^ 48

module _ (s : ℕ → ℕ) (x : List ℕ) {b z kinds links : List ℕ} {k : ℕ} {l : List ℕ} (w : Words b z kinds links k l) where
  labels_told : (m : List ℕ) → all (starts_at b k) m ≡ true → ((i : ℕ) → In i m → In i l)
      → collect (λ d. label_of d.third) (concat_map (face_links s x z kinds links) m)
      ≡ map label_in (concat_map (face_codes links w.segs) m)
  labels_told [] t h = refl
  labels_told (i ∷ m) t h =
      collect_append (face_links s x z kinds links i) (concat_map (face_links s x z kinds links) m)
      ∙ two (collect_tab (λ j. link_of s x kinds links (i + j)) (λ j. label_in (get_or links (i + j) 0)) (get_or z i 0) lab ∙ sym (map_tab label_in (λ j. get_or links (i + j) 0) (get_or z i 0)))
      (labels_told m (and_right (starts_at b k i) _ t) (λ j u. h j (in_there j i m u)))
      ∙ sym (map_append label_in (face_codes links w.segs i) (concat_map (face_codes links w.segs) m))
    where
      two : {p q r u : List Label} → p ≡ q → r ≡ u → p ++ r ≡ q ++ u
      two p q = rw (p, q) refl

      below : i < k
      below = ltb-true i k (and_left (ltb i k) _ (and_left (starts_at b k i) _ t))

      start : get_or b i 0 ≡ i
      start = eqb-true (get_or b i 0) i (and_right (ltb i k) _ (and_left (starts_at b k i) _ t))

      lab : (j : ℕ) → j < get_or z i 0 → label_of (third_in s (get_or kinds (i + j) 0) (get_or links (i + j) 0)) ≡ some (label_in (get_or links (i + j) 0))
      lab j u =
          let within = w.segs.end_within i below in
          let same = w.segs.same_start i below (i + j) (omega (arith, start)) (omega (arith, start, u)) ∙ start in
          let here : In (get_or b (i + j) 0) l = subst (λ (y : ℕ). In y l) (sym same) (h i (ap (λ (c : Bool). c || mem i m) (eq-eqb i i refl))) in
          ap label_of (third_critical s (get_or kinds (i + j) 0) (get_or links (i + j) 0) (w.kind_in (i + j) (omega (arith, within, start, u)) here))

  module _ {m : List ℕ} (ranged : Ranged m) where
    abbrev own : ℕ → Bool
    own a = not (eqb (a / 4096 / 2 ^ 32) (get_or m 0 0)) || ltb (a / 4096 % 2 ^ 32) (get_or m 1 0)

    abbrev new : ℕ → Bool
    new a = not (mem a (codes m (count m))) && own a

    abbrev all_codes : List ℕ
    all_codes = concat_map (face_codes links w.segs) l

    new_is : (a : ℕ) → label_new (block_in m) (label_in a) ≡ new a
    unfolding label_new
    new_is a = ap (λ (c : Bool). not c && own a) (ap (λ (y : ℕ). mem y (map code (labels (tab (dart_in m) (count m))))) (code_in a) ∙ ap (mem a) (codes_are m (count m) ranged.kinds))

    fresh_in : (q : ℕ) → q < k → is_critical_word (get_or kinds q 0) ≡ true → In (get_or b q 0) l
    fresh_in q h c = by_cases (mem (get_or b q 0) l) (λ t. t) (λ t. absurd (true≢false (sym c ∙ w.kind_out q h t)))

    in_fresh : (q : ℕ) → q < k → In (get_or b q 0) l → is_critical_word (get_or kinds q 0) ≡ true
    in_fresh q h i = w.kind_in q h i

    link_small : (p : ℕ) → p < count m → is_critical_word (column m 3 p) ≡ true → column m 4 p < 2 ^ 48
    link_small p h c = go (ranged.kinds p h)
      where
        go : Kind (column m 3 p) (column m 4 p) → column m 4 p < 2 ^ 48
        go (kind_free e f) = absurd (omega (arith, critical_two (column m 3 p) c))
        go (kind_sewn e) = absurd (omega (arith, critical_two (column m 3 p) c))
        go (kind_critical e f g) = g

    value_in : (q : ℕ) → is_critical_word (get_or kinds q 0) ≡ true → fresh_at kinds links q ≡ get_or links q 0
    value_in q c = rw c refl

    value_out : (q : ℕ) → is_critical_word (get_or kinds q 0) ≡ false → fresh_at kinds links q ≡ 2 ^ 48 + q
    value_out q c = rw c refl

    to_fit : (all new all_codes && distinct all_codes) ≡ true → labels_fit m (count m) kinds links k ≡ true
    to_fit t =
        and_intro
        (and_intro (tab_all (own_at (get_or m 0 0) (get_or m 1 0) kinds links) (λ q. q) k owned)
        (tab_distinct (fresh_at kinds links) k once)) (tab_all (clear_at m (tab (fresh_at kinds links) k)) (λ p. p) (count m) clear)
      where
        each : (q : ℕ) → q < k → is_critical_word (get_or kinds q 0) ≡ true → new (get_or links q 0) ≡ true
        each q h c = all_in new all_codes (and_left (all new all_codes) _ t) (get_or links q 0) (in_faces links w.segs l q h (fresh_in q h c))

        owned : (q : ℕ) → q < k → own_at (get_or m 0 0) (get_or m 1 0) kinds links q ≡ true
        owned q h =
            by_cases (is_critical_word (get_or kinds q 0))
            (λ c. rw c (and_right (not (mem (get_or links q 0) (codes m (count m)))) _ (each q h c)))
            (λ c. rw c refl)

        once : (i j : ℕ) → i < k → j < k → fresh_at kinds links i ≡ fresh_at kinds links j → i ≡ j
        once i j hi hj e = by_cases (is_critical_word (get_or kinds i 0))
            (λ c. by_cases (is_critical_word (get_or kinds j 0))
            (λ d. faces_once links w.segs l w.starts (and_right (all new all_codes) _ t) i j hi hj
            (fresh_in i hi c) (fresh_in j hj d) (sym (value_in i c) ∙ e ∙ value_in j d))
            (λ d. let r = sym (value_in i c) ∙ e ∙ value_out j d in let u = w.small i hi in absurd (omega (arith, r, u))))
            (λ c. by_cases (is_critical_word (get_or kinds j 0))
            (λ d. let r = sym (value_out i c) ∙ e ∙ value_in j d in let u = w.small j hj in absurd (omega (arith, r, u)))
            (λ d. let r = sym (value_out i c) ∙ e ∙ value_out j d in omega (arith, r)))

        clear : (p : ℕ) → p < count m → clear_at m (tab (fresh_at kinds links) k) p ≡ true
        clear p h = by_cases (is_critical_word (column m 3 p))
            (λ c. rw c (ap not (mem_none (fresh_at kinds links) k (column m 4 p) (never p h c))))
            (λ c. rw c refl)
          where
            never : (p : ℕ) → p < count m → is_critical_word (column m 3 p) ≡ true → (q : ℕ) → q < k → fresh_at kinds links q ≡ column m 4 p → ⊥
            never p h c q hq e = by_cases (is_critical_word (get_or kinds q 0))
                (λ d. true≢false
                (sym
                (subst (λ (y : ℕ). In y (codes m (count m))) (sym (sym (value_in q d) ∙ e))
                (in_codes m (count m) p h c))
                ∙ not-true _ (and_left (not (mem (get_or links q 0) (codes m (count m)))) _ (each q hq d))))
                (λ d. let r = sym (value_out q d) ∙ e in let u = link_small p h c in omega (arith, r, u))

    of_fit : labels_fit m (count m) kinds links k ≡ true → (all new all_codes && distinct all_codes) ≡ true
    of_fit t =
        and_intro
        (all_from new all_codes
        (λ v i. let r = faces_in links w.segs l w.starts v i in subst (λ (y : ℕ). new y ≡ true) r.3
        (each r.0 r.1 r.2))) (once_faces links w.segs l w.starts w.once apart)
      where
        two : (all (own_at (get_or m 0 0) (get_or m 1 0) kinds links) (tab (λ q. q) k) && distinct (tab (fresh_at kinds links) k)) ≡ true
        two = and_left (all (own_at (get_or m 0 0) (get_or m 1 0) kinds links) (tab (λ q. q) k) && distinct (tab (fresh_at kinds links) k)) _ t

        owned : (q : ℕ) → q < k → own_at (get_or m 0 0) (get_or m 1 0) kinds links q ≡ true
        owned q h = all_tab (own_at (get_or m 0 0) (get_or m 1 0) kinds links) (λ q. q) k (and_left (all (own_at (get_or m 0 0) (get_or m 1 0) kinds links) (tab (λ q. q) k)) _ two) q h

        clear : (p : ℕ) → p < count m → clear_at m (tab (fresh_at kinds links) k) p ≡ true
        clear p h =
            all_tab (clear_at m (tab (fresh_at kinds links) k)) (λ p. p) (count m)
            (and_right
            (all (own_at (get_or m 0 0) (get_or m 1 0) kinds links) (tab (λ q. q) k) && distinct (tab (fresh_at kinds links) k)) _ t)
            p h

        absent : (q : ℕ) → q < k → is_critical_word (get_or kinds q 0) ≡ true → mem (get_or links q 0) (codes m (count m)) ≡ false
        absent q h c = by_cases (mem (get_or links q 0) (codes m (count m)))
            (λ u. let r = codes_had m (count m) (get_or links q 0) u in
            let held : mem (column m 4 r.0) (tab (fresh_at kinds links) k) ≡ true = mem_place (fresh_at kinds links) k q (column m 4 r.0) h (value_in q c ∙ sym r.3) in
            let here : not (mem (column m 4 r.0) (tab (fresh_at kinds links) k)) ≡ true =
            ap (λ (d : Bool). not d || not (mem (column m 4 r.0) (tab (fresh_at kinds links) k))) (sym r.2) ∙ clear r.0 r.1
            in
            absurd (true≢false (sym held ∙ not-true _ here)))
            (λ u. u)

        each : (q : ℕ) → q < k → In (get_or b q 0) l → new (get_or links q 0) ≡ true
        each q h i = let c = in_fresh q h i in and_intro (ap not (absent q h c)) (ap (λ (d : Bool). not d || own (get_or links q 0)) (sym c) ∙ owned q h)

        apart : (q r : ℕ) → q < k → r < k → In (get_or b q 0) l → In (get_or b r 0) l → get_or links q 0 ≡ get_or links r 0 → q ≡ r
        apart q r hq hr iq ir e =
            tab_apart (fresh_at kinds links) k
            (and_right (all (own_at (get_or m 0 0) (get_or m 1 0) kinds links) (tab (λ q. q) k)) _ two) q r hq hr
            (value_in q (in_fresh q hq iq) ∙ e ∙ sym (value_in r (in_fresh r hr ir)))

    -- THE MODEL'S TEST
    pub labels_are : (t : Transfer) → critical_links t ≡ concat_map (face_links s x z kinds links) l → labels_new (block_in m) t ≡ labels_fit m (count m) kinds links k
    unfolding labels_new
    labels_are t e = ap (λ (ks : List Link). all (label_new (block_in m)) (collect (λ d. label_of d.third) ks) && distinct (map code (collect (λ d. label_of d.third) ks))) e
        ∙ ap (λ (ls : List Label). all (label_new (block_in m)) ls && distinct (map code ls)) (labels_told l w.starts (λ i h. h))
        ∙ both (all_map (label_new (block_in m)) label_in all_codes ∙ all_cong _ _ all_codes (λ a h. new_is a))
        (ap distinct (map_map label_in code all_codes ∙ map_cong _ _ all_codes (λ a h. code_in a) ∙ map_self all_codes))
        ∙ same_truth _ _ to_fit of_fit
      where
        both : {p q r u : Bool} → p ≡ q → r ≡ u → (p && r) ≡ (q && u)
        both p q = rw (p, q)
