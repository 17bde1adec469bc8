-- The links of the parts' faces by the kind and link words of their darts, and what is found among them. Assumes nothing.
use mathlib.Core.Path.{◌≡◌, refl, sym, ◌∙◌, ap}
use mathlib.Core.Bool.{Bool, true, cond}
use mathlib.Core.List.{List, [], ◌∷◌, ◌++◌, map, append_assoc}
use mathlib.Core.Logic.{⊎_elim}
use mathlib.Core.Option.{none, some, none-ne-some}
use Prim.Native.Nat.{ℕ, zero, suc, ◌+◌, ◌*◌, ◌-◌, ◌/◌, ◌%◌, ◌≤◌, ◌<◌, ◌^◌}
use native.Mathlib.Omega.{arith}
use lib.Dec.{ltb, eqb}
use lib.ListN.{length, get_or, length-map}
use borrow.Author.Tests.{eqb-true, eq-eqb, ne_eqb, ltb-true}
use Rattle.model.specs.Lists.{all, mem, tab, find, zip, concat_map}
use Rattle.model.specs.Values.{Label, Third, critical, code}
use Rattle.model.specs.Image.{label_in, third_in}
use Rattle.model.specs.Messages.{Part3, Part4, Transfer}
use Rattle.model.specs.Links.{Link, label_links}
use Rattle.model.specs.Arrival.{face_from, part3_links, part4_links, critical_links}
use Rattle.laws.proofs.Tests.{by_cases, and_left, and_right, eq_or_ne}
use Rattle.laws.proofs.Maps.{map_at}
use Rattle.laws.proofs.Tables.{tab_cong, find_none}
use Rattle.laws.proofs.Labels.{in_code}
use Rattle.arrival.specs.Sides.{Segments}
use Rattle.parts.specs.Indices.{starts_at}
use Rattle.parts.specs.Segments.{link_of, face_links}

-- FOUND AMONG LISTS OF LINKS
module _ {A : Type 0} (key : A → ℕ) where
  find_left : (y : ℕ) (l r : List A) {d : A} → find key y l ≡ some d → find key y (l ++ r) ≡ some d
  find_left y [] r e = absurd (none-ne-some _ e)
  find_left y (a ∷ l) r {d} e =
      by_cases (eqb y (key a)) (λ t. rw t (sym (ap (λ (c : Bool). cond c (some a) (find key y l)) t) ∙ e))
      (λ t. rw t (find_left y l r (sym (ap (λ (c : Bool). cond c (some a) (find key y l)) t) ∙ e)))

  find_right : (y : ℕ) (l r : List A) → find key y l ≡ none → find key y (l ++ r) ≡ find key y r
  find_right y [] r e = refl
  find_right y (a ∷ l) r e = by_cases (eqb y (key a))
      (λ t. absurd (none-ne-some _ (sym e ∙ ap (λ (c : Bool). cond c (some a) (find key y l)) t)))
      (λ t. rw t (find_right y l r (sym (ap (λ (c : Bool). cond c (some a) (find key y l)) t) ∙ e)))

  pub find_first : (f : ℕ → A) (n p y : ℕ) → p < n → key (f p) ≡ y → ((i : ℕ) → i < p → key (f i) ≡ y → ⊥) → find key y (tab f n) ≡ some (f p)
  find_first f zero p y h e u = absurd (omega arith)
  find_first f (suc n) zero y h e u = rw (eq-eqb y (key (f 0)) (sym e)) refl
  find_first f (suc n) (suc p) y h e u = rw (ne_eqb y (key (f 0)) (λ q. u 0 (omega arith) (sym q))) (find_first (λ i. f (suc i)) n p y (omega arith) e (λ i l. u (suc i) (omega arith)))

module _ (s : ℕ → ℕ) (x : List ℕ) {b z : List ℕ} (kinds links : List ℕ) {k : ℕ} (segs : Segments b z k) (differ : (i j : ℕ) → i < k → j < k → get_or x i 0 ≡ get_or x j 0 → i ≡ j) where
  -- the link of a dart whose face is one of those, and of no other
  pub link_found : (l : List ℕ) → all (starts_at b k) l ≡ true → (q : ℕ) → q < k
      → find (λ m. m.dart) (get_or x q 0) (concat_map (face_links s x z kinds links) l) ≡ cond (mem (get_or b q 0) l) (some (link_of s x kinds links q)) none
  link_found [] t q h = refl
  link_found (i ∷ l) t q h = ⊎_elim
      (λ (e : get_or b q 0 ≡ i). find_left (λ m. m.dart) (get_or x q 0) (face_links s x z kinds links i) (concat_map (face_links s x z kinds links) l) (here e) ∙ sym (rw (eq-eqb (get_or b q 0) i e) refl))
      (λ (e : get_or b q 0 ≡ i → ⊥). find_right (λ m. m.dart) (get_or x q 0) (face_links s x z kinds links i)
      (concat_map (face_links s x z kinds links) l) (not_here e) ∙ link_found l (and_right (starts_at b k i) _ t) q h ∙ sym
      (rw (ne_eqb (get_or b q 0) i e) refl))
      (eq_or_ne (get_or b q 0) i)
    where
      small : i < k
      small = ltb-true i k (and_left (ltb i k) _ (and_left (starts_at b k i) _ t))

      start : get_or b i 0 ≡ i
      start = eqb-true (get_or b i 0) i (and_right (ltb i k) _ (and_left (starts_at b k i) _ t))

      here : get_or b q 0 ≡ i → find (λ m. m.dart) (get_or x q 0) (face_links s x z kinds links i) ≡ some (link_of s x kinds links q)
      here e =
          let low = segs.start_le q h in
          let high = segs.end_above q h in
          let size : get_or z i 0 ≡ get_or z q 0 = segs.same_size q h i (omega arith) (omega arith) in
          let at : i + (q - i) ≡ q = omega arith in
          find_first (λ m. m.dart) (λ j. link_of s x kinds links (i + j)) (get_or z i 0) (q - i) (get_or x q 0) (omega arith) (ap (λ (p : ℕ). get_or x p 0) at)
          (λ j l d. let m = differ (i + j) q (omega (arith, l)) h d in omega arith)
          ∙ ap (λ (p : ℕ). some (link_of s x kinds links p)) at

      not_here : (get_or b q 0 ≡ i → ⊥) → find (λ m. m.dart) (get_or x q 0) (face_links s x z kinds links i) ≡ none
      not_here e = find_none (λ m. m.dart) (λ j. link_of s x kinds links (i + j)) (get_or z i 0) (get_or x q 0)
          (λ j l d. let within = segs.end_within i small in
          let m = differ (i + j) q (omega (arith, within, start, l)) h d in
          e (ap (λ (p : ℕ). get_or b p 0) (sym m) ∙ segs.same_start i small (i + j) (omega (arith, start)) (omega (arith, start, l)) ∙ start))

-- PARTS 3 AND 4
abbrev no_label : Label
no_label = record { maker = 0; number = 0; position = 0 }

zip_links : (other : ℕ) (f : ℕ → ℕ) (n : ℕ) (ls : List Label) → length ls ≡ n
    → map {B = Link} (λ p. record { dart = p.0; third = critical other p.1 }) (zip (tab f n) ls)
    ≡ tab (λ j. record { dart = f j; third = critical other (get_or ls j no_label) }) n
zip_links other f zero ls e = refl
zip_links other f (suc n) [] e = absurd (omega (arith, e))
zip_links other f (suc n) (l ∷ ls) e = ap (λ (m : List Link). record { dart = f 0; third = critical other l } ∷ m) (zip_links other (λ j. f (suc j)) n ls (omega (arith, e)))

third_is : (s : ℕ → ℕ) (o a : ℕ) → third_in s (2 + 4 * o) a ≡ critical o (label_in a)
unfolding third_in
third_is s o a = rw (ne_eqb ((2 + 4 * o) % 4) 0 (λ e. omega arith), ne_eqb ((2 + 4 * o) % 4) 1 (λ e. omega arith)) (ap (λ (c : ℕ). critical c (label_in a)) other)
  where
    other : (2 + 4 * o) / 4 ≡ o
    other = omega arith

labels_tab : (o maker number pos : ℕ) (f : ℕ → ℕ) (n : ℕ)
    → label_links (λ x. x) o maker number pos (tab f n)
    ≡ tab (λ j. record { dart = f j; third = critical o (record { maker = maker; number = number; position = pos + j }) }) n
unfolding label_links
labels_tab o maker number pos f zero = refl
labels_tab o maker number pos f (suc n) = two
    (ap (λ (p : ℕ). record { dart = f 0; third = critical o (record { maker = maker; number = number; position = p }) }) (none_more pos))
    (labels_tab o maker number (suc pos) (λ j. f (suc j)) n
    ∙ tab_cong _ _ n
    (λ j h. ap
    (λ (p : ℕ). record { dart = f (suc j); third = critical o (record { maker = maker; number = number; position = p }) })
    (one_more pos j)))
  where
    none_more : (p : ℕ) → p ≡ p + 0
    none_more p = omega arith

    one_more : (p j : ℕ) → suc p + j ≡ p + suc j
    one_more p j = omega arith

    two : {a c : Link} {l m : List Link} → a ≡ c → l ≡ m → a ∷ l ≡ c ∷ m
    two p q = rw (p, q) refl

numbered_back : (maker number j : ℕ) → number < 2 ^ 32 → j < 4096 → label_in ((maker * 2 ^ 32 + number) * 4096 + j) ≡ record { maker = maker; number = number; position = 0 + j }
unfolding code
numbered_back maker number j h l = ap label_in same ∙ in_code (record { maker = maker; number = number; position = 0 + j }) h (omega arith)
  where
    same : (maker * 2 ^ 32 + number) * 4096 + j ≡ (maker * 2 ^ 32 + number) * 4096 + (0 + j)
    same = omega arith

module _ (t : Transfer) (s : ℕ → ℕ) (x z kinds links : List ℕ) (i : ℕ) (face : face_from t i ≡ tab (λ j. get_or x (i + j) 0) (get_or z i 0)) where
  pub part3_is : (number : ℕ) → number < 2 ^ 32 → get_or z i 0 ≤ 4096 → ((j : ℕ) → j < get_or z i 0 → get_or kinds (i + j) 0 ≡ 2 + 4 * t.from)
      → ((j : ℕ) → j < get_or z i 0 → get_or links (i + j) 0 ≡ (t.from * 2 ^ 32 + number) * 4096 + j)
      → part3_links t (record { number = number; index = i }) ≡ face_links s x z kinds links i
  unfolding part3_links
  part3_is number small few kind link = ap (label_links (λ x. x) t.from t.from number 0) face ∙ labels_tab t.from t.from number 0 (λ j. get_or x (i + j) 0) (get_or z i 0)
      ∙ tab_cong _ _ (get_or z i 0)
      (λ j h. ap (λ (d : Third). record { dart = get_or x (i + j) 0; third = d })
      (sym
      (ap (λ (w : ℕ). third_in s w (get_or links (i + j) 0)) (kind j h) ∙ third_is s t.from (get_or links (i + j) 0)
      ∙ ap (critical t.from) (ap label_in (link j h) ∙ numbered_back t.from number j small (omega arith)))))

  -- PART 4
  pub part4_is : (other : ℕ) (ls : List Label) → length ls ≡ get_or z i 0 → map label_in (map code ls) ≡ ls
      → ((j : ℕ) → j < get_or z i 0 → get_or kinds (i + j) 0 ≡ 2 + 4 * other)
      → ((j : ℕ) → j < get_or z i 0 → get_or links (i + j) 0 ≡ get_or (map code ls) j 0)
      → part4_links t (record { index = i; other = other; labels = ls }) ≡ face_links s x z kinds links i
  unfolding part4_links
  part4_is other ls count back kind link = ap (λ (f : List ℕ). map {B = Link} (λ p. record { dart = p.0; third = critical other p.1 }) (zip f ls)) face
      ∙ zip_links other (λ j. get_or x (i + j) 0) (get_or z i 0) ls count
      ∙ tab_cong _ _ (get_or z i 0)
      (λ j h. ap (λ (d : Third). record { dart = get_or x (i + j) 0; third = d })
      (sym
      (ap (λ (w : ℕ). third_in s w (get_or links (i + j) 0)) (kind j h) ∙ third_is s other (get_or links (i + j) 0)
      ∙ ap (critical other) (ap label_in (link j h) ∙ same j h))))
    where
      same : (j : ℕ) → j < get_or z i 0 → label_in (get_or (map code ls) j 0) ≡ get_or ls j no_label
      same j h = sym (map_at label_in 0 no_label (map code ls) j (omega (arith, h, count, length-map ls code))) ∙ ap (λ (l : List Label). get_or l j no_label) back

-- ALL CRITICAL LINKS
concat_map_append : {A B : Type 0} (f : A → List B) (l r : List A) → concat_map f (l ++ r) ≡ concat_map f l ++ concat_map f r
concat_map_append f [] r = refl
concat_map_append f (a ∷ l) r = ap (λ (m : List _). f a ++ m) (concat_map_append f l r) ∙ sym (append_assoc (f a) (concat_map f l) (concat_map f r))

-- of the entries of a part, in arrays
part_are : {A : Type 0} (parts : A → List Link) (of : ℕ → List Link) (entry : ℕ → A) (index : ℕ → ℕ) (c : ℕ)
    → ((e : ℕ) → e < c → parts (entry e) ≡ of (index e)) → concat_map parts (tab entry c) ≡ concat_map of (tab index c)
part_are parts of entry index zero h = refl
part_are parts of entry index (suc c) h = two (h 0 (omega arith)) (part_are parts of (λ e. entry (suc e)) (λ e. index (suc e)) c (λ e l. h (suc e) (omega arith)))
  where
    two : {a b l m : List Link} → a ≡ b → l ≡ m → a ++ l ≡ b ++ m
    two p q = rw (p, q) refl

pub critical_are : (t : Transfer) (of : ℕ → List Link) (entry3 : ℕ → Part3) (index3 : ℕ → ℕ) (c3 : ℕ) (entry4 : ℕ → Part4) (index4 : ℕ → ℕ)
    (c4 : ℕ) → t.part3 ≡ tab entry3 c3 → t.part4 ≡ tab entry4 c4
    → ((e : ℕ) → e < c3 → part3_links t (entry3 e) ≡ of (index3 e)) → ((e : ℕ) → e < c4 → part4_links t (entry4 e) ≡ of (index4 e)) → critical_links t ≡ concat_map of (tab index3 c3 ++ tab index4 c4)
unfolding critical_links
critical_are t of entry3 index3 c3 entry4 index4 c4 p q g h =
    two (ap (concat_map (part3_links t)) p ∙ part_are (part3_links t) of entry3 index3 c3 g) (ap (concat_map (part4_links t)) q ∙ part_are (part4_links t) of entry4 index4 c4 h)
    ∙ sym (concat_map_append of (tab index3 c3) (tab index4 c4))
  where
    two : {a b l m : List Link} → a ≡ b → l ≡ m → a ++ l ≡ b ++ m
    two p q = rw (p, q) refl
