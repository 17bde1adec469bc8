-- The model's test of part 2, from the arrays of its entries. Assumes nothing.
use mathlib.Core.Path.{◌≡◌, refl, sym, ◌∙◌, ap}
use mathlib.Core.Logic.{◌⊎◌, inl, inr, ⊎_elim}
use mathlib.Core.Bool.{Bool, true, false, true≢false, not, ◌&&◌}
use mathlib.Core.List.{List, map}
use Prim.Native.Nat.{ℕ, ◌+◌, ◌*◌, ◌-◌, ◌≤◌, ◌<◌}
use native.Mathlib.Omega.{arith}
use lib.Dec.{ltb, eqb}
use lib.ListN.{length, get_or, take}
use lib.Seq.{get_or-take}
use borrow.Author.Tests.{eqb-true, ltb-true, lt-ltb}
use Rattle.model.specs.Lists.{all, mem, distinct, least, tab, zip}
use Rattle.model.specs.Values.{Dart, code, no_dart, is_critical_with}
use Rattle.model.specs.Cells.{cycle, dart_at, labelled, next_in, previous_in}
use Rattle.model.specs.Image.{count_in, column, dart_in, holds_block}
use Rattle.model.specs.Messages.{Part2, Transfer, size_all}
use Rattle.model.specs.Arrival.{new_darts, face_from, points_meet, part2_right, part2_apart}
use Rattle.laws.proofs.Tests.{by_cases, lt_or_ge, and_intro, and_left, and_right, same_truth}
use Rattle.laws.proofs.Members.{In, in_eq, least_below, least_among}
use Rattle.laws.proofs.Orbits.{iter}
use Rattle.laws.proofs.Faces.{face_stays, face_self, face_trans, face_sym}
use Rattle.laws.proofs.Tables.{all_tab, tab_all, getD_tab, tab_cong, map_tab, one_place, dart_place, tab_apart, tab_distinct}
use Rattle.theory.proofs.ImageLaws.{tab_list}
use Rattle.columns.proofs.Question.{image_passed}
use Rattle.cells.proofs.Reached.{places, in_places, places_below, within_places}
use Rattle.cells.proofs.Paths.{apart_places, few_places}
use Rattle.cells.proofs.VertexSerials.{least_map}
use Rattle.cells.proofs.FaceSerials.{cycle_carried}
use Rattle.cells.proofs.Sited.{Sited, sited, darts_in}
use Rattle.inbox.specs.Inbox.{FacesIn, is_hollow, points_in}
use Rattle.arrival.specs.Draft.{Draft}
use Rattle.arrival.proofs.DraftLaws.{serial_of}
use Rattle.arrival.proofs.DraftLaws as drafts
use Rattle.arrival.proofs.NewDarts.{same_darts}
use Rattle.arrival.proofs.PairLaws.{all_index, all_same}
use Rattle.parts.specs.Entries.{code2}
use Rattle.parts.specs.Locate.{Located, LocatedAt}
use Rattle.parts.specs.Meets.{meet_at, met_at, entry_right}
use Rattle.parts.specs.Sewing.{clear_of, face_size, passes_at}
use Rattle.parts.proofs.FaceStarts.{face_is}
use Rattle.parts.proofs.LabelledDarts.{labelled_at, labelled_none}
use Rattle.parts.proofs.Meeting.{part2_is}
use Rattle.parts.proofs.Trails.{met_is}

-- ONE ENTRY
last : (b f g h : Bool) → (f ≡ true → g ≡ h) → (b && f && g) ≡ (b && f && h)
last b true g h r = ap (λ (v : Bool). b && true && v) (r refl)
last true false g h r = refl
last false false g h r = refl

module _ {v x b z keys ranks q s : List ℕ} {at k : ℕ} {d : List ℕ} (w : Draft v x b z keys ranks q s at k d)
    (t : Transfer) (inside : FacesIn t.faces v x b z) (full : is_hollow t.faces ≡ false) (darts : k ≡ size_all t.faces)
    {p : ℕ} (points : t.points ≡ points_in s at p) (vertices : (i : ℕ) → i < k → get_or v i 0 < p)
    (m : List ℕ) (ok : holds_block m ≡ true) where
  new_at : (i : ℕ) → i < count_in d → dart_at (new_darts t) (column d 0 i) ≡ dart_in d i
  new_at i h = same_darts w t inside darts points vertices (column d 0 i) ∙ dart_place (dart_in d) (count_in d) i (drafts.sited w).ascends h

  new_next : (i : ℕ) → i < count_in d → column d 1 i < count_in d
  new_next i h = (drafts.sited w).linked.next_within i h

  -- the entry whose face starts at index i, and whose label the dart at place y has
  pub entry_is : (e : Part2) (i y : ℕ) → e.index ≡ i → i < k → get_or b i 0 ≡ i → i + get_or z i 0 ≤ k → y < count_in m → labelled e.label (darts_in m) ≡ dart_in m y
      → part2_right (darts_in m) t e ≡ entry_right m d ranks t.from y i (get_or z i 0)
  entry_is e i y ei hi s fits hy found =
      part2_is m d t ok new_at new_next e (λ j. get_or ranks (i + j) 0) (get_or z i 0) y face below hy found
      ∙ last (eqb (column m 3 y) (2 + 4 * t.from)) (eqb (get_or z i 0) size) _ _ (λ same. all_same _ _ (get_or z i 0) (λ j h. ap (meet_at m d (get_or ranks (i + j) 0)) (met j h (eqb-true _ _ same))))
    where
      size : ℕ
      size = length (cycle (column m 1) y)

      face : face_from t e.index ≡ tab (λ j. column d 0 (get_or ranks (i + j) 0)) (get_or z i 0)
      face = ap (face_from t) ei ∙ face_is v x b z t inside full i (omega (arith, hi, darts)) s ∙ tab_cong _ _ (get_or z i 0) (λ j h. sym (serial_of w (i + j) (omega (arith, fits, h))))

      below : (j : ℕ) → j < get_or z i 0 → get_or ranks (i + j) 0 < count_in d
      below j h = let r = w.ranked.rank_below (i + j) (omega (arith, fits, h)) in let c = w.drafted.count_is in omega (arith, r, c)

      met : (j : ℕ) → j < get_or z i 0 → get_or z i 0 ≡ length (cycle (column m 1) y) → iter (column m 1) (length (cycle (column m 1) y) - j) y ≡ met_at (cycle (column m 1) y) (get_or z i 0) j
      met j h same = sym (ap (λ (c : ℕ). met_at (cycle (column m 1) y) c j) same ∙ met_is (sited m ok).linked hy j (omega (arith, h, same)))

-- no dart has its label
pub entry_none : (ds : List Dart) (t : Transfer) (e : Part2) → labelled e.label ds ≡ no_dart → part2_right ds t e ≡ false
unfolding part2_right no_dart
entry_none ds t e found =
    ap
    (λ (h : Dart). is_critical_with t.from h.third && eqb (length (face_from t e.index))
    (length (cycle (previous_in ds) h.serial)) && all (λ p. points_meet ds t p.0 p.1)
    (zip (face_from t e.index) (cycle (previous_in ds) h.serial))) found

-- FACES by their least dart
module _ {m : List ℕ} (site : Sited m) where
  self : (x : ℕ) → x < count_in m → In x (cycle (column m 1) x)
  unfolding cycle
  self x h =
      face_self (column m 1) (places (count_in m)) (within_places site.linked.next_within)
      (apart_places site.linked.next_apart) (few_places site.linked.few) x (in_places (count_in m) x h)

  stays : (x y : ℕ) → x < count_in m → In y (cycle (column m 1) x) → y < count_in m
  unfolding cycle
  stays x y h k =
      places_below (count_in m) y
      (face_stays (column m 1) (places (count_in m)) (within_places site.linked.next_within)
      (apart_places site.linked.next_apart) (few_places site.linked.few) x y (in_places (count_in m) x h) k)

  along : (x y z : ℕ) → x < count_in m → In y (cycle (column m 1) x) → In z (cycle (column m 1) y) → In z (cycle (column m 1) x)
  unfolding cycle
  along x y z h =
      face_trans (column m 1) (places (count_in m)) (within_places site.linked.next_within)
      (apart_places site.linked.next_apart) (few_places site.linked.few) x y z (in_places (count_in m) x h)

  back : (x y : ℕ) → x < count_in m → In y (cycle (column m 1) x) → In x (cycle (column m 1) y)
  unfolding cycle
  back x y h =
      face_sym (column m 1) (places (count_in m)) (within_places site.linked.next_within)
      (apart_places site.linked.next_apart) (few_places site.linked.few) x y (in_places (count_in m) x h)

  lowest : (x : ℕ) → x < count_in m → In (least (cycle (column m 1) x)) (cycle (column m 1) x)
  lowest x h = least_among (cycle (column m 1) x) x (self x h)

  -- one face, one least dart
  same_least : (x y : ℕ) → x < count_in m → y < count_in m → In y (cycle (column m 1) x) → least (cycle (column m 1) x) ≡ least (cycle (column m 1) y)
  same_least x y hx hy k =
      let a = least_below (cycle (column m 1) x) _ (along x y _ hx k (lowest y hy)) in
      let b = least_below (cycle (column m 1) y) _ (along y x _ hy (back x y hx k) (lowest x hx)) in
      omega (arith, a, b)

  least_same : (x y : ℕ) → x < count_in m → y < count_in m → least (cycle (column m 1) x) ≡ least (cycle (column m 1) y) → In y (cycle (column m 1) x)
  least_same x y hx hy e =
      let l = least (cycle (column m 1) x) in
      let there : In l (cycle (column m 1) y) = in_eq l (least (cycle (column m 1) y)) (cycle (column m 1) y) e (lowest y hy) in
      along x l y hx (lowest x hx) (back y l hy there)

  least_serial : (x : ℕ) → x < count_in m → least (cycle (next_in (darts_in m)) (column m 0 x)) ≡ column m 0 (least (cycle (column m 1) x))
  least_serial x h = ap least (sym (cycle_carried site x h)) ∙ least_map site.ascends (cycle (column m 1) x) x (self x h) (λ y k. stays x y h k)

  low_below : (x : ℕ) → x < count_in m → least (cycle (column m 1) x) < count_in m
  low_below x h = stays x _ h (lowest x h)

-- ALL, by what one entry says
pub three_yes : (a b c : Bool) → (a && b && c) ≡ true → (a ≡ true) × (b ≡ true) × (c ≡ true)
three_yes true true true e = (refl, refl, refl)
three_yes true true false e = absurd (true≢false (sym e))
three_yes true false c e = absurd (true≢false (sym e))
three_yes false b c e = absurd (true≢false (sym e))

yes_three : {a b c : Bool} → a ≡ true → b ≡ true → c ≡ true → (a && b && c) ≡ true
yes_three p q r = rw (p, q, r) refl

by_entries : (passes right : ℕ → Bool) (key : ℕ → ℕ) (c : ℕ) → ((e : ℕ) → e < c → passes e ≡ true → right e ≡ true)
    → ((d e : ℕ) → d < e → e < c → passes d ≡ true → passes e ≡ true → key d ≡ key e → ⊥)
    → (((e : ℕ) → e < c → right e ≡ true) → ((d e : ℕ) → d < e → e < c → key d ≡ key e → ⊥) → (e : ℕ) → e < c → passes e ≡ true)
    → all passes (tab (λ e. e) c) ≡ (all right (tab (λ e. e) c) && distinct (tab key c))
by_entries passes right key c one two three = same_truth _ _
    (λ t. and_intro (tab_all right (λ e. e) c (λ e h. one e h (all_tab passes (λ e. e) c t e h))) (tab_distinct key c (λ i j hi hj q. differ t i j hi hj q)))
    (λ t. tab_all passes (λ e. e) c
    (three (λ e h. all_tab right (λ e. e) c (and_left (all right (tab (λ e. e) c)) (distinct (tab key c)) t) e h)
    (λ d e l h q. let r = tab_apart key c (and_right (all right (tab (λ e. e) c)) (distinct (tab key c)) t) d e (omega arith) h q in
    omega (arith, r, l))))
  where
    differ : all passes (tab (λ e. e) c) ≡ true → (i j : ℕ) → i < c → j < c → key i ≡ key j → i ≡ j
    differ t i j hi hj q = ⊎_elim
        (λ (l : i < j). absurd (two i j l hj (all_tab passes (λ e. e) c t i hi) (all_tab passes (λ e. e) c t j hj) q))
        (λ (l : j ≤ i). ⊎_elim
        (λ (u : j < i). absurd (two j i u hi (all_tab passes (λ e. e) c t j hj) (all_tab passes (λ e. e) c t i hi) (sym q)))
        (λ (u : i ≤ j). omega arith)
        (lt_or_ge j i))
        (lt_or_ge i j)

-- stands for no entry
pub no_entry : Part2
no_entry = record { label = record { maker = 0; number = 0; position = 0 }; index = 0 }

-- entry e of part 2
abbrev pub entry : Transfer → ℕ → Part2
entry t e = get_or t.part2 e no_entry

pub entries_tab : (t : Transfer) → t.part2 ≡ tab (entry t) (length t.part2)
entries_tab t = sym (tab_list no_entry t.part2 (entry t) (λ p h. refl))

module _ (m d ranks z codes places indices : List ℕ) (t : Transfer) (ok : holds_block m ≡ true)
    (codes_are : take (length t.part2) codes ≡ map code2 t.part2) (located : Located m codes (length t.part2) (count_in m) places)
    (each : (e y : ℕ) → e < length t.part2 → y < count_in m → labelled (entry t e).label (darts_in m) ≡ dart_in m y
    → part2_right (darts_in m) t (entry t e) ≡ entry_right m d ranks t.from y (get_or indices e 0) (face_size z indices e)) where
  abbrev pub right : ℕ → Bool
  right e = part2_right (darts_in m) t (entry t e)

  abbrev pub key : ℕ → ℕ
  key e = least (cycle (next_in (darts_in m)) (labelled (entry t e).label (darts_in m)).serial)

  abbrev pub passes : ℕ → Bool
  passes = passes_at m d ranks z places indices (count_in m) t.from

  code_of : (e : ℕ) → e < length t.part2 → get_or codes e 0 ≡ code (entry t e).label
  code_of e h =
      sym (get_or-take (length t.part2) codes e 0 h) ∙ ap (λ (l : List ℕ). get_or l e 0) (codes_are ∙ ap (map code2) (entries_tab t) ∙ map_tab code2 (entry t) (length t.part2))
      ∙ getD_tab (λ e. code2 (entry t e)) (length t.part2) e 0 h

  abbrev pub Found : ℕ → Type 0
  Found e = (get_or places e 0 < count_in m) × (labelled (entry t e).label (darts_in m) ≡ dart_in m (get_or places e 0))

  found_or : (e : ℕ) → e < length t.part2 → Found e ⊎ ((count_in m ≤ get_or places e 0) × (right e ≡ false))
  found_or e h = go (located.each e h)
    where
      go : LocatedAt m (get_or codes e 0) (count_in m) (get_or places e 0) → Found e ⊎ ((count_in m ≤ get_or places e 0) × (right e ≡ false))
      go (inl f) = inl (f.0, labelled_at (image_passed m ok) (entry t e).label (get_or places e 0) f.0 f.1 (f.2 ∙ code_of e h))
      go (inr f) =
          inr (
            (let few = (sited m ok).linked.few in let y = f.0 in omega (arith, few, y)),
            entry_none (darts_in m) t (entry t e)
                (labelled_none (image_passed m ok) (entry t e).label (λ p l k q. f.1 p l k (q ∙ sym (code_of e h)))),
          )

  key_is : (e : ℕ) → Found e → key e ≡ column m 0 (least (cycle (column m 1) (get_or places e 0)))
  key_is e f = ap (λ (h : Dart). least (cycle (next_in (darts_in m)) h.serial)) f.1 ∙ least_serial (sited m ok) (get_or places e 0) f.0

  pub parts_of : (e : ℕ) → passes e ≡ true
      → (ltb (get_or places e 0) (count_in m) ≡ true) × (clear_of m places e (get_or places e 0) ≡ true)
      × (entry_right m d ranks t.from (get_or places e 0) (get_or indices e 0) (face_size z indices e) ≡ true)
  parts_of e q = three_yes (ltb (get_or places e 0) (count_in m)) (clear_of m places e (get_or places e 0)) (entry_right m d ranks t.from (get_or places e 0) (get_or indices e 0) (face_size z indices e)) q

  pub passes_found : (e : ℕ) → e < length t.part2 → passes e ≡ true → Found e
  passes_found e h q = go (found_or e h)
    where
      go : Found e ⊎ ((count_in m ≤ get_or places e 0) × (right e ≡ false)) → Found e
      go (inl f) = f
      go (inr f) = absurd (let l = ltb-true (get_or places e 0) (count_in m) (parts_of e q).0 in let g = f.0 in omega (arith, l, g))

  right_found : (e : ℕ) → e < length t.part2 → right e ≡ true → Found e
  right_found e h q = go (found_or e h)
    where
      go : Found e ⊎ ((count_in m ≤ get_or places e 0) × (right e ≡ false)) → Found e
      go (inl f) = f
      go (inr f) = absurd (true≢false (sym q ∙ f.1))

  one : (e : ℕ) → e < length t.part2 → passes e ≡ true → right e ≡ true
  one e h q = let f = passes_found e h q in each e (get_or places e 0) h f.0 f.1 ∙ (parts_of e q).2

  two : (d e : ℕ) → d < e → e < length t.part2 → passes d ≡ true → passes e ≡ true → key d ≡ key e → ⊥
  two d e l h pd pe q =
      let f = passes_found d (omega arith) pd in
      let g = passes_found e h pe in
      let site = sited m ok in
      let low = one_place site.ascends (low_below site (get_or places d 0) f.0) (low_below site (get_or places e 0) g.0) (sym (key_is d f) ∙ q ∙ key_is e g) in
      let clear : not (mem (get_or places e 0) (cycle (column m 1) (get_or places d 0))) ≡ true =
      all_tab (λ d. not (mem (get_or places e 0) (cycle (column m 1) (get_or places d 0)))) (λ d. d) e (parts_of e pe).1 d l
      in
      true≢false (sym clear ∙ ap not (least_same site (get_or places d 0) (get_or places e 0) f.0 g.0 low))

  three : ((e : ℕ) → e < length t.part2 → right e ≡ true) → ((d e : ℕ) → d < e → e < length t.part2 → key d ≡ key e → ⊥) → (e : ℕ) → e < length t.part2 → passes e ≡ true
  three rights apart e h =
      let g = right_found e h (rights e h) in
      yes_three (lt-ltb (get_or places e 0) (count_in m) g.0)
      (tab_all (λ d. not (mem (get_or places e 0) (cycle (column m 1) (get_or places d 0)))) (λ d. d) e (λ d l. clear d l g))
      (sym (each e (get_or places e 0) h g.0 g.1) ∙ rights e h)
    where
      clear : (d : ℕ) → d < e → Found e → not (mem (get_or places e 0) (cycle (column m 1) (get_or places d 0))) ≡ true
      clear d l g = by_cases (mem (get_or places e 0) (cycle (column m 1) (get_or places d 0)))
          (λ q. let f = right_found d (omega arith) (rights d (omega arith)) in absurd
          (apart d e l h
          (key_is d f ∙ ap (column m 0) (same_least (sited m ok) (get_or places d 0) (get_or places e 0) f.0 g.0 q)
          ∙ sym (key_is e g))))
          (λ q. ap not q)

  -- all entries pass exactly if the model says yes
  pub part2_told : all passes (tab (λ e. e) (length t.part2)) ≡ (all (part2_right (darts_in m) t) t.part2 && part2_apart (darts_in m) t.part2)
  unfolding part2_apart
  part2_told =
      by_entries passes right key (length t.part2) one two three
      ∙ both (sym (ap (all (part2_right (darts_in m) t)) (entries_tab t) ∙ all_index (part2_right (darts_in m) t) (entry t) (length t.part2)))
      (ap distinct
      (sym
      (ap (map (λ e. least (cycle (next_in (darts_in m)) (labelled e.label (darts_in m)).serial))) (entries_tab t)
      ∙ map_tab (λ e. least (cycle (next_in (darts_in m)) (labelled e.label (darts_in m)).serial)) (entry t) (length t.part2))))
    where
      both : {a b c g : Bool} → a ≡ b → c ≡ g → (a && c) ≡ (b && g)
      both p q = rw (p, q) refl
