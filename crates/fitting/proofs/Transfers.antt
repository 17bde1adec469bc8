-- The links of a transfer, by the places that the faces of part 2 meet. Assumes nothing.
use mathlib.Core.Path.{◌≡◌, refl, sym, ◌∙◌, ap, subst}
use mathlib.Core.Bool.{Bool, true, false, true≢false, not, ◌&&◌}
use mathlib.Core.List.{List, [], ◌++◌, map}
use mathlib.Core.Logic.{⊎_elim}
use Prim.Native.Nat.{ℕ, zero, suc, ◌+◌, ◌-◌, ◌≤◌, ◌<◌}
use native.Mathlib.Omega.{arith}
use lib.Dec.{leb}
use lib.ListN.{length, get_or, take, length-map}
use lib.Seq.{get_or-take, length-take-le}
use borrow.Author.Tests.{not-true}
use Rattle.model.specs.Lists.{all, ascending, distinct, tab, zip, concat_map}
use Rattle.model.specs.Values.{Dart, code, finite, message_darts}
use Rattle.model.specs.Cells.{cycle, held, labelled, previous_in}
use Rattle.model.specs.Image.{column, dart_in, block_in, holds_block}
use Rattle.model.specs.Messages.{Part2, Transfer}
use Rattle.model.specs.Links.{Link, sew_both}
use Rattle.model.specs.Arrival.{face_from, part2_links, transfer_links, indices_right, part2_apart}
use Rattle.laws.proofs.Tests.{and_left, and_right}
use Rattle.laws.proofs.Maps.{map_at}
use Rattle.laws.proofs.Members.{In, all_in, all_from, append_in}
use Rattle.laws.proofs.Orbits.{iter}
use Rattle.laws.proofs.Tables.{all_tab, tab_cong, one_place, ascending_tab, held_place}
use Rattle.theory.proofs.ImageLaws.{tab_list}
use Rattle.columns.specs.Columns.{Kind}
use Rattle.columns.proofs.Question.{image_passed}
use Rattle.cells.proofs.Sited.{Sited, sited, darts_in}
use Rattle.inbox.specs.Inbox.{points_in}
use Rattle.inbox.specs.declared.message.Tail.{Tail}
use Rattle.arrival.specs.Sides.{Segments}
use Rattle.arrival.specs.Draft.{Draft, NewSerials}
use Rattle.arrival.proofs.DraftLaws.{serials_differ}
use Rattle.arrival.proofs.SegmentLaws.{segments}
use Rattle.parts.specs.Entries.{code2, index2, index3, index4}
use Rattle.parts.specs.Indices.{starts_at, part_fits, indices_fit}
use Rattle.parts.specs.Faces.{Faced}
use Rattle.parts.specs.Segments.{face_links}
use Rattle.parts.specs.Critical.{Arrives, CriticalTold}
use Rattle.parts.proofs.FaceStarts.{face_is}
use Rattle.parts.proofs.IndexLaws.{indices_are}
use Rattle.parts.proofs.Assembled.{up, below, start}
use Rattle.parts.proofs.LabelledDarts.{labelled_at}
use Rattle.parts.proofs.Backwards.{met_face}
use Rattle.join.specs.Join.{Linking}
use Rattle.fitting.specs.Bringing.{met_links, LabelsApart, Meets, Sewing2, steps, Placing2, MetOnce}
use Rattle.fitting.proofs.Found.{sew_tab}
use Rattle.fitting.proofs.Brought.{linking}
use Rattle.fitting.proofs.MetFaces.{apart_differ, differ_apart}

pub steps_iter : (f : ℕ → ℕ) (k y : ℕ) → steps f k y ≡ iter f k y
steps_iter f zero y = refl
steps_iter f (suc k) y = steps_iter f k (f y)

-- THE SERIALS of new darts that the block does not hold
pub serials_apart : (m x : List ℕ) (k : ℕ) → Sited m → ((i j : ℕ) → i < k → j < k → get_or x i 0 ≡ get_or x j 0 → i ≡ j)
    → ((i : ℕ) → i < k → held (darts_in m) (get_or x i 0) ≡ false) → LabelsApart (column m 0) x (get_or m 2 0) k
serials_apart m x k site differ free = record {
  new_differ = differ;
  old_differ = λ p q hp hq e. one_place site.ascends hp hq e;
  not_held = λ i p hi hp e. true≢false (sym (held_place (dart_in m) (get_or m 2 0) p (get_or x i 0) hp e) ∙ free i hi);
}

-- those that question 18 finds new, in a draft
pub drafted_apart : (m : List ℕ) {v x b z keys ranks q s d : List ℕ} {from from' n k : ℕ} {r : Bool} → Sited m
    → Draft v x b z keys ranks q s from k d → NewSerials (darts_in m) s from' n x k keys ranks r → r ≡ true
    → LabelsApart (column m 0) x (get_or m 2 0) k
drafted_apart m {x =
    x} {s = s} {from' = from'} {n = n} {k = k} site draft new e = serials_apart m x k site (serials_differ draft) (λ i h. not-true
    _
    (and_right (leb 1 (get_or x i 0)) _ (all_tab (λ i. leb 1 (get_or x i 0) && not (held (darts_in m) (get_or x i 0))) (λ i. i) k tests i h)))
  where
    tests : all (λ i. leb 1 (get_or x i 0) && not (held (darts_in m) (get_or x i 0))) (tab (λ i. i) k) ≡ true
    tests =
        and_right (all finite (points_in s from' n))
        (all (λ i. leb 1 (get_or x i 0) && not (held (darts_in m) (get_or x i 0))) (tab (λ i. i) k))
        (and_left
        (all finite (points_in s from' n) && all (λ i. leb 1 (get_or x i 0) && not (held (darts_in m) (get_or x i 0))) (tab (λ i. i) k))
        (distinct (take k x)) (sym new.is ∙ e))

module _ (m : List ℕ) (ok : holds_block m ≡ true) where
  steps_below : (k y : ℕ) → y < get_or m 2 0 → steps (column m 1) k y < get_or m 2 0
  steps_below zero y h = h
  steps_below (suc k) y h = steps_below k (column m 1 y) ((sited m ok).linked.next_within y h)

  -- AN ENTRY whose label the dart at place y has, with a face of n darts from index i on
  pub part2_is : (t : Transfer) (x : List ℕ) (e : Part2) (i n y : ℕ) (w : ℕ → ℕ) → face_from t e.index ≡ tab (λ j. get_or x (i + j) 0) n
      → labelled e.label (darts_in m) ≡ dart_in m y → y < get_or m 2 0 → n ≡ length (cycle (column m 1) y)
      → ((j : ℕ) → j < n → w j ≡ steps (column m 1) (n - j) y) → part2_links (block_in m).darts t e ≡ met_links (column m 0) x i n w
  unfolding part2_links
  part2_is t x e i n y w face found hy size met =
      ap (λ (d : Dart). sew_both (zip (face_from t e.index) (cycle (previous_in (darts_in m)) d.serial))) found
      ∙ ap (λ (f : List ℕ). sew_both (zip f (cycle (previous_in (darts_in m)) (column m 0 y)))) face
      ∙ ap (λ (g : List ℕ). sew_both (zip (tab (λ j. get_or x (i + j) 0) n) g))
      (met_face m ok y hy ∙ ap (λ (c : ℕ). tab (λ j. column m 0 (iter (column m 1) (c - j) y)) c) (sym size)
      ∙ tab_cong (λ j. column m 0 (iter (column m 1) (n - j) y)) (λ j. column m 0 (w j)) n
      (λ j h. ap (column m 0) (sym (met j h ∙ steps_iter (column m 1) (n - j) y))))
      ∙ sew_tab (λ j. get_or x (i + j) 0) (λ j. column m 0 (w j)) n

-- AN ARRAY that begins with what entries have
front_at : {A : Type 0} (f : A → ℕ) (d : A) (ms : List A) (l : List ℕ) (c : ℕ) → length ms ≡ c → take c l ≡ map f ms → (e : ℕ) → e < c → get_or l e 0 ≡ f (get_or ms e d)
front_at f d ms l c n eq e h = sym (get_or-take c l e 0 h) ∙ ap (λ (q : List ℕ). get_or q e 0) eq ∙ map_at f d 0 ms e (omega (arith, n, h))

front_count : {A : Type 0} (f : A → ℕ) (ms : List A) (l : List ℕ) (c : ℕ) → c ≤ length l → take c l ≡ map f ms → length ms ≡ c
front_count f ms l c n eq = sym (length-map ms f) ∙ ap length (sym eq) ∙ length-take-le c l n

both_start : (p : ℕ → Bool) (l r : List ℕ) → all p l ≡ true → all p r ≡ true → all p (l ++ r) ≡ true
both_start p l r a b = all_from p (l ++ r) (λ x h. ⊎_elim (λ (u : In x l). all_in p l a x u) (λ (u : In x r). all_in p r b x u) (append_in x l r h))

-- THE WHOLE TRANSFER
abbrev no_entry : Part2
no_entry = record { label = record { maker = 0; number = 0; position = 0 }; index = 0 }

module _ (m : List ℕ) (ok : holds_block m ≡ true) {t : Transfer} {v x b z s : List ℕ} {k from to : ℕ} {l : Tail} {codes indices kinds links : List ℕ} (a : Arrives t v x b z s k from to l)
    (told : CriticalTold t x b z k l codes indices kinds links) (right : indices_right t ≡ true) (few : k ≤ message_darts) (room2 : l.count2 ≤ length indices) where
  abbrev entry : ℕ → Part2
  entry e = get_or t.part2 e no_entry

  count_is : length t.part2 ≡ l.count2
  count_is = front_count index2 t.part2 indices l.count2 room2 told.indices_are

  entries_are : t.part2 ≡ tab entry l.count2
  entries_are = sym (tab_list no_entry t.part2 entry (λ p h. refl)) ∙ ap (tab entry) count_is

  index_is : (e : ℕ) → e < l.count2 → get_or indices e 0 ≡ (entry e).index
  index_is = front_at index2 no_entry t.part2 indices l.count2 count_is told.indices_are

  code_is : (e : ℕ) → e < l.count2 → get_or codes e 0 ≡ code (entry e).label
  code_is = front_at code2 no_entry t.part2 codes l.count2 count_is told.codes_are

  segs : Segments b z k
  segs = subst (Segments b z) (sym a.darts) (segments v x b z t.faces a.inside)

  fit : indices_fit b k (map index2 t.part2) (map index3 t.part3) (map index4 t.part4) ≡ true
  fit = ap (λ (d : ℕ). indices_fit b d (map index2 t.part2) (map index3 t.part3) (map index4 t.part4)) a.darts ∙ sym (indices_are t a.inside a.full) ∙ right

  fits2 : part_fits b k [] (take l.count2 indices) ≡ true
  fits2 =
      ap (part_fits b k []) told.indices_are
      ∙ and_left (part_fits b k [] (map index2 t.part2)) _
      (and_left (part_fits b k [] (map index2 t.part2) && part_fits b k (map index2 t.part2) (map index3 t.part3)) _ fit)

  starts_in : (others r : List ℕ) → part_fits b k others r ≡ true → all (starts_at b k) r ≡ true
  starts_in others r h = and_left (all (starts_at b k) r) _ (and_left (all (starts_at b k) r && ascending r) _ h)

  all_start : all (starts_at b k) told.starts ≡ true
  all_start = ap (all (starts_at b k)) told.starts_are ∙ both_start (starts_at b k) (map index3 t.part3) (map index4 t.part4)
      (starts_in (map index2 t.part2) (map index3 t.part3)
      (and_right (part_fits b k [] (map index2 t.part2)) _
      (and_left (part_fits b k [] (map index2 t.part2) && part_fits b k (map index2 t.part2) (map index3 t.part3)) _ fit)))
      (starts_in (map index2 t.part2 ++ map index3 t.part3) (map index4 t.part4)
      (and_right (part_fits b k [] (map index2 t.part2) && part_fits b k (map index2 t.part2) (map index3 t.part3)) _ fit))

  abbrev at : ℕ → ℕ
  at e = get_or indices e 0

  at_below : (e : ℕ) → e < l.count2 → at e < k
  at_below = below segs few [] indices l.count2 room2 fits2

  at_start : (e : ℕ) → e < l.count2 → get_or b (at e) 0 ≡ at e
  at_start = start segs few [] indices l.count2 room2 fits2

  face : (e : ℕ) → e < l.count2 → face_from t (entry e).index ≡ tab (λ j. get_or x (at e + j) 0) (get_or z (at e) 0)
  face e h = ap (face_from t) (sym (index_is e h)) ∙ face_is v x b z t a.inside a.full (at e) (let u = at_below e h in let d = a.darts in omega (arith, u, d)) (at_start e h)

  module _ {places : List ℕ} {w : ℕ → ℕ → ℕ} (met : Placing2 m codes indices places z l.count2 w) where
    labelled_there : (e : ℕ) → e < l.count2 → labelled (entry e).label (darts_in m) ≡ dart_in m (get_or places e 0)
    labelled_there e h = labelled_at (image_passed m ok) (entry e).label (get_or places e 0) (met.place_below e h) (met.is_critical e h) (met.code_is e h ∙ code_is e h)

    entry_is : (e : ℕ) → e < l.count2 → part2_links (block_in m).darts t (entry e) ≡ met_links (column m 0) x (at e) (get_or z (at e) 0) (w e)
    entry_is e h = part2_is m ok t x (entry e) (at e) (get_or z (at e) 0) (get_or places e 0) (w e) (face e h) (labelled_there e h) (met.place_below e h) (met.size_is e h) (λ j u. met.met_is e j h u)

    met_there : (e j : ℕ) → e < l.count2 → j < get_or z (at e) 0 → w e j ≡ iter (column m 1) (length (cycle (column m 1) (get_or places e 0)) - j) (get_or places e 0)
    met_there e j h u = met.met_is e j h u ∙ steps_iter (column m 1) (get_or z (at e) 0 - j) (get_or places e 0) ∙ ap (λ (c : ℕ). iter (column m 1) (c - j) (get_or places e 0)) (met.size_is e h)

    -- "on different faces": a yes exactly where no place is met twice
    pub met_once : part2_apart (block_in m).darts t.part2 ≡ true → MetOnce z indices l.count2 w
    met_once apart = record {
      once =
          λ d i e j hd hi he hj q. apart_differ (sited m ok) t.part2 entry (λ e. get_or places e 0) l.count2 entries_are
          met.place_below (λ e h. ap (λ (r : Dart). r.serial) (labelled_there e h)) apart d i e j
          hd (subst (λ (c : ℕ). i < c) (met.size_is d hd) hi) he (subst (λ (c : ℕ). j < c) (met.size_is e he) hj) (sym (met_there d i hd hi) ∙ q ∙ met_there e j he hj);
    }

    pub once_apart : MetOnce z indices l.count2 w → part2_apart (block_in m).darts t.part2 ≡ true
    once_apart r = differ_apart (sited m ok) t.part2 entry (λ e. get_or places e 0) l.count2 entries_are met.place_below (λ e h. ap (λ (r : Dart). r.serial) (labelled_there e h))
        (λ d i e j hd hi he hj q. let ui = subst (λ (c : ℕ). i < c) (sym (met.size_is d hd)) hi in let uj = subst
        (λ (c : ℕ). j < c) (sym (met.size_is e he)) hj in (r.once d i e j hd ui he uj
        (met_there d i hd ui ∙ q ∙ sym (met_there e j he uj))).0)

    meets : MetOnce z indices l.count2 w → Meets b z indices (get_or m 2 0) k l.count2 w
    meets o = record {
      segs = segs;
      index_below = at_below;
      starts_face = at_start;
      faces_differ = λ d e hd he q. one_place (ascending_tab at l.count2 (up segs few [] indices l.count2 room2 fits2)) hd he q;
      met_below = λ e j he hj. subst (λ (p : ℕ). p < get_or m 2 0) (sym (met.met_is e j he hj)) (steps_below m ok (get_or z (at e) 0 - j) (get_or places e 0) (met.place_below e he));
      met_differ = o.once;
    }

    links_are : transfer_links (block_in m).darts t ≡ concat_map (part2_links (block_in m).darts t) (tab entry l.count2) ++ concat_map (face_links (column m 0) x z kinds links) told.starts
    unfolding transfer_links
    links_are = two (ap (concat_map (part2_links (block_in m).darts t)) entries_are) (told.links_are (column m 0))
      where
        two : {c d e f : List Link} → c ≡ d → e ≡ f → c ++ e ≡ d ++ f
        two p q = rw (p, q) refl

    -- the words with part 2's put over those of parts 3 and 4 are the links of the transfer
    pub brought : {kinds' links' : List ℕ} → MetOnce z indices l.count2 w → LabelsApart (column m 0) x (get_or m 2 0) k → ((q : ℕ) → q < k → Kind (get_or kinds q 0) (get_or links q 0))
        → Faced z indices l.count2 (λ e j. 1) kinds kinds' → Faced z indices l.count2 w links links' → Linking m (get_or m 2 0) k x kinds' links' (transfer_links (block_in m).darts t)
    brought {kinds'} {links'} o serials kind_right kinds_put links_put =
        subst (Linking m (get_or m 2 0) k x kinds' links') (sym links_are)
        (linking (part2_links (block_in m).darts t) entry m sewing entry_is)
      where
        sewing : Sewing2 (column m 0) x b z indices told.starts kinds links kinds' links' (get_or m 2 0) k l.count2 w
        sewing = record {
          serials = serials;
          meets = meets o;
          before = record { kind_right = kind_right; all_start = all_start; kind_in = told.kind_in; kind_out = told.kind_out };
          kinds_put = kinds_put;
          links_put = links_put;
        }
