-- Part 2 of a transfer whose darts are drafted: what the test by arrays needs, and what it says. Assumes nothing.
use mathlib.Core.Path.{◌≡◌, refl, sym, ◌∙◌, ap}
use mathlib.Core.Bool.{Bool, true, false, ◌&&◌}
use mathlib.Core.List.{List, [], ◌++◌, map}
use Prim.Native.Nat.{ℕ, ◌+◌, ◌*◌, ◌≤◌, ◌<◌}
use native.Mathlib.Omega.{arith}
use lib.Dec.{eqb}
use lib.ListN.{length, get_or, take}
use lib.Seq.{get_or-take}
use borrow.Author.Tests.{eqb-true}
use Rattle.model.specs.Lists.{all, tab, zip}
use Rattle.model.specs.Values.{Dart, Point, finite, finite_bits, message_darts}
use Rattle.model.specs.Cells.{cycle, labelled, previous_in}
use Rattle.model.specs.Image.{count_in, column, dart_in, holds_block}
use Rattle.model.specs.Messages.{Transfer, size_all}
use Rattle.model.specs.Arrival.{face_from, part2_links, indices_right, part2_right, part2_apart}
use Rattle.model.specs.Links.{sew_both}
use Rattle.laws.proofs.Tests.{and_left, and_right}
use Rattle.laws.proofs.Tables.{all_tab, getD_tab, tab_cong, map_tab}
use Rattle.memory.specs.Point.{FiniteAt}
use Rattle.memory.specs.declared.record.Record.{Record}
use Rattle.columns.proofs.Question.{image_passed}
use Rattle.cells.proofs.Sited.{sited, darts_in}
use Rattle.inbox.specs.Inbox.{FacesIn, is_hollow, point_in, points_in}
use Rattle.ranking.specs.Ranks.{index_at}
use Rattle.arrival.specs.Draft.{Draft}
use Rattle.arrival.proofs.DraftLaws as drafts
use Rattle.parts.specs.Entries.{code2, index2, index3, index4}
use Rattle.parts.specs.Indices.{part_fits}
use Rattle.parts.specs.Locate.{Located}
use Rattle.parts.specs.Meets.{Meetable, met_at, meets_at, entry_right}
use Rattle.parts.specs.Sewing.{Sewable, Part2Told, face_size, passes_at}
use Rattle.parts.proofs.IndexLaws as indexed
use Rattle.parts.proofs.Assembled as assembled
use Rattle.parts.proofs.Backwards.{met_face}
use Rattle.parts.proofs.FaceStarts.{face_is}
use Rattle.parts.proofs.Meeting.{zip_tab}
use Rattle.parts.proofs.Trails.{met_is}
use Rattle.parts.proofs.PartTwo.{entry, entries_tab, entry_is, part2_told, three_yes, parts_of, passes_found}

-- a finite point by its words
finite_words : (m : List ℕ) (i : ℕ) (p : Point) → finite p ≡ true → column m 5 i ≡ p.x → column m 6 i ≡ p.y → column m 7 i ≡ p.z → FiniteAt m i
unfolding finite
finite_words m i p e ex ey ez =
    let two = and_left (finite_bits p.x && finite_bits p.y) _ e in
    record {
      on_x =
          ap finite_bits ex ∙ and_left (finite_bits p.x) _ two;
      on_y = ap finite_bits ey
          ∙ and_right (finite_bits p.x) _ two;
      on_z = ap finite_bits ez
          ∙ and_right (finite_bits p.x && finite_bits p.y) _ e;
    }

-- the met face by what each dart of a new face meets
met_tab : (m : List ℕ) (ok : holds_block m ≡ true) (y n : ℕ) → y < count_in m → n ≡ length (cycle (column m 1) y)
    → cycle (previous_in (darts_in m)) (column m 0 y) ≡ tab (λ j. column m 0 (met_at (cycle (column m 1) y) n j)) n
met_tab m ok y n hy e =
    met_face m ok y hy ∙ tab_cong _ _ (length (cycle (column m 1) y)) (λ j l. ap (column m 0) (sym (met_is (sited m ok).linked hy j l)))
    ∙ ap (λ (c : ℕ). tab (λ j. column m 0 (met_at (cycle (column m 1) y) c j)) c) (sym e)

same_size : (m d ranks : List ℕ) (from y at n : ℕ) → entry_right m d ranks from y at n ≡ true → eqb n (length (cycle (column m 1) y)) ≡ true
same_size m d ranks from y at n e = (three_yes (eqb (column m 3 y) (2 + 4 * from)) (eqb n (length (cycle (column m 1) y))) (all (meets_at m d ranks at n (cycle (column m 1) y)) (tab (λ j. j) n)) e).1

zipped : {f g f' g' : List ℕ} → f ≡ f' → g ≡ g' → zip f g ≡ zip f' g'
zipped p q = rw (p, q) refl

module _ {v x b z keys ranks q s : List ℕ} {at k : ℕ} {d : List ℕ} (w : Draft v x b z keys ranks q s at k d)
    (t : Transfer) (inside : FacesIn t.faces v x b z) (full : is_hollow t.faces ≡ false) (darts : k ≡ size_all t.faces)
    {p : ℕ} (points : t.points ≡ points_in s at p) (vertices : (i : ℕ) → i < k → get_or v i 0 < p)
    (m : List ℕ) (ok : holds_block m ≡ true) where
  new_finite : all finite t.points ≡ true → (i : ℕ) → i < k → FiniteAt d i
  unfolding points_in
  new_finite f i h =
      let o = vertices (index_at keys i) (w.ranked.index_below i h) in
      let row = w.drafted.rows i h in
      finite_words d i (point_in s (at + 24 * get_or v (index_at keys i) 0)) (all_tab finite (λ j. point_in s (at + 24 * j)) p (ap (all finite) (sym points) ∙ f) (get_or v (index_at keys i) 0) o)
      (ap (λ (r : Record). r.x) row) (ap (λ (r : Record). r.y) row) (ap (λ (r : Record). r.z) row)

  pub meetable : all finite t.points ≡ true → k ≤ length ranks → Meetable m (count_in m) d k ranks
  meetable f n = record {
    linked = (sited m ok).linked;
    finite = λ i h. finite_words m i _ ((image_passed m ok).finite_points i h) refl refl refl;
    draft_size = w.drafted.size;
    few = w.few;
    new_within = (drafts.links w).next_within;
    new_finite = new_finite f;
    ranks_size = n;
    rank_below = w.ranked.rank_below;
  }

  -- the indices of part 2 fit where those of all parts are right
  pub index_fits : (indices : List ℕ) → take (length t.part2) indices ≡ map index2 t.part2 → indices_right t ≡ true → part_fits b k [] (take (length t.part2) indices) ≡ true
  index_fits indices e r =
      let whole = sym (indexed.indices_are t inside full) ∙ r in
      let two = map index2 t.part2 in
      let three = map index3 t.part3 in
      let four = map index4 t.part4 in
      ap (part_fits b k []) e ∙ ap (λ (n : ℕ). part_fits b n [] two) darts
      ∙ and_left (part_fits b (size_all t.faces) [] two) (part_fits b (size_all t.faces) two three)
      (and_left (part_fits b (size_all t.faces) [] two && part_fits b (size_all t.faces) two three) (part_fits b (size_all t.faces) (two ++ three) four) whole)

  module _ (indices : List ℕ) (indices_are : take (length t.part2) indices ≡ map index2 t.part2)
      (long : length t.part2 ≤ length indices) (few : length t.part2 ≤ message_darts)
      (fits : part_fits b k [] (take (length t.part2) indices) ≡ true) where
    within : (e : ℕ) → e < length t.part2 → get_or indices e 0 + get_or z (get_or indices e 0) 0 ≤ k
    within e h =
        let below = assembled.below w.segs w.few [] indices (length t.part2) long fits e h in
        let start = assembled.start w.segs w.few [] indices (length t.part2) long fits e h in
        let r = w.segs.end_within (get_or indices e 0) below in omega (arith, start, r)

    pub sewable : {places : List ℕ} → Meetable m (count_in m) d k ranks → t.from ≤ 15 → k ≤ length z → length t.part2 ≤ length places
        → Sewable m d ranks z places indices (count_in m) k t.from (length t.part2)
    sewable o small nz np = record {
      beside = o;
      sender = small;
      few = few;
      sizes_size = nz;
      places_size = np;
      indices_size = long;
      spans = assembled.spans w.segs w.few [] indices (length t.part2) long fits;
    }

    index_of : (e : ℕ) → e < length t.part2 → (entry t e).index ≡ get_or indices e 0
    index_of e h =
        sym
        (sym (get_or-take (length t.part2) indices e 0 h)
        ∙ ap (λ (l : List ℕ). get_or l e 0)
        (indices_are ∙ ap (map index2) (entries_tab t) ∙ map_tab index2 (entry t) (length t.part2))
        ∙ getD_tab (λ e. index2 (entry t e)) (length t.part2) e 0 h)

    each_entry : (e y : ℕ) → e < length t.part2 → y < count_in m → labelled (entry t e).label (darts_in m) ≡ dart_in m y
        → part2_right (darts_in m) t (entry t e) ≡ entry_right m d ranks t.from y (get_or indices e 0) (face_size z indices e)
    each_entry e y h hy found =
        entry_is w t inside full darts points vertices m ok (entry t e) (get_or indices e 0) y (index_of e h)
        (assembled.below w.segs w.few [] indices (length t.part2) long fits e h)
        (assembled.start w.segs w.few [] indices (length t.part2) long fits e h) (within e h) hy found

    module _ {codes places kinds kinds' links links' : List ℕ} {r : Bool}
        (codes_are : take (length t.part2) codes ≡ map code2 t.part2)
        (located : Located m codes (length t.part2) (count_in m) places)
        (told : Part2Told m d ranks z places indices (count_in m) t.from (length t.part2) kinds kinds' links links' r) where
      -- the answer is the model's
      pub part2_answer : r ≡ (all (part2_right (darts_in m) t) t.part2 && part2_apart (darts_in m) t.part2)
      part2_answer = told.said ∙ part2_told m d ranks z codes places indices t ok codes_are located each_entry

      -- a yes leaves the model's links of each entry
      pub part2_linked : r ≡ true → (e : ℕ) → e < length t.part2
          → part2_links (darts_in m) t (entry t e) ≡ sew_both (tab (λ j. (get_or x (get_or indices e 0 + j) 0, column m 0 (get_or links' (get_or indices e 0 + j) 0))) (face_size z indices e))
      unfolding part2_links
      part2_linked u e h =
          let passed = all_tab (passes_at m d ranks z places indices (count_in m) t.from) (λ e. e) (length t.part2) (sym told.said ∙ u) e h in
          let found = passes_found m d ranks z codes places indices t ok codes_are located each_entry e h passed in
          let size =
          eqb-true (face_size z indices e) (length (cycle (column m 1) (get_or places e 0)))
          (same_size m d ranks t.from (get_or places e 0) (get_or indices e 0) (face_size z indices e)
          (parts_of m d ranks z codes places indices t ok codes_are located each_entry e passed).2)
          in
          ap sew_both
          (zipped
          (ap (face_from t) (index_of e h)
          ∙ face_is v x b z t inside full (get_or indices e 0)
          (let l = assembled.below w.segs w.few [] indices (length t.part2) long fits e h in omega (arith, l, darts))
          (assembled.start w.segs w.few [] indices (length t.part2) long fits e h))
          (ap (λ (h : Dart). cycle (previous_in (darts_in m)) h.serial) found.1 ∙ met_tab m ok (get_or places e 0) (face_size z indices e) found.0 size
          ∙ tab_cong _ _ (face_size z indices e) (λ j l. ap (column m 0) (sym ((told.links_are u).inside e h j l))))
          ∙ zip_tab (λ j. get_or x (get_or indices e 0 + j) 0) (λ j. column m 0 (get_or links' (get_or indices e 0 + j) 0)) (face_size z indices e))
